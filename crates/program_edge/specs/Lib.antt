pub mod Causes
pub mod Pieces
pub mod Lines
pub mod Statuses
pub mod Memory
