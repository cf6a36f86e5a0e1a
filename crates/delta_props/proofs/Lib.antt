pub mod Places
pub mod Masks
pub mod Judged
pub mod Putting
pub mod Few
