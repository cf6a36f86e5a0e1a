pub mod Sound
pub mod Pairs
pub mod Framed
pub mod Scripts
pub mod Steps
pub mod Stands
