pub mod Takes
pub mod Puts
pub mod Fields
