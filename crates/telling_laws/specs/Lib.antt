pub mod Telling
pub mod Collecting
