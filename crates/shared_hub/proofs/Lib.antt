pub mod Sent
pub mod Stands
