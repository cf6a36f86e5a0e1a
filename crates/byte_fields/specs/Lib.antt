pub mod Fields
pub mod Complement
