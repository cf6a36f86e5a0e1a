pub mod Told
pub mod Nested
