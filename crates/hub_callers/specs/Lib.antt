pub mod Allowed
pub mod Entries
pub mod Examples
pub mod Serving
pub mod Shuffle
