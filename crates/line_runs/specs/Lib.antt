pub mod Judged
pub mod Limits
pub mod Output
pub mod Ends
pub mod Steps
