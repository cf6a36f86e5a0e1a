pub mod FirstFeed
pub mod Reading
pub mod Runs
