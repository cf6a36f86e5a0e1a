pub mod Journals
pub mod Stages
