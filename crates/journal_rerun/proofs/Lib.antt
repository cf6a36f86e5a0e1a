pub mod GivenOps
pub mod Happened
pub mod Stages
