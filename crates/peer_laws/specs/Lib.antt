pub mod Built
pub mod Shown
pub mod Facts
