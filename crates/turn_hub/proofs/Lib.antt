pub mod Boxes
pub mod History
pub mod Steps
pub mod Totals
pub mod Turns
