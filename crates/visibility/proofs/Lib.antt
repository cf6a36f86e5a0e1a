pub mod Fronts
pub mod Rises
pub mod Kept
