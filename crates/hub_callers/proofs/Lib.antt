pub mod Allowing
pub mod Own
pub mod Shuffling
