pub mod Prefixes
pub mod FirstLines
pub mod Pieces
