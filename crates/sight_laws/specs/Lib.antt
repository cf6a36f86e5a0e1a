pub mod Sights
pub mod Seen
pub mod Told
pub mod Laws
