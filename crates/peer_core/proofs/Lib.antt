pub mod Taken
pub mod Distinct
pub mod SpawnProps
pub mod Encodable
pub mod SoundRead
pub mod ToldEntries
pub mod AtFirst
