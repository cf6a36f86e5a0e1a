pub mod PathLaws
pub mod PlaceLaws
pub mod RepeatLaws
pub mod SearchLaws
pub mod IndexLaws
pub mod SoundLaws
