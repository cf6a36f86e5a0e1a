pub mod Settings
pub mod Rising
