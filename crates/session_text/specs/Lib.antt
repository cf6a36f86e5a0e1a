pub mod Json
pub mod Tokens
pub mod Values
pub mod Reasons
pub mod Outcomes
pub mod Reports
pub mod Decoded
pub mod Messages
