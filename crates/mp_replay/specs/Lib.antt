pub mod Sessions
pub mod Ends
pub mod Program
pub mod KnownLaws
