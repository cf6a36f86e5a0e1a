pub mod TextLaws
pub mod ListLaws
pub mod EntryLaws
