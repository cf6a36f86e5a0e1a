pub mod Lists
pub mod Nodes
pub mod Numbers
pub mod Order
pub mod Examples
