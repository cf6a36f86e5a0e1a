pub mod Peer
pub mod Weight
