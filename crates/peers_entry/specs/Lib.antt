-- Peer: one peer.
pub mod Peer
