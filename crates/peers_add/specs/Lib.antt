-- Add: a peer added.
pub mod Add
