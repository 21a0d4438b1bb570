-- Walks: a record that the call hands out.
pub mod Walks
