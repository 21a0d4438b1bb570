-- Find: a lookup.
pub mod Find
