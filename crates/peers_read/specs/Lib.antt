-- Load: a body read into slots.
pub mod Load
