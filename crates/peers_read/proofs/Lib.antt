-- Loads: a body read into slots. Unique: answers that say the same are equal.
pub mod Loads
pub mod Unique
