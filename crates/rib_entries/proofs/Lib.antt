-- Passing: entries that fit and entries that do not. Steps: what a cursor's step answers, and the entry i. Unique: an answer is known by
-- what it says.
pub mod Passing
pub mod Steps
pub mod Unique
