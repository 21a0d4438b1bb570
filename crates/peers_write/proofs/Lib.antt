-- Writes: slots written. Steps: what the helpers give, and what the call answers, case by case.
pub mod Writes
pub mod Steps
