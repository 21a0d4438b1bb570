-- Exports: what the call over slots answers, from what the functions that it asks answer.
pub mod Exports
