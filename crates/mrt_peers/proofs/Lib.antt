-- Exports: what the calls over slots answer, from what the functions that they ask answer.
pub mod Exports
