-- Judged: what is found at an offset. Step: one call. Promises: what the answers of a whole walk promise. Evidence: its numbers.
pub mod Judged
pub mod Step
pub mod Promises
pub mod Evidence
