-- Stored: what the stores of the fields leave. Answers: one law for each answer.
pub mod Stored
pub mod Answers
