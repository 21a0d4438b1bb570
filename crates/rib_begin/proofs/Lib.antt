-- Sizes: how long a head is. Written: what stores leave. Answers: what the call answers.
pub mod Sizes
pub mod Written
pub mod Answers
