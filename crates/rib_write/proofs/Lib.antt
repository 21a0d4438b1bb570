-- Sizes: how long an entry is. Written: what stores leave. Answers: one law for each answer of the calls. Standing: a builder that
-- stands. ByRows: rows that are pushed. Unique: an answer is known by what it says.
pub mod Sizes
pub mod Written
pub mod Answers
pub mod Unique
pub mod Standing
pub mod ByRows
