-- Candidates: an offset beyond the stream, and one within it.
pub mod Candidates
