-- Refusal: the numbers of refusals. Writing: what a writer answers and leaves.
pub mod Refusal
pub mod Writing
