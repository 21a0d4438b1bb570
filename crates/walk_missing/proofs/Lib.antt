-- Turns: the modular fact over the width. Rows: a peer table counted, and how much is told of a record. Unique: an answer is known by
-- what it says.
pub mod Turns
pub mod Rows
pub mod Unique
