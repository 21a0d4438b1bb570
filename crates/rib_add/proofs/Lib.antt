-- Opened: what an opened body is, and that adding is opening and pushing. Unique: an answer is known by what it says.
pub mod Opened
pub mod Unique
