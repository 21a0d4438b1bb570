-- Handing: what is left in lent places. Rows: values that are handed out row by row. Walks: a walk that is lent. Writing: what a
-- writer returns.
pub mod Handing
pub mod Rows
pub mod Walks
pub mod Writing
