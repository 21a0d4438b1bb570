-- Turned: numbers that turn over at their width. Row: what is told of a record, and the counters after it.
pub mod Turned
pub mod Row
