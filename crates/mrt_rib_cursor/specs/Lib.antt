-- Entries: what the calls return and leave.
pub mod Entries
