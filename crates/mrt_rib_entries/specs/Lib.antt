-- Entries: many entries of a RIB body by one call.
pub mod Entries
