-- Layout: the octets of an entry. Push: the definition of the call that takes one entry. Rows: of the call that takes many. Steps: what
-- its helpers decide.
pub mod Layout
pub mod Push
pub mod Rows
pub mod Steps
