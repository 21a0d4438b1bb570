-- KnownTypes, Reading, Framing, Writing: what the definitions of specs/ are in each of their cases, over plain numbers; each
-- return of the code cites one. RoundTrips: what is written is read back, and what is read is written back.
-- Unique: answers that say the same are equal.
pub mod KnownTypes
pub mod Reading
pub mod Framing
pub mod Writing
pub mod RoundTrips
pub mod Unique
