-- Reached: slots that the calls have filled. Run: entries of a RIB body added one after the other, and read back. Stream: records as
-- they are written, one after another, and what a walk over them answers. Made: runs of exported calls on one lent walk, and what they
-- show. Rows: records counted one after another.
pub mod Reached
pub mod Run
pub mod Stream
pub mod Made
pub mod Rows
