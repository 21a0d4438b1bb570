-- Sound: what the walk rests on, of any judgement. Rows: rows of candidates, and the least offset. Calls: what one call is by its
-- cases. Tries: the try at a record's own end. Whole: what a whole walk promises. Determined: that this leaves one list of
-- answers. Turns: one turn of each loop, for code. Unique: an evidence is known by its number.
pub mod Sound
pub mod Rows
pub mod Calls
pub mod Tries
pub mod Whole
pub mod Determined
pub mod Turns
pub mod Unique
