-- Add: the definitions of the calls that open a body, and that add an entry at its end.
pub mod Add
