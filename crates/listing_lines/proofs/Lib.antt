-- Texts: texts written one after the other. Lines: the lines of a walk's answers. Bodies: records and walks lie in their stream.
-- Room: how long a listing can be. Whole: a listing shows every answer, up to the end.
pub mod Texts
pub mod Lines
pub mod Bodies
pub mod Room
pub mod Whole
