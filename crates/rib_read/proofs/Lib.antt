-- Bodies: the whole body and its prefix. Unique: an answer is known by what it says.
pub mod Bodies
pub mod Unique
