-- Bodies: a whole body in each of its cases. Unique: an answer is known by what it says.
pub mod Bodies
pub mod Unique
