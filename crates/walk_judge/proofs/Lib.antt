-- Bodies, Judging: what the definitions of specs/ are in each of their cases. Soundness: what the walk rests on. Unique: answers that say
-- the same are equal.
pub mod Bodies
pub mod Soundness
pub mod Judging
pub mod Unique
