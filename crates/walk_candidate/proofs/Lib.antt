-- Kept: what `ok` keeps of a result. Candidates: the test in each of its cases, and that the walk may rest on it. Bound: the bound that
-- never decides. Unique: answers that say the same are equal.
pub mod Kept
pub mod Candidates
pub mod Bound
pub mod Unique
