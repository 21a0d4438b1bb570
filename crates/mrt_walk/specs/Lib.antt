-- Next: one call of the walk.
pub mod Next
