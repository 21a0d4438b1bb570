-- Records: many records of a walk by one call.
pub mod Records
