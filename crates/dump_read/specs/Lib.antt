-- Read: a whole body.
pub mod Read
