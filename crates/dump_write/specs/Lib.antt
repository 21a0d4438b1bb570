-- Write: a whole body.
pub mod Write
