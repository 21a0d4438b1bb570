-- Rib: a whole body.
pub mod Rib
