-- Counts: how many slots are in use. AsStored: slots whose peers are as they are stored.
pub mod Counts
pub mod AsStored
