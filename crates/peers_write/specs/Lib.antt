-- Write: the slots written as a body. Steps: what the peers take.
pub mod Write
pub mod Steps
