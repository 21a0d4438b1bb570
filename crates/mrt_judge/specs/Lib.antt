-- Judged: what the calls that judge return and leave.
pub mod Judged
