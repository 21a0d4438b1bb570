-- Candidate: the test of the scan.
pub mod Candidate
