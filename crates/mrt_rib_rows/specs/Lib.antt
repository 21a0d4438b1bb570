-- Rows: what the call over a builder and rows returns and leaves.
pub mod Rows
