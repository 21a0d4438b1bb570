-- Lengths: a table of rows, read by number. Messages: the marker as four numbers. Largest: the largest body that passes.
pub mod Lengths
pub mod Messages
pub mod Largest
