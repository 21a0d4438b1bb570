-- Layouts: what a subtype decides. Heads: when a head can be read. Prefixes: masks and cleared octets. Difference: the age.
pub mod Layouts
pub mod Heads
pub mod Prefixes
pub mod Difference
