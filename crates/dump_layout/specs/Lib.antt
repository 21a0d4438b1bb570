-- Layout: the fields of a body and its octets. Check: which bodies are carried.
pub mod Layout
pub mod Check
