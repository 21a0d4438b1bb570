-- Layout: what a subtype decides. Prefix: the bits after a prefix. Head: when a head can be read. Age: how old a route was.
pub mod Layout
pub mod Prefix
pub mod Head
pub mod Age
