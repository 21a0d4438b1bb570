-- Layout: the octets of a head. Begin: a body with no entry.
pub mod Layout
pub mod Begin
