-- Checks: the check of a body in each of its cases. Fields: octets to fields and back, over the size of an address.
pub mod Checks
pub mod Fields
