-- Addresses: the octets of an address, copied and held in sixteen.
pub mod Addresses
