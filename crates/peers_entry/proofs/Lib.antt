-- Sizes: what the type octet decides. Addresses: octets of an address. Records: one peer. Stored: a peer as it is stored.
-- SameAddress: what it is to have the same address. Unique: answers that say the same are equal.
pub mod Sizes
pub mod Addresses
pub mod Records
pub mod Stored
pub mod SameAddress
pub mod Unique
