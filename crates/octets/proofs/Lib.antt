-- Numbers: reading and writing big-endian numbers. Stores: what stores leave in lent octets. Parts: parts of a list.
-- Ones: octets that are all 255. Words: octets that are taken one by one, and the octets of a number.
pub mod Numbers
pub mod Stores
pub mod Parts
pub mod Ones
pub mod Words
