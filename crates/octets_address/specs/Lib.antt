-- Address: an address in lent octets, and in sixteen of its own.
pub mod Address
