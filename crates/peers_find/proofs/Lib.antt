-- Slots: what a lookup answers. Highest: what a lookup finds, said plainly. Unique: answers that say the same are equal.
pub mod Slots
pub mod Highest
pub mod Unique
