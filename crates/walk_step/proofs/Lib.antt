-- Reading: what code has found, as the rules say it. Theorems: what a whole walk promises. Unique: answers that say the same are equal.
pub mod Reading
pub mod Theorems
pub mod Unique
