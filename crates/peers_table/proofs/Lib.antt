-- Tables: where the peers end, and the check case by case. Unique: answers that say the same are equal.
pub mod Tables
pub mod Unique
