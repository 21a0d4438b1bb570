-- Scans: where a scan ends. Unique: answers that say the same are equal.
pub mod Scans
pub mod Unique
