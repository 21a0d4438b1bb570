-- Cases: what the call answers, case by case. Keeps: what adding gives and keeps. Unique: answers that say the same are equal.
pub mod Cases
pub mod Keeps
pub mod Unique
