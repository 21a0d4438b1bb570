-- Refusals: laws of refusal numbers. Writers: what a writer has to show.
pub mod Refusals
pub mod Writers
