-- Used: which slots are in use.
pub mod Used
