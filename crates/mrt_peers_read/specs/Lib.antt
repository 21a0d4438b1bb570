-- Tables: the values of a checked table. Load: what reading into slots returns and leaves.
pub mod Tables
pub mod Load
