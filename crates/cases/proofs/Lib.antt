-- Table: the worked cases hold.
pub mod Table
