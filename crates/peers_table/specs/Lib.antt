-- Table: the whole body.
pub mod Table
