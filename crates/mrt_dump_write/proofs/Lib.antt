-- Writes: the cases of `mrt_write_table_dump`.
pub mod Writes
