-- Dumps: the cases of `mrt_read_table_dump`.
pub mod Dumps
