-- Missing: a record counted with counters that are lent.
pub mod Missing
