-- Build: what the calls over a builder return and leave.
pub mod Build
