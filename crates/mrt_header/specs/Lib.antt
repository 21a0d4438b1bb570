-- Records: what the calls over headers and records return and leave.
pub mod Records
