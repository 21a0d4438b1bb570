-- Body: the body check by type. Record: the judgement of one record.
pub mod Body
pub mod Record
