-- Export: what every call that answers values returns and leaves. Records: the values of headers and records. Rows: values that
-- are handed out row by row. Walks: a walk that is lent. Writer: what a writer returns.
pub mod Export
pub mod Records
pub mod Rows
pub mod Walks
pub mod Writer
