-- Begin: a body begun with a prefix that is lent.
pub mod Begin
