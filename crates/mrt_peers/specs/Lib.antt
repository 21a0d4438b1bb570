-- Given: what a lookup and an addition are asked. Find, Add: what those calls return and leave.
pub mod Given
pub mod Find
pub mod Add
