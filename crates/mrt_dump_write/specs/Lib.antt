-- Write: a body written with addresses that are lent.
pub mod Write
