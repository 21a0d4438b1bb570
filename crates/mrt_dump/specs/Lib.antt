-- Bodies: what the call that reads a TABLE_DUMP body returns and leaves.
pub mod Bodies
