-- Bodies: what the call that reads a RIB body returns and leaves.
pub mod Bodies
