-- Kind: what a type decides. Read, Write, Frame: the definitions of the calls in src/ of the same names.
-- Back: what the round trips speak of.
pub mod Kind
pub mod Read
pub mod Write
pub mod Frame
pub mod Back
