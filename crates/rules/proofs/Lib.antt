-- Asked: what rules answer over a stream. Meets: what every answer of a rule meets.
pub mod Asked
pub mod Meets
