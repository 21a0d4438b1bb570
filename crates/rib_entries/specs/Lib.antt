-- Entry: entries by number and by cursor. Steps: what the helpers hand on.
pub mod Entry
pub mod Steps
