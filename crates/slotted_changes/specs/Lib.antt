-- Where two terms differ, and what marks that place in their texts.
pub mod Changes
pub mod Steps
