-- How a line of a session is read, and what its answer says.
pub mod Lines
pub mod Knowing
pub mod ReadTexts
pub mod Telling
pub mod Running
pub mod Reading
