-- What the machine answers, what it holds as it runs, and how it reads names.
pub mod Machine
pub mod Index
pub mod Programs
pub mod Readings
pub mod MachineClaims
pub mod Views
pub mod Scratch
pub mod Answers
pub mod Choices
