-- What the signatures of operators are, what they take, and which e-node of a pattern is used otherwise.
pub mod Kinds
pub mod Usage
pub mod Reading
pub mod Shown
pub mod UsedAsDeclared
pub mod Misused
pub mod Nearest
pub mod OwnExamples
