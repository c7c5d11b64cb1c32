-- Lemmas on patterns of a language, their variables and their values.
pub mod Rows
pub mod Sizes
pub mod Values
pub mod Whole
pub mod Parts
pub mod FirstInside
pub mod Questions
pub mod TermCodes
pub mod OutlineCodes
pub mod EachVariable
pub mod KnownVariables
pub mod NodeArguments
