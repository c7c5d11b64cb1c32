-- Patterns and substitutions of a language as rules see them.
pub mod PatternCode
pub mod Variables
pub mod Values
pub mod NodeArguments
pub mod Inside
