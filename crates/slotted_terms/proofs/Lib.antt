-- Lemmas on alpha-equality of expressions, and on reading texts.
pub mod TermTexts
pub mod PatternPrints
pub mod Alike
pub mod LargeNodes
pub mod SubtermSizes
pub mod AsTerms
pub mod TermPatterns
pub mod FlatTrees
pub mod OpenedPatterns
pub mod TermFolds
pub mod PairLists
pub mod ValidTexts
pub mod TermReadings
pub mod ReaderSteps
pub mod TermsReadAgain
