-- How a text is split at a word, and what each part of a rule's text asks.
pub mod Splitting
pub mod Asking
