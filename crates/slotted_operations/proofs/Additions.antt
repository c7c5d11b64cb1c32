-- What adding nodes and terms leaves.
pub mod NodeAddition
pub mod NewClasses
pub mod FiledSubterms
pub mod Tables
pub mod TermAddition
pub mod TermSlots
pub mod NodeFillings
pub mod MissingNodes
pub mod GraphsWithNodes
pub mod IdStacks
pub mod TermNodes
pub mod TermLookUps
pub mod GraphsWithTerms
