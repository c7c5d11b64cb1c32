-- Ids of a graph: valid and full ones, their missing names, and their canonical nodes and terms.
pub mod CanonicalTerms
pub mod ValidIds
pub mod FilledNames
pub mod FullIds
pub mod MissingNames
pub mod NodesOfIds
pub mod NodeCounts
pub mod TermsOfIds
pub mod FreshBinders
