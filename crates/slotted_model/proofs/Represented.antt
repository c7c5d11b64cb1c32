-- What applied ids represent: nodes over them, their terms and fillings, and look-ups of trees.
pub mod Children
pub mod Terms
pub mod Full
pub mod Unique
pub mod Ids
pub mod Growing
pub mod Fillings
pub mod FillingEquations
pub mod FilledNodes
pub mod Trees
pub mod LookUps
pub mod Folds
pub mod OtherFillings
pub mod RenamedIds
