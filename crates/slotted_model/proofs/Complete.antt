-- Completeness: at rest equal terms are found alike, and graphs of the same terms agree.
pub mod Marks
pub mod LookedUpTrees
pub mod CanonicalValues
pub mod Spreading
pub mod Agreement
pub mod LookUpsAreEqual
pub mod Meeting
pub mod AtRest
pub mod Corresponding
pub mod SameCounts
pub mod HoldingTrees
