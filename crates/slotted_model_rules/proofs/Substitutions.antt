-- Substitution on terms, over ids, and what represents a body.
pub mod Substituting
pub mod Replacing
pub mod Renamed
pub mod ReplacedIds
pub mod Representing
