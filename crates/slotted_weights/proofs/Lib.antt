-- What stands at the place of a word, and what a new weight leaves.
pub mod Places
