-- Lemmas of pictures.
pub mod Taken
