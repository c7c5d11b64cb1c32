-- What was said of the term of a handle, said of the term of its text.
pub mod Deriving
