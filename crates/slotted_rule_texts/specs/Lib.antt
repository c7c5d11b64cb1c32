-- What a text of a rule asks: the words that it is split at, names, conditions, and the parts of the code as these.
pub mod Parts
pub mod Names
pub mod Asked
pub mod Told
