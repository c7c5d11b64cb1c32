-- What e-nodes of words and arguments are, how they are written and read back, and the laws of their language.
pub mod Arguments
pub mod Trees
pub mod Places
pub mod SymbolForms
pub mod SymbolLaws
pub mod SymbolBack
pub mod SymbolWritten
pub mod SymbolOrder
