-- How places and children of arguments are found, and what writes leave.
pub mod Splitting
pub mod Found
pub mod Steps
pub mod SymbolReadsAgain
