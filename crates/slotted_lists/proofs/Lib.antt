-- Lists, members, maps, options, booleans, results and texts.
pub mod Lists
pub mod Contained
pub mod Members
pub mod Each
pub mod Booleans
pub mod Options
pub mod Results
pub mod Maps
pub mod Splitting
