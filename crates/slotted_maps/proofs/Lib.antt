-- What the functions cite of keys and values side by side.
pub mod SmallMapLaws
