-- The definition that contracts cite: a map as the list of its entries.
pub mod SmallMaps
