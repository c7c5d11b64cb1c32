-- What is reported of a graph.
pub mod Checking
pub mod Measure
pub mod Nodes
