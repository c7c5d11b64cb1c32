-- Weights of operators.
pub mod OperatorWeights
