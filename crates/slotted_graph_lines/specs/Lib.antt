-- Definitions of the parts.
pub mod DearProducts
pub mod LightLambdas
