pub mod DecidedTurns
pub mod Origins
pub mod LeastOfEqual
pub mod SaturatedMatches
