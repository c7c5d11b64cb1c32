pub mod Deciding
pub mod Chains
pub mod Tables
pub mod DecidingClaims
pub mod GroupClaims
