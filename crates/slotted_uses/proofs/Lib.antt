-- Counts of open symmetries, terms that handles stand for, and verdicts on two terms.
pub mod Standing
pub mod Judging
