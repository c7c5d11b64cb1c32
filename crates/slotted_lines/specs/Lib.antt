-- The words of the clauses of sessions.
pub mod States
pub mod Requests
pub mod Asked
pub mod Texts
pub mod RunsOver
pub mod AnsweredIn
pub mod Streams
