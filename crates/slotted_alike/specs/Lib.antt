-- Nodes side by side, and how large they are.
pub mod Frames
