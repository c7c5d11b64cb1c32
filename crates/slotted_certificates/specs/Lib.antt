-- What texts of terms say.
pub mod Scopes
pub mod Grammar
pub mod Frames
pub mod Meaning
pub mod Texts
pub mod Given
pub mod Distinct
pub mod Free
pub mod Substitution
pub mod Puts
pub mod Rules
pub mod Following
pub mod Turning
pub mod Comparing
pub mod Fronts
