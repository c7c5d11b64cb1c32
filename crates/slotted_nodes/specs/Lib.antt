-- What nodes are, how they are written and read back, and the laws of slots, children, binders and payloads.
pub mod Form
pub mod Public
pub mod Written
pub mod Joined
pub mod SmallForms
pub mod Equal
pub mod PairEqual
pub mod ReadFrom
pub mod Texts
pub mod TextLaws
pub mod Word
pub mod Identifier
pub mod ReadsBack
