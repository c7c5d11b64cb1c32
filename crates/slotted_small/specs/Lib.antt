-- The language Small with its laws.
pub mod Small
pub mod SmallSame
pub mod SmallRead
pub mod SmallBack
pub mod SmallWritten
pub mod SmallOrder
