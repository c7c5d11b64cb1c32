-- Lemmas of the signatures of operators.
pub mod Lists
pub mod KindNumbers
pub mod ReadingOrder
pub mod Examples
pub mod Uses
pub mod FirstMisuse
pub mod NearestWord
pub mod OwnExamples
