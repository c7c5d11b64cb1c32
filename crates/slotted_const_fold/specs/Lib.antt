pub mod ConstFold
pub mod FoldLaws
