pub mod DigitLemmas
pub mod NumberLaws
