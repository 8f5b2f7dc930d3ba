mod Examples
pub mod ReaderLaws
pub mod Exact
pub mod ReadingLaws
pub mod ExactReading
pub mod Apart
pub mod DecodedLaws
pub mod OperandLaws
pub mod CanonicalLaws
pub mod CanonicalSpells
pub mod SpelledLaws
