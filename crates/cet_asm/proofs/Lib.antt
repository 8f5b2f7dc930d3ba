mod MapLaws
pub mod LayoutLaws
pub mod FillingLaws
pub mod PassLaws
pub mod CheckLaws
pub mod SmallLaws
pub mod AnswerLaws
