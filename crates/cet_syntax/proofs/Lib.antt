pub mod TokenLaws
pub mod ListLaws
pub mod LineLaws
pub mod PartLaws
pub mod PartsLeft
pub mod SizeLaws
