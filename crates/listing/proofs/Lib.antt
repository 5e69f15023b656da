pub mod DescriptionErrors
pub mod ErrorLaws
pub mod LineLaws
pub mod Listed
pub mod OneBlock
pub mod RowLaws
