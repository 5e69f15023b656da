pub mod CodeLaws
pub mod DescribeLaws
pub mod DescribedLaws
pub mod DimLaws
pub mod FieldLaws
pub mod WordLaws
