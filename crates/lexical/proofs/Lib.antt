pub mod PartLaws
pub mod QuoteLaws
pub mod TrimLaws
pub mod ValueLaws
pub mod WholeLaws
