pub mod KindLaws
pub mod SkipLaws
pub mod StartLaws
