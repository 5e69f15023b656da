pub mod CheckLaws
pub mod FileLaws
pub mod HeaderLaws
