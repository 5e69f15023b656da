pub mod CountingLaws
pub mod EdfKeys
pub mod EntryLaws
pub mod IdentitySteps
pub mod SizeLaws
pub mod SoughtLaws
pub mod VersionSteps
