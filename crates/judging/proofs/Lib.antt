pub mod BlockSteps
pub mod FirstLaws
pub mod LengthLaws
