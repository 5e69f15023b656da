pub mod Fields
pub mod Letter
pub mod Origins
