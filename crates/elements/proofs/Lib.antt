pub mod RunLaws
pub mod RunGroups
pub mod Ways
