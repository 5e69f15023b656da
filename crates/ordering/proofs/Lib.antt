pub mod AxisLaws
pub mod Orders
pub mod StoredOrder
pub mod Walks
