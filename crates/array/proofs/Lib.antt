pub mod DeliveryLaws
pub mod Main
pub mod Pieces
pub mod PixelLaws
pub mod PixelValues
pub mod ReadLaws
