pub mod AllLaws
pub mod CutLaws
pub mod PackLaws
pub mod PlaceLaws
pub mod ShippedLaws
pub mod PackedLaws
