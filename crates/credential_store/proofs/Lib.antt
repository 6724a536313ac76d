pub mod BodyBack
pub mod OpenLaws
pub mod PartLaws
pub mod StoreLaws
