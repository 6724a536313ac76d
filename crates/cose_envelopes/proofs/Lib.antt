pub mod HeaderLaws
pub mod Names
pub mod OpenLaws
pub mod ReadLaws
pub mod SealLaws
pub mod WriteLaws
