pub mod ClaimsBack
pub mod Rows
pub mod RvBack
pub mod PayloadsBack
pub mod RedirectBack
