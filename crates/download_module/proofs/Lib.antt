pub mod SendLaws
pub mod StageLaws
pub mod TransferLaws
