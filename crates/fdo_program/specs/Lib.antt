pub mod OwnWord
pub mod OwnRun
