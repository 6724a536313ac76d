pub mod KeyLaws
pub mod EntryLaws
pub mod FewLaws
