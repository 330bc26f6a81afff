-- The proof, in the order of reading. Assumes nothing.
pub mod SettingLaws
pub mod WriteEnds
pub mod WriteLaws
pub mod OrderLaws
pub mod OrderExamples
