-- What is computed, in the order of reading, and what sessions are. Assumes nothing.
pub mod Opened
pub mod Examples
pub mod BlindExamples
pub mod StateExamples
pub mod BytesExamples
pub mod TestExamples
pub mod FillExamples
pub mod Script
pub mod Misreadings
pub mod SessionsLaws
