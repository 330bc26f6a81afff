-- The laws; the proofs of functions stand in folders of their own. Assumes nothing.
pub mod ReaderLaws
pub mod FieldLaws
