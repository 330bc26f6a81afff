-- The laws, in the order of reading; the proofs of functions stand in folders of their own. Assumes nothing.
pub mod HeaderLaws
pub mod FitLaws
pub mod RunLaws
pub mod ScriptLaws
