-- The laws, in the order of reading; the proofs of functions stand in folders of their own. Assumes nothing.
pub mod MainExamples
pub mod MainMoves
pub mod MainLaws
pub mod MainWellFormed
pub mod SequencerChoices
