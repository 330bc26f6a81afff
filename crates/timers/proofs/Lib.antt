-- Worked examples; the proofs of functions stand in folders of their own. Assumes nothing.
pub mod TimersExamples
pub mod TimersLaws
