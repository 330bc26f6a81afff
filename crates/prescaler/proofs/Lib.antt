-- Examples and laws, in the order of reading; the proofs of functions stand in folders of their own. Assumes nothing.
pub mod PrescalerExamples
pub mod PrescalerLaws
pub mod PrescalerWidths
pub mod PrescalerLoadLaws
pub mod PrescalerChoices
