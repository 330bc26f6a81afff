-- The laws, in the order of reading; the proofs of functions stand in folders of their own. Assumes nothing.
pub mod TestLaws
pub mod BitsLaws
pub mod WidthLaws
pub mod BytesLaws
pub mod ListLaws
