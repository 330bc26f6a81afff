-- The laws, in the order of reading; the proofs of functions stand in folders of their own. Assumes nothing.
pub mod CoreParts
pub mod CoreIdle
pub mod CoreCycle
pub mod CoreEvents
pub mod CoreLaws
