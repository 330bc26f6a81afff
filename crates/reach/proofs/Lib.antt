-- The proof, in the order of reading. Assumes nothing.
pub mod SequencersSound
pub mod Sound
pub mod CoreSound
pub mod ReadoutSound
pub mod TickSound
pub mod WriteSound
pub mod Never
