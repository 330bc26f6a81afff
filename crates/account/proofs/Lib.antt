-- The laws, in the order of reading. Assumes nothing.
pub mod Invariant
pub mod WriteLaw
pub mod TickLaw
pub mod HeldLaw
pub mod Theorem
pub mod OwedLaw
pub mod OwedExamples
