-- The laws, in the order of reading. Assumes nothing.
pub mod ChoiceLaws
pub mod CallEnds
pub mod FollowLaws
pub mod DeclinesLaws
pub mod CallsLaws
pub mod FillLaws
pub mod FilledMemory
pub mod ModesLaws
pub mod StateCallsLaws
pub mod TestCallsLaws
pub mod BytesCallsLaws
pub mod LatchLaws
pub mod ReadBackLaws
