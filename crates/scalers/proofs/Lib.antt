-- The laws. Assumes nothing.
pub mod ScalersLaws
