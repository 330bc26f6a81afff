-- Each claim, proved. Assumes nothing.
pub mod ExamplesLogged
pub mod Proved
pub mod PartsProved
pub mod RequestsProved
pub mod BytesProved
pub mod TestModeProved
pub mod OrderProved
pub mod TableProved
