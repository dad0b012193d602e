pub mod Cuts
pub mod Names
pub mod TermCuts
pub mod Standing
pub mod Tops
pub mod Below
pub mod Samples
