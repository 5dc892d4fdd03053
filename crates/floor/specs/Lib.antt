pub mod Laid
pub mod Own
