pub mod Tape
pub mod Judged
pub mod TapeLaws
pub mod TapeLife
pub mod Listing
