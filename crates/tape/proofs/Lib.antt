pub mod Orders
pub mod Tapes
pub mod Appends
pub mod TapeLives
pub mod Blanks
pub mod Listings
