pub mod Pocket
pub mod PocketLaws
pub mod Held
