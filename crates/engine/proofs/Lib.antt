pub mod Bitwise
pub mod Joined
pub mod Rounds
pub mod Keys
pub mod Turns
