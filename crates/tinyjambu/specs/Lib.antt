pub mod Mode
pub mod Duplex
pub mod Laws
pub mod History
pub mod Answers
pub mod Session
pub mod Message
pub mod Nonce
