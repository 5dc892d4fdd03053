pub mod Permutation
pub mod Bytes
pub mod Keys
pub mod KeyBytes
pub mod Turns
