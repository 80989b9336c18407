-- How rows are coded: the meaning of registers, words and bytes.
pub mod Registers
pub mod Words
pub mod Lanes
pub mod Uniform
pub mod Bytes
pub mod Rows
pub mod Decoded
pub mod DecodedLanes
pub mod Places
pub mod Continues
