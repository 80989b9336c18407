-- The meaning of a command's arguments, and the effect of a run.
pub mod Line
pub mod Options
pub mod Jbgtopbm85
pub mod Pbmtojbg85
pub mod Run
pub mod Message
pub mod Refused
