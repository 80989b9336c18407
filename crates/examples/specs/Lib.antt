pub mod Coder
pub mod Cut
pub mod Image
pub mod Line
pub mod Pieces
pub mod Kept
pub mod Rows
