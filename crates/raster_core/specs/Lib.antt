-- The standard: pixels, contexts, the events of a row, the choice of the offset, by our rule and by JBIG-KIT's.
pub mod Raster
pub mod Lines
pub mod Offset
pub mod Choice
pub mod Enough
-- The contracts of public functions.
pub mod Packed
pub mod Window
pub mod Tally
pub mod Counting
pub mod Events
pub mod Row
-- The representation in registers, words and bytes.
pub mod Machine
