-- Lemmas about bytes and lists.
pub mod CallsJoin
pub mod WalkEnds
pub mod ListsGrow
pub mod DigitsAreWritten
pub mod BytesAreKnown
pub mod CodesAreStuffed
pub mod SegmentsGiveHeights
pub mod InputHoldsBytes
pub mod ListsKeepElements
pub mod OutputHoldsBytes
pub mod BytesAreSent
