-- The standard: the header, the grammar of a body, the raster that it denotes or the rows that it fixes, and the stream of a
-- raster.
pub mod Header
pub mod Grammar
pub mod Refusal
pub mod Height
pub mod Coding
pub mod Consumed
pub mod Denotes
pub mod Fixed
pub mod Outcome
pub mod Jbg
-- The effects of public calls.
pub mod Fault
pub mod Change
pub mod Failures
pub mod Options
pub mod Info
pub mod Parts
pub mod Decode
pub mod DecodeRows
pub mod Outcomes
pub mod Stages
pub mod Lent
pub mod Phases
pub mod Pieces
pub mod Feeds
pub mod Repeats
pub mod Numbers
pub mod RowNumbers
pub mod MostBytes
pub mod RowImage
pub mod BestOffset
pub mod ToPbm
pub mod RowSink
pub mod RowSource
pub mod Encode
pub mod ToJbg
-- Laws.
pub mod Laws
-- The meaning of the states between calls.
pub mod States
-- Definitions that only serve the proofs.
pub mod Private
