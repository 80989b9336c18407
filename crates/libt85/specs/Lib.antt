-- The result of each call, and its effect on the caller's memory.
pub mod Delivered
pub mod Facts
pub mod Header
pub mod RawHeader
pub mod UnusedFields
pub mod SetHeight
pub mod Summary
pub mod Decoded
pub mod DecodedRows
pub mod Decoder
pub mod DecoderAgain
pub mod DecoderLimit
pub mod DecoderStart
pub mod DecoderRest
pub mod DecoderState
pub mod Encoded
pub mod Encoder
pub mod EncoderAbort
pub mod BestOffset
pub mod Choice
pub mod Bound
pub mod Message
pub mod Parts
pub mod Pbm
-- Laws: the meaning of status 0.
pub mod Laws
-- Definitions that only serve the proofs.
pub mod LinedSink
pub mod DecoderSteps
pub mod EncoderSteps
