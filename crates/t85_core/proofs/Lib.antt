pub mod BytesJoin
pub mod BodiesParse
pub mod StreamsDenote
pub mod StreamsAreWalked
pub mod BodiesDecode
pub mod ImagesEncode
