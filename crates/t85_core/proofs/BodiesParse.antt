-- The grammar of a body has one reading, one fault and one height.
pub mod BodyHasOneReading
pub mod BodyHasOneHeight
pub mod FaultsAreLimited
pub mod StreamHasOneReading
pub mod RestHasPiece
pub mod BodyParsesOrBreaks
pub mod HeightExists
