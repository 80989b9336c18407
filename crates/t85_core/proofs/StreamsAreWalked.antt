-- Walks over a stream that decode nothing.
pub mod SegmentsAreChecked
pub mod EscapesAreTaken
pub mod StripeIsPassed
pub mod StripesAreSkipped
pub mod WalkLooksBehind
pub mod InfoEnds
pub mod SkippedPartsJoin
pub mod HeightIsFound
pub mod NumbersAreSummed
pub mod HeightSearchEnds
pub mod StripeBegins
pub mod PartsAreRead
pub mod PartsArePassed
pub mod PartsAreReturned
