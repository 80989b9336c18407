mod DigitsMakeBytes
mod LineIsWritten
