-- The devices that get the bytes of a stream whose rows are passed one by one.
use Rattle.std.specs.Prelude.{ℕ, ◌≡◌, List, [], ◌++◌, Option}
use Rattle.std.specs.Io.KnownBytes.{Appends}

-- The bytes of a stream that went to other devices, and the contents of the current device before it got the next byte.
pub record Origin : Type 0 where
  pub gone : List ℕ
  pub text : Option (List ℕ)

-- A device that gets a stream from its first byte.
abbrev pub here : Option (List ℕ) → Origin
here text = record { gone = []; text = text }

-- A device that gets the bytes after these.
abbrev pub behind : List ℕ → Option (List ℕ) → Origin
behind bytes text = record { gone = bytes; text = text }

-- These are the bytes of the stream so far.
pub record Sends (origin : Origin) (text : Option (List ℕ)) (bytes : List ℕ) : Type 0 where
  pub more : List ℕ
  pub appended : Appends origin.text text more
  pub all : bytes ≡ origin.gone ++ more

-- The bytes of the stream so far are a prefix of these.
pub record SendsBeginning (origin : Origin) (text : Option (List ℕ)) (bytes : List ℕ) : Type 0 where
  pub front : List ℕ
  pub rest : List ℕ
  pub text_is : bytes ≡ front ++ rest
  pub sends : Sends origin text front
