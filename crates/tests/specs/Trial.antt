-- The job that the arguments of a trial specify.
use Rattle.std.specs.Prelude.{◌≡◌, ◌+◌, ◌-◌, ◌*◌, ◌&&◌, ℕ, List, [], ◌∷◌, ◌++◌, Option, Some, None, codes, if◌then◌else◌, nat_le}

-- the value of an upper-case hexadecimal digit
abbrev pub hex_digit : ℕ → Option ℕ
hex_digit c =
    if nat_le 48 c && nat_le c 57 then Some (c - 48)
    else if nat_le 65 c && nat_le c 70 then Some (c - 65 + 10)
    else None

-- a byte for each two digits; a last one alone is left out
abbrev pub paired : List ℕ → List ℕ
paired [] = []
paired (d ∷ []) = []
paired (h ∷ l ∷ ds) = (h * 16 + l) ∷ paired ds

-- how a run ends that reports just the text of this fault, or nothing where there is none
abbrev pub HasTold : List ℕ → Option (List ℕ) → ℕ → List ℕ → Type 0
HasTold program None status messages = (status ≡ 0) × (messages ≡ [])
HasTold program (Some text) status messages = (status ≡ 1) × (messages ≡ program ++ (codes ": " ++ (text ++ codes "\n")))
