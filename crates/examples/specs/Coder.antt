-- Pixels in contexts, and their code.
use Rattle.std.specs.Prelude.{ℕ, ◌≡◌, Bool, List, [], ◌∷◌}
use Rattle.qm_core.specs.declared.context.Context.{Context}
use Rattle.qm_core.specs.declared.source.Pulled.{Pulled}
use Rattle.qm_core.specs.declared.source.Pulled.TheVariants.{Byte, End}
use Rattle.qm_core.specs.Place.{Estimate, State, Event, start, after}
use Rattle.qm_core.specs.Code.{code_of, stuffed}

abbrev pub events : List Context → List Bool → List Event
events [] pixels = []
events (cx ∷ contexts) [] = []
events (cx ∷ contexts) (pixel ∷ pixels) = record { context = cx.number; pixel = pixel } ∷ events contexts pixels

-- the coding interval of pixels from the start of a code
abbrev pub end_of : List Estimate → List Context → List Bool → State
end_of learned contexts pixels = after (record { place = start; learned = learned }) (events contexts pixels)

-- the code of pixels, with stuffing
abbrev pub code_for : List Estimate → List Context → List Bool → List ℕ
code_for learned contexts pixels = stuffed (code_of (end_of learned contexts pixels).place)

-- The first byte of a code, or its absence; and the rest of the code, with stuffing.
abbrev pub IsNext : List ℕ → Pulled → List ℕ → Type 0
IsNext [] answer left = (answer ≡ End) × (left ≡ [])
IsNext (b ∷ code) answer left = (answer ≡ Byte b) × (left ≡ stuffed code)

-- for a code that has this stuffed form
abbrev pub Unstuffs : List ℕ → Pulled → List ℕ → Type 0
Unstuffs held answer left = (code : List ℕ) → held ≡ stuffed code → IsNext code answer left
