-- How many bytes determine the events of a row.
use Rattle.std.specs.Prelude.{ℕ, ◌≤◌, List, [], ◌∷◌}
use Rattle.std.specs.List.{AllByRecursion}
use Rattle.qm_core.specs.Place.{State, Event, step}
use Rattle.qm_core.specs.Code.{wanted_bytes}

-- the number of doublings before each event
abbrev pub beginnings : State → List Event → List ℕ
beginnings s [] = []
beginnings s (e ∷ events) = s.place.doublings ∷ beginnings (step s e.context e.pixel) events

-- `count` bytes determine each of the events
abbrev pub AreEnough : ℕ → State → List Event → Type 0
AreEnough count s events = AllByRecursion (λ n. wanted_bytes n ≤ count) (beginnings s events)
