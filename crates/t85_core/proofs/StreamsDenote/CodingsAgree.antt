-- Codings with the same first rows agree on all that they say of them.
use Rattle.std.proofs.Common.{◌≡◌, ℕ, zero, suc, ◌+◌, ◌-◌, ◌*◌, ◌/◌, ◌<◌, ◌≤◌, Bool, false, List, ◌++◌, length, map, refl, ◌∙◌, ap, arith, Option, None}
use Rattle.std.specs.Prelude.{slice_index_or, if◌then◌else◌, nat_lt, ◌==◌, flat_map, filter_map, min}
use Rattle.std.specs.List.{cons_option}
use Rattle.std.proofs.Math.Nat.{div-mul-le_self}
use Rattle.qm_core.specs.Place.{after, fresh}
use Rattle.raster_core.specs.Raster.{row_above, white_row}
use Rattle.raster_core.specs.Lines.{row_events, numbers_from}
use Rattle.t85_core.specs.Coding.{Coding, FlaggedRows, fresh_stripe, top_of, lines_of, moved_at, offset_of, last_or, previous_of, events_of_row, events_of, learned_at, place_of, begun, mode_of, move_of}
use Rattle.t85_core.specs.Header.{Fields}
use Rattle.t85_core.specs.Grammar.{Stripe}
use Rattle.t85_core.specs.Denotes.{coding_in}
use Rattle.t85_core.proofs.StreamsDenote.StateIsCarried.{top_le}

-- rows with their flags, as coded with these stripes
abbrev pub coding : Fields → List Stripe → FlaggedRows → Coding
coding h stripes x = coding_in h stripes x.flags x.rows

-- what stripe i says
abbrev pub move_at : List Stripe → ℕ → Option (ℕ × ℕ)
move_at stripes i = slice_index_or (map (λ s. move_of s.segments) stripes) i None

abbrev pub reset_at : List Stripe → ℕ → Bool
reset_at stripes i = slice_index_or (map (λ s. s.reset) stripes) i false

-- the first n rows have the same moves and resets
pub record SameStripes (h : Fields) (stripes stripes' : List Stripe) (n : ℕ) : Type 0 where
  pub moves_are : (i : ℕ) → i * h.l0 < n → move_at stripes i ≡ move_at stripes' i
  pub resets_are : (i : ℕ) → suc i * h.l0 < n → reset_at stripes i ≡ reset_at stripes' i

pub all_same : {h : Fields} {n : ℕ} (stripes : List Stripe) → SameStripes h stripes stripes n
all_same stripes = record { moves_are = λ _ _. refl; resets_are = λ _ _. refl }

-- the first n rows and their flags are the same
pub record Agree (h : Fields) (x y : FlaggedRows) (n : ℕ) : Type 0 where
  pub rows_are : (r : ℕ) → r < n → slice_index_or x.rows r (white_row h.xd) ≡ slice_index_or y.rows r (white_row h.xd)
  pub flags_are : (r : ℕ) → r < n → slice_index_or x.flags r false ≡ slice_index_or y.flags r false

pub agree_itself : {h : Fields} {n : ℕ} (x : FlaggedRows) → Agree h x x n
agree_itself x = record { rows_are = λ _ _. refl; flags_are = λ _ _. refl }

module _ {h : Fields} {stripes stripes' : List Stripe} {x y : FlaggedRows} {n : ℕ} (s : SameStripes h stripes stripes' n) (a : Agree h x y n) where
  abbrev c : Coding
  c = coding h stripes x

  abbrev d : Coding
  d = coding h stripes' y

  same_stripe : (i : ℕ) → i * h.l0 < n → fresh_stripe c i ≡ fresh_stripe d i
  same_stripe zero lt = refl
  same_stripe (suc i) lt =
      let before = same_stripe i (omega arith) in
      let reset = s.resets_are i lt in
      λ j. if reset j then suc i else before j

  stripe_below : (r : ℕ) → r < n → r / h.l0 * h.l0 < n
  stripe_below r lt = omega (arith, div-mul-le_self r h.l0)

  same_top : (r : ℕ) → r < n → top_of c r ≡ top_of d r
  same_top r lt = ap (λ t. t * h.l0) (same_stripe (r / h.l0) (stripe_below r lt))

  same_above : (r k : ℕ) → r < n → row_above c.raster (top_of c r) r k ≡ row_above d.raster (top_of d r) r k
  same_above r k lt =
      let top = same_top r lt in
      let row = a.rows_are (r - k) (omega arith) in
      λ j. if nat_lt r (top j + k) then white_row h.xd else row j

  pub same_lines : (r : ℕ) → r < n → lines_of c r ≡ lines_of d r
  same_lines r lt =
      let row = same_above r 0 lt in
      let above = same_above r 1 lt in
      let second = same_above r 2 lt in
      λ j. record { row = row j; above = above j; second = second j }

  same_moved : (r : ℕ) → r < n → moved_at c r ≡ moved_at d r
  same_moved r lt = rw (s.moves_are (r / h.l0) (stripe_below r lt)) refl

  same_moves_in : (t k : ℕ) → t + k ≤ n → filter_map (moved_at c) (numbers_from t k) ≡ filter_map (moved_at d) (numbers_from t k)
  same_moves_in t zero le = refl
  same_moves_in t (suc k) le =
      let first = same_moved t (omega arith) in
      let others = same_moves_in (t + 1) k (omega arith) in
      λ j. cons_option (first j) (others j)

  same_offset : (r : ℕ) → r < n → offset_of c r ≡ offset_of d r
  same_offset r lt =
      ap (λ t. last_or 0 (filter_map (moved_at c) (numbers_from t (r + 1 - t)))) (same_top r lt)
      ∙ ap (last_or 0) (same_moves_in (top_of d r) (r + 1 - top_of d r) (omega (arith, top_le d r)))

  same_previous : (r : ℕ) → r < n → previous_of c r ≡ previous_of d r
  same_previous r lt =
      let top = same_top r lt in
      let flag = a.flags_are (r - 1) (omega arith) in
      λ j. if top j == r then false else flag j

  -- what is coded for a row depends on the rows up to it
  pub same_events : (r : ℕ) → r < n → events_of_row c r ≡ events_of_row d r
  same_events r lt =
      let lines = same_lines r lt in
      let offset = same_offset r lt in
      let previous = same_previous r lt in
      let flag = a.flags_are r lt in
      λ j. row_events (mode_of h.options) (lines j) (offset j) (previous j) (flag j)

  pub same_events_in : (t k : ℕ) → t + k ≤ n → flat_map (events_of_row c) (numbers_from t k) ≡ flat_map (events_of_row d) (numbers_from t k)
  same_events_in t zero le = refl
  same_events_in t (suc k) le =
      let first = same_events t (omega arith) in
      let others = same_events_in (t + 1) k (omega arith) in
      λ j. first j ++ others j

  -- what is coded for a stripe that is whole below n, and what is learned before it
  module _ (long : n ≤ length x.rows) (long' : n ≤ length y.rows) where
    pub same_stripe_events : (i : ℕ) → suc i * h.l0 ≤ n → events_of c i ≡ events_of d i
    same_stripe_events i le =
        let here : min h.l0 (length x.rows - i * h.l0) ≡ h.l0 = omega arith in
        let there : h.l0 ≡ min h.l0 (length y.rows - i * h.l0) = omega arith in
        ap (λ k. flat_map (events_of_row c) (numbers_from (i * h.l0) k)) (here ∙ there)
        ∙ same_events_in (i * h.l0) (min h.l0 (length y.rows - i * h.l0)) (omega arith)

    pub same_learned : (i : ℕ) → i * h.l0 < n → learned_at c i ≡ learned_at d i
    same_learned zero lt = refl
    same_learned (suc i) lt =
        let before = same_learned i (omega arith) in
        let events = same_stripe_events i (omega arith) in
        let reset = s.resets_are i lt in
        λ j. if reset j then fresh else (after (begun (before j)) (events j)).learned

    -- the place to which a whole stripe leads depends on the rows up to its end
    pub same_place : 0 < h.l0 → (i : ℕ) → suc i * h.l0 ≤ n → place_of c i ≡ place_of d i
    same_place some i le =
        let learned = same_learned i (omega arith) in
        let events = same_stripe_events i le in
        λ j. (after (begun (learned j)) (events j)).place
