-- Codes decide the rows and flags of their stripes, from the first on.
use Rattle.std.proofs.Common.{◌≡◌, ℕ, zero, suc, ◌+◌, ◌-◌, ◌*◌, ◌/◌, ◌<◌, ◌≤◌, ◌⊎◌, inl, inr, true, false, nat_lt, nat_eq, List, [], ◌∷◌, ◌++◌, length, map, arith, refl, ap, ◌∙◌, sym, subst}
use Rattle.std.specs.Prelude.{slice_index_or, if◌then◌else◌, min, flat_map, ◌==◌}
use Rattle.std.specs.List.{AllByRecursion}
use Rattle.std.proofs.lemmas.Bool.{lt-ltb, cases_lt}
use Rattle.std.proofs.lemmas.Bool.Decides.{nat_tests}
use Rattle.std.proofs.lemmas.List.{length-map}
use Rattle.std.proofs.Math.Nat.{div-mul-le_self, lt_of_mul-lt-mul_right}
use Rattle.raster_core.specs.Raster.{row_above, white_row}
use Rattle.raster_core.specs.Lines.{numbers_from}
use Rattle.t85_core.specs.Coding.{Coding, FlaggedRows, top_of, offset_of, previous_of, flag_of, events_of_row, learned_at, begun, HasLegalFlags, is_fresh, mode_of}
use Rattle.t85_core.specs.Header.{Fields}
use Rattle.t85_core.specs.Grammar.{Stripe}
use Rattle.t85_core.specs.Denotes.{EachLies}
use Rattle.t85_core.specs.States.Looked.{flag_before}
use Rattle.t85_core.proofs.StreamsDenote.StateIsCarried.{after_append, numbers_from_parts, top_le, row_here, above_long}
use Rattle.t85_core.proofs.StreamsDenote.CodingsAgree.{coding, Agree, all_same, same_events_in, same_stripe_events}
use Rattle.std.proofs.lemmas.Grind.{flat_map-append}
use Rattle.qm_core.specs.Place.{IsPlace, State, Event, after, fresh, start}
use Rattle.t85_core.specs.Private.CoderLaws.{CoderLaws}
use Rattle.t85_core.proofs.StreamsDenote.CodeDecidesRow.{Around, RowIn, one_row}
use Rattle.qm_core.specs.Code.{Lies}

pub start_IsPlace : IsPlace start
start_IsPlace = record { large = omega arith; small = omega arith; within = omega arith }

-- the events of a stripe, cut at a row
pub to_row : (c : Coding) (s : State) (first k r : ℕ) →
    after s (flat_map (events_of_row c) (numbers_from first (k + suc r)))
    ≡ after (after s (flat_map (events_of_row c) (numbers_from first k))) (events_of_row c (first + k) ++ flat_map (events_of_row c) (numbers_from (first + k + 1) r))
to_row c s first k r =
    ap (λ ys. after s (flat_map (events_of_row c) ys)) (numbers_from_parts first k (suc r))
    ∙ ap (after s) (flat_map-append (events_of_row c) (numbers_from first k) ((first + k) ∷ numbers_from (first + k + 1) r))
    ∙ after_append s (flat_map (events_of_row c) (numbers_from first k)) (events_of_row c (first + k) ++ flat_map (events_of_row c) (numbers_from (first + k + 1) r))

-- ---- codings with the same stripes and the same first rows

module _ {h : Fields} (stripes : List Stripe) {x y : FlaggedRows} {n : ℕ} (a : Agree h x y n) where
  abbrev c : Coding
  c = coding h stripes x

  abbrev d : Coding
  d = coding h stripes y

  pub learned_agrees : n ≤ length x.rows → n ≤ length y.rows → (i : ℕ) → i * h.l0 ≤ n → learned_at c i ≡ learned_at d i
  learned_agrees le le' zero part = refl
  learned_agrees le le' (suc i) part =
      let before = learned_agrees le le' i (omega arith) in
      let events = same_stripe_events (all_same stripes) a le le' i part in
      λ j. if is_fresh c (suc i) then fresh else (after (begun (before j)) (events j)).learned

  pub above_agrees : (top k : ℕ) → 1 ≤ k → row_above c.raster top n k ≡ row_above d.raster top n k
  above_agrees top k some = went (cases_lt n (top + k)) where
    went : (n < top + k) ⊎ (top + k ≤ n) → row_above c.raster top n k ≡ row_above d.raster top n k
    went (inl less) = rw (lt-ltb n (top + k) less)
    went (inr more) =
        let row = a.rows_are (n - k) (omega arith) in
        λ j. if nat_lt n (top + k) then white_row h.xd else row j

  pub previous_agrees : (t : ℕ) → t ≤ n → flag_before c t n ≡ flag_before d t n
  previous_agrees t le = went (cases_lt 0 n) where
    went : (0 < n) ⊎ (n ≤ 0) → flag_before c t n ≡ flag_before d t n
    went (inl some) =
        let flag = a.flags_are (n - 1) (omega arith) in
        λ j. if t == n then false else flag j
    went (inr none) =
        let top : nat_eq t n ≡ true = grind (arith, nat_tests) in
        rw top

-- ---- rows where codes lie

-- stripe i's code
abbrev pub code_at : List Stripe → ℕ → List ℕ
code_at stripes i = slice_index_or (map (λ s. s.code) stripes) i []

-- rows with legal flags, where each stripe's code lies
pub record Lying (h : Fields) (stripes : List Stripe) (x : FlaggedRows) : Type 0 where
  pub wide : AllByRecursion (λ row. length row ≡ h.xd) x.rows
  pub legal : HasLegalFlags (coding h stripes x)
  pub lies : EachLies (coding h stripes x) (map (λ s. s.code) stripes)

-- what row n is coded with
abbrev pub around : Coding → ℕ → Around
around c n = record { mode = c.mode; above = row_above c.raster (top_of c n) n 1; second = row_above c.raster (top_of c n) n 2; offset = offset_of c n; previous = previous_of c n }

-- the first row of row n's stripe, and the rows from there to row n
abbrev pub first_of : Coding → ℕ → ℕ
first_of c n = n / c.stripe_rows * c.stripe_rows

abbrev pub rows_to : Coding → ℕ → List ℕ
rows_to c n = numbers_from (first_of c n) (n - first_of c n)

-- the state before row n
abbrev pub state_at : Coding → ℕ → State
state_at c n = after (begun (learned_at c (n / c.stripe_rows))) (flat_map (events_of_row c) (rows_to c n))

-- a row more
up_to : (P : ℕ → Type 0) {n : ℕ} → ((r : ℕ) → r < n → P r) → P n → (r : ℕ) → r < suc n → P r
up_to P {n} below here r lt = went (cases_lt r n) where
  went : (r < n) ⊎ (n ≤ r) → P r
  went (inl less) = below r less
  went (inr more) = let same : n ≡ r = omega arith in subst P same here

pub state_IsPlace : CoderLaws → (c : Coding) (n : ℕ) → IsPlace (state_at c n).place
state_IsPlace q c n = q.events_keep_place (flat_map (events_of_row c) (rows_to c n)) (begun (learned_at c (n / c.stripe_rows))) start_IsPlace

module _ (q : CoderLaws) {h : Fields} {stripes : List Stripe} (some : 0 < h.l0) where
  -- row n, before some events
  row_in : {x : FlaggedRows} → Lying h stripes x → (n : ℕ) → n < length x.rows → n < length stripes * h.l0 →
      (more : List Event) × RowIn (around (coding h stripes x) n) h.xd (state_at (coding h stripes x) n) (code_at stripes (n / h.l0)) more
      (row_above (record { width = h.xd; rows = x.rows }) (top_of (coding h stripes x) n) n 0) (slice_index_or x.flags n false)
  row_in {x} lying n lt in_stripes =
      let c : Coding = coding h stripes x in
      let i : ℕ = n / h.l0 in
      let first : ℕ = n / h.l0 * h.l0 in
      let from : n / h.l0 * h.l0 ≤ n = div-mul-le_self n h.l0 in
      let to : n < n / h.l0 * h.l0 + h.l0 = omega arith in
      let r : ℕ = min h.l0 (length x.rows - n / h.l0 * h.l0) - (n - n / h.l0 * h.l0) - 1 in
      let all : min h.l0 (length x.rows - n / h.l0 * h.l0) ≡ (n - n / h.l0 * h.l0) + suc (min h.l0 (length x.rows - n / h.l0 * h.l0) - (n - n / h.l0 * h.l0) - 1) = omega arith in
      let at : n / h.l0 * h.l0 + (n - n / h.l0 * h.l0) ≡ n = omega arith in
      let less : n / h.l0 * h.l0 < length stripes * h.l0 = omega arith in
      let below : n / h.l0 < length stripes = lt_of_mul-lt-mul_right h.l0 less in
      let here : n / h.l0 < length (map (λ s. s.code) stripes) = omega (arith, length-map stripes (λ s. s.code)) in
      let learned : State = begun (learned_at c i) in
      let path : after learned (flat_map (events_of_row c) (numbers_from first (min h.l0 (length x.rows - first))))
      ≡ after (state_at c n) (events_of_row c n ++ flat_map (events_of_row c) (numbers_from (n + 1) r)) =
      ap (λ m. after learned (flat_map (events_of_row c) (numbers_from first m))) all ∙ to_row c learned first (n - first) r
      ∙ ap (λ z. after (state_at c n) (events_of_row c z ++ flat_map (events_of_row c) (numbers_from (z + 1) r))) at in (
        flat_map (events_of_row c) (numbers_from (n + 1) r),
        record {
          wide = above_long c.raster lying.wide (top_of c n) n 0;
          legal = lying.legal n lt;
          lies = subst (λ u. Lies (code_at stripes i) u.place) path (lying.lies i here);
        },
      )

  module _ {x y : FlaggedRows} (one : Lying h stripes x) (other : Lying h stripes y) where
    next_agrees : {n : ℕ} → Agree h x y n → n < length x.rows → n < length y.rows → n < length stripes * h.l0 →
        (slice_index_or x.rows n (white_row h.xd) ≡ slice_index_or y.rows n (white_row h.xd)) × (slice_index_or x.flags n false ≡ slice_index_or y.flags n false)
    next_agrees {n} a lt lt' in_stripes =
        let c : Coding = coding h stripes x in
        let d : Coding = coding h stripes y in
        let top : ℕ = top_of c n in
        let u = row_in one n lt in_stripes in
        let v = row_in other n lt' in_stripes in
        let from : n / h.l0 * h.l0 ≤ n = div-mul-le_self n h.l0 in
        let learned = learned_agrees stripes a (omega arith) (omega arith) (n / h.l0) from in
        let events = same_events_in (all_same stripes) a (n / h.l0 * h.l0) (n - n / h.l0 * h.l0) (omega arith) in
        let above = above_agrees stripes a top 1 (omega arith) in
        let second = above_agrees stripes a top 2 (omega arith) in
        let previous = previous_agrees stripes a top (top_le c n) in
        let around_is : around d n ≡ around c n = sym (λ j. record { mode = mode_of h.options; above = above j; second = second j; offset = offset_of c n; previous = previous j }) in
        let state_is : state_at d n ≡ state_at c n = sym (λ j. after (begun (learned j)) (events j)) in
        let w = subst (λ (z : Around × State). RowIn z.0 h.xd z.1 (code_at stripes (n / h.l0)) v.0 (row_above d.raster top n 0) (flag_of d n)) (λ j. (around_is j, state_is j)) v.1 in
        let same = one_row q (state_IsPlace q c n) u.1 w in
        (sym (row_here c.raster top n (top_le c n)) ∙ same.0 ∙ row_here d.raster top n (top_le d n), same.1)

    -- The rows that both have, as far as there are codes, are the same, and so are their flags.
    pub agree : (n : ℕ) → n ≤ length x.rows → n ≤ length y.rows → n ≤ length stripes * h.l0 → Agree h x y n
    agree zero le le' in_stripes = record { rows_are = λ r lt. absurd (omega arith); flags_are = λ r lt. absurd (omega arith) }
    agree (suc n) le le' in_stripes =
        let before = agree n (omega arith) (omega arith) (omega arith) in
        let here = next_agrees before (omega arith) (omega arith) (omega arith) in
        record {
          rows_are = up_to (λ r. slice_index_or x.rows r (white_row h.xd) ≡ slice_index_or y.rows r (white_row h.xd)) before.rows_are here.0;
          flags_are = up_to (λ r. slice_index_or x.flags r false ≡ slice_index_or y.flags r false) before.flags_are here.1;
        }
