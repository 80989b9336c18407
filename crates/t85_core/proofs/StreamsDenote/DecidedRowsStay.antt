-- Decided rows stay so, however the stream continues.
use Rattle.std.proofs.Common.{◌≡◌, ℕ, zero, suc, ◌+◌, ◌-◌, ◌*◌, ◌<◌, ◌≤◌, ◌⊎◌, inl, inr, Bool, false, List, [], ◌∷◌, ◌++◌, length, map, take, drop, arith, refl, ap, ◌∙◌, sym, subst, None, length-append, append_assoc}
use Rattle.std.specs.Prelude.{slice_index_or, min}
use Rattle.std.proofs.lemmas.Bool.{cases_lt}
use Rattle.std.proofs.lemmas.List.{length-map}
use Rattle.std.proofs.Math.Nat.{mul-le-mul_right, lt_of_mul-lt-mul_right}
use Rattle.raster_core.specs.Raster.{Raster, white_row}
use Rattle.raster_core.specs.Lines.{IsLegalFlag}
use Rattle.raster_core.specs.Enough.{beginnings}
use Rattle.t85_core.specs.Coding.{Coding, FlaggedRows, flagged, events_of, learned_at, place_of, begun, HasLegalFlags, mode_of, move_of}
use Rattle.t85_core.specs.Header.{Fields, IsAccepted}
use Rattle.t85_core.specs.Grammar.{Segment, Stripe}
use Rattle.t85_core.specs.Denotes.{EachLies, DenotesAt}
use Rattle.t85_core.specs.Fixed.{AreDecided, AreEnoughFor, FixesRows, begun_stripes}
use Rattle.qm_core.specs.Place.{State, Event, IsPlace, after, step}
use Rattle.qm_core.specs.Code.{Lies, IsBytes, wanted_bytes, first_bytes}
use Rattle.t85_core.specs.Private.CoderLaws.{CoderLaws}
use Rattle.t85_core.proofs.BytesJoin.ListsGrow.{All-append}
use Rattle.t85_core.proofs.BytesJoin.ListsKeepElements.{all_left, same_list, split_at}
use Rattle.t85_core.proofs.StreamsDenote.CodingsAgree.{coding, SameStripes, agree_itself, same_lines, same_place, same_learned, same_events_in}
use Rattle.t85_core.proofs.StreamsDenote.CodesDecideStripes.{start_IsPlace, Lying, code_at, agree}
use Rattle.t85_core.proofs.StreamsDenote.RowsAreBuilt.{bytes_in_start, in_no_rows}
use Rattle.t85_core.proofs.StreamsDenote.RasterIsUnique.{lying_in}
use Rattle.t85_core.proofs.StreamsDenote.BodyFixesRows.{begun_length, AreLying}
use Rattle.t85_core.proofs.BodiesDecode.RunsGrow.{enough_more}
use Rattle.t85_core.proofs.StreamsDenote.LongestListIsDecided.{AllWithin, followed, lying_of, prefix_legal, prefix_lies}

-- ---- a code that goes on

-- a stripe that begins with these segments and this code, and then with more of its code
pub record Continued : Type 0 where
  pub stripes : List Stripe
  pub segments : List Segment
  pub code : List ℕ
  pub more : List ℕ
  pub bytes : IsBytes code
  pub others : IsBytes more

abbrev pub all_code : Continued → List ℕ
all_code g = g.code ++ g.more

abbrev pub short : Continued → List Stripe
short g = begun_stripes g.stripes g.segments g.code

abbrev pub long : Continued → List Stripe
long g = begun_stripes g.stripes g.segments (all_code g)

-- with its end, and with what comes after it
abbrev pub whole_stripe : Continued → Bool → Stripe
whole_stripe g reset = record { segments = g.segments; code = all_code g; reset = reset }

abbrev pub whole : Continued → Bool → List Stripe → List Stripe
whole g reset later = g.stripes ++ whole_stripe g reset ∷ later

all_bytes : (g : Continued) → IsBytes (all_code g)
all_bytes g = All-append (λ b. b < 256) g.code g.more g.bytes g.others

first_same : (c more : List ℕ) (k : ℕ) → k ≤ length c → first_bytes k c ≡ first_bytes k (c ++ more)
first_same c more zero le = refl
first_same [] more (suc k) le = absurd (omega arith)
first_same (b ∷ c) more (suc k) le = ap (λ u. b ∷ u) (first_same c more k (omega arith))

pub goes_on : (q : CoderLaws) (g : Continued) (events : List Event) (s : State) → IsPlace s.place → AllWithin (length g.code) (beginnings s events) →
    Lies g.code (after s events).place → Lies (all_code g) s.place → Lies (all_code g) (after s events).place
goes_on q g [] s p all lies there = there
goes_on q g (e ∷ events) s p all lies there =
    let z : State = step s e.context e.pixel in
    let next = q.pixel_keeps_place s e.context e.pixel p in
    let here = q.events_stay_inside events z g.code next lies in
    goes_on q g events z next all.1 lies
    (q.decided g.code (all_code g) s e.context e.pixel g.bytes (all_bytes g) (first_same g.code g.more (wanted_bytes s.place.doublings) all.0) here)

-- ---- lists with the same first stripes

same_before : {X : Type 0} (f : Stripe → X) (d : X) (xs ys zs : List Stripe) (i : ℕ) → i < length xs → slice_index_or (map f (xs ++ ys)) i d ≡ slice_index_or (map f (xs ++ zs)) i d
same_before f d [] ys zs i lt = absurd (omega arith)
same_before f d (x ∷ xs) ys zs zero lt = refl
same_before f d (x ∷ xs) ys zs (suc i) lt = same_before f d xs ys zs i (omega arith)

-- and with stripes behind those of which f says the same
module _ {X : Type 0} (f : Stripe → X) (d : X) {s t : Stripe} (same : f s ≡ f t) where
  same_first : (xs ys zs : List Stripe) (i : ℕ) → i < length xs + 1 → slice_index_or (map f (xs ++ s ∷ ys)) i d ≡ slice_index_or (map f (xs ++ t ∷ zs)) i d
  same_first [] ys zs zero lt = same
  same_first [] ys zs (suc i) lt = absurd (omega arith)
  same_first (x ∷ xs) ys zs zero lt = refl
  same_first (x ∷ xs) ys zs (suc i) lt = same_first xs ys zs i (omega arith)

  same_map : (xs : List Stripe) → map f (xs ++ s ∷ []) ≡ map f (xs ++ t ∷ [])
  same_map [] = ap (λ z. z ∷ []) same
  same_map (x ∷ xs) = ap (λ z. f x ∷ z) (same_map xs)

last_code : (xs : List Stripe) (segments : List Segment) (code : List ℕ) → code_at (begun_stripes xs segments code) (length xs) ≡ code
last_code [] segments code = refl
last_code (x ∷ xs) segments code = last_code xs segments code

module _ (q : CoderLaws) {h : Fields} (ok : IsAccepted h) (g : Continued) where
  abbrev n : ℕ
  n = length g.stripes

  same_coding : (x : FlaggedRows) → coding h (short g) x ≡ coding h (long g) x
  same_coding x =
      let moves = same_map (λ s. move_of s.segments) None refl g.stripes in
      let resets = same_map (λ s. s.reset) false refl g.stripes in
      λ j. record { raster = record { width = h.xd; rows = x.rows }; mode = mode_of h.options; stripe_rows = h.l0; moves = moves j; resets = resets j; flags = x.flags }

  in_short : (i : ℕ) → i ≤ n → i < length (map (λ s. s.code) (short g))
  in_short i le = omega (arith, le, length-map (short g) (λ s. s.code), begun_length g.stripes g.segments g.code)

  below : (i : ℕ) → i < length (map (λ s. s.code) (long g)) → i < n + 1
  below i lt = omega (arith, lt, length-map (long g) (λ s. s.code), begun_length g.stripes g.segments (all_code g))

  in_start : Lies (all_code g) Rattle.qm_core.specs.Place.start
  in_start = bytes_in_start (all_code g) (all_bytes g)

  -- a code that goes on still lies where the decided rows lead
  long_lies : {height : ℕ} {x : FlaggedRows} → AreDecided h height (short g) n g.code x → EachLies (coding h (long g) x) (map (λ s. s.code) (long g))
  long_lies {x} d i lt = went (cases_lt i n) where
    went : (i < n) ⊎ (n ≤ i) → Lies (code_at (long g) i) (place_of (coding h (long g) x) i)
    went (inl less) =
        let code = same_before (λ s. s.code) [] g.stripes (record { segments = g.segments; code = g.code; reset = false } ∷ []) (whole_stripe g false ∷ []) i less in
        subst (λ (z : List ℕ × Coding). Lies z.0 (place_of z.1 i)) (λ j. (code j, same_coding x j)) (d.lies i (in_short i (omega arith)))
    went (inr ge) =
        let here : n ≡ i = omega (arith, below i lt) in
        let c : Coding = coding h (short g) x in
        let lies = subst (λ u. Lies u (place_of c n)) (last_code g.stripes g.segments g.code) (d.lies n (in_short n (omega arith))) in
        let on = goes_on q g (events_of c n) (begun (learned_at c n)) start_IsPlace d.enough lies in_start in
        let code = sym (last_code g.stripes g.segments (all_code g)) in
        subst (λ j. Lies (code_at (long g) j) (place_of (coding h (long g) x) j)) here
        (subst (λ (z : List ℕ × Coding). Lies z.0 (place_of z.1 n)) (λ j. (code j, same_coding x j)) on)

  pub long_lying : {height : ℕ} {x : FlaggedRows} → AreDecided h height (short g) n g.code x → AreLying h (long g) n x
  long_lying {x} d = record { lying = record { wide = d.wide; legal = subst HasLegalFlags (same_coding x) d.legal; lies = long_lies d }; from = d.from; to = omega arith }

  -- what a code decides, it decides where it goes on
  pub decided_longer : {height : ℕ} {x : FlaggedRows} → AreDecided h height (short g) n g.code x → AreDecided h height (long g) n (all_code g) x
  decided_longer {x} d =
      let l = long_lying d in
      let c : Coding = coding h (short g) x in
      record {
        wide = d.wide;
        from = d.from;
        to = d.to;
        legal = l.lying.legal;
        lies = l.lying.lies;
        enough =
            subst (λ c. AreEnoughFor c n (length (all_code g))) (same_coding x)
            (enough_more (length g.code) (length (all_code g)) (begun (learned_at c n)) (events_of c n) (omega (arith, length-append g.code g.more)) d.enough);
      }

  -- ---- whole stripes, cut after as many rows

  module _ (reset : Bool) (later : List Stripe) where
    module _ (x : FlaggedRows) (rest : List (List Bool)) (from : n * h.l0 ≤ length x.rows) (to : length x.rows ≤ (n + 1) * h.l0) (all : Lying h (whole g reset later) (followed x rest)) where
      same_stripes : SameStripes h (whole g reset later) (long g) (length x.rows)
      same_stripes = record {
        moves_are = λ i lt.
            let less : i * h.l0 < (n + 1) * h.l0 = omega (arith, lt) in
            same_first (λ s. move_of s.segments) None refl g.stripes later [] i (lt_of_mul-lt-mul_right h.l0 less);
        resets_are = λ i lt.
            let less : suc i * h.l0 < (n + 1) * h.l0 = omega (arith, lt) in
            let k : suc i < n + 1 = lt_of_mul-lt-mul_right h.l0 less in
            same_before (λ s. s.reset) false g.stripes (whole_stripe g reset ∷ later) (whole_stripe g false ∷ []) i (omega arith);
      }

      cut_legal : HasLegalFlags (coding h (long g) x)
      cut_legal y lt =
          subst (λ u. IsLegalFlag (mode_of h.options) u (slice_index_or x.flags y false)) (same_lines same_stripes (agree_itself x) y lt) (prefix_legal h (whole g reset later) x rest all.legal y lt)

      cut_lies : EachLies (coding h (long g) x) (map (λ s. s.code) (long g))
      cut_lies i lt = went (cases_lt i n) (cases_lt (n * h.l0) (length x.rows)) where
        many : length (map (λ s. s.code) (whole g reset later)) ≡ n + suc (length later)
        many = length-map (whole g reset later) (λ s. s.code) ∙ length-append g.stripes (whole_stripe g reset ∷ later)

        before : i * h.l0 ≤ length x.rows
        before = let le : i ≤ n = omega (arith, below i lt) in omega (arith, mul-le-mul_right h.l0 le)

        first : Lies (code_at (long g) i) (place_of (coding h (whole g reset later) x) i)
        first = prefix_lies h (whole g reset later) x rest q i (code_at (long g) i) before
            (subst (λ u. Lies u (place_of (coding h (whole g reset later) (followed x rest)) i)) (same_first (λ s. s.code) [] refl g.stripes later [] i (below i lt))
            (all.lies i (omega (arith, below i lt, many))))

        went : (i < n) ⊎ (n ≤ i) → (n * h.l0 < length x.rows) ⊎ (length x.rows ≤ n * h.l0) → Lies (code_at (long g) i) (place_of (coding h (long g) x) i)
        went (inl less) k =
            let le : suc i * h.l0 ≤ n * h.l0 = mul-le-mul_right h.l0 less in
            subst (Lies (code_at (long g) i)) (same_place same_stripes (agree_itself x) (omega arith) (omega arith) ok.stripe_from i (omega arith)) first
        went (inr ge) (inl some) =
            let here : n ≡ i = omega (arith, below i lt) in
            let inside : i * h.l0 < length x.rows = subst (λ j. j * h.l0 < length x.rows) here some in
            let learned = same_learned same_stripes (agree_itself x) (omega arith) (omega arith) i inside in
            let events = same_events_in same_stripes (agree_itself x) (i * h.l0) (min h.l0 (length x.rows - i * h.l0)) (omega arith) in
            subst (Lies (code_at (long g) i)) (λ j. (after (begun (learned j)) (events j)).place) first
        went (inr ge) (inr none) =
            let here : n ≡ i = omega (arith, below i lt) in
            subst (λ j. Lies (code_at (long g) j) (place_of (coding h (long g) x) j)) here
            (subst (λ u. Lies u (place_of (coding h (long g) x) n)) (sym (last_code g.stripes g.segments (all_code g))) (in_no_rows (coding h (long g) x) n (all_bytes g) none))

    -- These rows are the first of all rows with which the stream goes on so.
    lying_first : {x y : FlaggedRows} → AreLying h (long g) n x → Lying h (whole g reset later) y → length x.rows ≤ length y.rows → take (length x.rows) y.rows ≡ x.rows
    lying_first {x} {y} d all many =
        let cut = split_at (length x.rows) y.rows many in
        let z : FlaggedRows = flagged (take (length x.rows) y.rows) y.flags in
        let rest : List (List Bool) = drop (length x.rows) y.rows in
        let there = subst (λ r. Lying h (whole g reset later) (flagged r y.flags)) (sym cut.0) all in
        let from : n * h.l0 ≤ length (take (length x.rows) y.rows) = omega arith in
        let to : length (take (length x.rows) y.rows) ≤ (n + 1) * h.l0 = omega arith in
        let lying : Lying h (long g) z = record { wide = all_left (λ row. length row ≡ h.xd) z.rows rest there.wide; legal = cut_legal z rest from to there; lies = cut_lies z rest from to there } in
        let a = agree q ok.stripe_from d.lying lying (length x.rows) (omega arith) (omega arith) (rw (begun_length g.stripes g.segments (all_code g)) d.to) in
        sym (same_list (white_row h.xd) x.rows z.rows (sym cut.1) a.rows_are)

    -- of a raster that the stream denotes
    pub lying_in_raster : {height : ℕ} {x : FlaggedRows} {body : List ℕ} {raster : Raster} → AreLying h (long g) n x → length x.rows ≤ height →
        (p : DenotesAt h height body raster) → p.parts.stripes ≡ whole g reset later → take (length x.rows) raster.rows ≡ x.rows
    lying_in_raster {raster} d to p e = lying_first d (subst (λ s. Lying h s (flagged raster.rows p.flags)) e (lying_in p)) (omega arith)

    pub decided_stays_at : {height : ℕ} {x : FlaggedRows} {body : List ℕ} {raster : Raster} → AreDecided h height (short g) n g.code x →
        (p : DenotesAt h height body raster) → p.parts.stripes ≡ whole g reset later → take (length x.rows) raster.rows ≡ x.rows
    decided_stays_at d p e = lying_in_raster (long_lying d) (omega arith) p e

  -- of rows that stripes after it decide
  pub lying_in_rows : (reset : Bool) (later : List Stripe) {height : ℕ} {x : FlaggedRows} {all : List Stripe} {segments : List Segment} {code : List ℕ} {rows : List (List Bool)} →
      AreLying h (long g) n x → FixesRows h height all segments code rows → all ≡ whole g reset later → take (length x.rows) rows ≡ x.rows
  lying_in_rows reset later {x} {all} {segments} {code} {rows} d f e =
      let s : Stripe = whole_stripe g reset in
      let behind : n + 1 ≤ length all = omega (arith, ap length e, length-append g.stripes (s ∷ later)) in
      let many : length x.rows ≤ length rows = omega (arith, mul-le-mul_right h.l0 behind) in
      let last : List Stripe = record { segments = segments; code = code; reset = false } ∷ [] in
      let stripes : begun_stripes all segments code ≡ whole g reset (later ++ last) = ap (λ z. z ++ last) e ∙ append_assoc g.stripes (s ∷ later) last in
      lying_first reset (later ++ last) d (subst (λ z. Lying h z (flagged rows f.flags)) stripes (lying_of f.decided)) many
