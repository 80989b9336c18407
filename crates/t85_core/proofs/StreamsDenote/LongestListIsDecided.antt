-- The longest list of rows that is decided.
use Rattle.std.proofs.Common.{◌≡◌, ℕ, zero, suc, ◌+◌, ◌-◌, ◌*◌, ◌<◌, ◌≤◌, ◌⊎◌, inl, inr, Bool, List, [], ◌∷◌, ◌++◌, length, map, take, drop, arith, refl, ap, ◌∙◌, sym, subst, append_assoc, length-append}
use Rattle.std.specs.Prelude.{slice_index_or, min, flat_map}
use Rattle.std.specs.List.{AllByRecursion}
use Rattle.std.proofs.lemmas.Bool.{cases_lt}
use Rattle.std.proofs.lemmas.List.{length-map}
use Rattle.std.proofs.Math.Nat.{mul-le-mul_right}
use Rattle.raster_core.specs.Raster.{white_row}
use Rattle.raster_core.specs.Lines.{numbers_from, IsLegalFlag}
use Rattle.t85_core.specs.Coding.{Coding, FlaggedRows, flagged, flag_of, events_of_row, events_of, learned_at, place_of, begun, HasLegalFlags, mode_of}
use Rattle.t85_core.specs.Header.{Fields, IsAccepted}
use Rattle.t85_core.specs.Grammar.{Stripe}
use Rattle.raster_core.specs.Enough.{beginnings}
use Rattle.t85_core.specs.Fixed.{AreEnoughFor, AreDecided, IsLongest}
use Rattle.t85_core.proofs.StreamsDenote.StateIsCarried.{after_append, numbers_from_parts}
use Rattle.t85_core.proofs.StreamsDenote.CodingsAgree.{coding, Agree, all_same, same_lines, same_events_in}
use Rattle.std.proofs.lemmas.Grind.{flat_map-append}
use Rattle.qm_core.specs.Place.{State, Event, after, step}
use Rattle.qm_core.specs.Code.{Lies, IsBytes, wanted_bytes}
use Rattle.t85_core.specs.Private.CoderLaws.{CoderLaws}
use Rattle.t85_core.proofs.StreamsDenote.CodesDecideStripes.{start_IsPlace, Lying, code_at, agree, learned_agrees}
use Rattle.t85_core.proofs.StreamsDenote.RowsAreBuilt.{Built, push, some_rows, one_more}
use Rattle.t85_core.proofs.BytesJoin.ListsKeepElements.{get_left, all_left, length-push, same_list, longer_is, split_at}

pub beginnings_append : (s : State) (xs ys : List Event) → beginnings s (xs ++ ys) ≡ beginnings s xs ++ beginnings (after s xs) ys
beginnings_append s [] ys = refl
beginnings_append s (x ∷ xs) ys = ap (λ u. s.place.doublings ∷ u) (beginnings_append (step s x.context x.pixel) xs ys)

abbrev pub AllWithin : ℕ → List ℕ → Type 0
AllWithin m ks = AllByRecursion (λ k. wanted_bytes k ≤ m) ks

all_or_not : (m : ℕ) (ks : List ℕ) → (AllWithin m ks) ⊎ (AllWithin m ks → ⊥)
all_or_not m [] = inl tt
all_or_not m (k ∷ ks) = went (cases_lt m (wanted_bytes k)) (all_or_not m ks) where
  went : (m < wanted_bytes k) ⊎ (wanted_bytes k ≤ m) → (AllWithin m ks) ⊎ (AllWithin m ks → ⊥) → (AllWithin m (k ∷ ks)) ⊎ (AllWithin m (k ∷ ks) → ⊥)
  went (inl less) q = inr (λ h. let here : wanted_bytes k ≤ m = h.0 in omega arith)
  went (inr more) (inl q) = inl (more, q)
  went (inr more) (inr q) = inr (λ h. q h.1)

-- stripe i, which all rows end in, in two codings with the same rows
last_agrees : {h : Fields} (stripes : List Stripe) {x y : FlaggedRows} → Agree h x y (length x.rows) → length x.rows ≡ length y.rows → (i m : ℕ) → i * h.l0 ≤ length x.rows →
    AreEnoughFor (coding h stripes x) i m → AreEnoughFor (coding h stripes y) i m
last_agrees {h} stripes {x} {y} a many i m from enough =
    let learned = learned_agrees stripes a (omega arith) (omega arith) i from in
    let events = same_events_in (all_same stripes) a (i * h.l0) (min h.l0 (length x.rows - i * h.l0)) (omega arith)
    ∙ ap (λ k. flat_map (events_of_row (coding h stripes y)) (numbers_from (i * h.l0) (min h.l0 (k - i * h.l0)))) many in
    subst (AllWithin m) (λ j. beginnings (begun (learned j)) (events j)) enough

-- ---- a beginning of what is decided is decided

-- with more rows behind
abbrev pub followed : FlaggedRows → List (List Bool) → FlaggedRows
followed x rest = flagged (x.rows ++ rest) x.flags

module _ (h : Fields) (stripes : List Stripe) (x : FlaggedRows) (rest : List (List Bool)) where
  abbrev c : Coding
  c = coding h stripes x

  abbrev d : Coding
  d = coding h stripes (followed x rest)

  prefix_agrees : Agree h x (followed x rest) (length x.rows)
  prefix_agrees = record { rows_are = λ y lt. sym (get_left x.rows rest y (white_row h.xd) lt); flags_are = λ y lt. refl }

  many : length (x.rows ++ rest) ≡ length x.rows + length rest
  many = length-append x.rows rest

  pub prefix_legal : HasLegalFlags d → HasLegalFlags c
  prefix_legal legal y lt = subst (λ u. IsLegalFlag (mode_of h.options) u (flag_of c y)) (sym (same_lines (all_same stripes) prefix_agrees y lt)) (legal y (omega (arith, many)))

  -- the events of the last stripe begin the same
  last_events : (i : ℕ) → i * h.l0 ≤ length x.rows → (ys : List Event) × (events_of d i ≡ events_of c i ++ ys)
  last_events i from =
      let first : ℕ = i * h.l0 in
      let m : ℕ = min h.l0 (length x.rows - i * h.l0) in
      let k : ℕ = min h.l0 (length (x.rows ++ rest) - i * h.l0) - min h.l0 (length x.rows - i * h.l0) in
      let parts : min h.l0 (length (x.rows ++ rest) - i * h.l0)
      ≡ min h.l0 (length x.rows - i * h.l0) + (min h.l0 (length (x.rows ++ rest) - i * h.l0) - min h.l0 (length x.rows - i * h.l0)) = omega (arith, many) in
      let ys : List Event = flat_map (events_of_row d) (numbers_from (first + m) k) in
      let same = same_events_in (all_same stripes) prefix_agrees first m (omega arith) in (
        ys,
        ap (λ z. flat_map (events_of_row d) (numbers_from first z)) parts ∙ ap (flat_map (events_of_row d)) (numbers_from_parts first m k)
            ∙ flat_map-append (events_of_row d) (numbers_from first m) (numbers_from (first + m) k) ∙ ap (λ es. es ++ ys) (sym same),
      )

  prefix_learned : (i : ℕ) → i * h.l0 ≤ length x.rows → learned_at d i ≡ learned_at c i
  prefix_learned i from = sym (learned_agrees stripes prefix_agrees (omega arith) (omega (arith, many)) i from)

  pub prefix_lies : CoderLaws → (i : ℕ) (code : List ℕ) → i * h.l0 ≤ length x.rows → Lies code (place_of d i) → Lies code (place_of c i)
  prefix_lies q i code from lies =
      let k = last_events i from in
      let learned = prefix_learned i from in
      let s : State = begun (learned_at c i) in
      let path = (λ j. after (begun (learned j)) (k.1 j)) ∙ after_append s (events_of c i) k.0 in
      q.events_stay_inside k.0 (after s (events_of c i)) code (q.events_keep_place (events_of c i) s start_IsPlace) (subst (λ z. Lies code z.place) path lies)

  pub prefix_enough : (i m : ℕ) → i * h.l0 ≤ length x.rows → AreEnoughFor d i m → AreEnoughFor c i m
  prefix_enough i m from enough =
      let k = last_events i from in
      let learned = prefix_learned i from in
      let s : State = begun (learned_at c i) in
      let path = (λ j. beginnings (begun (learned j)) (k.1 j)) ∙ beginnings_append s (events_of c i) k.0 in
      all_left (λ z. wanted_bytes z ≤ m) (beginnings s (events_of c i)) (beginnings (after s (events_of c i)) k.0) (subst (AllWithin m) path enough)

-- ---- what is decided

pub lying_of : {h : Fields} {height n : ℕ} {stripes : List Stripe} {code : List ℕ} {x : FlaggedRows} → AreDecided h height stripes n code x → Lying h stripes x
lying_of d = record { wide = d.wide; legal = d.legal; lies = d.lies }

-- the longest list of rows that is decided
pub record TheLongest (h : Fields) (height : ℕ) (stripes : List Stripe) (n : ℕ) (code : List ℕ) : Type 0 where
  pub coded : FlaggedRows
  pub decided : AreDecided h height stripes n code coded
  pub longest : IsLongest h height stripes n code coded.rows

module _ (q : CoderLaws) {h : Fields} {height : ℕ} (ok : IsAccepted h) {stripes : List Stripe} {n : ℕ} {code : List ℕ} (last : length stripes ≡ n + 1) where
  decided_prefix : (x : FlaggedRows) (rest : List (List Bool)) → n * h.l0 ≤ length x.rows → AreDecided h height stripes n code (followed x rest) → AreDecided h height stripes n code x
  decided_prefix x rest from d =
      let many = length-append x.rows rest in
      record {
        wide = all_left (λ row. length row ≡ h.xd) x.rows rest d.wide;
        from = from;
        to = omega arith;
        legal = prefix_legal h stripes x rest d.legal;
        lies = λ i lt.
            let le : i ≤ n = omega (arith, lt, last, length-map stripes (λ s. s.code)) in
            let up : i * h.l0 ≤ n * h.l0 = mul-le-mul_right h.l0 le in
            prefix_lies h stripes x rest q i (code_at stripes i) (omega arith) (d.lies i lt);
        enough = prefix_enough h stripes x rest n (length code) from d.enough;
      }

  pub decided_agree : {x y : FlaggedRows} → AreDecided h height stripes n code x → AreDecided h height stripes n code y → (m : ℕ) → m ≤ length x.rows → m ≤ length y.rows → Agree h x y m
  decided_agree d e m le le' = agree q ok.stripe_from (lying_of d) (lying_of e) m le le' (rw last (omega arith))

  not_longer : {x y : FlaggedRows} → AreDecided h height stripes n code x → AreDecided h height stripes n code y → IsLongest h height stripes n code x.rows → length x.rows < length y.rows → ⊥
  not_longer {x} {y} d e longest less =
      let a = decided_agree d e (length x.rows) (omega arith) (omega arith) in
      let k = longer_is (white_row h.xd) x.rows y.rows less a.rows_are in
      let whole : y.rows ≡ (x.rows ++ k.0 ∷ []) ++ k.1 = k.2 ∙ sym (append_assoc x.rows (k.0 ∷ []) k.1) in
      let one = length-push x.rows k.0 in
      longest y.flags k.0 (decided_prefix (flagged (x.rows ++ k.0 ∷ []) y.flags) k.1 (omega arith) (subst (λ z. AreDecided h height stripes n code (flagged z y.flags)) whole e))

  -- what is decided is at the front of the longest list
  pub decided_in_longest : {x y : FlaggedRows} → AreDecided h height stripes n code x → AreDecided h height stripes n code y → IsLongest h height stripes n code y.rows →
      take (length x.rows) y.rows ≡ x.rows
  decided_in_longest {x} {y} d e longest = went (cases_lt (length y.rows) (length x.rows)) where
    went : (length y.rows < length x.rows) ⊎ (length x.rows ≤ length y.rows) → take (length x.rows) y.rows ≡ x.rows
    went (inl less) = absurd (not_longer e d longest less)
    went (inr le) =
        let cut = split_at (length x.rows) y.rows le in
        let a = decided_agree d e (length x.rows) (omega arith) le in
        same_list (white_row h.xd) (take (length x.rows) y.rows) x.rows cut.1 (λ i lt.
        sym (get_left (take (length x.rows) y.rows) (drop (length x.rows) y.rows) i (white_row h.xd) lt) ∙ ap (λ z. slice_index_or z i (white_row h.xd)) cut.0
        ∙ sym (a.rows_are i (omega (arith, lt))))

  -- the longest list is the only one
  pub one_longest : {x y : FlaggedRows} → AreDecided h height stripes n code x → AreDecided h height stripes n code y →
      IsLongest h height stripes n code x.rows → IsLongest h height stripes n code y.rows → x.rows ≡ y.rows
  one_longest {x} {y} d e longest longest' = went (cases_lt (length x.rows) (length y.rows)) (cases_lt (length y.rows) (length x.rows)) where
    went : (length x.rows < length y.rows) ⊎ (length y.rows ≤ length x.rows) → (length y.rows < length x.rows) ⊎ (length x.rows ≤ length y.rows) → x.rows ≡ y.rows
    went (inl less) k = absurd (not_longer d e longest less)
    went (inr le) (inl less) = absurd (not_longer e d longest' less)
    went (inr le) (inr ge) = let a = decided_agree d e (length x.rows) (omega arith) ge in same_list (white_row h.xd) x.rows y.rows (omega arith) a.rows_are

  -- ---- there is one

  as_decided : {x : FlaggedRows} → Built h stripes x → n * h.l0 ≤ length x.rows → length x.rows ≤ min ((n + 1) * h.l0) height → AreEnoughFor (coding h stripes x) n (length code) →
      AreDecided h height stripes n code x
  as_decided b from to enough = record { wide = b.lying.wide; from = from; to = to; legal = b.lying.legal; lies = b.lying.lies; enough = enough }

  -- the next row that lies there is the only one that may be decided
  ends_here : (x : FlaggedRows) (row : List Bool) (flag : Bool) → Built h stripes (push x row flag) → n * h.l0 ≤ length x.rows →
      (AreEnoughFor (coding h stripes (push x row flag)) n (length code) → ⊥) → IsLongest h height stripes n code x.rows
  ends_here x row flag b from short more other d =
      let e = length-push x.rows row in
      let e' = length-push x.rows other in
      let a = agree q ok.stripe_from (lying_of d) b.lying (length (x.rows ++ other ∷ [])) (omega arith) (omega arith) (rw last (omega arith)) in
      short (last_agrees stripes a (e' ∙ sym e) n (length code) (omega arith) d.enough)

  module _ (bytes : AllByRecursion IsBytes (map (λ s. s.code) stripes)) where
    look : (fuel : ℕ) (x : FlaggedRows) → Built h stripes x → AreDecided h height stripes n code x → length x.rows + fuel ≡ min ((n + 1) * h.l0) height → TheLongest h height stripes n code
    look zero x b d full = record { coded = x; decided = d; longest = λ more row e. let one = length-push x.rows row in omega (arith, e.to) }
    look (suc fuel) x b d full =
        let o = one_more ok.stripe_from bytes q b (rw last (omega arith)) in
        let e = length-push x.rows o.row in
        let next : FlaggedRows = push x o.row o.flag in
        went o.row o.flag o.built (all_or_not (length code) (beginnings (begun (learned_at (coding h stripes next) n)) (events_of (coding h stripes next) n)))
        (λ still. look fuel next o.built (as_decided o.built (omega arith) (omega arith) still) (omega arith))
      where
        went : (row : List Bool) (flag : Bool) → Built h stripes (push x row flag) →
            (AreEnoughFor (coding h stripes (push x row flag)) n (length code)) ⊎ (AreEnoughFor (coding h stripes (push x row flag)) n (length code) → ⊥) →
            (AreEnoughFor (coding h stripes (push x row flag)) n (length code) → TheLongest h height stripes n code) → TheLongest h height stripes n code
        went row flag built (inl still) further = further still
        went row flag built (inr short) further = record { coded = x; decided = d; longest = ends_here x row flag built d.from short }

    pub some_longest : n * h.l0 < height → TheLongest h height stripes n code
    some_longest within =
        let r = some_rows ok.stripe_from bytes q (n * h.l0) (rw last (omega arith)) in
        let c : Coding = coding h stripes r.coded in
        let none : 0 ≡ min h.l0 (length r.coded.rows - n * h.l0) = omega arith in
        let enough = subst (λ k. AllWithin (length code) (beginnings (begun (learned_at c n)) (flat_map (events_of_row c) (numbers_from (n * h.l0) k)))) none tt in
        look (min ((n + 1) * h.l0) height - n * h.l0) r.coded r.built (as_decided r.built (omega arith) (omega arith) enough) (omega arith)
