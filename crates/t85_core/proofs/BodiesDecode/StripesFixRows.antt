-- Whole stripes and the rows of one that breaks, as a decoder ran through them, are what a broken body fixes.
use Rattle.std.proofs.Common.{◌≡◌, ℕ, suc, ◌+◌, ◌-◌, ◌*◌, ◌<◌, ◌≤◌, ◌⊎◌, inl, inr, Bool, false, List, [], ◌∷◌, ◌++◌, length, map, refl, sym, ◌∙◌, ap, subst, arith, Option, None, length-append, append-nil}
use Rattle.std.specs.Prelude.{slice_index_or, flat_map, min}
use Rattle.std.specs.List.{AllByRecursion}
use Rattle.std.proofs.lemmas.Bool.{cases_lt}
use Rattle.std.proofs.Math.Nat.{mul-le-mul_right}
use Rattle.std.proofs.lemmas.Grind.{flat_map-append}
use Rattle.std.proofs.lemmas.List.{length-map}
use Rattle.qm_core.specs.Place.{State, Event, after}
use Rattle.qm_core.specs.Code.{Lies, wanted_bytes}
use Rattle.raster_core.specs.Raster.{white_row}
use Rattle.raster_core.specs.Lines.{Mode, numbers_from, IsLegalFlag}
use Rattle.raster_core.specs.Enough.{beginnings, AreEnough}
use Rattle.t85_core.specs.declared.fault.Fault.{Fault}
use Rattle.t85_core.specs.Header.{Fields, IsAccepted}
use Rattle.t85_core.specs.Grammar.{Segment, Stripe, stripe_bytes, stripe_count, all_segments, GiveOnly}
use Rattle.t85_core.specs.Refusal.{StripeFault, spot_after}
use Rattle.t85_core.specs.Coding.{Coding, FlaggedRows, fresh_stripe, lines_of, flag_of, events_of_row, learned_at, place_of, begun, mode_of, move_of, flagged}
use Rattle.t85_core.specs.Denotes.{coding_in}
use Rattle.t85_core.specs.Fixed.{AreDecided, IsLongest, Fixes, begun_stripes}
use Rattle.t85_core.specs.States.State.{RowStart, StripeStart, first_row_start, image_start, lines_with, Run, StripesRun, row_coding, stripe_coding}
use Rattle.t85_core.specs.States.Cut.{events_with, RunEnough, open_stripe}
use Rattle.t85_core.specs.Private.Cut.{NoneDecided, BegunRun, FrontRun}
use Rattle.t85_core.specs.Private.CoderLaws.{CoderLaws}
use Rattle.t85_core.proofs.BytesJoin.ListsGrow.{All-append}
use Rattle.t85_core.proofs.StreamsDenote.CodingsAgree.{coding, Agree, all_same, same_events_in}
use Rattle.t85_core.proofs.BytesJoin.ListsKeepElements.{Continues, continues_all, continues_left, continues_right, get_left, get_here, all_right, length-push, map_push}
use Rattle.t85_core.proofs.StreamsDenote.StateIsCarried.{one_row_more, numbers_from_last, fresh_le}
use Rattle.t85_core.proofs.StreamsDenote.CodesDecideStripes.{learned_agrees, above_agrees, previous_agrees}
use Rattle.t85_core.proofs.StreamsDenote.LongestListIsDecided.{beginnings_append, decided_agree}
use Rattle.t85_core.proofs.StreamsDenote.BodyFixesRows.{begun_length, begins_within, AreLying}
use Rattle.t85_core.specs.States.Looked.{CarryAt}
use Rattle.t85_core.proofs.StreamsDenote.StateIsLookedUp.{CarriedAt, RowAt, RowsAt, Ran, stripe_begins, first_row, first_flag, next_rows, rows_run, row_is_coded, row_lines}
use Rattle.t85_core.proofs.BodiesDecode.StripesFollow.{run_wide, run_flags, AllFollowed, stripes_follow}
use Rattle.t85_core.proofs.BodiesDecode.StripesDenoteRaster.{run_many, stripes_wide, stripes_whole, begins_at}

pub enough_append : (count : ℕ) (s : State) (xs ys : List Event) → AreEnough count s xs → AreEnough count (after s xs) ys → AreEnough count s (xs ++ ys)
enough_append count s xs ys a b =
    subst (AllByRecursion (λ n. wanted_bytes n ≤ count)) (sym (beginnings_append s xs ys))
    (All-append (λ n. wanted_bytes n ≤ count) (beginnings s xs) (beginnings (after s xs) ys) a b)

pub enough_rest : (count : ℕ) (s : State) (xs ys : List Event) → AreEnough count s (xs ++ ys) → AreEnough count (after s xs) ys
enough_rest count s xs ys h =
    all_right (λ n. wanted_bytes n ≤ count) (beginnings s xs) (beginnings (after s xs) ys)
    (subst (AllByRecursion (λ n. wanted_bytes n ≤ count)) (beginnings_append s xs ys) h)

-- the events of a stripe's rows, with a row more
rows_more : (c : Coding) (first k : ℕ) → flat_map (events_of_row c) (numbers_from first (suc k)) ≡ flat_map (events_of_row c) (numbers_from first k) ++ (events_of_row c (first + k) ++ [])
rows_more c first k = ap (flat_map (events_of_row c)) (numbers_from_last first k) ∙ flat_map-append (events_of_row c) (numbers_from first k) ((first + k) ∷ [])

module _ (c : Coding) (i : ℕ) where
  abbrev to_row : ℕ → List Event
  to_row r = flat_map (events_of_row c) (numbers_from (i * c.stripe_rows) r)

  -- rows that are decided one by one are decided together
  rows_enough : {move : Option (ℕ × ℕ)} (count : ℕ) (last : RowStart) (rows : List (List Bool)) (flags : List Bool) {r y : ℕ} {b : RowStart} → RowsAt c i r y move b rows flags →
      Run (row_coding c.raster.width c.mode move) r b rows flags last → RunEnough count (row_coding c.raster.width c.mode move) r b rows flags →
      AreEnough count (begun (learned_at c i)) (to_row r) → AreEnough count (begun (learned_at c i)) (to_row (r + length rows))
  rows_enough count last [] [] {r} a run enough so_far = let r0 : r ≡ r + 0 = omega arith in subst (λ z. AreEnough count (begun (learned_at c i)) (to_row z)) r0 so_far
  rows_enough count last [] (flag ∷ flags) a run enough so_far = absurd run
  rows_enough count last (row ∷ rows) [] a run enough so_far = absurd run
  rows_enough {move} count last (row ∷ rows) (flag ∷ flags) {r} {y} {b} a run enough so_far =
      let one : suc r ≡ r + 1 = omega arith in
      let coded : events_with c.mode move r b row flag ≡ events_of_row c (i * c.stripe_rows + r) ++ [] =
      row_is_coded (first_row a) (first_flag a) ∙ ap (events_of_row c) a.y_is ∙ sym (append-nil (events_of_row c (i * c.stripe_rows + r))) in
      let here : AreEnough count (after (begun (learned_at c i)) (to_row r)) (events_of_row c (i * c.stripe_rows + r) ++ []) =
      subst (AreEnough count (after (begun (learned_at c i)) (to_row r))) coded (subst (λ s. AreEnough count s (events_with c.mode move r b row flag)) a.carried.state enough.0) in
      let more : AreEnough count (begun (learned_at c i)) (to_row (r + 1)) =
      subst (λ z. AreEnough count (begun (learned_at c i)) (to_row z)) one
      (subst (AreEnough count (begun (learned_at c i))) (sym (rows_more c (i * c.stripe_rows) r))
      (enough_append count (begun (learned_at c i)) (to_row r) (events_of_row c (i * c.stripe_rows + r) ++ []) so_far here)) in
      let rs : (r + 1) + length rows ≡ r + suc (length rows) = omega arith in
      subst (λ z. AreEnough count (begun (learned_at c i)) (to_row z)) rs (rows_enough count last rows flags (next_rows a) run.1 enough.1 more)

-- what is carried to a row is the same in every coding that agrees up to it
carried_agrees : {h : Fields} (stripes : List Stripe) {x y : FlaggedRows} {n : ℕ} → Agree h x y n → {b : RowStart} (i r : ℕ) → n ≡ i * h.l0 + r → n ≤ length x.rows → n ≤ length y.rows →
    CarriedAt (coding h stripes x) i r n b → CarriedAt (coding h stripes y) i r n b
carried_agrees {h} stripes {x} {n} a i r n_is le le' k =
    let top : ℕ = fresh_stripe (coding h stripes x) i * h.l0 in
    let up : fresh_stripe (coding h stripes x) i * h.l0 ≤ i * h.l0 = mul-le-mul_right h.l0 (fresh_le (coding h stripes x) i) in
    let learned = learned_agrees stripes a le le' i (omega (arith, n_is)) in
    let events = same_events_in (all_same stripes) a (i * h.l0) r (omega (arith, n_is)) in
    record {
      state = k.state ∙ (λ j. after (begun (learned j)) (events j));
      offset = k.offset;
      previous = k.previous ∙ previous_agrees stripes a top (omega (arith, up, n_is));
      above = k.above ∙ above_agrees stripes a top 1 (omega arith);
      second = k.second ∙ above_agrees stripes a top 2 (omega arith);
    }

-- whole stripes that were run through, and then a stripe of which first rows were
module _ (h : Fields) (height : ℕ) (ok : IsAccepted h) (stripes : List Stripe) (segments : List Segment) (code : List ℕ) (first more : List (List Bool)) (first_flags more_flags : List Bool)
    (mid : StripeStart)
    (fewer : length stripes < stripe_count height h.l0) (run : StripesRun h height (image_start h.xd) stripes (flagged first first_flags) mid)
    (begins : FrontRun (open_stripe h mid segments) (min (height - length stripes * h.l0) h.l0) code more more_flags) where
  abbrev all : List Stripe
  all = begun_stripes stripes segments code

  abbrev n : ℕ
  n = length stripes

  abbrev rows : List (List Bool)
  rows = first ++ more

  abbrev flags : List Bool
  flags = first_flags ++ more_flags

  abbrev whole : Coding
  whole = coding_in h all flags rows

  abbrev mode : Mode
  mode = mode_of h.options

  abbrev move : Option (ℕ × ℕ)
  move = move_of segments

  room : length stripes * h.l0 < height
  room = begins_within height h.l0 (length stripes) ok.stripe_from fewer

  -- the whole stripes have all their rows
  first_many : length first ≡ length stripes * h.l0
  first_many = let m = run_many h height (image_start h.xd) stripes first first_flags mid run in omega (arith, m, room)

  all_many : length (first ++ more) ≡ length stripes * h.l0 + length more
  all_many = let e = length-append first more in omega (arith, e, first_many)

  flags_many : length first_flags ≡ length stripes * h.l0
  flags_many = ap (λ x. x) (stripes_flags h height (image_start h.xd) stripes first first_flags mid run) ∙ first_many where
    stripes_flags : (h : Fields) (left : ℕ) (b : StripeStart) (todo : List Stripe) (rows : List (List Bool)) (flags : List Bool) (next : StripeStart) →
        StripesRun h left b todo (flagged rows flags) next → length flags ≡ length rows
    stripes_flags h left b [] rows flags next r = ap length r.1 ∙ sym (ap length r.0)
    stripes_flags h left b (s ∷ todo) rows flags next r =
        let others = stripes_flags h (left - h.l0) r.4 todo r.1 r.3 next r.8 in
        let here = run_flags (stripe_coding h s.segments) 0 (first_row_start b) r.0 r.2 r.7.last r.7.run in
        let e = ap length r.5 ∙ length-append r.0 r.1 in
        let f = ap length r.6 ∙ length-append r.2 r.3 in
        omega (arith, others, here, e, f)

  moves_are : map (λ (s : Stripe). move_of s.segments) all ≡ map (λ (s : Stripe). move_of s.segments) stripes ++ move ∷ []
  moves_are = map_push (λ (s : Stripe). move_of s.segments) stripes (record { segments = segments; code = code; reset = false }) []

  resets_are : map (λ (s : Stripe). s.reset) all ≡ map (λ (s : Stripe). s.reset) stripes ++ false ∷ []
  resets_are = map_push (λ (s : Stripe). s.reset) stripes (record { segments = segments; code = code; reset = false }) []

  codes_are : map (λ (s : Stripe). s.code) all ≡ map (λ (s : Stripe). s.code) stripes ++ code ∷ []
  codes_are = map_push (λ (s : Stripe). s.code) stripes (record { segments = segments; code = code; reset = false }) []

  codes_many : length (map (λ (s : Stripe). s.code) stripes) ≡ length stripes
  codes_many = length-map stripes (λ (s : Stripe). s.code)

  rows_all : Continues (white_row h.xd) (first ++ more) 0 (first ++ more)
  rows_all = continues_all (white_row h.xd) (first ++ more)

  flags_all : Continues false (first_flags ++ more_flags) 0 (first_flags ++ more_flags)
  flags_all = continues_all false (first_flags ++ more_flags)

  followed : AllFollowed h ok.stripe_from all flags rows 0 height stripes (length first) mid
  followed =
      stripes_follow h ok.stripe_from all flags rows 0 height (image_start h.xd) stripes first first_flags mid (omega (arith, room)) (omega (arith, room, all_many))
      (λ _. record { carry = begins_at h all flags rows; rows_at = rows_at; flags_at = flags_at })
      (continues_left None (map (λ (s : Stripe). move_of s.segments) all) 0 (map (λ (s : Stripe). move_of s.segments) stripes) (move ∷ [])
      (subst (Continues None (map (λ (s : Stripe). move_of s.segments) all) 0) moves_are (continues_all None (map (λ (s : Stripe). move_of s.segments) all))))
      (continues_left false (map (λ (s : Stripe). s.reset) all) 0 (map (λ (s : Stripe). s.reset) stripes) (false ∷ [])
      (subst (Continues false (map (λ (s : Stripe). s.reset) all) 0) resets_are (continues_all false (map (λ (s : Stripe). s.reset) all))))
      run
    where
      zero_l : 0 ≡ 0 * h.l0
      zero_l = omega arith

      rows_at : Continues (white_row h.xd) (first ++ more) (0 * h.l0) first
      rows_at = subst (λ z. Continues (white_row h.xd) (first ++ more) z first) zero_l (continues_left (white_row h.xd) (first ++ more) 0 first more rows_all)

      flags_at : Continues false (first_flags ++ more_flags) (0 * h.l0) first_flags
      flags_at = subst (λ z. Continues false (first_flags ++ more_flags) z first_flags) zero_l (continues_left false (first_flags ++ more_flags) 0 first_flags more_flags flags_all)

  -- the stripe that breaks
  n_is : 0 + length stripes ≡ length stripes
  n_is = omega arith

  carry_is : CarryAt whole (length stripes) (length stripes * h.l0) mid
  carry_is = subst (λ z. CarryAt whole z (z * h.l0) mid) n_is (followed.carried (subst (λ z. z * h.l0 ≤ length (first ++ more)) (sym n_is) (omega (arith, all_many))))

  move_is : slice_index_or whole.moves (length stripes) None ≡ move
  move_is =
      let k : length (map (λ (s : Stripe). move_of s.segments) stripes) ≡ length stripes = length-map stripes (λ (s : Stripe). move_of s.segments) in
      ap (λ u. slice_index_or u (length stripes) None) moves_are
      ∙ ap (λ j. slice_index_or (map (λ (s : Stripe). move_of s.segments) stripes ++ move ∷ []) j None) (sym k)
      ∙ get_here (map (λ (s : Stripe). move_of s.segments) stripes) move [] None

  few : 0 + length more ≤ h.l0
  few = omega (arith, begins.few)

  y_is : length stripes * h.l0 ≡ length stripes * h.l0 + 0
  y_is = omega arith

  more_at : Continues (white_row h.xd) (first ++ more) (length stripes * h.l0) more
  more_at =
      let at : 0 + length first ≡ length stripes * h.l0 = omega (arith, first_many) in
      subst (λ z. Continues (white_row h.xd) (first ++ more) z more) at (continues_right (white_row h.xd) (first ++ more) 0 first more rows_all)

  more_flags_at : Continues false (first_flags ++ more_flags) (length stripes * h.l0) more_flags
  more_flags_at =
      let at : 0 + length first_flags ≡ length stripes * h.l0 = omega (arith, flags_many) in
      subst (λ z. Continues false (first_flags ++ more_flags) z more_flags) at (continues_right false (first_flags ++ more_flags) 0 first_flags more_flags flags_all)

  begins_rows : RowsAt whole (length stripes) 0 (length stripes * h.l0) move (first_row_start mid) more more_flags
  begins_rows = record { few = few; y_is = y_is; move_is = move_is; carried = stripe_begins whole (length stripes) mid carry_is; rows_at = more_at; flags_at = more_flags_at }

  ran : Ran whole (length stripes) 0 (length stripes * h.l0) (length more) begins.last
  ran = rows_run more more_flags begins_rows begins.run

  in_stripe : 0 + length more ≡ min h.l0 (length (first ++ more) - length stripes * h.l0)
  in_stripe = omega (arith, few, all_many)

  code_at : slice_index_or (map (λ (s : Stripe). s.code) all) (length stripes) [] ≡ code
  code_at =
      ap (λ u. slice_index_or u (length stripes) []) codes_are
      ∙ ap (λ j. slice_index_or (map (λ (s : Stripe). s.code) stripes ++ code ∷ []) j []) (sym codes_many)
      ∙ get_here (map (λ (s : Stripe). s.code) stripes) code [] []

  pub carried_few : length (first ++ more) ≤ height
  carried_few = omega (arith, all_many, begins.few, room)

  pub carried_lying : AreLying h all (length stripes) (flagged rows flags)
  carried_lying = record {
    lying = record {
      wide = All-append (λ row. length row ≡ h.xd) first more (stripes_wide h height (image_start h.xd) stripes first first_flags mid run)
          (run_wide (row_coding h.xd mode move) 0 (first_row_start mid) more more_flags begins.last begins.run);
      legal = λ y lt. legal_at y lt (cases_lt y (length first));
      lies = λ i lt. lies_at i lt (cases_lt i (length stripes));
    };
    from = omega (arith, all_many);
    to = omega (arith, all_many, few);
  } where
    legal_at : (y : ℕ) → y < length (first ++ more) → (y < length first) ⊎ (length first ≤ y) → IsLegalFlag mode (lines_of whole y) (flag_of whole y)
    legal_at y lt (inl less) =
        let at : 0 * h.l0 + y ≡ y = omega arith in
        subst (λ z. IsLegalFlag mode (lines_of whole z) (flag_of whole z)) at (followed.legal y less)
    legal_at y lt (inr ge) =
        let at : length stripes * h.l0 + (y - length stripes * h.l0) ≡ y = omega (arith, ge, first_many) in
        subst (λ z. IsLegalFlag mode (lines_of whole z) (flag_of whole z)) at (ran.legal (y - length stripes * h.l0) (omega (arith, lt, ge, first_many, all_many)))

    lies_at : (i : ℕ) → i < length (map (λ (s : Stripe). s.code) all) → (i < length stripes) ⊎ (length stripes ≤ i) → Lies (slice_index_or (map (λ (s : Stripe). s.code) all) i []) (place_of whole i)
    lies_at i lt (inl less) =
        let at : 0 + i ≡ i = omega arith in
        let same : slice_index_or (map (λ (s : Stripe). s.code) all) i [] ≡ slice_index_or (map (λ (s : Stripe). s.code) stripes) i [] =
        ap (λ u. slice_index_or u i []) codes_are ∙ get_left (map (λ (s : Stripe). s.code) stripes) (code ∷ []) i [] (omega (arith, less, codes_many)) in
        subst (λ z. Lies (slice_index_or (map (λ (s : Stripe). s.code) all) i []) (place_of whole z)) at
        (subst (λ u. Lies u (place_of whole (0 + i))) (sym same) (followed.lies i less))
    lies_at i lt (inr ge) =
        let here : length stripes ≡ i = omega (arith, lt, ge, length-map all (λ (s : Stripe). s.code), begun_length stripes segments code) in
        subst (λ j. Lies (slice_index_or (map (λ (s : Stripe). s.code) all) j []) (place_of whole j)) here
        (subst (λ u. Lies u (place_of whole (length stripes))) (sym code_at)
        (subst (λ m. Lies code (after (begun (learned_at whole (length stripes))) (flat_map (events_of_row whole) (numbers_from (length stripes * h.l0) m))).place) in_stripe
        (subst (λ s. Lies code s.place) ran.carried.state begins.lies)))

  pub carried_decided : RunEnough (length code) (row_coding h.xd mode move) 0 (first_row_start mid) more more_flags → AreDecided h height all (length stripes) code (flagged rows flags)
  carried_decided so = record {
    wide = carried_lying.lying.wide;
    from = carried_lying.from;
    to = omega (arith, all_many, begins.few, room);
    legal = carried_lying.lying.legal;
    lies = carried_lying.lying.lies;
    enough =
        subst (λ m. AreEnough (length code) (begun (learned_at whole (length stripes))) (flat_map (events_of_row whole) (numbers_from (length stripes * h.l0) m))) in_stripe
        (rows_enough whole (length stripes) (length code) begins.last more more_flags begins_rows begins.run so tt);
  }

  pub carried_longest : CoderLaws → RunEnough (length code) (row_coding h.xd mode move) 0 (first_row_start mid) more more_flags →
      (length more ≡ min (height - length stripes * h.l0) h.l0) ⊎ NoneDecided (row_coding h.xd mode move) (length more) begins.last code → IsLongest h height all (length stripes) code rows
  carried_longest q so ends other row d = went ends where
    longer : length ((first ++ more) ++ row ∷ []) ≡ suc (length (first ++ more))
    longer = length-push (first ++ more) row

    last_one : length all ≡ length stripes + 1
    last_one = begun_length stripes segments code

    with_row : Coding
    with_row = coding_in h all other ((first ++ more) ++ row ∷ [])

    went : (length more ≡ min (height - length stripes * h.l0) h.l0) ⊎ NoneDecided (row_coding h.xd mode move) (length more) begins.last code → ⊥
    went (inl full) = omega (arith, d.to, longer, all_many, full, room)
    went (inr none) = none row flag wide legal lies enough where
      flag : Bool
      flag = slice_index_or other (length (first ++ more)) false

      wide : length row ≡ h.xd
      wide = (all_right (λ r. length r ≡ h.xd) (first ++ more) (row ∷ []) d.wide).0

      alike : Agree h (flagged rows flags) (flagged (rows ++ row ∷ []) other) (length (first ++ more))
      alike = decided_agree q ok last_one (carried_decided so) d (length (first ++ more)) (omega arith) (omega (arith, longer))

      r_is : 0 + length more ≡ length more
      r_is = omega arith

      rows_are : length (first ++ more) ≡ length stripes * h.l0 + length more
      rows_are = omega (arith, all_many)

      at_row : CarriedAt with_row (length stripes) (length more) (length (first ++ more)) begins.last
      at_row =
          carried_agrees all alike (length stripes) (length more) rows_are (omega arith) (omega (arith, longer))
          (subst (λ y. CarriedAt whole (length stripes) (length more) y begins.last) (sym rows_are)
          (subst (λ r. CarriedAt whole (length stripes) r (length stripes * h.l0 + length more) begins.last) r_is ran.carried))

      inside : length more < h.l0
      inside = omega (arith, d.to, longer, all_many)

      here : RowAt with_row (length stripes) (length more) (length (first ++ more)) move begins.last row
      here = record { in_stripe = inside; y_is = rows_are; move_is = move_is; carried = at_row; row_is = get_here (first ++ more) row [] (white_row h.xd) }

      coded : events_with mode move (length more) begins.last row flag ≡ events_of_row with_row (length stripes * h.l0 + length more)
      coded = row_is_coded here refl ∙ ap (events_of_row with_row) rows_are

      one_more : min h.l0 (length ((first ++ more) ++ row ∷ []) - length stripes * h.l0) ≡ suc (length more)
      one_more = omega (arith, longer, all_many, inside)

      legal : IsLegalFlag mode (lines_with begins.last row) flag
      legal =
          subst (λ u. IsLegalFlag mode u flag) (sym (row_lines here))
          (d.legal (length (first ++ more)) (omega (arith, longer)))

      lies : Lies code (after begins.last.state (events_with mode move (length more) begins.last row flag)).place
      lies =
          subst (λ es. Lies code (after begins.last.state es).place) (sym coded)
          (subst (λ s. Lies code (after s (events_of_row with_row (length stripes * h.l0 + length more))).place) (sym at_row.state)
          (subst (λ s. Lies code s.place) (one_row_more with_row (begun (learned_at with_row (length stripes))) (length stripes * h.l0) (length more))
          (subst (λ m. Lies code (after (begun (learned_at with_row (length stripes))) (flat_map (events_of_row with_row) (numbers_from (length stripes * h.l0) m))).place) one_more
          (subst (λ u. Lies u (place_of with_row (length stripes))) code_at (d.lies (length stripes) (omega (arith, last_one, length-map all (λ (s : Stripe). s.code))))))))

      enough : AreEnough (length code) begins.last.state (events_with mode move (length more) begins.last row flag)
      enough =
          subst (AreEnough (length code) begins.last.state) (sym (coded ∙ sym (append-nil (events_of_row with_row (length stripes * h.l0 + length more)))))
          (subst (λ s. AreEnough (length code) s (events_of_row with_row (length stripes * h.l0 + length more) ++ [])) (sym at_row.state)
          (enough_rest (length code) (begun (learned_at with_row (length stripes))) (flat_map (events_of_row with_row) (numbers_from (length stripes * h.l0) (length more)))
          (events_of_row with_row (length stripes * h.l0 + length more) ++ [])
          (subst (AreEnough (length code) (begun (learned_at with_row (length stripes)))) (rows_more with_row (length stripes * h.l0) (length more))
          (subst (λ m. AreEnough (length code) (begun (learned_at with_row (length stripes))) (flat_map (events_of_row with_row) (numbers_from (length stripes * h.l0) m))) one_more d.enough))))

abbrev pub front_of : {h : Fields} {count : ℕ} {c : StripeStart} {segments : List Segment} {code : List ℕ} {rows : List (List Bool)} {flags : List Bool} →
    BegunRun (open_stripe h c segments) count code rows flags → FrontRun (open_stripe h c segments) count code rows flags
front_of b = record { last = b.last; run = b.run; few = b.few; lies = b.lies }

-- A body that breaks after whole stripes fixes their rows, and the rows that were run through of the stripe that breaks.
pub carried_fixes : CoderLaws → (h : Fields) (height : ℕ) (body tail : List ℕ) (fault : Fault) (stripes : List Stripe) (broken : StripeFault h (spot_after height stripes) tail fault)
    (first more : List (List Bool)) (first_flags more_flags : List Bool) (mid : StripeStart) → IsAccepted h →
    body ≡ flat_map stripe_bytes stripes ++ tail → length stripes < stripe_count height h.l0 → GiveOnly height 0 (all_segments stripes) →
    StripesRun h height (image_start h.xd) stripes (flagged first first_flags) mid →
    BegunRun (open_stripe h mid broken.segments) (min (height - length stripes * h.l0) h.l0) broken.code more more_flags →
    Fixes h height body fault (first ++ more)
carried_fixes q h height body tail fault stripes broken first more first_flags more_flags mid ok body_is fewer gives run begins = record {
  broken = record {
    stripes = stripes;
    tail = tail;
    bytes_are = body_is;
    fewer = fewer;
    each = stripes_whole h height (image_start h.xd) stripes first first_flags mid run;
    gives = gives;
    tail_has =
        broken;
  };
  fixed = record {
    flags = first_flags ++ more_flags;
    decided = carried_decided h height ok stripes broken.segments broken.code first more first_flags more_flags mid fewer run (front_of begins) begins.enough;
    longest = carried_longest h height ok stripes broken.segments broken.code first more first_flags more_flags mid fewer run (front_of begins) q begins.enough begins.ends;
  };
}
