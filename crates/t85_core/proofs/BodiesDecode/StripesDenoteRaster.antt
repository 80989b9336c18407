-- Stripes that a decoder ran through to the image's last row denote the raster of their rows.
use Rattle.std.proofs.Common.{◌≡◌, ℕ, ◌+◌, ◌-◌, ◌*◌, ◌<◌, ◌≤◌, nat_eq, Bool, true, false, List, [], ◌∷◌, ◌++◌, length, map, refl, sym, ◌∙◌, ap, subst, arith, None, length-append}
use Rattle.std.specs.Prelude.{slice_index_or, if◌then◌else◌, flat_map, filter_map, min}
use Rattle.std.specs.List.{AllByRecursion}
use Rattle.std.proofs.lemmas.Bool.Decides.{nat_tests}
use Rattle.std.proofs.lemmas.Grind.{div_ceil_times}
use Rattle.std.proofs.lemmas.List.{length-map}
use Rattle.qm_core.specs.Code.{Lies}
use Rattle.raster_core.specs.Raster.{white_row}
use Rattle.raster_core.specs.Lines.{numbers_from, IsLegalFlag}
use Rattle.t85_core.specs.Header.{Fields, IsAccepted}
use Rattle.t85_core.specs.Grammar.{Stripe, stripe_bytes, stripe_count, AreStripes, all_segments, GiveOnly}
use Rattle.t85_core.specs.Coding.{Coding, lines_of, flag_of, moved_at, last_or, place_of, mode_of, move_of, flagged}
use Rattle.t85_core.specs.Denotes.{coding_in, DenotesAt}
use Rattle.t85_core.specs.States.State.{StripeStart, first_row_start, image_start, StripesRun, stripe_coding}
use Rattle.t85_core.proofs.StreamsDenote.StateIsCarried.{row_above_top}
use Rattle.t85_core.proofs.BytesJoin.ListsGrow.{All-append}
use Rattle.t85_core.proofs.BytesJoin.ListsKeepElements.{Continues, continues_all}
use Rattle.t85_core.specs.States.Looked.{CarryAt}
use Rattle.t85_core.proofs.BodiesDecode.StripesFollow.{run_wide, AllFollowed, stripes_follow}

-- as many rows as the stripes have room for
pub run_many : (h : Fields) (left : ℕ) (b : StripeStart) (todo : List Stripe) (rows : List (List Bool)) (flags : List Bool) (next : StripeStart) → StripesRun h left b todo (flagged rows flags) next →
    length rows ≡ min left (length todo * h.l0)
run_many h left b [] rows flags next run = let none : length rows ≡ 0 = ap length run.0 in omega (arith, none)
run_many h left b (s ∷ todo) rows flags next run =
    let others = run_many h (left - h.l0) run.4 todo run.1 run.3 next run.8 in
    let lengths : length rows ≡ length run.0 + length run.1 = ap length run.5 ∙ length-append run.0 run.1 in
    omega (arith, lengths, others, run.7.many)

pub stripes_wide : (h : Fields) (left : ℕ) (b : StripeStart) (todo : List Stripe) (rows : List (List Bool)) (flags : List Bool) (next : StripeStart) →
    StripesRun h left b todo (flagged rows flags) next → AllByRecursion (λ row. length row ≡ h.xd) rows
stripes_wide h left b [] rows flags next run = subst (AllByRecursion (λ row. length row ≡ h.xd)) (sym run.0) tt
stripes_wide h left b (s ∷ todo) rows flags next run =
    subst (AllByRecursion (λ row. length row ≡ h.xd)) (sym run.5)
    (All-append (λ row. length row ≡ h.xd) run.0 run.1 (run_wide (stripe_coding h s.segments) 0 (first_row_start b) run.0 run.2 run.7.last run.7.run)
    (stripes_wide h (left - h.l0) run.4 todo run.1 run.3 next run.8))

pub stripes_whole : (h : Fields) (left : ℕ) (b : StripeStart) (todo : List Stripe) (rows : List (List Bool)) (flags : List Bool) (next : StripeStart) →
    StripesRun h left b todo (flagged rows flags) next → AreStripes h todo
stripes_whole h left b [] rows flags next run = tt
stripes_whole h left b (s ∷ todo) rows flags next run = (run.7.whole, stripes_whole h (left - h.l0) run.4 todo run.1 run.3 next run.8)

module _ (h : Fields) (stripes : List Stripe) (flags : List Bool) (rows : List (List Bool)) where
  -- what a decoder begins with
  pub begins_at : CarryAt (coding_in h stripes flags rows) 0 (0 * h.l0) (image_start h.xd)
  begins_at =
      let c : Coding = coding_in h stripes flags rows in
      let none : 0 * h.l0 - 0 * h.l0 ≡ 0 = omega arith in
      let test : nat_eq (0 * h.l0) (0 * h.l0) ≡ true = grind (arith, nat_tests) in
      record {
        learned = refl;
        offset = sym (ap (λ n. last_or 0 (filter_map (moved_at c) (numbers_from (0 * h.l0) n))) none);
        previous = sym (ap (λ b. if b then false else slice_index_or flags (0 * h.l0 - 1) false) test);
        above = sym (row_above_top c.raster (0 * h.l0) 1 (omega arith));
        second = sym (row_above_top c.raster (0 * h.l0) 2 (omega arith));
      }

-- The stripes of a body, run through to the image's height, denote the raster of their rows.
pub carried_denotes : (h : Fields) (height : ℕ) (body rest : List ℕ) (stripes : List Stripe) (rows : List (List Bool)) (flags : List Bool) (next : StripeStart) →
    IsAccepted h → 1 ≤ height → height ≤ h.yd → body ≡ flat_map stripe_bytes stripes ++ rest → length stripes ≡ stripe_count height h.l0 → GiveOnly height 0 (all_segments stripes) →
    StripesRun h height (image_start h.xd) stripes (flagged rows flags) next → DenotesAt h height body (record { width = h.xd; rows = rows })
carried_denotes h height body rest stripes rows flags next ok from to body_is count gives run =
    record {
      parts = record { stripes = stripes; rest = rest; body_is = body_is; count = count; each = stripes_whole h height (image_start h.xd) stripes rows flags next run; gives = gives };
      proper = record {
        width_from = ok.width_from;
        width_to = ok.width_to;
        height_from = omega (arith, from, many);
        height_to = omega (arith, to, many, ok.height_to);
        rows =
            stripes_wide h height (image_start h.xd) stripes rows flags next run;
      };
      width = refl;
      height = many;
      flags = flags;
      legal = λ y lt. legal_at y lt;
      lies = λ i lt. lies_at i lt;
    } where
      times : (height ≤ stripe_count height h.l0 * h.l0) × (stripe_count height h.l0 * h.l0 < height + h.l0)
      times = div_ceil_times height h.l0 ok.stripe_from

      enough : length stripes * h.l0 < height + h.l0
      enough = subst (λ n. n * h.l0 < height + h.l0) (sym count) times.1

      reaches : height ≤ length stripes * h.l0
      reaches = subst (λ n. height ≤ n * h.l0) (sym count) times.0

      many : length rows ≡ height
      many = let m = run_many h height (image_start h.xd) stripes rows flags next run in omega (arith, m, reaches)

      followed : AllFollowed h ok.stripe_from stripes flags rows 0 height stripes (length rows) next
      followed =
          stripes_follow h ok.stripe_from stripes flags rows 0 height (image_start h.xd) stripes rows flags next enough (omega (arith, many))
          (λ _. record { carry = begins_at h stripes flags rows; rows_at = rows_at; flags_at = flags_at })
          (continues_all None (map (λ (s : Stripe). move_of s.segments) stripes)) (continues_all false (map (λ (s : Stripe). s.reset) stripes)) run
        where
          zero_l : 0 ≡ 0 * h.l0
          zero_l = omega arith

          rows_at : Continues (white_row h.xd) rows (0 * h.l0) rows
          rows_at = subst (λ z. Continues (white_row h.xd) rows z rows) zero_l (continues_all (white_row h.xd) rows)

          flags_at : Continues false flags (0 * h.l0) flags
          flags_at = subst (λ z. Continues false flags z flags) zero_l (continues_all false flags)

      legal_at : (y : ℕ) → y < length rows → IsLegalFlag (mode_of h.options) (lines_of (coding_in h stripes flags rows) y) (flag_of (coding_in h stripes flags rows) y)
      legal_at y lt =
          let at : 0 * h.l0 + y ≡ y = omega arith in
          subst (λ z. IsLegalFlag (mode_of h.options) (lines_of (coding_in h stripes flags rows) z) (flag_of (coding_in h stripes flags rows) z)) at (followed.legal y lt)

      lies_at : (i : ℕ) → i < length (map (λ (s : Stripe). s.code) stripes) → Lies (slice_index_or (map (λ (s : Stripe). s.code) stripes) i []) (place_of (coding_in h stripes flags rows) i)
      lies_at i lt =
          let at : 0 + i ≡ i = omega arith in
          subst (λ z. Lies (slice_index_or (map (λ (s : Stripe). s.code) stripes) i []) (place_of (coding_in h stripes flags rows) z)) at
          (followed.lies i (omega (arith, lt, length-map stripes (λ (s : Stripe). s.code))))
