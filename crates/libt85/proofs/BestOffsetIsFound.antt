-- The best offset for the next stripe of an encoder that a C caller holds.
use Rattle.std.proofs.Common.{◌≡◌, ◌≤◌, ◌<◌, ◌+◌, ◌-◌, ◌*◌, ◌/◌, ◌%◌, ℕ, zero, suc, ◌==◌, Bool, true, false, not, ◌||◌, ◌&&◌, nat_lt, nat_le, List, [], ◌∷◌, ◌++◌, length, take, drop, Option, None, Some, refl, sym, ap, subst, ◌∙◌, arith, length-take-le, true≢false}
use Rattle.std.specs.Prelude.{is_some, map, min, slice_range, if◌then◌else◌, unwrap_or}
use Rattle.std.specs.Int.{div_ceil}
use Rattle.std.proofs.lemmas.Bool.Decides.{nat_tests}
use Rattle.std.proofs.Math.Nat.{add-mul, mul-div_cancel, mul-mod_left, mul-le-mul_right}
use Rattle.std.proofs.lemmas.List.{drop-take, take-take}
use Rattle.std.proofs.lemmas.Slice.{drop-append-drop}
use Rattle.pbm_core.specs.Image.{pixels_of}
use Rattle.pbm_core.specs.Pbm.{bytes_of_row}
use Rattle.raster_core.specs.Lines.{numbers_from}
use Rattle.t85_core.specs.States.RowCalls.{takes_name}
use Rattle.t85_core.specs.States.ByRow.{view_of}
use Rattle.t85_core.specs.States.Sent.{behind}
use Rattle.t85_core.specs.States.Trial.{FindsOffset, all_rows_in, are_stripe_rows, may_come_next, packed_rows}
use Rattle.raster_core.specs.Raster.{height}
use Rattle.raster_core.specs.Window.{held as rows_held, width_of}
use Rattle.raster_core.specs.declared.window.Window.{Window}
use Rattle.t85_core.specs.RowImage.{may_name}
use Rattle.t85_core.specs.Coding.{has_bit}
use Rattle.t85_core.specs.declared.encoding.by_row.RowEncoder.{RowEncoder}
use Rattle.libt85.specs.Decoded.{window_bytes}
use Rattle.libt85.specs.Encoder.{encoder_hold}
use Rattle.libt85.specs.Encoded.{or_else, status_if}
use Rattle.libt85.specs.EncoderSteps.{AwaitsCall, RefusesCall}
use Rattle.libt85.specs.BestOffset.{FindsBest, IsBestNext, are_too_few, best_memory, best_refusal, most_rows, stripe_rows_in, whole_rows}
use Rattle.libt85.specs.declared.encoder.T85Encoder.{T85Encoder}
use Rattle.libt85.proofs.EncoderIsCalled.{ready_begun, ready_ended, window_alone}
use Rattle.libt85.proofs.EncoderTakesRows.{IsLent, offers_same, stands_lent}
use Rattle.libt85.proofs.WindowCoversMemory.{same_memory, window_rows}

-- ---- the stripe's rows

-- what a call that is not refused has
unrefused : (a b c : Bool) (rest : Option ℕ) → or_else (status_if a 54) (or_else (status_if (not b) 56) (or_else (status_if c 36) rest)) ≡ None →
    (a ≡ false) × (b ≡ true) × (c ≡ false) × (rest ≡ None)
unrefused true b c rest none = absurd (let bot : ⊥ = cc in bot)
unrefused false false c rest none = absurd (let bot : ⊥ = cc in bot)
unrefused false true true rest none = absurd (let bot : ⊥ = cc in bot)
unrefused false true false rest none = (refl, refl, refl, none)

neither : (a b : Bool) → status_if (a || b) 19 ≡ None → b ≡ false
neither true b none = absurd (let bot : ⊥ = cc in bot)
neither false true none = absurd (let bot : ⊥ = cc in bot)
neither false false none = refl

-- the scratch memory is long enough
pub scratch_within : (d : T85Encoder) (len window scratch : ℕ) → best_refusal d len window scratch ≡ None → window_bytes d.width ≤ scratch
scratch_within d len window scratch none =
    let long : nat_lt scratch (window_bytes d.width) ≡ false = neither (nat_lt window (window_bytes d.width)) _ (unrefused (d.rows == d.height) (d.in_stripe == 0) (are_too_few d len) _ none).3 in
    grind (arith, nat_tests)

-- a stripe that is not refused may come
stripe_fits : (announces : Bool) (count most : ℕ) → 1 ≤ most → ((count == 0) || (not announces && nat_lt count most)) ≡ false →
    (nat_le 1 (min count most) && ((min count most == most) || (announces && nat_le (min count most) most))) ≡ true
stripe_fits true count most some enough = grind (arith, nat_tests)
stripe_fits false count most some enough = grind (arith, nat_tests)

announced_some : (a : Bool) (n : ℕ) → is_some (if a then Some n else None) ≡ a
announced_some true n = refl
announced_some false n = refl

not_twice : (a : Bool) → not (not a) ≡ a
not_twice true = refl
not_twice false = refl

most_some : (stripe height rows : ℕ) → 1 ≤ stripe → rows ≤ height → (rows == height) ≡ false → 1 ≤ min stripe (height - rows)
most_some stripe height rows some within left = grind (arith, nat_tests)

pub long_some : (width : ℕ) → 1 ≤ width → 0 < div_ceil width 8
long_some width some = omega (arith, some)

both : (a b : Bool) → a ≡ true → b ≡ true → (a && b) ≡ true
both true true x y = refl
both true false x y = y
both false b x y = x

-- they are the rows of a stripe that may come
pub rows_fit : (d : T85Encoder) (e : RowEncoder) (len window scratch : ℕ) → AwaitsCall d e → best_refusal d len window scratch ≡ None →
    are_stripe_rows e (stripe_rows_in d len * div_ceil d.width 8) ≡ true
rows_fit d e len window scratch ready none =
    let parts = unrefused (d.rows == d.height) (d.in_stripe == 0) (are_too_few d len) _ none in
    let left = parts.0 in
    let first = parts.1 in
    let enough = parts.2 in
    let goes = ready.goes_on in
    let k = stripe_rows_in d len in
    let long = div_ceil d.width 8 in
    let some : 0 < long = long_some d.width goes.plan_is.width_from in
    let wide : bytes_of_row e.size.width ≡ long = ap bytes_of_row goes.width_is in
    let rows_are : e.rows ≡ d.rows = ap (λ n. n.rows) goes.numbers_are in
    let within : e.rows ≤ e.size.height = goes.ready.able.rows_to in
    let one : 1 ≤ most_rows d = most_some d.stripe_rows d.height d.rows goes.plan_is.some (omega (arith, within, rows_are, goes.limit_is)) left in
    let ends : e.may_end ≡ not (d.announces_height == 0) = goes.plan_is.may_end_is ∙ announced_some (not (d.announces_height == 0)) d.announced_height in
    let most : min e.stripe_rows (e.size.height - e.rows) ≡ most_rows d =
    rw (goes.plan_is.stripe_rows_is, goes.limit_is, rows_are) in
    let fits : (nat_le 1 k && ((k == most_rows d) || (not (d.announces_height == 0) && nat_le k (most_rows d)))) ≡ true =
    stripe_fits (not (d.announces_height == 0)) (whole_rows d len) (most_rows d) one (rw (not_twice (d.announces_height == 0)) enough) in
    let comes : may_come_next e k ≡ true = rw (most, ends) fits in
    rw wide
    (both (not e.is_closed) _ (ap not goes.going)
    (both (e.in_stripe == 0) _ (ap (λ n. n.in_stripe == 0) goes.numbers_are ∙ first)
    (both (k * long % long == 0) _ (ap (λ n. n == 0) (mul-mod_left k long))
    (rw (mul-div_cancel k some) comes))))

-- ---- the bytes of these rows

part_same : (xs : List ℕ) (n a l : ℕ) → a + l ≤ n → slice_range (take n xs) a (a + l) ≡ slice_range xs a (a + l)
part_same xs n a l within =
    let sum : n ≡ a + (n - a) = omega (arith, within) in
    ap (λ k. take (a + l - a) (drop a (take k xs))) sum
    ∙ ap (λ ys. take (a + l - a) ys) (drop-take a (n - a) xs)
    ∙ take-take (a + l - a) (n - a) (drop a xs) (omega (arith, within))

abbrev row_at : ℕ → List ℕ → ℕ → List Bool
row_at width bytes k = pixels_of width (slice_range bytes (k * bytes_of_row width) (k * bytes_of_row width + bytes_of_row width))

rows_same : (width n : ℕ) (bytes : List ℕ) (k count : ℕ) → (k + count) * bytes_of_row width ≤ n →
    map (row_at width (take n bytes)) (numbers_from k count) ≡ map (row_at width bytes) (numbers_from k count)
rows_same width n bytes k zero within = refl
rows_same width n bytes k (suc count) within =
    let l = bytes_of_row width in
    let one : (k + 1) * l ≤ (k + suc count) * l = mul-le-mul_right l (omega arith) in
    let sum : (k + 1) * l ≡ k * l + 1 * l = add-mul k 1 l in
    let on : k + 1 + count ≡ k + suc count = omega arith in
    ap (λ b. pixels_of width b ∷ map (row_at width (take n bytes)) (numbers_from (k + 1) count)) (part_same bytes n (k * l) l (omega (arith, one, sum, within)))
    ∙ ap (λ rest. row_at width bytes k ∷ rest) (rows_same width n bytes (k + 1) count (subst (λ m. m * l ≤ n) (sym on) within))

-- they are the first rows
pub first_rows : (width count used : ℕ) (bytes : List ℕ) → 1 ≤ width → used ≡ count * div_ceil width 8 → used ≤ length bytes →
    all_rows_in width (take used bytes) ≡ packed_rows width bytes count
first_rows width count used bytes some is within =
    let long : length (take used bytes) ≡ used = length-take-le used bytes within in
    let many : length (take used bytes) / bytes_of_row width ≡ count = ap (λ n. n / bytes_of_row width) (long ∙ is) ∙ mul-div_cancel count (long_some width some) in
    let none : 0 + count ≡ count = omega arith in
    ap (λ n. packed_rows width (take used bytes) n) many ∙ rows_same width used bytes 0 count (subst (λ n. n * bytes_of_row width ≤ used) (sym none) (omega (arith, is)))

-- ---- the result

-- a name that is offered is accepted where the call is
named_too : (a b c n : Bool) (rest : Option ℕ) → or_else (status_if a 54) (or_else (status_if b 56) (or_else (status_if c 36) rest)) ≡ None → n ≡ true →
    or_else (status_if a 54) (or_else (status_if b 56) (status_if (not n) 22)) ≡ None
named_too true b c n rest none is = none
named_too false true c n rest none is = none
named_too false false c true rest none is = refl
named_too false false c false rest none is = absurd (true≢false (sym is))

last_true : (a b c : Bool) → (a && (b && c)) ≡ true → c ≡ true
last_true true true c is = is
last_true true false c is = absurd (true≢false (sym is))
last_true false b c is = absurd (true≢false (sym is))

pub best_refused : {d : T85Encoder} {rows window scratch : List ℕ} {offset status : ℕ} → RefusesCall d (best_refusal d (length rows) (length window) (length scratch)) status →
    FindsBest d rows (best_memory window scratch offset) (best_memory window scratch offset) status
best_refused {window = window} r = record {
  status_is = λ window image come sent k. sym (ap (λ o. unwrap_or o 0) (r.first window image come sent k));
  ended = r.ended;
  not_begun = r.not_begun;
  window = refl;
  refused = λ other. refl;
  beyond = refl;
  best = λ e. absurd (r.some e);
  named = λ e. absurd (r.some e);
}

pub best_found : {d : T85Encoder} {e : RowEncoder} {rows window window' scratch : List ℕ} {offset best used needed : ℕ} (scratch' : List ℕ) → AwaitsCall d e →
    best_refusal d (length rows) (length window) (length scratch) ≡ None → needed ≡ window_bytes d.width → used ≡ stripe_rows_in d (length rows) * div_ceil d.width 8 → used ≤ length rows →
    window' ≡ window →
    length scratch' ≡ needed → IsBestNext (encoder_hold d (take needed window)) (all_rows_in d.width (take used rows)) best → (takes_name e e.kept.offset ≡ true → takes_name e best ≡ true) →
    FindsBest d rows (best_memory window scratch offset) (best_memory window' (scratch' ++ drop needed scratch) best) 0
best_found {d} {e} {rows} {scratch = scratch} {best = best} {used} {needed} scratch' ready none needed_is used_is within same long finds names =
    let goes = ready.goes_on in
    record {
      status_is = λ window image come sent k. sym (ap (λ o. unwrap_or o 0) none);
      ended = λ h. absurd (ready_ended ready h);
      not_begun = λ h. absurd (ready_begun ready h);
      window = same;
      refused = λ other. absurd (other refl);
      beyond = drop-append-drop needed scratch scratch' (window_bytes d.width) (omega (arith, needed_is)) long;
      best = λ zero_is image come sent k raster.
          rw (first_rows d.width (stripe_rows_in d (length rows)) used rows goes.plan_is.width_from used_is within) at (finds image come sent (window_alone needed_is k) raster);
      named = λ zero_is may.
          let first : (d.in_stripe == 0) ≡ true = (unrefused (d.rows == d.height) (d.in_stripe == 0) (are_too_few d (length rows)) _ none).1 in
          let in_none : (e.in_stripe == 0) ≡ true = ap (λ n. n.in_stripe == 0) goes.numbers_are ∙ first in
          let in_use : may_name e.shape.two_line e.most_offset e.kept.offset ≡ true =
          offers_same e.kept.offset ready ∙ ap (may_name (has_bit d.options 6) d.most_offset) (ap (λ n. n.offset) goes.numbers_are) ∙ may in
          let takes = names (both (not e.is_closed) _ (ap not goes.going) (both (e.in_stripe == 0) _ in_none in_use)) in
          named_too (d.rows == d.height) (not (d.in_stripe == 0)) (are_too_few d (length rows)) _ _ none (sym (offers_same best ready) ∙ last_true (not e.is_closed) (e.in_stripe == 0) _ takes);
    }

-- ---- the engine's result

pub window_kept : {d : T85Encoder} {e : RowEncoder} {memory : List ℕ} {window : Window} → IsLent d e memory window → width_of window ≡ d.width → window.rows.now ≡ memory
window_kept {d} {window = window} lent wide =
    same_memory d.width d.place lent.ready.place_to (window.long ∙ ap (λ w. 3 * div_ceil w 8) wide) lent.long
    (sym (window_rows {window = window} (record { place_is = lent.place_is; width_is = wide; rows_are = refl })) ∙ lent.rows_are)

pub best_next : {d : T85Encoder} {e : RowEncoder} {memory : List ℕ} {window : Window} {best : ℕ} (result : Option ℕ) (bytes : List ℕ) → IsLent d e memory window → best ≡ unwrap_or result 0 →
    is_some result ≡ true → FindsOffset (all_rows_in e.size.width bytes) (view_of e d.learning) (rows_held window) result → IsBestNext (encoder_hold d memory) (all_rows_in d.width bytes) best
best_next None bytes lent is some finds = absurd (true≢false (sym some))
best_next (Some t) bytes lent is some finds = λ image rows sent k raster.
    rw (is, ← lent.ready.goes_on.width_is) (finds image rows (behind sent (Some [])) (Some []) raster (stands_lent lent k))
