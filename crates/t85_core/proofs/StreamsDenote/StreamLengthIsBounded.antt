-- How long the stream of a raster is at most.
use Rattle.std.proofs.Common.{ℕ, zero, suc, ◌≡◌, ◌≤◌, ◌+◌, ◌-◌, ◌*◌, ◌∙◌, Bool, true, false, nat_lt, List, [], ◌∷◌, ◌++◌, length, Option, None, Some, refl, ap, subst, arith, length-append}
use Rattle.std.specs.Prelude.{min, flat_map, slice_index_or, unwrap_or, if◌then◌else◌}
use Rattle.std.proofs.lemmas.List.{length-map}
use Rattle.std.proofs.Math.Nat.{mul-le-mul_right, add-mul}
use Rattle.qm_core.specs.Place.{Event}
use Rattle.qm_core.specs.Code.{stuffed, code_of}
use Rattle.qm_core.specs.Laws.{EventsDouble, CodeIsShort}
use Rattle.raster_core.specs.Raster.{Raster, IsRaster, height}
use Rattle.raster_core.specs.Lines.{numbers_from, pixel_events, pseudo_event}
use Rattle.t85_core.proofs.StreamsDenote.StateIsCarried.{above_long}
use Rattle.t85_core.specs.Grammar.{NewLength, segment_bytes, marker_bytes, stripe_bytes, stripe_count}
use Rattle.t85_core.specs.Coding.{Coding, top_of, lines_of, offset_of, previous_of, flag_of, events_of_row, events_of, rows_of, begun, learned_at, place_of}
use Rattle.t85_core.specs.Jbg.{Settings, move_segments, coded_stripe, coding_of, head_of, stripes_of, ending, jbg}
use Rattle.t85_core.specs.Laws.{most_bytes}
use Rattle.t85_core.specs.Private.Written.{ending_of}

pub many : (t k : ℕ) → length (numbers_from t k) ≡ k
many t zero = refl
many t (suc k) = ap suc (many (t + 1) k)

flat_short : {A B : Type 0} (f : A → List B) (m : ℕ) → ((x : A) → length (f x) ≤ m) → (xs : List A) → length (flat_map f xs) ≤ length xs * m
flat_short f m each [] = omega arith
flat_short f m each (x ∷ xs) =
    let one = each x in
    let more = flat_short f m each xs in
    omega (arith, one, more, length-append (f x) (flat_map f xs), add-mul 1 (length xs) m)

-- ---- the events of a row, and of a stripe

pub row_short : (typical flag : Bool) (e : Event) (es : List Event) (n : ℕ) → length es ≡ n → length ((if typical then e ∷ [] else []) ++ (if flag then [] else es)) ≤ 1 + n
row_short true true e es n is = omega arith
row_short true false e es n is = omega arith
row_short false true e es n is = omega arith
row_short false false e es n is = omega arith

pub ending_short : (announced : ℕ) (reset : Bool) (height' : ℕ) → length (ending_of announced reset height') ≤ 8
ending_short announced reset height' = went (nat_lt height' announced) where
  went : (test : Bool) → length (if test then segment_bytes (NewLength height') ++ marker_bytes reset else []) ≤ 8
  went true = omega arith
  went false = omega arith

module _ (c : Coding) (proper : IsRaster c.raster) where
  row_events_short : (y : ℕ) → length (events_of_row c y) ≤ c.raster.width + 1
  row_events_short y =
      let long : length (lines_of c y).row ≡ c.raster.width = above_long c.raster proper.rows (top_of c y) y 0 in
      let pixels : length (pixel_events c.mode (lines_of c y) (offset_of c y)) ≡ c.raster.width = simp length-map (many 0 (length (lines_of c y).row)) ∙ long in
      let short = row_short c.mode.typical (flag_of c y) (pseudo_event c.mode (previous_of c y) (flag_of c y)) (pixel_events c.mode (lines_of c y) (offset_of c y)) c.raster.width pixels in
      omega arith

  abbrev rows_in : ℕ → ℕ
  rows_in i = min c.stripe_rows (height c.raster - i * c.stripe_rows)

  events_short : (i : ℕ) → length (events_of c i) ≤ rows_in i * (c.raster.width + 1)
  events_short i =
      let each = flat_short (events_of_row c) (c.raster.width + 1) row_events_short (rows_of c i) in
      let rows : length (rows_of c i) ≡ rows_in i = many (i * c.stripe_rows) (rows_in i) in
      let same : length (rows_of c i) * (c.raster.width + 1) ≡ rows_in i * (c.raster.width + 1) = ap (λ n. n * (c.raster.width + 1)) rows in
      omega arith

move_short : (move : Option (ℕ × ℕ)) → length (flat_map segment_bytes (move_segments move)) ≤ 8
move_short None = omega arith
move_short (Some to) = omega arith

marker_long : (reset : Bool) → length (marker_bytes reset) ≡ 2
marker_long reset = refl

module _ (events_double : EventsDouble) (code_is_short : CodeIsShort) where
  module _ (c : Coding) (proper : IsRaster c.raster) where
    code_short : (i : ℕ) → length (stuffed (code_of (place_of c i))) ≤ 4 * (rows_in c proper i * (c.raster.width + 1)) + 4
    code_short i =
        let code = code_is_short (place_of c i) in
        let doubled = events_double (events_of c i) (begun (learned_at c i)) in
        let events = events_short c proper i in
        omega arith

    pub stripe_short : (i : ℕ) → length (stripe_bytes (coded_stripe c i)) ≤ 14 + 4 * (rows_in c proper i * (c.raster.width + 1))
    stripe_short i =
        let s = coded_stripe c i in
        let code = code_short i in
        let move = move_short (slice_index_or c.moves i None) in
        omega (arith, marker_long s.reset, length-append {A = ℕ})

    -- the stripes from stripe t on
    stripes_short : (k t : ℕ) → length (flat_map (λ i. stripe_bytes (coded_stripe c i)) (numbers_from t k)) ≤ 14 * k + 4 * ((height c.raster - t * c.stripe_rows) * (c.raster.width + 1))
    stripes_short zero t = omega arith
    stripes_short (suc k) t =
        let first = stripe_short t in
        let more = stripes_short k (t + 1) in
        let next : (t + 1) * c.stripe_rows ≡ t * c.stripe_rows + c.stripe_rows = (let e = add-mul t 1 c.stripe_rows in omega arith) in
        let left : rows_in c proper t + (height c.raster - (t + 1) * c.stripe_rows) ≤ height c.raster - t * c.stripe_rows = omega arith in
        let scaled = mul-le-mul_right (c.raster.width + 1) left in
        let split = add-mul (rows_in c proper t) (height c.raster - (t + 1) * c.stripe_rows) (c.raster.width + 1) in
        omega (arith, first, more, scaled, split, length-append (stripe_bytes (coded_stripe c t)) (flat_map (λ i. stripe_bytes (coded_stripe c i)) (numbers_from (t + 1) k)))

  head_short : (s : Settings) (comment : Option (List ℕ)) (width height' : ℕ) → length (head_of (record s { comment = comment }) width height') ≤ 26 + length (unwrap_or comment [])
  head_short s None width height' = omega arith
  head_short s (Some text) width height' = omega (arith, length-append text [])

  pub stream_is_short : (s : Settings) (raster : Raster) → IsRaster raster → length (jbg s raster) ≤ most_bytes s raster.width (height raster)
  stream_is_short s raster proper =
      let n = stripe_count (height raster) s.stripe_rows in
      let head = head_short s s.comment raster.width (height raster) in
      let all : height raster - 0 * s.stripe_rows ≡ height raster = omega arith in
      let stripes = subst (λ rows. length (stripes_of s raster) ≤ 14 * n + 4 * (rows * (raster.width + 1))) all (stripes_short (coding_of s raster) proper n 0) in
      let last = ending_short (unwrap_or s.announced (height raster)) s.reset (height raster) in
      let whole = length-append (head_of s raster.width (height raster) ++ stripes_of s raster) (ending s (height raster)) in
      let front = length-append (head_of s raster.width (height raster)) (stripes_of s raster) in
      omega arith
