-- A code and the rows above decide a row and its flag.
use Rattle.std.proofs.Common.{◌≡◌, ℕ, zero, suc, ◌+◌, ◌-◌, ◌<◌, ◌≤◌, ◌⊎◌, inl, inr, Bool, true, false, List, [], ◌∷◌, ◌++◌, length, map, arith, refl, ap, ◌∙◌, sym, subst, true≢false}
use Rattle.std.specs.Prelude.{◌&&◌, ◌==◌, IsTrue, if◌then◌else◌}
use Rattle.std.proofs.lemmas.Bool.{lt-ltb, le-ltb, cases_lt}
use Rattle.raster_core.specs.Raster.{pixel_at, pixel_left}
use Rattle.raster_core.specs.Lines.{Mode, Lines, context_at, adaptive, pixel_events, pseudo_context, row_events, numbers_from, same_row, IsLegalFlag}
use Rattle.qm_core.specs.Place.{IsPlace, State, Event, step, after, same}
use Rattle.qm_core.specs.Code.{Lies}
use Rattle.t85_core.specs.Private.CoderLaws.{CoderLaws}
use Rattle.t85_core.proofs.BytesJoin.ListsKeepElements.{same_list}
use Rattle.std.proofs.lemmas.Bool.Decides.{nat_tests}

-- the first k pixels are the same
pub record AgreeBelow (k : ℕ) (a b : List Bool) : Type 0 where
  pub at : (x : ℕ) → x < k → pixel_at a x ≡ pixel_at b x

left_same : {a b : List Bool} {x : ℕ} (k : ℕ) → 1 ≤ k → AgreeBelow x a b → pixel_left a x k ≡ pixel_left b x k
left_same {a} {b} {x} k some h = went (cases_lt x k) where
  went : (x < k) ⊎ (k ≤ x) → pixel_left a x k ≡ pixel_left b x k
  went (inl less) = rw (lt-ltb x k less)
  went (inr more) = rw (le-ltb x k more) (h.at (x - k) (omega arith))

abbrev pub lines : List Bool → List Bool → List Bool → Lines
lines row above second = record { row = row; above = above; second = second }

-- what a row is coded with: a mode, the rows above it, an offset, and the flag of the row before it
pub record Around : Type 0 where
  pub mode : Mode
  pub above : List Bool
  pub second : List Bool
  pub offset : ℕ
  pub previous : Bool

abbrev pub lines_in : Around → List Bool → Lines
lines_in t row = lines row t.above t.second

abbrev pub context_in : Around → List Bool → ℕ → ℕ
context_in t row x = context_at t.mode (lines_in t row) t.offset x

abbrev event : Around → List Bool → ℕ → Event
event t row x = record { context = context_in t row x; pixel = pixel_at row x }

-- n pixels of a row, from pixel k on
abbrev pub pixels_from : Around → List Bool → ℕ → ℕ → List Event
pixels_from t row k n = map (event t row) (numbers_from k n)

abbrev pub coded : Around → List Bool → Bool → List Event
coded t row flag = row_events t.mode (lines_in t row) t.offset t.previous flag

-- the same with typical prediction, or without it
abbrev pub typed : Around → Bool → Around
typed t typical = record { mode = record { two_line = t.mode.two_line; typical = typical }; above = t.above; second = t.second; offset = t.offset; previous = t.previous }

-- A row of this width with a legal flag, where the code lies after its events and more.
pub record RowIn (t : Around) (width : ℕ) (s : State) (code : List ℕ) (more : List Event) (row : List Bool) (flag : Bool) : Type 0 where
  pub wide : length row ≡ width
  pub legal : IsLegalFlag t.mode (lines_in t row) flag
  pub lies : Lies code (after s (coded t row flag ++ more)).place

pub context_same : (t : Around) {a b : List Bool} {x : ℕ} → AgreeBelow x a b → context_in t a x ≡ context_in t b x
context_same t {a} {b} {x} h =
    let e1 = left_same 1 (omega arith) h in
    let e2 = left_same 2 (omega arith) h in
    let e3 = left_same 3 (omega arith) h in
    let e4 = left_same 4 (omega arith) h in
    let e = moved t.offset in
    λ i. Rattle.raster_core.specs.Lines.binary (if t.mode.two_line
    then pixel_left t.above x 3 ∷ pixel_left t.above x 2 ∷ pixel_left t.above x 1 ∷ pixel_at t.above x ∷ pixel_at t.above (x + 1) ∷ e i ∷ e4 i ∷ e3 i ∷ e2 i ∷ e1 i ∷ []
    else pixel_left t.second x 1 ∷ pixel_at t.second x ∷ pixel_at t.second (x + 1) ∷ pixel_left t.above x 2 ∷ pixel_left t.above x 1 ∷ pixel_at t.above x ∷ pixel_at t.above (x + 1)
    ∷ e i ∷ e2 i ∷ e1 i ∷ [])
  where
    moved : (o : ℕ) → adaptive (lines a t.above t.second) o x ≡ adaptive (lines b t.above t.second) o x
    moved zero = refl
    moved (suc o) = ap (λ p. if suc o == 0 then pixel_at t.above (x + 2) else p) (left_same (suc o) (omega arith) h)

agree_more : {k : ℕ} {a b : List Bool} → AgreeBelow k a b → pixel_at a k ≡ pixel_at b k → AgreeBelow (k + 1) a b
agree_more {k} {a} {b} h e = record { at = λ x lt. went x lt (cases_lt x k) } where
  went : (x : ℕ) → x < k + 1 → (x < k) ⊎ (k ≤ x) → pixel_at a x ≡ pixel_at b x
  went x lt (inl less) = h.at x less
  went x lt (inr more) = let here : k ≡ x = omega arith in subst (λ z. pixel_at a z ≡ pixel_at b z) here e

-- codes that lie where both rows lead see the same pixels in both
module _ (q : CoderLaws) (t : Around) {a b : List Bool} (code : List ℕ) (more other : List Event) where
  same_pixels : (n k : ℕ) (s : State) → IsPlace s.place → AgreeBelow k a b →
      Lies code (after s (pixels_from t a k n ++ more)).place → Lies code (after s (pixels_from t b k n ++ other)).place → AgreeBelow (k + n) a b
  same_pixels zero k s p h la lb = record { at = λ x lt. h.at x (omega arith) }
  same_pixels (suc n) k s p h la lb =
      let cx : ℕ = context_in t a k in
      let next : (x : Bool) → IsPlace (step s cx x).place = λ x. q.pixel_keeps_place s cx x p in
      let ia = q.events_stay_inside (pixels_from t a (k + 1) n ++ more) (step s cx (pixel_at a k)) code (next (pixel_at a k)) la in
      let others : List Event = pixels_from t b (k + 1) n ++ other in
      let lb' = subst (λ u. Lies code (after (step s u (pixel_at b k)) others).place) (sym (context_same t h)) lb in
      let ib = q.events_stay_inside others (step s cx (pixel_at b k)) code (next (pixel_at b k)) lb' in
      let e : pixel_at b k ≡ pixel_at a k = q.only_pixel code s cx (pixel_at a k) (pixel_at b k) ia ib in
      let all = same_pixels n (k + 1) (step s cx (pixel_at a k)) (next (pixel_at a k)) (agree_more h (sym e)) la (subst (λ u. Lies code (after (step s cx u) others).place) e lb') in
      record { at = λ x lt. all.at x (omega arith) }

pub same_row_is : (a b : List Bool) → IsTrue (same_row a b) → a ≡ b
same_row_is [] [] h = refl
same_row_is (true ∷ a) (true ∷ b) h = ap (λ u. true ∷ u) (same_row_is a b h)
same_row_is (false ∷ a) (false ∷ b) h = ap (λ u. false ∷ u) (same_row_is a b h)
same_row_is a b h = absurd (true≢false (sym h))

same_back : (p x y : Bool) → same p x ≡ same p y → x ≡ y
same_back p x y e = grind (arith, nat_tests)

-- A code that lies where both rows lead decides the row, and whether it is typical.
pub one_row : (q : CoderLaws) {t : Around} {w : ℕ} {s : State} {code : List ℕ} {more other : List Event} {a b : List Bool} {f g : Bool} → IsPlace s.place →
    RowIn t w s code more a f → RowIn t w s code other b g → (a ≡ b) × (f ≡ g)
one_row q {t} {s} {code} {more} {other} {a} {b} {f} {g} p one two = went t.mode.typical f g one.legal two.legal one.lies two.lies where
  cx : ℕ
  cx = pseudo_context t.mode.two_line

  next : (x : Bool) → IsPlace (step s cx x).place
  next x = q.pixel_keeps_place s cx x p

  pixels : (z : State) → IsPlace z.place → Lies code (after z (pixels_from t a 0 (length a) ++ more)).place → Lies code (after z (pixels_from t b 0 (length b) ++ other)).place → a ≡ b
  pixels z at ka kb =
      let many : length b ≡ length a = two.wide ∙ sym one.wide in
      let alike : AgreeBelow (0 + length a) a b = same_pixels q t code more other (length a) 0 z at (record { at = λ x lt. absurd (omega arith) }) ka
      (subst (λ n. Lies code (after z (pixels_from t b 0 n ++ other)).place) many kb) in
      same_list false a b (sym many) (λ i lt. alike.at i (omega arith))

  flags_same : (z y : Bool) (es fs : List Event) → Lies code (after (step s cx (same t.previous z)) es).place → Lies code (after (step s cx (same t.previous y)) fs).place → z ≡ y
  flags_same z y es fs ka kb =
      let ia = q.events_stay_inside es (step s cx (same t.previous z)) code (next (same t.previous z)) ka in
      let ib = q.events_stay_inside fs (step s cx (same t.previous y)) code (next (same t.previous y)) kb in
      same_back t.previous z y (sym (q.only_pixel code s cx (same t.previous z) (same t.previous y) ia ib))

  went : (u z y : Bool) → (IsTrue z → IsTrue (u && same_row a t.above)) → (IsTrue y → IsTrue (u && same_row b t.above)) →
      Lies code (after s (coded (typed t u) a z ++ more)).place → Lies code (after s (coded (typed t u) b y ++ other)).place → (a ≡ b) × (z ≡ y)
  went true true true h k ka kb = (same_row_is a t.above (h refl) ∙ sym (same_row_is b t.above (k refl)), refl)
  went true true false h k ka kb = absurd (true≢false (flags_same true false more (pixels_from t b 0 (length b) ++ other) ka kb))
  went true false true h k ka kb = absurd (true≢false (sym (flags_same false true (pixels_from t a 0 (length a) ++ more) other ka kb)))
  went true false false h k ka kb = (pixels (step s cx (same t.previous false)) (next (same t.previous false)) ka kb, refl)
  went false true y h k ka kb = absurd (true≢false (sym (h refl)))
  went false false true h k ka kb = absurd (true≢false (sym (k refl)))
  went false false false h k ka kb = (pixels s p ka kb, refl)
