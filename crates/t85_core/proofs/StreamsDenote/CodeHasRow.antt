-- Each code has a row at each place in which it lies.
use Rattle.std.proofs.Common.{◌≡◌, ℕ, zero, suc, Bool, true, false, List, [], ◌∷◌, ◌++◌, length, refl, ap, sym, subst, append_assoc, append-nil, length-append, true≢false, arith}
use Rattle.raster_core.specs.Raster.{pixel_at}
use Rattle.raster_core.specs.Lines.{pseudo_context}
use Rattle.qm_core.specs.Place.{IsPlace, State, step, after, same}
use Rattle.qm_core.specs.Code.{Lies}
use Rattle.t85_core.specs.Private.CoderLaws.{CoderLaws}
use Rattle.t85_core.proofs.BytesJoin.ListsKeepElements.{get_left, get_here}
use Rattle.t85_core.proofs.StreamsDenote.CodeDecidesRow.{Around, RowIn, context_in, context_same, pixels_from, typed}
use Rattle.t85_core.proofs.BodiesDecode.TypicalRowsAreCopies.{same_row_self}
use Rattle.std.proofs.lemmas.Bool.Decides.{nat_tests}

-- what a code has of a row, after the pixels that are there
record Pixels (t : Around) (code : List ℕ) (m : ℕ) (done : List Bool) (s : State) : Type 0 where
  pub rest : List Bool
  pub many : length rest ≡ m
  pub lies : Lies code (after s (pixels_from t (done ++ rest) (length done) m)).place

some_pixels : (q : CoderLaws) (t : Around) {code : List ℕ} (m : ℕ) (done : List Bool) (s : State) → IsPlace s.place → Lies code s.place → Pixels t code m done s
some_pixels q t zero done s p l = record { rest = []; many = refl; lies = l }
some_pixels q t {code} (suc m) done s p l =
    let cx : ℕ = context_in t done (length done) in
    let x = q.one_pixel code s cx p l in
    let k = some_pixels q t m (done ++ x.pixel ∷ []) (step s cx x.pixel) (q.pixel_keeps_place s cx x.pixel p) x.inside in
    let row : List Bool = done ++ x.pixel ∷ k.rest in
    let whole = append_assoc done (x.pixel ∷ []) k.rest in
    let longer = length-append done (x.pixel ∷ []) in
    let same_cx : context_in t row (length done) ≡ cx = context_same t (record { at = λ i lt. get_left done (x.pixel ∷ k.rest) i false lt }) in
    let same_x : pixel_at row (length done) ≡ x.pixel = get_here done x.pixel k.rest false in
    let lies = subst (λ u. Lies code u.place) (λ i. after (step s (sym same_cx i) (sym same_x i)) (pixels_from t (whole i) (longer i) m)) k.lies in
    record { rest = x.pixel ∷ k.rest; many = ap suc k.many; lies = lies }

pub record SomeRow (t : Around) (width : ℕ) (s : State) (code : List ℕ) : Type 0 where
  pub row : List Bool
  pub flag : Bool
  pub is : RowIn t width s code [] row flag

pub same_twice : (p x : Bool) → same p (same p x) ≡ x
same_twice p x = grind (arith, nat_tests)

pub some_row : (q : CoderLaws) (t : Around) {w : ℕ} {s : State} {code : List ℕ} → length t.above ≡ w → IsPlace s.place → Lies code s.place → SomeRow t w s code
some_row q t {w} {s} {code} wide p l = went t.mode.typical where
  -- pixel by pixel
  plain : {z : State} (k : Pixels t code w [] z) → Lies code (after z (pixels_from t k.rest 0 (length k.rest) ++ [])).place
  plain {z} k = rw (append-nil (pixels_from t k.rest 0 (length k.rest)), k.many) k.lies

  cx : ℕ
  cx = pseudo_context t.mode.two_line

  flagged : (f : Bool) → Lies code (step s cx (same t.previous f)).place → SomeRow (typed t true) w s code
  flagged true k = record { row = t.above; flag = true; is = record { wide = wide; legal = λ h. same_row_self t.above; lies = k } }
  flagged false k =
      let r = some_pixels q t w [] (step s cx (same t.previous false)) (q.pixel_keeps_place s cx (same t.previous false) p) k in
      record { row = r.rest; flag = false; is = record { wide = r.many; legal = λ h. absurd (true≢false (sym h)); lies = plain r } }

  went : (u : Bool) → SomeRow (typed t u) w s code
  went false = let r = some_pixels q t w [] s p l in record { row = r.rest; flag = false; is = record { wide = r.many; legal = λ h. h; lies = plain r } }
  went true =
      let x = q.one_pixel code s cx p l in
      flagged (same t.previous x.pixel) (subst (λ b. Lies code (step s cx b).place) (sym (same_twice t.previous x.pixel)) x.inside)
