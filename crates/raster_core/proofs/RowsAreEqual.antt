-- Rows that are equal.
use Rattle.std.proofs.Common.{◌≡◌, ◌≢◌, ℕ, ◌+◌, ◌-◌, ◌*◌, ◌/◌, ◌%◌, ◌^◌, Bool, true, false, List, [], ◌∷◌, length, refl, sym, ◌∙◌, ap, arith}
use Rattle.std.specs.Prelude.{slice_index, ◌&&◌}
use Rattle.std.specs.Bool.{Decides}
use Rattle.std.proofs.lemmas.List.{ext_get_or}
use Rattle.qm_core.specs.Place.{same}
use Rattle.raster_core.specs.Raster.{pixel_at}
use Rattle.raster_core.specs.Lines.{same_row}
use Rattle.raster_core.specs.Packed.{packed_row}
use Rattle.raster_core.specs.Machine.Registers.{bit}
use Rattle.raster_core.proofs.RegistersTakeBytes.{packed_byte}
use Rattle.raster_core.proofs.ByteHoldsPixels.{pixel_in}
use Rattle.raster_core.proofs.CountsAdd.{same_self}
use Rattle.raster_core.proofs.PixelNumbersSplit.{bit_same}

-- the pixel at x, from the bytes
pixel_of : (row : List Bool) (x : ℕ) → slice_index (packed_row row) (x / 8) / 2 ^ (7 - x % 8) % 2 ≡ bit (pixel_at row x)
pixel_of row x =
    let e : 8 * (x / 8) + x % 8 ≡ x = omega arith in
    rw (pixel_in row (8 * (x / 8)) (x % 8) (packed_byte row (x / 8)) (omega arith), e) refl

pub packed_same : (a b : List Bool) → length a ≡ length b → packed_row a ≡ packed_row b → a ≡ b
packed_same a b l h =
    ext_get_or false a b l (λ x k. bit_same (pixel_at a x) (pixel_at b x) (rw (← pixel_of a x, h) (pixel_of b x)))

pub same_row_self : (row : List Bool) → same_row row row ≡ true
same_row_self [] = refl
same_row_self (b ∷ row) = rw (same_self b, same_row_self row) refl

pub same_only : (x y : Bool) → same x y ≡ true → x ≡ y
same_only true y h = sym h
same_only false true h = cc
same_only false false h = refl

by : (x y : Bool) (a b : List Bool) → (same_row a b ≡ true → a ≡ b) → (t : Bool) → same x y ≡ t → (t && same_row a b) ≡ true → x ∷ a ≡ y ∷ b
by x y a b tails true e g = let p = same_only x y e in let q = tails g in cc
by x y a b tails false e g = cc

pub same_row_only : (a b : List Bool) → same_row a b ≡ true → a ≡ b
same_row_only [] [] h = refl
same_row_only [] (y ∷ b) h = cc
same_row_only (x ∷ a) [] h = cc
same_row_only (x ∷ a) (y ∷ b) h = by x y a b (same_row_only a b) (same x y) refl h

pub rows_same : (a b : List Bool) → packed_row a ≡ packed_row b → length a ≡ length b → same_row a b ≡ true
rows_same a b h l = rw (← packed_same a b l h) (same_row_self a)

pub rows_other : (a b : List Bool) → packed_row a ≢ packed_row b → same_row a b ≡ false
rows_other a b ne = by (same_row a b) refl
  where
    by : (t : Bool) → same_row a b ≡ t → t ≡ false
    by false e = refl
    by true e = absurd (ne (ap packed_row (same_row_only a b e)))

pub typical_test : {xs ys : List ℕ} (r : Bool) (a b : List Bool) → Decides r (xs ≡ ys) → xs ≡ packed_row a → ys ≡ packed_row b → length a ≡ length b → r ≡ same_row a b
typical_test true a b h p q l = sym (rows_same a b (sym p ∙ (h.0 refl ∙ q)) l)
typical_test false a b h p q l = sym (rows_other a b (λ e. let t = h.1 (p ∙ (e ∙ sym q)) in cc))
