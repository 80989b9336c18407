-- How what a consumer of rows has taken grows.
use Rattle.std.proofs.Common.{◌≡◌, ◌≤◌, ◌<◌, ◌+◌, ◌*◌, ℕ, suc, true, List, ◌∷◌, ◌++◌, length, take, drop, Option, Some, None, refl, sym, ap, ◌∙◌, arith, append_assoc, append-nil}
use Rattle.std.specs.Prelude.{is_some}
use Rattle.std.proofs.lemmas.List.{drop-drop}
use borrow.Rule.Slice.PartMut.{put_mid}
use Rattle.libt85.specs.Delivered.{lined, outside}
use Rattle.libt85.specs.LinedSink.{LinedState, taken}
use Rattle.libt85.proofs.RowIsPlaced.{place, placed_outside, placed_lined, length_placed}

pub not_spilled : (spilled : Option ℕ) → (is_some spilled ≡ true → ⊥) → spilled ≡ None
not_spilled None none = refl
not_spilled (Some b) none = absurd (none refl)

pub spilled_by : (spilled : Option ℕ) → is_some spilled ≡ true → (b : ℕ) × (spilled ≡ Some b)
spilled_by None some = cc
spilled_by (Some b) some = (b, refl)

put_place : (a k : ℕ) (xs ys : List ℕ) → k ≡ length ys → put_mid a k xs ys ≡ place xs a ys
put_place a k xs ys long = ap (λ l. take a xs ++ (ys ++ l)) (drop-drop k a xs ∙ ap (λ n. drop (a + n) xs) long)

-- there is room for this row
pub record HasRoom (s : LinedState) (chunk : List ℕ) : Type 0 where
  pub apart : s.row ≤ s.stride
  pub none : s.spilled ≡ None
  pub few : s.y < s.fit
  pub whole : length chunk ≡ s.row
  pub within : s.y * s.stride + s.row ≤ length s.bytes

-- it was put behind the others
pub row_taken : {k : ℕ} {s : LinedState} {chunk : List ℕ} (y' : ℕ) → HasRoom s chunk → k ≡ length chunk → y' ≡ suc s.y →
    taken (record s { bytes = put_mid (s.y * s.stride) k s.bytes chunk; y = y' }) ≡ taken s ++ chunk
row_taken {k} {s} {chunk} y' has long more =
    let at = s.y * s.stride in
    let out = outside s.fit s.row s.stride s.bytes in
    let rows = lined s.y s.row s.stride s.bytes in
    rw (
      put_place at k s.bytes chunk long,
      more,
      has.none,
      length_placed s.bytes at chunk (omega (arith, has.whole, has.within)),
      placed_outside s.row s.stride has.apart chunk has.whole s.fit s.y at s.bytes refl has.few has.within,
      placed_lined s.row s.stride has.apart chunk has.whole s.y at s.bytes refl has.within,
    )
    (simp append-nil (ap (λ l. length s.bytes ∷ s.row ∷ s.stride ∷ s.fit ∷ l) (sym (append_assoc out rows chunk))))
