-- The table in the code is the standard's.
use Rattle.std.proofs.Common.{◌≡◌, ℕ, zero, suc, ◌+◌, ◌-◌, ◌*◌, ◌/◌, ◌%◌, ◌<◌, ◌≤◌, Bool, true, false, cond, not, ◌&&◌, List, [], ◌∷◌, length, get_or, leb, eqb, arith, refl, add-zero, zero-add, nat_eq, ◌⊎◌, inl, inr, lit<}
use Rattle.std.proofs.lemmas.Bool.{eqb-true, leb-true, and_parts}
use Rattle.qm_core.specs.declared.entries.TheConstants.{ENTRIES, WHITE_COSTS, BLACK_COSTS}
use Rattle.qm_core.specs.declared.entries.Entry.{Entry}
use Rattle.qm_core.specs.Table.{row_at, table, Row}
use Rattle.qm_core.specs.Place.{same}
use Rattle.qm_core.specs.Machine.{estimate}

bit : Bool → ℕ
bit true = 1
bit false = 0

-- a cell's entry is that of the standard's row
pub fits : Row → ℕ → Entry → Bool
fits r m e =
    eqb e.span (128 * r.size) && leb 1 r.size && leb r.size 0x5B12
    && eqb e.favoured (2 * r.favoured + m)
    && eqb e.other (2 * r.other + cond r.switch (1 - m) m)

pub all_from : ℕ → List Entry → Bool
unfolding fits row_at table
all_from k [] = true
all_from k (e ∷ es) = fits (row_at (k / 2)) (k % 2) e && all_from (k + 1) es

pub all_fit : all_from 0 ENTRIES ≡ true
unfolding all_from fits row_at table
all_fit = refl

pub fits_at : (k : ℕ) (es : List Entry) (d : Entry) → all_from k es ≡ true → (i : ℕ) → i < length es → fits (row_at ((k + i) / 2)) ((k + i) % 2) (get_or es i d) ≡ true
unfolding all_from
fits_at k [] d h i l = absurd (omega arith)
fits_at k (e ∷ es) d h zero l = rw add-zero (and_parts _ _ h).0
fits_at k (e ∷ es) d h (suc i) l =
    let e1 : k + suc i ≡ (k + 1) + i = omega arith in
    rw e1 (fits_at (k + 1) es d (and_parts _ _ h).1 i (omega arith))

-- what an entry says
pub record Says (e : Entry) (cell : ℕ) : Type 0 where
  pub span : e.span ≡ 128 * (row_at (cell / 2)).size
  pub small : e.span ≤ 128 * 0x5B12
  pub large : 128 ≤ e.span
  pub favoured : e.favoured ≡ 2 * (row_at (cell / 2)).favoured + cell % 2
  pub other : e.other ≡ 2 * (row_at (cell / 2)).other + cond (row_at (cell / 2)).switch (1 - cell % 2) (cell % 2)

says_from_fits : (e : Entry) (cell : ℕ) → fits (row_at (cell / 2)) (cell % 2) e ≡ true → Says e cell
unfolding fits
says_from_fits e cell h =
    let a = (and_parts _ _ h).0 in
    let b = (and_parts _ _ a).0 in
    let c = (and_parts _ _ b).0 in
    let s : e.span ≡ 128 * (row_at (cell / 2)).size = eqb-true _ _ (and_parts _ _ c).0 in
    let l : 1 ≤ (row_at (cell / 2)).size = leb-true _ _ (and_parts _ _ c).1 in
    let m : (row_at (cell / 2)).size ≤ 0x5B12 = leb-true _ _ (and_parts _ _ b).1 in
    record {
      span = s;
      small = omega arith;
      large = omega arith;
      favoured = eqb-true _ _ (and_parts _ _ a).1;
      other = eqb-true _ _ (and_parts _ _ h).1;
    }

pub entry_says : (cell : ℕ) → cell < 256 → Says (get_or ENTRIES cell (record { span = 0; favoured = 0; other = 0 })) cell
entry_says cell h = says_from_fits _ cell (rw zero-add at (fits_at 0 ENTRIES (record { span = 0; favoured = 0; other = 0 }) all_fit cell h))

-- an estimate written in a byte
pub estimate-written : (r m : ℕ) → m < 2 → estimate (2 * r + m) ≡ record { row = r; pixel = nat_eq m 1 }
estimate-written r m h =
    let q : (2 * r + m) / 2 ≡ r = omega arith in
    let e : (2 * r + m) % 2 ≡ m = omega arith in
    rw (q, e) refl

bit_cases : (m : ℕ) → m < 2 → (m ≡ 0) ⊎ (m ≡ 1)
bit_cases m h = grind arith

pub switched : (b : Bool) (m : ℕ) → m < 2 → (cond b (1 - m) m < 2) × (nat_eq (cond b (1 - m) m) 1 ≡ same (nat_eq m 1) (not b))
switched b m h = elim (bit_cases m h) [
  | inl z ↦ elim b as (λ v. (cond v (1 - m) m < 2) × (nat_eq (cond v (1 - m) m) 1 ≡ same (nat_eq m 1) (not v))) [ true ↦ rw z (lit< tt, refl) | false ↦ rw z (lit< tt, refl) ]
  | inr z ↦ elim b as (λ v. (cond v (1 - m) m < 2) × (nat_eq (cond v (1 - m) m) 1 ≡ same (nat_eq m 1) (not v))) [ true ↦ rw z (lit< tt, refl) | false ↦ rw z (lit< tt, refl) ]
]

-- ---- costs

pub cost_fits : Bool → Row → ℕ → ℕ → Bool
cost_fits pixel r m cost = eqb cost (cond (same pixel (nat_eq m 1)) (128 * r.size) 0x800000)

pub costs_from : Bool → ℕ → List ℕ → Bool
unfolding cost_fits row_at table
costs_from pixel k [] = true
costs_from pixel k (cost ∷ costs) = cost_fits pixel (row_at (k / 2)) (k % 2) cost && costs_from pixel (k + 1) costs

pub all_white : costs_from false 0 WHITE_COSTS ≡ true
unfolding costs_from cost_fits row_at table
all_white = refl

pub all_black : costs_from true 0 BLACK_COSTS ≡ true
unfolding costs_from cost_fits row_at table
all_black = refl

costs_at : (pixel : Bool) (k : ℕ) (costs : List ℕ) → costs_from pixel k costs ≡ true → (i : ℕ) → i < length costs → cost_fits pixel (row_at ((k + i) / 2)) ((k + i) % 2) (get_or costs i 0) ≡ true
unfolding costs_from
costs_at pixel k [] h i l = absurd (omega arith)
costs_at pixel k (cost ∷ costs) h zero l = rw add-zero (and_parts _ _ h).0
costs_at pixel k (cost ∷ costs) h (suc i) l =
    let e1 : k + suc i ≡ (k + 1) + i = omega arith in
    rw e1 (costs_at pixel (k + 1) costs (and_parts _ _ h).1 i (omega arith))

-- the table of a pixel
abbrev pub costs_of : Bool → List ℕ
costs_of pixel = cond pixel BLACK_COSTS WHITE_COSTS

pub cost_at : (pixel : Bool) (cell : ℕ) → cell < 256 → get_or (costs_of pixel) cell 0 ≡ cond (same pixel (estimate cell).pixel) (128 * (row_at (cell / 2)).size) 0x800000
unfolding cost_fits
cost_at false cell h = eqb-true _ _ (rw zero-add at (costs_at false 0 WHITE_COSTS all_white cell h))
cost_at true cell h = eqb-true _ _ (rw zero-add at (costs_at true 0 BLACK_COSTS all_black cell h))

-- how large the less probable part is
pub small_size : (cell : ℕ) → cell < 256 → (row_at (cell / 2)).size ≤ 0x5B12
small_size cell h =
    let says = entry_says cell h in
    omega (arith, says.span, says.small)

pub cost_most : (pixel : Bool) (cell : ℕ) → cell < 256 → get_or (costs_of pixel) cell 0 ≤ 0x800000
cost_most pixel cell h =
    let small = small_size cell h in
    rw (cost_at pixel cell h) (elim (same pixel (estimate cell).pixel) as (λ b. cond b (128 * (row_at (cell / 2)).size) 0x800000 ≤ 0x800000) [ true ↦ omega arith | false ↦ omega arith ])
