-- The rows that bytes hold in the raw form.
use Rattle.std.proofs.Common.{◌≡◌, ◌≤◌, ◌<◌, ◌+◌, ◌⊎◌, inl, inr, ℕ, zero, suc, Bool, List, [], ◌∷◌, ◌++◌, length, take, drop, map, refl, sym, ap, ◌∙◌, arith, append_assoc, append-nil, length-append, take-append-drop}
use Rattle.std.specs.List.{AllByRecursion}
use Rattle.std.proofs.lemmas.Bool.{cases_lt}
use Rattle.std.proofs.lemmas.Grind.{common_steps}
use Rattle.std.proofs.Math.Seq.{take-append_seam, drop-append_seam}
use Rattle.pbm_core.specs.declared.form.Form.TheVariants.{Raw}
use Rattle.pbm_core.specs.declared.fault.PbmFault.TheVariants.{Truncated}
use Rattle.pbm_core.specs.Pbm.{bytes_of_row}
use Rattle.pbm_core.specs.Image.{HoldsRows, HasRowFault, AreRows, pixels_of, numbers_from}

pixel_count : (f : ℕ → Bool) (k n : ℕ) → length (map f (numbers_from k n)) ≡ n
pixel_count f k zero = refl
pixel_count f k (suc n) = ap suc (pixel_count f (k + 1) n)

-- two fronts of one length are the same
pub same_front : {A : Type 0} (a b after behind : List A) → a ++ after ≡ b ++ behind → length a ≡ length b → (a ≡ b) × (after ≡ behind)
same_front a b after behind same long = (
  sym (take-append_seam a after) ∙ ap (take (length a)) same ∙ ap (λ n. take n (b ++ behind)) long ∙ take-append_seam b behind,
  sym (drop-append_seam a after) ∙ ap (drop (length a)) same ∙ ap (λ n. drop n (b ++ behind)) long ∙ drop-append_seam b behind,
)

-- as many rows as needed, or all of them
pub record RowsOf (width wanted : ℕ) (body : List ℕ) : Type 0 where
  pub rows : List (List Bool)
  pub rest : List ℕ
  pub holds : HoldsRows Raw body width rows rest
  pub wide : AllByRecursion (λ row. length row ≡ width) rows
  pub ends : (length rows ≡ wanted) ⊎ ((length rows < wanted) × (length rest < bytes_of_row width))

module _ (width : ℕ) where
  one_more : (n : ℕ) (body : List ℕ) → bytes_of_row width ≤ length body → RowsOf width n (drop (bytes_of_row width) body) → RowsOf width (suc n) body
  one_more n body long more =
      let first : List ℕ = take (bytes_of_row width) body in
      let count : length first ≡ bytes_of_row width = grind (arith, common_steps) in
      record {
        rows = pixels_of width first ∷ more.rows;
        rest = more.rest;
        holds = record {
          front = first ++ more.holds.front;
          bytes_are = sym (take-append-drop (bytes_of_row width) body) ∙ ap (λ l. first ++ l) more.holds.bytes_are ∙ sym (append_assoc first more.holds.front more.rest);
          are_rows = (first, more.holds.front, refl, (count, refl), more.holds.are_rows);
        };
        wide = (pixel_count _ 0 width, more.wide);
        ends = elim more.ends [ inl all ↦ inl (ap suc all) | inr few ↦ inr (omega (arith, few.0), few.1) ];
      }

  pub rows_of : (wanted : ℕ) (body : List ℕ) → RowsOf width wanted body
  rows_of zero body = record { rows = []; rest = body; holds = record { front = []; bytes_are = refl; are_rows = refl }; wide = tt; ends = inl refl }
  rows_of (suc n) body = elim (cases_lt (length body) (bytes_of_row width)) [
    | inl short ↦ record { rows = []; rest = body; holds = record { front = []; bytes_are = refl; are_rows = refl }; wide = tt; ends = inr (omega arith, short) }
    | inr long ↦ one_more n body long (rows_of n (drop (bytes_of_row width) body))
  ]

  -- bytes that end within a row
  pub ends_within : (rest : List ℕ) → length rest < bytes_of_row width → HasRowFault Raw width rest Truncated
  ends_within rest short = record { front = rest; rest = []; bytes_are = sym (append-nil rest); shows = (short, refl); at_end = λ _. refl }

  -- the rows of a beginning are the first rows
  pub first_rows : (some all : List (List Bool)) (front more whole rest : List ℕ) → front ++ more ≡ whole ++ rest → AreRows Raw width front some → AreRows Raw width whole all →
      (length some ≤ length all) ⊎ (length rest < bytes_of_row width) → (length some ≤ length all) × (take (length some) all ≡ some)
  first_rows [] all front more whole rest same are are' ends = (omega arith, refl)
  first_rows (row ∷ some) [] front more whole rest same are are' (inl few) = absurd (omega arith)
  first_rows (row ∷ some) [] front more whole rest same are are' (inr short) =
      let long : length front ≡ length are.0 + length are.1 = ap length are.2 ∙ length-append are.0 are.1 in
      let count : length are.0 ≡ bytes_of_row width = are.3.0 in
      let none : length whole ≡ 0 = ap length are' in
      let equal : length front + length more ≡ length whole + length rest = sym (length-append front more) ∙ ap length same ∙ length-append whole rest in
      absurd (omega arith)
  first_rows (row ∷ some) (row' ∷ all) front more whole rest same are are' ends =
      let a = are.0 in
      let b = are'.0 in
      let equal : a ++ (are.1 ++ more) ≡ b ++ (are'.1 ++ rest) = sym (append_assoc a are.1 more) ∙ ap (λ l. l ++ more) (sym are.2) ∙ same ∙ ap (λ l. l ++ rest) are'.2 ∙ append_assoc b are'.1 rest in
      let fronts = same_front a b (are.1 ++ more) (are'.1 ++ rest) equal (are.3.0 ∙ sym are'.3.0) in
      let pixels : row ≡ row' = are.3.1 ∙ ap (pixels_of width) fronts.0 ∙ sym are'.3.1 in
      let ends' : (length some ≤ length all) ⊎ (length rest < bytes_of_row width) = elim ends [ inl few ↦ inl (omega arith) | inr short ↦ inr short ] in
      let rec = first_rows some all are.1 more are'.1 rest fronts.1 are.4 are'.4 ends' in
      (omega (arith, rec.0), ap (λ l. row' ∷ l) rec.1 ∙ ap (λ r. r ∷ some) (sym pixels))
