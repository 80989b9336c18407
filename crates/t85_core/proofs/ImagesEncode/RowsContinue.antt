-- The rows of a stripe, where the first rows of the image are known.
use Rattle.std.proofs.Common.{◌≡◌, ℕ, ◌+◌, ◌-◌, ◌≤◌, List, ◌++◌, length, take, drop, sym, ◌∙◌, ap, arith, append_assoc, length-append}
use Rattle.std.specs.Prelude.{min}
use Rattle.std.proofs.lemmas.List.{length-take, length-drop}
use Rattle.t85_core.proofs.BytesJoin.ListsKeepElements.{Continues, get_left, get_right, split_at}

part_continues : {X : Type 0} {all : List X} {n : ℕ} (d : X) (first rows rest : List X) → all ≡ first ++ (rows ++ rest) → length first ≡ n → Continues d all n rows
part_continues {n} d first rows rest all_is many k lt =
    rw (all_is, ← many, get_right) (get_left rows rest k d lt)

pub front_splits : {X : Type 0} {front all : List X} → take (length front) all ≡ front → (length front ≤ length all) × (all ≡ front ++ drop (length front) all)
front_splits {front} {all} is =
    let long : length front ≤ length all = (let e = ap length (sym is) ∙ length-take (length front) all in omega arith) in
    (long, sym (split_at (length front) all long).0 ∙ ap (λ z. z ++ drop (length front) all) is)

-- Rows of an image after its first n rows.
pub rows_continue : {X : Type 0} {n : ℕ} (d : X) (all first rows : List X) → take (length (first ++ rows)) all ≡ first ++ rows → length first ≡ n → Continues d all n rows
rows_continue d all first rows is many =
    part_continues d first rows (drop (length (first ++ rows)) all) ((front_splits is).1 ∙ append_assoc first rows (drop (length (first ++ rows)) all)) many

-- a beginning of a stripe's rows, and those that come after it
pub record RowsGoOn {X : Type 0} (d : X) (all : List X) (n l : ℕ) (part : List X) : Type 0 where
  pub later : List X
  pub many : length part + length later ≡ min l (length all - n)
  pub continues : Continues d all n (part ++ later)

pub rows_go_on : {X : Type 0} {n l : ℕ} {d : X} {all part : List X} (first : List X) → take (length (first ++ part)) all ≡ first ++ part → length first ≡ n →
    length part ≤ min l (length all - n) →
    RowsGoOn d all n l part
rows_go_on {X} {n} {l} {d} {all} {part} first is many few = record {
  later = later;
  many = omega (arith, later_many);
  continues = part_continues d first (part ++ later) rest all_is many;
} where
  behind : List X
  behind = drop (length (first ++ part)) all

  later : List X
  later = take (min l (length all - n) - length part) behind

  rest : List X
  rest = drop (min l (length all - n) - length part) behind

  enough : min l (length all - n) - length part ≤ length behind
  enough =
      let e = length-drop (length (first ++ part)) all in
      let f = length-append first part in
      omega (arith, many)

  later_many : length later ≡ min l (length all - n) - length part
  later_many = (split_at (min l (length all - n) - length part) behind enough).1

  all_is : all ≡ first ++ ((part ++ later) ++ rest)
  all_is =
      (front_splits is).1
      ∙ append_assoc first part behind
      ∙ ap (λ z. first ++ (part ++ z)) (sym (split_at (min l (length all - n) - length part) behind enough).0)
      ∙ ap (λ z. first ++ z) (sym (append_assoc part later rest))
