-- The heights that segments give.
use Rattle.std.proofs.Common.{◌≡◌, ◌≤◌, ◌+◌, ◌-◌, ◌*◌, ◌<◌, ℕ, zero, suc, true, List, [], ◌∷◌, ◌++◌, length, refl, ap, length-append, arith, ◌⊎◌, inl, inr}
use Rattle.std.specs.List.{AllByRecursion}
use Rattle.std.proofs.lemmas.Bool.Decides.{nat_tests}
use Rattle.std.proofs.lemmas.Grind.{div_ceil_times}
use Rattle.std.proofs.Math.Nat.{mul-le-mul_right}
use Rattle.t85_core.specs.Header.{Fields}
use Rattle.t85_core.specs.Grammar.{Segment, NewLength, Move, Comment, lengths, GiveOnly, IsLegal, is_valid_length, stripe_count}
use Rattle.t85_core.proofs.BytesJoin.ListsGrow.{All-append}
use Rattle.std.proofs.lemmas.Bool.{cases_lt}

pub lengths_append : (ss ts : List Segment) → lengths (ss ++ ts) ≡ lengths ss ++ lengths ts
lengths_append [] ts = refl
lengths_append (NewLength a ∷ ss) ts = rw (lengths_append ss ts)
lengths_append (Move row offset ∷ ss) ts = lengths_append ss ts
lengths_append (Comment text ∷ ss) ts = lengths_append ss ts

-- how many there are
pub many_lengths : (ss ts : List Segment) → length (lengths (ss ++ ts)) ≡ length (lengths ss) + length (lengths ts)
many_lengths ss ts = rw lengths_append (length-append (lengths ss) (lengths ts))

left_of : (P : ℕ → Type 0) (xs ys : List ℕ) → AllByRecursion P (xs ++ ys) → AllByRecursion P xs
left_of P [] ys h = tt
left_of P (x ∷ xs) ys h = (h.0, left_of P xs ys h.1)

right_of : (P : ℕ → Type 0) (xs ys : List ℕ) → AllByRecursion P (xs ++ ys) → AllByRecursion P ys
right_of P [] ys h = h
right_of P (x ∷ xs) ys h = right_of P xs ys h.1

module _ (height heights : ℕ) where
  all_in : (ss ts : List Segment) → GiveOnly height heights (ss ++ ts) → AllByRecursion (λ n. n ≡ height) (lengths ss ++ lengths ts)
  all_in ss ts g = rw (← lengths_append) g.this

  pub gives_left : (ss ts : List Segment) → GiveOnly height heights (ss ++ ts) → GiveOnly height heights ss
  gives_left ss ts g = record { one = (let e = many_lengths ss ts in omega arith); this = left_of (λ n. n ≡ height) (lengths ss) (lengths ts) (all_in ss ts g) }

  pub gives_right : (ss ts : List Segment) → GiveOnly height heights (ss ++ ts) → GiveOnly height (heights + length (lengths ss)) ts
  gives_right ss ts g = record { one = (let e = many_lengths ss ts in omega arith); this = right_of (λ n. n ≡ height) (lengths ss) (lengths ts) (all_in ss ts g) }

  pub gives_both : {ss : List Segment} (ts : List Segment) → GiveOnly height heights ss → GiveOnly height (heights + length (lengths ss)) ts → GiveOnly height heights (ss ++ ts)
  gives_both {ss} ts g k = record {
    one = (let e = many_lengths ss ts in omega arith);
    this = rw lengths_append (All-append (λ n. n ≡ height) (lengths ss) (lengths ts) g.this k.this);
  }

  pub gives_none : (ss : List Segment) → heights ≤ 1 → lengths ss ≡ [] → GiveOnly height heights ss
  gives_none ss few none = record { one = (let e = ap length none in omega arith); this = rw none tt }

-- where 0 is in use no height that is legal is given
pub legal_give_none : (h : Fields) (ss : List Segment) → AllByRecursion (IsLegal h) ss → AllByRecursion (λ n. n ≡ 0) (lengths ss) → lengths ss ≡ []
legal_give_none h [] l g = refl
legal_give_none h (NewLength n ∷ ss) l g = absurd (omega arith)
legal_give_none h (Move row offset ∷ ss) l g = legal_give_none h ss l.1 g
legal_give_none h (Comment text ∷ ss) l g = legal_give_none h ss l.1 g

-- ---- valid heights

pub valid_parts : (h : Fields) (k n : ℕ) → is_valid_length h k n ≡ true → (1 ≤ n) × (n ≤ h.yd)
valid_parts h k n e = (grind (arith, nat_tests), grind (arith, nat_tests))

-- and the last of so many stripes has a row
pub valid_over : (h : Fields) (k n : ℕ) → is_valid_length h k n ≡ true → (k - 1) * h.l0 < n
valid_over h k n e = grind (arith, nat_tests)

-- a height that has a row after e stripes has more than e stripes
pub more_stripes : (n l e : ℕ) → 1 ≤ l → e * l < n → e < stripe_count n l
more_stripes n l e one over = went (cases_lt e (stripe_count n l)) where
  went : (e < stripe_count n l) ⊎ (stripe_count n l ≤ e) → e < stripe_count n l
  went (inl lt) = lt
  went (inr le) = let k = mul-le-mul_right l le in let t = div_ceil_times n l one in absurd (omega arith)

-- a height in use is valid after as many entities as it makes, or fewer
pub valid_in_use : (h : Fields) (height k : ℕ) → 0 < h.l0 → 1 ≤ height → height ≤ h.yd → k ≤ stripe_count height h.l0 → is_valid_length h k height ≡ true
valid_in_use h height k some one most few =
    let near = below k few in
    grind (arith, nat_tests)
  where
    below : (k : ℕ) → k ≤ stripe_count height h.l0 → (k - 1) * h.l0 < height
    below zero few = let z : (0 - 1) * h.l0 ≡ 0 = omega arith in omega arith
    below (suc j) few =
        let up = mul-le-mul_right h.l0 few in
        let t = div_ceil_times height h.l0 some in
        let e : suc j - 1 ≡ j = omega arith in
        let c : (suc j - 1) * h.l0 ≡ j * h.l0 = rw e in
        omega arith
