-- Counts over ranges of numbers.
use Rattle.std.proofs.Common.{◌≡◌, ℕ, zero, suc, ◌+◌, ◌<◌, Bool, true, false, ◌++◌, refl, sym, ◌∙◌, ap, arith, cond, add-zero, zero-add}
use Rattle.std.specs.Prelude.{count_by}
use Rattle.std.proofs.lemmas.List.Sums.{sum_by-cons, sum_by-append}
use Rattle.qm_core.specs.Place.{same}
use Rattle.raster_core.specs.Lines.{numbers_from}

pub shifted : (x i : ℕ) → (x + 1) + i ≡ x + (i + 1)
shifted x i = omega arith

-- a count by places, from elsewhere
pub count_same : (f g : ℕ → Bool) (a b n : ℕ) → ((i : ℕ) → i < n → f (a + i) ≡ g (b + i)) → count_by f (numbers_from a n) ≡ count_by g (numbers_from b n)
count_same f g a b zero h = refl
count_same f g a b (suc n) h =
    let first : f a ≡ g b = rw (← add-zero a, h 0 (omega arith), add-zero b) refl in
    rw (sum_by-cons (λ x. cond (f x) 1 0) a (numbers_from (a + 1) n), first, count_same f g (a + 1) (b + 1) n (λ i lt. ap f (shifted a i) ∙ h (i + 1) (omega arith) ∙ ap g (sym (shifted b i))))
    (sym (sum_by-cons (λ x. cond (g x) 1 0) b (numbers_from (b + 1) n)))

pub numbers_cat : (a n k : ℕ) → numbers_from a (n + k) ≡ numbers_from a n ++ numbers_from (a + n) k
numbers_cat a zero k = ap (numbers_from a) (zero-add k) ∙ ap (λ x. numbers_from x k) (sym (add-zero a))
numbers_cat a (suc n) k =
    let later : suc n + k ≡ suc (n + k) = omega arith in
    let moved : (a + 1) + n ≡ a + suc n = omega arith in
    rw (later, numbers_cat (a + 1) n k, moved) refl

pub count_cat : (f : ℕ → Bool) (a n k : ℕ) → count_by f (numbers_from a (n + k)) ≡ count_by f (numbers_from a n) + count_by f (numbers_from (a + n) k)
count_cat f a n k = rw numbers_cat (sum_by-append (λ x. cond (f x) 1 0) (numbers_from a n) (numbers_from (a + n) k))

pub same_self : (b : Bool) → same b b ≡ true
same_self true = refl
same_self false = refl
