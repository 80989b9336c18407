-- The stuffed bytes of a code.
use Rattle.std.proofs.Common.{cond, subst, ◌≡◌, ◌≢◌, ◌⊎◌, inl, inr, ℕ, false, List, [], ◌∷◌, ◌++◌, nat_eq, refl, sym, ap, ◌∙◌, append-nil, arith}
use Rattle.std.specs.Prelude.{if◌then◌else◌}
use Rattle.std.proofs.lemmas.Bool.{cases_eq}
use Rattle.std.proofs.lemmas.Bool.Decides.{nat_tests}
use Rattle.qm_core.specs.Code.{stuffed}
use Rattle.t85_core.specs.Private.Buffers.{ArePlain}

-- one byte of a code
abbrev pub stuff : ℕ → List ℕ
stuff b = if nat_eq b 255 then 255 ∷ 0 ∷ [] else b ∷ []

pub stuff_cases : (b : ℕ) → ((b ≡ 255) × (stuff b ≡ 255 ∷ 0 ∷ [])) ⊎ ((b ≢ 255) × (stuff b ≡ b ∷ []))
stuff_cases b = went (cases_eq b 255) where
  went : (b ≡ 255) ⊎ (b ≢ 255) → ((b ≡ 255) × (stuff b ≡ 255 ∷ 0 ∷ [])) ⊎ ((b ≢ 255) × (stuff b ≡ b ∷ []))
  went (inl e) = inl (e, rw e refl)
  went (inr n) = let t : nat_eq b 255 ≡ false = grind (arith, nat_tests) in inr (n, ap (λ u. cond u (255 ∷ 0 ∷ []) (b ∷ [])) t)

pub stuffed_cons : (b : ℕ) (bs x : List ℕ) → stuffed (b ∷ bs) ++ x ≡ stuff b ++ (stuffed bs ++ x)
stuffed_cons b bs x = went (cases_eq b 255) where
  went : (b ≡ 255) ⊎ (b ≢ 255) → stuffed (b ∷ bs) ++ x ≡ stuff b ++ (stuffed bs ++ x)
  went (inl e) = rw e refl
  went (inr n) =
      let t : nat_eq b 255 ≡ false = grind (arith, nat_tests) in
      ap (λ u. cond u (255 ∷ 0 ∷ stuffed bs) (b ∷ stuffed bs) ++ x) t ∙ ap (λ u. cond u (255 ∷ 0 ∷ []) (b ∷ []) ++ (stuffed bs ++ x)) (sym t)

pub stuffed_append : (code more : List ℕ) → stuffed (code ++ more) ≡ stuffed code ++ stuffed more
stuffed_append [] more = refl
stuffed_append (b ∷ code) more =
    rw (← append-nil (stuffed (b ∷ (code ++ more))), stuffed_cons b (code ++ more) [], append-nil (stuffed (code ++ more)), stuffed_append code more, ← stuffed_cons b code (stuffed more))

-- bytes other than FF are unchanged
pub stuffed_plain : (code : List ℕ) → ArePlain code → stuffed code ≡ code
stuffed_plain [] p = refl
stuffed_plain (b ∷ code) p =
    let n : b ≢ 255 = p.0.1 in
    let t : nat_eq b 255 ≡ false = grind (arith, nat_tests) in
    ap (λ u. cond u (255 ∷ 0 ∷ stuffed code) (b ∷ stuffed code)) t ∙ ap (λ u. b ∷ u) (stuffed_plain code p.1)

pub second : {a b c d : ℕ} {xs ys : List ℕ} → a ∷ b ∷ xs ≡ c ∷ d ∷ ys → b ≡ d
second e = cc

pub one_stuff : (b d : ℕ) (x y : List ℕ) → stuff b ++ x ≡ stuff d ++ y → (b ≡ d) × (x ≡ y)
one_stuff b d x y e = went (stuff_cases b) (stuff_cases d) where
  went : ((b ≡ 255) × (stuff b ≡ 255 ∷ 0 ∷ [])) ⊎ ((b ≢ 255) × (stuff b ≡ b ∷ [])) → ((d ≡ 255) × (stuff d ≡ 255 ∷ 0 ∷ [])) ⊎ ((d ≢ 255) × (stuff d ≡ d ∷ [])) →
      (b ≡ d) × (x ≡ y)
  went (inl p) (inl q) = let k : 255 ∷ 0 ∷ x ≡ 255 ∷ 0 ∷ y = ap (λ z. z ++ x) (sym p.1) ∙ e ∙ ap (λ z. z ++ y) q.1 in (p.0 ∙ sym q.0, (cc))
  went (inl p) (inr q) = let k : 255 ∷ 0 ∷ x ≡ d ∷ y = ap (λ z. z ++ x) (sym p.1) ∙ e ∙ ap (λ z. z ++ y) q.1 in absurd (q.0 (cc))
  went (inr p) (inl q) = let k : b ∷ x ≡ 255 ∷ 0 ∷ y = ap (λ z. z ++ x) (sym p.1) ∙ e ∙ ap (λ z. z ++ y) q.1 in absurd (p.0 (cc))
  went (inr p) (inr q) = let k : b ∷ x ≡ d ∷ y = ap (λ z. z ++ x) (sym p.1) ∙ e ∙ ap (λ z. z ++ y) q.1 in ((cc), (cc))

-- ---- no code ends in an escape

last_of : List ℕ → ℕ
last_of [] = 0
last_of (x ∷ []) = x
last_of (x ∷ y ∷ ys) = last_of (y ∷ ys)

last_right : (xs : List ℕ) (y : ℕ) (ys : List ℕ) → last_of (xs ++ y ∷ ys) ≡ last_of (y ∷ ys)
unfolding last_of
last_right [] y ys = refl
last_right (x ∷ []) y ys = refl
last_right (x ∷ z ∷ xs) y ys = last_right (z ∷ xs) y ys

stuffed_last : (code : List ℕ) → last_of (stuffed code) ≡ 255 → ⊥
unfolding last_of
stuffed_last [] e = absurd (omega arith)
stuffed_last (b ∷ []) e = went (stuff_cases b) (sym (append-nil (stuffed (b ∷ []))) ∙ stuffed_cons b [] [])
  where
    went : ((b ≡ 255) × (stuff b ≡ 255 ∷ 0 ∷ [])) ⊎ ((b ≢ 255) × (stuff b ≡ b ∷ [])) → stuffed (b ∷ []) ≡ stuff b ++ [] → ⊥
    went (inl p) is = let f = subst (λ z. last_of z ≡ 255) (is ∙ append-nil (stuff b) ∙ p.1) e in omega arith
    went (inr p) is = p.0 (subst (λ z. last_of z ≡ 255) (is ∙ append-nil (stuff b) ∙ p.1) e)
stuffed_last (b ∷ c ∷ code) e = stuffed_last (c ∷ code) (went (stuff_cases c) (sym (append-nil (stuffed (c ∷ code))) ∙ stuffed_cons c code []))
  where
    all : stuffed (b ∷ c ∷ code) ≡ stuff b ++ stuffed (c ∷ code)
    all = sym (append-nil (stuffed (b ∷ c ∷ code))) ∙ stuffed_cons b (c ∷ code) [] ∙ ap (λ z. stuff b ++ z) (append-nil (stuffed (c ∷ code)))

    from : (y : ℕ) (ys : List ℕ) → stuffed (c ∷ code) ≡ y ∷ ys → last_of (stuffed (c ∷ code)) ≡ 255
    from y ys is = ap last_of is ∙ (sym (last_right (stuff b) y ys) ∙ (ap (λ z. last_of (stuff b ++ z)) (sym is) ∙ (ap last_of (sym all) ∙ e)))

    went : ((c ≡ 255) × (stuff c ≡ 255 ∷ 0 ∷ [])) ⊎ ((c ≢ 255) × (stuff c ≡ c ∷ [])) → stuffed (c ∷ code) ≡ stuff c ++ (stuffed code ++ []) →
        last_of (stuffed (c ∷ code)) ≡ 255
    went (inl p) is = from 255 (0 ∷ (stuffed code ++ [])) (is ∙ ap (λ z. z ++ (stuffed code ++ [])) p.1)
    went (inr p) is = from c (stuffed code ++ []) (is ∙ ap (λ z. z ++ (stuffed code ++ [])) p.1)
