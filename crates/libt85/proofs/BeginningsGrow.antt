-- Beginnings of a text, and of copies of a row.
use Rattle.std.proofs.Common.{◌≡◌, ◌<◌, ◌+◌, ◌-◌, ℕ, zero, suc, List, ◌++◌, Some, sym, ap, ◌∙◌, subst, arith, append_assoc, append-nil}
use Rattle.devices.specs.Device.{AppendsBeginning}
use Rattle.t85_core.specs.RowSink.{copies}

-- a beginning of a text that begins another
pub begun_longer : {a b xs : List ℕ} (ys : List ℕ) → AppendsBeginning (Some a) (Some b) xs → AppendsBeginning (Some a) (Some b) (xs ++ ys)
begun_longer ys q = record {
  front = q.front;
  rest = q.rest ++ ys;
  text_is = ap (λ l. l ++ ys) q.text_is ∙ append_assoc q.front q.rest ys;
  appends = q.appends;
}

-- a beginning of a text, after another
pub begun_after : {a b c ys : List ℕ} (xs : List ℕ) → b ≡ a ++ xs → AppendsBeginning (Some b) (Some c) ys → AppendsBeginning (Some a) (Some c) (xs ++ ys)
begun_after {a} xs before q = record {
  front = xs ++ q.front;
  rest = q.rest;
  text_is = ap (λ l. xs ++ l) q.text_is ∙ sym (append_assoc xs q.front q.rest);
  appends = q.appends ∙ ap (λ l. l ++ q.front) before ∙ append_assoc a xs q.front;
}

-- one more copy
pub copies_next : (n : ℕ) (bytes : List ℕ) → copies (n + 1) bytes ≡ copies n bytes ++ bytes
copies_next zero bytes = append-nil bytes
copies_next (suc n) bytes =
    let e : suc n + 1 ≡ suc (n + 1) = omega arith in
    ap (λ k. copies k bytes) e ∙ ap (λ z. bytes ++ z) (copies_next n bytes) ∙ sym (append_assoc bytes (copies n bytes) bytes)

-- some copies, and more of them
copies_front : (n k : ℕ) (bytes : List ℕ) → copies (n + k) bytes ≡ copies n bytes ++ copies k bytes
copies_front zero k bytes = (let e : 0 + k ≡ k = omega arith in ap (λ i. copies i bytes) e)
copies_front (suc n) k bytes =
    let e : suc n + k ≡ suc (n + k) = omega arith in
    ap (λ i. copies i bytes) e ∙ ap (λ z. bytes ++ z) (copies_front n k bytes) ∙ sym (append_assoc bytes (copies n bytes) (copies k bytes))

-- some copies were appended, and one more
pub copies_more : (a : List ℕ) {b c : List ℕ} (k : ℕ) (bytes : List ℕ) → b ≡ a ++ copies k bytes → c ≡ b ++ bytes → c ≡ a ++ copies (k + 1) bytes
copies_more a k bytes before next =
    next ∙ ap (λ l. l ++ bytes) before ∙ append_assoc a (copies k bytes) bytes ∙ ap (λ l. a ++ l) (sym (copies_next k bytes))

-- some copies were appended, and a beginning of one more
pub copies_begun : {a b c : List ℕ} (k count : ℕ) (bytes : List ℕ) → k < count → b ≡ a ++ copies k bytes → AppendsBeginning (Some b) (Some c) bytes →
    AppendsBeginning (Some a) (Some c) (copies count bytes)
copies_begun {a} {b} {c} k count bytes less before cut =
    let left : ℕ = count - (k + 1) in
    let all : k + 1 + left ≡ count = omega arith in
    let parts : copies count bytes ≡ (copies k bytes ++ bytes) ++ copies left bytes =
    ap (λ n. copies n bytes) (sym all) ∙ copies_front (k + 1) left bytes ∙ ap (λ z. z ++ copies left bytes) (copies_next k bytes) in
    subst (AppendsBeginning (Some a) (Some c)) (sym parts) (begun_longer (copies left bytes) (begun_after (copies k bytes) before cut))
