-- Rows that stand some way apart.
use Rattle.std.proofs.Common.{◌≡◌, ◌≢◌, ◌≤◌, ◌<◌, ◌+◌, ◌-◌, ◌++◌, ℕ, zero, suc, List, [], length, take, drop, min, refl, sym, ap, subst, ◌∙◌, arith, append_assoc, append-nil, length-append}
use Rattle.std.proofs.lemmas.Grind.{common_steps}
use Rattle.std.proofs.lemmas.List.{nil_from_length, take_min}
use Rattle.std.proofs.Math.Seq.{drop-nil, take-nil}
use Rattle.t85_core.specs.RowSink.{copies}
use Rattle.libt85.specs.Delivered.{lined}
use Rattle.libt85.proofs.BytesHoldRows.{same_front}

lined_nil : (n row stride : ℕ) → lined n row stride [] ≡ []
lined_nil zero row stride = refl
lined_nil (suc n) row stride = ap (λ l. l ++ lined n row stride (drop stride [])) (take-nil row) ∙ ap (lined n row stride) (drop-nil stride) ∙ lined_nil n row stride

drop_min : (n : ℕ) (l : List ℕ) → drop (min n (length l)) l ≡ drop n l
drop_min n l = grind (arith, common_steps)

pub stepped : (rows row stride : ℕ) (bytes front rest : List ℕ) → rows ≢ 0 → front ≡ take (min row (length bytes)) bytes → rest ≡ drop (min stride (length bytes)) bytes →
    lined rows row stride bytes ≡ front ++ lined (rows - 1) row stride rest
stepped zero row stride bytes front rest some f r = absurd (some refl)
stepped (suc n) row stride bytes front rest some f r =
    let less : suc n - 1 ≡ n = omega arith in
    rw (less, f, take_min row bytes, r, drop_min stride bytes) refl

-- Nothing follows a row that is cut short.
pub ended : (rows row stride : ℕ) (bytes front rest : List ℕ) → row ≤ stride → front ≡ take (min row (length bytes)) bytes → rest ≡ drop (min stride (length bytes)) bytes →
    length front < row → lined rows row stride rest ≡ []
ended rows row stride bytes front rest apart f r few =
    let short : length (take (min row (length bytes)) bytes) < row = rw (← f) few in
    let all : length (drop (min stride (length bytes)) bytes) ≡ 0 = grind (arith, common_steps) in
    ap (lined rows row stride) (r ∙ nil_from_length _ all) ∙ lined_nil rows row stride

pub cut_short : {front : List ℕ} (row : ℕ) (bytes : List ℕ) → front ≡ take (min row (length bytes)) bytes → length front < row → length bytes < row
cut_short row bytes f few =
    let short : length (take (min row (length bytes)) bytes) < row = rw (← f) few in
    grind (arith, common_steps)

pub front_short : (row : ℕ) (bytes : List ℕ) → length bytes < row → length (take (min row (length bytes)) bytes) < row
front_short row bytes few = grind (arith, common_steps)

-- Rows that are cut short have fewer bytes than a row.
pub fewer_bytes : (rows row stride : ℕ) (bytes : List ℕ) → row ≤ stride → length bytes < row → length (lined rows row stride bytes) < row
fewer_bytes zero row stride bytes apart few = omega arith
fewer_bytes (suc n) row stride bytes apart few =
    let none : lined n row stride (drop stride bytes) ≡ [] = ap (lined n row stride) (nil_from_length _ (let e : length (drop stride bytes) ≡ 0 = grind (arith, common_steps) in e)) ∙ lined_nil n row stride in
    subst (λ z. length (take row bytes ++ z) < row) (sym none) (grind (arith, common_steps))

-- So they do not begin with a row.
pub not_whole : (rows row stride : ℕ) (bytes wanted rest : List ℕ) → row ≤ stride → length bytes < row → length wanted ≡ row → lined rows row stride bytes ≡ wanted ++ rest → ⊥
not_whole rows row stride bytes wanted rest apart few long is =
    let fewer = fewer_bytes rows row stride bytes apart few in
    let many = ap length is ∙ length-append wanted rest in
    omega (arith, fewer, many, long)

pub none_left : (rows row stride : ℕ) (bytes wanted rest : List ℕ) → rows ≡ 0 → 1 ≤ length wanted → lined rows row stride bytes ≡ wanted ++ rest → ⊥
none_left zero row stride bytes wanted rest is some same = let many = ap length same ∙ length-append wanted rest in omega (arith, many, some)
none_left (suc n) row stride bytes wanted rest is some same = cc

-- Rows of which the first has other bytes do not begin with these.
pub other_row : (rows row stride : ℕ) (bytes wanted rest : List ℕ) → rows ≢ 0 → row ≤ length bytes → length wanted ≡ row → (take row bytes ≡ wanted → ⊥) →
    lined rows row stride bytes ≡ wanted ++ rest → ⊥
other_row zero row stride bytes wanted rest some whole long other is = absurd (some refl)
other_row (suc n) row stride bytes wanted rest some whole long other is =
    let many : length (take row bytes) ≡ length wanted = grind (arith, common_steps) in
    other (same_front (take row bytes) wanted (lined n row stride (drop stride bytes)) rest is many).0

-- copies, and one more
pub copies_next : {a b : List ℕ} (c bytes : List ℕ) (n : ℕ) → a ≡ copies n bytes ++ b → b ≡ bytes ++ c → a ≡ copies (n + 1) bytes ++ c
copies_next c bytes n first next = first ∙ ap (λ z. copies n bytes ++ z) next ∙ sym (append_assoc (copies n bytes) bytes c) ∙ ap (λ z. z ++ c) (sym (last n)) where
  last : (n : ℕ) → copies (n + 1) bytes ≡ copies n bytes ++ bytes
  last zero = append-nil bytes
  last (suc n) = let e : suc n + 1 ≡ suc (n + 1) = omega arith in
      ap (λ k. copies k bytes) e ∙ ap (λ z. bytes ++ z) (last n) ∙ sym (append_assoc bytes (copies n bytes) bytes)
