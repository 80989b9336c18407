-- The code of a later place begins with each front on the way.
use Rattle.std.proofs.Common.{◌≡◌, ℕ, zero, suc, ◌+◌, ◌*◌, ◌^◌, ◌<◌, List, [], ◌∷◌, ◌++◌, length, arith, refl, ap, ◌∙◌, sym, subst}
use Rattle.std.proofs.lemmas.Nat.{pow_pos, same_from_place}
use Rattle.std.proofs.lemmas.Int.Digits.{number_lt}
use Rattle.std.proofs.Math.Nat.{lt_of_mul-lt-mul_right, mul-le-mul_right, mul-lt-mul_of_pos_right, one-le-pow}
use Rattle.qm_core.specs.Place.{Place}
use Rattle.qm_core.specs.Code.{IsBytes, IsTrimmed, IsFront, Lies, number, first_bytes}
use Rattle.qm_core.proofs.FirstBytesSuffice.{number-cons, Floor, floor, length-first_bytes}

-- two lists of bytes of one length that have the same number
pub same_number : (xs ys : List ℕ) → IsBytes xs → IsBytes ys → length xs ≡ length ys → number xs ≡ number ys → xs ≡ ys
same_number [] [] h k l n = refl
same_number [] (y ∷ ys) h k l n = absurd (omega arith)
same_number (x ∷ xs) [] h k l n = absurd (omega arith)
same_number (x ∷ xs) (y ∷ ys) h k l n =
    let l' : length xs ≡ length ys = omega arith in
    let w = ap (λ z. 256 ^ z) l' in
    let e = sym (number-cons x xs) ∙ (n ∙ (number-cons y ys ∙ ap (λ z. y * z + number ys) (sym w))) in
    let a = number_lt 256 xs h.1 in
    let b : number ys < 256 ^ length xs = rw w (number_lt 256 ys k.1) in
    let s = same_from_place x (number xs) y (number ys) (256 ^ length xs) a b e in
    let tail = same_number xs ys h.1 k.1 l' s.1 in
    let head = s.0 in
    cc

first-bytes-bytes : (k : ℕ) (b : List ℕ) → IsBytes b → IsBytes (first_bytes k b)
first-bytes-bytes zero b h = tt
first-bytes-bytes (suc k) [] h = (omega arith, first-bytes-bytes k [] tt)
first-bytes-bytes (suc k) (x ∷ b) h = (h.0, first-bytes-bytes k b h.1)

-- the first bytes of a code in the place are its front: neither less, nor more
from_front : {b c : List ℕ} {p : Place} → Floor b (length c) → Lies b p → IsFront c p → number c < number (first_bytes (length c) b) + 1
from_front {b} {c} {p} f l r =
    let x = mul-le-mul_right (256 ^ length b) r.from in
    let y = mul-le-mul_right (256 ^ length c) l.from in
    let z = mul-lt-mul_of_pos_right f.below (pow_pos (16 + p.doublings)) in
    let up : number c * (2 ^ (16 + p.doublings) * 256 ^ length b) < (number (first_bytes (length c) b) + 1) * (2 ^ (16 + p.doublings) * 256 ^ length b) = omega (arith, x, y, z) in
    lt_of_mul-lt-mul_right (2 ^ (16 + p.doublings) * 256 ^ length b) up

below_front : {b c : List ℕ} {p : Place} → Floor b (length c) → Lies b p → IsFront c p → number (first_bytes (length c) b) < number c + 1
below_front {b} {c} {p} f l r =
    let x = mul-lt-mul_of_pos_right l.below (one-le-pow (length c) 256 (omega arith)) in
    let y = mul-le-mul_right (256 ^ length b) r.up_to in
    let z = mul-le-mul_right (2 ^ (16 + p.doublings)) f.from in
    let down : number (first_bytes (length c) b) * (2 ^ (16 + p.doublings) * 256 ^ length b) < (number c + 1) * (2 ^ (16 + p.doublings) * 256 ^ length b) = omega (arith, x, y, z) in
    lt_of_mul-lt-mul_right (2 ^ (16 + p.doublings) * 256 ^ length b) down

first_is_front : {p : Place} {b c : List ℕ} → IsBytes b → Lies b p → IsFront c p → first_bytes (length c) b ≡ c
first_is_front {p} {b} {c} h l f =
    let fl = floor (length c) b h in
    let n : number (first_bytes (length c) b) ≡ number c = omega (arith, from_front fl l f, below_front fl l f) in
    same_number (first_bytes (length c) b) c (first-bytes-bytes (length c) b h) f.bytes (length-first_bytes (length c) b) n

nothing_there : (k : ℕ) → IsTrimmed (first_bytes (suc k) []) → ⊥
nothing_there zero t = t refl
nothing_there (suc k) t = nothing_there k t

-- first bytes that do not end in 0 are there
first_there : (k : ℕ) (b : List ℕ) → IsTrimmed (first_bytes k b) → (rest : List ℕ) × (b ≡ first_bytes k b ++ rest)
first_there zero b t = (b, refl)
first_there (suc zero) [] t = absurd (t refl)
first_there (suc (suc k)) [] t = absurd (nothing_there k t)
first_there (suc zero) (x ∷ b) t = (b, refl)
first_there (suc (suc k)) (x ∷ []) t = absurd (nothing_there k t)
first_there (suc (suc k)) (x ∷ y ∷ b) t = let r = first_there (suc k) (y ∷ b) t in (r.0, ap (λ l. x ∷ l) r.1)

pub front_begins : (p : Place) (b c : List ℕ) → IsBytes b → Lies b p → IsFront c p → (rest : List ℕ) × (b ≡ c ++ rest)
front_begins p b c h l f =
    let e = first_is_front h l f in
    subst (λ z. (rest : List ℕ) × (b ≡ z ++ rest)) e (first_there (length c) b (subst (λ z. IsTrimmed z) (sym e) f.trimmed))
