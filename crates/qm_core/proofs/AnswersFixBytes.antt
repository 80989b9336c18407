-- The bytes of the code that the answers so far determine.
use Rattle.std.proofs.Common.{◌≡◌, ◌≢◌, ℕ, suc, ◌+◌, ◌*◌, ◌^◌, ◌<◌, ◌≤◌, ◌⊎◌, inl, inr, List, [], ◌∷◌, ◌++◌, length, replicate, arith, refl, ap, ◌∙◌, length-append, append-nil}
use Rattle.std.proofs.Math.Nat.{le_of_mul-le-mul_right, lt_of_mul-lt-mul_right, mul-le-mul_right, mul-lt-mul_of_pos_right, one-le-pow}
use Rattle.std.proofs.lemmas.Nat.{pow-add}
use Rattle.qm_core.specs.Place.{Place}
use Rattle.qm_core.specs.Code.{number, Lies}
use Rattle.qm_core.specs.Source.{bytes_of, heard_of, IsClosed, Agrees}
use Rattle.qm_core.specs.Decoder.{DecoderIsAt}
use Rattle.qm_core.specs.declared.source.Pulled.{Pulled}
use Rattle.qm_core.specs.declared.source.Pulled.TheVariants.{Byte, End, Fault}
use Rattle.qm_core.specs.declared.source.Heard.{Heard}
use Rattle.qm_core.specs.declared.source.Heard.TheVariants.{More, Ended, Stopped}
use Rattle.qm_core.specs.declared.decoder.Decoder.{Decoder}
use Rattle.qm_core.proofs.CodesLieInside.{number-append, Registers-Lies}
use Rattle.qm_core.proofs.TailTakesByte.{number-null}
use Rattle.std.proofs.lemmas.List.{length-replicate}

number-zeros : (b : List ℕ) (j : ℕ) → number (b ++ replicate j 0) ≡ number b * 256 ^ j
number-zeros b j = omega (arith, number-append b (replicate j 0), number-null j, ap (λ k. number b * 256 ^ k) (length-replicate {A = ℕ} j 0))

power-zeros : (b : List ℕ) (j : ℕ) → 256 ^ length (b ++ replicate j 0) ≡ 256 ^ length b * 256 ^ j
power-zeros b j = ap (λ k. 256 ^ k) (length-append b (replicate j 0)) ∙ (ap (λ k. 256 ^ (length b + k)) (length-replicate {A = ℕ} j 0) ∙ pow-add 256 (length b) j)

-- zeros at the end change nothing
pub Lies-zeros : (b : List ℕ) (j : ℕ) {p : Place} → Lies (b ++ replicate j 0) p → Lies b p
Lies-zeros b j {p} h =
    let n = number-zeros b j in
    let l = power-zeros b j in
    let f = rw (n, l) at h.from in
    let g = rw (n, l) at h.below in
    let pos : 0 < 256 ^ j = one-le-pow j 256 (omega arith) in
    let f2 : (p.low * 256 ^ length b) * 256 ^ j ≤ (number b * 2 ^ (16 + p.doublings)) * 256 ^ j = omega (arith, f) in
    let g2 : (number b * 2 ^ (16 + p.doublings)) * 256 ^ j < ((p.low + p.size) * 256 ^ length b) * 256 ^ j = omega (arith, g) in
    record { from = le_of_mul-le-mul_right f2 pos; below = lt_of_mul-lt-mul_right (256 ^ j) g2 }

pub zeros-Lies : {b : List ℕ} (j : ℕ) {p : Place} → Lies b p → Lies (b ++ replicate j 0) p
zeros-Lies {b} j {p} h =
    let n = number-zeros b j in
    let l = power-zeros b j in
    let pos : 0 < 256 ^ j = one-le-pow j 256 (omega arith) in
    let f = mul-le-mul_right (256 ^ j) h.from in
    let g = mul-lt-mul_of_pos_right h.below pos in
    record { from = rw (n, l) (omega (arith, f)); below = rw (n, l) (omega (arith, g)) }

heard_cases : (h : Heard) → (h ≡ Ended) ⊎ (h ≢ Ended)
heard_cases More = inr (λ e. cc)
heard_cases Ended = inl refl
heard_cases Stopped = inr (λ e. cc)

-- each code that agrees with the answers lies in the place
pub Stands-Lies : {d : Decoder} {p : Place} {answers : List Pulled} {c : List ℕ} → DecoderIsAt d p answers → Agrees answers c → Lies c p
Stands-Lies {d} {p} {answers} s a =
    elim (heard_cases (heard_of answers)) [
      | inl ended ↦
          let b = Lies-zeros (bytes_of answers) s.zeros (rw append-nil at (Registers-Lies [] d.few d.room s.registers tt)) in
          rw (a.is, a.ended ended, append-nil) b
      | inr goes_on ↦
          let none = s.no_zeros goes_on in
          let r = rw (none, append-nil) at s.registers in
          rw a.is (Registers-Lies a.rest d.few d.room r a.bytes)
    ]

pub bytes_of-append : (xs ys : List Pulled) → bytes_of (xs ++ ys) ≡ bytes_of xs ++ bytes_of ys
bytes_of-append [] ys = refl
bytes_of-append (Byte b ∷ xs) ys = ap (λ l. b ∷ l) (bytes_of-append xs ys)
bytes_of-append (End ∷ xs) ys = bytes_of-append xs ys
bytes_of-append (Fault ∷ xs) ys = bytes_of-append xs ys

pub heard_of-append : (xs ys : List Pulled) → heard_of xs ≡ More → heard_of (xs ++ ys) ≡ heard_of ys
heard_of-append [] ys h = refl
heard_of-append (Byte b ∷ xs) ys h = heard_of-append xs ys h
heard_of-append (End ∷ xs) ys h = cc
heard_of-append (Fault ∷ xs) ys h = cc

pub length-bytes_of : (xs : List Pulled) → heard_of xs ≡ More → length (bytes_of xs) ≡ length xs
length-bytes_of [] h = refl
length-bytes_of (Byte b ∷ xs) h = ap suc (length-bytes_of xs h)
length-bytes_of (End ∷ xs) h = cc
length-bytes_of (Fault ∷ xs) h = cc

pub closed_push : (xs : List Pulled) (x : Pulled) → heard_of xs ≡ More → IsClosed (xs ++ x ∷ [])
closed_push [] (Byte b) h = tt
closed_push [] End h = refl
closed_push [] Fault h = refl
closed_push (Byte b ∷ xs) x h = closed_push xs x h
closed_push (End ∷ xs) x h = absurd (let bot : ⊥ = cc in bot)
closed_push (Fault ∷ xs) x h = absurd (let bot : ⊥ = cc in bot)
