-- A byte after those that are held back.
use Rattle.std.proofs.Common.{◌≡◌, ◌≢◌, ℕ, zero, suc, ◌+◌, ◌-◌, ◌*◌, ◌^◌, ◌≤◌, Option, Some, None, List, [], ◌∷◌, ◌++◌, length, replicate, arith, refl, ap, ◌∙◌, sym, append_assoc, append-nil, length-append}
use Rattle.std.proofs.lemmas.Int.Digits.{number_push}
use Rattle.std.proofs.Math.Nat.{pow-suc}
use Rattle.qm_core.specs.Code.{number, stuffed}
use Rattle.qm_core.specs.Machine.{run_bytes, option_bytes, Appends}
use Rattle.qm_core.specs.declared.batch.Batch.{Batch}
use Rattle.qm_core.specs.declared.batch.Tail.{Tail}
use Rattle.qm_core.proofs.CodesLieInside.{number-append}
use Rattle.qm_core.proofs.FirstBytesSuffice.{number-cons}
use Rattle.qm_core.proofs.WritesJoin.{replicate-add, stuffed-append}
use Rattle.std.proofs.lemmas.List.{length-replicate}

appends_push : (xs : List ℕ) (b : ℕ) → Appends xs (xs ++ b ∷ []) b
appends_push xs b = record { value = number_push 256 xs b; longer = length-append xs (b ∷ []) }

pub number-run : (o : ℕ) → number (replicate o 255) + 1 ≡ 256 ^ o
number-run zero = refl
number-run (suc o) =
    let l : length (replicate {A = ℕ} o 255) ≡ o = length-replicate {A = ℕ} o 255 in
    let n = number-cons 255 (replicate o 255) ∙ ap (λ k. 255 * 256 ^ k + number (replicate o 255)) l in
    omega (arith, n, number-run o, pow-suc 256 o)

pub number-null : (o : ℕ) → number (replicate o 0) ≡ 0
number-null zero = refl
number-null (suc o) = number-null o

-- one more: the held byte is raised, and the bytes 255 after it become 0
carried : (xs : List ℕ) (h o : ℕ) → (number (xs ++ h ∷ replicate o 255) + 1 ≡ number (xs ++ (h + 1) ∷ replicate o 0)) × (length (xs ++ h ∷ replicate o 255) ≡ length (xs ++ (h + 1) ∷ replicate o 0))
carried xs h o =
    let l : length (replicate {A = ℕ} o 255) ≡ o = length-replicate {A = ℕ} o 255 in
    let m : length (replicate {A = ℕ} o 0) ≡ o = length-replicate {A = ℕ} o 0 in
    let a = rw l at (number-cons h (replicate o 255)) in
    let b = rw m at (number-cons (h + 1) (replicate o 0)) in
    let c = rw l at (number-append xs (h ∷ replicate o 255)) in
    let d = rw m at (number-append xs ((h + 1) ∷ replicate o 0)) in
    let e = length-append xs (h ∷ replicate o 255) in
    let f = length-append xs ((h + 1) ∷ replicate o 0) in
    (omega (arith, a, b, c, d, number-run o, number-null o), omega arith)

-- ---- the three ways a byte goes after
pub put_one : (front : List ℕ) (z : ℕ) (h : Option ℕ) (o : ℕ) → Appends (front ++ run_bytes z h o) ((front ++ []) ++ run_bytes z h (o + 1)) 255
put_one front z h o =
    let e : (front ++ []) ++ run_bytes z h (o + 1) ≡ (front ++ run_bytes z h o) ++ 255 ∷ [] =
    rw (append-nil, replicate-add o 1 255) (simp append_assoc) in
    rw e (appends_push (front ++ run_bytes z h o) 255)

pub put_settled : (front batch old : List ℕ) (z b : ℕ) → batch ++ run_bytes z None 0 ≡ old → Appends (front ++ old) ((front ++ batch) ++ run_bytes z (Some b) 0) b
put_settled front batch old z b h =
    let e : (front ++ batch) ++ run_bytes z (Some b) 0 ≡ (front ++ (batch ++ run_bytes z None 0)) ++ b ∷ [] = simp (append_assoc, append-nil) in
    rw (e, h) (appends_push (front ++ old) b)

put_carried : (xs : List ℕ) (h o d : ℕ) → Appends (xs ++ h ∷ replicate o 255) ((xs ++ (h + 1) ∷ replicate o 0) ++ d ∷ []) (256 + d)
put_carried xs h o d =
    let c = carried xs h o in
    record { value = omega (arith, number_push 256 (xs ++ (h + 1) ∷ replicate o 0) d, c.0); longer = length-append (xs ++ (h + 1) ∷ replicate o 0) (d ∷ []) ∙ ap (λ k. k + 1) (sym c.1) }

pub put_raised : (front : List ℕ) (z h o d : ℕ) → Appends (front ++ run_bytes z (Some h) o) ((front ++ run_bytes z (Some (h + 1)) 0) ++ run_bytes o (Some d) 0) (256 + d)
put_raised front z h o d =
    let a : front ++ run_bytes z (Some h) o ≡ (front ++ replicate z 0) ++ h ∷ replicate o 255 = simp append_assoc in
    let b : (front ++ run_bytes z (Some (h + 1)) 0) ++ run_bytes o (Some d) 0 ≡ ((front ++ replicate z 0) ++ (h + 1) ∷ replicate o 0) ++ d ∷ [] = simp (append_assoc, append-nil) in
    rw (a, b) (put_carried (front ++ replicate z 0) h o d)

pub put_raised_one : (front : List ℕ) (z h o : ℕ) → Appends (front ++ run_bytes z (Some h) o) ((front ++ run_bytes z (Some (h + 1)) 0) ++ run_bytes o None 1) 511
put_raised_one front z h o =
    let a : front ++ run_bytes z (Some h) o ≡ (front ++ replicate z 0) ++ h ∷ replicate o 255 = simp append_assoc in
    let b : (front ++ run_bytes z (Some (h + 1)) 0) ++ run_bytes o None 1 ≡ ((front ++ replicate z 0) ++ (h + 1) ∷ replicate o 0) ++ 255 ∷ [] = simp (append_assoc, append-nil) in
    rw (a, b) (put_carried (front ++ replicate z 0) h o 255)

option_some : (o : Option ℕ) → o ≢ None → (h : ℕ) × (o ≡ Some h)
option_some None n = absurd (n refl)
option_some (Some h) n = (h, refl)

abbrev pub batch_bytes : Batch → List ℕ
batch_bytes b = run_bytes b.zeros b.byte b.ones

-- the same, as the code has it
module _ (front : List ℕ) (t : Tail) (b : Batch) (raised : (h : ℕ) → t.held ≡ Some h → (b.zeros ≡ t.zeros) × (b.byte ≡ Some (h + 1)) × (b.ones ≡ 0)) (some : t.held ≢ None) where
  pub put_raised_at : {zeros ones byte : ℕ} → zeros ≡ t.ones → ones ≡ 0 → 256 ≤ byte →
      Appends (front ++ run_bytes t.zeros t.held t.ones) ((front ++ batch_bytes b) ++ run_bytes zeros (Some (byte - 256)) ones) byte
  put_raised_at {byte = byte} zeros ones l =
      let h = option_some t.held some in
      let r = raised h.0 h.1 in
      let e : 256 + (byte - 256) ≡ byte = omega arith in
      rw (h.1, r.0, r.1, r.2, zeros, ones) (rw e at (put_raised front t.zeros h.0 t.ones (byte - 256)))

  pub put_raised_one_at : {zeros byte : ℕ} {last : Option ℕ} → zeros ≡ t.ones → byte ≡ 511 → last ≡ None →
      Appends (front ++ run_bytes t.zeros t.held t.ones) ((front ++ batch_bytes b) ++ run_bytes zeros last 1) byte
  put_raised_one_at zeros e l =
      let h = option_some t.held some in
      let r = raised h.0 h.1 in
      rw (h.1, r.0, r.1, r.2, zeros, e, l) (put_raised_one front t.zeros h.0 t.ones)

pub put_settled_at : (front batch old : List ℕ) (z b new_ones : ℕ) → batch ++ run_bytes z None 0 ≡ old → new_ones ≡ 0 → Appends (front ++ old) ((front ++ batch) ++ run_bytes z (Some b) new_ones) b
put_settled_at front batch old z b new_ones h e = rw e (put_settled front batch old z b h)

pub put_one_at : (front : List ℕ) (z : ℕ) (h : Option ℕ) (o b : ℕ) → b ≡ 255 → Appends (front ++ run_bytes z h o) ((front ++ []) ++ run_bytes z h (o + 1)) b
put_one_at front z h o b e = rw e (put_one front z h o)

pub stuffed-run_bytes : (z : ℕ) (b : Option ℕ) (o : ℕ) → stuffed (run_bytes z b o) ≡ stuffed (replicate z 0) ++ (stuffed (option_bytes b) ++ stuffed (replicate o 255))
stuffed-run_bytes z b o = stuffed-append (replicate z 0) (option_bytes b ++ replicate o 255) ∙ ap (λ l. stuffed (replicate z 0) ++ l) (stuffed-append (option_bytes b) (replicate o 255))
