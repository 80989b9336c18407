-- The answers of a source and the bytes of a sink, in succession.
use Rattle.std.proofs.Common.{◌≡◌, ℕ, Bool, true, false, List, [], ◌∷◌, ◌++◌, length, refl, sym, ap, Ok, Err}
use Rattle.std.specs.Prelude.{Result, IsTrue}
use Rattle.qm_core.specs.Source.{bytes_of, heard_of, IsClosed, Gives, before_fault}
use Rattle.qm_core.specs.Sink.{Took}
use Rattle.qm_core.specs.declared.source.Pulled.{Pulled}
use Rattle.qm_core.specs.declared.source.Pulled.TheVariants.{Byte, End, Fault}
use Rattle.qm_core.specs.declared.source.Heard.TheVariants.{More}
use Rattle.qm_core.specs.declared.encoder.CoderFault.{CoderFault}
use Rattle.qm_core.specs.declared.encoder.CoderFault.TheVariants.{Failed}

pub bytes_of-append : (xs ys : List Pulled) → bytes_of (xs ++ ys) ≡ bytes_of xs ++ bytes_of ys
bytes_of-append [] ys = refl
bytes_of-append (Byte b ∷ xs) ys = rw (bytes_of-append xs ys) refl
bytes_of-append (End ∷ xs) ys = bytes_of-append xs ys
bytes_of-append (Fault ∷ xs) ys = bytes_of-append xs ys

pub length-bytes_of : (xs : List Pulled) → heard_of xs ≡ More → length (bytes_of xs) ≡ length xs
length-bytes_of [] h = refl
length-bytes_of (Byte b ∷ xs) h = rw (length-bytes_of xs h) refl
length-bytes_of (End ∷ xs) h = cc
length-bytes_of (Fault ∷ xs) h = cc

-- nothing is behind a fault
pub bytes_before : (xs : List Pulled) → IsClosed xs → bytes_of (before_fault xs) ≡ bytes_of xs
bytes_before [] h = refl
bytes_before (Byte b ∷ xs) h = rw (bytes_before xs h) refl
bytes_before (End ∷ xs) h = rw h refl
bytes_before (Fault ∷ xs) h = sym (ap bytes_of h)

pub Gives-append : {S : Type 0} (pull : S → Pulled → S → Type 0) (a b c : S) (xs ys : List Pulled) → Gives pull a xs b → Gives pull b ys c → Gives pull a (xs ++ ys) c
Gives-append pull a b c [] ys h k = rw h k
Gives-append pull a b c (x ∷ xs) ys h k = (h.0, h.1, Gives-append pull h.0 b c xs ys h.2 k)

pub Took-append : {S : Type 0} (took : S → ℕ → S → Type 0) (a b c : S) (xs ys : List ℕ) → Took took a xs b → Took took b ys c → Took took a (xs ++ ys) c
Took-append took a b c [] ys h k = rw h k
Took-append took a b c (x ∷ xs) ys h k = (h.0, h.1, Took-append took h.0 b c xs ys h.2 k)

-- an encoder that puts something had not failed
pub had_not_failed : {T : Type 0} (b : Bool) (result : Result T CoderFault) (x : T) → (IsTrue b → result ≡ Err Failed) → result ≡ Ok x → b ≡ false
had_not_failed false result x h is = refl
had_not_failed true result x h is = let e = h refl in cc

pub not_both : {b : Bool} → IsTrue b → b ≡ false → ⊥
not_both {b = true} h e = cc
not_both {b = false} h e = cc

pub had_not_stopped : {b : Bool} → (IsTrue b → false ≡ true) → b ≡ false
had_not_stopped {b = false} h = refl
had_not_stopped {b = true} h = sym (h refl)
