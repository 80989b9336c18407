-- Bytes that are held after those that an output has taken.
use Rattle.std.proofs.Common.{◌≡◌, ◌≤◌, ◌+◌, ◌-◌, ℕ, List, [], ◌∷◌, ◌++◌, Option, None, Some, length, take, drop, refl, sym, ap, ◌∙◌, append_assoc, append-nil, length-append, length-take-le, take-append-drop, arith}
use Rattle.std.specs.Io.KnownBytes.{Appends, Keeps, append_known}
use Rattle.std.proofs.lemmas.List.{drop-take, drop-append-le}
use Rattle.std.proofs.lemmas.Slice.{take-put_mid}
use borrow.Rule.Slice.PartMut.{put_mid}
use Rattle.devices.specs.Device.{AppendsBeginning}
use Rattle.t85_core.specs.RowSink.{held_of, known_length}
use Rattle.t85_core.proofs.BytesJoin.InputHoldsBytes.{Keeps-same, held_after}

-- a front of those that are held was written
pub keeps_written : {rest : List ℕ} (a b c : Option (List ℕ)) (whole front back : List ℕ) → Keeps (append_known a whole) (append_known b rest) → Appends b c front →
    rest ≡ front ++ back →
    Keeps (append_known a whole) (append_known c back)
keeps_written None b c whole front back k p e = tt
keeps_written (Some a) None c whole front back k p e = absurd k
keeps_written (Some a) (Some b) None whole front back k p e = absurd p
keeps_written (Some a) (Some b) (Some c) whole front back k p e = rw (p, append_assoc, ← e) k

-- so many of those that are held were written
pub keeps_counted : {end : ℕ} (a b : Option (List ℕ)) (bytes : List ℕ) (at n : ℕ) → at + n ≤ end → Appends a b (take n (held_of bytes at end)) →
    Keeps (append_known a (held_of bytes at end)) (append_known b (held_of bytes (at + n) end))
keeps_counted {end} a b bytes at n fits p =
    let held = held_of bytes at end in
    keeps_written a a b held (take n held) _ (Keeps-same _) p (sym (take-append-drop n held) ∙ ap (λ z. take n held ++ z) (sym (held_after bytes at n end fits)))

pub keeps_handed : (a b : Option (List ℕ)) (held : List ℕ) → Appends a b held → Keeps (append_known a held) (append_known b [])
keeps_handed None b held p = tt
keeps_handed (Some a) None held p = absurd p
keeps_handed (Some a) (Some b) held p = append-nil b ∙ p

pub appends_held : (a : Option (List ℕ)) (held more : List ℕ) → Appends (append_known a held) (append_known a (held ++ more)) more
appends_held None held more = tt
appends_held (Some a) held more = sym (append_assoc a held more)

-- no byte is lost
pub grows_with : (a b : Option (List ℕ)) (more : List ℕ) → Appends a b more → known_length a ≤ known_length b
grows_with None b more p = omega arith
grows_with (Some a) None more p = absurd p
grows_with (Some a) (Some b) more p = let e = ap length p ∙ length-append a more in omega arith

cut_front : (a c held front : List ℕ) → length a ≤ length c → c ++ held ≡ a ++ front → (more : List ℕ) × (c ≡ a ++ more) × (front ≡ more ++ held)
cut_front [] c held front le e = (c, refl, sym e)
cut_front (x ∷ a) [] held front le e = absurd (omega arith)
cut_front (x ∷ a) (y ∷ c) held front le e =
    let same : y ≡ x = cc in
    let rest : c ++ held ≡ a ++ front = cc in
    let k = cut_front a c held front (omega arith) rest in
    (k.0, ap (λ z. z ∷ c) same ∙ ap (λ z. x ∷ z) k.1, k.2)

-- what was written of a beginning is a beginning
pub beginning_handed : {a : Option (List ℕ)} {text : List ℕ} (c : Option (List ℕ)) (held : List ℕ) → known_length a ≤ known_length c → AppendsBeginning a (append_known c held) text →
    AppendsBeginning a c text
beginning_handed {a = None} c held le p = record { front = p.front; rest = p.rest; text_is = p.text_is; appends = tt }
beginning_handed {a = (Some a)} None held le p = absurd p.appends
beginning_handed {a = (Some a)} (Some c) held le p =
    let k = cut_front a c held p.front le p.appends in
    record { front = k.0; rest = held ++ p.rest; text_is = p.text_is ∙ ap (λ z. z ++ p.rest) k.2 ∙ append_assoc k.0 held p.rest; appends = k.1 }

held_is : (bytes : List ℕ) (at end : ℕ) → at ≤ end → held_of bytes at end ≡ drop at (take end bytes)
held_is bytes at end h =
    let e : end ≡ at + (end - at) = omega arith in
    sym (ap (λ k. drop at (take k bytes)) e ∙ drop-take at (end - at) bytes)

-- bytes that were put after those that are held
pub held_grows : {n : ℕ} (bytes more : List ℕ) (at end k : ℕ) → n ≡ end + length more → at ≤ end → end ≤ length bytes →
    held_of (put_mid end k bytes more) at n ≡ held_of bytes at end ++ more
held_grows {n} bytes more at end k e h within =
    let long = length-take-le end bytes within in
    held_is (put_mid end k bytes more) at n (omega arith)
    ∙ ap (drop at) (take-put_mid end k bytes more n e within)
    ∙ drop-append-le at (take end bytes) more (omega arith)
    ∙ ap (λ z. z ++ more) (sym (held_is bytes at end h))
