-- Bytes that are held before those that a device has still to give.
use Rattle.std.proofs.Common.{Result, Ok, Err, add-one, get_or, suc, ◌≡◌, ◌≤◌, ◌<◌, ◌+◌, ◌-◌, ℕ, List, [], ◌∷◌, ◌++◌, Option, None, Some, length, take, drop, refl, sym, ap, ◌∙◌, append_assoc, take-append-drop, length-take, length-take-le, length-drop, length-append, append-nil, arith, rules}
use Rattle.std.specs.Prelude.{IfOk}
use Rattle.std.specs.Io.KnownBytes.{Consumes, Keeps, IsAtEnd, ReadConsumes, prepend_known}
use borrow.Rule.Slice.PartMut.{put_mid, post_of}
use Rattle.std.proofs.lemmas.List.{drop-take, drop-drop, take-take, take-append-le, take_all}
use Rattle.std.proofs.Math.Seq.{drop-cons, take-append-add}
use Rattle.devices.specs.Buffered.{bytes_between}

pub Keeps-same : (a : Option (List ℕ)) → Keeps a a
Keeps-same None = tt
Keeps-same (Some a) = refl

pub Keeps-consumes : (a b c : Option (List ℕ)) (xs : List ℕ) → Keeps a b → Consumes b c xs → Consumes a c xs
Keeps-consumes (Some a) (Some b) (Some c) xs k p = sym k ∙ p
Keeps-consumes a b c xs k p = search rules

pub none_held : (bytes : List ℕ) (at end : ℕ) → at ≡ end → bytes_between bytes at end ≡ []
none_held bytes at end e = let n : end - at ≡ 0 = omega arith in ap (λ k. take k (drop at bytes)) n

consumes_held : (k : ℕ) (held : List ℕ) (a : Option (List ℕ)) → Consumes (prepend_known held a) (prepend_known (drop k held) a) (take k held)
consumes_held k held None = tt
consumes_held k held (Some a) = ap (λ z. z ++ a) (sym (take-append-drop k held)) ∙ append_assoc (take k held) (drop k held) a

pub held_after : (bytes : List ℕ) (at count end : ℕ) → at + count ≤ end → bytes_between bytes (at + count) end ≡ drop count (bytes_between bytes at end)
held_after bytes at count end h =
    let n : end - at ≡ count + (end - (at + count)) = omega arith in
    sym (ap (λ k. drop count (take k (drop at bytes))) n ∙ drop-take count (end - (at + count)) (drop at bytes) ∙ ap (take (end - (at + count))) (drop-drop count at bytes))

-- so many bytes of those that are held
pub some_taken : (bytes : List ℕ) (at count end : ℕ) (a : Option (List ℕ)) → at + count ≤ end →
    Consumes (prepend_known (bytes_between bytes at end) a) (prepend_known (bytes_between bytes (at + count) end) a) (take count (bytes_between bytes at end))
some_taken bytes at count end a fits =
    rw (held_after bytes at count end fits)
    (consumes_held count (bytes_between bytes at end) a)

-- the next byte of those that are held
pub first_held : (bytes : List ℕ) (at end : ℕ) → at < end → end ≤ length bytes → bytes_between bytes at end ≡ get_or bytes at 0 ∷ bytes_between bytes (at + 1) end
first_held bytes at end some within =
    let n : end - at ≡ suc (end - (at + 1)) = omega arith in
    rw (n, drop-cons bytes at 0 (omega arith), ← add-one at) refl

-- the end of the input, if no byte is buffered
pub at_end_unheld : (held : List ℕ) (a : Option (List ℕ)) → held ≡ [] → IsAtEnd a → IsAtEnd (prepend_known held a)
at_end_unheld held None e h = tt
at_end_unheld held (Some a) e h = ap (λ z. z ++ a) e ∙ h

-- the bytes that were copied are the first of those that are held
pub copied : (bytes source rest : List ℕ) (at count end : ℕ) → source ≡ take (at + count - at) (drop at bytes) → length source ≡ count → at + count ≤ end →
    take count (source ++ rest) ≡ take count (bytes_between bytes at end)
copied bytes source rest at count end is long h =
    let n : at + count - at ≡ count = omega arith in
    take-append-le count source rest (omega arith) ∙ take_all count source (omega arith) ∙ is ∙ ap (λ k. take k (drop at bytes)) n ∙ sym (take-take count (end - at) (drop at bytes) (omega arith))

pub length_between : (bytes : List ℕ) (at end : ℕ) → end ≤ length bytes → length (bytes_between bytes at end) ≡ end - at
length_between bytes at end h = omega (arith, length-take (end - at) (drop at bytes), length-drop at bytes)

take-put_part : (a k n : ℕ) (xs ys : List ℕ) → a ≤ length xs → n ≤ length ys → take (a + n) (put_mid a k xs ys) ≡ take a xs ++ take n ys
take-put_part a k n xs ys h e =
    let front = length-take-le a xs h in
    ap (λ m. take (m + n) (put_mid a k xs ys)) (sym front)
    ∙ take-append-add (take a xs) (ys ++ post_of a k xs) n
    ∙ ap (λ z. take a xs ++ z) (take-append-le n ys (post_of a k xs) e)

-- bytes were read behind the first ones
pub behind_read : {E : Type 0} (r : Result ℕ E) (held : ℕ) (bytes buf : List ℕ) (a b : Option (List ℕ)) → held ≤ length bytes → IfOk r (λ n. n ≤ length buf) →
    ReadConsumes a b r buf →
    IfOk r (λ n. (more : List ℕ) × (take (held + n) (put_mid held (length bytes - held) bytes buf) ≡ take held bytes ++ more) × Consumes a b more)
behind_read (Ok n) held bytes buf a b within few p = (take n buf, take-put_part held (length bytes - held) n bytes buf within few, p.0)
behind_read (Err e) held bytes buf a b within few p = tt

-- those bytes are held behind the ones that were moved to the front
pub filled : (now more bytes moved : List ℕ) (at end n : ℕ) → take (end - at) moved ≡ bytes_between bytes at end → take ((end - at) + n) now ≡ take (end - at) moved ++ more →
    bytes_between now 0 ((end - at) + n) ≡ bytes_between bytes at end ++ more
filled now more bytes moved at end n front behind =
    let same : (end - at) + n ≡ (end - at) + n - 0 = omega arith in
    rw (← same) (behind ∙ ap (λ z. z ++ more) front)

pub keeps_filled : (a b : Option (List ℕ)) (held more now : List ℕ) → Consumes a b more → now ≡ held ++ more → Keeps (prepend_known held a) (prepend_known now b)
keeps_filled None b held more now p e = tt
keeps_filled (Some a) None held more now p e = absurd p
keeps_filled (Some a) (Some b) held more now p e = rw (e, p) (append_assoc held more b)

-- at the end of the input, only those that are held are still to come
pub all_held : (now : List ℕ) (a : Option (List ℕ)) → IsAtEnd a → Keeps (prepend_known now a) (Some now)
all_held now None p = tt
all_held now (Some a) p = rw p (sym (append-nil now))

-- where all that are still to come are held, the device behind is at its end
pub end_behind : (held : List ℕ) (a : Option (List ℕ)) → Keeps (prepend_known held a) (Some held) → IsAtEnd a
end_behind held None p = tt
end_behind held (Some []) p = refl
end_behind held (Some (x ∷ a)) p = absurd (omega (arith, ap length p, length-append held (x ∷ a)))

pub none_came : {n : ℕ} (now held : List ℕ) → now ≡ [] → (more : List ℕ) × (length more ≡ n) × (now ≡ held ++ more) → n ≡ 0
none_came now held none came = omega (arith, ap length (sym none ∙ came.2), length-append held came.0, came.1)
