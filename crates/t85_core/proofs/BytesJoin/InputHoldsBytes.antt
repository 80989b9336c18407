-- Bytes that are held before those that an input has still to give.
use Rattle.std.proofs.Common.{min, length-append, append-nil, ◌≡◌, ◌≤◌, ◌+◌, ◌-◌, ℕ, List, [], ◌∷◌, ◌++◌, Option, None, Some, length, take, drop, refl, sym, ap, ◌∙◌, subst, arith}
use Rattle.std.specs.Io.KnownBytes.{Consumes, IsAtEnd, Keeps, prepend_known}
use Rattle.std.proofs.lemmas.List.{drop-take, drop-drop}
use Rattle.std.proofs.Math.Seq.{drop_at, take_at}
use Rattle.t85_core.specs.RowSink.{held_of}

pub Keeps-same : (a : Option (List ℕ)) → Keeps a a
Keeps-same None = tt
Keeps-same (Some a) = refl

Keeps-consumes : (a b c : Option (List ℕ)) (xs : List ℕ) → Keeps a b → Consumes b c xs → Consumes a c xs
Keeps-consumes None b c xs k p = tt
Keeps-consumes (Some a) None c xs k p = absurd k
Keeps-consumes (Some a) (Some b) None xs k p = p
Keeps-consumes (Some a) (Some b) (Some c) xs k p = sym k ∙ p

-- what is held after so many bytes of it were given
pub held_after : (bytes : List ℕ) (at count end : ℕ) → at + count ≤ end → take (end - (at + count)) (drop (at + count) bytes) ≡ drop count (take (end - at) (drop at bytes))
held_after bytes at count end h =
    let n : end - at ≡ count + (end - (at + count)) = omega arith in
    sym (ap (λ k. drop count (take k (drop at bytes))) n ∙ drop-take count (end - (at + count)) (drop at bytes) ∙ ap (take (end - (at + count))) (drop-drop count at bytes))

pub none_held : {at end : ℕ} (bytes : List ℕ) → at ≡ end → take (end - at) (drop at bytes) ≡ []
none_held {at} {end} bytes e = let n : end - at ≡ 0 = omega arith in ap (λ k. take k (drop at bytes)) n

-- where none is held, the known bytes are those that the input has still to give
pub known_beyond : (held : List ℕ) (a : Option (List ℕ)) → length held ≤ 0 → prepend_known held a ≡ a
known_beyond [] None few = refl
known_beyond [] (Some a) few = refl
known_beyond (x ∷ held) a few = absurd (omega arith)

pub known_unheld : {at end : ℕ} (bytes : List ℕ) (a : Option (List ℕ)) → at ≡ end → prepend_known (held_of bytes at end) a ≡ a
known_unheld bytes a e = known_beyond _ a (omega (arith, ap length (none_held bytes e)))

-- the last bytes of those that are held stay, and those before them are taken
pub kept_last : {left count : ℕ} (a b : Option (List ℕ)) (held now : List ℕ) → count ≡ length held - min left (length held) → now ≡ drop count held → Consumes a b (take count held) →
    (front back : List ℕ) → held ≡ front ++ back → length back ≡ left → (now ≡ back) × Consumes a b front
kept_last {count} a b held now most rest taken front back is long =
    let sum = ap length is ∙ length-append front back in
    let few : length front ≡ count = omega arith in (
      rest ∙ ap (drop count) is ∙ drop_at front back count few,
      subst (Consumes a b) (ap (take count) is ∙ take_at front back count few) taken,
    )

-- if nothing came, or the read failed, they are given up
pub given_up : (a b c : Option (List ℕ)) (held now : List ℕ) → Keeps a b → ((front back : List ℕ) → now ≡ front ++ back → length back ≡ 0 → Consumes b c front) → now ≡ held →
    Consumes a c held
given_up a b c held now kept taken same = Keeps-consumes a b c held kept (taken held [] (same ∙ sym (append-nil held)) refl)

pub none_came : {n : ℕ} (now held : List ℕ) → n ≡ 0 → (more : List ℕ) × (length more ≡ n) × (now ≡ held ++ more) → now ≡ held
none_came now held none ([], long, is) = is ∙ append-nil held
none_came now held none (x ∷ more, long, is) = absurd (omega arith)

-- where all that are still to come are held, the input has no more to give
pub end_beyond : (held : List ℕ) (a : Option (List ℕ)) → Keeps (prepend_known held a) (Some held) → IsAtEnd a
end_beyond held None p = tt
end_beyond held (Some []) p = refl
end_beyond held (Some (x ∷ a)) p = absurd (omega (arith, ap length p, length-append held (x ∷ a)))
