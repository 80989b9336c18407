-- Calls that read, one after the other.
use Rattle.std.proofs.Common.{◌≡◌, ◌≢◌, ◌⊎◌, inl, inr, ℕ, ◌+◌, List, [], ◌∷◌, ◌++◌, length, Result, Ok, Err, refl, sym, ap, ◌∙◌, subst, append-nil, length-append, arith}
use Rattle.std.specs.Io.KnownBytes.{Consumes}
use Rattle.std.specs.Result.{IsErrAnd}
use Rattle.pbm_core.specs.declared.fault.PbmFault.{PbmFault}
use Rattle.pbm_core.specs.declared.fault.PbmFault.TheVariants.{Truncated, Read}
use Rattle.devices.specs.Device.{InputView, SameInput}
use Rattle.pbm_core.specs.Reading.{Reads, CountsPbmRead, fault_of_given}
use Rattle.pbm_core.specs.Private.{IsCut}
use Rattle.pbm_core.proofs.CallsConsume.{Consumes-none, Consumes-more}

-- these bytes were taken, and no read failed
pub record Passes (old new : InputView) (given : List ℕ) : Type 0 where
  pub taken : Consumes old.remaining new.remaining given
  pub left : new.left + length given ≡ old.left
  pub failures : new.failures ≡ old.failures
  pub same_source : new.source ≡ old.source

pub passes-none : (a : InputView) → Passes a a []
passes-none a = record { taken = Consumes-none a.remaining; left = omega arith; failures = refl; same_source = refl }

pub passes-more : {a b c : InputView} {xs ys : List ℕ} → Passes a b xs → Passes b c ys → Passes a c (xs ++ ys)
passes-more {a} {b} {c} {xs} {ys} p q = record {
  taken = Consumes-more a.remaining b.remaining c.remaining xs ys p.taken q.taken;
  left = (let l = length-append xs ys in let v = p.left in let w = q.left in omega arith);
  failures = q.failures ∙ p.failures;
  same_source = q.same_source ∙ p.same_source;
}

-- what a call took that read a value
pub passed : {T : Type 0} {a b : InputView} {x : T} {P : List ℕ → T → Type 0} {F : List ℕ → PbmFault → Type 0} (r : Reads a b (Ok x) P F) → Passes a b r.given
passed r = record { taken = r.taken; left = r.left; failures = r.failures; same_source = r.same_input.same_source }

-- what a call took that read a byte
pub passed_byte : {a b : InputView} {x : ℕ} {F : List ℕ → PbmFault → Type 0} → Reads a b (Ok x) (λ given byte. given ≡ byte ∷ []) F → Passes a b (x ∷ [])
passed_byte {a} {b} r = subst (λ z. Passes a b z) r.value (passed r)

-- where no read failed
pub kept : {a b : InputView} {given : List ℕ} → Passes a b given → SameInput a b
kept p = record { same_source = p.same_source; drained = inl p.failures }

-- a value is read
pub reads : {T : Type 0} {a b : InputView} {x : T} {P : List ℕ → T → Type 0} {F : List ℕ → PbmFault → Type 0} {given : List ℕ} → Passes a b given → P given x → Reads a b (Ok x) P F
reads {given = given} p is = record { given = given; taken = p.taken; left = p.left; value = is; fault = tt; at_end = tt; failures = p.failures; same_input = kept p }

uncounted : (T : Type 0) (old new : ℕ) (f : PbmFault) → fault_of_given f ≡ f → new ≡ old → CountsPbmRead {T = T} old new (Err f)
uncounted T old new Read same e = let h = same in cc
uncounted T old new f same e = e

pub same_given : (f : PbmFault) → f ≢ Read → fault_of_given f ≡ f
same_given Read other = absurd (other refl)
same_given f other = refl

-- a fault shows in the bytes so far
pub fails-at : {T : Type 0} {a b : InputView} {P : List ℕ → T → Type 0} {F : List ℕ → PbmFault → Type 0} {given : List ℕ} (f : PbmFault) → fault_of_given f ≡ f → f ≢ Truncated
    → Passes a b given → F given f → Reads a b (Err f) P F
fails-at {T} {a} {b} {P} {F} {given} f same other p has = record {
  given = given;
  taken = p.taken;
  left = p.left;
  value = tt;
  fault = subst (λ e. F given e) (sym same) has;
  at_end = (λ h. absurd (other h));
  failures = uncounted T a.failures b.failures f same p.failures;
  same_input = kept p;
}

counted : (T U : Type 0) (old new : ℕ) (f : PbmFault) → CountsPbmRead {T = U} old new (Err f) → CountsPbmRead {T = T} old new (Err f)
counted T U old new Read p = p
counted T U old new f p = p

-- the exit of a `?`, after bytes that were passed before
pub fails-after : {T U : Type 0} {a b c : InputView} {e : PbmFault} {P : List ℕ → T → Type 0} {Q : List ℕ → U → Type 0} {F G : List ℕ → PbmFault → Type 0} {front : List ℕ} (r : Result T PbmFault)
    → IsErrAnd r (λ y. y ≡ e) → Passes a b front → Reads b c (Err e) Q G → ((given : List ℕ) (f : PbmFault) → G given f → F (front ++ given) f) → Reads a c r P F
fails-after (Ok x) is p q widen = absurd is
fails-after {T} {U} {a} {b} {c} {e} {P} {Q} {F} {G} {front} (Err y) is p q widen = record {
  given = front ++ q.given;
  taken = Consumes-more a.remaining b.remaining c.remaining front q.given p.taken q.taken;
  left = (let l = length-append front q.given in let v = p.left in let w = q.left in omega arith);
  value = tt;
  fault = subst (λ z. F (front ++ q.given) (fault_of_given z)) (sym is) (widen q.given (fault_of_given e) q.fault);
  at_end = (λ h. q.at_end (sym is ∙ h));
  failures = subst (λ z. CountsPbmRead {T = T} a.failures c.failures (Err z)) (sym is)
      (subst (λ n. CountsPbmRead {T = T} n c.failures (Err e)) p.failures (counted T U b.failures c.failures e q.failures));
  same_input = record { same_source = q.same_input.same_source ∙ p.same_source; drained = drained q.same_input.drained };
} where
  drained : (c.failures ≡ b.failures) ⊎ (c.held ≡ []) → (c.failures ≡ a.failures) ⊎ (c.held ≡ [])
  drained (inl same) = inl (same ∙ p.failures)
  drained (inr none) = inr none

-- the exit of a `?` at the next byte
pub missing : {T U : Type 0} {a b c : InputView} {e : PbmFault} {P : List ℕ → T → Type 0} {Q : List ℕ → U → Type 0} {F : List ℕ → PbmFault → Type 0} {front : List ℕ} (r : Result T PbmFault)
    → IsErrAnd r (λ y. y ≡ e) → Passes a b front → Reads b c (Err e) Q (IsCut (λ given. given ≡ [])) → F front Truncated → Reads a c r P F
missing {F = F} {front = front} r is p q cut = fails-after r is p q (λ given f k.
    subst (λ x. F (front ++ given) x) (sym k.1) (subst (λ xs. F xs Truncated) (sym (ap (λ z. front ++ z) k.0 ∙ append-nil front)) cut))
