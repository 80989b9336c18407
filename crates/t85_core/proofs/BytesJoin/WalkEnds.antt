-- A walk that ends in the middle, seen from its beginning.
use Rattle.std.proofs.Common.{◌≡◌, ◌≢◌, ◌⊎◌, inl, inr, subst, ℕ, List, [], ◌++◌, Option, None, Some, Result, Ok, Err, append-nil}
use Rattle.std.specs.Io.KnownBytes.{Consumes}
use Rattle.std.specs.Prelude.{IfSome}
use Rattle.std.specs.Result.{IfOk, OnOk, OnErr, IfErr, IsErrAnd, IsErrOf}
use Rattle.t85_core.specs.declared.fault.Fault.{Fault}
use Rattle.t85_core.specs.declared.fault.Fault.TheVariants.{Truncated}
use Rattle.t85_core.specs.Failures.{Ends, counted_as}
use Rattle.t85_core.proofs.BytesJoin.CallsJoin.{Consumes-more}

-- bytes that were skipped before precede the others
pub Ends-after : {ending : Fault} {a b c : Option (List ℕ)} {P Q : List ℕ → Fault → Type 0} {f : Fault} (front : List ℕ) → Consumes a b front →
    ((given : List ℕ) (e : Fault) → P given e → Q (front ++ given) e) → Ends ending b c P f → Ends ending a c Q f
Ends-after {ending} {a} {b} {c} {P} {Q} {f} front taken widen e = record {
  given = front ++ e.given;
  taken = Consumes-more a b c front e.given taken e.taken;
  has_fault = widen e.given (counted_as ending f) e.has_fault;
  at_end = e.at_end;
}

-- a fault that the bytes so far have, and that is reported at once
pub Ends-at : {ending f : Fault} {a b : Option (List ℕ)} {Q : List ℕ → Fault → Type 0} (given : List ℕ) → Consumes a b given → counted_as ending f ≡ f → f ≢ ending → Q given f →
    Ends ending a b Q f
Ends-at {ending} {a} {b} {Q} given taken same other q = record {
  given = given;
  taken = taken;
  has_fault = rw same q;
  at_end = λ h. absurd (other h);
}

-- the exit of a `?` that gives a fault back
pub exit : {T : Type 0} (P : Fault → Type 0) (r : Result T Fault) {e : Fault} → IsErrAnd r (λ y. y ≡ e) → P e → IfErr r P
exit P (Ok x) a p = tt
exit P (Err y) a p = rw a p

-- the next byte is missing
pub Ends-missing : {a b c : Option (List ℕ)} {f : Fault} (Q : List ℕ → Fault → Type 0) (front : List ℕ) → Consumes a b front → Q front Truncated →
    Ends Truncated b c (λ given fault. (given ≡ []) × (fault ≡ Truncated)) f → Ends Truncated a c Q f
Ends-missing Q front taken q e = Ends-after front taken (λ given f p.
    rw (p.1, p.0, append-nil) q) e

-- what follows from the fault that a `?` passed on
pub exit_of : {T : Type 0} {P : Type 0} (r : Result T Fault) {e f : Fault} → IsErrAnd r (λ y. y ≡ e) → (e ≡ f → P) → IsErrOf r f → P
exit_of (Ok x) a k b = absurd a
exit_of (Err y) a k b = k (cc)

pub on_ok : {T E : Type 0} (r : Result T E) {P Q S : Type 0} → (P → Q → S) → OnOk r P → OnOk r Q → OnOk r S
on_ok (Ok x) k p q = k p q
on_ok (Err e) k p q = tt

pub map_ok : {T E : Type 0} (r : Result T E) {P Q : Type 0} → (P → Q) → OnOk r P → OnOk r Q
map_ok (Ok x) k p = k p
map_ok (Err e) k p = tt

pub map_if_some : {T : Type 0} (o : Option T) {P Q : T → Type 0} → ((x : T) → P x → Q x) → IfSome o P → IfSome o Q
map_if_some None k p = tt
map_if_some (Some x) k p = k x p

pub map_if_ok : {T E : Type 0} (r : Result T E) {P Q : T → Type 0} → ((x : T) → P x → Q x) → IfOk r P → IfOk r Q
map_if_ok (Ok x) k p = k x p
map_if_ok (Err e) k p = tt

pub always : {T E : Type 0} (r : Result T E) {P : Type 0} → P → OnOk r P
always (Ok x) p = p
always (Err e) p = tt

pub on_err : {T E : Type 0} (r : Result T E) {P Q : Type 0} → (P → Q) → OnErr r P → OnErr r Q
on_err (Ok x) k p = tt
on_err (Err e) k p = k p

pub always_err : {T E : Type 0} (r : Result T E) {P : Type 0} → P → OnErr r P
always_err (Ok x) p = tt
always_err (Err e) p = p

-- what holds of each fault, of this one
pub err_of : {T E : Type 0} {P : Type 0} (r : Result T E) {e : E} → IsErrOf r e → OnErr r P → P
err_of (Ok x) is p = absurd (let bot : ⊥ = cc in bot)
err_of (Err e) is p = p

pub of_ok : {T E : Type 0} {P : Type 0} {r : Result T E} {x : T} → r ≡ Ok x → OnOk r P → P
of_ok {P = P} is p = subst (λ z. OnOk z P) is p

pub of_err : {T E : Type 0} (P : E → Type 0) {r : Result T E} {e : E} → r ≡ Err e → IfErr r P → P e
of_err P is p = subst (λ z. IfErr z P) is p

pub map_if_err : {T E : Type 0} (r : Result T E) {P Q : E → Type 0} → ((e : E) → P e → Q e) → IfErr r P → IfErr r Q
map_if_err (Ok x) k p = tt
map_if_err (Err e) k p = k e p

-- what both outcomes leave
pub either_way : {T E : Type 0} {P R : Type 0} (r : Result T E) → (P → R) → OnOk r P → IfErr r (λ _. R) → R
either_way (Ok x) k p q = k p
either_way (Err e) k p q = q

-- by cases on which of two it is
pub one_or_other : {A B R : Type 0} → (A → R) → (B → R) → A ⊎ B → R
one_or_other k l (inl a) = k a
one_or_other k l (inr b) = l b
