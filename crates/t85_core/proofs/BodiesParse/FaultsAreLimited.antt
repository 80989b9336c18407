-- Which faults a header and a body may have.
use Rattle.std.proofs.Common.{cond, ◌≡◌, ◌≢◌, ◌+◌, ◌||◌, ℕ, Bool, true, false, not, List, [], ◌∷◌, Option, None, Some, length, nat_lt, nat_le, refl, subst}
use Rattle.std.specs.Prelude.{IfSome, ◌==◌, if◌then◌else◌}
use Rattle.std.specs.List.{AllByRecursion}
use Rattle.byteorder.specs.Endian.{big_number}
use Rattle.t85_core.specs.declared.fault.Fault.{Fault}
use Rattle.t85_core.specs.declared.fault.Fault.TheVariants.{ShortHeader, Truncated, BadEscape, Aborted, MoveRefused, SecondMove, LengthRefused, SecondLength, Changed, Read, Write}
use Rattle.t85_core.specs.Header.{Fields, is_variable, Refusal, refusals, first_refusal, header_fault}
use Rattle.t85_core.specs.Refusal.{Spot, rest_fault, escape_fault, length_fault, move_fault, comment_fault, is_legal_move, StripesFault}
use Rattle.t85_core.specs.Grammar.{is_valid_length}
use Rattle.t85_core.specs.Failures.{counted_as, writes_after}
use Rattle.t85_core.specs.Info.{IsBodyFault, IsWalkFault}

either_of : (P : Option Fault → Type 0) (t : Bool) (a b : Option Fault) → P a → P b → P (cond t a b)
either_of P true a b p q = p
either_of P false a b p q = q

abbrev MayRefuse : Option Fault → Type 0
MayRefuse o = IfSome o IsWalkFault

abbrev MayBe : Option Fault → Type 0
MayBe o = IfSome o IsBodyFault

either : (t : Bool) (a b : Option Fault) → MayBe a → MayBe b → MayBe (cond t a b)
either t a b = either_of (λ o. MayBe o) t a b

first_may : (rs : List Refusal) (bytes : List ℕ) → AllByRecursion (λ r. IsWalkFault r.1) rs → MayRefuse (first_refusal rs bytes)
first_may [] bytes p = tt
first_may (r ∷ rs) bytes p = either_of (λ o. MayRefuse o) (r.0 bytes) (Some r.1) (first_refusal rs bytes) p.0 (first_may rs bytes p.1)

header_may : (bytes : List ℕ) → MayRefuse (header_fault bytes)
header_may bytes = either_of (λ o. MayRefuse o) (nat_lt (length bytes) 20) (Some ShortHeader) (first_refusal refusals bytes) tt (first_may refusals bytes (tt, (tt, (tt, (tt, (tt, (tt, (tt, tt))))))))

move_may : (h : Fields) (moves : ℕ) (bytes : List ℕ) → MayBe (move_fault h moves bytes)
move_may h moves bytes =
    either (not (moves == 0)) (Some SecondMove) (if nat_lt (length bytes) 6 then Some Truncated else if is_legal_move h bytes then None else Some MoveRefused) tt
    (either (nat_lt (length bytes) 6) (Some Truncated) (if is_legal_move h bytes then None else Some MoveRefused) tt
    (either (is_legal_move h bytes) None (Some MoveRefused) tt tt))

comment_may : (bytes : List ℕ) → MayBe (comment_fault bytes)
comment_may bytes =
    either (nat_lt (length bytes) 4) (Some Truncated) (if nat_lt (length bytes) (4 + big_number 4 bytes) then Some Truncated else None) tt
    (either (nat_lt (length bytes) (4 + big_number 4 bytes)) (Some Truncated) None tt tt)

length_may : (h : Fields) (spot : Spot) (bytes : List ℕ) → MayBe (length_fault h spot bytes)
length_may h spot bytes =
    either (not (is_variable h)) (Some LengthRefused) _ tt
    (either (not (spot.heights == 0)) (Some SecondLength) _ tt
    (either (nat_lt (length bytes) 4) (Some Truncated) _ tt
    (either (not (is_valid_length h spot.entities (big_number 4 bytes))) (Some LengthRefused) _ tt
    (either (big_number 4 bytes == spot.height) None (Some Changed) tt tt))))

escape_may : (h : Fields) (spot : Spot) (moves : ℕ) (in_code : Bool) (escape : ℕ) (bytes : List ℕ) → MayBe (escape_fault h spot moves in_code escape bytes)
escape_may h spot moves in_code escape bytes =
    either ((escape == 0) || (escape == 2) || (escape == 3)) None _ tt
    (either (escape == 4) (Some Aborted) _ tt
    (either ((escape == 1) || nat_le 8 escape || in_code) (Some BadEscape) _ tt
    (either (escape == 5) (length_fault h spot bytes) _ (length_may h spot bytes)
    (either (escape == 6) (move_fault h moves bytes) (comment_fault bytes) (move_may h moves bytes) (comment_may bytes)))))

rest_may : (h : Fields) (spot : Spot) (moves : ℕ) (in_code : Bool) (bytes : List ℕ) → MayBe (rest_fault h spot moves in_code bytes)
rest_may h spot moves in_code [] = tt
rest_may h spot moves in_code (b ∷ []) = either (b == 255) (Some Truncated) None tt tt
rest_may h spot moves in_code (b ∷ escape ∷ bytes) = either (b == 255) (escape_fault h spot moves in_code escape bytes) None (escape_may h spot moves in_code escape bytes) tt

pub header_faults : {f : Fault} (bytes : List ℕ) → header_fault bytes ≡ Some f → IsWalkFault f
header_faults bytes e = subst (λ o. MayRefuse o) e (header_may bytes)

-- what may be reported of a body may be reported of a walk
pub walk_fault : (f : Fault) → IsBodyFault f → IsWalkFault f
walk_fault Truncated p = tt
walk_fault BadEscape p = tt
walk_fault Aborted p = tt
walk_fault MoveRefused p = tt
walk_fault SecondMove p = tt
walk_fault LengthRefused p = tt
walk_fault SecondLength p = tt
walk_fault Changed p = tt
walk_fault Read p = tt
walk_fault _ p = absurd p

pub body_faults : {h : Fields} {height count : ℕ} {bytes : List ℕ} {f : Fault} → StripesFault h height count bytes f → IsBodyFault f
body_faults {h} p = subst (λ o. MayBe o) p.tail_has.rest_has (rest_may h _ _ _ p.tail_has.rest)

uncounted_of : (P : Fault → Type 0) → P Read → (ending f : Fault) → P (counted_as ending f) → P f
uncounted_of P read ending Read p = read
uncounted_of P read ending f p = p

pub uncounted : (ending f : Fault) → IsWalkFault (counted_as ending f) → IsWalkFault f
uncounted ending f p = uncounted_of (λ x. IsWalkFault x) tt ending f p

pub uncounted_body : (ending f : Fault) → IsBodyFault (counted_as ending f) → IsBodyFault f
uncounted_body ending f p = uncounted_of (λ x. IsBodyFault x) tt ending f p

pub no_write : (f : Fault) → IsWalkFault f → f ≢ Write
no_write f p e = subst IsWalkFault e p

pub unwritten : (f : Fault) → IsWalkFault f → (n : ℕ) → writes_after f n ≡ n
unwritten Write p = absurd p
unwritten f p = λ n. refl

pub rest_faults : {f : Fault} (h : Fields) (spot : Spot) (moves : ℕ) (in_code : Bool) (bytes : List ℕ) → rest_fault h spot moves in_code bytes ≡ Some f → IsWalkFault f
rest_faults {f} h spot moves in_code bytes e = walk_fault f (subst (λ o. MayBe o) e (rest_may h spot moves in_code bytes))
