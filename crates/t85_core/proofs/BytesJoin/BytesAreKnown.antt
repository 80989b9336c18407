-- From what a walk took to what is said of all the bytes.
use Rattle.std.proofs.Common.{cond, ◌||◌, ◌≡◌, ◌≢◌, ◌⊎◌, inl, inr, ◌<◌, ◌≤◌, ◌+◌, ℕ, Bool, true, false, not, List, [], ◌∷◌, ◌++◌, Option, None, Some, IfSome, length, drop, slice_index, nat_lt, nat_le, refl, sym, ap, ◌∙◌, subst, append-nil, length-drop, length-append, arith}
use Rattle.std.specs.Bool.{◌==◌}
use Rattle.std.proofs.lemmas.Bool.{cases_lt}
use Rattle.std.proofs.lemmas.Bool.Decides.{nat_tests}
use Rattle.std.proofs.lemmas.List.{get_or_append_left, drop-append-le, drop_at}
use Rattle.byteorder.specs.Endian.{big_number}
use Rattle.byteorder.specs.Numbers.{big_from-append}
use Rattle.t85_core.specs.declared.fault.Fault.{Fault}
use Rattle.t85_core.specs.declared.fault.Fault.TheVariants.{ShortHeader, Truncated, Read, MoveRefused, Aborted, BadEscape, LengthRefused, SecondMove, SecondLength, Changed}
use Rattle.t85_core.specs.Refusal.{Spot, rest_fault, escape_fault, length_fault, move_fault, comment_fault, is_legal_move}
use Rattle.t85_core.specs.Height.{StreamFault}
use Rattle.t85_core.specs.Grammar.{is_valid_length}
use Rattle.t85_core.specs.Failures.{Ends, counted_as}
use Rattle.t85_core.specs.Header.{Fields, is_variable, HeaderOf, long_at, header_fault, first_refusal, refusals}

byte-append : (given more : List ℕ) (i : ℕ) → i < length given → slice_index (given ++ more) i ≡ slice_index given i
byte-append given more i h = get_or_append_left given more 0 i h

long-append : (given more : List ℕ) (i : ℕ) → i + 4 ≤ length given → long_at i (given ++ more) ≡ long_at i given
long-append given more i h =
    rw (drop-append-le i given more (omega arith)) (big_from-append 4 (drop i given) more (omega (arith, length-drop i given)))

-- the header's bytes are the first twenty
pub HeaderOf-append : {given : List ℕ} {h : Fields} (more : List ℕ) → HeaderOf given h → HeaderOf (given ++ more) h
HeaderOf-append {given} more p =
    let long = p.whole in
    record {
      whole = omega (arith, length-append given more);
      dl = byte-append given more 0 (omega arith) ∙ p.dl;
      d = byte-append given more 1 (omega arith) ∙ p.d;
      p = byte-append given more 2 (omega arith) ∙ p.p;
      zero = byte-append given more 3 (omega arith) ∙ p.zero;
      xd = long-append given more 4 (omega arith) ∙ p.xd;
      yd = long-append given more 8 (omega arith) ∙ p.yd;
      l0 = long-append given more 12 (omega arith) ∙ p.l0;
      mx = byte-append given more 16 (omega arith) ∙ p.mx;
      order = omega (arith, byte-append given more 18 (omega arith));
      options = byte-append given more 19 (omega arith) ∙ p.options;
      accepted = p.accepted;
    }

pub header_fault-append : (given more : List ℕ) → 20 ≤ length given → header_fault (given ++ more) ≡ header_fault given
header_fault-append given more long =
    let longer : 20 ≤ length (given ++ more) = omega (arith, length-append given more) in
    let a : nat_lt (length (given ++ more)) 20 ≡ false = grind (arith, nat_tests) in
    let b : nat_lt (length given) 20 ≡ false = grind (arith, nat_tests) in
    let e0 = byte-append given more 0 (omega arith) in
    let e1 = byte-append given more 1 (omega arith) in
    let e2 = byte-append given more 2 (omega arith) in
    let e3 = byte-append given more 3 (omega arith) in
    let e16 = byte-append given more 16 (omega arith) in
    let e18 = byte-append given more 18 (omega arith) in
    let e19 = byte-append given more 19 (omega arith) in
    let x4 = long-append given more 4 (omega arith) in
    let x8 = long-append given more 8 (omega arith) in
    let x12 = long-append given more 12 (omega arith) in
    ap (λ t. cond t (Some ShortHeader) (first_refusal refusals (given ++ more))) a
    ∙ rw (e0, e1, e2, e3, e16, e18, e19, x4, x8, x12) (ap (λ t. cond t (Some ShortHeader) (first_refusal refusals given)) (sym b))

-- a fault that isn't the end stays, whatever bytes follow
abbrev IsStable : (List ℕ → Option Fault) → Type 0
IsStable F = (bytes more : List ℕ) (f : Fault) → F bytes ≡ Some f → (f ≡ Truncated) ⊎ (F (bytes ++ more) ≡ Some f)

stable_constant : (x : Option Fault) → IsStable (λ _. x)
stable_constant x bytes more f e = inr e

stable_cond : (t : Bool) (F G : List ℕ → Option Fault) → IsStable F → IsStable G → IsStable (λ bytes. cond t (F bytes) (G bytes))
stable_cond true F G p q = p
stable_cond false F G p q = q

legal-append : (h : Fields) (bytes more : List ℕ) → 6 ≤ length bytes → is_legal_move h (bytes ++ more) ≡ is_legal_move h bytes
legal-append h bytes more long =
    let row = big_from-append 4 bytes more (omega arith) in
    let offset = byte-append bytes more 4 (omega arith) in
    let last = byte-append bytes more 5 (omega arith) in
    rw (row, offset, last) refl

stable_first : {f : Fault} (h : Fields) (bytes more : List ℕ) → (length bytes < 6) ⊎ (6 ≤ length bytes) → move_fault h 0 bytes ≡ Some f →
    (f ≡ Truncated) ⊎ (move_fault h 0 (bytes ++ more) ≡ Some f)
stable_first {f} h bytes more (inl short) e =
    let t : nat_lt (length bytes) 6 ≡ true = grind (arith, nat_tests) in
    let cut : Some Truncated ≡ Some f = ap (λ b. cond b (Some Truncated) (cond (is_legal_move h bytes) None (Some MoveRefused))) (sym t) ∙ e in
    inl cc
stable_first h bytes more (inr long) e =
    let t : nat_lt (length bytes) 6 ≡ false = grind (arith, nat_tests) in
    let longer : 6 ≤ length (bytes ++ more) = omega (arith, length-append bytes more) in
    let t' : nat_lt (length (bytes ++ more)) 6 ≡ false = grind (arith, nat_tests) in
    inr (ap (λ b. cond b (Some Truncated) (cond (is_legal_move h (bytes ++ more)) None (Some MoveRefused))) t'
    ∙ ap (λ b. cond b None (Some MoveRefused)) (legal-append h bytes more long)
    ∙ ap (λ b. cond b (Some Truncated) (cond (is_legal_move h bytes) None (Some MoveRefused))) (sym t) ∙ e)

stable_move : (h : Fields) (moves : ℕ) → IsStable (move_fault h moves)
stable_move h moves = stable_cond (not (moves == 0)) (λ _. Some SecondMove) (move_fault h 0) (stable_constant (Some SecondMove))
    (λ bytes more f e. stable_first h bytes more (cases_lt (length bytes) 6) e)

two_tests : {f : Fault} (t u : Bool) → cond t (Some Truncated) (cond u (Some Truncated) None) ≡ Some f → f ≡ Truncated
two_tests t u e = grind (arith, nat_tests)

stable_comment : IsStable comment_fault
stable_comment bytes more f e = inl (two_tests (nat_lt (length bytes) 4) (nat_lt (length bytes) (4 + big_number 4 bytes)) e)

number_fault : Fields → Spot → List ℕ → Option Fault
number_fault h spot bytes =
    cond (nat_lt (length bytes) 4) (Some Truncated) (cond (not (is_valid_length h spot.entities (big_number 4 bytes))) (Some LengthRefused)
    (cond (big_number 4 bytes == spot.height) None (Some Changed)))

stable_number : (h : Fields) (spot : Spot) → IsStable (number_fault h spot)
unfolding number_fault
stable_number h spot bytes more f e = went (cases_lt (length bytes) 4) where
  went : (length bytes < 4) ⊎ (4 ≤ length bytes) → (f ≡ Truncated) ⊎ (number_fault h spot (bytes ++ more) ≡ Some f)
  went (inl short) =
      let t : nat_lt (length bytes) 4 ≡ true = grind (arith, nat_tests) in
      let cut : Some Truncated ≡ Some f =
      ap (λ b. cond b (Some Truncated) (cond (not (is_valid_length h spot.entities (big_number 4 bytes))) (Some LengthRefused) (cond (big_number 4 bytes == spot.height) None (Some Changed))))
      (sym t) ∙ e in
      inl cc
  went (inr long) =
      let t : nat_lt (length bytes) 4 ≡ false = grind (arith, nat_tests) in
      let longer : 4 ≤ length (bytes ++ more) = omega (arith, length-append bytes more) in
      let t' : nat_lt (length (bytes ++ more)) 4 ≡ false = grind (arith, nat_tests) in
      let same : big_number 4 (bytes ++ more) ≡ big_number 4 bytes = big_from-append 4 bytes more long in
      inr (ap (λ b. cond b (Some Truncated) (cond (not (is_valid_length h spot.entities (big_number 4 (bytes ++ more)))) (Some LengthRefused)
      (cond (big_number 4 (bytes ++ more) == spot.height) None (Some Changed)))) t'
      ∙ ap (λ n. cond (not (is_valid_length h spot.entities n)) (Some LengthRefused) (cond (n == spot.height) None (Some Changed))) same
      ∙ ap (λ b. cond b (Some Truncated) (cond (not (is_valid_length h spot.entities (big_number 4 bytes))) (Some LengthRefused) (cond (big_number 4 bytes == spot.height) None (Some Changed))))
      (sym t) ∙ e)

stable_length : (h : Fields) (spot : Spot) → IsStable (length_fault h spot)
unfolding number_fault
stable_length h spot =
    stable_cond (not (is_variable h)) (λ _. Some LengthRefused) _ (stable_constant (Some LengthRefused))
    (stable_cond (not (spot.heights == 0)) (λ _. Some SecondLength) (number_fault h spot) (stable_constant (Some SecondLength)) (stable_number h spot))

stable_escape : (h : Fields) (spot : Spot) (moves : ℕ) (in_code : Bool) (escape : ℕ) → IsStable (escape_fault h spot moves in_code escape)
stable_escape h spot moves in_code escape =
    stable_cond ((escape == 0) || (escape == 2) || (escape == 3)) _ _ (stable_constant None)
    (stable_cond (escape == 4) _ _ (stable_constant (Some Aborted))
    (stable_cond ((escape == 1) || nat_le 8 escape || in_code) _ _ (stable_constant (Some BadEscape))
    (stable_cond (escape == 5) (length_fault h spot) _ (stable_length h spot)
    (stable_cond (escape == 6) (move_fault h moves) comment_fault (stable_move h moves) stable_comment))))

pub stable_rest : (h : Fields) (spot : Spot) (moves : ℕ) (in_code : Bool) → IsStable (rest_fault h spot moves in_code)
stable_rest h spot moves in_code [] more f e = inl cc
stable_rest h spot moves in_code (b ∷ []) more f e = inl (two_tests (b == 255) false e)
stable_rest h spot moves in_code (b ∷ escape ∷ bytes) more f e =
    stable_cond (b == 255) (escape_fault h spot moves in_code escape) (λ _. None) (stable_escape h spot moves in_code escape) (stable_constant None) bytes more f e

pub counted-other : (ending f : Fault) → f ≢ Read → counted_as ending f ≡ f
counted-other ending Read h = absurd (h refl)
counted-other ending f h = refl

-- where the header is refused
pub header_known : {old new : Option (List ℕ)} {f : Fault} → Ends ShortHeader old new (λ given fault. (length given ≤ 20) × (header_fault given ≡ Some fault)) f → f ≢ Read →
    IfSome old (λ bytes. header_fault bytes ≡ Some f)
header_known {old = None} e other = tt
header_known {old = (Some bytes)} {new = None} e other = absurd e.taken
header_known {old = (Some bytes)} {new = (Some left)} {f} e other =
    let same = subst (λ x. header_fault e.given ≡ Some x) (counted-other ShortHeader f other) e.has_fault.1 in
    ap header_fault e.taken ∙ went (cases_lt (length e.given) 20) same where
      went : (length e.given < 20) ⊎ (20 ≤ length e.given) → header_fault e.given ≡ Some f → header_fault (e.given ++ left) ≡ Some f
      went (inl short) same =
          let t : nat_lt (length e.given) 20 ≡ true = grind (arith, nat_tests) in
          let told : Some ShortHeader ≡ Some f = ap (λ b. cond b (Some ShortHeader) (first_refusal refusals e.given)) (sym t) ∙ same in
          let ended : f ≡ ShortHeader = cc in
          ap header_fault (ap (λ z. e.given ++ z) (e.at_end ended) ∙ append-nil e.given) ∙ same
      went (inr long) same = header_fault-append e.given left long ∙ same

pub refused_header : {old new : Option (List ℕ)} {f : Fault} → Ends ShortHeader old new (λ given fault. (length given ≤ 20) × (header_fault given ≡ Some fault)) f → f ≢ Read →
    IfSome old (λ bytes. StreamFault bytes f)
refused_header {old} {f} e other = went old (header_known e other) where
  went : (old : Option (List ℕ)) → IfSome old (λ bytes. header_fault bytes ≡ Some f) → IfSome old (λ bytes. StreamFault bytes f)
  went None h = tt
  went (Some bytes) h = inl h

-- what is after the header's twenty bytes
pub behind : (given more : List ℕ) → length given ≡ 20 → drop 20 (given ++ more) ≡ more
behind given more e = drop_at given more 20 e
