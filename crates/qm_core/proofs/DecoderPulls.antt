-- The relation of a decoder to its interval after a pull.
use Rattle.std.proofs.Common.{◌≡◌, ℕ, zero, suc, ◌+◌, ◌<◌, ◌≤◌, List, [], ◌∷◌, ◌++◌, length, replicate, arith, refl, ap, ◌∙◌, sym, length-append, append_assoc, append-nil, Result, Err}
use Rattle.std.specs.Prelude.{IsErr}
use Rattle.qm_core.specs.declared.decoder.Stop.{Stop}
use Rattle.qm_core.specs.Place.{Place}
use Rattle.qm_core.specs.Code.{IsBytes, wanted_bytes}
use Rattle.qm_core.specs.Source.{SourceAt, bytes_of, heard_of, Gives, source_at}
use Rattle.qm_core.specs.Decoder.{DecoderIsAt, Fills}
use Rattle.qm_core.specs.Machine.{Registers}
use Rattle.qm_core.specs.declared.source.Pulled.{Pulled}
use Rattle.qm_core.specs.declared.source.Pulled.TheVariants.{Byte, End, Fault}
use Rattle.qm_core.specs.declared.source.Heard.TheVariants.{More, Ended}
use Rattle.qm_core.specs.declared.decoder.Decoder.{Decoder}
use Rattle.qm_core.proofs.AnswersFixBytes.{bytes_of-append, heard_of-append, closed_push, length-bytes_of}

-- a byte was put after the bits
abbrev pub Took : Decoder → Decoder → ℕ → Type 0
Took d e byte = (p : Place) (b : List ℕ) → Registers d.code d.span d.bits p b → Registers e.code e.span e.bits p (b ++ byte ∷ [])

bytes-push : (xs : List ℕ) (b : ℕ) → IsBytes xs → b < 256 → IsBytes (xs ++ b ∷ [])
bytes-push [] b h l = (l, tt)
bytes-push (x ∷ xs) b h l = (h.0, bytes-push xs b h.1 l)

-- while the source continues, no zeros were used, and one more answer is needed
pub none : {d : Decoder} {p : Place} {answers : List Pulled} → DecoderIsAt d p answers → d.heard ≡ More → heard_of answers ≡ More
none s h = sym s.heard ∙ h

pub plain : {d : Decoder} {p : Place} {answers : List Pulled} → DecoderIsAt d p answers → d.heard ≡ More → Registers d.code d.span d.bits p (bytes_of answers)
plain s h =
    let more = none s h in
    let z : s.zeros ≡ 0 = s.no_zeros (λ e. cc) in
    rw (z, append-nil) at s.registers

wanted : {d : Decoder} {p : Place} {answers : List Pulled} → DecoderIsAt d p answers → d.heard ≡ More → d.bits < 16 → length answers + 1 ≤ wanted_bytes p.doublings
wanted {answers = answers} s h few =
    let r = plain s h in
    let l = length-bytes_of answers (none s h) in
    omega (arith, r.count)

-- a decoder at a place that needs the next answer of its source, and the decoder after it
pub record Asks (d e : Decoder) (p : Place) (answers : List Pulled) (answer : Pulled) : Type 0 where
  pub stands : DecoderIsAt d p answers
  pub more : d.heard ≡ More
  pub heard : e.heard ≡ heard_of (answer ∷ [])
  pub few : d.bits < 16

-- with these zeros after the bytes
stands_more : {d e : Decoder} {p : Place} {answers : List Pulled} {answer : Pulled} (zeros : ℕ) → Asks d e p answers answer → IsBytes (bytes_of answers ++ bytes_of (answer ∷ [])) →
    ((heard_of (answer ∷ []) ≡ Ended → ⊥) → zeros ≡ 0) → Registers e.code e.span e.bits p ((bytes_of answers ++ bytes_of (answer ∷ [])) ++ replicate zeros 0) → DecoderIsAt e p (answers ++ answer ∷ [])
stands_more {answers = answers} {answer} zeros a bytes no_zeros registers =
    let more = none a.stands a.more in
    let heard = heard_of-append answers (answer ∷ []) more in
    let all = bytes_of-append answers (answer ∷ []) in
    record {
      closed = closed_push answers answer more;
      heard = a.heard ∙ sym heard;
      bytes = rw all bytes;
      few = rw (length-append answers (answer ∷ [])) (wanted a.stands a.more a.few);
      zeros = zeros;
      no_zeros = λ n. no_zeros (λ is. n (heard ∙ is));
      registers = rw all registers;
    }

pub stands_byte : {d e : Decoder} {p : Place} {answers : List Pulled} {byte : ℕ} → Asks d e p answers (Byte byte) → byte < 256 → Took d e byte → DecoderIsAt e p (answers ++ Byte byte ∷ [])
stands_byte {p = p} {answers} {byte} a small took =
    stands_more 0 a (bytes-push (bytes_of answers) byte a.stands.bytes small) (λ _. refl) (rw append-nil (took p (bytes_of answers) (plain a.stands a.more)))

pub stands_end : {d e : Decoder} {p : Place} {answers : List Pulled} → Asks d e p answers End → Took d e 0 → DecoderIsAt e p (answers ++ End ∷ [])
stands_end {p = p} {answers} a took =
    stands_more 1 a (rw append-nil a.stands.bytes) (λ n. absurd (n refl)) (rw append-nil (took p (bytes_of answers) (plain a.stands a.more)))

pub stands_fault : {d e : Decoder} {p : Place} {answers : List Pulled} → Asks d e p answers Fault → Registers e.code e.span e.bits p (bytes_of answers) → DecoderIsAt e p (answers ++ Fault ∷ [])
stands_fault a r = stands_more 0 a (rw append-nil a.stands.bytes) (λ _. refl) (rw (append-nil, append-nil) r)

zeros-push : (n x : ℕ) → replicate n x ++ x ∷ [] ≡ replicate (suc n) x
zeros-push zero x = refl
zeros-push (suc n) x = ap (λ l. x ∷ l) (zeros-push n x)

pub stands_zero : {d e : Decoder} {p : Place} {answers : List Pulled} → DecoderIsAt d p answers → d.heard ≡ Ended → e.heard ≡ Ended → Took d e 0 → DecoderIsAt e p answers
stands_zero {p = p} {answers} s h h' took =
    let heard = sym s.heard ∙ h in
    let l : (bytes_of answers ++ replicate s.zeros 0) ++ 0 ∷ [] ≡ bytes_of answers ++ replicate (suc s.zeros) 0 =
    append_assoc (bytes_of answers) (replicate s.zeros 0) (0 ∷ []) ∙ ap (λ z. bytes_of answers ++ z) (zeros-push s.zeros 0) in
    record {
      closed = s.closed;
      heard = h' ∙ sym heard;
      bytes = s.bytes;
      few = s.few;
      zeros = suc s.zeros;
      no_zeros = λ n. absurd (n heard);
      registers = rw l at (took p (bytes_of answers ++ replicate s.zeros 0) s.registers);
    }

pub Gives-append : {S : Type 0} (pull : S → Pulled → S → Type 0) (a b c : S) (xs ys : List Pulled) → Gives pull a xs b → Gives pull b ys c → Gives pull a (xs ++ ys) c
Gives-append pull a b c [] ys g h = rw g h
Gives-append pull a b c (x ∷ xs) ys g h = (g.0, g.1, Gives-append pull g.0 b c xs ys g.2 h)

-- one wish after another
pub fills_more : {S : Type 0} {pull : S → Pulled → S → Type 0} {a b c : S} {p : Place} {answers : List Pulled} {d e : Decoder} {r q : Result (Unit {0}) Stop}
    (f : Fills (source_at pull a answers) p b d r) → Fills (source_at pull b (answers ++ f.more)) p c e q → Fills (source_at pull a answers) p c e q
fills_more {pull = pull} {a} {b} {c} f g =
    record {
      more = f.more ++ g.more;
      gives = Gives-append pull a b c f.more g.more f.gives g.gives;
      stands = rw append_assoc at g.stands;
      stop = rw append_assoc at g.stop;
    }

-- the error that `?` gives
pub fills_err : {S : Type 0} {old : SourceAt S} {to : S} {p : Place} {d : Decoder} {x : Stop} {q : Result (Unit {0}) Stop} → Fills old p to d (Err x) → IsErr q → Fills old p to d q
fills_err f e = record { more = f.more; gives = f.gives; stands = f.stands; stop = (λ _. f.stop.0 refl, λ _. e) }
