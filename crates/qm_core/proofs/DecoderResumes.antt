-- A decoder that goes on after its source has failed.
use Rattle.std.proofs.Common.{◌≡◌, ◌≤◌, List, [], ◌∷◌, length, arith, refl, sym, ◌∙◌, ap}
use Rattle.qm_core.specs.Place.{Place}
use Rattle.qm_core.specs.Source.{bytes_of, heard_of, IsClosed, before_fault}
use Rattle.qm_core.specs.Decoder.{DecoderIsAt}
use Rattle.qm_core.specs.declared.source.Pulled.{Pulled}
use Rattle.qm_core.specs.declared.source.Pulled.TheVariants.{Byte, End, Fault}
use Rattle.qm_core.specs.declared.source.Heard.TheVariants.{More, Stopped}
use Rattle.qm_core.specs.declared.decoder.Decoder.{Decoder}

-- nothing is behind a fault
bytes_kept : (answers : List Pulled) → IsClosed answers → bytes_of (before_fault answers) ≡ bytes_of answers
bytes_kept [] h = refl
bytes_kept (Byte b ∷ answers) h = ap (λ l. b ∷ l) (bytes_kept answers h)
bytes_kept (End ∷ answers) h = rw h refl
bytes_kept (Fault ∷ answers) h = sym (ap bytes_of h)

closed_kept : (answers : List Pulled) → IsClosed answers → IsClosed (before_fault answers)
closed_kept [] h = tt
closed_kept (Byte b ∷ answers) h = closed_kept answers h
closed_kept (End ∷ answers) h = ap before_fault h
closed_kept (Fault ∷ answers) h = tt

few_kept : (answers : List Pulled) → length (before_fault answers) ≤ length answers
few_kept [] = omega arith
few_kept (Byte b ∷ answers) = omega (arith, few_kept answers)
few_kept (End ∷ answers) = omega (arith, few_kept answers)
few_kept (Fault ∷ answers) = omega arith

heard_kept : (answers : List Pulled) → heard_of answers ≡ Stopped → heard_of (before_fault answers) ≡ More
heard_kept [] h = refl
heard_kept (Byte b ∷ answers) h = heard_kept answers h
heard_kept (End ∷ answers) h = cc
heard_kept (Fault ∷ answers) h = refl

-- without a fault nothing changes
same_kept : (answers : List Pulled) → IsClosed answers → (heard_of answers ≡ Stopped → ⊥) → before_fault answers ≡ answers
same_kept [] c h = refl
same_kept (Byte b ∷ answers) c h = ap (λ l. Byte b ∷ l) (same_kept answers c h)
same_kept (End ∷ answers) c h = ap (λ l. End ∷ l) (ap before_fault c ∙ sym c)
same_kept (Fault ∷ answers) c h = absurd (h refl)

-- a decoder that had stopped
pub stands_again : {d d' : Decoder} {p : Place} {answers : List Pulled} → d.heard ≡ Stopped → d'.heard ≡ More → d'.code ≡ d.code → d'.span ≡ d.span → d'.bits ≡ d.bits →
    DecoderIsAt d p answers → DecoderIsAt d' p (before_fault answers)
stands_again {answers = answers} stopped more code span bits s =
    let heard = sym s.heard ∙ stopped in
    let same = bytes_kept answers s.closed in
    let kept = few_kept answers in
    let few = s.few in
    record {
      heard = more ∙ sym (heard_kept answers heard);
      closed = closed_kept answers s.closed;
      bytes = rw same s.bytes;
      few = omega arith;
      zeros = s.zeros;
      no_zeros = λ _. s.no_zeros (λ e. cc);
      registers = rw (code, span, bits, same) s.registers;
    }

pub stands_still : {d : Decoder} {p : Place} {answers : List Pulled} → (d.heard ≡ Stopped → ⊥) → DecoderIsAt d p answers → DecoderIsAt d p (before_fault answers)
stands_still {answers = answers} going s = rw (same_kept answers s.closed (λ h. going (s.heard ∙ h))) s
