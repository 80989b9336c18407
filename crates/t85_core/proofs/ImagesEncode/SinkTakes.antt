-- The bytes of a code that a target accepted.
use Rattle.std.proofs.Common.{◌≡◌, ℕ, List, [], ◌∷◌, refl, sym, ap, ◌∙◌, subst, Option, None, Some, Err, ◌⊎◌, inl, inr, arith}
use Rattle.std.specs.Prelude.{IsErrOf}
use Rattle.std.specs.Io.KnownBytes.{Appends}
use Rattle.qm_core.specs.Sink.{Took}
use Rattle.pbm_core.specs.declared.fault.PbmFault.{PbmFault}
use Rattle.t85_core.specs.declared.fault.Fault.{Fault}
use Rattle.t85_core.specs.declared.fault.Fault.TheVariants.{Pbm, Write}
use Rattle.t85_core.specs.Private.Buffers.{SinkView, SameSink, TakesByte}
use Rattle.t85_core.specs.Encode.{IsEncodeFault}
use Rattle.t85_core.proofs.BytesJoin.CallsJoin.{Appends-more}

-- nothing is taken
pub appends_none : (a : Option (List ℕ)) → Appends a a []
appends_none None = tt
appends_none (Some a) = sym (Rattle.std.proofs.Common.append-nil a)

pub which : (fault : Fault) → IsEncodeFault fault → (fault ≡ Write) ⊎ ((why : PbmFault) × (fault ≡ Pbm why))
which Write p = inl refl
which (Pbm why) p = inr (why, refl)
which f p = absurd p

pub is_of : {fault f : Fault} → fault ≡ f → IsErrOf {T = Unit {0}} {E = Fault} (Err fault) f
is_of is = rw is

module _ {S : Type 0} (view : S → SinkView) where
  abbrev takes : S → ℕ → S → Type 0
  takes s byte t = TakesByte (view s) byte (view t)

  pub took_inked : (from to : S) (bytes : List ℕ) → Took takes from bytes to → SameSink (view from) (view to) × Appends (view from).text (view to).text bytes
  took_inked from to [] took = rw (← took) (record { same_buffer = refl; same_writer = refl; grows = omega arith }, appends_none (view from).text)
  took_inked from to (byte ∷ bytes) (next, first, rest) =
      let later = took_inked next to bytes rest in (
        record {
          same_buffer = later.0.same_buffer ∙ first.0.same_buffer;
          same_writer = later.0.same_writer ∙ first.0.same_writer;
          grows = (let a = first.0.grows in let b = later.0.grows in omega arith);
        },
        Appends-more (view from).text (view next).text (view to).text (byte ∷ []) bytes first.1 later.1,
      )
