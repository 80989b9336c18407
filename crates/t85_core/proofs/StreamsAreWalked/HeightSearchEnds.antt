-- What `find_height` leaves, whichever way it ends.
use Rattle.std.proofs.Common.{◌≡◌, ◌≢◌, inr, ℕ, true, false, List, Option, None, Some, IfSome, Ok, Err, refl, sym, ◌∙◌, arith, true≢false}
use Rattle.std.specs.Io.KnownBytes.{Consumes, Keeps}
use Rattle.t85_core.specs.Change.{Change, between}
use Rattle.t85_core.specs.declared.fault.Fault.{Fault}
use Rattle.t85_core.specs.declared.fault.Fault.TheVariants.{Truncated, Read}
use Rattle.t85_core.specs.Header.{Fields, IsAccepted, is_variable}
use Rattle.t85_core.specs.Height.{IsHeight}
use Rattle.t85_core.specs.Failures.{Ends, reads_after}
use Rattle.t85_core.specs.Decode.{FindHeight}
use Rattle.t85_core.specs.Private.HeightWalk.{SearchEnd, FindsGiven, FindsOpen}
use Rattle.t85_core.specs.Private.Buffers.{reading}
use Rattle.t85_core.proofs.StreamsAreWalked.HeightIsFound.{Breaks, skipped_height, open_of_skipped}
use Rattle.t85_core.proofs.StreamsAreWalked.SkippedPartsJoin.{skips_faults}
use Rattle.t85_core.proofs.BytesJoin.InputHoldsBytes.{Keeps-same}
use Rattle.t85_core.proofs.StreamsAreWalked.WalkLooksBehind.{no_failed_read}
use Rattle.t85_core.proofs.StreamsAreWalked.NumbersAreSummed.{given_height}

-- where the height may change
pub changes : (h : Fields) {P : Type 0} → is_variable h ≡ true → is_variable h ≡ false → P
changes h variable fixed = absurd (true≢false (sym variable ∙ fixed))

module _ {h : Fields} (ok : IsAccepted h) where
  -- the header's height is that of the body
  pub headers_height : {input : Change} → IfSome input.old.bytes (λ body. IsHeight h body h.yd) → input.new.failures ≡ input.old.failures →
      (is_variable h ≡ false → Keeps input.old.bytes input.new.bytes) → FindHeight h input (Ok h.yd)
  headers_height is counted idle = record {
    found = is;
    from = ok.height_from;
    to = omega arith;
    fixed = λ _. refl;
    among = tt;
    unread = λ e. absurd (let bot : ⊥ = cc in bot);
    counts = counted;
    idle = idle;
  }

  -- it doesn't change
  pub fixed_height : (known : Option (List ℕ)) (reads : ℕ) → is_variable h ≡ false → FindHeight h (between known known reads reads) (Ok h.yd)
  fixed_height known reads fixed = headers_height (went known) refl (λ _. Keeps-same known) where
    went : (old : Option (List ℕ)) → IfSome old (λ body. IsHeight h body h.yd)
    went None = tt
    went (Some body) = inr (refl, λ n g. true≢false (sym g.variable ∙ fixed))

  -- it was given
  pub height_given : {input : Change} {mid : Option (List ℕ)} {to : SearchEnd} {n : ℕ} → FindsGiven h (reading input.old.bytes mid) to n → input.new.failures ≡ input.old.failures →
      FindHeight h input (Ok n)
  height_given f counted = record {
    found = given_height ok f;
    from = f.legal.1;
    to = f.legal.2;
    fixed = λ fixed. absurd (true≢false (sym f.legal.0 ∙ fixed));
    among = tt;
    unread = λ e. absurd (let bot : ⊥ = cc in bot);
    counts = counted;
    idle = changes h f.legal.0;
  }

  -- the stream breaks before it is given
  pub height_broken : {input : Change} {mid : Option (List ℕ)} {f : Fault} → Ends Truncated input.old.bytes mid (Breaks h) f → f ≢ Read → input.new.failures ≡ reads_after f input.old.failures →
      is_variable h ≡ true → FindHeight h input (Ok h.yd)
  height_broken {input} {f = f} e other counted variable =
      headers_height (skipped_height ok input.old.bytes e other) (counted ∙ no_failed_read f (skips_faults e) other input.old.failures) (changes h variable)

  -- a read failed
  pub height_unread : {input : Change} (mid : Option (List ℕ)) (f : Fault) → is_variable h ≡ true → f ≡ Read → (given : List ℕ) × Consumes input.old.bytes mid given × FindsOpen h given →
      mid ≡ input.new.bytes → input.new.failures ≡ reads_after f input.old.failures → FindHeight h input (Err Read)
  height_unread {input} mid f variable read (given, taken, o) same counted = record {
    found = tt;
    from = tt;
    to = tt;
    fixed = tt;
    among = refl;
    unread = λ _. (given, rw same at taken, open_of_skipped ok variable o);
    counts = rw read at counted;
    idle = changes h variable;
  }
