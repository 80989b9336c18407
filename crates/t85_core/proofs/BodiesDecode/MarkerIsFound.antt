-- The rest of a code in pieces, after the last row of its stripe.
use Rattle.std.proofs.Common.{◌≡◌, ◌<◌, ◌≤◌, ◌⊎◌, inl, inr, ℕ, Bool, List, [], ◌∷◌, ◌++◌, length, Option, None, Some, Result, Ok, Err, refl, sym, ap, ◌∙◌, subst, append_assoc, append-nil, length-append, arith}
use Rattle.std.specs.Prelude.{IfSome, IfOk, IfErr, IsErrOf}
use Rattle.std.specs.List.{AllByRecursion}
use Rattle.qm_core.specs.Code.{stuffed}
use Rattle.qm_core.specs.Source.{bytes_of, heard_of}
use Rattle.qm_core.specs.declared.source.Pulled.{Pulled}
use Rattle.qm_core.specs.declared.source.Heard.TheVariants.{More, Ended}
use Rattle.t85_core.specs.declared.fault.Fault as fault
use Rattle.t85_core.specs.declared.fault.Fault.TheVariants.{Truncated, Read}
use Rattle.t85_core.specs.declared.segments.Code.{Code}
use Rattle.t85_core.specs.declared.segments.Code.TheVariants as code
use Rattle.t85_core.specs.Grammar.{marker_bytes}
use Rattle.t85_core.specs.Failures.{Ends, reads_after}
use Rattle.t85_core.specs.States.Segments.{IsByteOrMarker}
use Rattle.t85_core.specs.Private.Segments.{RestFault}
use Rattle.t85_core.specs.Private.Entity.{CodeEnds}
use Rattle.t85_core.specs.States.PieceCode.{ahead_bytes, CodeOpen, EntityEnded, CodeText, MarkerIs, MarkerRead}
use Rattle.t85_core.specs.Private.PieceCode.{SkipsSome, SkipBreaks, MarkerFound, MarkerMissing, CodeKept, FindsMarker, MissesMarker, KeepsCode}
use Rattle.t85_core.proofs.BytesJoin.BytesAreKnown.{counted-other}
use Rattle.t85_core.proofs.BytesJoin.ListsGrow.{All-append}
use Rattle.t85_core.proofs.BytesJoin.CodesAreStuffed.{stuffed_append, stuffed_cons}
use Rattle.t85_core.proofs.BodiesParse.BodyHasOneReading.{marker_no_code}

-- it was answered
pub found_before : (first : Option Code) (marker : Option Bool) (p : List ℕ) (reset : Bool) → marker ≡ Some reset → FindsMarker first marker p p reset
found_before first marker p reset is answers extra text o = went (subst (λ m. CodeText first m answers extra text) is o) where
  went : EntityEnded first reset answers extra text → MarkerFound answers text p p reset
  went o = record {
    given = [];
    taken = refl;
    code = bytes_of answers;
    small = o.bytes;
    agrees = record { rest = []; is = sym (append-nil (bytes_of answers)); bytes = tt; ended = λ _. refl };
    text_is = append-nil text ∙ o.text_is;
  }

not_ended : (answers : List Pulled) → heard_of answers ≡ More → heard_of answers ≡ Ended → ⊥
not_ended answers a b = cc

-- it was read ahead
pub found_ahead : (first : Option Code) (marker : Option Bool) (p : List ℕ) (reset : Bool) → marker ≡ None → first ≡ Some (code.Marker reset) → FindsMarker first marker p p reset
found_ahead first marker p reset none is answers extra text o = went (subst (λ m. CodeText first m answers extra text) none o) where
  went : CodeOpen first answers extra text → MarkerFound answers text p p reset
  went o = record {
    given = [];
    taken = refl;
    code = bytes_of answers ++ extra;
    small = All-append (λ b. b < 256) (bytes_of answers) extra o.bytes o.small;
    agrees = record { rest = extra; is = refl; bytes = o.small; ended = λ e. absurd (not_ended answers o.going e) };
    text_is = append-nil text ∙ o.text_is ∙ ap (λ z. stuffed (bytes_of answers ++ extra) ++ ahead_bytes z) is;
  }

-- ---- bytes of the code are skipped, where a byte was read ahead, or none

pub record Ahead (first : Option Code) : Type 0 where
  pub bs : List ℕ
  pub is : ahead_bytes first ≡ stuffed bs
  pub small : IfSome first IsByteOrMarker → AllByRecursion (λ b. b < 256) bs
  pub some : (first ≡ None) ⊎ (1 ≤ length bs)

pub found_marker : (first : Option Code) (marker : Option Bool) (p : List ℕ) (reset : Bool) → MarkerIs reset marker first → IfSome marker (λ _. first ≡ None) → FindsMarker first marker p p reset
found_marker first marker p reset (inl e) behind = found_before first marker p reset e
found_marker first None p reset (inr e) behind = found_ahead first None p reset refl e
found_marker first (Some r) p reset (inr e) behind = absurd (let z : None ≡ Some (code.Marker reset) = sym behind ∙ e in let bot : ⊥ = cc in bot)

pub none_ahead : (first : Option Code) → first ≡ None → Ahead first
none_ahead first e = record { bs = []; is = ap ahead_bytes e; small = λ _. tt; some = inl e }

pub byte_ahead : (first : Option Code) (b : ℕ) → first ≡ Some (code.Byte b) → Ahead first
byte_ahead first b e = record { bs = b ∷ []; is = ap ahead_bytes e; small = λ h. (subst (λ z. IfSome z IsByteOrMarker) e h, tt); some = inr (omega arith) }

-- before an end marker that follows bytes of a code there are some
some_code : (bytes given code : List ℕ) (reset : Bool) → 1 ≤ length bytes → stuffed bytes ++ given ≡ stuffed code ++ marker_bytes reset → 1 ≤ length code
some_code bytes given (b ∷ code) reset some e = omega arith
some_code [] given [] reset some e = absurd (omega (arith, some))
some_code (b ∷ bytes) given [] reset some e = absurd (marker_no_code reset [] b (stuffed bytes ++ given) (append-nil (marker_bytes reset) ∙ sym e ∙ stuffed_cons b bytes given))

-- what was read ahead is no end marker
pub ahead_none : (first : Option Code) (marker : Option Bool) → (MarkerRead marker first → ⊥) → Ahead first
ahead_none None marker none = none_ahead None refl
ahead_none (Some (code.Byte b)) marker none = byte_ahead (Some (code.Byte b)) b refl
ahead_none (Some (code.Marker reset)) marker none = absurd (none (reset, inr refl))

module _ (first : Option Code) (a : Ahead first) (answers : List Pulled) (extra text : List ℕ) (o : CodeOpen first answers extra text) where
  abbrev A : List ℕ
  A = bytes_of answers

  -- all that was skipped after the rows
  abbrev all_extra : List ℕ → List ℕ
  all_extra code = extra ++ (a.bs ++ code)

  all_small : (code : List ℕ) → AllByRecursion (λ b. b < 256) code → AllByRecursion (λ b. b < 256) (all_extra code)
  all_small code s = All-append (λ b. b < 256) extra (a.bs ++ code) o.small (All-append (λ b. b < 256) a.bs code (a.small o.ahead) s)

  all_text : (code rest : List ℕ) → text ++ (stuffed code ++ rest) ≡ stuffed (A ++ all_extra code) ++ rest
  all_text code rest =
      ap (λ z. z ++ (stuffed code ++ rest)) (o.text_is ∙ ap (λ z. stuffed (A ++ extra) ++ z) a.is)
      ∙ append_assoc (stuffed (A ++ extra)) (stuffed a.bs) (stuffed code ++ rest)
      ∙ ap (λ z. stuffed (A ++ extra) ++ z) (sym (append_assoc (stuffed a.bs) (stuffed code) rest) ∙ ap (λ z. z ++ rest) (sym (stuffed_append a.bs code)))
      ∙ sym (append_assoc (stuffed (A ++ extra)) (stuffed (a.bs ++ code)) rest)
      ∙ ap (λ z. z ++ rest) (sym (stuffed_append (A ++ extra) (a.bs ++ code)) ∙ ap stuffed (append_assoc A extra (a.bs ++ code)))

  all_some : (code : List ℕ) → 1 ≤ length (A ++ all_extra code)
  all_some code = went a.some where
    went : (first ≡ None) ⊎ (1 ≤ length a.bs) → 1 ≤ length (A ++ all_extra code)
    went (inl e) =
        let old = o.begun e in let l1 = length-append A extra in let l2 = length-append A (all_extra code) in let l3 = length-append extra (a.bs ++ code) in omega (arith, old, l1, l2, l3)
    went (inr some) =
        let l2 = length-append A (all_extra code) in let l3 = length-append extra (a.bs ++ code) in let l4 = length-append a.bs code in omega (arith, some, l2, l3, l4)

  found_on : (p p' : List ℕ) (reset : Bool) → SkipsSome p p' reset → MarkerFound answers text p p' reset
  found_on p p' reset s = record {
    given = stuffed s.code ++ marker_bytes reset;
    taken = s.taken;
    code = A ++ all_extra s.code;
    small = All-append (λ b. b < 256) A (all_extra s.code) o.bytes (all_small s.code s.small);
    agrees = record { rest = all_extra s.code; is = refl; bytes = all_small s.code s.small; ended = λ e. absurd (not_ended answers o.going e) };
    text_is = all_text s.code (marker_bytes reset);
  }

  -- and its code has a byte
  pub found_some : (p p' : List ℕ) (reset : Bool) (m : MarkerFound answers text p p' reset) → 1 ≤ length m.code
  found_some p p' reset m = some_code (A ++ all_extra []) m.given m.code reset (all_some []) (sym (all_text [] m.given) ∙ m.text_is)

  missed_on : (p p' : List ℕ) (f : fault.Fault) → SkipBreaks p p' f → MarkerMissing answers text p f
  missed_on p p' f s = record {
    more = all_extra s.code;
    small = all_small s.code s.small;
    going = o.going;
    breaks = record {
      some = all_some s.code;
      small = All-append (λ b. b < 256) A (all_extra s.code) o.bytes (all_small s.code s.small);
      rest = s.ends.rest;
      unread = s.ends.unread;
      text_is = ap (λ z. text ++ z) (s.taken ∙ ap (λ z. stuffed s.code ++ z) s.ends.bytes_are) ∙ all_text s.code (s.ends.rest ++ s.ends.unread)
          ∙ sym (append_assoc (stuffed (A ++ all_extra s.code)) s.ends.rest s.ends.unread);
      broken = s.ends.broken;
      counted = s.ends.counted;
      at_end = s.ends.at_end;
    };
  }

  kept_on : (first' : Option Code) → first' ≡ None → (p p' : List ℕ) (f : fault.Fault) → SkipBreaks p p' f → CodeKept first' None answers text p p'
  kept_on first' none p p' f s = record {
    given = stuffed s.code;
    taken = s.taken;
    extra = all_extra s.code;
    code_is = record {
      going = o.going;
      bytes = o.bytes;
      small = all_small s.code s.small;
      ahead = subst (λ z. IfSome z IsByteOrMarker) (sym none) tt;
      begun = λ _. all_some s.code;
      text_is = ap (λ z. text ++ z) (sym (append-nil (stuffed s.code))) ∙ all_text s.code [] ∙ ap (λ z. stuffed (A ++ all_extra s.code) ++ ahead_bytes z) (sym none);
    };
  }

module _ (first : Option Code) (marker : Option Bool) (none : marker ≡ None) (a : Ahead first) (p p' : List ℕ) where
  open_ : (answers : List Pulled) (extra text : List ℕ) → CodeText first marker answers extra text → CodeOpen first answers extra text
  open_ answers extra text o = subst (λ m. CodeText first m answers extra text) none o

  pub finds_on : (r : Result Bool fault.Fault) → IfOk r (SkipsSome p p') → IfOk r (FindsMarker first marker p p')
  finds_on (Err f) s = tt
  finds_on (Ok reset) s = λ answers extra text o. found_on first a answers extra text (open_ answers extra text o) p p' reset s

  pub misses_on : (r : Result Bool fault.Fault) → IfErr r (SkipBreaks p p') → IfErr r (MissesMarker first marker p)
  misses_on (Ok reset) s = tt
  misses_on (Err f) s = λ answers extra text o. missed_on first a answers extra text (open_ answers extra text o) p p' f s

  pub keeps_on : (first' : Option Code) → first' ≡ None → (r : Result Bool fault.Fault) → IfErr r (SkipBreaks p p') → IsErrOf r Truncated → KeepsCode first first' marker p p'
  keeps_on first' gone (Ok reset) s e = absurd (let bot : ⊥ = cc in bot)
  keeps_on first' gone (Err f) s e = λ answers extra text o.
      subst (λ m. CodeKept first' m answers text p p') (sym none) (kept_on first a answers extra text (open_ answers extra text o) first' gone p p' f s)

-- no element of a code comes next
pub code_ends : (p p' : List ℕ) (f : fault.Fault) → Ends Truncated (Some p) (Some p') RestFault f → 0 ≡ reads_after f 0 → CodeEnds p f
code_ends p p' f ends counts = record {
  rest = ends.given;
  unread = p';
  bytes_are = ends.taken;
  broken = subst (RestFault ends.given) (counted-other Truncated f other) ends.has_fault;
  counted = counted-other Truncated f other;
  at_end = ends.at_end;
} where
  other : f ≡ Read → ⊥
  other e = let one : reads_after f 0 ≡ 1 = ap (λ g. reads_after g 0) e in omega (arith, one, counts)
