-- A part is read from the front of bytes, or breaks.
use Rattle.std.proofs.Common.{cond, not, ◌≡◌, ◌≢◌, ◌⊎◌, inl, inr, ◌<◌, ◌≤◌, ◌+◌, ℕ, Bool, true, false, List, [], ◌∷◌, ◌++◌, Some, length, take, drop, slice_index, refl, sym, ap, ◌∙◌, subst, append_assoc, append-nil, arith}
use Rattle.std.proofs.lemmas.List.{get_or_append_left, drop-append-le, take-append-drop, length-take-le, length-drop}
use Rattle.byteorder.specs.Endian.{big_number}
use Rattle.byteorder.specs.Numbers.{big_from-append}
use Rattle.t85_core.specs.declared.fault.Fault.{Fault}
use Rattle.t85_core.specs.declared.fault.Fault.TheVariants.{Truncated, Read}
use Rattle.t85_core.specs.declared.segments.Code.{Code}
use Rattle.t85_core.specs.declared.segments.Code.TheVariants as code
use Rattle.t85_core.specs.declared.segments.Place.{Place}
use Rattle.t85_core.specs.declared.parts.Taken.TheVariants as taken
use Rattle.t85_core.specs.Header.{Fields, HeaderOf, long_at}
use Rattle.t85_core.specs.Grammar.{marker_bytes, is_nil}
use Rattle.t85_core.specs.Refusal.{Spot, rest_fault}
use Rattle.t85_core.specs.Failures.{Ends, reads_after}
use Rattle.t85_core.specs.States.Segments.{IsByteOrMarker, code_bytes}
use Rattle.t85_core.specs.Private.Segments.{CodeFault, PieceFault}
use Rattle.t85_core.specs.Info.{IsWalkFault}
use Rattle.t85_core.specs.Private.HeightWalk.{PassesRest, RestBreaks}
use Rattle.t85_core.specs.Private.PartSteps.{ReadsPart, MissesPart}
use Rattle.t85_core.proofs.BytesJoin.BytesAreKnown.{stable_rest, counted-other}
use Rattle.t85_core.proofs.BodiesParse.FaultsAreLimited.{rest_faults}
use Rattle.t85_core.proofs.BytesJoin.CodesAreStuffed.{stuffed_append}

-- the header is in the first twenty bytes
module _ (stream : List ℕ) (long : 20 ≤ length stream) where
  twenty : length (take 20 stream) ≡ 20
  twenty = length-take-le 20 stream long

  front_byte : (i : ℕ) → i < 20 → slice_index (take 20 stream) i ≡ slice_index stream i
  front_byte i less = sym (get_or_append_left (take 20 stream) (drop 20 stream) 0 i (omega (arith, twenty))) ∙ ap (λ z. slice_index z i) (take-append-drop 20 stream)

  front_long : (i : ℕ) → i + 4 ≤ 20 → long_at i (take 20 stream) ≡ long_at i stream
  front_long i less =
      sym (ap (big_number 4) (drop-append-le i (take 20 stream) (drop 20 stream) (omega (arith, twenty)))
      ∙ big_from-append 4 (drop i (take 20 stream)) (drop 20 stream) (omega (arith, length-drop i (take 20 stream), twenty)))
      ∙ ap (long_at i) (take-append-drop 20 stream)

pub header_front : (stream : List ℕ) (h : Fields) → HeaderOf stream h → HeaderOf (take 20 stream) h
header_front stream h p = record {
  whole = (let e = twenty stream p.whole in omega arith);
  dl = front_byte stream p.whole 0 (omega arith) ∙ p.dl;
  d = front_byte stream p.whole 1 (omega arith) ∙ p.d;
  p = front_byte stream p.whole 2 (omega arith) ∙ p.p;
  zero = front_byte stream p.whole 3 (omega arith) ∙ p.zero;
  xd = front_long stream p.whole 4 (omega arith) ∙ p.xd;
  yd = front_long stream p.whole 8 (omega arith) ∙ p.yd;
  l0 = front_long stream p.whole 12 (omega arith) ∙ p.l0;
  mx = front_byte stream p.whole 16 (omega arith) ∙ p.mx;
  order = (let e = front_byte stream p.whole 18 (omega arith) in subst (λ z. z < 16) (sym e) p.order);
  options = front_byte stream p.whole 19 (omega arith) ∙ p.options;
  accepted = p.accepted;
}

-- memory never fails
pub not_read : (f : Fault) → 0 ≡ reads_after f 0 → f ≢ Read
not_read f e is = let z : 0 ≡ reads_after Read 0 = subst (λ x. 0 ≡ reads_after x 0) is e in omega arith

-- a fault stays, whatever bytes follow
stays : (h : Fields) (spot : Spot) (moves : ℕ) (in_code : Bool) (given left : List ℕ) (f : Fault) → (f ≡ Truncated → left ≡ []) → rest_fault h spot moves in_code given ≡ Some f →
    rest_fault h spot moves in_code (given ++ left) ≡ Some f
stays h spot moves in_code given left f ended e = by (stable_rest h spot moves in_code given left f e) where
  by : (f ≡ Truncated) ⊎ (rest_fault h spot moves in_code (given ++ left) ≡ Some f) → rest_fault h spot moves in_code (given ++ left) ≡ Some f
  by (inl t) = subst (λ z. rest_fault h spot moves in_code z ≡ Some f) (sym (ap (λ z. given ++ z) (ended t) ∙ append-nil given)) e
  by (inr k) = k

-- at this height
abbrev spot_with : Place → ℕ → Spot
spot_with place n = record { height = n; entities = place.entities; heights = cond place.given 1 0 }

module _ (h : Fields) (place : Place) (moved : Bool) {old : List ℕ} where
  -- before a code
  pub missed_piece : {new : List ℕ} {f : Fault} → f ≢ Read → Ends Truncated (Some old) (Some new) (PieceFault h place moved) f → MissesPart h place moved old f
  missed_piece {new} {f} other e = record {
    code = [];
    rest = old;
    bytes_are = refl;
    small = tt;
    rest_has = λ n. rw e.taken
        (stays h (spot_with place n) (cond moved 1 0) false e.given new f e.at_end
        (subst (λ x. rest_fault h (spot_with place n) (cond moved 1 0) false e.given ≡ Some x) (counted-other Truncated f other) (e.has_fault n)));
  }

  -- in it
  pub missed_entity : {mid new : List ℕ} {f : Fault} (first : Code) → IsByteOrMarker first → old ≡ code_bytes first ++ mid → f ≢ Read → Ends Truncated (Some mid) (Some new) (RestBreaks first) f →
      MissesPart h place moved old f
  missed_entity {new = new} {f} (code.Byte b) small front other e =
      let q : CodeFault e.given f = rw counted-other at e.has_fault in
      record {
        code = b ∷ q.code;
        rest = q.rest ++ new;
        bytes_are = rw (front, e.taken, q.bytes_are, stuffed_append (b ∷ []) q.code) (simp append_assoc);
        small = (small, q.small);
        rest_has = λ n. stays h (spot_with place n) (cond moved 1 0) true q.rest new f e.at_end (q.rest_has h (spot_with place n) (cond moved 1 0));
      }
  missed_entity (code.Marker reset) small front other e = absurd e.has_fault

  -- the code and its end marker
  pub read_entity : (mid new : List ℕ) (first : Code) → IsByteOrMarker first → old ≡ code_bytes first ++ mid → PassesRest first (Some mid) (Some new) →
      ReadsPart h place moved old new taken.DataEntity
  read_entity mid new (code.Byte b) small front (reset, q) = (b ∷ q.code, reset, (small, q.bytes), rw (front, q.taken, stuffed_append (b ∷ []) q.code) (simp append_assoc))
  read_entity mid new (code.Marker reset) small front same = ([], reset, tt, front ∙ ap (λ z. marker_bytes reset ++ z) (let e : mid ≡ new = cc in e))

-- the fault is one of a stream
pub missed_among : (h : Fields) (place : Place) (moved : Bool) (bytes : List ℕ) (f : Fault) → MissesPart h place moved bytes f → IsWalkFault f
missed_among h place moved bytes f m = rest_faults h (record { height = 0; entities = place.entities; heights = cond place.given 1 0 }) (cond moved 1 0) (not (is_nil m.code)) m.rest (m.rest_has 0)
