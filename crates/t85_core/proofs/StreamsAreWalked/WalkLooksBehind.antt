-- The look after the last stripe that the header's height makes.
use Rattle.std.proofs.Common.{◌≡◌, ◌≢◌, ◌<◌, ◌^◌, ℕ, true, false, List, [], ◌∷◌, ◌++◌, Option, None, Some, IfSome, refl, sym, ◌∙◌, subst, arith}
use Rattle.std.specs.Prelude.{flat_map, IsTrue}
use Rattle.std.specs.Io.KnownBytes.{Consumes, IsAtEnd}
use Rattle.t85_core.specs.declared.fault.Fault.{Fault}
use Rattle.t85_core.specs.declared.fault.Fault.TheVariants.{Truncated, Read, Pbm}
use Rattle.t85_core.specs.declared.segments.Code.{Code}
use Rattle.t85_core.specs.declared.segments.Code.TheVariants as code
use Rattle.t85_core.specs.Header.{Fields, is_variable}
use Rattle.t85_core.specs.Grammar.{Segment, NewLength, Comment, segment_bytes, is_comment, is_valid_length, IsLegal}
use Rattle.t85_core.specs.Refusal.{rest_fault}
use Rattle.t85_core.specs.Failures.{Ends, reads_after}
use Rattle.t85_core.specs.Info.{IsWalkFault}
use Rattle.t85_core.specs.States.Segments.{code_bytes}
use Rattle.t85_core.specs.Private.Segments.{PassesSegment, PieceFault}
use Rattle.t85_core.specs.Private.HeightWalk.{Comments, LooksTo, LookEnds, LookOpen}
use Rattle.t85_core.specs.Private.PartSteps.{place_before}
use Rattle.t85_core.proofs.BytesJoin.CallsJoin.{Consumes-more, longer_or_all}
use Rattle.t85_core.proofs.BytesJoin.ListsGrow.{All-push, flat_map_push}
use Rattle.t85_core.proofs.BytesJoin.SegmentsGiveHeights.{valid_parts}
use Rattle.t85_core.proofs.StreamsAreWalked.StripeIsPassed.{Consumes-none}
use Rattle.t85_core.proofs.StreamsAreWalked.SegmentsAreChecked.{unnamed_spot, length_whole, comment_whole}
use Rattle.t85_core.proofs.BytesJoin.CodesAreStuffed.{stuffed_cons}
use Rattle.t85_core.proofs.BodiesParse.BodyHasOneReading.{no_segment_in_code, marker_no_segment}
use Rattle.t85_core.proofs.BytesJoin.BytesAreKnown.{stable_rest, counted-other}
use Rattle.t85_core.proofs.BodiesParse.FaultsAreLimited.{rest_faults, uncounted}

-- comments so far
pub record HasLooked (h : Fields) (old new : Option (List ℕ)) : Type 0 where
  pub segments : List Segment
  pub are : Comments h segments
  pub taken : Consumes old new (flat_map segment_bytes segments)

pub looked_none : (h : Fields) (a : Option (List ℕ)) → HasLooked h a a
looked_none h a = record { segments = []; are = record { comments = tt; legal = tt }; taken = Consumes-none a }

-- no failed read is reported by another fault of a walk
pub no_failed_read : (f : Fault) → IsWalkFault f → f ≢ Read → (n : ℕ) → reads_after f n ≡ n
no_failed_read Read p n = absurd (n refl)
no_failed_read (Pbm f) p n = absurd p
no_failed_read f p n = λ m. refl

none_some : {f : Fault} → None ≡ Some f → ⊥
none_some e = cc

module _ {h : Fields} {a b c : Option (List ℕ)} (p : HasLooked h a b) where
  pub looked_comment : (text : List ℕ) → PassesSegment h b c (Comment text) → HasLooked h a c
  looked_comment text s =
      let segment : Segment = Comment text in
      record {
        segments = p.segments ++ segment ∷ [];
        are = record { comments = All-push (λ s. IsTrue (is_comment s)) p.segments segment p.are.comments refl; legal = All-push (IsLegal h) p.segments segment p.are.legal s.legal };
        taken = rw flat_map_push (Consumes-more a b c _ _ p.taken s.taken);
      }

  pub looked_to : (k n : ℕ) → is_valid_length h k n ≡ true → PassesSegment h b c (NewLength n) → LooksTo h k a c n
  looked_to k n valid s = record {
    segments = p.segments;
    are = p.are;
    legal = s.legal;
    valid = valid;
    taken = Consumes-more a b c _ _ p.taken s.taken;
  }

  -- a read failed
  pub looked_open : (k : ℕ) → Ends Truncated b c (PieceFault h (place_before k) true) Read → (given : List ℕ) × Consumes a c given × LookOpen h k given
  looked_open k e = (
    flat_map segment_bytes p.segments ++ e.given,
    Consumes-more a b c (flat_map segment_bytes p.segments) e.given p.taken e.taken,
    record { segments = p.segments; rest = e.given; are = p.are; given_is = refl; cut = e.has_fault },
  )

  -- a fault that is no failed read
  pub looked_fault : (k : ℕ) (f : Fault) → h.yd < 2 ^ 32 → is_variable h ≡ true → f ≢ Read → Ends Truncated b c (PieceFault h (place_before k) true) f → IfSome a (LookEnds h k)
  looked_fault k f small variable other e = went a b c p.taken e.taken e.at_end where
    went : (a b c : Option (List ℕ)) → Consumes a b (flat_map segment_bytes p.segments) → Consumes b c e.given → (f ≡ Truncated → IsAtEnd c) → IfSome a (LookEnds h k)
    went None b c q r end = tt
    went (Some rest) None c q r end = absurd q
    went (Some rest) (Some last) None q r end = absurd r
    went (Some rest) (Some last) (Some left) q r end = record {
      segments = p.segments;
      last = last;
      are = p.are;
      no_height = λ n z valid is.
          let within = valid_parts h k n valid in
          none_some (sym (length_whole h n k variable z (omega (arith, within.1)) valid) ∙ subst (λ u. has_rest n u) is (has n));
      no_comment = λ text z fits is. none_some (sym (comment_whole text z fits) ∙ subst (λ u. has_rest 0 u) is (has 0));
      rest_is = q;
    } where
      has_rest : ℕ → List ℕ → Type 0
      has_rest n z = rest_fault h (unnamed_spot n k) 1 false z ≡ Some f

      told : (n : ℕ) → has_rest n e.given
      told n = subst (λ x. rest_fault h (unnamed_spot n k) 1 false e.given ≡ Some x) (counted-other Truncated f other) (e.has_fault n)

      has : (n : ℕ) → has_rest n last
      has n = subst (λ z. has_rest n z) (sym r) (longer_or_all (λ z. has_rest n z) e.given left (told n) end (stable_rest h (unnamed_spot n k) 1 false e.given left f (told n)))

-- a code begins
pub looked_code : {h : Fields} {a b : Option (List ℕ)} (p : HasLooked h a b) (d : Option (List ℕ)) (k : ℕ) (first : Code) → Consumes b d (code_bytes first) → IfSome a (LookEnds h k)
looked_code {h} {a} {b} p d k first taken = went a b d first p.taken taken where
  no_segment : (first : Code) (x y : List ℕ) (s : Segment) → code_bytes first ++ x ≡ segment_bytes s ++ y → ⊥
  no_segment (code.Byte b) x y s e = no_segment_in_code b x y s (sym (stuffed_cons b [] x) ∙ e)
  no_segment (code.Marker reset) x y s e = marker_no_segment reset x s y e

  went : (a b c : Option (List ℕ)) (first : Code) → Consumes a b (flat_map segment_bytes p.segments) → Consumes b c (code_bytes first) → IfSome a (LookEnds h k)
  went None b c first q r = tt
  went (Some rest) None c first q r = absurd q
  went (Some rest) (Some last) None first q r = absurd r
  went (Some rest) (Some last) (Some more) first q r = record {
    segments = p.segments;
    last = last;
    are = p.are;
    no_height = λ n z _ e. no_segment first more z (NewLength n) (sym r ∙ e);
    no_comment = λ text z _ e. no_segment first more z (Comment text) (sym r ∙ e);
    rest_is = q;
  }

-- the fault of a piece is one of a walk
pub piece_faults : (h : Fields) (k : ℕ) {b c : Option (List ℕ)} {f : Fault} → Ends Truncated b c (PieceFault h (place_before k) true) f → IsWalkFault f
piece_faults h k {f = f} e = uncounted Truncated f (rest_faults h (unnamed_spot 0 k) 1 false e.given (e.has_fault 0))
