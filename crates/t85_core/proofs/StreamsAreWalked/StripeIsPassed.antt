-- The skipped part of a stripe so far.
use Rattle.std.proofs.Common.{cond, ◌≡◌, ◌≢◌, ◌<◌, ◌≤◌, ◌+◌, ◌-◌, ◌^◌, ℕ, Bool, true, false, List, [], ◌∷◌, ◌++◌, Option, None, Some, count_by, length, sum_by, min, refl, sym, ap, ◌∙◌, subst, append_assoc, append-nil, arith}
use Rattle.std.specs.Prelude.{flat_map}
use Rattle.std.specs.List.{AllByRecursion}
use Rattle.std.specs.Io.KnownBytes.{Consumes}
use Rattle.std.proofs.lemmas.List.Sums.{sum_by-append}
use Rattle.qm_core.specs.Code.{stuffed}
use Rattle.t85_core.specs.declared.fault.Fault.{Fault}
use Rattle.t85_core.specs.declared.fault.Fault.TheVariants.{Truncated, Changed}
use Rattle.t85_core.specs.declared.segments.atmove.Move as move
use Rattle.t85_core.specs.Header.{Fields}
use Rattle.t85_core.specs.Grammar.{Segment, NewLength, Move, Comment, lengths, segment_bytes, is_move, is_comment, marker_bytes, Stripe, all_segments, IsLegal, is_valid_length}
use Rattle.t85_core.specs.Coding.{move_of}
use Rattle.t85_core.specs.Refusal.{Spot, spot_behind, rest_fault, StripeFault}
use Rattle.t85_core.specs.Failures.{Ends, counted_as}
use Rattle.t85_core.specs.States.Segments.{HasPassed, segments_so_far}
use Rattle.t85_core.specs.Private.Segments.{spot_at, CodeFault, HeadFault, PieceFault, next_bytes, IsNextItem, PassesCode, PassesSegment, PassesSegments, SegmentsFault}
use Rattle.t85_core.specs.declared.segments.Next.{Next}
use Rattle.t85_core.specs.declared.segments.Next.TheVariants as next
use Rattle.t85_core.specs.declared.segments.Place.{Place}
use Rattle.t85_core.specs.declared.segments.Segments.{Segments}
use Rattle.t85_core.specs.Private.Buffers.{ArePlain}
use Rattle.t85_core.proofs.BytesJoin.CallsJoin.{Consumes-more}
use Rattle.t85_core.proofs.BytesJoin.WalkEnds.{Ends-after, Ends-at}
use Rattle.t85_core.proofs.BytesJoin.ListsGrow.{All-push, All-append, count_push, flat_map_push}
use Rattle.t85_core.proofs.BytesJoin.SegmentsGiveHeights.{many_lengths, gives_none, gives_both}
use Rattle.t85_core.proofs.StreamsAreWalked.SegmentsAreChecked.{length_changed}
use Rattle.t85_core.proofs.BytesJoin.CodesAreStuffed.{stuffed_append, stuffed_plain}

pub Consumes-none : (a : Option (List ℕ)) → Consumes a a []
Consumes-none None = tt
Consumes-none (Some xs) = refl

pub few_byte : (t : Bool) → cond t 1 0 ≤ 1
few_byte true = omega arith
few_byte false = omega arith

pub passed_none : (h : Fields) (place : Place) (before : Bool) (a : Option (List ℕ)) → HasPassed h place before a a (segments_so_far None before place.given 0)
passed_none h place before a = record {
  segments = [];
  begun = record { legal = tt; one_move = omega arith; bytes = tt };
  gives = gives_none place.height (cond place.given 1 0) [] (few_byte place.given) refl;
  given_is = omega arith;
  move_is = refl;
  counted = omega arith;
  found = refl;
  told = refl;
  taken = Consumes-none a;
}

move_of_push : (segments : List Segment) (s : Segment) → count_by is_move segments ≡ 0 → move_of (segments ++ s ∷ []) ≡ move_of (s ∷ [])
move_of_push [] s none = refl
move_of_push (Move row offset ∷ segments) s none = absurd (let e = sum_by-append (λ y. cond (is_move y) 1 0) (Move row offset ∷ []) segments in omega arith)
move_of_push (NewLength n ∷ segments) s none = move_of_push segments s (let e = sum_by-append (λ y. cond (is_move y) 1 0) (NewLength n ∷ []) segments in omega arith)
move_of_push (Comment text ∷ segments) s none = move_of_push segments s (let e = sum_by-append (λ y. cond (is_move y) 1 0) (Comment text ∷ []) segments in omega arith)

move_of_comment : (segments : List Segment) (text : List ℕ) → move_of (segments ++ Comment text ∷ []) ≡ move_of segments
move_of_comment [] text = refl
move_of_comment (NewLength n ∷ segments) text = move_of_comment segments text
move_of_comment (Move row offset ∷ segments) text = refl
move_of_comment (Comment other ∷ segments) text = move_of_comment segments text

move_of_length : (segments : List Segment) (n : ℕ) → move_of (segments ++ NewLength n ∷ []) ≡ move_of segments
move_of_length [] n = refl
move_of_length (NewLength m ∷ segments) n = move_of_length segments n
move_of_length (Move row offset ∷ segments) n = refl
move_of_length (Comment other ∷ segments) n = move_of_length segments n

few_moves : (before moved : Bool) (n : ℕ) → cond moved 1 0 ≡ cond before 1 0 + n → cond before 1 0 + n ≤ 1
few_moves before moved n e = let few = few_byte moved in omega arith

module _ {h : Fields} {place : Place} {before : Bool} {a b c : Option (List ℕ)} {at : Option move.Move} {moved given : Bool} {comments : ℕ}
    (p : HasPassed h place before a b (segments_so_far at moved given comments)) where
  -- the height in use was given
  pub passed_length : (n : ℕ) → given ≡ false → n ≡ place.height → PassesSegment h b c (NewLength n) → HasPassed h place before a c (segments_so_far at moved true comments)
  passed_length n none same s =
      let segment : Segment = NewLength n in
      let count = count_push is_move p.segments segment in
      let comments_all = count_push is_comment p.segments segment in
      let zero_heights : cond place.given 1 0 + length (lengths p.segments) ≡ 0 = sym p.given_is ∙ ap (λ t. cond t 1 0) none in
      record {
        segments = p.segments ++ segment ∷ [];
        begun = record { legal = All-push (IsLegal h) p.segments segment p.begun.legal s.legal; one_move = omega (arith, p.begun.one_move); bytes = tt };
        gives = gives_both place.height (cond place.given 1 0) (segment ∷ []) p.gives (record { one = omega arith; this = (same, tt) });
        given_is = (let n = many_lengths p.segments (segment ∷ []) in omega arith);
        move_is = p.move_is ∙ sym (move_of_length p.segments n);
        counted = omega arith;
        found = omega arith;
        told = omega arith;
        taken = rw flat_map_push (Consumes-more a b c _ _ p.taken s.taken);
      }

  pub passed_move : (to : move.Move) → moved ≡ false → PassesSegment h b c (Move to.row to.offset) → HasPassed h place before a c (segments_so_far (Some to) true given comments)
  passed_move to none s =
      let segment : Segment = Move to.row to.offset in
      let no_move : cond before 1 0 + count_by is_move p.segments ≡ 0 = sym p.counted ∙ ap (λ t. cond t 1 0) none in
      let zero_moves : count_by is_move p.segments ≡ 0 = omega arith in
      let count = count_push is_move p.segments segment in
      let comments_all = count_push is_comment p.segments segment in
      record {
        segments = p.segments ++ segment ∷ [];
        begun = record { legal = All-push (IsLegal h) p.segments segment p.begun.legal s.legal; one_move = omega arith; bytes = tt };
        gives = gives_both place.height (cond place.given 1 0) (segment ∷ []) p.gives (gives_none place.height (cond place.given 1 0 + length (lengths p.segments)) (segment ∷ []) p.gives.one refl);
        given_is = (let n = many_lengths p.segments (segment ∷ []) in omega arith);
        move_is = sym (move_of_push p.segments segment zero_moves);
        counted = omega arith;
        found = omega arith;
        told = omega arith;
        taken = rw flat_map_push (Consumes-more a b c _ _ p.taken s.taken);
      }

  pub passed_comment : (more_comments : ℕ) (text : List ℕ) → PassesSegment h b c (Comment text) → more_comments ≡ min (comments + 1) (2 ^ 64 - 1) →
      HasPassed h place before a c (segments_so_far at moved given more_comments)
  passed_comment more_comments text s told =
      let segment : Segment = Comment text in
      let count = count_push is_move p.segments segment in
      let comments_all = count_push is_comment p.segments segment in
      record {
        segments = p.segments ++ segment ∷ [];
        begun = record { legal = All-push (IsLegal h) p.segments segment p.begun.legal s.legal; one_move = omega (arith, p.begun.one_move); bytes = tt };
        gives = gives_both place.height (cond place.given 1 0) (segment ∷ []) p.gives (gives_none place.height (cond place.given 1 0 + length (lengths p.segments)) (segment ∷ []) p.gives.one refl);
        given_is = (let n = many_lengths p.segments (segment ∷ []) in omega arith);
        move_is = p.move_is ∙ sym (move_of_comment p.segments text);
        counted = omega arith;
        found = omega arith;
        told = omega arith;
        taken = rw flat_map_push (Consumes-more a b c _ _ p.taken s.taken);
      }

  -- what was skipped, and what is next
  pub segments_passed : (n : Next) → IsNextItem h place given n → Consumes b c (next_bytes n) → PassesSegments h place before a c (record { at = at; given = given; comments = comments; next = n })
  segments_passed n is taken = record {
    segments = p.segments;
    begun = p.begun;
    alone = few_moves before moved (count_by is_move p.segments) p.counted;
    gives = p.gives;
    given_is = p.given_is;
    move_is = p.move_is;
    moves_are = p.found;
    comments_are = p.told;
    next_is = is;
    taken = Consumes-more a b c _ _ p.taken taken;
  }

  -- what was skipped, and a rest with a fault before the code
  pub cut_segments : {f : Fault} → Ends Truncated b c (PieceFault h (record { height = place.height; entities = place.entities; given = given }) moved) f →
      Ends Truncated a c (SegmentsFault h place before) f
  cut_segments e = Ends-after (flat_map segment_bytes p.segments) p.taken (λ bytes fault has. record {
    segments = p.segments;
    rest = bytes;
    bytes_are = refl;
    begun = p.begun;
    alone = few_moves before moved (count_by is_move p.segments) p.counted;
    gives = p.gives;
    rest_has = λ n. subst (λ (z : ℕ × ℕ). rest_fault h (record { height = n; entities = place.entities; heights = z.0 }) z.1 false bytes ≡ Some fault) (λ i. (p.given_is i, p.counted i)) (has n);
  }) e

-- a height after segments isn't the one in use
changed : (h : Fields) (spot : Spot) (moves n : ℕ) → h.yd < 2 ^ 32 → spot.heights ≡ 0 → is_valid_length h spot.entities n ≡ true → IsLegal h (NewLength n) → n ≢ spot.height →
    rest_fault h spot moves false (segment_bytes (NewLength n)) ≡ Some Changed
changed h spot moves n small none valid legal other = rw none (length_changed h spot.height spot.entities legal.0 n [] (omega (arith, legal.2)) valid other)

module _ {h : Fields} {place : Place} {a b : Option (List ℕ)} {s : Segments} where
  -- after them is another height
  pub head_changed : (n : ℕ) → h.yd < 2 ^ 32 → s.next ≡ next.Height n → PassesSegments h place false a b s → Ends Truncated a b (HeadFault h (spot_at place)) Changed
  head_changed n small is p =
      let next_is : IsNextItem h place s.given (next.Height n) = rw is at p.next_is in
      Ends-at (flat_map segment_bytes p.segments ++ segment_bytes (NewLength n)) (rw is at p.taken) refl (λ e. cc) (
        record {
          segments = p.segments;
          code = [];
          rest = segment_bytes (NewLength n);
          bytes_are = refl;
          begun = p.begun;
          gives = p.gives;
          rest_has = changed h (spot_behind (spot_at place) p.segments) (count_by is_move p.segments) n small (sym p.given_is ∙ ap (λ t. cond t 1 0) next_is.0) next_is.1 next_is.2 next_is.3;
        },
        refl,
      )

pub cut_head : {h : Fields} {place : Place} {a b : Option (List ℕ)} {f : Fault} → Ends Truncated a b (SegmentsFault h place false) f → Ends Truncated a b (HeadFault h (spot_at place)) f
cut_head {h} {place} {a} {b} {f} e = record { given = e.given; taken = e.taken; at_end = e.at_end; has_fault = (broken e.given (counted_as Truncated f) e.has_fault, refl) } where
  broken : (given : List ℕ) (fault : Fault) → SegmentsFault h place false given fault → StripeFault h (spot_at place) given fault
  broken given fault q = record {
    segments = q.segments;
    code = [];
    rest = q.rest;
    bytes_are = q.bytes_are;
    begun = q.begun;
    gives = q.gives;
    rest_has = (let z : 0 + count_by is_move q.segments ≡ count_by is_move q.segments = omega arith in
        subst (λ m. rest_fault h (spot_behind (spot_at place) q.segments) m false q.rest ≡ Some fault) z (q.rest_has place.height));
  }

-- bytes of a code so far
pub record HasSkipped (old new : Option (List ℕ)) : Type 0 where
  pub code : List ℕ
  pub bytes : AllByRecursion (λ b. b < 256) code
  pub taken : Consumes old new (stuffed code)

pub skipped_none : (a : Option (List ℕ)) → HasSkipped a a
skipped_none a = record { code = []; bytes = tt; taken = Consumes-none a }

below : (xs : List ℕ) → ArePlain xs → AllByRecursion (λ x. x < 256) xs
below [] p = tt
below (x ∷ xs) p = (p.0.0, below xs p.1)

pub skipped_plain : {a b c : Option (List ℕ)} (plain : List ℕ) → HasSkipped a b → ArePlain plain → Consumes b c plain → HasSkipped a c
skipped_plain {a} {b} {c} plain p each taken = record {
  code = p.code ++ plain;
  bytes = All-append (λ x. x < 256) p.code plain p.bytes (below plain each);
  taken = rw (stuffed_append, stuffed_plain plain each) (Consumes-more a b c _ _ p.taken taken);
}

pub skipped_byte : {a b c : Option (List ℕ)} (byte : ℕ) → HasSkipped a b → byte < 256 → Consumes b c (stuffed (byte ∷ [])) → HasSkipped a c
skipped_byte {a} {b} {c} byte p small taken = record {
  code = p.code ++ byte ∷ [];
  bytes = All-push (λ x. x < 256) p.code byte p.bytes small;
  taken = rw stuffed_append (Consumes-more a b c _ _ p.taken taken);
}

pub code_ends : {a b c : Option (List ℕ)} (reset : Bool) → HasSkipped a b → Consumes b c (marker_bytes reset) → PassesCode a c reset
code_ends {a} {b} {c} reset p taken = record { code = p.code; bytes = p.bytes; taken = Consumes-more a b c _ _ p.taken taken }

pub code_cut : {a b c : Option (List ℕ)} {f : Fault} → HasSkipped a b →
    Ends Truncated b c (λ given fault. (h : Fields) (spot : Spot) (moves : ℕ) → rest_fault h spot moves true given ≡ Some fault) f → Ends Truncated a c CodeFault f
code_cut p e = Ends-after (stuffed p.code) p.taken (λ given fault has. record { code = p.code; rest = given; bytes_are = refl; small = p.bytes; rest_has = has }) e

pub sum_push : {X : Type 0} (f : X → ℕ) (xs : List X) (x : X) → sum_by f (xs ++ x ∷ []) ≡ sum_by f xs + f x
sum_push f xs x = let e = sum_by-append f xs (x ∷ []) in omega arith

pub segments_push : (ss : List Stripe) (s : Stripe) → all_segments (ss ++ s ∷ []) ≡ all_segments ss ++ s.segments
segments_push [] s = append-nil s.segments
segments_push (t ∷ ss) s = rw (segments_push ss s, append_assoc)
