-- The items that a walk passes if it searches for a height, or continues after one.
use Rattle.std.proofs.Common.{cond, ◌≡◌, ◌<◌, ◌≤◌, ◌+◌, ◌-◌, ◌^◌, ℕ, Bool, true, false, List, [], ◌∷◌, ◌++◌, Option, count_by, length, min, is_some, refl, sym, ◌∙◌, subst, append_assoc, arith}
use Rattle.std.specs.Prelude.{flat_map}
use mir.Val.{bool_byte}
use Rattle.std.specs.Io.KnownBytes.{Consumes}
use Rattle.std.proofs.lemmas.List.{length_push}
use Rattle.qm_core.specs.Code.{stuffed}
use Rattle.t85_core.specs.declared.fault.Fault.{Fault}
use Rattle.t85_core.specs.declared.fault.Fault.TheVariants.{Truncated}
use Rattle.t85_core.specs.declared.segments.Code.{Code}
use Rattle.t85_core.specs.declared.segments.Code.TheVariants as code
use Rattle.t85_core.specs.declared.segments.Next.TheVariants as next
use Rattle.t85_core.specs.declared.segments.Segments.{Segments}
use Rattle.t85_core.specs.Header.{Fields}
use Rattle.t85_core.specs.Grammar.{segment_bytes, is_move, lengths, stripe_bytes, marker_bytes, Stripe, IsBegun, moves_in, comments_in}
use Rattle.t85_core.specs.Failures.{Ends}
use Rattle.t85_core.specs.Private.Segments.{IsNextItem, PassesSegments, SegmentsFault}
use Rattle.t85_core.specs.Private.HeightWalk.{PassesRest, RestBreaks, SkipsStripe, SkipsTo, SkipFault, moved_behind, IsAlone, SkipsStripes, SkipsStripesTo, SkipsFault, SegmentCounts, search_place, search_end, segment_counts}
use Rattle.t85_core.specs.Private.Buffers.{reading}
use Rattle.t85_core.proofs.BytesJoin.CallsJoin.{Consumes-more}
use Rattle.t85_core.proofs.BytesJoin.WalkEnds.{Ends-after}
use Rattle.t85_core.proofs.BytesJoin.ListsGrow.{All-push, flat_map_push}
use Rattle.t85_core.proofs.BytesJoin.SegmentsGiveHeights.{legal_give_none, lengths_append}
use Rattle.t85_core.proofs.StreamsAreWalked.StripeIsPassed.{Consumes-none, sum_push, segments_push}
use Rattle.t85_core.proofs.BytesJoin.CodesAreStuffed.{stuffed_append}

pub byte_of : (t : Bool) → bool_byte t ≡ cond t 1 0
byte_of true = refl
byte_of false = refl

none_given : (given later : Bool) → cond later 1 0 ≡ cond given 1 0 + 0 → later ≡ false → given ≡ false
none_given false later e k = refl
none_given true later e k = absurd (let z = rw k at e in omega arith)

module _ {h : Fields} {entities : ℕ} {given before : Bool} {a b : Option (List ℕ)} {s : Segments} (p : PassesSegments h (record { height = 0; entities = entities; given = given }) before a b s) where
  pub moves_counted : (n : ℕ) (t : Bool) → n ≡ bool_byte t → t ≡ is_some s.at → n ≡ count_by is_move p.segments
  moves_counted n t e k = e ∙ byte_of t ∙ rw k p.moves_are

  gives_nothing : lengths p.segments ≡ []
  gives_nothing = legal_give_none h p.segments p.begun.legal p.gives.this

  -- the data entity was skipped, too
  pub stripe_skipped : {c : Option (List ℕ)} (first : Code) (moves : ℕ) → s.next ≡ next.Code first → PassesRest first b c → moves ≡ count_by is_move p.segments →
      SkipsStripe h before (reading a c) (segment_counts moves s.comments)
  stripe_skipped {c} (code.Byte byte) moves is rest counted =
      let q = rest.1 in
      let front : List ℕ = flat_map segment_bytes p.segments in
      let joined : (front ++ stuffed (byte ∷ [])) ++ (stuffed q.code ++ marker_bytes rest.0) ≡ front ++ (stuffed (byte ∷ q.code) ++ marker_bytes rest.0) =
      rw (stuffed_append (byte ∷ []) q.code) (simp append_assoc) in
      record {
        stripe = record { segments = p.segments; code = byte ∷ q.code; reset = rest.0 };
        whole = record { legal = p.begun.legal; one_move = p.begun.one_move; bytes = (rw is at p.next_is, q.bytes) };
        alone = p.alone;
        none = gives_nothing;
        moves_are = counted;
        comments_are = p.comments_are;
        taken = subst (λ z. Consumes a c z) joined (Consumes-more a b c _ _ (rw is at p.taken) q.taken);
      }
  stripe_skipped {c} (code.Marker reset) moves is rest counted = record {
    stripe = record { segments = p.segments; code = []; reset = reset };
    whole = p.begun;
    alone = p.alone;
    none = gives_nothing;
    moves_are = counted;
    comments_are = p.comments_are;
    taken = rw rest (rw is at p.taken);
  }

  -- a height is after the segments
  pub skipped_to : (n moves : ℕ) → s.next ≡ next.Height n → moves ≡ count_by is_move p.segments → SkipsTo h (search_place entities given before) (reading a b) (segment_counts moves s.comments) n
  skipped_to n moves is counted =
      let next_is : IsNextItem h (record { height = 0; entities = entities; given = given }) s.given (next.Height n) = rw is at p.next_is in
      record {
        segments = p.segments;
        begun = p.begun;
        alone = p.alone;
        none = gives_nothing;
        ungiven = none_given given s.given (rw gives_nothing at p.given_is) next_is.0;
        legal = next_is.2;
        valid = next_is.1;
        moves_are = counted;
        comments_are = p.comments_are;
        taken = rw is at p.taken;
      }

  -- the data entity breaks
  pub cut_rest : {c : Option (List ℕ)} {f : Fault} (first : Code) → s.next ≡ next.Code first → Ends Truncated b c (RestBreaks first) f →
      Ends Truncated a c (SkipFault h (search_place entities given before)) f
  cut_rest {c} {f} (code.Byte byte) is e =
      let front : List ℕ = flat_map segment_bytes p.segments in
      Ends-after (front ++ stuffed (byte ∷ [])) (rw is at p.taken) (λ bytes fault has. record {
        segments = p.segments;
        code = byte ∷ has.code;
        rest = has.rest;
        bytes_are = rw (has.bytes_are, stuffed_append (byte ∷ []) has.code) (simp append_assoc);
        begun = record { legal = p.begun.legal; one_move = p.begun.one_move; bytes = (rw is at p.next_is, has.small) };
        alone = p.alone;
        none = gives_nothing;
        rest_has = λ n. has.rest_has h (record { height = n; entities = entities; heights = cond given 1 0 }) (cond before 1 0 + count_by is_move p.segments);
      }) e
  cut_rest {c} {f} (code.Marker reset) is e = absurd e.has_fault

-- a stripe that breaks before its code begins
pub cut_pieces : {h : Fields} {entities : ℕ} {given before : Bool} {a b : Option (List ℕ)} {f : Fault} →
    Ends Truncated a b (SegmentsFault h (record { height = 0; entities = entities; given = given }) before) f → Ends Truncated a b (SkipFault h (search_place entities given before)) f
cut_pieces {h} {entities} {given} {before} {a} {b} {f} e = Ends-after {a = a} {b = a} [] (Consumes-none a) (λ bytes fault has. broken bytes fault has) e where
  broken : (bytes : List ℕ) (fault : Fault) → SegmentsFault h (record { height = 0; entities = entities; given = given }) before bytes fault →
      SkipFault h (search_place entities given before) bytes fault
  broken bytes fault q =
      let none = legal_give_none h q.segments q.begun.legal q.gives.this in
      let zero : cond given 1 0 + 0 ≡ cond given 1 0 = omega arith in
      record {
        segments = q.segments;
        code = [];
        rest = q.rest;
        bytes_are = q.bytes_are;
        begun = q.begun;
        alone = q.alone;
        none = none;
        rest_has = λ n. rw (none, zero) at q.rest_has n;
      }

-- ---- stripes

-- stripes so far, and whether a move precedes the next item
pub record HasStripes (h : Fields) (before : Bool) (count : ℕ) (old new : Option (List ℕ)) (moved : Bool) (moves comments : ℕ) : Type 0 where
  pub so : SkipsStripes h before count (reading old new) (segment_counts moves comments)
  pub moved_is : moved ≡ moved_behind before so.stripes

pub stripes_none : (h : Fields) (before : Bool) (count : ℕ) (a : Option (List ℕ)) → count ≡ 0 → HasStripes h before count a a before 0 0
stripes_none h before count a none = record {
  so = record { stripes = []; count_is = sym none; each = tt; alone = tt; none = refl; moves_are = refl; comments_are = refl; taken = Consumes-none a };
  moved_is = refl;
}

alone_push : (before : Bool) (ss : List Stripe) (s : Stripe) → IsAlone before ss → cond (moved_behind before ss) 1 0 + count_by is_move s.segments ≤ 1 → IsAlone before (ss ++ s ∷ [])
alone_push before [] s p q = q
alone_push before (t ∷ ss) s p q = p

moved_push : (before : Bool) (ss : List Stripe) (s : Stripe) → false ≡ moved_behind before (ss ++ s ∷ [])
moved_push before [] s = refl
moved_push before (t ∷ ss) s = refl

module _ {h : Fields} {before : Bool} {count moves comments : ℕ} {moved : Bool} {a b c : Option (List ℕ)} (p : HasStripes h before count a b moved moves comments) where
  -- a stripe more
  pub stripes_more : {more : SegmentCounts} (all_comments next_count : ℕ) → next_count ≡ count + 1 → SkipsStripe h moved (reading b c) more →
      all_comments ≡ min (comments + more.comments) (2 ^ 64 - 1) →
      HasStripes h before next_count a c false (moves + more.moves) all_comments
  stripes_more all_comments next_count next s told =
      let moves_all = sum_push moves_in p.so.stripes s.stripe in
      let comments_all = sum_push comments_in p.so.stripes s.stripe in
      record {
        so = record {
          stripes = p.so.stripes ++ s.stripe ∷ [];
          count_is = rw (length_push p.so.stripes s.stripe, p.so.count_is) (sym next);
          each = All-push (λ t. IsBegun h t.segments t.code) p.so.stripes s.stripe p.so.each s.whole;
          alone = alone_push before p.so.stripes s.stripe p.so.alone (rw p.moved_is at s.alone);
          none = rw (segments_push p.so.stripes s.stripe, lengths_append, p.so.none) s.none;
          moves_are = omega (arith, p.so.moves_are);
          comments_are = omega (arith, p.so.comments_are);
          taken = rw flat_map_push (Consumes-more a b c (flat_map stripe_bytes p.so.stripes) (stripe_bytes s.stripe) p.so.taken s.taken);
        };
        moved_is = moved_push before p.so.stripes s.stripe;
      }

  -- a height is after them
  pub stripes_to : {given : Bool} {part : SegmentCounts} {n : ℕ} (from entities : ℕ) → entities ≡ from + count → SkipsTo h (search_place entities given moved) (reading b c) part n →
      SkipsStripesTo h (search_place from given before) (reading a c) (search_end entities moves comments part.moves part.comments) n
  stripes_to from entities at s = record {
    mid = b;
    count = count;
    entities_are = at;
    before = p.so;
    part = rw p.moved_is at s;
  }

  -- and after them one that breaks
  pub cut_stripes : {given : Bool} {f : Fault} (from entities wanted : ℕ) → entities ≡ from + count → entities < wanted → Ends Truncated b c (SkipFault h (search_place entities given moved)) f →
      Ends Truncated a c (SkipsFault h (search_place from given before) wanted) f
  cut_stripes {given} from entities wanted at fewer e = Ends-after (flat_map stripe_bytes p.so.stripes) p.so.taken (λ bytes fault has. record {
    stripes = p.so.stripes;
    tail = bytes;
    bytes_are = refl;
    fewer = omega (arith, p.so.count_is);
    each = p.so.each;
    alone = p.so.alone;
    none = p.so.none;
    tail_has = (let n : entities ≡ from + length p.so.stripes = omega (arith, p.so.count_is) in
        subst (λ (z : ℕ × Bool). SkipFault h (search_place z.0 given z.1) bytes fault) (λ i. (n i, p.moved_is i)) has);
  }) e
