-- A walk over the parts of a stream goes behind one more.
use Rattle.std.proofs.Common.{cond, ◌≡◌, ◌⊎◌, ◌<◌, ◌≤◌, ◌+◌, ℕ, Bool, true, false, List, [], ◌∷◌, ◌++◌, length, drop, refl, sym, ap, ◌∙◌, append_assoc, append-nil, length-append, arith, true≢false}
use Rattle.std.specs.Prelude.{flat_map, IsTrue}
use Rattle.std.specs.List.{AllByRecursion}
use Rattle.std.proofs.lemmas.List.{drop-drop, drop_at, length_push}
use Rattle.qm_core.specs.Code.{stuffed}
use Rattle.t85_core.specs.declared.parts.PartWalk.{PartWalk}
use Rattle.t85_core.specs.Header.{Fields}
use Rattle.t85_core.specs.Grammar.{Segment, NewLength, Comment, segment_bytes, is_move, is_comment, lengths, Stripe, stripe_bytes, marker_bytes, all_segments, stripe_count, is_valid_length, IsLegal, IsBegun, GiveOnly}
use Rattle.t85_core.specs.Height.{GivesHeight}
use Rattle.t85_core.specs.Parts.{passed_bytes, IsUngiven, IsGiven, StandsBehind}
use Rattle.t85_core.proofs.BytesJoin.ListsGrow.{All-push, count_push, flat_map_push}
use Rattle.t85_core.proofs.BytesJoin.SegmentsGiveHeights.{lengths_append, gives_none, gives_both}
use Rattle.t85_core.proofs.StreamsAreWalked.StripeIsPassed.{segments_push}
use Rattle.t85_core.proofs.StreamsAreWalked.NumbersAreSummed.{entities_fit}

-- ---- bytes and places

passed_segment : (ss : List Stripe) (gs : List Segment) (s : Segment) → passed_bytes ss (gs ++ s ∷ []) ≡ passed_bytes ss gs ++ segment_bytes s
passed_segment ss gs s = rw (flat_map_push segment_bytes gs s, append_assoc)

abbrev pub ended : List Segment → List ℕ → Bool → Stripe
ended gs code reset = record { segments = gs; code = code; reset = reset }

passed_entity : (ss : List Stripe) (gs : List Segment) (code : List ℕ) (reset : Bool) → passed_bytes (ss ++ ended gs code reset ∷ []) [] ≡ passed_bytes ss gs ++ (stuffed code ++ marker_bytes reset)
passed_entity ss gs code reset = rw (append-nil, flat_map_push stripe_bytes ss (ended gs code reset), append_assoc)

-- what is behind some bytes
behind_bytes : (stream bytes left : List ℕ) (o : ℕ) → drop o stream ≡ bytes ++ left → drop (o + length bytes) stream ≡ left
behind_bytes stream bytes left o e = rw (← drop-drop (length bytes) o stream, e) (drop_at bytes left (length bytes) refl)

-- The walk went over these bytes.
pub record GoesOver (stream : List ℕ) (w w' : PartWalk) (bytes left : List ℕ) : Type 0 where
  pub there : drop w.offset stream ≡ bytes ++ left
  pub at : w'.offset ≡ w.offset + length bytes

module _ {stream bytes left : List ℕ} {w w' : PartWalk} {h : Fields} {ss : List Stripe} {gs : List Segment} (p : StandsBehind stream w h ss gs) (o : GoesOver stream w w' bytes left) where
  offset_grown : (ss' : List Stripe) (gs' : List Segment) → passed_bytes ss' gs' ≡ passed_bytes ss gs ++ bytes → w'.offset ≡ 20 + length (passed_bytes ss' gs')
  offset_grown ss' gs' e =
      let l : length (passed_bytes ss' gs') ≡ length (passed_bytes ss gs) + length bytes = ap length e ∙ length-append (passed_bytes ss gs) bytes in
      omega arith

  body_grown : (ss' : List Stripe) (gs' : List Segment) → passed_bytes ss' gs' ≡ passed_bytes ss gs ++ bytes → drop 20 stream ≡ passed_bytes ss' gs' ++ drop w'.offset stream
  body_grown ss' gs' e =
      p.body_is ∙ ap (λ z. passed_bytes ss gs ++ z) o.there ∙ rw (e, o.at, behind_bytes stream bytes left w.offset o.there) (sym (append_assoc (passed_bytes ss gs) bytes left))

  pub stands_segment : (s : Segment) → bytes ≡ segment_bytes s → IsLegal h s → w'.entities ≡ w.entities → cond w'.moved 1 0 ≡ cond w.moved 1 0 + cond (is_move s) 1 0 → cond w'.moved 1 0 ≤ 1 →
      IsUngiven w' h ss (gs ++ s ∷ []) (drop 20 stream) ⊎ IsGiven w' h ss (gs ++ s ∷ []) (drop 20 stream) → StandsBehind stream w' h ss (gs ++ s ∷ [])
  stands_segment s is legal same moves one height =
      let grown : passed_bytes ss (gs ++ s ∷ []) ≡ passed_bytes ss gs ++ bytes = rw is (passed_segment ss gs s) in
      let count = count_push is_move gs s in
      record {
        header_of = p.header_of;
        offset_is = offset_grown ss (gs ++ s ∷ []) grown;
        body_is = body_grown ss (gs ++ s ∷ []) grown;
        each = p.each;
        begun = record {
          legal = All-push (IsLegal h) gs s p.begun.legal legal;
          one_move = omega arith;
          bytes = tt;
        };
        entities_are = same ∙ p.entities_are;
        moved_is = omega arith;
        height = height;
      }

  pub stands_entity : (code : List ℕ) (reset : Bool) → bytes ≡ stuffed code ++ marker_bytes reset → AllByRecursion (λ b. b < 256) code → w'.entities ≡ w.entities + 1 → w'.moved ≡ false →
      IsUngiven w' h (ss ++ ended gs code reset ∷ []) [] (drop 20 stream) ⊎ IsGiven w' h (ss ++ ended gs code reset ∷ []) [] (drop 20 stream) →
      StandsBehind stream w' h (ss ++ ended gs code reset ∷ []) []
  stands_entity code reset is small next none height =
      let grown : passed_bytes (ss ++ ended gs code reset ∷ []) [] ≡ passed_bytes ss gs ++ bytes = rw is (passed_entity ss gs code reset) in
      record {
        header_of = p.header_of;
        offset_is = offset_grown (ss ++ ended gs code reset ∷ []) [] grown;
        body_is = body_grown (ss ++ ended gs code reset ∷ []) [] grown;
        each = All-push (λ (s : Stripe). IsBegun h s.segments s.code) ss (ended gs code reset) p.each (record { legal = p.begun.legal; one_move = p.begun.one_move; bytes = small });
        begun = record { legal = tt; one_move = omega arith; bytes = tt };
        entities_are = (let l = length_push ss (ended gs code reset) in let e = p.entities_are in omega arith);
        moved_is = ap (λ t. cond t 1 0) none;
        height = height;
      }

-- ---- the height

lengths_more : (ss : List Stripe) (gs : List Segment) (s : Segment) → lengths (all_segments ss ++ (gs ++ s ∷ [])) ≡ lengths (all_segments ss ++ gs) ++ lengths (s ∷ [])
lengths_more ss gs s = rw (← append_assoc (all_segments ss) gs (s ∷ []), lengths_append)

segments_whole : (ss : List Stripe) (gs : List Segment) (code : List ℕ) (reset : Bool) → all_segments (ss ++ ended gs code reset ∷ []) ++ [] ≡ all_segments ss ++ gs
segments_whole ss gs code reset = append-nil (all_segments (ss ++ ended gs code reset ∷ [])) ∙ segments_push ss (ended gs code reset)

module _ {h : Fields} {w : PartWalk} {ss : List Stripe} {gs : List Segment} {body : List ℕ} (w' : PartWalk) where
  module _ (u : IsUngiven w h ss gs body) where
    pub ungiven_segment : (s : Segment) → lengths (s ∷ []) ≡ [] → w'.late_height ≡ w.late_height → w'.at_height ≡ w.at_height → length ss < stripe_count h.yd h.l0 →
        IsUngiven w' h ss (gs ++ s ∷ []) body
    ungiven_segment s none late comes few = record {
      zero = late ∙ u.zero;
      none = rw (lengths_more, u.none) none;
      within = u.within;
      quiet = λ all _. absurd (omega arith);
      comes = λ c. (let e = (u.comes (sym comes ∙ c)).0 in absurd (omega arith));
    }

    -- a comment behind the last stripe, where a height comes
    pub ungiven_comment : (text : List ℕ) → w'.late_height ≡ w.late_height → w'.at_height ≡ true → length ss ≡ stripe_count h.yd h.l0 → AllByRecursion (λ s. IsTrue (is_comment s)) gs → (n : ℕ) →
        GivesHeight h body n → IsUngiven w' h ss (gs ++ Comment text ∷ []) body
    ungiven_comment text late comes all comments n g = record {
      zero = late ∙ u.zero;
      none = rw (lengths_more, u.none);
      within = u.within;
      quiet = λ _ c. absurd (true≢false (sym comes ∙ c));
      comes = λ _. (all, All-push (λ s. IsTrue (is_comment s)) gs (Comment text) comments refl, (n, g));
    }

    pub ungiven_entity : (code : List ℕ) (reset : Bool) → w'.late_height ≡ w.late_height → w'.at_height ≡ false → length ss < stripe_count h.yd h.l0 →
        IsUngiven w' h (ss ++ ended gs code reset ∷ []) [] body
    ungiven_entity code reset late comes few = record {
      zero = late ∙ u.zero;
      none = rw segments_whole u.none;
      within = (let l = length_push ss (ended gs code reset) in omega arith);
      quiet = λ _ _. refl;
      comes = λ c. absurd (true≢false (sym c ∙ comes));
    }

    -- the height is given
    pub given_now : (n : ℕ) → 0 < h.l0 → w'.late_height ≡ n → w'.at_height ≡ true → is_valid_length h (length ss) n ≡ true → GivesHeight h body n → IsGiven w' h ss (gs ++ NewLength n ∷ []) body
    given_now n some late at valid g = record {
      gives = rw late g;
      only = rw late only;
      one = rw (lengths_more, u.none);
      within = rw late (entities_fit h (length ss) n some valid);
      last = λ _. rw (late, at) (gs, refl);
    } where
      only : GiveOnly n 0 (all_segments ss ++ (gs ++ NewLength n ∷ []))
      only =
          let l = ap length u.none in
          rw (← append_assoc (all_segments ss) gs (NewLength n ∷ []))
          (gives_both n 0 (NewLength n ∷ []) (gives_none n 0 (all_segments ss ++ gs) (omega arith) u.none)
          (record { one = omega arith; this = (refl, tt) }))

  module _ (g : IsGiven w h ss gs body) (late : w'.late_height ≡ w.late_height) (few : length ss < stripe_count w.late_height h.l0) where
    pub given_segment : (s : Segment) → lengths (s ∷ []) ≡ [] → IsGiven w' h ss (gs ++ s ∷ []) body
    given_segment s none = record {
      gives = rw late g.gives;
      only = rw (late, ← append_assoc (all_segments ss) gs (s ∷ []))
          (gives_both w.late_height 0 (s ∷ []) g.only (gives_none w.late_height (0 + length (lengths (all_segments ss ++ gs))) (s ∷ []) (omega arith) none));
      one = rw (lengths_more, none, append-nil) g.one;
      within = rw late g.within;
      last = λ all. absurd (let e = rw late at all in omega arith);
    }

    pub given_entity : w'.at_height ≡ false → (code : List ℕ) (reset : Bool) → IsGiven w' h (ss ++ ended gs code reset ∷ []) [] body
    given_entity at code reset = record {
      gives = rw late g.gives;
      only = rw (late, segments_whole) g.only;
      one = rw segments_whole g.one;
      within = (let l = length_push ss (ended gs code reset) in let k = ap (λ z. stripe_count z h.l0) late in omega arith);
      last = λ _. rw at refl;
    }

-- the segments before it, and the height itself
pub gives_there : {stream : List ℕ} {w : PartWalk} {h : Fields} {ss : List Stripe} {gs : List Segment} (p : StandsBehind stream w h ss gs) (n : ℕ) (left : List ℕ) →
    lengths (all_segments ss ++ gs) ≡ [] → length ss ≤ stripe_count h.yd h.l0 →
    (length ss ≡ stripe_count h.yd h.l0 → AllByRecursion (λ s. IsTrue (is_comment s)) gs) → IsLegal h (NewLength n) → is_valid_length h (length ss) n ≡ true →
    drop w.offset stream ≡ segment_bytes (NewLength n) ++ left → GivesHeight h (drop 20 stream) n
gives_there {stream} {w} {h} {ss} {gs} p n left none within behind legal valid there = record {
  variable = legal.0;
  stripes = ss;
  segments = gs;
  rest = left;
  body_is = p.body_is ∙ rw there (append_assoc (flat_map stripe_bytes ss) (flat_map segment_bytes gs) (segment_bytes (NewLength n) ++ left));
  each = p.each;
  begun = p.begun;
  first = none;
  within = within;
  behind = behind;
  valid = valid;
}
