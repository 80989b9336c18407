-- A body of bytes has a height.
use Rattle.std.proofs.Common.{cond, ◌≡◌, ◌≢◌, ◌⊎◌, inl, inr, ◌<◌, ◌≤◌, ◌+◌, ◌^◌, ℕ, zero, suc, Bool, true, false, List, [], ◌∷◌, ◌++◌, Option, None, Some, count_by, length, drop, refl, sym, ap, ◌∙◌, subst, append_assoc, arith, true≢false}
use Rattle.std.specs.Prelude.{flat_map, IsTrue}
use Rattle.std.specs.List.{AllByRecursion}
use Rattle.std.proofs.lemmas.Bool.{cases_eq, cases_lt}
use Rattle.byteorder.specs.Endian.{big_bytes, big_number}
use Rattle.qm_core.specs.Code.{stuffed}
use Rattle.t85_core.specs.declared.fault.Fault.{Fault}
use Rattle.t85_core.specs.declared.fault.Fault.TheVariants.{Changed}
use Rattle.t85_core.specs.Header.{Fields, IsAccepted, is_variable}
use Rattle.t85_core.specs.Grammar.{Segment, NewLength, Move, Comment, segment_bytes, is_move, is_comment, lengths, Stripe, stripe_bytes, all_segments, stripe_count, is_valid_length, IsLegal, AreStripes, GiveOnly}
use Rattle.t85_core.specs.Refusal.{rest_fault, StripesFault}
use Rattle.t85_core.specs.Height.{GivesHeight, IsHeight}
use Rattle.t85_core.specs.Private.HeightWalk.{Comments, LookEnds}
use Rattle.t85_core.proofs.BytesJoin.ListsKeepElements.{all_right}
use Rattle.t85_core.proofs.BytesJoin.SegmentsGiveHeights.{lengths_append, legal_give_none, valid_parts}
use Rattle.t85_core.proofs.BytesJoin.ListsGrow.{All-append}
use Rattle.t85_core.proofs.StreamsAreWalked.SegmentsAreChecked.{row_of, comment_whole}
use Rattle.t85_core.proofs.BytesJoin.CodesAreStuffed.{second}
use Rattle.t85_core.proofs.BodiesParse.BodyHasOneReading.{one_segment, one_front, parts_or_fault, no_segment_in_code, marker_no_segment, spot_of}
use Rattle.t85_core.proofs.BodiesParse.RestHasPiece.{AreBytes, Front, code_byte, end_marker, segment_at, front_of, four_back}
use Rattle.t85_core.proofs.BodiesParse.BodyParsesOrBreaks.{Cut, enough, too_few, cut_of, shorter, segment_long}
use Rattle.t85_core.proofs.BodiesParse.BodyHasOneHeight.{never_suits, given_breaks, given_where_broken}

module _ {h : Fields} (ok : IsAccepted h) where
  -- a valid height is at the front, or none is
  data HeightAt (k : ℕ) (rest : List ℕ) : Type 0 where
    there : (n : ℕ) (more : List ℕ) → is_valid_length h k n ≡ true → rest ≡ segment_bytes (NewLength n) ++ more → HeightAt k rest
    nowhere : ((n : ℕ) (more : List ℕ) → is_valid_length h k n ≡ true → rest ≡ segment_bytes (NewLength n) ++ more → ⊥) → HeightAt k rest

  short : (k : ℕ) (rest : List ℕ) → length rest < 6 → HeightAt k rest
  short k rest less = nowhere (λ n more valid e. let l = ap length e in omega arith)

  height_at : (k : ℕ) (rest : List ℕ) → AreBytes rest → HeightAt k rest
  height_at k (a ∷ b ∷ x ∷ y ∷ z ∷ w ∷ more) all = went (cases_eq a 255) (cases_eq b 5) where
    first_two : (n : ℕ) (tail : List ℕ) → a ∷ b ∷ x ∷ y ∷ z ∷ w ∷ more ≡ 255 ∷ 5 ∷ tail → (a ≡ 255) × (b ≡ 5)
    first_two n tail e = ((cc), (cc))

    judged : (t : Bool) → is_valid_length h k (big_number 4 (x ∷ y ∷ z ∷ w ∷ more)) ≡ t → HeightAt k (255 ∷ 5 ∷ x ∷ y ∷ z ∷ w ∷ more)
    judged true v =
        let four = all.1.1 in
        there (big_number 4 (x ∷ y ∷ z ∷ w ∷ more)) more v (ap (λ u. 255 ∷ 5 ∷ (u ++ more)) (sym (four_back x y z w more four.0 four.1.0 four.1.1.0 four.1.1.1.0)))
    judged false v = nowhere (λ n tail valid e.
        let parts = valid_parts h k n valid in
        let same : big_number 4 (x ∷ y ∷ z ∷ w ∷ more) ≡ n = ap (λ u. big_number 4 (drop 2 u)) e ∙ row_of n tail (omega arith) in
        true≢false (sym valid ∙ ap (is_valid_length h k) (sym same) ∙ v))

    went : (a ≡ 255) ⊎ (a ≢ 255) → (b ≡ 5) ⊎ (b ≢ 5) → HeightAt k (a ∷ b ∷ x ∷ y ∷ z ∷ w ∷ more)
    went (inl p) (inl q) = rw (p, q) (judged (is_valid_length h k (big_number 4 (x ∷ y ∷ z ∷ w ∷ more))) refl)
    went (inr p) q = nowhere (λ n tail valid e. p (first_two n (big_bytes 4 n ++ tail) e).0)
    went (inl p) (inr q) = nowhere (λ n tail valid e. q (first_two n (big_bytes 4 n ++ tail) e).1)
  height_at k rest all = short k rest (omega arith)

  -- ---- the look after the last stripe

  -- comments, and after them a valid height, or what is neither
  data Look (k : ℕ) (rest : List ℕ) : Type 0 where
    found : (cs : List Segment) (n : ℕ) (more : List ℕ) → Comments h cs → is_valid_length h k n ≡ true →
        rest ≡ flat_map segment_bytes cs ++ (segment_bytes (NewLength n) ++ more) → Look k rest
    ended : LookEnds h k rest → Look k rest

  ended_here : {k : ℕ} {rest : List ℕ} → ((n : ℕ) (more : List ℕ) → is_valid_length h k n ≡ true → rest ≡ segment_bytes (NewLength n) ++ more → ⊥) →
      ((text more : List ℕ) → length text < 2 ^ 32 → rest ≡ segment_bytes (Comment text) ++ more → ⊥) → LookEnds h k rest
  ended_here {rest} no_height no_comment =
      record { segments = []; last = rest; are = record { comments = tt; legal = tt }; no_height = no_height; no_comment = no_comment; rest_is = refl }

  none_some : {f : Fault} → None ≡ Some f → ⊥
  none_some e = cc

  -- in the look no height is in use, and a move isn't looked at
  abbrev look_fault : ℕ → List ℕ → Option Fault
  look_fault k rest = rest_fault h (spot_of 0 k 0) 1 false rest

  look_at : (fuel k : ℕ) (rest : List ℕ) → length rest ≤ fuel → AreBytes rest → Look k rest
  look_at zero k [] le all =
      ended (ended_here (λ n more v e. let l = ap length e in omega arith) (λ text more s e. let l : 0 ≡ length (segment_bytes (Comment text) ++ more) = ap length e in omega arith))
  look_at zero k (b ∷ rest) le all = absurd (omega arith)
  look_at (suc fuel) k rest le all = went (height_at k rest all) (λ r less a. look_at fuel k r less a) where
    went : HeightAt k rest → ((r : List ℕ) → length r ≤ fuel → AreBytes r → Look k r) → Look k rest
    went (there n more v e) further = found [] n more (record { comments = tt; legal = tt }) v e
    went (nowhere never) further = look (look_fault k rest) refl where
      stop : ((text more : List ℕ) → length text < 2 ^ 32 → rest ≡ segment_bytes (Comment text) ++ more → ⊥) → Look k rest
      stop not_comment = ended (ended_here never not_comment)

      piece : Front h (spot_of 0 k 0) 1 false rest → Look k rest
      piece (code_byte b more small is) = stop (λ text z fits e. no_segment_in_code b more z (Comment text) (sym is ∙ e))
      piece (end_marker reset more is) = stop (λ text z fits e. marker_no_segment reset more (Comment text) z (sym is ∙ e))
      piece (segment_at none at) = by at.segment refl where
        by : (s : Segment) → at.segment ≡ s → Look k rest
        by (NewLength n) e =
            let legal : IsLegal h (NewLength n) = subst (IsLegal h) e at.legal in
            let given : GiveOnly 0 0 (NewLength n ∷ []) = subst (λ u. GiveOnly 0 0 (u ∷ [])) e at.gives in
            absurd (omega (arith, legal.1))
        by (Move row offset) e =
            let few : 1 + cond (is_move (Move row offset)) 1 0 ≤ 1 = subst (λ u. 1 + cond (is_move u) 1 0 ≤ 1) e at.one_move in
            absurd (omega arith)
        by (Comment text) e = next (further at.more (shorter (segment_bytes at.segment) at.more fuel le (segment_long at.segment) at.tail_is)
            (all_right (λ x. x < 256) (segment_bytes at.segment) at.more (subst AreBytes at.tail_is all))) where
              legal : IsLegal h (Comment text)
              legal = subst (IsLegal h) e at.legal

              is : rest ≡ segment_bytes (Comment text) ++ at.more
              is = rw (at.tail_is, e)

              joined : (cs : List Segment) (z : List ℕ) → at.more ≡ flat_map segment_bytes cs ++ z → rest ≡ flat_map segment_bytes (Comment text ∷ cs) ++ z
              joined cs z q = rw (is, q, ← append_assoc (segment_bytes (Comment text)) (flat_map segment_bytes cs) z)

              one_more : (cs : List Segment) → Comments h cs → Comments h (Comment text ∷ cs)
              one_more cs c = record { comments = (refl, c.comments); legal = (legal, c.legal) }

              next : Look k at.more → Look k rest
              next (found cs n more c v q) = found (Comment text ∷ cs) n more (one_more cs c) v (joined cs (segment_bytes (NewLength n) ++ more) q)
              next (ended l) = ended (record {
                segments = Comment text ∷ l.segments;
                last = l.last;
                are = one_more l.segments l.are;
                no_height = l.no_height;
                no_comment = l.no_comment;
                rest_is = joined l.segments l.last l.rest_is;
              })

      look : (o : Option Fault) → look_fault k rest ≡ o → Look k rest
      look (Some f) q = stop (λ text z fits e. none_some (sym (comment_whole text z fits) ∙ subst (λ u. look_fault k u ≡ Some f) e q))
      look None q = piece (front_of h (spot_of 0 k 0) 1 false rest all (omega arith) (omega arith) q)

  -- comments give no height and make no move
  pub comments_give_none : (cs : List Segment) → AllByRecursion (λ s. IsTrue (is_comment s)) cs → lengths cs ≡ []
  comments_give_none [] c = refl
  comments_give_none (Comment text ∷ cs) c = comments_give_none cs c.1
  comments_give_none (s ∷ cs) c = absurd (true≢false (sym c.0))

  pub no_moves : (cs : List Segment) → AllByRecursion (λ s. IsTrue (is_comment s)) cs → count_by is_move cs ≡ 0
  no_moves [] c = refl
  no_moves (Comment text ∷ cs) c = no_moves cs c.1
  no_moves (s ∷ cs) c = absurd (true≢false (sym c.0))

  pub comments_make_none : (cs : List Segment) → AllByRecursion (λ s. IsTrue (is_comment s)) cs → count_by is_move cs ≤ 1
  comments_make_none cs c = let e = no_moves cs c in omega arith

  -- neither a valid height nor a comment is at the front
  record NoSegment (k : ℕ) (last : List ℕ) : Type 0 where
    no_height : (n : ℕ) (more : List ℕ) → is_valid_length h k n ≡ true → last ≡ segment_bytes (NewLength n) ++ more → ⊥
    no_comment : (text more : List ℕ) → length text < 2 ^ 32 → last ≡ segment_bytes (Comment text) ++ more → ⊥

  tail_of : {s : Segment} {cs : List Segment} → Comments h (s ∷ cs) → Comments h cs
  tail_of c = record { comments = c.comments.1; legal = c.legal.1 }

  -- where the look ended there is no height
  no_look : {k : ℕ} {last : List ℕ} (n : ℕ) (cs ds : List Segment) (more : List ℕ) → Comments h cs → Comments h ds → is_valid_length h k n ≡ true → NoSegment k last →
      flat_map segment_bytes cs ++ last ≡ flat_map segment_bytes ds ++ (segment_bytes (NewLength n) ++ more) → ⊥
  no_look n [] [] more c d valid none e = none.no_height n more valid e
  no_look n [] (Comment text ∷ ds) more c d valid none e =
      none.no_comment text (flat_map segment_bytes ds ++ (segment_bytes (NewLength n) ++ more)) d.legal.0
      (e ∙ append_assoc (segment_bytes (Comment text)) (flat_map segment_bytes ds) (segment_bytes (NewLength n) ++ more))
  no_look n [] (s ∷ ds) more c d valid none e = true≢false (sym d.comments.0)
  no_look n (Comment text ∷ cs) [] more c d valid none e = let s = second e in omega (arith, s)
  no_look {last} n (Comment text ∷ cs) (Comment text' ∷ ds) more c d valid none e =
      let first = one_segment ok (Comment text) (Comment text') (flat_map segment_bytes cs ++ last) (flat_map segment_bytes ds ++ (segment_bytes (NewLength n) ++ more)) c.legal.0 d.legal.0
      (sym (append_assoc (segment_bytes (Comment text)) (flat_map segment_bytes cs) last) ∙ e
      ∙ append_assoc (segment_bytes (Comment text')) (flat_map segment_bytes ds) (segment_bytes (NewLength n) ++ more)) in
      no_look n cs ds more (tail_of c) (tail_of d) valid none first.1
  no_look n (Comment text ∷ cs) (s ∷ ds) more c d valid none e = true≢false (sym d.comments.0)
  no_look n (s ∷ cs) ds more c d valid none e = true≢false (sym c.comments.0)

  -- ---- the height

  all_legal : (ss : List Stripe) → AreStripes h ss → AllByRecursion (IsLegal h) (all_segments ss)
  all_legal [] each = tt
  all_legal (s ∷ ss) each = All-append (IsLegal h) s.segments (all_segments ss) each.0.legal (all_legal ss each.1)

  both_none : (ss : List Stripe) (ts : List Segment) → AreStripes h ss → AllByRecursion (IsLegal h) ts → GiveOnly 0 0 (all_segments ss) → AllByRecursion (λ n. n ≡ 0) (lengths ts) →
      lengths (all_segments ss ++ ts) ≡ []
  both_none ss ts each legal g k =
      let a = legal_give_none h (all_segments ss) (all_legal ss each) g.this in
      let b = legal_give_none h ts legal k in
      lengths_append (all_segments ss) ts ∙ ap (λ u. u ++ lengths ts) a ∙ b

  -- the header's height, if there is no other
  header_height : (body : List ℕ) → ((n : ℕ) → GivesHeight h body n → ⊥) → (n : ℕ) × IsHeight h body n
  header_height body never = (h.yd, inr (refl, never))

  -- No height is given where the look after the last stripe ended.
  pub never_behind : {body rest : List ℕ} {n : ℕ} (ss : List Stripe) → length ss ≡ stripe_count h.yd h.l0 → AreStripes h ss →
      GiveOnly 0 0 (all_segments ss) → body ≡ flat_map stripe_bytes ss ++ rest → LookEnds h (length ss) rest → GivesHeight h body n → ⊥
  never_behind {body} {rest} {n} ss many each gives is l g = by (cases_lt (length g.stripes) (length ss)) where
    by : (length g.stripes < length ss) ⊎ (length ss ≤ length g.stripes) → ⊥
    by (inl less) =
        parts_or_fault ok 0 (length ss) (never_suits h (length ss)) ss g.stripes rest each g.each gives
        (omega arith) less (given_breaks ok body n g) (sym is ∙ g.body_is)
    by (inr more) =
        let same : length ss ≡ length g.stripes = omega arith in
        let front = one_front ok ss g.stripes rest (flat_map segment_bytes g.segments ++ (segment_bytes (NewLength n) ++ g.rest)) each g.each same (sym is ∙ g.body_is) in
        no_look n l.segments g.segments g.rest l.are (record { comments = g.behind (sym same ∙ many); legal = g.begun.legal }) (rw same g.valid)
        (record { no_height = l.no_height; no_comment = l.no_comment }) (sym l.rest_is ∙ front.1)

  -- and the header's is that of the image
  pub height_of_ended : {body rest : List ℕ} (ss : List Stripe) → length ss ≡ stripe_count h.yd h.l0 → AreStripes h ss →
      GiveOnly 0 0 (all_segments ss) → body ≡ flat_map stripe_bytes ss ++ rest → LookEnds h (length ss) rest → IsHeight h body h.yd
  height_of_ended ss many each gives is l = inr (refl, λ other. never_behind ss many each gives is l)

  -- At height 0, a body that breaks with another error than that of a valid height contains none.
  pub height_of_broken : {body : List ℕ} {f : Fault} → StripesFault h 0 (stripe_count h.yd h.l0) body f → (f ≡ Changed → ⊥) → IsHeight h body h.yd
  height_of_broken {body} b other = inr (refl, λ n g. let cut = given_where_broken ok body b g in other cut.broken.fault)

  module _ (body : List ℕ) (all : AreBytes body) (variable : is_variable h ≡ true) where
    enough_there : (ss : List Stripe) (rest : List ℕ) → length ss ≡ stripe_count h.yd h.l0 → AreStripes h ss → GiveOnly 0 0 (all_segments ss) →
        body ≡ flat_map stripe_bytes ss ++ rest →
        (n : ℕ) × IsHeight h body n
    enough_there ss rest many each gives is = went (look_at (length rest) (length ss) rest (omega arith) (all_right (λ x. x < 256) (flat_map stripe_bytes ss) rest (rw (← is) all))) where
      went : Look (length ss) rest → (n : ℕ) × IsHeight h body n
      went (found cs n more c v e) = (
        n,
        inl (record {
          variable = variable;
          stripes = ss;
          segments = cs;
          rest = more;
          body_is = rw (is, e);
          each = each;
          begun = record { legal = c.legal; one_move = comments_make_none cs c.comments; bytes = tt };
          first = both_none ss cs each c.legal gives (rw (comments_give_none cs c.comments) tt);
          within = omega arith;
          behind = λ _. c.comments;
          valid = v;
        }),
      )
      went (ended l) = (h.yd, height_of_ended ss many each gives is l)

    broken_there : (f : Fault) → StripesFault h 0 (stripe_count h.yd h.l0) body f → (n : ℕ) × IsHeight h body n
    broken_there f b = went (height_at (length b.stripes) b.tail_has.rest rest_bytes) (is_nil_or b.tail_has.code) where
      rest_bytes : AreBytes b.tail_has.rest
      rest_bytes =
          all_right (λ x. x < 256) (stuffed b.tail_has.code) b.tail_has.rest (all_right (λ x. x < 256) (flat_map segment_bytes b.tail_has.segments) (stuffed b.tail_has.code ++ b.tail_has.rest)
          (rw (← b.tail_has.bytes_are) (all_right (λ x. x < 256) (flat_map stripe_bytes b.stripes) b.tail (subst AreBytes b.bytes_are all))))

      is_nil_or : (code : List ℕ) → (code ≡ []) ⊎ (code ≡ [] → ⊥)
      is_nil_or [] = inl refl
      is_nil_or (x ∷ code) = inr (λ e. cc)

      -- what is given must stand where the fault is
      same : (n : ℕ) (g : GivesHeight h body n) → (b.tail_has.code ≡ []) × (length b.stripes ≡ length g.stripes) × (b.tail_has.rest ≡ segment_bytes (NewLength n) ++ g.rest)
      same n g =
          let cut = given_where_broken ok body b g in
          (cut.broken.code, ap length cut.stripes, cut.broken.rest)

      went : HeightAt (length b.stripes) b.tail_has.rest → (b.tail_has.code ≡ []) ⊎ (b.tail_has.code ≡ [] → ⊥) → (n : ℕ) × IsHeight h body n
      went at (inr not_nil) = header_height body (λ n g. not_nil (same n g).0)
      went (nowhere never) (inl nil) = header_height body (λ n g. let e = same n g in never n g.rest (rw e.1 g.valid) e.2)
      went (there n more v e) (inl nil) = (
        n,
        inl (record {
          variable = variable;
          stripes = b.stripes;
          segments = b.tail_has.segments;
          rest = more;
          body_is = rw (b.bytes_are, b.tail_has.bytes_are, nil, e);
          each = b.each;
          begun = record { legal = b.tail_has.begun.legal; one_move = b.tail_has.begun.one_move; bytes = tt };
          first = both_none b.stripes b.tail_has.segments b.each b.tail_has.begun.legal b.gives b.tail_has.gives.this;
          within = omega arith;
          behind = λ many. absurd (omega arith);
          valid = v;
        }),
      )

    cut_height : (n : ℕ) × IsHeight h body n
    cut_height = went (cut_of h 0 (stripe_count h.yd h.l0) body all) where
      went : Cut h 0 (stripe_count h.yd h.l0) body → (n : ℕ) × IsHeight h body n
      went (enough ss rest many each gives is) = enough_there ss rest many each gives is
      went (too_few f b) = broken_there f b

  pub some_height_of : (body : List ℕ) → AreBytes body → (n : ℕ) × IsHeight h body n
  some_height_of body all = went (is_variable h) refl where
    went : (t : Bool) → is_variable h ≡ t → (n : ℕ) × IsHeight h body n
    went true v = cut_height body all v
    went false v = header_height body (λ n g. true≢false (sym g.variable ∙ v))
