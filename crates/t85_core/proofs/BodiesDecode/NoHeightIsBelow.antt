-- Rows that waited at an end marker: no height that may come is below them.
use Rattle.std.proofs.Common.{cond, ◌≡◌, ◌≢◌, ◌<◌, ◌≤◌, ◌+◌, ◌-◌, ◌*◌, ◌⊎◌, inl, inr, ℕ, Bool, true, false, List, [], ◌∷◌, ◌++◌, length, nat_le, count_by, Option, None, Some, refl, sym, ap, ◌∙◌, subst, append_assoc, append-nil, length-append, arith}
use Rattle.std.specs.Prelude.{flat_map, is_some}
use Rattle.std.proofs.lemmas.Bool.{cases_lt}
use Rattle.std.proofs.lemmas.Bool.Decides.{nat_tests}
use Rattle.byteorder.specs.Endian.{big_bytes}
use Rattle.t85_core.specs.declared.fault.Fault.{Fault}
use Rattle.t85_core.specs.declared.fault.Fault.TheVariants.{Truncated, Changed}
use Rattle.t85_core.specs.Lent.{PieceView, WalkView}
use Rattle.t85_core.specs.declared.pieces.Outcome.TheVariants as outcome
use Rattle.t85_core.specs.declared.segments.Code as code_type
use Rattle.t85_core.specs.declared.segments.Code.TheVariants as code
use Rattle.t85_core.specs.declared.segments.atmove.Move as move
use Rattle.t85_core.specs.declared.segments.Place.{Place}
use Rattle.t85_core.specs.Header.{Fields, IsAccepted}
use Rattle.t85_core.specs.Options.{fields_of}
use Rattle.t85_core.specs.Grammar.{NewLength, ESC, COMMENT, segment_bytes, stripe_bytes, stripe_count, all_segments, lengths, is_move, is_valid_length}
use Rattle.t85_core.specs.Refusal.{StripeFault, rest_fault}
use Rattle.t85_core.specs.Height.{GivesHeight, IsHeight}
use Rattle.t85_core.specs.Pieces.{MayFollow, row_held, rows_given}
use Rattle.t85_core.specs.States.Segments.{HasPassed, IsByteOrMarker, code_bytes, segments_so_far}
use Rattle.t85_core.specs.Private.Segments.{PieceFault}
use Rattle.t85_core.specs.Private.HeightWalk.{LookEnds}
use Rattle.t85_core.specs.States.Behind.{BehindStands, behind_at}
use Rattle.t85_core.specs.Private.Behind.{BreaksBehind, StopsBehind}
use Rattle.t85_core.specs.States.Pieces.{WalkStands, IsInCode, HasMarker, CodeStands, InRowStands, head_place, code_place}
use Rattle.t85_core.specs.States.SizedImage.{sized}
use Rattle.t85_core.specs.States.PieceStands.{DecoderStands, WalkWaits, place_behind, last_behind}
use Rattle.t85_core.specs.Private.PieceSteps.{DecoderOn, StepLeaves, GivesBelow, HeightComes, LookIsOver}
use Rattle.t85_core.proofs.BytesJoin.BytesAreKnown.{stable_rest}
use Rattle.t85_core.proofs.BytesJoin.SegmentsGiveHeights.{gives_none}
use Rattle.t85_core.proofs.StreamsAreWalked.SegmentsAreChecked.{comment_cut}
use Rattle.t85_core.proofs.BodiesParse.BodyHasOneReading.{spot_of, one_stripe_fault}
use Rattle.t85_core.proofs.BodiesParse.BodyHasOneHeight.{never_suits, given_breaks, none_left, one_height_of}
use Rattle.t85_core.proofs.BodiesParse.HeightExists.{height_of_ended}
use Rattle.t85_core.proofs.BodiesDecode.SegmentsComeBehind.{front_is, part_of}
use Rattle.t85_core.proofs.BodiesDecode.LeastHeightIsCertain.{StripesCame, CodeBegins, EntityBegun, IsWholeCode, code_begins, entity_closed, whole_stripe, came_before, same_tail, came_gives, after_more, least_below, tail_of}
use Rattle.t85_core.proofs.BodiesDecode.PiecesGiveResults.{piece_other}
use Rattle.t85_core.proofs.BodiesDecode.DecoderLooksBehind.{comments_behind}
use Rattle.t85_core.proofs.BodiesDecode.WalkGoesOn.{nil_of, at_stage, some_row, next_stripe, last_stripe}
use Rattle.t85_core.proofs.BodiesDecode.PieceStands.{own_height, waits_of, marker_of, in_code_entities, in_code_last, no_bytes, leaves_row}

-- ---- after whole stripes

module _ {h : Fields} {count : ℕ} {text : List ℕ} (ok : IsAccepted h) (s : StripesCame h count text) {at : Option move.Move} {moved last : Bool} {front : List ℕ} {comments : ℕ}
    (p : HasPassed h (record { height = h.yd; entities = count; given = false }) last (Some front) (Some []) (segments_so_far at moved false comments)) where
  none_passed : lengths p.segments ≡ []
  none_passed = nil_of (lengths p.segments) (let e = p.given_is in omega (arith, e))

  -- the next one begins with these segments
  pub next_begins : count < stripe_count h.yd h.l0 → CodeBegins h count (text ++ front)
  next_begins fewer = record {
    stripes = s.stripes;
    segments = p.segments;
    text_is = ap (λ z. z ++ front) s.text_is ∙ ap (λ z. flat_map stripe_bytes s.stripes ++ z) (p.taken ∙ append-nil (flat_map segment_bytes p.segments));
    many = s.many;
    each = s.each;
    begun = p.begun;
    none_before = s.none;
    none_here = none_passed;
    fewer = fewer;
  }

  pub next_with : (fewer : count < stripe_count h.yd h.l0) → (next_begins fewer).segments ≡ p.segments
  unfolding next_begins
  next_with fewer = refl

  pub next_stripes : (fewer : count < stripe_count h.yd h.l0) → (next_begins fewer).stripes ≡ s.stripes
  unfolding next_begins
  next_stripes fewer = refl

  -- its code comes
  code_above : count < stripe_count h.yd h.l0 → (c : code_type.Code) → IsByteOrMarker c → (rest : List ℕ) (n : ℕ) → IsHeight h ((text ++ front) ++ (code_bytes c ++ rest)) n → count * h.l0 < n
  code_above fewer c is rest n i = let k = least_below ok (next_begins fewer) (code_bytes c) (begun c is) rest n
      (subst (λ z. IsHeight h z n) (sym (append_assoc (text ++ front) (code_bytes c) rest)) i) in omega (arith, k) where
        begun : (c : code_type.Code) → IsByteOrMarker c → EntityBegun (code_bytes c)
        begun (code.Byte b) is = inl (b, [], (is, tt), refl)
        begun (code.Marker reset) is = inr ([], reset, tt, refl)

  -- a fault comes
  fault_above : (rest : List ℕ) (f : Fault) → f ≢ Changed → rest_fault h (spot_of 0 count 0) (count_by is_move p.segments) false rest ≡ Some f → (n : ℕ) → GivesHeight h (text ++ (front ++ rest)) n →
      count * h.l0 < n
  fault_above rest f other has n g = went (cases_lt count (length g.stripes)) where
    le : count ≤ length g.stripes
    le = came_before ok s (front ++ rest) n g

    never : count ≡ length g.stripes → ⊥
    never same =
        let none : length (lengths (all_segments g.stripes)) ≡ 0 = ap length (none_left (all_segments g.stripes) g.segments g.first) in
        let breaks = given_breaks ok (text ++ (front ++ rest)) n g in
        let at_front : StripeFault h (spot_of 0 count 0) (tail_of n g) Changed =
        subst (λ k. StripeFault h (spot_of 0 k 0) (tail_of n g) Changed) (sym same) (subst (λ m. StripeFault h (spot_of 0 (length g.stripes) m) (tail_of n g) Changed) none breaks) in
        other (one_stripe_fault ok 0 count 0 (never_suits h count count (omega arith)) (record {
          segments = p.segments;
          code = [];
          rest = rest;
          bytes_are = ap (λ z. z ++ rest) (p.taken ∙ append-nil (flat_map segment_bytes p.segments));
          begun = p.begun;
          gives = gives_none 0 0 p.segments (omega arith) none_passed;
          rest_has = subst (λ m. rest_fault h (spot_of 0 count m) (count_by is_move p.segments) false rest ≡ Some f)
              (let e : length (lengths p.segments) ≡ 0 = ap length none_passed in let z : 0 ≡ 0 + length (lengths p.segments) = omega (arith, e) in z) has;
        }) at_front (same_tail ok s (front ++ rest) n g same)).fault

    went : (count < length g.stripes) ⊎ (length g.stripes ≤ count) → count * h.l0 < n
    went (inl more) = after_more h n count (length g.stripes) g.valid more
    went (inr few) = absurd (never (omega (arith, le, few)))

-- ---- the stripes up to an end marker

pub stripes_came : (h : Fields) → IsAccepted h → (w : WalkView) (text out : List ℕ) → IsInCode w.stage → HasMarker w → w.given ≡ false → WalkStands (sized h h.yd) w text out →
    StripesCame h (w.entities + 1) text
stripes_came h ok w text out in_code marked ungiven walk = by in_code where
  whole : (before code : List ℕ) → CodeBegins h w.entities before → IsWholeCode code → text ≡ before ++ code → StripesCame h (w.entities + 1) text
  whole before code begins (bytes, reset, small, is) text_is = subst (StripesCame h (w.entities + 1)) (ap (λ z. before ++ z) (sym is) ∙ sym text_is) (whole_stripe ok begins bytes reset small)

  by : IsInCode w.stage → StripesCame h (w.entities + 1) text
  by (inl e) =
      let k : CodeStands (sized h h.yd) (head_place w.entities false w.at w.carried) (code_place w.row w.first w.marker w.decoder) text out =
      subst (λ g. CodeStands (sized h h.yd) (head_place w.entities g w.at w.carried) (code_place w.row w.first w.marker w.decoder) text out) ungiven (at_stage e walk) in
      whole k.before k.code (code_begins k.head) (entity_closed w.first w.marker k.read.answers k.extra k.code k.code_is marked) k.text_is
  by (inr e) =
      let k : InRowStands (sized h h.yd) (head_place w.entities false w.at w.carried) (code_place w.row w.first w.marker w.decoder) w.place text out =
      subst (λ g. InRowStands (sized h h.yd) (head_place w.entities g w.at w.carried) (code_place w.row w.first w.marker w.decoder) w.place text out) ungiven (at_stage e walk) in
      whole k.before k.code (code_begins k.head) (entity_closed w.first w.marker (k.begun.read.answers ++ k.begun.since) [] k.code k.code_is marked) k.text_is

-- ---- a decoder that gave a row which waited

module _ (d d' : PieceView) (late : d.is_open ≡ true) (waits : d.waits ≡ true) (limit : ℕ) (gave : GivesBelow d d' limit) where
  abbrev H : Fields
  H = fields_of d.header

  ok : IsAccepted H
  ok = (own_height d.header).accepted

  -- its rows
  rows_to : rows_given d' ≤ d.walk.entities * d.header.l0 + limit
  rows_to =
      let e : d'.walk.entities * d'.header.l0 ≡ d.walk.entities * d.header.l0 = ap (λ (n : ℕ). n * d'.header.l0) gave.entities ∙ ap (λ k. d.walk.entities * k.l0) gave.keeps.header in
      let le = gave.below in
      omega (arith, e, le)

  module _ (text out : List ℕ) (s : DecoderStands d text out) where
    w : WalkWaits H d.walk d.behind text out
    w = waits_of d text out late waits s

    came : StripesCame H (d.walk.entities + 1) w.done
    came = stripes_came H ok d.walk w.done out gave.code (marker_of d.walk w.at gave.code) w.ungiven w.walk

    place_is : place_behind H d.walk.stage d.walk.entities ≡ record { height = d.header.yd; entities = d.walk.entities + 1; given = false }
    place_is = ap place_of (in_code_entities d.walk.stage d.walk.entities gave.code) where
      place_of : ℕ → Place
      place_of n = record { height = d.header.yd; entities = n; given = false }

    there : BehindStands H (behind_at (record { height = d.header.yd; entities = d.walk.entities + 1; given = false }) (last_behind H d.walk.stage d.walk.left)) d.behind w.back
    there = subst (λ p. BehindStands H (behind_at p (last_behind H d.walk.stage d.walk.left)) d.behind w.back) place_is w.behind

    all_text : (p more : List ℕ) → (text ++ p) ++ more ≡ w.done ++ (w.back ++ (p ++ more))
    all_text p more = append_assoc text p more ∙ ap (λ z. z ++ (p ++ more)) w.text_is ∙ append_assoc w.done w.back (p ++ more)

    -- the stripe before is not the last
    fewer : last_behind H d.walk.stage d.walk.left ≡ false → d.walk.entities + 1 < stripe_count d.header.yd d.header.l0
    fewer more = next_stripe d.header.yd d.header.l0 d.walk.entities ok.stripe_from (
        let t = sym (in_code_last d.walk.stage (nat_le d.walk.left d.header.l0) gave.code) ∙ more in
        let over : d.header.l0 < d.walk.left = grind (arith, nat_tests) in
        let left = w.walk.left_is in
        let times : (d.walk.entities + 1) * d.header.l0 ≡ d.walk.entities * d.header.l0 + d.header.l0 = omega arith in
        omega (arith, over, left, times))

    -- a height comes
    height_in_time : (n : ℕ) (p rest : List ℕ) → d.behind.comment ≡ None → HeightComes H d.walk n p rest → limit ≤ d.walk.left - (d.header.yd - n) → (more : List ℕ) (m : ℕ) →
        IsHeight H ((text ++ p) ++ more) m → rows_given d' ≤ m
    height_in_time n p rest between comes within more m i =
        let same = one_height_of ((text ++ p) ++ more) m n ok i (inl (subst (λ z. GivesHeight H z n) (sym body)
        (came_gives ok came (s.height.variable late) there.passed (comments_behind H d.walk ok.stripe_from gave.code w.walk.left_is there.passed) n valid (rest ++ more)))) in
        let to = rows_to in
        let left = w.walk.left_is in
        omega (arith, same, to, left, within, over, comes.legal.2)
      where
        valid : is_valid_length H (d.walk.entities + 1) n ≡ true
        valid = subst (λ z. is_valid_length H z n ≡ true) (in_code_entities d.walk.stage d.walk.entities gave.code) comes.valid

        over : d.walk.entities * d.header.l0 < n
        over = after_more H n d.walk.entities (d.walk.entities + 1) valid (omega arith)

        body : (text ++ p) ++ more ≡ w.done ++ (there.front ++ (segment_bytes (NewLength n) ++ (rest ++ more)))
        body = all_text p more ∙ ap (λ z. w.done ++ (z ++ (p ++ more))) (front_is there between)
            ∙ ap (λ z. w.done ++ (there.front ++ z)) (ap (λ z. z ++ more) comes.piece_is ∙ append_assoc (segment_bytes (NewLength n)) rest more)

    -- the code of the next stripe comes
    code_in_time : (c : code_type.Code) (p rest : List ℕ) → d.behind.comment ≡ None → last_behind H d.walk.stage d.walk.left ≡ false → IsByteOrMarker c → p ≡ code_bytes c ++ rest →
        limit ≤ d.header.l0 → (more : List ℕ) (m : ℕ) → IsHeight H ((text ++ p) ++ more) m → rows_given d' ≤ m
    code_in_time c p rest between not_last is p_is within more m i =
        let above = code_above ok came there.passed (fewer not_last) c is (rest ++ more) m (subst (λ z. IsHeight H z m) body i) in
        let to = rows_to in
        let times : (d.walk.entities + 1) * d.header.l0 ≡ d.walk.entities * d.header.l0 + d.header.l0 = omega arith in
        omega (arith, above, to, times, within)
      where
        body : (text ++ p) ++ more ≡ (w.done ++ there.front) ++ (code_bytes c ++ (rest ++ more))
        body = all_text p more ∙ ap (λ z. w.done ++ (z ++ (p ++ more))) (front_is there between) ∙ sym (append_assoc w.done there.front (p ++ more))
            ∙ ap (λ z. (w.done ++ there.front) ++ z) (ap (λ z. z ++ more) p_is ∙ append_assoc (code_bytes c) rest more)

    -- the header's height is not below them
    own_in_time : limit ≤ d.walk.left → (m : ℕ) → m ≡ d.header.yd → rows_given d' ≤ m
    own_in_time within m is = let to = rows_to in let left = w.walk.left_is in omega (arith, to, left, within, is, some) where
      few : d.walk.entities + 1 ≤ stripe_count d.header.yd d.header.l0
      few = came.within

      some : d.walk.entities * d.header.l0 ≤ d.header.yd
      some = let k = some_row d.header.yd d.header.l0 d.walk.entities ok.stripe_from (omega (arith, few)) in omega (arith, k)

    -- a fault comes, or the end
    fault_in_time : (f : Fault) (p : List ℕ) → last_behind H d.walk.stage d.walk.left ≡ false → StopsBehind H (behind_at (place_behind H d.walk.stage d.walk.entities) false) d.behind p f →
        limit ≤ d.walk.left → limit ≤ d.header.l0 → (more : List ℕ) → (f ≡ Truncated → more ≡ []) → (m : ℕ) → IsHeight H ((text ++ p) ++ more) m → rows_given d' ≤ m
    fault_in_time f p not_last stops below within more nothing m (inr own) = own_in_time below m own.0
    fault_in_time f p not_last stops below within more nothing m (inl g) =
        let above = by d.behind.comment refl stops.breaks in
        let to = rows_to in
        let times : (d.walk.entities + 1) * d.header.l0 ≡ d.walk.entities * d.header.l0 + d.header.l0 = omega arith in
        omega (arith, above, to, times, within)
      where
        here : BehindStands H (behind_at (record { height = d.header.yd; entities = d.walk.entities + 1; given = false }) false) d.behind w.back
        here = subst (λ l. BehindStands H (behind_at (record { height = d.header.yd; entities = d.walk.entities + 1; given = false }) l) d.behind w.back) not_last there

        moves : cond {A = ℕ} (is_some d.behind.at) 1 0 ≡ count_by is_move here.passed.segments
        moves = here.passed.found

        by : (o : Option ℕ) → d.behind.comment ≡ o → BreaksBehind H (behind_at (place_behind H d.walk.stage d.walk.entities) false) d.behind o p f → (d.walk.entities + 1) * d.header.l0 < m
        by None between (unread, ends) =
            fault_above ok came here.passed (p ++ more) f other (subst (λ k. rest_fault H (spot_of 0 (d.walk.entities + 1) 0) k false (p ++ more) ≡ Some f) moves
            (subst (λ z. rest_fault H (spot_of 0 (d.walk.entities + 1) 0) (cond (is_some d.behind.at) 1 0) false z ≡ Some f) (sym all)
            (longer (stable_rest H (spot_of 0 (d.walk.entities + 1) 0) (cond (is_some d.behind.at) 1 0) false ends.given (unread ++ more) f told)))) m
            (subst (λ z. GivesHeight H z m) (all_text p more ∙ ap (λ z. w.done ++ (z ++ (p ++ more))) (front_is here between)) g)
          where
            broken : PieceFault H (record { height = d.header.yd; entities = d.walk.entities + 1; given = false }) (is_some d.behind.at) ends.given f
            broken = subst (λ z. PieceFault H z (is_some d.behind.at) ends.given f) place_is
                (subst (PieceFault H (place_behind H d.walk.stage d.walk.entities) (is_some d.behind.at) ends.given) stops.counted ends.has_fault)

            other : f ≢ Changed
            other = piece_other H (record { height = d.header.yd; entities = d.walk.entities + 1; given = false }) (is_some d.behind.at) refl ends.given f broken

            told : rest_fault H (spot_of 0 (d.walk.entities + 1) 0) (cond (is_some d.behind.at) 1 0) false ends.given ≡ Some f
            told = broken 0

            all : p ++ more ≡ ends.given ++ (unread ++ more)
            all = ap (λ z. z ++ more) ends.taken ∙ append_assoc ends.given unread more

            longer : (f ≡ Truncated) ⊎ (rest_fault H (spot_of 0 (d.walk.entities + 1) 0) (cond (is_some d.behind.at) 1 0) false (ends.given ++ (unread ++ more)) ≡ Some f) →
                rest_fault H (spot_of 0 (d.walk.entities + 1) 0) (cond (is_some d.behind.at) 1 0) false (ends.given ++ (unread ++ more)) ≡ Some f
            longer (inr has) = has
            longer (inl ended) = subst (λ z. rest_fault H (spot_of 0 (d.walk.entities + 1) 0) (cond (is_some d.behind.at) 1 0) false z ≡ Some f)
                (sym (ap (λ z. ends.given ++ (z ++ more)) (ends.at_end ended) ∙ ap (λ z. ends.given ++ z) (nothing ended) ∙ append-nil ends.given)) told
        by (Some left) inside (short, ended) =
            let k = part_of here left inside in
            let long = length-append k.0 p in
            let cut = comment_cut (length k.0 + left) (k.0 ++ p) k.1 (omega (arith, long, short)) in
            fault_above ok came here.passed (ESC ∷ COMMENT ∷ (big_bytes 4 (length k.0 + left) ++ (k.0 ++ p))) Truncated (λ e. let z : Truncated ≡ Changed = e in cc) cut m
            (subst (λ z. GivesHeight H z m) (body k.0 k.2) g)
          where
            body : (part : List ℕ) → w.back ≡ here.front ++ (ESC ∷ COMMENT ∷ (big_bytes 4 (length part + left) ++ part)) → (text ++ p) ++ more ≡ w.done
                ++ (here.front ++ (ESC ∷ COMMENT ∷ (big_bytes 4 (length part + left) ++ (part ++ p))))
            body part is =
                all_text p more ∙ ap (λ z. w.done ++ z) (ap (λ z. w.back ++ z) (ap (λ z. p ++ z) (nothing ended) ∙ append-nil p) ∙ ap (λ z. z ++ p) is
                ∙ append_assoc here.front (ESC ∷ COMMENT ∷ (big_bytes 4 (length part + left) ++ part)) p
                ∙ ap (λ z. here.front ++ (ESC ∷ COMMENT ∷ z)) (append_assoc (big_bytes 4 (length part + left)) part p))

    -- the look is over
    look_in_time : (p : List ℕ) (is_all : Bool) → last_behind H d.walk.stage d.walk.left ≡ true → LookIsOver is_all d p → limit ≤ d.walk.left → (more : List ℕ) → MayFollow is_all more → (m : ℕ) →
        IsHeight H ((text ++ p) ++ more) m → rows_given d' ≤ m
    look_in_time p is_all last over below more follows m i = own_in_time below m
        (one_height_of ((text ++ p) ++ more) m d.header.yd ok i (subst (λ z. IsHeight H z d.header.yd) (sym body) height)) where
          body : (text ++ p) ++ more ≡ w.done ++ ((w.back ++ p) ++ more)
          body = all_text p more ∙ ap (λ z. w.done ++ z) (sym (append_assoc w.back p more))

          all : d.header.yd ≤ (d.walk.entities + 1) * d.header.l0
          all =
              let t = sym (in_code_last d.walk.stage (nat_le d.walk.left d.header.l0) gave.code) ∙ last in
              let le : d.walk.left ≤ d.header.l0 = grind (arith, nat_tests) in
              let left = w.walk.left_is in
              let times : (d.walk.entities + 1) * d.header.l0 ≡ d.walk.entities * d.header.l0 + d.header.l0 = omega arith in
              omega (arith, le, left, times)

          many : d.walk.entities + 1 ≡ stripe_count d.header.yd d.header.l0
          many = last_stripe d.header.yd d.header.l0 d.walk.entities d.header.some_rows (let few = came.within in omega (arith, few)) all

          look : LookEnds H (place_behind H d.walk.stage d.walk.entities).entities ((w.back ++ p) ++ more)
          look = over w.back more (subst (λ l. BehindStands H (behind_at (place_behind H d.walk.stage d.walk.entities) l) d.behind w.back) last w.behind) follows

          same : length came.stripes ≡ (place_behind H d.walk.stage d.walk.entities).entities
          same = came.many ∙ sym (in_code_entities d.walk.stage d.walk.entities gave.code)

          height : IsHeight H (w.done ++ ((w.back ++ p) ++ more)) d.header.yd
          height = height_of_ended ok came.stripes (came.many ∙ many) came.each (gives_none 0 0 (all_segments came.stripes) (omega arith) came.none)
              (ap (λ z. z ++ ((w.back ++ p) ++ more)) came.text_is) (subst (λ k. LookEnds H k ((w.back ++ p) ++ more)) (sym same) look)

  -- ---- what its step leaves

  on_any : (p : List ℕ) → DecoderOn d d' p p (row_held d')
  on_any p text out s = let k = gave.on text out s in ([], refl, subst (λ z. DecoderStands d' (text ++ z) (out ++ row_held d')) (no_bytes k.0 [] k.1) k.2)

  leaves : (is_all : Bool) (p : List ℕ) → ((text out : List ℕ) → DecoderStands d text out → (more : List ℕ) → MayFollow is_all more → (m : ℕ) → IsHeight H ((text ++ p) ++ more) m →
      rows_given d' ≤ m) → StepLeaves is_all d d' p p (Some outcome.Row)
  leaves is_all p in_time = leaves_row is_all d d' p p gave.keeps.header gave.keeps.going (on_any p) (λ _ _ text out rest n s follows i. in_time text out s rest follows n i)

  pub leaves_height : (n : ℕ) (p rest : List ℕ) → d.behind.comment ≡ None → HeightComes H d.walk n p rest → limit ≤ d.walk.left - (d.header.yd - n) → (is_all : Bool) →
      StepLeaves is_all d d' p p (Some outcome.Row)
  leaves_height n p rest between comes within is_all = leaves is_all p (λ text out s more _ m i. height_in_time text out s n p rest between comes within more m i)

  pub leaves_code : (c : code_type.Code) (p rest : List ℕ) → d.behind.comment ≡ None → last_behind H d.walk.stage d.walk.left ≡ false → IsByteOrMarker c → p ≡ code_bytes c ++ rest →
      limit ≤ d.header.l0 → (is_all : Bool) → StepLeaves is_all d d' p p (Some outcome.Row)
  leaves_code c p rest between more is p_is within is_all = leaves is_all p (λ text out s after _ m i. code_in_time text out s c p rest between more is p_is within after m i)

  pub leaves_fault : (f : Fault) (p : List ℕ) → last_behind H d.walk.stage d.walk.left ≡ false → StopsBehind H (behind_at (place_behind H d.walk.stage d.walk.entities) false) d.behind p f →
      limit ≤ d.walk.left → limit ≤ d.header.l0 → (is_all : Bool) → (f ≡ Truncated → is_all ≡ true) → StepLeaves is_all d d' p p (Some outcome.Row)
  leaves_fault f p more stops below within is_all ends = leaves is_all p (λ text out s after follows m i. fault_in_time text out s f p more stops below within after (λ e. follows (ends e)) m i)

  pub leaves_look : (p : List ℕ) (is_all : Bool) → last_behind H d.walk.stage d.walk.left ≡ true → LookIsOver is_all d p → limit ≤ d.walk.left → StepLeaves is_all d d' p p (Some outcome.Row)
  leaves_look p is_all last over below = leaves is_all p (λ text out s after follows m i. look_in_time text out s p is_all last over below after follows m i)
