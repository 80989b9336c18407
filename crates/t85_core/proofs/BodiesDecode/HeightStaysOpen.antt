-- A decoder that waits behind an end marker: it is not known yet whether a height follows.
use Rattle.std.proofs.Common.{cond, ◌≡◌, ◌<◌, ◌≤◌, ◌+◌, ◌*◌, inl, inr, ℕ, Bool, true, false, List, [], ◌∷◌, ◌++◌, length, nat_le, count_by, Option, None, Some, refl, sym, ap, ◌∙◌, subst, append_assoc, append-nil, length-append, arith}
use Rattle.std.specs.Prelude.{flat_map, is_some, IsTrue, ◌||◌}
use Rattle.std.specs.List.{AllByRecursion}
use Rattle.std.proofs.lemmas.Bool.Decides.{nat_tests}
use Rattle.byteorder.specs.Endian.{big_bytes}
use Rattle.t85_core.specs.declared.fault.Fault.TheVariants.{Truncated}
use Rattle.t85_core.specs.declared.segments.atmove.Move as move
use Rattle.t85_core.specs.Stages as stage
use Rattle.t85_core.specs.Header.{Fields, IsAccepted, is_variable}
use Rattle.t85_core.specs.Options.{fields_of}
use Rattle.t85_core.specs.Grammar.{ESC, COMMENT, segment_bytes, stripe_bytes, stripe_count, all_segments, lengths, is_move, is_comment}
use Rattle.t85_core.specs.Refusal.{rest_fault}
use Rattle.t85_core.specs.Lent.{PieceView}
use Rattle.t85_core.specs.Pieces.{AwaitsHeight, HoldsFixedRows, stripes_ended}
use Rattle.t85_core.specs.States.Behind.{BehindStands, behind_at, move_came}
use Rattle.t85_core.specs.Private.Behind.{BreaksBehind, StopsBehind}
use Rattle.t85_core.specs.States.Pieces.{HeadStands, IsInCode, HasMarker, head_place}
use Rattle.t85_core.specs.States.PieceStands.{DecoderStands, WalkWaits, IsAtMarker, place_behind, last_behind, entities_behind, is_last, place_at}
use Rattle.t85_core.specs.Private.PieceSteps.{StaysOpen}
use Rattle.t85_core.specs.States.Segments.{HasPassed, segments_so_far}
use Rattle.t85_core.specs.States.SizedImage.{sized}
use Rattle.t85_core.proofs.BytesJoin.SegmentsGiveHeights.{lengths_append}
use Rattle.t85_core.proofs.StreamsAreWalked.SegmentsAreChecked.{comment_cut}
use Rattle.t85_core.proofs.BodiesDecode.SegmentsComeBehind.{front_is, part_of}
use Rattle.t85_core.proofs.BodiesDecode.NoHeightIsBelow.{next_begins, next_stripes, next_with, stripes_came}
use Rattle.t85_core.proofs.BodiesDecode.LeastHeightIsCertain.{CodeBegins, StripesCame, begins_with, code_begins}
use Rattle.t85_core.proofs.BodiesDecode.MarkerComesInTime.{fixed_rows}
use Rattle.t85_core.proofs.BodiesDecode.DecoderLooksBehind.{comments_behind}
use Rattle.t85_core.proofs.BodiesDecode.WalkGoesOn.{nil_of, next_stripe, last_stripe}
use Rattle.t85_core.proofs.BodiesDecode.PieceStands.{own_height, waits_of, head_segments, in_code_entities, in_code_last}

-- the rest of a stripe's segments is cut off
abbrev IsCut : Fields → ℕ → ℕ → List ℕ → Type 0
IsCut h count moves rest = rest_fault h (record { height = h.yd; entities = count; heights = 0 }) moves false rest ≡ Some Truncated

-- in the segments of a stripe
open_begun : {h : Fields} {count : ℕ} {text : List ℕ} → IsTrue (is_variable h) → (s : CodeBegins h count text) (rest : List ℕ) → IsCut h count (count_by is_move s.segments) rest → {out : List ℕ} →
    (1 ≤ count → HoldsFixedRows h s.stripes out) → AwaitsHeight h (text ++ rest) count out
open_begun {h} {count} {text} variable s rest cut fixed = record {
  unknown = record {
    variable = variable;
    stripes = s.stripes;
    segments = s.segments;
    code = [];
    rest = rest;
    body_is = ap (λ z. z ++ rest) s.text_is ∙ append_assoc (flat_map stripe_bytes s.stripes) (flat_map segment_bytes s.segments) rest;
    each = s.each;
    begun = s.begun;
    none = lengths_append (all_segments s.stripes) s.segments ∙ ap (λ z. z ++ lengths s.segments) s.none_before ∙ s.none_here;
    within = (let few = s.fewer in let m = s.many in omega (arith, few, m));
    behind = λ e. (let few = s.fewer in let m = s.many in absurd (omega (arith, few, m, e)));
    moves = count_by is_move s.segments;
    moves_are = inl ((let few = s.fewer in let m = s.many in omega (arith, few, m)), refl);
    cut = subst (λ n. IsCut h n (count_by is_move s.segments) rest) (sym s.many) cut;
  };
  many = s.many;
  no_code = refl;
  fixed = fixed;
}

-- in comments behind the last stripe
open_last : {h : Fields} {count : ℕ} {text : List ℕ} → IsTrue (is_variable h) → (s : StripesCame h count text) → count ≡ stripe_count h.yd h.l0 →
    {at : Option move.Move} {moved last : Bool} {front : List ℕ} {comments : ℕ}
    (p : HasPassed h (record { height = h.yd; entities = count; given = false }) last (Some front) (Some []) (segments_so_far at moved false comments)) →
    AllByRecursion (λ s. IsTrue (is_comment s)) p.segments → (rest : List ℕ) → IsCut h count 1 rest → {out : List ℕ} → HoldsFixedRows h s.stripes out →
    AwaitsHeight h (text ++ (front ++ rest)) count out
open_last {h} {count} variable s all {front = front} p comments rest cut fixed = record {
  unknown = record {
    variable = variable;
    stripes = s.stripes;
    segments = p.segments;
    code = [];
    rest = rest;
    body_is = ap (λ z. z ++ (front ++ rest)) s.text_is ∙ ap (λ z. flat_map stripe_bytes s.stripes ++ (z ++ rest)) (p.taken ∙ append-nil (flat_map segment_bytes p.segments));
    each = s.each;
    begun = p.begun;
    none = lengths_append (all_segments s.stripes) p.segments ∙ ap (λ z. z ++ lengths p.segments) s.none ∙ nil_of (lengths p.segments) (let e = p.given_is in omega (arith, e));
    within = (let few = s.within in let m = s.many in omega (arith, few, m));
    behind = λ e. (comments, refl);
    moves = 1;
    moves_are = inr (s.many ∙ all, refl);
    cut = subst (λ n. IsCut h n 1 rest) (sym s.many) cut;
  };
  many = s.many;
  no_code = refl;
  fixed = λ _. fixed;
}

-- the rest behind whole segments, and the bytes of all of them
record CutBehind (h : Fields) (count moves : ℕ) (front all : List ℕ) : Type 0 where
  rest : List ℕ
  cut : IsCut h count moves rest
  all_is : all ≡ front ++ rest

cut_behind : {h : Fields} {count : ℕ} {last : Bool} {d : _} {back : List ℕ} (s : BehindStands h (behind_at (record { height = h.yd; entities = count; given = false }) last) d back) (p : List ℕ) →
    StopsBehind h (behind_at (record { height = h.yd; entities = count; given = false }) last) d p Truncated →
    CutBehind h count (cond (move_came last d.at) 1 0) s.front (back ++ p)
cut_behind {h} {count} {last} {d} {back} s p stops = by d.comment refl stops.breaks where
  by : (o : Option ℕ) → d.comment ≡ o → BreaksBehind h (behind_at (record { height = h.yd; entities = count; given = false }) last) d o p Truncated →
      CutBehind h count (cond (move_came last d.at) 1 0) s.front (back ++ p)
  by None between (unread, ends) = record {
    rest = p;
    cut = subst (λ z. IsCut h count (cond (move_came last d.at) 1 0) z) (sym (ends.taken ∙ ap (λ z. ends.given ++ z) (ends.at_end refl) ∙ append-nil ends.given)) (ends.has_fault h.yd);
    all_is = ap (λ z. z ++ p) (front_is s between);
  }
  by (Some left) inside (short, ended) =
      let k = part_of s left inside in
      let long = length-append k.0 p in
      record {
        rest = ESC ∷ COMMENT ∷ (big_bytes 4 (length k.0 + left) ++ (k.0 ++ p));
        cut = comment_cut (length k.0 + left) (k.0 ++ p) k.1 (omega (arith, long, short));
        all_is = ap (λ z. z ++ p) k.2 ∙ append_assoc s.front (ESC ∷ COMMENT ∷ (big_bytes 4 (length k.0 + left) ++ k.0)) p
            ∙ ap (λ z. s.front ++ (ESC ∷ COMMENT ∷ z)) (append_assoc (big_bytes 4 (length k.0 + left)) k.0 p);
      }

module _ (d : PieceView) (p : List ℕ) (late : d.is_open ≡ true) (waits : d.waits ≡ true)
    (stops : StopsBehind (fields_of d.header) (behind_at (place_behind (fields_of d.header) d.walk.stage d.walk.entities)
    (last_behind (fields_of d.header) d.walk.stage d.walk.left)) d.behind p Truncated) where
  abbrev H : Fields
  H = fields_of d.header

  ok : IsAccepted H
  ok = (own_height d.header).accepted

  module _ (text out : List ℕ) (s : DecoderStands d text out) where
    w : WalkWaits H d.walk d.behind text out
    w = waits_of d text out late waits s

    all_text : (front rest : List ℕ) → w.back ++ p ≡ front ++ rest → text ++ p ≡ w.done ++ (front ++ rest)
    all_text front rest e = ap (λ z. z ++ p) w.text_is ∙ append_assoc w.done w.back p ∙ ap (λ z. w.done ++ z) e

    -- before the first stripe
    in_head : (d.walk.stage ≡ stage.Head) × (d.walk.at ≡ None) × (d.walk.entities ≡ 0) → AwaitsHeight H (text ++ p) (stripes_ended d) out
    in_head (is, none, first) =
        subst (λ z. AwaitsHeight H z (stripes_ended d) out) (append_assoc w.done here.front k.rest ∙ sym (all_text here.front k.rest k.all_is))
        (subst (λ n. AwaitsHeight H ((w.done ++ here.front) ++ k.rest) n out) (sym (ap (λ z. entities_behind z d.walk.entities) is))
        (open_begun (s.height.variable late) (code_begins head) k.rest (subst (λ n. IsCut H d.walk.entities n k.rest) (head.passed.found ∙ ap (count_by is_move) (sym (begins_with head))) k.cut)
        (λ some. absurd (omega (arith, some, first)))))
      where
        here : BehindStands H (behind_at (record { height = d.header.yd; entities = d.walk.entities; given = false }) false) d.behind w.back
        here = subst (λ k. BehindStands H (behind_at (record { height = d.header.yd; entities = entities_behind k d.walk.entities; given = false })
            (is_last k (nat_le d.walk.left d.header.l0))) d.behind w.back) is w.behind

        k : CutBehind H d.walk.entities (cond (is_some d.behind.at) 1 0) here.front (w.back ++ p)
        k = cut_behind here p (subst (λ k. StopsBehind H (behind_at (record { height = d.header.yd; entities = entities_behind k d.walk.entities; given = false })
            (is_last k (nat_le d.walk.left d.header.l0))) d.behind p Truncated) is stops)

        head : HeadStands (sized H d.header.yd) (head_place d.walk.entities false d.behind.at d.walk.carried) (w.done ++ here.front) out
        head = head_segments H d.walk d.behind (record { height = d.header.yd; entities = d.walk.entities; given = false }) w.done w.back out w.walk is none w.ungiven refl here

    -- behind the end marker of a stripe
    at_marker : IsInCode d.walk.stage → HasMarker d.walk → AwaitsHeight H (text ++ p) (stripes_ended d) out
    at_marker inside marked =
        subst (λ n. AwaitsHeight H (text ++ p) n out) (sym (in_code_entities d.walk.stage d.walk.entities inside))
        (subst (λ z. AwaitsHeight H z (d.walk.entities + 1) out) (sym (all_text here.front k.rest k.all_is)) (by (nat_le d.walk.left d.header.l0) refl))
      where
        came : StripesCame H (d.walk.entities + 1) w.done
        came = stripes_came H ok d.walk w.done out inside marked w.ungiven w.walk

        fixed : HoldsFixedRows H came.stripes out
        fixed = fixed_rows (own_height d.header) came.text_is (w.in_time inside)

        last : Bool
        last = last_behind H d.walk.stage d.walk.left

        here : BehindStands H (behind_at (record { height = d.header.yd; entities = d.walk.entities + 1; given = false }) (last_behind H d.walk.stage d.walk.left)) d.behind w.back
        here = subst (λ p. BehindStands H (behind_at p (last_behind H d.walk.stage d.walk.left)) d.behind w.back)
            (ap (place_at d.header.yd) (in_code_entities d.walk.stage d.walk.entities inside)) w.behind

        k : CutBehind H (d.walk.entities + 1) (cond (move_came (last_behind H d.walk.stage d.walk.left) d.behind.at) 1 0) here.front (w.back ++ p)
        k = cut_behind here p (subst (λ z. StopsBehind H (behind_at z (last_behind H d.walk.stage d.walk.left)) d.behind p Truncated)
            (ap (place_at d.header.yd) (in_code_entities d.walk.stage d.walk.entities inside)) stops)

        times : (d.walk.entities + 1) * d.header.l0 ≡ d.walk.entities * d.header.l0 + d.header.l0
        times = omega arith

        by : (b : Bool) → nat_le d.walk.left d.header.l0 ≡ b → AwaitsHeight H (w.done ++ (here.front ++ k.rest)) (d.walk.entities + 1) out
        by false e =
            subst (λ z. AwaitsHeight H z (d.walk.entities + 1) out) (append_assoc w.done here.front k.rest)
            (open_begun (s.height.variable late) (next_begins ok came here.passed fewer) k.rest
            (subst (λ n. IsCut H (d.walk.entities + 1) n k.rest) (counted ∙ found ∙ ap (count_by is_move) (sym (next_with ok came here.passed fewer))) k.cut)
            (λ _. subst (λ z. HoldsFixedRows H z out) (sym (next_stripes ok came here.passed fewer)) fixed))
          where
            fewer : d.walk.entities + 1 < stripe_count d.header.yd d.header.l0
            fewer = next_stripe d.header.yd d.header.l0 d.walk.entities ok.stripe_from (
                let over : d.header.l0 < d.walk.left = grind (arith, nat_tests) in
                let left = w.walk.left_is in
                omega (arith, over, left, times))

            counted : cond {A = ℕ} (move_came (last_behind H d.walk.stage d.walk.left) d.behind.at) 1 0 ≡ cond {A = ℕ} (is_some d.behind.at) 1 0
            counted = ap (λ b. cond {A = ℕ} (b || is_some d.behind.at) 1 0) (in_code_last d.walk.stage (nat_le d.walk.left d.header.l0) inside ∙ e)

            found : cond {A = ℕ} (is_some d.behind.at) 1 0 ≡ count_by is_move here.passed.segments
            found = here.passed.found
        by true e =
            open_last (s.height.variable late) came all here.passed (comments_behind H d.walk ok.stripe_from inside w.walk.left_is here.passed all) k.rest
            (subst (λ n. IsCut H (d.walk.entities + 1) n k.rest) (ap (λ b. cond {A = ℕ} (b || is_some d.behind.at) 1 0) (in_code_last d.walk.stage (nat_le d.walk.left d.header.l0) inside ∙ e)) k.cut)
            fixed
          where
            all : d.walk.entities + 1 ≡ stripe_count d.header.yd d.header.l0
            all = last_stripe d.header.yd d.header.l0 d.walk.entities d.header.some_rows (let few = came.within in omega (arith, few)) (
                let le : d.walk.left ≤ d.header.l0 = grind (arith, nat_tests) in
                let left = w.walk.left_is in
                omega (arith, le, left, times))

  pub still_open : StaysOpen d d p
  still_open text out s = by (w text out s).at where
    by : IsAtMarker d.walk → AwaitsHeight H (text ++ p) (stripes_ended d) out
    by (inl head) = in_head text out s head
    by (inr k) = at_marker text out s k.0 k.1
