-- The least height that a body may have that begins with these bytes.
use Rattle.std.proofs.Common.{◌≡◌, ◌<◌, ◌≤◌, ◌+◌, ◌-◌, ◌*◌, ◌^◌, ◌⊎◌, inl, inr, ℕ, Bool, true, false, List, [], ◌∷◌, ◌++◌, length, replicate, min, nat_le, Option, None, Some, refl, sym, ap, ◌∙◌, subst, append_assoc, append-nil, length-append, arith, true≢false}
use Rattle.std.specs.Prelude.{flat_map, IsTrue}
use Rattle.std.specs.List.{AllByRecursion}
use Rattle.std.proofs.lemmas.Bool.{cases_lt}
use Rattle.std.proofs.lemmas.List.{length-replicate}
use Rattle.std.proofs.Math.Nat.{mul-le-mul_right}
use Rattle.qm_core.specs.Code.{stuffed}
use Rattle.qm_core.specs.Source.{bytes_of}
use Rattle.qm_core.specs.declared.source.Pulled.{Pulled}
use Rattle.t85_core.specs.Lent.{PieceView, WalkView, Carried}
use Rattle.t85_core.specs.declared.pieces.head.Head.{Head}
use Rattle.t85_core.specs.Stages as stage
use Rattle.t85_core.specs.declared.segments.Code as code_type
use Rattle.t85_core.specs.declared.segments.Code.TheVariants as code
use Rattle.t85_core.specs.declared.segments.atmove.Move as move
use Rattle.t85_core.specs.declared.segments.Place.{Place}
use Rattle.t85_core.specs.Header.{Fields, IsAccepted, is_variable}
use Rattle.t85_core.specs.Options.{fields_of}
use Rattle.t85_core.specs.Grammar.{Segment, NewLength, Stripe, segment_bytes, stripe_bytes, marker_bytes, stripe_count, all_segments, lengths, is_comment, is_valid_length, IsBegun, AreStripes}
use Rattle.t85_core.specs.Height.{GivesHeight, IsHeight}
use Rattle.t85_core.specs.Pieces.{IsLeastHeight}
use Rattle.t85_core.specs.States.State.{image_start}
use Rattle.t85_core.specs.States.Segments.{HasPassed, segments_so_far}
use Rattle.t85_core.specs.States.PieceCode.{CodeText}
use Rattle.t85_core.specs.States.Pieces.{HeadStands, IsInCode, HasMarker, CodeStands, InRowStands, head_place, code_place}
use Rattle.t85_core.specs.States.SizedImage.{sized}
use Rattle.t85_core.specs.States.PieceStands.{DecoderStands, HeightKnown, CodeWalks, WalkWaits, IsAtMarker, entities_behind, is_last, place_behind, last_behind, place_at}
use Rattle.t85_core.specs.States.Behind.{BehindStands, behind_at}
use Rattle.t85_core.proofs.BytesJoin.SegmentsGiveHeights.{lengths_append, gives_none, valid_in_use, valid_over}
use Rattle.t85_core.proofs.BytesJoin.ListsGrow.{All-append, flat_map_push}
use Rattle.t85_core.proofs.BytesJoin.CodesAreStuffed.{stuffed_append}
use Rattle.t85_core.proofs.StreamsAreWalked.StripeIsPassed.{passed_none, segments_push}
use Rattle.t85_core.proofs.BodiesParse.BodyHasOneReading.{one_front, parts_or_fault, begun_in_fault}
use Rattle.t85_core.proofs.BodiesParse.BodyHasOneHeight.{never_suits, given_breaks, none_left, height_within}
use Rattle.t85_core.proofs.BodiesDecode.StripesDenoteRaster.{stripes_whole}
use Rattle.t85_core.proofs.BodiesDecode.SegmentsComeBehind.{front_is, behind_ends}
use Rattle.t85_core.proofs.BodiesDecode.WholeCodeNeverBreaks.{Marked}
use Rattle.t85_core.proofs.BodiesDecode.PiecesGiveResults.{height_known}
use Rattle.t85_core.proofs.BodiesDecode.LateHeightKeepsStripes.{stripes_of, at_height}
use Rattle.t85_core.proofs.BodiesDecode.DecoderLooksBehind.{only_comments, comments_behind}
use Rattle.t85_core.proofs.BodiesDecode.WalkGoesOn.{nil_of, some_row, at_stage}
use Rattle.t85_core.proofs.BodiesDecode.PieceStands.{own_height, code_of, waits_of, head_segments, in_code_entities}

-- ---- the code of a stripe that has begun

-- its first bytes
abbrev pub IsOpenCode : List ℕ → Type 0
IsOpenCode text = (b : ℕ) × (code : List ℕ) × AllByRecursion (λ b. b < 256) (b ∷ code) × (text ≡ stuffed (b ∷ code))

-- all of them, and the end marker
abbrev pub IsWholeCode : List ℕ → Type 0
IsWholeCode text = (code : List ℕ) × (reset : Bool) × AllByRecursion (λ b. b < 256) code × (text ≡ stuffed code ++ marker_bytes reset)

abbrev pub EntityBegun : List ℕ → Type 0
EntityBegun text = IsOpenCode text ⊎ IsWholeCode text

opened_some : (bytes text : List ℕ) → 1 ≤ length bytes → AllByRecursion (λ b. b < 256) bytes → text ≡ stuffed bytes → IsOpenCode text
opened_some [] text some small is = absurd (omega (arith, some))
opened_some (b ∷ bytes) text some small is = (b, bytes, small, is)

pub entity_opened : (first : Option code_type.Code) (marker : Option Bool) (answers : List Pulled) (extra text : List ℕ) → CodeText first marker answers extra text → (Marked first marker → ⊥) →
    IsOpenCode text
entity_opened first (Some reset) answers extra text o unmarked = absurd (unmarked (reset, inl refl))
entity_opened None None answers extra text o unmarked =
    opened_some (bytes_of answers ++ extra) text (o.begun refl) (All-append (λ b. b < 256) (bytes_of answers) extra o.bytes o.small) (o.text_is ∙ append-nil (stuffed (bytes_of answers ++ extra)))
entity_opened (Some (code.Byte b)) None answers extra text o unmarked =
    opened_some ((bytes_of answers ++ extra) ++ b ∷ []) text (let l = length-append (bytes_of answers ++ extra) (b ∷ []) in omega (arith, l))
    (All-append (λ b. b < 256) (bytes_of answers ++ extra) (b ∷ []) (All-append (λ b. b < 256) (bytes_of answers) extra o.bytes o.small) (o.ahead, tt))
    (o.text_is ∙ sym (stuffed_append (bytes_of answers ++ extra) (b ∷ [])))
entity_opened (Some (code.Marker reset)) None answers extra text o unmarked = absurd (unmarked (reset, inr refl))

pub entity_closed : (first : Option code_type.Code) (marker : Option Bool) (answers : List Pulled) (extra text : List ℕ) → CodeText first marker answers extra text → Marked first marker →
    IsWholeCode text
entity_closed first (Some reset) answers extra text o m = (bytes_of answers, reset, o.bytes, o.text_is)
entity_closed first None answers extra text o (reset, inl e) = absurd (let bot : ⊥ = cc in bot)
entity_closed None None answers extra text o (reset, inr e) = absurd (let bot : ⊥ = cc in bot)
entity_closed (Some (code.Byte b)) None answers extra text o (reset, inr e) = absurd (let bot : ⊥ = cc in bot)
entity_closed (Some (code.Marker r)) None answers extra text o (reset, inr e) = (bytes_of answers ++ extra, r, All-append (λ b. b < 256) (bytes_of answers) extra o.bytes o.small, o.text_is)

pub entity_begun : (first : Option code_type.Code) (marker : Option Bool) (answers : List Pulled) (extra text : List ℕ) → CodeText first marker answers extra text → EntityBegun text
entity_begun first (Some reset) answers extra text o = inr (entity_closed first (Some reset) answers extra text o (reset, inl refl))
entity_begun None None answers extra text o = inl (entity_opened None None answers extra text o none) where
  none : Marked None None → ⊥
  none (reset, inl e) = cc
  none (reset, inr e) = cc
entity_begun (Some (code.Byte b)) None answers extra text o = inl (entity_opened (Some (code.Byte b)) None answers extra text o none) where
  none : Marked (Some (code.Byte b)) None → ⊥
  none (reset, inl e) = cc
  none (reset, inr e) = cc
entity_begun (Some (code.Marker reset)) None answers extra text o = inr (entity_closed (Some (code.Marker reset)) None answers extra text o (reset, inr refl))

-- The position at its start: the stripes before it, and its segments, without a height.
pub record CodeBegins (h : Fields) (entities : ℕ) (text : List ℕ) : Type 0 where
  pub stripes : List Stripe
  pub segments : List Segment
  pub text_is : text ≡ flat_map stripe_bytes stripes ++ flat_map segment_bytes segments
  pub many : length stripes ≡ entities
  pub each : AreStripes h stripes
  pub begun : IsBegun h segments []
  pub none_before : lengths (all_segments stripes) ≡ []
  pub none_here : lengths segments ≡ []
  pub fewer : entities < stripe_count h.yd h.l0

-- Stripes that came whole, without a height.
pub record StripesCame (h : Fields) (count : ℕ) (text : List ℕ) : Type 0 where
  pub stripes : List Stripe
  pub text_is : text ≡ flat_map stripe_bytes stripes
  pub many : length stripes ≡ count
  pub each : AreStripes h stripes
  pub none : lengths (all_segments stripes) ≡ []
  pub within : count ≤ stripe_count h.yd h.l0

pub code_begins : {h : Fields} {entities : ℕ} {at : Option move.Move} {carried : Carried} {text out : List ℕ} → HeadStands (sized h h.yd) (head_place entities false at carried) text out →
    CodeBegins h entities text
code_begins {h} {entities} {at} {carried} {text} {out} s = record {
  stripes = s.stripes.stripes;
  segments = s.passed.segments;
  text_is = s.text_is ∙ ap (λ z. z ++ s.back) (s.stripes.taken ∙ append-nil (flat_map stripe_bytes s.stripes.stripes))
      ∙ ap (λ z. flat_map stripe_bytes s.stripes.stripes ++ z) (s.passed.taken ∙ append-nil (flat_map segment_bytes s.passed.segments));
  many = s.stripes.many;
  each = stripes_whole h h.yd (image_start h.xd) s.stripes.stripes s.stripes.rows s.stripes.flags s.stripes.next s.stripes.run;
  begun = s.passed.begun;
  none_before = nil_of (lengths (all_segments s.stripes.stripes)) (let a = s.stripes.gives_in.heights_are in let b = s.passed.given_is in omega (arith, a, b));
  none_here = nil_of (lengths s.passed.segments) (let b = s.passed.given_is in omega (arith, b));
  fewer = s.fewer;
}

pub begins_with : {h : Fields} {entities : ℕ} {at : Option move.Move} {carried : Carried} {text out : List ℕ} (s : HeadStands (sized h h.yd) (head_place entities false at carried) text out) →
    (code_begins s).segments ≡ s.passed.segments
unfolding code_begins
begins_with s = refl

-- ---- heights that can still come

-- a height after as many data entities, and one more
pub after_more : (h : Fields) (n entities k : ℕ) → is_valid_length h k n ≡ true → entities < k → entities * h.l0 < n
after_more h n entities k valid more =
    let over = valid_over h k n valid in
    let times : entities * h.l0 ≤ (k - 1) * h.l0 = mul-le-mul_right h.l0 (omega (arith, more)) in
    omega (arith, over, times)

abbrev pub tail_of : {h : Fields} {body : List ℕ} (n : ℕ) → GivesHeight h body n → List ℕ
tail_of n g = flat_map segment_bytes g.segments ++ (segment_bytes (NewLength n) ++ g.rest)

module _ {h : Fields} {count : ℕ} {text : List ℕ} (ok : IsAccepted h) (s : StripesCame h count text) where
  -- they are before it
  pub came_before : (rest : List ℕ) (n : ℕ) (g : GivesHeight h (text ++ rest) n) → count ≤ length g.stripes
  came_before rest n g = went (cases_lt (length g.stripes) (length s.stripes)) where
    went : (length g.stripes < length s.stripes) ⊎ (length s.stripes ≤ length g.stripes) → count ≤ length g.stripes
    went (inr le) = let m = s.many in omega (arith, le, m)
    went (inl less) =
        absurd (parts_or_fault ok 0 (length s.stripes) (never_suits h (length s.stripes)) s.stripes g.stripes rest s.each g.each
        (gives_none 0 0 (all_segments s.stripes) (omega arith) s.none) (omega (arith, less)) less (given_breaks ok (text ++ rest) n g) (ap (λ z. z ++ rest) (sym s.text_is) ∙ g.body_is))

  -- where it comes straight behind them, they are its stripes
  pub same_tail : (rest : List ℕ) (n : ℕ) (g : GivesHeight h (text ++ rest) n) → count ≡ length g.stripes → rest ≡ tail_of n g
  same_tail rest n g same = (one_front ok s.stripes g.stripes rest (tail_of n g) s.each g.each (s.many ∙ same) (ap (λ z. z ++ rest) (sym s.text_is) ∙ g.body_is)).1

  -- a height behind these segments
  pub came_gives : IsTrue (is_variable h) → {at : Option move.Move} {moved last : Bool} {front : List ℕ} {comments : ℕ}
      (p : HasPassed h (record { height = h.yd; entities = count; given = false }) last (Some front) (Some []) (segments_so_far at moved false comments)) →
      (count ≡ stripe_count h.yd h.l0 → AllByRecursion (λ s. IsTrue (is_comment s)) p.segments) → (n : ℕ) → is_valid_length h count n ≡ true → (rest : List ℕ) →
      GivesHeight h (text ++ (front ++ (segment_bytes (NewLength n) ++ rest))) n
  came_gives variable {front = front} p comments n valid rest = record {
    variable = variable;
    stripes = s.stripes;
    segments = p.segments;
    rest = rest;
    body_is = ap (λ z. z ++ (front ++ (segment_bytes (NewLength n) ++ rest))) s.text_is
        ∙ ap (λ z. flat_map stripe_bytes s.stripes ++ (z ++ (segment_bytes (NewLength n) ++ rest))) (p.taken ∙ append-nil (flat_map segment_bytes p.segments));
    each = s.each;
    begun = p.begun;
    first = lengths_append (all_segments s.stripes) p.segments ∙ ap (λ z. z ++ lengths p.segments) s.none ∙ nil_of (lengths p.segments) (let e = p.given_is in omega (arith, e));
    within = (let few = s.within in let m = s.many in omega (arith, few, m));
    behind = λ e. comments (sym s.many ∙ e);
    valid = subst (λ m. is_valid_length h m n ≡ true) (sym s.many) valid;
  }

module _ {h : Fields} {entities : ℕ} {text : List ℕ} (ok : IsAccepted h) (s : CodeBegins h entities text) where
  -- the stripe that has begun has a row of the image
  has_row : entities * h.l0 < h.yd
  has_row = let k = some_row h.yd h.l0 entities ok.stripe_from s.fewer in omega (arith, k)

  -- the stripes before it
  before_it : StripesCame h entities (flat_map stripe_bytes s.stripes)
  before_it = record { stripes = s.stripes; text_is = refl; many = s.many; each = s.each; none = s.none_before; within = (let few = s.fewer in omega (arith, few)) }

  -- it, too
  pub whole_stripe : (bytes : List ℕ) (reset : Bool) → AllByRecursion (λ b. b < 256) bytes → StripesCame h (entities + 1) (text ++ (stuffed bytes ++ marker_bytes reset))
  whole_stripe bytes reset small = record {
    stripes = s.stripes ++ stripe ∷ [];
    text_is = ap (λ z. z ++ (stuffed bytes ++ marker_bytes reset)) s.text_is ∙ append_assoc (flat_map stripe_bytes s.stripes) (flat_map segment_bytes s.segments) (stuffed bytes ++ marker_bytes reset)
        ∙ sym (flat_map_push stripe_bytes s.stripes stripe);
    many = (let long = length-append s.stripes (stripe ∷ []) in let m = s.many in omega (arith, long, m));
    each = All-append (λ s. IsBegun h s.segments s.code) s.stripes (stripe ∷ []) s.each (record { legal = s.begun.legal; one_move = s.begun.one_move; bytes = small }, tt);
    none = ap lengths (segments_push s.stripes stripe) ∙ lengths_append (all_segments s.stripes) s.segments ∙ ap (λ z. z ++ lengths s.segments) s.none_before ∙ s.none_here;
    within = (let few = s.fewer in omega (arith, few));
  } where
    stripe : Stripe
    stripe = record { segments = s.segments; code = bytes; reset = reset }

  closed_above : (bytes : List ℕ) (reset : Bool) → AllByRecursion (λ b. b < 256) bytes → (rest : List ℕ) (n : ℕ) → GivesHeight h ((text ++ (stuffed bytes ++ marker_bytes reset)) ++ rest) n →
      entities * h.l0 < n
  closed_above bytes reset small rest n g = let le = came_before ok (whole_stripe bytes reset small) rest n g in after_more h n entities (length g.stripes) g.valid (omega (arith, le))

  newest_valid : is_valid_length h (entities + 1) (entities * h.l0 + 1) ≡ true
  newest_valid = valid_in_use h (entities * h.l0 + 1) (entities + 1) ok.stripe_from (omega arith) (omega (arith, has_row))
      (let e = stripes_of (entities * h.l0 + 1) h.l0 entities ok.stripe_from (omega arith) (let o = ok.stripe_from in omega (arith, o)) in omega (arith, e))

  -- ---- where bytes of the code came

  opened_above : (b : ℕ) (bytes : List ℕ) → AllByRecursion (λ b. b < 256) (b ∷ bytes) → (rest : List ℕ) (n : ℕ) → GivesHeight h ((text ++ stuffed (b ∷ bytes)) ++ rest) n → entities * h.l0 < n
  opened_above b bytes small rest n g = went (cases_lt entities (length here.stripes)) where
    body : (text ++ stuffed (b ∷ bytes)) ++ rest ≡ flat_map stripe_bytes s.stripes ++ (flat_map segment_bytes s.segments ++ (stuffed (b ∷ bytes) ++ rest))
    body = append_assoc text (stuffed (b ∷ bytes)) rest ∙ ap (λ z. z ++ (stuffed (b ∷ bytes) ++ rest)) s.text_is
        ∙ append_assoc (flat_map stripe_bytes s.stripes) (flat_map segment_bytes s.segments) (stuffed (b ∷ bytes) ++ rest)

    here : GivesHeight h (flat_map stripe_bytes s.stripes ++ (flat_map segment_bytes s.segments ++ (stuffed (b ∷ bytes) ++ rest))) n
    here = subst (λ z. GivesHeight h z n) body g

    le : entities ≤ length here.stripes
    le = came_before ok before_it (flat_map segment_bytes s.segments ++ (stuffed (b ∷ bytes) ++ rest)) n here

    -- no height is given within it
    never : entities ≡ length here.stripes → ⊥
    never same =
        let none : length (lengths (all_segments here.stripes)) ≡ 0 = ap length (none_left (all_segments here.stripes) here.segments here.first) in
        let k = begun_in_fault ok (length here.stripes) (never_suits h (length here.stripes) (length here.stripes) (omega arith)) rest
        (record { legal = s.begun.legal; one_move = s.begun.one_move; bytes = small }) (gives_none 0 (length (lengths (all_segments here.stripes))) s.segments (omega (arith, none)) s.none_here)
        (given_breaks ok (flat_map stripe_bytes s.stripes ++ (flat_map segment_bytes s.segments ++ (stuffed (b ∷ bytes) ++ rest))) n here)
        (same_tail ok before_it (flat_map segment_bytes s.segments ++ (stuffed (b ∷ bytes) ++ rest)) n here same) in
        nothing k.1 k.2
      where
        nothing : (more : List ℕ) → [] ≡ (b ∷ bytes) ++ more → ⊥
        nothing more e = cc

    went : (entities < length here.stripes) ⊎ (length here.stripes ≤ entities) → entities * h.l0 < n
    went (inl more) = after_more h n entities (length here.stripes) here.valid more
    went (inr few) = absurd (never (omega (arith, le, few)))

  -- ---- both

  above : (code : List ℕ) → EntityBegun code → (rest : List ℕ) (n : ℕ) → GivesHeight h ((text ++ code) ++ rest) n → entities * h.l0 < n
  above code (inl (b, bytes, small, is)) rest n g = opened_above b bytes small rest n (subst (λ z. GivesHeight h ((text ++ z) ++ rest) n) is g)
  above code (inr (bytes, reset, small, is)) rest n g = closed_above bytes reset small rest n (subst (λ z. GivesHeight h ((text ++ z) ++ rest) n) is g)

  pub least_below : (code : List ℕ) → EntityBegun code → (rest : List ℕ) (n : ℕ) → IsHeight h ((text ++ code) ++ rest) n → entities * h.l0 + 1 ≤ n
  least_below code e rest n (inl g) = let k = above code e rest n g in omega (arith, k)
  least_below code e rest n (inr own) = let k = own.0 in omega (arith, k, has_row)

  -- more of the code and its end marker
  closes : (code : List ℕ) → EntityBegun code → (more : List ℕ) × IsWholeCode (code ++ more)
  closes code (inl (b, bytes, small, is)) = (marker_bytes false, (b ∷ bytes, false, small, ap (λ z. z ++ marker_bytes false) is))
  closes code (inr (bytes, reset, small, is)) = ([], (bytes, reset, small, append-nil code ∙ is))

  -- the least one, after what came behind the end marker
  module _ (variable : IsTrue (is_variable h)) where
    least_behind : (code back more : List ℕ) → IsWholeCode code → {at : Option move.Move} {moved last : Bool} {front : List ℕ} {comments : ℕ}
        (p : HasPassed h (record { height = h.yd; entities = entities + 1; given = false }) last (Some front) (Some []) (segments_so_far at moved false comments)) →
        back ++ more ≡ front → (entities + 1 ≡ stripe_count h.yd h.l0 → AllByRecursion (λ s. IsTrue (is_comment s)) p.segments) → IsLeastHeight h ((text ++ code) ++ back) (entities * h.l0 + 1)
    least_behind code back more (bytes, reset, small, is) {front = front} p whole comments = record {
      below = λ rest n i. least_below code (inr (bytes, reset, small, is)) (back ++ rest) n (subst (λ z. IsHeight h z n) (append_assoc (text ++ code) back rest) i);
      reached = (
        more ++ newest,
        inl (subst (λ z. GivesHeight h z (entities * h.l0 + 1)) (sym all_text) (came_gives ok (whole_stripe bytes reset small) variable p comments (entities * h.l0 + 1) newest_valid [])),
      );
    } where
      newest : List ℕ
      newest = segment_bytes (NewLength (entities * h.l0 + 1)) ++ []

      all_text : ((text ++ code) ++ back) ++ (more ++ newest) ≡ (text ++ (stuffed bytes ++ marker_bytes reset)) ++ (front ++ newest)
      all_text =
          append_assoc (text ++ code) back (more ++ newest) ∙ ap (λ z. (text ++ z) ++ (back ++ (more ++ newest))) is
          ∙ ap (λ z. (text ++ (stuffed bytes ++ marker_bytes reset)) ++ z) (sym (append_assoc back more newest) ∙ ap (λ z. z ++ newest) whole)

    -- in the code
    least_within : (code : List ℕ) → EntityBegun code → IsLeastHeight h (text ++ code) (entities * h.l0 + 1)
    least_within code e = record { below = least_below code e; reached = by (closes code e) } where
      none : HasPassed h (record { height = h.yd; entities = entities + 1; given = false }) false (Some []) (Some []) (segments_so_far None false false 0)
      none = passed_none h (record { height = h.yd; entities = entities + 1; given = false }) false (Some [])

      by : (more : List ℕ) × IsWholeCode (code ++ more) → (rest : List ℕ) × IsHeight h ((text ++ code) ++ rest) (entities * h.l0 + 1)
      by (more, closed_) =
          let k = least_behind (code ++ more) [] [] closed_ none refl (λ _. only_comments none.segments (let e = none.counted in omega (arith, e))
          (nil_of (lengths none.segments) (let e = none.given_is in omega (arith, e)))) in
          let text_is : (text ++ (code ++ more)) ++ [] ≡ (text ++ code) ++ more = append-nil (text ++ (code ++ more)) ∙ sym (append_assoc text code more) in
          (more ++ k.reached.0, subst (λ z. IsHeight h z (entities * h.l0 + 1)) (ap (λ z. z ++ k.reached.0) text_is ∙ append_assoc (text ++ code) more k.reached.0) k.reached.1)

-- ---- a decoder

-- what is left of a comment
comment_ends : {h : Fields} {place : Place} {last : Bool} (b : Head) (back : List ℕ) → BehindStands h (behind_at place last) b back → (more : List ℕ) × (ends : Head) × (ends.comment ≡ None) ×
    BehindStands h (behind_at place last) ends (back ++ more)
comment_ends {h} {place} {last} b back s = by b.comment refl where
  by : (o : Option ℕ) → b.comment ≡ o → (more : List ℕ) × (ends : Head) × (ends.comment ≡ None) × BehindStands h (behind_at place last) ends (back ++ more)
  by None between = ([], b, between, subst (BehindStands h (behind_at place last) b) (sym (append-nil back)) s)
  by (Some left) inside = (replicate left 0, record { at = b.at; comment = None }, refl, behind_ends s left inside (replicate left 0) (length-replicate left 0))

module _ (h : Fields) (ok : IsAccepted h) (variable : IsTrue (is_variable h)) (w : WalkView) where
  -- in the code of a stripe
  in_code : (text out : List ℕ) → CodeWalks h w text out → IsLeastHeight h text (w.entities * h.l0 + 1)
  in_code text out c = by c.in_code where
    by : IsInCode w.stage → IsLeastHeight h text (w.entities * h.l0 + 1)
    by (inl e) =
        let s : CodeStands (sized h h.yd) (head_place w.entities false w.at w.carried) (code_place w.row w.first w.marker w.decoder) text out =
        subst (λ g. CodeStands (sized h h.yd) (head_place w.entities g w.at w.carried) (code_place w.row w.first w.marker w.decoder) text out) c.ungiven (at_stage e c.walk) in
        subst (λ z. IsLeastHeight h z (w.entities * h.l0 + 1)) (sym s.text_is)
        (least_within ok (code_begins s.head) variable s.code (entity_begun w.first w.marker s.read.answers s.extra s.code s.code_is))
    by (inr e) =
        let s : InRowStands (sized h h.yd) (head_place w.entities false w.at w.carried) (code_place w.row w.first w.marker w.decoder) w.place text out =
        subst (λ g. InRowStands (sized h h.yd) (head_place w.entities g w.at w.carried) (code_place w.row w.first w.marker w.decoder) w.place text out) c.ungiven (at_stage e c.walk) in
        subst (λ z. IsLeastHeight h z (w.entities * h.l0 + 1)) (sym s.text_is)
        (least_within ok (code_begins s.head) variable s.code (entity_begun w.first w.marker (s.begun.read.answers ++ s.begun.since) [] s.code s.code_is))

  module _ (b : Head) (text out : List ℕ) (s : WalkWaits h w b text out) where
    ends : (more : List ℕ) × (ends : Head) × (ends.comment ≡ None) × BehindStands h (behind_at (place_behind h w.stage w.entities) (last_behind h w.stage w.left)) ends (s.back ++ more)
    ends = comment_ends b s.back s.behind

    whole : IsLeastHeight h (s.done ++ s.back) (w.entities * h.l0 + 1) → IsLeastHeight h text (w.entities * h.l0 + 1)
    whole k = subst (λ z. IsLeastHeight h z (w.entities * h.l0 + 1)) (sym s.text_is) k

    -- before the first stripe
    in_head : (w.stage ≡ stage.Head) × (w.at ≡ None) × (w.entities ≡ 0) → IsLeastHeight h text (w.entities * h.l0 + 1)
    in_head (is, none, first) = whole (record {
      below = λ rest n i. let u = height_within ((s.done ++ s.back) ++ rest) n ok i in let from = u.from in omega (arith, from, zero);
      reached = (
        ends.0 ++ segment_bytes (NewLength (w.entities * h.l0 + 1)),
        inl (subst (λ z. GivesHeight h z (w.entities * h.l0 + 1)) text_is (at_height head (w.entities * h.l0 + 1) variable valid [])),
      );
    }) where
      zero : w.entities * h.l0 ≡ 0
      zero = let e : w.entities * h.l0 ≡ 0 * h.l0 = ap (λ (m : ℕ). m * h.l0) first in omega (arith, e)

      place_is : place_behind h w.stage w.entities ≡ record { height = h.yd; entities = w.entities; given = false }
      place_is = ap (λ k. place_at h.yd (entities_behind k w.entities)) is

      there : BehindStands h (behind_at (place_behind h w.stage w.entities) false) ends.1 (s.back ++ ends.0)
      there = subst (λ l. BehindStands h (behind_at (place_behind h w.stage w.entities) l) ends.1 (s.back ++ ends.0)) (ap (λ k. is_last k (nat_le w.left h.l0)) is) ends.3

      head : HeadStands (sized h h.yd) (head_place w.entities false ends.1.at w.carried) (s.done ++ (s.back ++ ends.0)) out
      head = subst (λ z. HeadStands (sized h h.yd) (head_place w.entities false ends.1.at w.carried) (s.done ++ z) out) (sym (front_is there ends.2))
          (head_segments h w ends.1 (place_behind h w.stage w.entities) s.done (s.back ++ ends.0) out s.walk is none s.ungiven place_is there)

      valid : is_valid_length h w.entities (w.entities * h.l0 + 1) ≡ true
      valid = valid_in_use h (w.entities * h.l0 + 1) w.entities ok.stripe_from (omega arith) (let y = ok.height_from in omega (arith, zero, y)) (omega (arith, first))

      text_is : ((s.done ++ (s.back ++ ends.0)) ++ segment_bytes (NewLength (w.entities * h.l0 + 1))) ++ [] ≡ (s.done ++ s.back) ++ (ends.0 ++ segment_bytes (NewLength (w.entities * h.l0 + 1)))
      text_is =
          append-nil ((s.done ++ (s.back ++ ends.0)) ++ segment_bytes (NewLength (w.entities * h.l0 + 1)))
          ∙ ap (λ z. z ++ segment_bytes (NewLength (w.entities * h.l0 + 1))) (sym (append_assoc s.done s.back ends.0))
          ∙ append_assoc (s.done ++ s.back) ends.0 (segment_bytes (NewLength (w.entities * h.l0 + 1)))

    -- behind the end marker of a stripe
    at_marker : IsInCode w.stage → HasMarker w → IsLeastHeight h text (w.entities * h.l0 + 1)
    at_marker inside marked = whole (by inside) where
      place_is : place_behind h w.stage w.entities ≡ record { height = h.yd; entities = w.entities + 1; given = false }
      place_is = ap (place_at h.yd) (in_code_entities w.stage w.entities inside)

      there : BehindStands h (behind_at (record { height = h.yd; entities = w.entities + 1; given = false }) (last_behind h w.stage w.left)) ends.1 (s.back ++ ends.0)
      there = subst (λ p. BehindStands h (behind_at p (last_behind h w.stage w.left)) ends.1 (s.back ++ ends.0)) place_is ends.3

      behind : (before code : List ℕ) → CodeBegins h w.entities before → IsWholeCode code → s.done ≡ before ++ code → IsLeastHeight h (s.done ++ s.back) (w.entities * h.l0 + 1)
      behind before code begins is_closed is =
          subst (λ z. IsLeastHeight h (z ++ s.back) (w.entities * h.l0 + 1)) (sym is)
          (least_behind ok begins variable code s.back ends.0 is_closed there.passed (front_is there ends.2) (comments_behind h w ok.stripe_from inside s.walk.left_is there.passed))

      by : IsInCode w.stage → IsLeastHeight h (s.done ++ s.back) (w.entities * h.l0 + 1)
      by (inl e) =
          let k : CodeStands (sized h h.yd) (head_place w.entities false w.at w.carried) (code_place w.row w.first w.marker w.decoder) s.done out =
          subst (λ g. CodeStands (sized h h.yd) (head_place w.entities g w.at w.carried) (code_place w.row w.first w.marker w.decoder) s.done out) s.ungiven (at_stage e s.walk) in
          behind k.before k.code (code_begins k.head) (entity_closed w.first w.marker k.read.answers k.extra k.code k.code_is marked) k.text_is
      by (inr e) =
          let k : InRowStands (sized h h.yd) (head_place w.entities false w.at w.carried) (code_place w.row w.first w.marker w.decoder) w.place s.done out =
          subst (λ g. InRowStands (sized h h.yd) (head_place w.entities g w.at w.carried) (code_place w.row w.first w.marker w.decoder) w.place s.done out) s.ungiven (at_stage e s.walk) in
          behind k.before k.code (code_begins k.head) (entity_closed w.first w.marker (k.begun.read.answers ++ k.begun.since) [] k.code k.code_is marked) k.text_is

    waiting : IsLeastHeight h text (w.entities * h.l0 + 1)
    waiting = went s.at where
      went : IsAtMarker w → IsLeastHeight h text (w.entities * h.l0 + 1)
      went (inl head) = in_head head
      went (inr k) = at_marker k.0 k.1

module _ (d : PieceView) (text out : List ℕ) (s : DecoderStands d text out) where
  least_open : d.is_open ≡ true → IsLeastHeight (fields_of d.header) text (d.walk.entities * d.header.l0 + 1)
  least_open late = by d.waits refl where
    by : (b : Bool) → d.waits ≡ b → IsLeastHeight (fields_of d.header) text (d.walk.entities * d.header.l0 + 1)
    by false going = in_code (fields_of d.header) (own_height d.header).accepted (s.height.variable late) d.walk text out (code_of d text out late going s)
    by true waits = waiting (fields_of d.header) (own_height d.header).accepted (s.height.variable late) d.walk d.behind text out (waits_of d text out late waits s)

  -- the height is known
  pub least_known : d.is_open ≡ false → IsLeastHeight (fields_of d.header) text d.height
  least_known known = record {
    below = λ rest n i. let e = height_known (fields_of d.header) d.height text rest (own_height d.header).accepted at_false n i in omega (arith, e);
    reached =
        ([], by (is_variable (fields_of d.header)) refl);
  } where
    at_false : HeightKnown (fields_of d.header) d.height false text
    at_false = subst (λ b. HeightKnown (fields_of d.header) d.height b text) known s.height

    by : (v : Bool) → is_variable (fields_of d.header) ≡ v → IsHeight (fields_of d.header) (text ++ []) d.height
    by true v = inl (at_false.came refl v [])
    by false v = inr (at_false.fixed refl v, λ n g. true≢false (sym g.variable ∙ v))

  left_is : d.is_open ≡ true → d.walk.left ≡ d.header.yd - d.walk.entities * d.header.l0
  left_is late = by d.waits refl where
    by : (b : Bool) → d.waits ≡ b → d.walk.left ≡ d.header.yd - d.walk.entities * d.header.l0
    by false going = (code_of d text out late going s).walk.left_is
    by true waits = (waits_of d text out late waits s).walk.left_is

  -- it is not: each stripe that has begun has a row
  pub least_late : d.is_open ≡ true → (n : ℕ) → n ≡ min (d.header.yd - d.walk.left + 1) (2 ^ 32 - 1) → IsLeastHeight (fields_of d.header) text n
  least_late late n is = subst (IsLeastHeight (fields_of d.header) text) same k where
    k : IsLeastHeight (fields_of d.header) text (d.walk.entities * d.header.l0 + 1)
    k = least_open late

    same : d.walk.entities * d.header.l0 + 1 ≡ n
    same =
        let u = height_within (text ++ k.reached.0) (d.walk.entities * d.header.l0 + 1) (own_height d.header).accepted k.reached.1 in
        let to = u.to in
        let left = left_is late in
        let small = (own_height d.header).accepted.height_to in
        omega (arith, to, left, small, is)
