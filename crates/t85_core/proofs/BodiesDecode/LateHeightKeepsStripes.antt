-- A height that comes late: stripes that were decoded at the header's height are those of another, which has all of them.
use Rattle.std.proofs.Common.{cond, ◌≡◌, ◌<◌, ◌≤◌, ◌+◌, ◌-◌, ◌*◌, ◌^◌, ℕ, Bool, true, false, List, [], ◌∷◌, ◌++◌, length, min, count_by, Option, None, Some, refl, sym, ap, ◌∙◌, subst, append_assoc, append-nil, arith}
use Rattle.std.specs.Prelude.{flat_map, is_some, IsTrue}
use Rattle.std.specs.Int.{div_ceil}
use Rattle.std.proofs.lemmas.Grind.{flat_map-append}
use Rattle.std.proofs.lemmas.List.Sums.{sum_by-append}
use Rattle.t85_core.specs.declared.segments.atmove.Move as move
use Rattle.t85_core.specs.declared.segments.Place.{Place}
use Rattle.t85_core.specs.Lent.{Carried}
use Rattle.t85_core.specs.Header.{Fields, is_variable}
use Rattle.t85_core.specs.Grammar.{Segment, Move, NewLength, Comment, Stripe, segment_bytes, stripe_bytes, stripe_count, all_segments, lengths, is_move, is_comment, is_valid_length, IsLegal}
use Rattle.t85_core.specs.Coding.{move_of, flagged}
use Rattle.t85_core.specs.Height.{GivesHeight}
use Rattle.t85_core.specs.States.Segments.{HasPassed, segments_so_far}
use Rattle.t85_core.specs.States.State.{StripeStart, image_start, StripeRun, StripesRun}
use Rattle.t85_core.specs.States.DecodeStripes.{StripesRead}
use Rattle.t85_core.specs.States.Pieces.{HeadStands, head_place}
use Rattle.t85_core.specs.States.SizedImage.{sized}
use Rattle.t85_core.specs.States.Passage.{passage}
use Rattle.t85_core.proofs.BytesJoin.ListsGrow.{All-append}
use Rattle.t85_core.proofs.BytesJoin.SegmentsGiveHeights.{lengths_append, gives_none, more_stripes}
use Rattle.t85_core.proofs.BodiesDecode.StripesDenoteRaster.{stripes_whole}
use Rattle.t85_core.proofs.BodiesDecode.HeadComesInPieces.{head_length}
use Rattle.t85_core.proofs.BodiesDecode.WalkGoesOn.{nil_of, last_stripe}

-- so many stripes has a height
pub stripes_of : (n l e : ℕ) → 1 ≤ l → e * l < n → n ≤ e * l + l → e + 1 ≡ div_ceil n l
stripes_of n l e one over all = last_stripe n l e one (more_stripes n l e one over) (omega (arith, all))

-- stripes that have all their rows have the same at each height that has all of these
pub other_run : (h : Fields) (left n : ℕ) (c : StripeStart) (stripes : List Stripe) (rows : List (List Bool)) (flags : List Bool) (next : StripeStart) → length stripes * h.l0 ≤ n →
    length stripes * h.l0 ≤ left →
    StripesRun h left c stripes (flagged rows flags) next → StripesRun h n c stripes (flagged rows flags) next
other_run h left n c [] rows flags next all all' run = run
other_run h left n c (s ∷ stripes) rows flags next all all' run =
    let times : length (s ∷ stripes) * h.l0 ≡ h.l0 + length stripes * h.l0 = omega arith in
    let same : min left h.l0 ≡ min n h.l0 = omega (arith, times, all, all') in (
      run.0,
      run.1,
      run.2,
      run.3,
      run.4,
      run.5,
      run.6,
      subst (λ m. StripeRun h m c s (flagged run.0 run.2) run.4) same run.7,
      other_run h (left - h.l0) (n - h.l0) run.4 stripes run.1 run.3 next (omega (arith, times, all)) (omega (arith, times, all')) run.8,
    )

pub other_read : (h : Fields) (height n : ℕ) (known known' : Option (List ℕ)) (count : ℕ) (carried : Carried) (text text' : Option (List ℕ)) → count * h.l0 ≤ n → count * h.l0 ≤ height →
    StripesRead h height (passage known known' text text') count 0 carried → StripesRead h n (passage known known' text text') count 0 carried
other_read h height n known known' count carried text text' all all' r = record {
  stripes = r.stripes;
  many = r.many;
  gives_in = record { gives = gives_none n 0 (all_segments r.stripes) (omega arith) none; heights_are = r.gives_in.heights_are };
  taken = r.taken;
  rows = r.rows;
  flags = r.flags;
  next = r.next;
  run = other_run h height n (image_start h.xd) r.stripes r.rows r.flags r.next (subst (λ k. k * h.l0 ≤ n) (sym r.many) all) (subst (λ k. k * h.l0 ≤ height) (sym r.many) all') r.run;
  is_carried = r.is_carried;
  appended = r.appended;
} where
  none : lengths (all_segments r.stripes) ≡ []
  none = nil_of (lengths (all_segments r.stripes)) (let e = r.gives_in.heights_are in omega (arith, e))

-- ---- segments after segments

moves_none : (segments more : List Segment) → count_by is_move segments ≡ 0 → move_of (segments ++ more) ≡ move_of more
moves_none [] more none = refl
moves_none (NewLength n ∷ segments) more none = moves_none segments more (let e = sum_by-append (λ y. cond (is_move y) 1 0) (NewLength n ∷ []) segments in omega (arith, none, e))
moves_none (Move row offset ∷ segments) more none = absurd (let e = sum_by-append (λ y. cond (is_move y) 1 0) (Move row offset ∷ []) segments in omega (arith, none, e))
moves_none (Comment text ∷ segments) more none = moves_none segments more (let e = sum_by-append (λ y. cond (is_move y) 1 0) (Comment text ∷ []) segments in omega (arith, none, e))

-- segments without a height and a move, and more without a height
module _ {h : Fields} {place : Place} {front back : List ℕ} {at : Option move.Move} {comments comments' : ℕ} (fresh : place.given ≡ false)
    (p : HasPassed h place false (Some front) (Some []) (segments_so_far None false false comments))
    (q : HasPassed h place false (Some back) (Some []) (segments_so_far at (is_some at) false comments')) where
  zero : cond {A = ℕ} place.given 1 0 ≡ 0
  zero = ap (λ (t : Bool). cond {A = ℕ} t 1 0) fresh

  none_left : lengths p.segments ≡ []
  none_left = nil_of (lengths p.segments) (let e = p.given_is in omega (arith, e, zero))

  none_right : lengths q.segments ≡ []
  none_right = nil_of (lengths q.segments) (let e = q.given_is in omega (arith, e, zero))

  pub none_both : lengths (p.segments ++ q.segments) ≡ []
  none_both = lengths_append p.segments q.segments ∙ ap (λ z. z ++ lengths q.segments) none_left ∙ none_right

  unmoved : count_by is_move p.segments ≡ 0
  unmoved = sym p.found

  moves : count_by is_move (p.segments ++ q.segments) ≡ count_by is_move q.segments
  moves = let e = sum_by-append (λ y. cond (is_move y) 1 0) p.segments q.segments in omega (arith, e, unmoved)

  pub passed_more : HasPassed h place false (Some (front ++ back)) (Some []) (segments_so_far at (is_some at) false (min (count_by is_comment (p.segments ++ q.segments)) (2 ^ 64 - 1)))
  passed_more = record {
    segments = p.segments ++ q.segments;
    begun = record { legal = All-append (IsLegal h) p.segments q.segments p.begun.legal q.begun.legal; one_move = (let few = q.begun.one_move in omega (arith, few, moves)); bytes = tt };
    gives = gives_none place.height (cond place.given 1 0) (p.segments ++ q.segments) (omega (arith, zero)) none_both;
    given_is = (let e = ap length none_both in omega (arith, e, zero));
    move_is = q.move_is ∙ sym (moves_none p.segments q.segments unmoved);
    counted = (let e = q.counted in omega (arith, e, moves));
    found = q.found ∙ sym moves;
    told = refl;
    taken = ap (λ z. z ++ back) (p.taken ∙ append-nil (flat_map segment_bytes p.segments)) ∙ ap (λ z. flat_map segment_bytes p.segments ++ z) (q.taken ∙ append-nil (flat_map segment_bytes q.segments))
        ∙ sym (flat_map-append segment_bytes p.segments q.segments)
        ∙ sym (append-nil (flat_map segment_bytes (p.segments ++ q.segments)));
  }

-- the head of a stripe, and what came of it behind the marker before it
pub head_behind : {h : Fields} {height entities : ℕ} {carried : Carried} {done back out : List ℕ} {at : Option move.Move} {place : Place} {comments : ℕ} → place ≡
    record { height = height; entities = entities; given = false } →
    HeadStands (sized h height) (head_place entities false None carried) done out → HasPassed h place false (Some back) (Some []) (segments_so_far at (is_some at) false comments) →
    HeadStands (sized h height) (head_place entities false at carried) (done ++ back) out
head_behind {h} {height} {entities} {carried} {done} {back} {out} {at} {place} {comments} place_is s q = went s.before refl where
  went : (b : Bool) → s.before ≡ b → HeadStands (sized h height) (head_place entities false at carried) (done ++ back) out
  went true e = absurd (let k = s.passed.given_is in let z : cond {A = ℕ} s.before 1 0 ≡ 1 = ap (λ (t : Bool). cond {A = ℕ} t 1 0) e in omega (arith, k, z))
  went false e = record {
    before = false;
    front = s.front;
    back = s.back ++ back;
    text_is = ap (λ z. z ++ back) s.text_is ∙ append_assoc s.front s.back back;
    stripes = subst (λ t. StripesRead h height (passage (Some s.front) (Some []) (Some []) (Some out)) entities (cond t 1 0) carried) e s.stripes;
    comments = min (count_by is_comment (here.segments ++ there.segments)) (2 ^ 64 - 1);
    passed = passed_more refl here there;
    fewer = s.fewer;
  } where
    here : HasPassed h (record { height = height; entities = entities; given = false }) false (Some s.back) (Some []) (segments_so_far None false false s.comments)
    here = subst (λ t. HasPassed h (record { height = height; entities = entities; given = t }) false (Some s.back) (Some []) (segments_so_far None false false s.comments)) e s.passed

    there : HasPassed h (record { height = height; entities = entities; given = false }) false (Some back) (Some []) (segments_so_far at (is_some at) false comments)
    there = subst (λ p. HasPassed h p false (Some back) (Some []) (segments_so_far at (is_some at) false comments)) place_is q

-- ---- a height comes in the head of a stripe

module _ {h : Fields} {entities : ℕ} {at : Option move.Move} {carried : Carried} {text out : List ℕ} (s : HeadStands (sized h h.yd) (head_place entities false at carried) text out) (n : ℕ)
    (variable : IsTrue (is_variable h)) (valid : is_valid_length h entities n ≡ true) where
  given_before : s.before ≡ false
  given_before = went s.before refl where
    went : (b : Bool) → s.before ≡ b → s.before ≡ false
    went false e = e
    went true e = absurd (let k = s.passed.given_is in let z : cond {A = ℕ} s.before 1 0 ≡ 1 = ap (λ (t : Bool). cond {A = ℕ} t 1 0) e in omega (arith, k, z))

  none_before : lengths (all_segments s.stripes.stripes) ≡ []
  none_before = nil_of (lengths (all_segments s.stripes.stripes)) (let a = s.stripes.gives_in.heights_are in let b = s.passed.given_is in omega (arith, a, b))

  none_here : lengths s.passed.segments ≡ []
  none_here = nil_of (lengths s.passed.segments) (let b = s.passed.given_is in omega (arith, b))

  fewer : length s.stripes.stripes < stripe_count h.yd h.l0
  fewer = subst (λ k. k < stripe_count h.yd h.l0) (sym s.stripes.many) s.fewer

  -- it is the body's, whatever follows
  pub at_height : (rest : List ℕ) → GivesHeight h ((text ++ segment_bytes (NewLength n)) ++ rest) n
  at_height rest = record {
    variable = variable;
    stripes = s.stripes.stripes;
    segments = s.passed.segments;
    rest = rest;
    body_is =
        ap (λ z. (z ++ segment_bytes (NewLength n)) ++ rest) s.text_is ∙ append_assoc (s.front ++ s.back) (segment_bytes (NewLength n)) rest
        ∙ append_assoc s.front s.back (segment_bytes (NewLength n) ++ rest)
        ∙ ap (λ z. z ++ (s.back ++ (segment_bytes (NewLength n) ++ rest))) (s.stripes.taken ∙ append-nil (flat_map stripe_bytes s.stripes.stripes))
        ∙ ap (λ z. flat_map stripe_bytes s.stripes.stripes ++ (z ++ (segment_bytes (NewLength n) ++ rest))) (s.passed.taken ∙ append-nil (flat_map segment_bytes s.passed.segments));
    each = stripes_whole h h.yd (image_start h.xd) s.stripes.stripes s.stripes.rows s.stripes.flags s.stripes.next s.stripes.run;
    begun = s.passed.begun;
    first = lengths_append (all_segments s.stripes.stripes) s.passed.segments ∙ ap (λ z. z ++ lengths s.passed.segments) none_before ∙ none_here;
    within = omega (arith, fewer);
    behind = λ e. absurd (omega (arith, fewer, e));
    valid = subst (λ k. is_valid_length h k n ≡ true) (sym s.stripes.many) valid;
  }

  -- it is the actual height, if it has a row of the stripe
  pub head_raised : 1 ≤ h.l0 → IsLegal h (NewLength n) → entities * h.l0 < n → HeadStands (sized h n) (head_place entities true at carried) (text ++ segment_bytes (NewLength n)) out
  head_raised one legal over = head_length at_height n refl refl legal where
    parts : (1 ≤ n) × (n ≤ h.yd)
    parts = (legal.1, legal.2)

    at_height : HeadStands (sized h n) (head_place entities false at carried) text out
    at_height = record {
      before = false;
      front = s.front;
      back = s.back;
      text_is = s.text_is;
      stripes = other_read h h.yd n (Some s.front) (Some []) entities carried (Some []) (Some out) (omega (arith, over)) (omega (arith, over, parts.1))
          (subst (λ t. StripesRead h h.yd (passage (Some s.front) (Some []) (Some []) (Some out)) entities (cond t 1 0) carried) given_before s.stripes);
      comments = s.comments;
      passed = passed_at;
      fewer = more_stripes n h.l0 entities one over;
    } where
      was : HasPassed h (record { height = h.yd; entities = entities; given = false }) false (Some s.back) (Some []) (segments_so_far at (is_some at) false s.comments)
      was = subst (λ t. HasPassed h (record { height = h.yd; entities = entities; given = t }) false (Some s.back) (Some []) (segments_so_far at (is_some at) false s.comments)) given_before s.passed

      passed_at : HasPassed h (record { height = n; entities = entities; given = false }) false (Some s.back) (Some []) (segments_so_far at (is_some at) false s.comments)
      passed_at = record {
        segments = was.segments;
        begun = was.begun;
        gives = gives_none n 0 was.segments (omega arith) (nil_of (lengths was.segments) (let e = was.given_is in omega (arith, e)));
        given_is = was.given_is;
        move_is = was.move_is;
        counted = was.counted;
        found = was.found;
        told = was.told;
        taken = was.taken;
      }
