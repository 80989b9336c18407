-- The bytes behind the last stripe, and late heights.
use Rattle.std.proofs.Common.{cond, ◌≡◌, ◌≢◌, ◌<◌, ◌≤◌, ◌+◌, ◌-◌, ◌*◌, ◌^◌, inl, inr, ℕ, Bool, true, false, List, [], ◌∷◌, ◌++◌, length, take, nat_le, count_by, Option, None, Some, refl, sym, ap, ◌∙◌, subst, append_assoc, append-nil, length-append, arith, true≢false}
use Rattle.std.specs.Prelude.{IsTrue}
use Rattle.std.specs.List.{AllByRecursion}
use Rattle.std.proofs.lemmas.Bool.Decides.{nat_tests}
use Rattle.std.proofs.lemmas.List.Sums.{sum_by-append}
use Rattle.std.proofs.lemmas.Grind.{div_ceil_times}
use Rattle.byteorder.specs.Endian.{big_bytes}
use Rattle.t85_core.specs.declared.fault.Fault.{Fault}
use Rattle.t85_core.specs.declared.fault.Fault.TheVariants.{Truncated, Read}
use Rattle.t85_core.specs.Lent.{PieceView, WalkView, waits_behind}
use Rattle.t85_core.specs.declared.pieces.head.Head.{Head}
use Rattle.t85_core.specs.Stages.{head_kind}
use Rattle.t85_core.specs.Stages as stage
use Rattle.t85_core.specs.declared.segments.Code as code_type
use Rattle.t85_core.specs.declared.segments.atmove.Move as move
use Rattle.t85_core.specs.declared.segments.Place.{Place}
use Rattle.t85_core.specs.Header.{Fields, is_variable}
use Rattle.t85_core.specs.Options.{fields_of}
use Rattle.t85_core.specs.Grammar.{Segment, NewLength, Move, Comment, ESC, COMMENT, segment_bytes, stripe_count, lengths, is_move, is_comment, is_valid_length}
use Rattle.t85_core.specs.Failures.{Ends, counted_as}
use Rattle.t85_core.specs.Height.{GivesHeight}
use Rattle.t85_core.specs.Denotes.{DenotesAt}
use Rattle.t85_core.specs.Consumed.{ConsumesImage}
use Rattle.t85_core.specs.Private.CoderLaws.{CoderLaws}
use Rattle.t85_core.specs.States.Segments.{HasPassed, code_bytes, segments_so_far}
use Rattle.t85_core.specs.Private.Segments.{PieceFault}
use Rattle.t85_core.specs.Private.HeightWalk.{LookEnds}
use Rattle.t85_core.specs.States.Behind.{BehindStands, move_came, behind_at}
use Rattle.t85_core.specs.Private.Behind.{BehindOn, BreaksBehind, StopsBehind}
use Rattle.t85_core.specs.States.Pieces.{HeadStands, WalkStands, IsInCode, CodeStands, InRowStands, head_place, code_place}
use Rattle.t85_core.specs.States.SizedImage.{sized}
use Rattle.t85_core.specs.States.PieceStands.{DecoderStands, HeightKnown, WalkWaits, IsAtMarker, place_behind, last_behind, entities_behind, is_last, place_at}
use Rattle.t85_core.specs.Private.PieceSteps.{SomeStand, DecoderOn, EndsConsumed, EndsWhole, HeadEntered, HeightComes}
use Rattle.t85_core.proofs.BytesJoin.SegmentsGiveHeights.{valid_over}
use Rattle.t85_core.proofs.BodiesParse.BodyHasOneHeight.{one_height_of}
use Rattle.t85_core.proofs.StreamsAreWalked.WalkLooksBehind.{HasLooked, looked_fault, looked_code}
use Rattle.t85_core.proofs.StreamsAreWalked.SegmentsAreChecked.{comment_cut}
use Rattle.t85_core.proofs.BodiesDecode.HeadComesInPieces.{passed_ext}
use Rattle.t85_core.proofs.BodiesDecode.MarkerComesInTime.{in_time_more}
use Rattle.t85_core.proofs.BodiesDecode.WalkGoesOn.{at_stage, put_stage, nil_of}
use Rattle.t85_core.proofs.BodiesDecode.LateHeightKeepsStripes.{at_height, head_raised}
use Rattle.t85_core.proofs.BodiesDecode.SegmentsComeBehind.{front_is, part_of}
use Rattle.t85_core.proofs.BodiesDecode.LateHeightCutsStripe.{RowsHeld, code_held, in_row_held, late_consumes, late_denotes, late_out, late_gives}
use Rattle.t85_core.proofs.BodiesDecode.PieceStands.{own_height, waits_of, put_walks, put_waits, known_more, in_code_entities, in_code_last, marker_of}

-- segments without a move and a height are comments
pub only_comments : (segments : List Segment) → count_by is_move segments ≡ 0 → lengths segments ≡ [] → AllByRecursion (λ s. IsTrue (is_comment s)) segments
only_comments [] none empty = tt
only_comments (NewLength n ∷ segments) none empty = absurd (let bot : ⊥ = cc in bot)
only_comments (Move row offset ∷ segments) none empty = absurd (let e = sum_by-append (λ y. cond (is_move y) 1 0) (Move row offset ∷ []) segments in omega (arith, none, e))
only_comments (Comment text ∷ segments) none empty = (refl, only_comments segments (let e = sum_by-append (λ y. cond (is_move y) 1 0) (Comment text ∷ []) segments in omega (arith, none, e)) empty)

module _ {h : Fields} {place : Place} {b : Head} {back : List ℕ} (fresh : place.given ≡ false) (s : BehindStands h (behind_at place true) b back) where
  pub are_comments : AllByRecursion (λ s. IsTrue (is_comment s)) s.passed.segments
  are_comments = only_comments s.passed.segments (let e = s.passed.counted in omega (arith, e))
      (nil_of (lengths s.passed.segments) (let e = s.passed.given_is in let z : cond {A = ℕ} place.given 1 0 ≡ 0 = ap (λ (t : Bool). cond {A = ℕ} t 1 0) fresh in omega (arith, e, z)))

  has_looked : (more : List ℕ) → HasLooked h (Some (s.front ++ more)) (Some more)
  has_looked more = record { segments = s.passed.segments; are = record { comments = are_comments; legal = s.passed.begun.legal }; taken = (passed_ext s.passed more).taken }

  -- a code comes there
  pub look_code : (c : code_type.Code) (p rest more : List ℕ) → b.comment ≡ None → p ≡ code_bytes c ++ rest → LookEnds h place.entities ((back ++ p) ++ more)
  look_code c p rest more between is =
      subst (LookEnds h place.entities) (ap (λ z. z ++ (p ++ more)) (sym (front_is s between)) ∙ sym (append_assoc back p more))
      (looked_code (has_looked (p ++ more)) (Some (rest ++ more)) place.entities c (ap (λ z. z ++ more) is ∙ append_assoc (code_bytes c) rest more))

  longer : (p more : List ℕ) (f : Fault) → (f ≡ Truncated → more ≡ []) → (unread : List ℕ) → Ends Truncated (Some p) (Some unread) (PieceFault h place true) f →
      Ends Truncated (Some (p ++ more)) (Some (unread ++ more)) (PieceFault h (record { height = 0; entities = place.entities; given = false }) true) f
  longer p more f nothing unread ends = record {
    given = ends.given;
    taken = ap (λ z. z ++ more) ends.taken ∙ append_assoc ends.given unread more;
    has_fault = subst (λ g. PieceFault h (record { height = 0; entities = place.entities; given = g }) true ends.given (counted_as Truncated f)) fresh ends.has_fault;
    at_end = λ e. ap (λ z. z ++ more) (ends.at_end e) ∙ nothing e;
  }

  comment_text : (p more part : List ℕ) (left : ℕ) → more ≡ [] → back ≡ s.front ++ (ESC ∷ COMMENT ∷ (big_bytes 4 (length part + left) ++ part)) → s.front
      ++ (ESC ∷ COMMENT ∷ (big_bytes 4 (length part + left) ++ (part ++ p))) ≡ (back ++ p) ++ more
  comment_text p more part left nothing is =
      ap (λ z. s.front ++ (ESC ∷ COMMENT ∷ z)) (sym (append_assoc (big_bytes 4 (length part + left)) part p))
      ∙ sym (append_assoc s.front (ESC ∷ COMMENT ∷ (big_bytes 4 (length part + left) ++ part)) p)
      ∙ ap (λ z. z ++ p) (sym is) ∙ sym (append-nil (back ++ p)) ∙ ap (λ z. (back ++ p) ++ z) (sym nothing)

  -- a fault, or the end
  pub look_fault : (p more : List ℕ) (f : Fault) → h.yd < 2 ^ 32 → is_variable h ≡ true → StopsBehind h (behind_at place true) b p f → (f ≡ Truncated → more ≡ []) →
      LookEnds h place.entities ((back ++ p) ++ more)
  look_fault p more f small variable stops nothing = by b.comment refl stops.breaks where
    readable : f ≢ Read
    readable e = let k : counted_as Truncated Read ≡ Read = ap (counted_as Truncated) (sym e) ∙ stops.counted ∙ e in let z : Truncated ≡ Read = k in cc

    by : (o : Option ℕ) → b.comment ≡ o → BreaksBehind h (behind_at place true) b o p f → LookEnds h place.entities ((back ++ p) ++ more)
    by None between (unread, ends) =
        subst (LookEnds h place.entities) (ap (λ z. z ++ (p ++ more)) (sym (front_is s between)) ∙ sym (append_assoc back p more))
        (looked_fault (has_looked (p ++ more)) place.entities f small variable readable (longer p more f nothing unread ends))
    by (Some left) inside (short, ended) =
        let k = part_of s left inside in
        let long = length-append k.0 p in
        subst (LookEnds h place.entities) (comment_text p more k.0 left (nothing ended) k.2)
        (looked_fault {c = Some []} (has_looked (ESC ∷ COMMENT ∷ (big_bytes 4 (length k.0 + left) ++ (k.0 ++ p)))) place.entities f small variable readable (record {
          given = ESC ∷ COMMENT ∷ (big_bytes 4 (length k.0 + left) ++ (k.0 ++ p));
          taken = sym (append-nil (ESC ∷ COMMENT ∷ (big_bytes 4 (length k.0 + left) ++ (k.0 ++ p))));
          has_fault = subst (λ z. PieceFault h (record { height = 0; entities = place.entities; given = false }) true (ESC ∷ COMMENT ∷ (big_bytes 4 (length k.0 + left) ++ (k.0 ++ p))) z)
              (sym (stops.counted ∙ ended)) (λ other. comment_cut (length k.0 + left) (k.0 ++ p) k.1 (omega (arith, long, short)));
          at_end = λ _. refl;
        }))

-- ---- a walk at an end marker

-- where the last stripe is over a walk is in its code
pub in_last : (h : Fields) (w : WalkView) → IsAtMarker w → last_behind h w.stage w.left ≡ true → IsInCode w.stage
in_last h w (inl head) last = absurd (true≢false (sym last ∙ ap (λ z. is_last z (nat_le w.left h.l0)) head.0))
in_last h w (inr k) last = k.0

module _ (h : Fields) (w : WalkView) (b : Head) (text out : List ℕ) (q : CoderLaws) (s : WalkWaits h w b text out) (in_code : IsInCode w.stage) where
  -- its rows
  pub rows_held : RowsHeld h w.entities w.row s.done out
  rows_held = by in_code where
    by : IsInCode w.stage → RowsHeld h w.entities w.row s.done out
    by (inl e) = code_held q (subst (λ g. CodeStands (sized h h.yd) (head_place w.entities g w.at w.carried) (code_place w.row w.first w.marker w.decoder) s.done out) s.ungiven (at_stage e s.walk))
        (marker_of w s.at in_code)
    by (inr e) = in_row_held q (subst (λ g. InRowStands (sized h h.yd) (head_place w.entities g w.at w.carried) (code_place w.row w.first w.marker w.decoder) w.place s.done out) s.ungiven
        (at_stage e s.walk)) (marker_of w s.at in_code)

  pub fewer_here : w.entities < stripe_count h.yd h.l0
  fewer_here = rows_held.head.fewer

  pub place_here : place_behind h w.stage w.entities ≡ record { height = h.yd; entities = w.entities + 1; given = false }
  place_here = ap (place_at h.yd) (in_code_entities w.stage w.entities in_code)

-- behind the last stripe only comments came
pub comments_behind : (h : Fields) (w : WalkView) → 1 ≤ h.l0 → IsInCode w.stage → w.left ≡ h.yd - w.entities * h.l0 → {place : Place} {front : List ℕ} {at : Option move.Move} {comments : ℕ}
    (p : HasPassed h place (last_behind h w.stage w.left) (Some front) (Some []) (segments_so_far at (move_came (last_behind h w.stage w.left) at) false comments)) → w.entities + 1 ≡
    stripe_count h.yd h.l0 → AllByRecursion (λ s. IsTrue (is_comment s)) p.segments
comments_behind h w some in_code left {at = at} p last = only_comments p.segments (zero_moves (last_behind h w.stage w.left) is_last_here p.counted)
    (nil_of (lengths p.segments) (let e = p.given_is in omega (arith, e))) where
      all : h.yd ≤ (w.entities + 1) * h.l0
      all = let t = div_ceil_times h.yd h.l0 some in let e = ap (λ (m : ℕ). m * h.l0) last in omega (arith, t.0, e)

      is_last_here : last_behind h w.stage w.left ≡ true
      is_last_here =
          let times : (w.entities + 1) * h.l0 ≡ w.entities * h.l0 + h.l0 = omega arith in
          let le : w.left ≤ h.l0 = omega (arith, left, all, times) in
          let t : nat_le w.left h.l0 ≡ true = grind (arith, nat_tests) in
          in_code_last w.stage (nat_le w.left h.l0) in_code ∙ t

      zero_moves : (l : Bool) → l ≡ true → cond {A = ℕ} (move_came l at) 1 0 ≡ cond {A = ℕ} l 1 0 + count_by is_move p.segments → count_by is_move p.segments ≡ 0
      zero_moves true e c = omega (arith, c)
      zero_moves false e c = absurd (true≢false (sym e))

-- ---- the image ends in the stripe before

module _ (d : PieceView) (q : CoderLaws) (n : ℕ) (p rest : List ℕ) (late : d.is_open ≡ true) (waits : d.waits ≡ true) (between : d.behind.comment ≡ None) (in_code : IsInCode d.walk.stage)
    (comes : HeightComes (fields_of d.header) d.walk n p rest)
    (fits : d.walk.left - (d.header.yd - n) ≤ d.header.l0) (few : d.walk.left - (d.header.yd - n) ≤ d.walk.row) where
  abbrev h : Fields
  h = fields_of d.header

  -- the rows of the last stripe
  abbrev k : ℕ
  k = d.walk.left - (d.header.yd - n)

  valid : is_valid_length h (d.walk.entities + 1) n ≡ true
  valid = subst (λ z. is_valid_length h z n ≡ true) (in_code_entities d.walk.stage d.walk.entities in_code) comes.valid

  over : d.walk.entities * d.header.l0 < n
  over = let o = valid_over h (d.walk.entities + 1) n valid in let e : (d.walk.entities + 1 - 1) * d.header.l0 ≡ d.walk.entities * d.header.l0 =
      ap (λ (m : ℕ). m * d.header.l0) (let z : d.walk.entities + 1 - 1 ≡ d.walk.entities = omega arith in z) in omega (arith, o, e)

  within : n ≤ d.header.yd
  within = comes.legal.2

  module _ {text out : List ℕ} (s : DecoderStands d text out) where
    abbrev w : WalkWaits h d.walk d.behind text out
    w = waits_of d text out late waits s

    r : RowsHeld h d.walk.entities d.walk.row w.done out
    r = rows_held h d.walk d.behind text out q w in_code

    n_is : n ≡ d.walk.entities * d.header.l0 + k
    n_is = let left = w.walk.left_is in let low = over in let high = within in omega (arith, left, low, high)

    some : 1 ≤ k
    some = let is = n_is in let low = over in omega (arith, is, low)

    passed : HasPassed h (record { height = d.header.yd; entities = d.walk.entities + 1; given = false }) (last_behind h d.walk.stage d.walk.left) (Some w.behind.front) (Some [])
        (segments_so_far d.behind.at (move_came (last_behind h d.walk.stage d.walk.left) d.behind.at) false w.behind.comments)
    passed = subst (λ z. HasPassed h z (last_behind h d.walk.stage d.walk.left) (Some w.behind.front) (Some [])
        (segments_so_far d.behind.at (move_came (last_behind h d.walk.stage d.walk.left) d.behind.at) false w.behind.comments)) (place_here h d.walk d.behind text out q w in_code) w.behind.passed

    comments : d.walk.entities + 1 ≡ stripe_count d.header.yd d.header.l0 → AllByRecursion (λ s. IsTrue (is_comment s)) passed.segments
    comments = comments_behind h d.walk d.header.some_rows in_code w.walk.left_is passed

    front : (back : List ℕ) → text ++ back ≡ w.done ++ (w.behind.front ++ back)
    front back = ap (λ z. z ++ back) w.text_is ∙ append_assoc w.done w.back back ∙ ap (λ z. w.done ++ (z ++ back)) (front_is w.behind between)

    body : (more : List ℕ) → (text ++ p) ++ more ≡ w.done ++ (w.behind.front ++ (segment_bytes (NewLength n) ++ (rest ++ more)))
    body more = append_assoc text p more ∙ front (p ++ more) ∙ ap (λ z. w.done ++ (w.behind.front ++ z)) (ap (λ z. z ++ more) comes.piece_is ∙ append_assoc (segment_bytes (NewLength n)) rest more)

  pub late_whole : (is_all : Bool) → EndsWhole is_all d p n
  late_whole is_all text out more s follows = record {
    height_is = λ m is. one_height_of ((text ++ p) ++ more) m n (own_height d.header).accepted is
        (inl (subst (λ z. GivesHeight h z n) (sym (body s more)) (late_gives q (own_height d.header).accepted (r s) n k (n_is s) few (some s) fits within (s.height.variable late) valid (passed s)
        (comments s) (rest ++ more))));
    rows = (r s).head.stripes.rows ++ (r s).rows;
    denotes = subst (λ z. DenotesAt h n z (record { width = d.header.xd; rows = take n ((r s).head.stripes.rows ++ (r s).rows) })) (sym (body s more))
        (late_denotes q (own_height d.header).accepted (r s) n k (n_is s) few (some s) fits within ((w s).behind.front ++ (segment_bytes (NewLength n) ++ (rest ++ more))));
    out_is = late_out q (own_height d.header).accepted (r s) n k (n_is s) few (some s) fits within;
  }

  pub late_consumed : (d' : PieceView) (is_all : Bool) → waits_behind d' ≡ true → EndsConsumed is_all d d' p rest n
  late_consumed d' is_all still text out more s follows = (
    segment_bytes (NewLength n),
    comes.piece_is,
    subst (λ b. ConsumesImage h b n (text ++ segment_bytes (NewLength n)) ((text ++ p) ++ more)) (sym still)
        (subst (λ z. ConsumesImage h true n z ((text ++ p) ++ more)) (sym (front s (segment_bytes (NewLength n))))
        (late_consumes q (own_height d.header).accepted (r s) n k (n_is s) few (some s) fits within (passed s) ((text ++ p) ++ more))),
  )

-- ---- the height is raised

pub height_over : (d e : PieceView) (n : ℕ) (p rest : List ℕ) → d.is_open ≡ true → d.waits ≡ true → SomeStand d → HeadEntered d e → HeightComes (fields_of d.header) d.walk n p rest →
    (IsInCode d.walk.stage → d.header.l0 < d.walk.left - (d.header.yd - n)) →
    e.walk.entities * d.header.l0 < n
height_over d e n p rest late waits some head comes beyond = by w.at where
  w : WalkWaits (fields_of d.header) d.walk d.behind some.0 some.1
  w = waits_of d some.0 some.1 late waits some.2

  by : IsAtMarker d.walk → e.walk.entities * d.header.l0 < n
  by (inl k) =
      let zero : e.walk.entities ≡ 0 = head.entities ∙ ap (λ z. entities_behind z d.walk.entities) k.0 ∙ k.2 in
      let times : e.walk.entities * d.header.l0 ≡ 0 * d.header.l0 = ap (λ (m : ℕ). m * d.header.l0) zero in
      let none : 0 * d.header.l0 ≡ 0 = omega arith in
      omega (arith, times, none, comes.legal.1)
  by (inr k) =
      let next : e.walk.entities ≡ d.walk.entities + 1 = head.entities ∙ in_code_entities d.walk.stage d.walk.entities k.0 in
      let times : e.walk.entities * d.header.l0 ≡ (d.walk.entities + 1) * d.header.l0 = ap (λ (m : ℕ). m * d.header.l0) next in
      let one : (d.walk.entities + 1) * d.header.l0 ≡ d.walk.entities * d.header.l0 + d.header.l0 = omega arith in
      let left = w.walk.left_is in
      let more = beyond k.0 in
      omega (arith, times, one, left, more, comes.legal.2)

pub raised_on : (d e d' : PieceView) (n : ℕ) (p rest : List ℕ) → d.is_open ≡ true → d.waits ≡ true → HeadEntered d e → d.behind.comment ≡ None → HeightComes (fields_of d.header) d.walk n p rest →
    e.walk.entities * d.header.l0 < n →
    d'.header ≡ e.header → d'.height ≡ n → d'.is_open ≡ false → d'.walk ≡ record e.walk { left = e.walk.left - (d.header.yd - n); given = true } → DecoderOn d d' p rest []
raised_on d e d' n p rest late waits head between comes over header height closed walk text out s = (
  segment_bytes (NewLength n),
  comes.piece_is,
  put_walks d' (text ++ segment_bytes (NewLength n)) (out ++ []) closed
      (subst (λ z. HeightKnown (fields_of z) d'.height d'.is_open (text ++ segment_bytes (NewLength n))) (sym (header ∙ head.keeps.header))
      (subst (λ m. HeightKnown (fields_of d.header) m d'.is_open (text ++ segment_bytes (NewLength n))) (sym height)
      (subst (λ b. HeightKnown (fields_of d.header) n b (text ++ segment_bytes (NewLength n))) (sym closed) known)))
      (subst (λ z. WalkStands (sized (fields_of z) d'.height) d'.walk (text ++ segment_bytes (NewLength n)) (out ++ [])) (sym (header ∙ head.keeps.header))
      (subst (λ m. WalkStands (sized (fields_of d.header) m) d'.walk (text ++ segment_bytes (NewLength n)) (out ++ [])) (sym height)
      (subst (λ z. WalkStands (sized (fields_of d.header) n) z (text ++ segment_bytes (NewLength n)) (out ++ [])) (sym walk)
      (subst (WalkStands (sized (fields_of d.header) n) (record e.walk { left = e.walk.left - (d.header.yd - n); given = true }) (text ++ segment_bytes (NewLength n)))
      (sym (append-nil out)) now)))),
) where
  there : WalkStands (sized (fields_of d.header) d.header.yd) e.walk text out
  there = head.stands text out (waits_of d text out late waits s)

  is_head : e.walk.stage ≡ stage.Head
  is_head = head.stage ∙ ap head_kind between

  in_head : HeadStands (sized (fields_of d.header) d.header.yd) (head_place e.walk.entities false e.walk.at e.walk.carried) text out
  in_head = subst (λ g. HeadStands (sized (fields_of d.header) d.header.yd) (head_place e.walk.entities g e.walk.at e.walk.carried) text out) head.given (at_stage is_head there)

  variable : IsTrue (is_variable (fields_of d.header))
  variable = s.height.variable late

  valid : is_valid_length (fields_of d.header) e.walk.entities n ≡ true
  valid = subst (λ m. is_valid_length (fields_of d.header) m n ≡ true) (sym head.entities) comes.valid

  known : HeightKnown (fields_of d.header) n false (text ++ segment_bytes (NewLength n))
  known = record {
    variable = λ e. absurd (true≢false (sym e));
    first = λ e. absurd (true≢false (sym e));
    came = λ _ _ more. at_height in_head n variable valid more;
    fixed = λ _ v. absurd (true≢false (sym variable ∙ v));
  }

  now : WalkStands (sized (fields_of d.header) n) (record e.walk { left = e.walk.left - (d.header.yd - n); given = true }) (text ++ segment_bytes (NewLength n)) out
  now = record {
    left_is = (let left = there.left_is in omega (arith, left, over, comes.legal.2));
    width_is = there.width_is;
    code_is = there.code_is;
    behind = there.behind;
    within = there.within;
    stands = put_stage (fields_of d.header) n (record e.walk { left = e.walk.left - (d.header.yd - n); given = true }) (text ++ segment_bytes (NewLength n)) out stage.Head is_head
        (head_raised in_head n variable valid d.header.some_rows comes.legal over);
  }

-- ---- what came behind the marker

pub passed_on : (d d1 : PieceView) (b : Head) (p p1 : List ℕ) → d.is_open ≡ true → d.waits ≡ true → d1.header ≡ d.header → d1.height ≡ d.height → d1.is_open ≡ d.is_open → d1.waits ≡ d.waits →
    d1.walk ≡ d.walk → d1.behind ≡ b →
    BehindOn (fields_of d.header) (behind_at (place_behind (fields_of d.header) d.walk.stage d.walk.entities) (last_behind (fields_of d.header) d.walk.stage d.walk.left)) d.behind b p p1 →
    DecoderOn d d1 p p1 []
passed_on d d1 b p p1 late waits header height is_open same_waits walk behind on text out s =
    let w = waits_of d text out late waits s in
    let k = on w.back w.behind in (
      k.0,
      k.1,
      put_waits d1 (text ++ k.0) (out ++ []) (is_open ∙ late) (same_waits ∙ waits)
          (subst (λ z. HeightKnown (fields_of z) d1.height d1.is_open (text ++ k.0)) (sym header) (subst (λ m. HeightKnown (fields_of d.header) m d1.is_open (text ++ k.0)) (sym height)
          (subst (λ z. HeightKnown (fields_of d.header) d.height z (text ++ k.0)) (sym is_open) (known_more (fields_of d.header) d.height d.is_open text k.0 s.height))))
          (subst (λ z. WalkWaits (fields_of z) d1.walk d1.behind (text ++ k.0) (out ++ [])) (sym header) (subst (λ z. WalkWaits (fields_of d.header) z d1.behind (text ++ k.0) (out ++ [])) (sym walk)
          (subst (λ z. WalkWaits (fields_of d.header) d.walk z (text ++ k.0) (out ++ [])) (sym behind) (record {
            done = w.done;
            back = w.back ++ k.0;
            text_is = ap (λ z. z ++ k.0) w.text_is ∙ append_assoc w.done w.back k.0;
            walk = subst (WalkStands (sized (fields_of d.header) d.header.yd) d.walk w.done) (sym (append-nil out)) w.walk;
            at = w.at;
            ungiven = w.ungiven;
            in_time = λ code. in_time_more [] (w.in_time code);
            behind = k.2;
          })))),
    )

-- the same, where a struct keeps what came
pub passed_behind : (d d1 : PieceView) (a b : Head) (p p1 : List ℕ) (place : Place) (last : Bool) → d.is_open ≡ true → d.waits ≡ true → d.behind ≡ a → d1.header ≡ d.header → d1.height ≡ d.height →
    d1.is_open ≡ true → d1.waits ≡ true → d1.walk ≡ d.walk → d1.behind ≡ b →
    place ≡ place_behind (fields_of d.header) d.walk.stage d.walk.entities → last ≡ last_behind (fields_of d.header) d.walk.stage d.walk.left →
    BehindOn (fields_of d.header) (behind_at place last) a b p p1 → DecoderOn d d1 p p1 []
passed_behind d d1 a b p p1 place last late waits behind header height late' waits' walk now place_is last_is on =
    passed_on d d1 b p p1 late waits header height (late' ∙ sym late) (waits' ∙ sym waits) walk now
    (subst (λ z. BehindOn (fields_of d.header) (behind_at (place_behind (fields_of d.header) d.walk.stage d.walk.entities) (last_behind (fields_of d.header) d.walk.stage d.walk.left)) z b p p1)
    (sym behind)
    (subst (λ z. BehindOn (fields_of d.header) (behind_at z (last_behind (fields_of d.header) d.walk.stage d.walk.left)) a b p p1) place_is
    (subst (λ l. BehindOn (fields_of d.header) (behind_at place l) a b p p1) last_is on)))

pub own_first : (d : PieceView) → d.is_open ≡ true → SomeStand d → d.height ≡ d.header.yd
own_first d late some = some.2.height.first late
