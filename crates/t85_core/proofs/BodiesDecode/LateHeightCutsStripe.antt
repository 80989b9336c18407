-- A height that comes behind an end marker, and has not all rows of the stripe before.
use Rattle.std.proofs.Common.{◌≡◌, ◌<◌, ◌≤◌, ◌+◌, ◌-◌, ◌*◌, inl, inr, ℕ, Bool, true, false, List, [], ◌∷◌, ◌++◌, length, take, min, Option, None, Some, refl, sym, ap, ◌∙◌, subst, append_assoc, append-nil, length-append, arith}
use Rattle.std.specs.Prelude.{flat_map, IsTrue}
use Rattle.std.specs.List.{AllByRecursion}
use Rattle.std.proofs.lemmas.List.{length-take-le}
use Rattle.std.proofs.lemmas.Grind.{flat_map-append}
use Rattle.std.proofs.Math.Seq.{take-append-add}
use Rattle.qm_core.specs.Code.{stuffed, Lies}
use Rattle.qm_core.specs.Source.{bytes_of, heard_of, IsClosed, Agrees}
use Rattle.qm_core.specs.declared.source.Pulled.{Pulled}
use Rattle.qm_core.specs.declared.source.Heard.TheVariants.{Ended}
use Rattle.qm_core.specs.declared.decoder.Decoder.{Decoder}
use Rattle.raster_core.specs.Packed.{packed_row}
use Rattle.raster_core.specs.declared.place.RowPlace.{RowPlace}
use Rattle.raster_core.specs.declared.shape.Shape.{Shape}
use Rattle.t85_core.specs.declared.segments.Code as code_type
use Rattle.t85_core.specs.declared.segments.atmove.Move as move
use Rattle.t85_core.specs.Lent.{Carried}
use Rattle.t85_core.specs.Header.{Fields, IsAccepted, is_variable}
use Rattle.t85_core.specs.Grammar.{AreStripes, NewLength, Stripe, segment_bytes, stripe_bytes, marker_bytes, stripe_count, all_segments, lengths, is_comment, is_valid_length}
use Rattle.t85_core.specs.Height.{GivesHeight}
use Rattle.t85_core.specs.Consumed.{ConsumesImage}
use Rattle.t85_core.specs.States.Segments.{HasPassed, segments_so_far}
use Rattle.t85_core.specs.Coding.{mode_of, move_of, flagged}
use Rattle.t85_core.specs.Denotes.{DenotesAt}
use Rattle.t85_core.specs.Private.CoderLaws.{CoderLaws}
use Rattle.t85_core.specs.States.State.{RowStart, first_row_start, image_start, next_stripe_start, Run, StripeRun, StripesRun, stripe_coding}
use Rattle.t85_core.specs.States.Cut.{open_stripe}
use Rattle.t85_core.specs.States.DecodeRows.{rows_done}
use Rattle.t85_core.specs.States.PieceCode.{CodeText, RowsKnown}
use Rattle.t85_core.specs.Private.PieceCode.{MarkerFound}
use Rattle.t85_core.specs.States.Pieces.{HeadStands, CodeStands, InRowStands, head_place, code_place}
use Rattle.t85_core.specs.States.SizedImage.{sized}
use Rattle.t85_core.proofs.BytesJoin.ListsGrow.{flat_map_push}
use Rattle.t85_core.proofs.BytesJoin.SegmentsGiveHeights.{lengths_append, gives_none}
use Rattle.t85_core.proofs.StreamsAreWalked.StripeIsPassed.{segments_push}
use Rattle.t85_core.proofs.BytesJoin.ListsKeepElements.{all_right}
use Rattle.t85_core.proofs.StreamsDenote.CodesDecideStripes.{start_IsPlace}
use Rattle.t85_core.proofs.BodiesDecode.RunsGrow.{stripes_push}
use Rattle.t85_core.proofs.BodiesDecode.RowsFillStripe.{bytes_append}
use Rattle.t85_core.proofs.BodiesDecode.StripesDenoteRaster.{carried_denotes, run_many, stripes_whole}
use Rattle.t85_core.proofs.BodiesDecode.FewerRowsLead.{Front, run_front}
use Rattle.t85_core.proofs.BodiesDecode.MarkerIsFound.{found_before, found_ahead}
use Rattle.t85_core.proofs.BodiesDecode.WalkGoesOn.{nil_of}
use Rattle.t85_core.proofs.BodiesDecode.LateHeightKeepsStripes.{other_run, stripes_of}
use Rattle.t85_core.proofs.BodiesDecode.WholeCodeNeverBreaks.{Marked}
use Rattle.t85_core.proofs.BodiesDecode.CodeComesInPieces.{nothing_after}

-- First rows of a stripe whose code came whole, in a stream that gave no height.
pub record RowsHeld (h : Fields) (entities row : ℕ) (text out : List ℕ) : Type 0 where
  pub at : Option move.Move
  pub start : Carried
  pub before : List ℕ
  pub began : List ℕ
  pub head : HeadStands (sized h h.yd) (head_place entities false at start) before began
  pub code : List ℕ
  pub small : AllByRecursion (λ b. b < 256) code
  pub reset : Bool
  pub rows : List (List Bool)
  pub flags : List Bool
  pub last : RowStart
  pub run : Run (stripe_coding h head.passed.segments) 0 (first_row_start head.stripes.next) rows flags last
  pub many : length rows ≡ row
  pub lies : Lies code last.state.place
  pub text_is : text ≡ before ++ (stuffed code ++ marker_bytes reset)
  pub out_is : out ≡ began ++ flat_map packed_row rows

-- the code of its text
marker_found : (first : Option code_type.Code) (marker : Option Bool) (answers : List Pulled) (extra text : List ℕ) → CodeText first marker answers extra text → Marked first marker → (reset : Bool) ×
    MarkerFound answers text [] [] reset
marker_found first (Some reset) answers extra text o m = (reset, found_before first (Some reset) [] reset refl answers extra text o)
marker_found first None answers extra text o (reset, inl e) = absurd (let bot : ⊥ = cc in bot)
marker_found first None answers extra text o (reset, inr e) = (reset, found_ahead first None [] reset refl e answers extra text o)

whole_of : {answers : List Pulled} {text : List ℕ} {reset : Bool} (m : MarkerFound answers text [] [] reset) → text ≡ stuffed m.code ++ marker_bytes reset
whole_of {answers} {text} {reset} m = sym (append-nil text) ∙ ap (λ z. text ++ z) (sym none) ∙ m.text_is where
  none : m.given ≡ []
  none = sym (append-nil m.given) ∙ sym m.taken

marked_rows : {h : Fields} {entities row : ℕ} {at : Option move.Move} {start carried : Carried} {shape : Shape} {d : Decoder} {before began text out code : List ℕ} {answers : List Pulled}
    (head : HeadStands (sized h h.yd) (head_place entities false at start) before began)
    (read : RowsKnown (open_stripe h head.stripes.next head.passed.segments) shape (rows_done row carried d) began out) (m : (reset : Bool) × MarkerFound answers code [] [] reset) →
    Lies m.1.code read.last.state.place → text ≡ before ++ code → RowsHeld h entities row text out
marked_rows {at = at} {start = start} {before = before} {began = began} head read m lies text_is = record {
  at = at;
  start = start;
  before = before;
  began = began;
  head = head;
  code = m.1.code;
  small = m.1.small;
  reset = m.0;
  rows = read.rows;
  flags = read.flags;
  last = read.last;
  run = read.so_far.run;
  many = read.many;
  lies = lies;
  text_is = text_is ∙ ap (λ z. before ++ z) (whole_of m.1);
  out_is = read.appended;
}

-- between two rows
pub code_held : CoderLaws → {h : Fields} {entities : ℕ} {at : Option move.Move} {row : ℕ} {first : Option code_type.Code} {marker : Option Bool} {carried : Carried} {d : Decoder} {text out : List ℕ} →
    CodeStands (sized h h.yd) (head_place entities false at carried) (code_place row first marker d) text out → Marked first marker → RowsHeld h entities row text out
code_held q {h} {entities} {at} {row} {first} {marker} {carried} {d} {text} {out} s marked =
    let m = marker_found first marker s.read.answers s.extra s.code s.code_is marked in
    marked_rows s.head s.read m (q.answers_lie d s.read.last.state.place s.read.answers m.1.code s.read.stands m.1.agrees) s.text_is

first_answers : (xs ys : List Pulled) (c : List ℕ) → IsClosed (xs ++ ys) → AllByRecursion (λ b. b < 256) c → Agrees (xs ++ ys) c → Agrees xs c
first_answers xs ys c closed small a = record {
  rest = bytes_of ys ++ a.rest;
  is = is;
  bytes = all_right (λ b. b < 256) (bytes_of xs) (bytes_of ys ++ a.rest) (subst (AllByRecursion (λ b. b < 256)) is small);
  ended = λ e. ended e (nothing_after xs ys e closed);
} where
  is : c ≡ bytes_of xs ++ (bytes_of ys ++ a.rest)
  is = a.is ∙ ap (λ z. z ++ a.rest) (bytes_append xs ys) ∙ append_assoc (bytes_of xs) (bytes_of ys) a.rest

  ended : heard_of xs ≡ Ended → ys ≡ [] → bytes_of ys ++ a.rest ≡ []
  ended e none =
      ap (λ z. bytes_of z ++ a.rest) none
      ∙ a.ended (ap (λ z. heard_of (xs ++ z)) none ∙ ap heard_of (append-nil xs) ∙ e)

-- in a row
pub in_row_held : CoderLaws → {h : Fields} {entities : ℕ} {at : Option move.Move} {row : ℕ} {first : Option code_type.Code} {marker : Option Bool} {carried : Carried} {d : Decoder} {in_row : RowPlace}
    {text out : List ℕ} →
    InRowStands (sized h h.yd) (head_place entities false at carried) (code_place row first marker d) in_row text out → Marked first marker → RowsHeld h entities row text out
in_row_held q {h} {entities} {at} {row} {first} {marker} {carried} {d} {in_row} {text} {out} s marked =
    let m = marker_found first marker (s.begun.read.answers ++ s.begun.since) [] s.code s.code_is marked in
    marked_rows s.head s.begun.read m (q.answers_lie s.begun.decoder s.begun.read.last.state.place s.begun.read.answers m.1.code s.begun.read.stands
    (first_answers s.begun.read.answers s.begun.since m.1.code closed m.1.small m.1.agrees)) s.text_is
  where
    by : (b : Bool) → in_row.is_begun ≡ b → IsClosed (s.begun.read.answers ++ s.begun.since)
    by true e = (s.begun.stands.in_it e).stands.closed
    by false e = (s.begun.stands.before_it e).stands.closed

    closed : IsClosed (s.begun.read.answers ++ s.begun.since)
    closed = by in_row.is_begun refl

-- A height that has k rows of the stripe: the image is the first rows of those that were given.
module _ {h : Fields} {entities row : ℕ} {text out : List ℕ} (q : CoderLaws) (ok : IsAccepted h) (r : RowsHeld h entities row text out) (n k : ℕ) (n_is : n ≡ entities * h.l0 + k) (few : k ≤ row)
    (some : 1 ≤ k) (fits : k ≤ h.l0) (within : n ≤ h.yd) where
  abbrev stripe : Stripe
  stripe = record { segments = r.head.passed.segments; code = r.code; reset = r.reset }

  abbrev R : List (List Bool)
  R = r.head.stripes.rows

  abbrev S : List Stripe
  S = r.head.stripes.stripes

  counted : length S * h.l0 ≡ entities * h.l0
  counted = ap (λ (m : ℕ). m * h.l0) r.head.stripes.many

  none_before : lengths (all_segments S) ≡ []
  none_before = nil_of (lengths (all_segments S)) (let a = r.head.stripes.gives_in.heights_are in let b = r.head.passed.given_is in omega (arith, a, b))

  none_here : lengths r.head.passed.segments ≡ []
  none_here = nil_of (lengths r.head.passed.segments) (let b = r.head.passed.given_is in omega (arith, b))

  before_run : StripesRun h n (image_start h.xd) S (flagged R r.head.stripes.flags) r.head.stripes.next
  before_run = other_run h h.yd n (image_start h.xd) S R r.head.stripes.flags r.head.stripes.next (omega (arith, counted, n_is)) (omega (arith, counted, n_is, within)) r.head.stripes.run

  before_many : length R ≡ entities * h.l0
  before_many = let e = run_many h n (image_start h.xd) S R r.head.stripes.flags r.head.stripes.next before_run in omega (arith, e, counted, n_is)

  abbrev front : Front h.xd (mode_of h.options) (move_of r.head.passed.segments) 0 (first_row_start r.head.stripes.next) r.rows r.code k
  front = run_front q h.xd (mode_of h.options) (move_of r.head.passed.segments) 0 (first_row_start r.head.stripes.next) r.rows r.flags r.last r.code k start_IsPlace r.run r.lies

  stripe_run : StripeRun h k r.head.stripes.next stripe (flagged (take k r.rows) front.flags) (next_stripe_start h.xd r.reset front.last)
  stripe_run = record {
    whole = record { legal = r.head.passed.begun.legal; one_move = r.head.passed.begun.one_move; bytes = r.small };
    last = front.last;
    run = front.run;
    many = length-take-le k r.rows (let m = r.many in omega (arith, few, m));
    lies = front.lies;
    next_is = refl;
  }

  all_run : StripesRun h n (image_start h.xd) (S ++ stripe ∷ []) (flagged (R ++ take k r.rows) (r.head.stripes.flags ++ front.flags)) (next_stripe_start h.xd r.reset front.last)
  all_run = stripes_push h n (image_start h.xd) S R r.head.stripes.flags r.head.stripes.next stripe (take k r.rows) front.flags (next_stripe_start h.xd r.reset front.last) before_run
      (subst (λ m. StripeRun h m r.head.stripes.next stripe (flagged (take k r.rows) front.flags) (next_stripe_start h.xd r.reset front.last))
      (let e : k ≡ min (n - length S * h.l0) h.l0 = omega (arith, counted, n_is, fits) in e) stripe_run)

  text_is : text ≡ flat_map stripe_bytes (S ++ stripe ∷ [])
  text_is =
      r.text_is ∙ ap (λ z. z ++ (stuffed r.code ++ marker_bytes r.reset)) r.head.text_is ∙ append_assoc r.head.front r.head.back (stuffed r.code ++ marker_bytes r.reset)
      ∙ ap (λ z. z ++ (r.head.back ++ (stuffed r.code ++ marker_bytes r.reset))) (r.head.stripes.taken ∙ append-nil (flat_map stripe_bytes S))
      ∙ ap (λ z. flat_map stripe_bytes S ++ (z ++ (stuffed r.code ++ marker_bytes r.reset))) (r.head.passed.taken ∙ append-nil (flat_map segment_bytes r.head.passed.segments))
      ∙ sym (flat_map_push stripe_bytes S stripe)

  many_here : length (S ++ stripe ∷ []) ≡ entities + 1
  many_here = let long = length-append S (stripe ∷ []) in let many = r.head.stripes.many in omega (arith, long, many)

  all_here : length (S ++ stripe ∷ []) ≡ stripe_count n h.l0
  all_here = many_here ∙ stripes_of n h.l0 entities ok.stripe_from (omega (arith, n_is, some)) (omega (arith, n_is, fits))

  each_here : AreStripes h (S ++ stripe ∷ [])
  each_here = stripes_whole h n (image_start h.xd) (S ++ stripe ∷ []) (R ++ take k r.rows) (r.head.stripes.flags ++ front.flags) (next_stripe_start h.xd r.reset front.last) all_run

  none_so_far : lengths (all_segments (S ++ stripe ∷ [])) ≡ []
  none_so_far = ap lengths (segments_push S stripe) ∙ lengths_append (all_segments S) r.head.passed.segments ∙ ap (λ z. z ++ lengths r.head.passed.segments) none_before ∙ none_here

  -- whatever follows
  pub late_denotes : (rest : List ℕ) → DenotesAt h n (text ++ rest) (record { width = h.xd; rows = take n (R ++ r.rows) })
  late_denotes rest =
      subst (λ z. DenotesAt h n (text ++ rest) (record { width = h.xd; rows = z }))
      (sym (ap (λ m. take m (R ++ r.rows)) (n_is ∙ ap (λ m. m + k) (sym before_many)) ∙ take-append-add R r.rows k))
      (carried_denotes h n (text ++ rest) rest (S ++ stripe ∷ []) (R ++ take k r.rows) (r.head.stripes.flags ++ front.flags) (next_stripe_start h.xd r.reset front.last) ok
      (omega (arith, n_is, some)) within (ap (λ z. z ++ rest) text_is) all_here
      (gives_none n 0 (all_segments (S ++ stripe ∷ [])) (omega arith) none_so_far) all_run)

  pub late_out : out ≡ flat_map packed_row (R ++ r.rows)
  late_out = r.out_is ∙ ap (λ z. z ++ flat_map packed_row r.rows) r.head.stripes.appended ∙ sym (flat_map-append packed_row R r.rows)

  none_with : {at : Option move.Move} {moved : Bool} {last : Bool} {back : List ℕ} {comments : ℕ}
      (p : HasPassed h (record { height = h.yd; entities = entities + 1; given = false }) last (Some back) (Some []) (segments_so_far at moved false comments)) →
      lengths (all_segments (S ++ stripe ∷ []) ++ p.segments) ≡ []
  none_with p = lengths_append (all_segments (S ++ stripe ∷ [])) p.segments ∙ ap (λ z. z ++ lengths p.segments) none_so_far ∙ nil_of (lengths p.segments) (let e = p.given_is in omega (arith, e))

  -- it is the body's height
  pub late_gives : IsTrue (is_variable h) → is_valid_length h (entities + 1) n ≡ true →
      {at : Option move.Move} {moved : Bool} {last : Bool} {back : List ℕ} {comments : ℕ}
      (p : HasPassed h (record { height = h.yd; entities = entities + 1; given = false }) last (Some back) (Some []) (segments_so_far at moved false comments)) →
      (entities + 1 ≡ stripe_count h.yd h.l0 → AllByRecursion (λ s. IsTrue (is_comment s)) p.segments) → (rest : List ℕ) → GivesHeight h (text ++ (back ++ (segment_bytes (NewLength n) ++ rest))) n
  late_gives variable valid {back = back} p comments rest = record {
    variable = variable;
    stripes = S ++ stripe ∷ [];
    segments = p.segments;
    rest = rest;
    body_is = ap (λ z. z ++ (back ++ (segment_bytes (NewLength n) ++ rest))) text_is
        ∙ ap (λ z. flat_map stripe_bytes (S ++ stripe ∷ []) ++ (z ++ (segment_bytes (NewLength n) ++ rest))) (p.taken ∙ append-nil (flat_map segment_bytes p.segments));
    each = each_here;
    begun = p.begun;
    first = none_with p;
    within = (let few = r.head.fewer in let many = many_here in omega (arith, few, many));
    behind = λ e. comments (sym many_here ∙ e);
    valid = subst (λ m. is_valid_length h m n ≡ true) (sym many_here) valid;
  }

  -- the bytes up to it are the image's
  pub late_consumes : {at : Option move.Move} {moved : Bool} {last : Bool} {back : List ℕ} {comments : ℕ}
      (p : HasPassed h (record { height = h.yd; entities = entities + 1; given = false }) last (Some back) (Some []) (segments_so_far at moved false comments)) →
      (whole : List ℕ) → ConsumesImage h true n (text ++ (back ++ segment_bytes (NewLength n))) whole
  late_consumes {back = back} p whole = record {
    stripes = S ++ stripe ∷ [];
    bytes = back ++ segment_bytes (NewLength n);
    consumed_is = ap (λ z. z ++ (back ++ segment_bytes (NewLength n))) text_is;
    each = each_here;
    all = all_here;
    behind = record { segments = p.segments; begun = p.begun; first = none_with p; bytes_are = ap (λ z. z ++ segment_bytes (NewLength n)) (p.taken ∙ append-nil (flat_map segment_bytes p.segments)) };
  }
