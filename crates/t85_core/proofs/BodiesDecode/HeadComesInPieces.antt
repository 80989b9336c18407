-- The head of a stripe that comes in pieces.
use Rattle.std.proofs.Common.{cond, ◌≡◌, ◌≢◌, ◌<◌, ◌+◌, ◌^◌, ℕ, Bool, true, false, List, [], ◌∷◌, ◌++◌, length, nat_lt, Option, None, Some, refl, sym, ap, ◌∙◌, subst, append_assoc, append-nil, length-append, arith}
use Rattle.std.specs.Prelude.{flat_map, is_some}
use Rattle.std.proofs.lemmas.Bool.Decides.{nat_tests}
use Rattle.byteorder.specs.Endian.{big_bytes, big_number}
use Rattle.qm_core.specs.Place.{start}
use Rattle.qm_core.specs.Decoder.{DecoderIsAt}
use Rattle.qm_core.specs.declared.decoder.Decoder.{Decoder}
use Rattle.raster_core.specs.Lines.{Mode}
use Rattle.raster_core.specs.Window.{shape_mode}
use Rattle.raster_core.specs.declared.shape.Shape.{Shape}
use Rattle.t85_core.specs.declared.fault.Fault.{Fault}
use Rattle.t85_core.specs.declared.fault.Fault.TheVariants.{Truncated, Changed}
use Rattle.t85_core.specs.declared.segments.Code as code_type
use Rattle.t85_core.specs.declared.segments.atmove.Move as move
use Rattle.t85_core.specs.declared.segments.Next.TheVariants as next
use Rattle.t85_core.specs.declared.segments.Place.{Place}
use Rattle.t85_core.specs.Lent.{Carried}
use Rattle.t85_core.specs.Header.{Fields}
use Rattle.t85_core.specs.Grammar.{NewLength, ESC, COMMENT, segment_bytes, stripe_bytes, IsLegal, is_valid_length}
use Rattle.t85_core.specs.Coding.{mode_of}
use Rattle.t85_core.specs.Refusal.{Spot, rest_fault}
use Rattle.t85_core.specs.Failures.{Ends, counted_as, reads_after}
use Rattle.t85_core.specs.Laws.{IsInUse}
use Rattle.t85_core.specs.Private.CoderLaws.{CoderLaws}
use Rattle.t85_core.specs.States.Segments.{HasPassed, IsByteOrMarker, code_bytes, segments_so_far}
use Rattle.t85_core.specs.Private.Segments.{PassesSegment, PieceFault, HeadFault, spot_at}
use Rattle.t85_core.specs.States.DecodeRows.{IsShapeOf}
use Rattle.t85_core.specs.Private.DecodeStripes.{StripeCut, stripe_place}
use Rattle.t85_core.specs.States.DecodeStripes.{StripesRead, ImageCut}
use Rattle.t85_core.specs.States.PieceCode.{Anything}
use Rattle.t85_core.specs.States.Pieces.{CutOff, HeadStands, CommentStands, CodeStands, rows_in, head_place, code_place}
use Rattle.t85_core.specs.States.SizedImage.{sized}
use Rattle.t85_core.specs.States.Passage.{passage}
use Rattle.t85_core.proofs.BytesJoin.WalkEnds.{Ends-after}
use Rattle.t85_core.proofs.BytesJoin.BytesAreKnown.{counted-other}
use Rattle.t85_core.proofs.StreamsAreWalked.StripeIsPassed.{passed_length, segments_passed, cut_segments, cut_head, head_changed}
use Rattle.t85_core.proofs.StreamsAreWalked.SegmentsAreChecked.{comment_cut}
use Rattle.t85_core.proofs.BodiesDecode.ImageIsPut.{image_cut}
use Rattle.t85_core.proofs.BodiesDecode.RowIsPut.{rows_begin}
use Rattle.t85_core.proofs.BodiesDecode.StripeBreaksEarly.{stripe_head}

-- ---- with what comes after them

abbrev pub stripes_ext : {h : Fields} {height : ℕ} {front : List ℕ} {count heights : ℕ} {carried : Carried} {text text' : Option (List ℕ)} →
    StripesRead h height (passage (Some front) (Some []) text text') count heights carried → (p : List ℕ) →
    StripesRead h height (passage (Some (front ++ p)) (Some p) text text') count heights carried
stripes_ext r p = record {
  stripes = r.stripes;
  many = r.many;
  gives_in = r.gives_in;
  taken = ap (λ z. z ++ p) (r.taken ∙ append-nil (flat_map stripe_bytes r.stripes));
  rows = r.rows;
  flags = r.flags;
  next = r.next;
  run = r.run;
  is_carried = r.is_carried;
  appended = r.appended;
}

abbrev pub passed_ext : {h : Fields} {place : Place} {before : Bool} {back : List ℕ} {at : Option move.Move} {moved given : Bool} {comments : ℕ} →
    HasPassed h place before (Some back) (Some []) (segments_so_far at moved given comments) → (p : List ℕ) →
    HasPassed h place before (Some (back ++ p)) (Some p) (segments_so_far at moved given comments)
passed_ext r p = record {
  segments = r.segments;
  begun = r.begun;
  gives = r.gives;
  given_is = r.given_is;
  move_is = r.move_is;
  counted = r.counted;
  found = r.found;
  told = r.told;
  taken = ap (λ z. z ++ p) (r.taken ∙ append-nil (flat_map segment_bytes r.segments));
}

-- the shape of a stream's rows
abbrev pub shape_of : Fields → Shape
shape_of h = record { width = h.xd; two_line = (mode_of h.options).two_line; typical = (mode_of h.options).typical }

-- it is the only one
pub shape_is : (h : Fields) (shape : Shape) → IsShapeOf h shape → shape ≡ shape_of h
shape_is h shape is = ap (λ w. made w (shape_mode shape)) is.width_is ∙ ap (made h.xd) is.mode_is where
  made : ℕ → Mode → Shape
  made w m = record { width = w; two_line = m.two_line; typical = m.typical }

-- all of a segment
abbrev pub whole_segment : {h : Fields} (s : _) → IsLegal h s → PassesSegment h (Some (segment_bytes s)) (Some []) s
whole_segment s legal = record { legal = legal; taken = sym (append-nil (segment_bytes s)) }

module _ {h : Fields} {height entities : ℕ} {given : Bool} {at : Option move.Move} {carried : Carried} {text out : List ℕ}
    (s : HeadStands (sized h height) (head_place entities given at carried) text out) where
  abbrev pub place : Place
  place = record { height = height; entities = entities; given = s.before }

  all_text : (p : List ℕ) → s.front ++ (s.back ++ p) ≡ text ++ p
  all_text p = sym (append_assoc s.front s.back p) ∙ ap (λ z. z ++ p) (sym s.text_is)

  -- ---- segments

  pub head_length : (n : ℕ) → given ≡ false → n ≡ height → IsLegal h (NewLength n) → HeadStands (sized h height) (head_place entities true at carried) (text ++ segment_bytes (NewLength n)) out
  head_length n none same legal = record {
    before = s.before;
    front = s.front;
    back = s.back ++ segment_bytes (NewLength n);
    text_is = ap (λ z. z ++ segment_bytes (NewLength n)) s.text_is ∙ append_assoc s.front s.back (segment_bytes (NewLength n));
    stripes = s.stripes;
    comments = s.comments;
    passed = passed_length (passed_ext s.passed (segment_bytes (NewLength n))) n none same (whole_segment (NewLength n) legal);
    fewer = s.fewer;
  }

  -- the code begins
  pub head_code : (c : code_type.Code) → IsByteOrMarker c → (d : Decoder) → DecoderIsAt d start [] →
      CodeStands (sized h height) (head_place entities given at carried) (code_place 0 (Some c) None d) (text ++ code_bytes c) out
  head_code c is d stands = record {
    before = text;
    began = out;
    start = carried;
    head = s;
    shape = shape_of h;
    read = rows_begin Anything tt h (shape_of h) s.stripes.next s.passed.segments carried d (Some out) stands (record { width_is = refl; mode_is = refl }) s.stripes.is_carried;
    few = omega arith;
    extra = [];
    rows_first = λ _. refl;
    code = code_bytes c;
    code_is = record { going = refl; bytes = tt; small = tt; ahead = is; begun = λ none. absurd (let bot : ⊥ = cc in bot); text_is = refl };
    text_is = refl;
  }

  -- ---- faults

  module _ (q : CoderLaws) (use_ : IsInUse h height) where
    pub head_breaks : (out' p p' : List ℕ) (f : Fault) → counted_as Truncated f ≡ f →
        StripeCut h (stripe_place (spot_at place) s.stripes.next (rows_in h height entities)) (passage (Some (s.back ++ p)) (Some p') (Some out) (Some out')) f →
        CutOff (sized h height) (text ++ p) out' f
    head_breaks out' p p' f counted cut = record {
      counted = counted;
      unread = p';
      cut = subst (λ z. ImageCut h height (passage (Some z) (Some p') (Some []) (Some out')) f) (all_text p)
          (image_cut h height (Some (s.front ++ (s.back ++ p))) (Some (s.back ++ p)) (Some p') entities (cond s.before 1 0) (rows_in h height entities) carried carried (Some []) (Some out) (Some out')
          (stripes_ext s.stripes (s.back ++ p)) refl q use_ s.fewer f cut);
    }

    head_fault : (p p' : List ℕ) (f : Fault) → counted_as Truncated f ≡ f → Ends Truncated (Some (s.back ++ p)) (Some p') (HeadFault h (spot_at place)) f → CutOff (sized h height) (text ++ p) out f
    head_fault p p' f counted ends = head_breaks out p p' f counted (stripe_head h (spot_at place) s.stripes.next (Some (s.back ++ p)) (Some p') (rows_in h height entities)
        (Some out) f use_.accepted.width_from ends)

    -- a segment breaks
    pub head_cut : (p p' : List ℕ) (f : Fault) → counted_as Truncated f ≡ f →
        Ends Truncated (Some p) (Some p') (PieceFault h (record { height = height; entities = entities; given = given }) (is_some at)) f →
        CutOff (sized h height) (text ++ p) out f
    head_cut p p' f counted ends = head_fault p p' f counted (cut_head (cut_segments (passed_ext s.passed p) ends))

    -- a height isn't the one in use
    pub head_other : (p p' : List ℕ) (n : ℕ) → given ≡ false → is_valid_length h entities n ≡ true → IsLegal h (NewLength n) → n ≢ height → p ≡ segment_bytes (NewLength n) ++ p' →
        CutOff (sized h height) (text ++ p) out Changed
    head_other p p' n none valid legal other taken =
        head_fault p p' Changed refl (head_changed n use_.accepted.height_to refl (segments_passed (passed_ext s.passed p) (next.Height n) (none, valid, legal, other) taken))

    -- the piece ends in a comment
    pub comment_breaks : (n : ℕ) (part : List ℕ) → n < 2 ^ 32 → length part < n →
        CutOff (sized h height) (text ++ (ESC ∷ COMMENT ∷ (big_bytes 4 n ++ part))) out Truncated
    comment_breaks n part small short = head_cut (ESC ∷ COMMENT ∷ (big_bytes 4 n ++ part)) [] Truncated refl (record {
      given = ESC ∷ COMMENT ∷ (big_bytes 4 n ++ part);
      taken = sym (append-nil (ESC ∷ COMMENT ∷ (big_bytes 4 n ++ part)));
      has_fault = λ other. comment_cut n part small short;
      at_end = λ _. refl;
    })

-- no read has failed
pub counted_of : (f : Fault) → 0 ≡ reads_after f 0 → counted_as Truncated f ≡ f
counted_of f none = counted-other Truncated f (λ e. let one : reads_after f 0 ≡ 1 = ap (λ g. reads_after g 0) e in omega (arith, one, none))

-- ---- comments

-- the piece ends in the length of a comment
pub short_comment : (h : Fields) (spot : Spot) (moves : ℕ) (given : List ℕ) → length given < 4 → rest_fault h spot moves false (255 ∷ 7 ∷ given) ≡ Some Truncated
short_comment h spot moves given short =
    let t : nat_lt (length given) 4 ≡ true = grind (arith, nat_tests) in
    ap (λ b. cond b (Some Truncated) (cond (nat_lt (length given) (4 + big_number 4 given)) (Some Truncated) None)) t

pub length_breaks : (h : Fields) (place : Place) (moved : Bool) (p rest p' : List ℕ) (f : Fault) → p ≡ 255 ∷ 7 ∷ rest →
    Ends Truncated (Some rest) (Some p') (λ given fault. (length given < 4) × (fault ≡ Truncated)) f →
    Ends Truncated (Some p) (Some p') (PieceFault h place moved) f
length_breaks h place moved p rest p' f is ends =
    Ends-after (255 ∷ 7 ∷ []) is (λ given fault k other. short_comment h (record { height = other; entities = place.entities; heights = cond place.given 1 0 }) (cond moved 1 0) given k.0
    ∙ ap Some (sym k.1)) ends

module _ {h : Fields} {height entities : ℕ} {given : Bool} {at : Option move.Move} {carried : Carried} {left : ℕ} {text out : List ℕ}
    (s : CommentStands (sized h height) (head_place entities given at carried) left text out) where
  comment_text : (more : List ℕ) → text ++ more ≡ s.before ++ (ESC ∷ COMMENT ∷ (big_bytes 4 (length s.part + left) ++ (s.part ++ more)))
  comment_text more =
      ap (λ z. z ++ more) s.text_is
      ∙ append_assoc s.before (ESC ∷ COMMENT ∷ (big_bytes 4 (length s.part + left) ++ s.part)) more
      ∙ ap (λ z. s.before ++ (ESC ∷ COMMENT ∷ z)) (append_assoc (big_bytes 4 (length s.part + left)) s.part more)

  -- the piece ends in it
  pub comment_off : CoderLaws → IsInUse h height → (p : List ℕ) → length p < left → CutOff (sized h height) (text ++ p) out Truncated
  comment_off q use_ p short =
      let long = length-append s.part p in
      let cut = comment_breaks s.head q use_ (length s.part + left) (s.part ++ p) s.small (omega (arith, short, long)) in
      subst (λ z. CutOff (sized h height) z out Truncated) (sym (comment_text p)) cut
