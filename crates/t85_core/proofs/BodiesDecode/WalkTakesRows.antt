-- The code of a stripe in a walk: a row more, or the stripe's end.
use Rattle.std.proofs.Common.{cond, ◌≡◌, ◌<◌, ◌≤◌, ◌+◌, ℕ, Bool, true, false, List, [], ◌++◌, count_by, Option, None, Some, refl, sym, ap, ◌∙◌, subst, append_assoc, append-nil, arith}
use Rattle.std.specs.Prelude.{flat_map, option_map, IfSome}
use Rattle.qm_core.specs.Code.{stuffed}
use Rattle.qm_core.specs.Place.{Place}
use Rattle.qm_core.specs.Source.{bytes_of, heard_of, is_stopped}
use Rattle.qm_core.specs.Decoder.{DecoderIsAt, has_stopped}
use Rattle.qm_core.specs.declared.source.Heard.{Heard}
use Rattle.qm_core.specs.declared.source.Heard.TheVariants.{Stopped}
use Rattle.qm_core.specs.declared.source.Pulled.{Pulled}
use Rattle.qm_core.specs.declared.decoder.Decoder.{Decoder}
use Rattle.raster_core.specs.Packed.{packed_row}
use Rattle.raster_core.specs.Row.{IsRowStart, HasAbove, StandsInRow, row_task}
use Rattle.raster_core.specs.Window.{turned}
use Rattle.raster_core.specs.declared.place.RowPlace.{RowPlace}
use Rattle.raster_core.specs.declared.shape.Shape.{Shape}
use Rattle.t85_core.specs.declared.fault.Fault.{Fault}
use Rattle.t85_core.specs.declared.segments.Code as code_type
use Rattle.t85_core.specs.declared.segments.Code.TheVariants as code
use Rattle.t85_core.specs.declared.segments.atmove.Move as move
use Rattle.t85_core.specs.Lent.{Carried}
use Rattle.t85_core.specs.Header.{Fields}
use Rattle.t85_core.specs.Grammar.{Segment, segment_bytes, marker_bytes, stripe_count, is_move, IsBegun}
use Rattle.t85_core.specs.Refusal.{spot_behind, rest_fault}
use Rattle.t85_core.specs.Laws.{IsInUse}
use Rattle.t85_core.specs.Private.CoderLaws.{CoderLaws}
use Rattle.t85_core.specs.States.Segments.{IsByteOrMarker}
use Rattle.t85_core.specs.Private.Segments.{spot_at}
use Rattle.t85_core.specs.States.State.{StripeStart, first_row_start, next_stripe_start, offset_at}
use Rattle.t85_core.specs.Private.Cut.{BegunRun}
use Rattle.t85_core.specs.States.Cut.{open_stripe}
use Rattle.t85_core.specs.States.DecodeRows.{pair_of, IsShapeOf, IsCarried, rows_done}
use Rattle.t85_core.specs.Private.DecodeStripes.{StripeCut, StripeRead, stripe_place}
use Rattle.t85_core.specs.States.DecodeStripes.{StripesRead, ImageRead}
use Rattle.t85_core.specs.States.PieceCode.{CodeText, CodeOpen, RowsKnown, RowBegun, open_row}
use Rattle.t85_core.specs.Private.PieceCode.{CodeBreaks, PieceRowTaken, RowBroken, RowWaits, MarkerFound, MarkerMissing, CodeKept, row_state_at, handed}
use Rattle.t85_core.specs.States.Pieces.{CutOff, HeadStands, CodeStands, InRowStands, rows_in, head_place, code_place}
use Rattle.t85_core.specs.States.SizedImage.{sized}
use Rattle.t85_core.specs.States.Passage.{passage}
use Rattle.t85_core.proofs.StreamsAreWalked.StripeIsPassed.{passed_none}
use Rattle.t85_core.proofs.BodiesDecode.ImageIsPut.{stripes_next, image_read}
use Rattle.t85_core.proofs.BodiesDecode.RowsFillStripe.{rows_whole, rows_full}
use Rattle.t85_core.proofs.BodiesDecode.StripeBreaksEarly.{not_nil}
use Rattle.t85_core.proofs.BodiesDecode.HeadComesInPieces.{stripes_ext, place, head_breaks, shape_is}

-- what is known of what was read ahead
pub ahead_is : (first : Option code_type.Code) (marker : Option Bool) (answers : List Pulled) (extra text : List ℕ) → CodeText first marker answers extra text → IfSome first IsByteOrMarker
ahead_is first None answers extra text o = o.ahead
ahead_is first (Some reset) answers extra text o = subst (λ z. IfSome z IsByteOrMarker) (sym o.behind) tt

pub behind_is : (first : Option code_type.Code) (marker : Option Bool) (answers : List Pulled) (extra text : List ℕ) → CodeText first marker answers extra text → IfSome marker (λ _. first ≡ None)
behind_is first None answers extra text o = tt
behind_is first (Some reset) answers extra text o = o.behind

-- ---- a stripe whose code breaks

module _ {h : Fields} {height entities : ℕ} {given : Bool} {at : Option move.Move} {start : Carried} {before began : List ℕ}
    (head : HeadStands (sized h height) (head_place entities given at start) before began)
    (code text out : List ℕ) (text_is : text ≡ before ++ code) (q : CoderLaws) (use_ : IsInUse h height) where
  abbrev head_segments : List Segment
  head_segments = head.passed.segments

  head_more : (p : List ℕ) → before ++ (code ++ p) ≡ text ++ p
  head_more p = sym (append_assoc before code p) ∙ ap (λ z. z ++ p) (sym text_is)

  head_back : head.back ≡ flat_map segment_bytes head_segments
  head_back = head.passed.taken ∙ append-nil (flat_map segment_bytes head_segments)

  pub code_off : (p bytes : List ℕ) (f : Fault) (rows : List (List Bool)) (flags : List Bool) → CodeBreaks code p bytes f →
      BegunRun (open_stripe h head.stripes.next head_segments) (rows_in h height entities) bytes rows flags → out ≡ began ++ flat_map packed_row rows →
      CutOff (sized h height) (text ++ p) out f
  code_off p bytes f rows flags b begun out_is =
      subst (λ z. CutOff (sized h height) z out f) (head_more p) (head_breaks head q use_ out (code ++ p) b.unread f b.counted stripe_cut)
    where
      part : List ℕ
      part = flat_map segment_bytes head_segments ++ (stuffed bytes ++ b.rest)

      taken : head.back ++ (code ++ p) ≡ part ++ b.unread
      taken = ap (λ z. head.back ++ z) b.text_is ∙ ap (λ z. z ++ ((stuffed bytes ++ b.rest) ++ b.unread)) head_back
          ∙ sym (append_assoc (flat_map segment_bytes head_segments) (stuffed bytes ++ b.rest) b.unread)

      stripe_cut : StripeCut h (stripe_place (spot_at (place head)) head.stripes.next (rows_in h height entities)) (passage (Some (head.back ++ (code ++ p))) (Some b.unread) (Some began) (Some out)) f
      stripe_cut = record {
        rows = rows;
        flags = flags;
        ends = record {
          given = part;
          taken = taken;
          has_fault = (
            record {
              segments = head_segments;
              code = bytes;
              rest = b.rest;
              bytes_are = refl;
              begun = record { legal = head.passed.begun.legal; one_move = head.passed.begun.one_move; bytes = b.small };
              gives = head.passed.gives;
              rest_has =
                  ap (λ z. rest_fault h (spot_behind (spot_at (place head)) head_segments) (count_by is_move head_segments) z b.rest) (not_nil bytes b.some)
                  ∙ b.broken h (spot_behind (spot_at (place head)) head_segments) (count_by is_move head_segments) ∙ ap Some (sym b.counted);
            },
            begun,
          );
          at_end = b.at_end;
        };
        appended = out_is;
      }

-- ---- in a row that has begun

pub going : (t : Heard) → (t ≡ Stopped → ⊥) → is_stopped t ≡ false
going Stopped n = absurd (n refl)
going t n = refl

module _ {h : Fields} {height entities : ℕ} {given : Bool} {at : Option move.Move} {row : ℕ} {first : Option code_type.Code} {marker : Option Bool} {carried : Carried} {d : Decoder}
    {in_row : RowPlace} {text out : List ℕ}
    (s : InRowStands (sized h height) (head_place entities given at carried) (code_place row first marker d) in_row text out) where
  -- its decoder goes on
  pub in_row_going : has_stopped d ≡ false
  in_row_going = by in_row.is_begun refl
    where
      at_answers : {x : Place} → DecoderIsAt d x (s.begun.read.answers ++ s.begun.since) → has_stopped d ≡ false
      at_answers e = ap is_stopped e.heard ∙ going _ s.begun.unstopped

      by : (b : Bool) → in_row.is_begun ≡ b → has_stopped d ≡ false
      by true e = at_answers (s.begun.stands.in_it e).stands
      by false e = at_answers (s.begun.stands.before_it e).stands

  pub in_row_shape : (shape : Shape) → IsShapeOf h shape → shape ≡ s.shape
  in_row_shape shape is = shape_is h shape is ∙ sym (shape_is h s.shape s.begun.read.shape_is)

  in_row_more : (p : List ℕ) → s.before ++ (s.code ++ p) ≡ text ++ p
  in_row_more p = sym (append_assoc s.before s.code p) ∙ ap (λ z. z ++ p) (sym s.text_is)

  pub row_off : CoderLaws → IsInUse h height → (p : List ℕ) (f : Fault) →
      RowBroken (open_stripe h s.head.stripes.next s.head.passed.segments) (rows_in h height entities) (handed s.began out s.code) p f → CutOff (sized h height) (text ++ p) out f
  row_off q use_ p f m = code_off s.head s.code text out s.text_is q use_ p m.bytes f m.rows m.flags m.breaks m.begun m.out_is

  -- it ended
  pub row_on : {first' : Option code_type.Code} {marker' : Option Bool} {carried' : Carried} {d' : Decoder} {in_row' : RowPlace} {p p' : List ℕ} →
      (m : PieceRowTaken (open_stripe h s.head.stripes.next s.head.passed.segments) s.shape row (row_state_at carried' d' in_row' first' marker' p') (handed s.began out s.code) p) →
      CodeStands (sized h height) (head_place entities given at carried') (code_place (row + 1) first' marker' d') (text ++ m.given) (out ++ carried'.held.current)
  row_on m = record {
    before = s.before;
    began = s.began;
    start = s.start;
    head = s.head;
    shape = s.shape;
    read = m.read;
    few = omega (arith, s.few);
    extra = [];
    rows_first = λ _. refl;
    code = s.code ++ m.given;
    code_is = m.code_is;
    text_is = sym (in_row_more m.given);
  }

  -- with more of its code
  in_row_with : {first' : Option code_type.Code} {marker' : Option Bool} {carried' : Carried} {d' : Decoder} {in_row' : RowPlace} (p : List ℕ)
      (begun : RowBegun (open_stripe h s.head.stripes.next s.head.passed.segments) s.shape (open_row row carried' d' in_row') s.began out) →
      CodeText first' marker' (begun.read.answers ++ begun.since) [] (s.code ++ p) →
      InRowStands (sized h height) (head_place entities given at carried') (code_place row first' marker' d') in_row' (text ++ p) out
  in_row_with p begun code_is = record {
    before = s.before;
    began = s.began;
    start = s.start;
    head = s.head;
    shape = s.shape;
    begun = begun;
    few = s.few;
    code = s.code ++ p;
    code_is = code_is;
    text_is = sym (in_row_more p);
  }

  -- it waits
  pub row_kept : {first' : Option code_type.Code} {marker' : Option Bool} {carried' : Carried} {d' : Decoder} {in_row' : RowPlace} {p p' : List ℕ} →
      (m : RowWaits (open_stripe h s.head.stripes.next s.head.passed.segments) s.shape row (row_state_at carried' d' in_row' first' marker' p') (handed s.began out s.code) p) →
      InRowStands (sized h height) (head_place entities given at carried') (code_place row first' marker' d') in_row' (text ++ m.given) out
  row_kept m = in_row_with m.given m.begun m.code_is

module _ {h : Fields} {height entities : ℕ} {given : Bool} {at : Option move.Move} {row : ℕ} {first : Option code_type.Code} {marker : Option Bool} {carried : Carried} {d : Decoder}
    {text out : List ℕ}
    (s : CodeStands (sized h height) (head_place entities given at carried) (code_place row first marker d) text out) where
  abbrev c : StripeStart
  c = s.head.stripes.next

  abbrev segments : List Segment
  segments = s.head.passed.segments

  abbrev count : ℕ
  count = rows_in h height entities

  pub with_more : (p : List ℕ) → s.before ++ (s.code ++ p) ≡ text ++ p
  with_more p = sym (append_assoc s.before s.code p) ∙ ap (λ z. z ++ p) (sym s.text_is)

  back_is : s.head.back ≡ flat_map segment_bytes segments
  back_is = s.head.passed.taken ∙ append-nil (flat_map segment_bytes segments)

  pub shape_here : (shape : Shape) → IsShapeOf h shape → shape ≡ s.shape
  shape_here shape is = shape_is h shape is ∙ sym (shape_is h s.shape s.read.shape_is)

  -- ---- it breaks

  module _ (q : CoderLaws) (use_ : IsInUse h height) where
    -- after its rows
    pub marker_off : row ≡ count → (p : List ℕ) (f : Fault) → MarkerMissing s.read.answers s.code p f → CutOff (sized h height) (text ++ p) out f
    marker_off all p f m =
        code_off s.head s.code text out s.text_is q use_ p (bytes_of s.read.answers ++ m.more) f s.read.rows s.read.flags m.breaks
        (rows_full h c segments s.read.answers s.read.rows s.read.flags s.read.last s.read.so_far q count m.more d (s.read.many ∙ all) s.read.stands m.going m.small) s.read.appended

    -- ---- it ends

    module _ (all : row ≡ count) (p p' : List ℕ) (reset : Bool) (m : MarkerFound s.read.answers s.code p p' reset) (next : Carried)
        (next_is : IsCarried (first_row_start (next_stripe_start h.xd reset s.read.last)) next) where
      pub whole : StripesRead h height (passage (Some (text ++ m.given)) (Some []) (Some []) (Some out)) (entities + 1) (cond given 1 0) next
      whole =
          subst (λ z. StripesRead h height (passage (Some z) (Some []) (Some []) (Some out)) (entities + 1) (cond given 1 0) next) all_text
          (stripes_next h height (Some (s.head.front ++ (s.head.back ++ (s.code ++ m.given)))) (Some (s.head.back ++ (s.code ++ m.given))) (Some []) entities
          (cond s.head.before 1 0) count s.start next (Some []) (Some s.began) (Some out)
          (stripes_ext s.head.stripes (s.head.back ++ (s.code ++ m.given))) refl (cond given 1 0) stripe)
        where
          all_text : s.head.front ++ (s.head.back ++ (s.code ++ m.given)) ≡ text ++ m.given
          all_text = sym (append_assoc s.head.front s.head.back (s.code ++ m.given)) ∙ ap (λ z. z ++ (s.code ++ m.given)) (sym s.head.text_is) ∙ with_more m.given

          begun : IsBegun h segments m.code
          begun = record { legal = s.head.passed.begun.legal; one_move = s.head.passed.begun.one_move; bytes = m.small }

          stripe : StripeRead h (stripe_place (record { height = height; entities = entities; heights = cond s.head.before 1 0 }) c count) (cond given 1 0)
              (passage (Some (s.head.back ++ (s.code ++ m.given))) (Some []) (Some s.began) (Some out)) next
          stripe = record {
            stripe = record { segments = segments; code = m.code; reset = reset };
            taken = ap (λ z. s.head.back ++ z) m.text_is ∙ ap (λ z. z ++ (stuffed m.code ++ marker_bytes reset)) back_is
                ∙ sym (append-nil (flat_map segment_bytes segments ++ (stuffed m.code ++ marker_bytes reset)));
            gives_in = record { gives = s.head.passed.gives; heights_are = s.head.passed.given_is };
            rows = s.read.rows;
            flags = s.read.flags;
            next = next_stripe_start h.xd reset s.read.last;
            run = rows_whole h c segments s.read.answers s.read.rows s.read.flags s.read.last s.read.so_far q count m.code reset d (s.read.many ∙ all) begun s.read.stands m.agrees;
            is_carried = next_is;
            appended = s.read.appended;
          }

      -- and was the last
      pub stripe_last : entities + 1 ≡ stripe_count height h.l0 → ImageRead h height (passage (Some (text ++ m.given)) (Some []) (Some []) (Some out))
      stripe_last last = image_read h height (Some (text ++ m.given)) (Some []) (entities + 1) (cond given 1 0) next (Some []) (Some out) whole use_ last

      -- and another comes
      pub stripe_on : entities + 1 < stripe_count height h.l0 → HeadStands (sized h height) (head_place (entities + 1) given None next) (text ++ m.given) out
      stripe_on fewer = record {
        before = given;
        front = text ++ m.given;
        back = [];
        text_is = sym (append-nil (text ++ m.given));
        stripes = whole;
        comments = 0;
        passed = passed_none h (record { height = height; entities = entities + 1; given = given }) false (Some []);
        fewer = fewer;
      }

  -- ---- a row of it begins

  code_here : row < count → CodeText first marker s.read.answers [] s.code
  code_here lt = subst (λ z. CodeText first marker s.read.answers z s.code) (s.rows_first lt) s.code_is

  module _ (lt : row < count) (carried' : Carried) (in_row : RowPlace) (start : IsRowStart in_row) (learned_is : carried'.learned ≡ carried.learned) (turned_is : carried'.held ≡ turned carried.held)
      (offset_is : carried'.kept.offset ≡ offset_at (option_map pair_of at) row carried.kept.offset) (previous_is : carried'.kept.previous_typical ≡ carried.kept.previous_typical) where
    abbrev answers : List Pulled
    answers = s.read.answers ++ []

    stands_here : StandsInRow (row_task s.shape carried'.kept s.read.last.state
        (record { row = s.read.is_carried.third; above = s.read.last.above; second = s.read.last.second })) in_row answers carried'.held carried'.learned d
    stands_here =
        let l = s.read.is_carried.lines_are in
        record {
          above = subst (λ w. HasAbove w (record { row = s.read.is_carried.third; above = s.read.last.above; second = s.read.last.second })) (sym turned_is)
              (record { above_is = l.row_is; second_is = l.above_is; above_wide = l.row_wide; second_wide = l.above_wide });
          before_it = λ _. record {
            start = start;
            stands = subst (DecoderIsAt d s.read.last.state.place) (sym (append-nil s.read.answers)) s.read.stands;
            taught = learned_is ∙ s.read.is_carried.learned_is;
          };
          in_it = λ e. absurd (let z : true ≡ false = sym e ∙ start.is_begun in let bot : ⊥ = cc in bot);
        }

    pub row_entered : InRowStands (sized h height) (head_place entities given at carried') (code_place row first marker d) in_row text out
    row_entered = record {
      before = s.before;
      began = s.began;
      start = s.start;
      head = s.head;
      shape = s.shape;
      begun = record {
        start = carried;
        decoder = d;
        read = s.read;
        since = [];
        unstopped = λ e. s.read.unstopped (ap heard_of (sym (append-nil s.read.answers)) ∙ e);
        offset_is = offset_is ∙ ap (λ m. offset_at m row carried.kept.offset) s.head.passed.move_is;
        previous_is = previous_is;
        stands = stands_here;
      };
      few = lt;
      code = s.code;
      code_is = subst (λ z. CodeText first marker z [] s.code) (sym (append-nil s.read.answers)) (code_here lt);
      text_is = s.text_is;
    }

  -- the same stripe, with other rows or other code
  pub code_with : {row' : ℕ} {first' : Option code_type.Code} {marker' : Option Bool} {carried' : Carried} {d' : Decoder} {text' out' : List ℕ}
      (read : RowsKnown (open_stripe h s.head.stripes.next s.head.passed.segments) s.shape (rows_done row' carried' d') s.began out') → row' ≤ count →
      (extra : List ℕ) → (row' < count → extra ≡ []) → (code : List ℕ) → CodeText first' marker' read.answers extra code → text' ≡ s.before ++ code →
      CodeStands (sized h height) (head_place entities given at carried') (code_place row' first' marker' d') text' out'
  code_with read few extra rows_first code code_is text_is = record {
    before = s.before;
    began = s.began;
    start = s.start;
    head = s.head;
    shape = s.shape;
    read = read;
    few = few;
    extra = extra;
    rows_first = rows_first;
    code = code;
    code_is = code_is;
    text_is = text_is;
  }

  -- what is left of it was skipped, as far as it came
  pub code_kept : row ≡ count → {first' : Option code_type.Code} (p p' : List ℕ) → (m : CodeKept first' marker s.read.answers s.code p p') →
      CodeStands (sized h height) (head_place entities given at carried) (code_place row first' marker d) (text ++ m.given) out
  code_kept all p p' m = code_with s.read s.few m.extra (λ lt. absurd (omega (arith, lt, all))) (s.code ++ m.given) m.code_is (sym (with_more m.given))

  -- its end marker came
  pub code_marked : row ≡ count → marker ≡ None → (p p' : List ℕ) (reset : Bool) → (m : MarkerFound s.read.answers s.code p p' reset) →
      CodeStands (sized h height) (head_place entities given at carried) (code_place row (Some (code.Marker reset)) marker d) (text ++ m.given) out
  code_marked all unmarked p p' reset m =
      code_with s.read s.few m.agrees.rest (λ lt. absurd (omega (arith, lt, all))) (s.code ++ m.given)
      (subst (λ z. CodeText (Some (code.Marker reset)) z s.read.answers m.agrees.rest (s.code ++ m.given)) (sym unmarked) open_) (sym (with_more m.given)) where
        was_open : CodeOpen first s.read.answers s.extra s.code
        was_open = subst (λ z. CodeText first z s.read.answers s.extra s.code) unmarked s.code_is

        open_ : CodeOpen (Some (code.Marker reset)) s.read.answers m.agrees.rest (s.code ++ m.given)
        open_ = record {
          going = was_open.going;
          bytes = was_open.bytes;
          small = m.agrees.bytes;
          ahead = tt;
          begun = λ none. absurd (let bot : ⊥ = cc in bot);
          text_is = m.text_is ∙ ap (λ z. stuffed z ++ marker_bytes reset) m.agrees.is;
        }

-- ---- an end marker is read ahead
