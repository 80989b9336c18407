-- A walk that reads on decodes the image, or what came of it.
use Rattle.std.proofs.Common.{cond, ◌≡◌, ◌≤◌, ◌+◌, ◌*◌, ◌⊎◌, inl, inr, ℕ, zero, suc, Bool, List, [], ◌∷◌, ◌++◌, length, Option, None, Some, refl, sym, ap, ◌∙◌, subst, append_assoc, append-nil, length-append, arith}
use Rattle.std.specs.Prelude.{flat_map, option_map}
use Rattle.std.specs.List.{AllByRecursion}
use Rattle.std.specs.Io.KnownBytes.{Consumes}
use Rattle.devices.specs.Device.{AppendsBeginning}
use Rattle.qm_core.specs.Code.{stuffed}
use Rattle.qm_core.specs.Source.{bytes_of}
use Rattle.qm_core.specs.declared.source.Pulled.{Pulled}
use Rattle.qm_core.specs.declared.decoder.Decoder.{Decoder}
use Rattle.raster_core.specs.Packed.{packed_row, row_bytes}
use Rattle.raster_core.specs.Lines.{numbers_from}
use Rattle.std.proofs.lemmas.List.{length-map}
use Rattle.raster_core.specs.declared.shape.Shape.{Shape}
use Rattle.t85_core.specs.declared.segments.Code as code_type
use Rattle.t85_core.specs.declared.segments.atmove.Move as move
use Rattle.t85_core.specs.Lent.{Carried}
use Rattle.t85_core.specs.Header.{Fields}
use Rattle.t85_core.specs.Grammar.{Segment, segment_bytes, marker_bytes, stripe_bytes}
use Rattle.t85_core.specs.Laws.{IsInUse}
use Rattle.t85_core.specs.Private.CoderLaws.{CoderLaws}
use Rattle.t85_core.specs.RowSink.{copies}
use Rattle.t85_core.specs.States.State.{StripeStart, first_row_start, stripe_coding}
use Rattle.t85_core.specs.States.Cut.{RunEnough}
use Rattle.t85_core.specs.States.DecodeRows.{pair_of, IsShapeOf, rows_done}
use Rattle.t85_core.specs.Private.DecodeRows.{RepeatsRows}
use Rattle.t85_core.specs.Private.DecodeStripes.{StripeUnwritten, ImageUnwritten, AreFirst, stripe_place}
use Rattle.t85_core.specs.States.PieceCode.{ahead_bytes, Anything, CodeText}
use Rattle.t85_core.specs.States.Pieces.{CodeStands, rows_in, head_place, code_place}
use Rattle.t85_core.specs.States.SizedImage.{sized}
use Rattle.t85_core.specs.States.Passage.{passage}
use Rattle.t85_core.proofs.BytesJoin.CodesAreStuffed.{stuffed_append}
use Rattle.t85_core.proofs.BytesJoin.CallsJoin.{Consumes-more, beginning_all, beginning_longer}
use Rattle.t85_core.proofs.BodiesDecode.BytesDecideFirstRows.{pbm_of, text_first}
use Rattle.t85_core.proofs.BodiesDecode.ImageIsPut.{image_unset}
use Rattle.t85_core.proofs.BodiesDecode.HeadComesInPieces.{stripes_ext}
use Rattle.t85_core.proofs.BodiesDecode.WalkTakesRows.{shape_here, code_with}
use Rattle.t85_core.proofs.BodiesDecode.RepeatedRowsArePut.{repeated_read, repeated_answers}
use Rattle.t85_core.proofs.BodiesDecode.StripesDenoteRaster.{run_many, stripes_wide}
use Rattle.t85_core.proofs.BodiesDecode.StripesFollow.{run_wide}

-- ---- how long rows are

numbers_long : (k n : ℕ) → length (numbers_from k n) ≡ n
numbers_long k zero = refl
numbers_long k (suc n) = ap suc (numbers_long (k + 1) n)

packed_long : (row : List Bool) → length (packed_row row) ≡ row_bytes (length row)
packed_long row = length-map _ _ ∙ numbers_long 0 (row_bytes (length row))

flat_wide : (w : ℕ) (rows : List (List Bool)) → AllByRecursion (λ row. length row ≡ w) rows → length (flat_map packed_row rows) ≡ length rows * row_bytes w
flat_wide w [] wide = let none : 0 * row_bytes w ≡ 0 = omega arith in sym none
flat_wide w (row ∷ rows) wide =
    let one = packed_long row ∙ ap row_bytes wide.0 in
    let others = flat_wide w rows wide.1 in
    let sum = length-append (packed_row row) (flat_map packed_row rows) in
    let times : suc (length rows) * row_bytes w ≡ row_bytes w + length rows * row_bytes w = omega arith in
    omega (arith, one, others, sum, times)

pub copies_long : (n : ℕ) (bytes : List ℕ) → length (copies n bytes) ≡ n * length bytes
copies_long zero bytes = let none : 0 * length bytes ≡ 0 = omega arith in sym none
copies_long (suc n) bytes =
    let others = copies_long n bytes in
    let sum = length-append bytes (copies n bytes) in
    let times : suc n * length bytes ≡ length bytes + n * length bytes = omega arith in
    omega (arith, others, sum, times)

-- ---- rows that equal the one before

module _ {h : Fields} {height entities : ℕ} {given : Bool} {at : Option move.Move} {row : ℕ} {first : Option code_type.Code} {marker : Option Bool} {carried : Carried} {d : Decoder}
    {text out : List ℕ}
    (s : CodeStands (sized h height) (head_place entities given at carried) (code_place row first marker d) text out) where
  pub code_repeated : (shape : Shape) → IsShapeOf h shape → (count : ℕ) (carried' : Carried) (d' : Decoder) →
      RepeatsRows shape (option_map pair_of at) count (rows_done row carried d) (rows_done (row + count) carried' d') → row + count ≤ rows_in h height entities →
      CodeStands (sized h height) (head_place entities given at carried') (code_place (row + count) first marker d') text (out ++ copies count carried.held.current)
  code_repeated shape shape_is count carried' d' repeats few =
      let here = subst (λ z. RepeatsRows z (option_map pair_of at) count (rows_done row carried d) (rows_done (row + count) carried' d')) (shape_here s shape shape_is) repeats in
      code_with s
      (repeated_read Anything tt tt h s.shape s.head.stripes.next s.head.passed.segments row count carried carried' d d' (Some s.began) (Some out) s.read
      (option_map pair_of at) s.head.passed.move_is here (Some (out ++ copies count carried.held.current)) refl)
      few s.extra (λ lt. s.rows_first (omega (arith, lt))) s.code
      (subst (λ z. CodeText first marker z s.extra s.code) (sym (repeated_answers Anything tt tt h s.shape s.head.stripes.next s.head.passed.segments row count carried carried' d d' (Some s.began)
      (Some out) s.read (option_map pair_of at) s.head.passed.move_is here (Some (out ++ copies count carried.held.current)) refl)) s.code_is)
      s.text_is

  -- ---- what was written is first

  abbrev c : StripeStart
  c = s.head.stripes.next

  abbrev segments : List Segment
  segments = s.head.passed.segments

  abbrev answers : List Pulled
  answers = s.read.answers

  abbrev front : List ℕ
  front = flat_map segment_bytes segments

  back_is : s.head.back ≡ front
  back_is = s.head.passed.taken ∙ append-nil front

  module _ (q : CoderLaws) where
    stripe_begun : (part ahead : List ℕ) → s.code ≡ part ++ ahead →
        ((front ++ part ≡ front ++ stuffed (bytes_of answers)) × RunEnough (length (bytes_of answers)) (stripe_coding h segments) 0 (first_row_start c) s.read.rows s.read.flags)
        ⊎ ((reset : Bool) × (front ++ part ≡ stripe_bytes (record { segments = segments; code = bytes_of answers; reset = reset }))) →
        StripeUnwritten h (stripe_place (record { height = height; entities = entities; heights = cond s.head.before 1 0 }) c (rows_in h height entities))
        (passage (Some (s.head.back ++ s.code)) (Some []) (Some s.began) (Some out))
    stripe_begun part ahead code_is decides = record {
      given = front ++ part;
      ahead = ahead;
      taken = ap (λ z. s.head.back ++ z) code_is ∙ ap (λ z. z ++ (part ++ ahead)) back_is ∙ sym (append_assoc front part ahead) ∙ sym (append-nil ((front ++ part) ++ ahead));
      rows = s.read.rows;
      flags = s.read.flags;
      decides = record {
        segments = segments;
        code = bytes_of answers;
        begun = record { legal = s.head.passed.begun.legal; one_move = s.head.passed.begun.one_move; bytes = s.read.stands.bytes };
        gives = s.head.passed.gives;
        front = record {
          last = s.read.last;
          run = s.read.so_far.run;
          few = (let many = s.read.many in let few = s.few in omega (arith, many, few));
          lies = q.answers_lie d s.read.last.state.place answers (bytes_of answers) s.read.stands (record { rest = []; is = sym (append-nil (bytes_of answers)); bytes = tt; ended = λ _. refl });
        };
        decides = decides;
      };
      appended = beginning_all s.read.appended;
    }

    stripe_unset : (m : Option Bool) → CodeText first m answers s.extra s.code →
        StripeUnwritten h (stripe_place (record { height = height; entities = entities; heights = cond s.head.before 1 0 }) c (rows_in h height entities))
        (passage (Some (s.head.back ++ s.code)) (Some []) (Some s.began) (Some out))
    stripe_unset None o =
        stripe_begun (stuffed (bytes_of answers)) (stuffed s.extra ++ ahead_bytes first)
        (o.text_is ∙ ap (λ z. z ++ ahead_bytes first) (stuffed_append (bytes_of answers) s.extra) ∙ append_assoc (stuffed (bytes_of answers)) (stuffed s.extra) (ahead_bytes first))
        (inl (refl, s.read.so_far.enough o.going))
    stripe_unset (Some reset) o = stripe_begun (stuffed (bytes_of answers) ++ marker_bytes reset) [] (o.text_is ∙ sym (append-nil (stuffed (bytes_of answers) ++ marker_bytes reset)))
        (inr (reset, refl))

    pub code_unset : IsInUse h height → ImageUnwritten h height (passage (Some text) (Some []) (Some []) (Some out))
    code_unset use_ =
        subst (λ z. ImageUnwritten h height (passage (Some z) (Some []) (Some []) (Some out))) all_text
        (image_unset h height (Some (s.head.front ++ (s.head.back ++ s.code))) (Some (s.head.back ++ s.code)) (Some []) entities (cond s.head.before 1 0) (rows_in h height entities) s.start s.start
        (Some []) (Some s.began) (Some out)
        (stripes_ext s.head.stripes (s.head.back ++ s.code)) refl q use_ s.head.fewer (stripe_unset marker s.code_is))
      where
        all_text : s.head.front ++ (s.head.back ++ s.code) ≡ text
        all_text = sym (append_assoc s.head.front s.head.back s.code) ∙ ap (λ z. z ++ s.code) (sym s.head.text_is) ∙ sym s.text_is

  -- ---- and no more than the image has

  pub code_many : (n : ℕ) × (n ≤ height) × (length out ≡ n * row_bytes h.xd)
  code_many = (
    length s.head.stripes.rows + row,
    (let many = run_many h height _ s.head.stripes.stripes s.head.stripes.rows s.head.stripes.flags s.head.stripes.next s.head.stripes.run in
        let few = s.few in
        let count = ap (λ n. n * h.l0) s.head.stripes.many in
        omega (arith, many, few, count)),
    long,
  ) where
    out_is : out ≡ s.began ++ flat_map packed_row s.read.rows
    out_is = s.read.appended

    began_is : s.began ≡ flat_map packed_row s.head.stripes.rows
    began_is = s.head.stripes.appended

    long : length out ≡ (length s.head.stripes.rows + row) * row_bytes h.xd
    long =
        let before = flat_wide h.xd s.head.stripes.rows (stripes_wide h height _ s.head.stripes.stripes s.head.stripes.rows s.head.stripes.flags s.head.stripes.next s.head.stripes.run) in
        let here = flat_wide h.xd s.read.rows (run_wide (stripe_coding h segments) 0 (first_row_start c) s.read.rows s.read.flags s.read.last s.read.so_far.run) in
        let sum = ap length out_is ∙ length-append s.began (flat_map packed_row s.read.rows) in
        let began = ap length began_is in
        let rows : length s.read.rows * row_bytes h.xd ≡ row * row_bytes h.xd = ap (λ n. n * row_bytes h.xd) s.read.many in
        let times : (length s.head.stripes.rows + row) * row_bytes h.xd ≡ length s.head.stripes.rows * row_bytes h.xd + row * row_bytes h.xd = omega arith in
        omega (arith, before, here, sum, began, rows, times)

  pub code_wide : carried.held.width ≡ h.xd → length carried.held.current ≡ row_bytes h.xd
  code_wide wide = ap length s.read.is_carried.lines_are.row_is ∙ packed_long s.read.last.above ∙ ap row_bytes (s.read.is_carried.lines_are.row_wide ∙ wide)

-- nothing was written yet
pub none_unset : (h : Fields) (height : ℕ) → ImageUnwritten h height (passage (Some []) (Some []) (Some []) (Some []))
none_unset h height = record {
  given = [];
  ahead = [];
  taken = refl;
  rows = [];
  first = none_first;
  appended = record { front = []; rest = []; text_is = refl; appends = refl };
} where
  none_first : AreFirst h height [] []
  none_first rest None text o = let t = text_first h.xd height [] o.0.rows refl in (t.0, o.2 ∙ pbm_of h height o.0 rest o.1 ∙ t.1)
  none_first rest (Some fault) text o = let t = text_first h.xd height [] o.0 refl in (t.0, o.2 ∙ t.1)

-- what a target took of it
pub unset_there : (h : Fields) (height : ℕ) (bytes out more : List ℕ) (known known' known'' text text' : Option (List ℕ)) →
    ImageUnwritten h height (passage (Some bytes) (Some []) (Some []) (Some out)) →
    Consumes known known' bytes → Consumes known' known'' more → AppendsBeginning text text' out → ImageUnwritten h height (passage known known'' text text')
unset_there h height bytes out more known known' known'' text text' i taken further put = record {
  given = i.given;
  ahead = i.ahead ++ more;
  taken = subst (Consumes known known'') (ap (λ z. z ++ more) (i.taken ∙ append-nil (i.given ++ i.ahead)) ∙ append_assoc i.given i.ahead more)
      (Consumes-more known known' known'' bytes more taken further);
  rows = i.rows;
  first = i.first;
  appended = subst (AppendsBeginning text text') (sym (i.appended.text_is ∙ ap (λ z. z ++ i.appended.rest) (sym out_is))) (beginning_longer i.appended.rest put);
} where
  out_is : out ≡ i.appended.front
  out_is = i.appended.appends
