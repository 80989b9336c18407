-- A decoder that a C caller holds.
use Rattle.std.proofs.Common.{◌≡◌, ◌≤◌, ◌<◌, ◌*◌, ◌⊎◌, inl, inr, ℕ, Bool, List, None, ◌++◌, length, take, drop, take-append-drop, refl, sym, ap, subst, ◌∙◌, arith, append_assoc, length-take, take_all}
use Rattle.std.proofs.lemmas.List.{take-append-le}
use Rattle.qm_core.specs.Place.{Estimate}
use Rattle.raster_core.specs.Packed.{Held, rows_at}
use Rattle.t85_core.specs.declared.header.Header.{Header}
use Rattle.t85_core.specs.declared.pieces.Outcome.{Outcome}
use Rattle.t85_core.specs.declared.pieces.Outcome.TheVariants as outcome
use Rattle.t85_core.specs.declared.pieces.PieceDecoder.{PieceDecoder}
use Rattle.t85_core.specs.declared.pieces.numbers.PieceNumbers.{PieceNumbers}
use Rattle.t85_core.specs.Header.{Fields, HeaderOf}
use Rattle.t85_core.specs.Laws.{HeaderLaws}
use Rattle.t85_core.specs.Lent.{decoder_view}
use Rattle.t85_core.specs.Numbers.{ArePieceNumbers, StaysInImage}
use Rattle.t85_core.specs.Options.{fields_of}
use Rattle.t85_core.specs.Outcomes.{end_in}
use Rattle.t85_core.specs.Pieces.{AreCertain, HasDecoded, IsLeastHeight}
use Rattle.t85_core.specs.Repeats.{CanRepeat}
use Rattle.t85_core.specs.RowSink.{copies}
use Rattle.libt85.specs.Decoded.{window_bytes}
use Rattle.libt85.specs.Decoder.{Answers, BytesCall, DecoderIsNotBegun, GivesRowAt, HasNoDecoder, IsShort, LacksWindow, StandAt, TellsCertain, bytes_of_call, bytes_call}
use Rattle.libt85.specs.DecoderAgain.{MustGiveAgain, ReturnsAgain}
use Rattle.libt85.specs.DecoderLimit.{IsWithinLimit, StaysWithinLimit}
use Rattle.libt85.specs.DecoderState.{CountsRows, HasRead, Hold, InRows, hold_of}
use Rattle.libt85.specs.DecoderSteps.{CountsOneMore, IsOfEngine, IsToldOf}
use Rattle.libt85.specs.declared.decoder.T85Decoder.{T85Decoder}
use Rattle.libt85.specs.declared.decoder.Report.{Report}
use Rattle.libt85.specs.declared.decoder.Answer.{Answer}
use Rattle.libt85.specs.declared.decoder.Answer.TheVariants as answer
use Rattle.libt85.proofs.DecoderReadsHeader.{behind_header, counted, in_rows}
use Rattle.libt85.proofs.DecoderHoldsRows.{KeepsRows, fed_as, rows_moved}

-- ---- the certain rows, if the stream goes on

-- those of a decoder with the numbers of the struct
pub decoder_certain : HeaderLaws → (d : T85Decoder) (header : Header) (e : PieceDecoder) (certain : ℕ) → HeaderOf d.header (fields_of header) → fields_of e.image.header ≡ fields_of header →
    ArePieceNumbers d.numbers e →
    ((other : PieceDecoder) (numbers : PieceNumbers) (rows : Held) (learned : List Estimate) → fields_of other.image.header ≡ fields_of e.image.header → ArePieceNumbers numbers other →
    ArePieceNumbers numbers e → AreCertain (decoder_view other rows learned) certain) → TellsCertain d certain
decoder_certain laws d header e certain header_of header_is numbers is = λ window stream out k.
    is k.decoder d.numbers (rows_at d.place k.decoder.image.header.xd (take (window_bytes k.decoder.image.header.xd) window)) d.learned
    (laws.one d.header (fields_of k.decoder.image.header) (fields_of header) k.header_of header_of ∙ sym header_is) k.numbers_are numbers k.has.decoded out k.has.has

-- no greater number of rows is certain
least_to : (h : Fields) (text : List ℕ) (rows certain limit : ℕ) → IsLeastHeight h text rows → IsLeastHeight h text certain → certain ≤ limit → rows ≤ limit
least_to h text rows certain limit least is to = (let most : rows ≤ certain = least.below is.reached.0 certain is.reached.1 in omega (arith, most, to))

asked_within : (d d' : T85Decoder) (certain : ℕ) → d' ≡ d → TellsCertain d certain → certain ≤ d.max_rows → IsWithinLimit d'
asked_within d d' certain same is to = subst IsWithinLimit (sym same)
    (λ window stream out k rows least. least_to (fields_of k.decoder.image.header) k.has.decoded rows certain d.max_rows least (is window stream out k) to)

counted_within : (d d' : T85Decoder) (certain : ℕ) → CountsOneMore d d' → TellsCertain d certain → certain ≤ d.max_rows → IsWithinLimit d'
unfolding rows_moved
counted_within d d' certain c is to = λ window stream out k rows least.
    let same : KeepsRows d' d =
    record { version = sym c.version; next = sym c.next; header = sym c.header; learned = sym c.learned; place = sym c.place; numbers = sym c.numbers; held = sym c.held } in
    least_to (fields_of k.decoder.image.header) k.has.decoded rows certain d'.max_rows least (is window stream out (rows_moved same k)) (rw c.limit to)

pub told_within : (d d' : T85Decoder) (certain : ℕ) (outcome : Outcome) (what : Answer) → (end_in outcome ≡ None → TellsCertain d certain) → IsToldOf outcome d d' certain what →
    StaysWithinLimit what d'
told_within d d' certain outcome.Row what is (inl counted) = subst (λ a. StaysWithinLimit a d') (sym counted.what_is) (counted_within d d' certain counted.counts (is refl) counted.certain_to)
told_within d d' certain outcome.Row what is (inr (over, why)) = subst (λ a. StaysWithinLimit a d') (sym over.what_is) tt
told_within d d' certain outcome.More what is (inl asked) = subst (λ a. StaysWithinLimit a d') (sym asked.what_is) (asked_within d d' certain asked.same (is refl) asked.certain_to)
told_within d d' certain outcome.More what is (inr (over, why)) = subst (λ a. StaysWithinLimit a d') (sym over.what_is) tt
told_within d d' certain (outcome.Done height) what is (told, ended, high, counted, stored) = subst (λ a. StaysWithinLimit a d') (sym told) tt
told_within d d' certain (outcome.Broken fault) what is (told, ended, high) = subst (λ a. StaysWithinLimit a d') (sym told) tt

-- ---- a struct that no call leaves

pub never_begun : (d : T85Decoder) (h : Fields) → d.version ≡ 2 → (d.next ≡ 1) ⊎ (d.next ≡ 2) → HeaderOf d.header h → (d.next ≡ 2 → HasNoDecoder d → ⊥) → DecoderIsNotBegun d → ⊥
never_begun d h version next header some (inl other) = other version
never_begun d h version next header some (inr (inl more)) = either next where
  either : (d.next ≡ 1) ⊎ (d.next ≡ 2) → ⊥
  either (inl e) = omega (arith, e, more)
  either (inr e) = omega (arith, e, more)
never_begun d h version next header some (inr (inr (inl (zero, full)))) = either next where
  either : (d.next ≡ 1) ⊎ (d.next ≡ 2) → ⊥
  either (inl e) = omega (arith, e, zero)
  either (inr e) = omega (arith, e, zero)
never_begun d h version next header some (inr (inr (inr (inl (rows, none))))) = none h header
never_begun d h version next header some (inr (inr (inr (inr (rows, none))))) = some rows none

-- a decoder was resumed
pub one_resumed : (d : T85Decoder) (header : Header) (decoder : PieceDecoder) → d.place < 3 → HeaderOf d.header (fields_of header) → decoder.image.header ≡ header → ArePieceNumbers d.numbers decoder →
    StaysInImage decoder → HasNoDecoder d → ⊥
one_resumed d header decoder place header_of same numbers stays (inl far) = omega (arith, place, far)
one_resumed d header decoder place header_of same numbers stays (inr never) = never decoder (subst (λ h. HeaderOf d.header (fields_of h)) (sym same) header_of) numbers stays

-- none was
pub none_resumed : HeaderLaws → (hold : Hold) (header : Header) → HeaderOf hold.decoder.header (fields_of header) →
    ((decoder : PieceDecoder) (rows : Held) (learned : List Estimate) (text out : List ℕ) → HasDecoded (decoder_view decoder rows learned) text out → fields_of decoder.image.header ≡
    fields_of header → ArePieceNumbers hold.decoder.numbers decoder → ⊥) →
    {stream out : List ℕ} → InRows hold stream out → ⊥
none_resumed laws hold header header_of all {out = out} k =
    all k.decoder _ _ k.has.decoded out k.has.has (laws.one hold.decoder.header (fields_of k.decoder.image.header) (fields_of header) k.header_of header_of) k.numbers_are

pub rows_next : (n : ℕ) → (n ≡ 1) ⊎ (n ≡ 2) → (n ≡ 1 → ⊥) → n ≡ 2
rows_next n (inl one) not = absurd (not one)
rows_next n (inr two) not = two

pub full_header : (d : T85Decoder) → d.version ≡ 2 → d.next ≡ 0 → DecoderIsNotBegun d → 20 ≤ d.header_len
full_header d version next (inl other) = absurd (other version)
full_header d version next (inr (inl more)) = omega (arith, next, more)
full_header d version next (inr (inr (inl (zero, full)))) = full
full_header d version next (inr (inr (inr (inl (inl e, none))))) = omega (arith, next, e)
full_header d version next (inr (inr (inr (inl (inr e, none))))) = omega (arith, next, e)
full_header d version next (inr (inr (inr (inr (e, none))))) = omega (arith, next, e)

-- ---- nothing taken

pub not_begun : (hold : Hold) (bytes : List ℕ) (is_all : Bool) (told : Report) → told.answer ≡ answer.NotBegun → told.taken ≡ 0 →
    ((stream out : List ℕ) → HasRead hold stream out → ⊥) → Answers (HasRead hold) hold hold (bytes_call bytes is_all told.taken told.row) told.answer
not_begun hold bytes is_all told is none never =
    rw is (record { bound = omega (arith, none); tells = (record { same = refl; none = none }, never) })

pub short_window : (hold : Hold) (bytes : List ℕ) (is_all : Bool) (told : Report) → told.answer ≡ answer.ShortWindow → told.taken ≡ 0 →
    ((stream out : List ℕ) → HasRead hold stream out → IsShort hold.window stream) → Answers (HasRead hold) hold hold (bytes_call bytes is_all told.taken told.row) told.answer
short_window hold bytes is_all told is none short =
    rw is (record { bound = omega (arith, none); tells = (record { same = refl; none = none }, short) })

-- ---- a window that is longer than three rows

take_long : (n : ℕ) (xs : List ℕ) → length (take n xs) ≤ n
take_long n xs = subst (λ k. k ≤ n) (sym (length-take n xs)) (omega arith)

-- other memory with the same window
rows_with : (d : T85Decoder) (memory memory' stream out : List ℕ) (k : InRows (hold_of d memory) stream out) →
    take (window_bytes k.decoder.image.header.xd) memory ≡ take (window_bytes k.decoder.image.header.xd) memory' → InRows (hold_of d memory') stream out
rows_with d memory memory' stream out k same = record {
  version_is = k.version_is;
  next_is = k.next_is;
  place_to = k.place_to;
  decoder = k.decoder;
  header_of = k.header_of;
  numbers_are = k.numbers_are;
  text = k.text;
  stream_is = k.stream_is;
  has = fed_as k.decoder (ap (rows_at d.place k.decoder.image.header.xd) (sym same)) refl refl k.has;
}

counted_with : (d : T85Decoder) (memory memory' stream out : List ℕ) (k : CountsRows (hold_of d memory) stream out) →
    take (window_bytes k.rows.decoder.image.header.xd) memory ≡ take (window_bytes k.rows.decoder.image.header.xd) memory' → CountsRows (hold_of d memory') stream out
unfolding rows_with
counted_with d memory memory' stream out k same = record { rows = rows_with d memory memory' stream out k.rows same; count_is = k.count_is }

read_with : (d : T85Decoder) (memory memory' : List ℕ) →
    ((stream out : List ℕ) (k : InRows (hold_of d memory) stream out) → take (window_bytes k.decoder.image.header.xd) memory ≡ take (window_bytes k.decoder.image.header.xd) memory') →
    (stream out : List ℕ) → HasRead (hold_of d memory) stream out → HasRead (hold_of d memory') stream out
read_with d memory memory' same stream out (inl h) = inl h
read_with d memory memory' same stream out (inr (inl h)) = inr (inl h)
read_with d memory memory' same stream out (inr (inr k)) = inr (inr (counted_with d memory memory' stream out k (same stream out k.rows)))

-- bytes that are part of others are part of longer ones
stands_before : {place : ℕ} {bytes others : List ℕ} (rest : List ℕ) → StandAt place bytes others → StandAt place bytes (others ++ rest)
stands_before {place} {bytes} rest s = record {
  front = s.front;
  back = s.back ++ rest;
  others_are = rw (s.others_are, append_assoc s.front (bytes ++ s.back) rest, append_assoc bytes s.back rest);
  place_is = s.place_is;
}

module _ (laws : HeaderLaws) (d d' : T85Decoder) (window memory' rest : List ℕ) (needed : ℕ) (header : Header) (header_of : HeaderOf d.header (fields_of header)) (same : d'.header ≡ d.header)
    (needed_is : needed ≡ window_bytes header.xd) (long' : length memory' ≡ needed) where
  wide : (hold : Hold) (stream out : List ℕ) → hold.decoder.header ≡ d.header → (k : InRows hold stream out) → window_bytes k.decoder.image.header.xd ≡ needed
  wide hold stream out is k = ap (λ f. window_bytes f.xd) (laws.one d.header (fields_of k.decoder.image.header) (fields_of header) (rw is at k.header_of) header_of) ∙ sym needed_is

  lent : (stream out : List ℕ) → HasRead (hold_of d window) stream out → HasRead (hold_of d (take needed window)) stream out
  lent = read_with d window (take needed window)
      (λ stream out k. subst (λ n. take n window ≡ take n (take needed window)) (sym (wide (hold_of d window) stream out refl k))
      (sym (take_all needed (take needed window) (take_long needed window))))

  same_back : (stream out : List ℕ) (k : InRows (hold_of d' memory') stream out) → take (window_bytes k.decoder.image.header.xd) memory' ≡
      take (window_bytes k.decoder.image.header.xd) (memory' ++ rest)
  same_back stream out k = sym (take-append-le (window_bytes k.decoder.image.header.xd) memory' rest (omega (arith, wide (hold_of d' memory') stream out same k, long')))

  row_back : (call : BytesCall) (stream out : List ℕ) → GivesRowAt (hold_of d' memory') call stream out → GivesRowAt (hold_of d' (memory' ++ rest)) call stream out
  unfolding rows_with counted_with
  row_back call stream out g = record {
    row = g.row;
    stands = stands_before rest g.stands;
    place_is = g.place_is;
    has = counted_with d' memory' (memory' ++ rest) stream (out ++ g.row) g.has (same_back stream (out ++ g.row) g.has.rows);
    whole = g.whole;
    within = g.within;
  }

  -- rows that were returned again
  pub again_cut : {count : ℕ} → ((stream out : List ℕ) → HasRead (hold_of d (take needed window)) stream out →
      ReturnsAgain (hold_of d (take needed window)) (hold_of d' memory') count stream out) →
      (stream out : List ℕ) → HasRead (hold_of d window) stream out → ReturnsAgain (hold_of d window) (hold_of d' (memory' ++ rest)) count stream out
  unfolding rows_with counted_with
  again_cut {count} returns stream out h =
      let g = returns stream out (lent stream out h) in
      record {
        row = g.row;
        stands = subst (StandAt (d.place * length g.row) g.row) (take-append-drop needed window) (stands_before (drop needed window) g.stands);
        stays = stands_before rest g.stays;
        has = counted_with d' memory' (memory' ++ rest) stream (out ++ copies count g.row) g.has (same_back stream (out ++ copies count g.row) g.has.rows);
        whole = g.whole;
      }

  -- and that must be
  pub must_cut : ((stream out : List ℕ) → HasRead (hold_of d (take needed window)) stream out → MustGiveAgain (hold_of d' memory') → ⊥) →
      (stream out : List ℕ) → HasRead (hold_of d window) stream out → MustGiveAgain (hold_of d' (memory' ++ rest)) → ⊥
  unfolding rows_with
  must_cut stops stream out h must =
      let k = must.rows in
      let few = wide (hold_of d' (memory' ++ rest)) must.stream must.out same k in
      let front = take-append-le (window_bytes k.decoder.image.header.xd) memory' rest (omega (arith, few, long')) in
      stops stream out (lent stream out h) (record {
        given = must.given;
        within = must.within;
        stream = must.stream;
        out = must.out;
        rows = rows_with d' (memory' ++ rest) memory' must.stream must.out k front;
        long = omega (arith, few, long');
        repeats = subst (λ m. CanRepeat (decoder_view k.decoder (rows_at d'.place k.decoder.image.header.xd m) d'.learned)) front must.repeats;
      })

  pub window_cut : (call : BytesCall) (what : Answer) → IsOfEngine what → Answers (HasRead (hold_of d (take needed window))) (hold_of d (take needed window)) (hold_of d' memory') call what →
      Answers (HasRead (hold_of d window)) (hold_of d window) (hold_of d' (memory' ++ rest)) call what
  window_cut call answer.Row of a = record { bound = a.bound; tells = λ s o h. row_back call (s ++ bytes_of_call call) o (a.tells s o (lent s o h)) }
  window_cut call answer.More of a = record {
    bound = a.bound;
    tells = (
      a.tells.0,
      (λ s o h. read_with d' memory' (memory' ++ rest) same_back (s ++ bytes_of_call call) o (a.tells.1 s o (lent s o h))),
      a.tells.2,
      (λ n s o h. a.tells.3 n s o (lent s o h)),
    );
  }
  window_cut call answer.Done of a = record { bound = a.bound; tells = (a.tells.0, (λ s o r h m. a.tells.1 s o r (lent s o h) m), a.tells.2, (λ s o r h m. a.tells.3 s o r (lent s o h) m)) }
  window_cut call (answer.Broken fault) of a = record { bound = a.bound; tells = (a.tells.0, λ s o r h m. a.tells.1 s o r (lent s o h) m) }
  window_cut call answer.TooManyRows of a = record { bound = a.bound; tells = (a.tells.0, λ s o h. a.tells.1 s o (lent s o h)) }
  window_cut call what of a = absurd of

-- ---- when a call answers that the window is short

short_same : HeaderLaws → (hold : Hold) (header : Header) → HeaderOf hold.decoder.header (fields_of header) →
    (lacks : LacksWindow hold) → length hold.window < window_bytes header.xd
short_same laws hold header header_of lacks =
    rw (laws.one lacks.stream lacks.short.header (fields_of header) lacks.short.header_of (here lacks.next_is)) at lacks.short.short
  where
    here : (hold.decoder.next ≡ 1) ⊎ (hold.decoder.next ≡ 2) → HeaderOf lacks.stream (fields_of header)
    here (inl e) = rw (behind_header (hold_of hold.decoder lacks.window) lacks.stream lacks.out e lacks.read).stream_is header_of
    here (inr e) = let k = in_rows (hold_of hold.decoder lacks.window) lacks.stream lacks.out e lacks.read in rw k.stream_is (laws.stands hold.decoder.header k.text (fields_of header) header_of)

pub long_enough : HeaderLaws → (hold : Hold) (header : Header) → HeaderOf hold.decoder.header (fields_of header) → window_bytes header.xd ≤ length hold.window → LacksWindow hold → ⊥
long_enough laws hold header header_of long lacks = (let less = short_same laws hold header header_of lacks in omega (arith, less, long))

pub no_place : (hold : Hold) → hold.decoder.next ≡ 2 → 3 ≤ hold.decoder.place → LacksWindow hold → ⊥
no_place hold next far lacks = (let small = (in_rows (hold_of hold.decoder lacks.window) lacks.stream lacks.out next lacks.read).place_to in omega (arith, small, far))

pub lacks_later : (hold : Hold) → (hold.decoder.next ≡ 1 → ⊥) → (hold.decoder.next ≡ 2 → ⊥) → LacksWindow hold → ⊥
lacks_later hold a b lacks = either lacks.next_is where
  either : (hold.decoder.next ≡ 1) ⊎ (hold.decoder.next ≡ 2) → ⊥
  either (inl e) = a e
  either (inr e) = b e
