-- Rows that a C caller's decoder returns again.
use Rattle.std.proofs.Common.{◌≡◌, ◌<◌, ◌≤◌, ◌+◌, ◌*◌, ℕ, zero, suc, List, ◌++◌, length, refl, sym, ap, subst, ◌∙◌, arith, length-append}
use Rattle.std.proofs.Math.Nat.{add-mul}
use Rattle.std.specs.Int.{div_ceil}
use Rattle.qm_core.specs.Place.{Estimate}
use Rattle.raster_core.specs.Packed.{Held, rows_at}
use Rattle.t85_core.specs.declared.header.Header.{Header}
use Rattle.t85_core.specs.declared.pieces.PieceDecoder.{PieceDecoder}
use Rattle.t85_core.specs.Lent.{PieceView, decoder_view}
use Rattle.t85_core.specs.Numbers.{ArePieceNumbers}
use Rattle.t85_core.specs.Options.{fields_of}
use Rattle.t85_core.specs.Pieces.{HasDecoded}
use Rattle.t85_core.specs.Repeats.{CanRepeat, Repeats, RepeatsByNumbers}
use Rattle.t85_core.specs.Header.{HeaderOf}
use Rattle.t85_core.specs.Laws.{HeaderLaws}
use Rattle.t85_core.specs.RowSink.{copies}
use Rattle.libt85.specs.Decoded.{window_bytes}
use Rattle.libt85.specs.DecoderAgain.{GivesAgain, MustGiveAgain, ReturnsAgain}
use Rattle.libt85.specs.Decoder.{StandAt}
use Rattle.libt85.specs.DecoderState.{Hold, InRows, bytes_held_by, hold_of}
use Rattle.libt85.specs.DecoderSteps.{ContinuesRows, KeepsRest, MayTakeRows}
use Rattle.libt85.specs.declared.decoder.T85Decoder.{T85Decoder}
use Rattle.libt85.proofs.DecoderAnswers.{with_learned}
use Rattle.libt85.proofs.DecoderHoldsRows.{KeepsRows, decoded_as, fed_as, placed_within, rows_moved, stands_placed}
use Rattle.libt85.proofs.WindowCoversMemory.{rows_whole, same_memory}

-- no row was returned
pub gives_none : (hold : Hold) → (MustGiveAgain hold → ⊥) → GivesAgain hold hold 0
gives_none hold not = record {
  rows = λ some. absurd (omega (arith, some));
  all = λ stream out has. not;
  none = λ z. refl;
  within = λ some. omega (arith, some);
  after_a_row = λ some. omega (arith, some);
  limit = refl;
  not_begun = λ no. refl;
  ended = λ end. refl;
  short = λ lacks. refl;
}

-- ---- rows that must be

-- the engine's decoder with the numbers of the struct can repeat its row
pub must_repeat : {d : T85Decoder} {memory : List ℕ} (header : Header) {e : PieceDecoder} {text out : List ℕ} → HeaderLaws → RepeatsByNumbers → HeaderOf d.header (fields_of header) →
    fields_of e.image.header ≡ fields_of header → ArePieceNumbers d.numbers e → length memory ≡ window_bytes header.xd →
    HasDecoded (decoder_view e (rows_at d.place header.xd memory) d.learned) text out → MustGiveAgain (hold_of d memory) → CanRepeat (decoder_view e (rows_at d.place header.xd memory) d.learned)
must_repeat {d} {memory} header {e} {text} {out} laws law header_of same numbers long has must =
    let k = must.rows in
    let one = laws.one d.header (fields_of k.decoder.image.header) (fields_of header) k.header_of header_of in
    let wide : k.decoder.image.header.xd ≡ header.xd = ap (λ f. f.xd) one in
    law k.decoder e d.numbers (rows_at d.place header.xd memory) d.learned text out has (same ∙ sym one) k.numbers_are numbers
    (subst (λ rows. CanRepeat (decoder_view k.decoder rows d.learned)) (rows_whole d.place memory (sym wide) long) must.repeats)

-- ---- some rows were

-- the engine's call
pub record RepeatsAll (most : ℕ) (old new : PieceView) (count : ℕ) : Type 0 where
  pub repeats : Repeats most old new count
  pub all : count < most → CanRepeat new → ⊥

copies_long : (n : ℕ) (bytes : List ℕ) → length (copies n bytes) ≡ n * length bytes
copies_long zero bytes = let none : 0 * length bytes ≡ 0 = omega arith in sym none
copies_long (suc n) bytes =
    let others = copies_long n bytes in
    let sum = length-append bytes (copies n bytes) in
    let times : suc n * length bytes ≡ length bytes + n * length bytes = omega arith in
    omega (arith, others, sum, times)

-- a count of so many more
counts_more : (out : List ℕ) (row : List ℕ) (given given' count w : ℕ) → length out ≡ given * w → length row ≡ w → given' ≡ given + count → length (out ++ copies count row) ≡ given' * w
counts_more out row given given' count w all one more =
    let sum = length-append out (copies count row) in
    let these : length (copies count row) ≡ count * w = copies_long count row ∙ ap (λ n. count * n) one in
    let is : given' * w ≡ given * w + count * w = ap (λ n. n * w) more ∙ add-mul given count w in
    omega (arith, all, sum, these, is)

-- the engine's decoder was resumed from a struct and repeated rows, and a struct has its numbers
pub record IsRepeated (old kept new : T85Decoder) (memory memory' : List ℕ) (header : Header) (e e' : PieceDecoder) (learned' : List Estimate) (most count : ℕ) : Type 0 where
  pub may : MayTakeRows header old
  pub long : length memory ≡ window_bytes header.xd
  pub long' : length memory' ≡ window_bytes header.xd
  pub header_is : e.image.header ≡ header
  pub same : KeepsRest (with_learned old learned') kept
  pub held : bytes_held_by kept ≡ bytes_held_by old
  pub small : kept.place < 3
  pub numbers : ArePieceNumbers kept.numbers e'
  pub call : RepeatsAll most (decoder_view e (rows_at old.place header.xd memory) old.learned) (decoder_view e' (rows_at kept.place header.xd memory') learned') count
  pub keeps : KeepsRows kept new
  pub given : new.given ≡ kept.given + count

-- the row that a struct with this header returned last
abbrev row_in : T85Decoder → Header → List ℕ → List ℕ
row_in d header memory = (rows_at d.place header.xd memory).current

module _ {old kept new : T85Decoder} {memory memory' : List ℕ} {header : Header} {e e' : PieceDecoder} {learned' : List Estimate} {most count : ℕ}
    (done : IsRepeated old kept new memory memory' header e e' learned' most count) where
  fields_same : fields_of e'.image.header ≡ fields_of header
  fields_same = done.call.repeats.same ∙ ap fields_of done.header_is

  row_long : length (row_in old header memory) ≡ div_ceil header.xd 8
  row_long = placed_within (div_ceil header.xd 8) old.place memory done.may.place_to done.long

  stands : StandAt (old.place * length (row_in old header memory)) (row_in old header memory) memory
  stands = stands_placed (div_ceil header.xd 8) old.place (old.place * length (row_in old header memory)) memory done.may.place_to done.long (ap (λ n. old.place * n) row_long)

  stays : StandAt (new.place * length (row_in old header memory)) (row_in old header memory) memory'
  stays = subst (λ r. StandAt (new.place * length (row_in old header memory)) r memory') done.call.repeats.row
      (stands_placed (div_ceil header.xd 8) kept.place (new.place * length (row_in old header memory)) memory' done.small done.long'
      (ap (λ n. n * length (row_in old header memory)) done.keeps.place ∙ ap (λ n. kept.place * n) row_long))

  with_rows : {stream out : List ℕ} → ContinuesRows header e (hold_of old memory) stream out → InRows (hold_of kept memory') stream (out ++ copies count (row_in old header memory))
  with_rows {out = out} k =
      let wide : e'.image.header.xd ≡ header.xd = ap (λ f. f.xd) fields_same in
      record {
        version_is = done.same.version ∙ done.may.version_is;
        next_is = done.same.next ∙ done.may.next_is;
        place_to = done.small;
        decoder = e';
        header_of = rw (done.same.header, fields_same) done.may.header_of;
        numbers_are = done.numbers;
        text = k.text;
        stream_is = k.stream_is ∙ ap (λ h. h ++ k.text) (sym done.same.header);
        has = fed_as e' (rows_whole kept.place memory' (sym wide) done.long') done.same.learned done.held (record {
          decoded = k.has.decoded;
          text_is = k.has.text_is;
          has = subst (λ r. HasDecoded (decoder_view e' (rows_at kept.place header.xd memory') learned') k.has.decoded (out ++ copies count r)) done.call.repeats.row
              (done.call.repeats.rows k.has.decoded out k.has.has);
        });
      }

  returns_again : (stream out : List ℕ) → ContinuesRows header e (hold_of old memory) stream out → ReturnsAgain (hold_of old memory) (hold_of new memory') count stream out
  unfolding with_rows rows_moved
  returns_again stream out k =
      let wide : div_ceil header.xd 8 ≡ div_ceil e'.image.header.xd 8 = ap (λ f. div_ceil f.xd 8) (sym fields_same) in
      record {
        row = row_in old header memory;
        stands = stands;
        stays = stays;
        has = record {
          rows = rows_moved done.keeps (with_rows k);
          count_is = counts_more out (row_in old header memory) old.given new.given count (div_ceil e'.image.header.xd 8) (k.count_is ∙ ap (λ w. old.given * w) wide) (row_long ∙ wide)
              (done.given ∙ ap (λ n. n + count) done.same.given);
        };
        whole = row_long ∙ wide;
      }

  -- no further row must be returned
  stops_again : HeaderLaws → RepeatsByNumbers → (new.given < new.max_rows → count < most) → (stream out : List ℕ) → ContinuesRows header e (hold_of old memory) stream out →
      MustGiveAgain (hold_of new memory') → ⊥
  stops_again laws law few stream out k must =
      let taught : new.learned ≡ learned' = done.keeps.learned ∙ done.same.learned in
      let head : new.header ≡ old.header = done.keeps.header ∙ done.same.header in
      let numbers = subst (λ n. ArePieceNumbers n e') (sym done.keeps.numbers) done.numbers in
      let has = decoded_as e' (ap (λ p. rows_at p header.xd memory') done.keeps.place) taught refl (done.call.repeats.rows k.has.decoded out k.has.has) in
      let can = must_repeat header laws law (rw head done.may.header_of) fields_same numbers done.long' has must in
      done.call.all (few must.within) (subst (λ (z : ℕ × List Estimate). CanRepeat (decoder_view e' (rows_at z.0 header.xd memory') z.1)) (λ i. (done.keeps.place i, taught i)) can)

  pub gives_again : HeaderLaws → RepeatsByNumbers → (new.given < new.max_rows → count < most) → (stream out : List ℕ) → ContinuesRows header e (hold_of old memory) stream out →
      (0 < count → ReturnsAgain (hold_of old memory) (hold_of new memory') count stream out) × (MustGiveAgain (hold_of new memory') → ⊥)
  gives_again laws law few stream out k = ((λ some. returns_again stream out k), stops_again laws law few stream out k)

-- ---- none was

-- the engine's call with windows by other names
pub repeats_in : {rows to rows' to' : Held} {learned learned' : List Estimate} {most count : ℕ} (e e' : PieceDecoder) → rows ≡ to → rows' ≡ to' →
    RepeatsAll most (decoder_view e rows learned) (decoder_view e' rows' learned') count → RepeatsAll most (decoder_view e to learned) (decoder_view e' to' learned') count
repeats_in e e' before after call = rw (← before, ← after) call

-- nothing is changed, if the rows are at the same place
pub nothing_changed : {old : T85Decoder} {memory memory' : List ℕ} {width : ℕ} {learned' : List Estimate} {most count : ℕ} (e e' : PieceDecoder) →
    old.place < 3 → length memory ≡ window_bytes width → length memory' ≡ window_bytes width → count ≡ 0 →
    RepeatsAll most (decoder_view e (rows_at old.place width memory) old.learned) (decoder_view e' (rows_at old.place width memory') learned') count →
    hold_of (with_learned old learned') memory' ≡ hold_of old memory
nothing_changed {old} {width = width} e e' small long long' none call =
    let same = call.repeats.none none in
    let taught = ap (λ v. v.walk.carried.learned) same in
    let bytes = same_memory width old.place small long' long (ap (λ v. v.walk.carried.held) same) in
    λ i. hold_of (with_learned old (taught i)) (bytes i)

-- and none must be
pub none_again : {old : T85Decoder} {memory memory' : List ℕ} {header : Header} {learned' : List Estimate} {most count : ℕ} (e e' : PieceDecoder) → HeaderLaws → RepeatsByNumbers →
    MayTakeRows header old → ArePieceNumbers old.numbers e → e.image.header ≡ header → length memory ≡ window_bytes header.xd → length memory' ≡ window_bytes header.xd → count ≡ 0 →
    (old.given < old.max_rows → count < most) →
    RepeatsAll most (decoder_view e (rows_at old.place header.xd memory) old.learned) (decoder_view e' (rows_at old.place header.xd memory') learned') count →
    (stream out : List ℕ) → ContinuesRows header e (hold_of old memory) stream out → MustGiveAgain (hold_of (with_learned old learned') memory') → ⊥
none_again {header = header} e e' laws law may numbers same long long' none few call stream out k changed =
    let must = subst MustGiveAgain (nothing_changed e e' may.place_to long long' none call) changed in
    call.all (few must.within) (subst CanRepeat (sym (call.repeats.none none)) (must_repeat header laws law may.header_of (ap fields_of same) numbers long k.has.has must))
