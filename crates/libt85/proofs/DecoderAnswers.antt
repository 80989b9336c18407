-- The answers of a C caller's decoder among the rows.
use Rattle.std.proofs.Common.{◌≡◌, ◌≤◌, ◌<◌, ◌*◌, ◌⊎◌, inl, inr, ℕ, Bool, List, None, [], ◌++◌, length, take, take_all, drop, sym, ap, subst, ◌∙◌, append_assoc, length-append, arith}
use Rattle.std.specs.Prelude.{◌&&◌}
use Rattle.std.proofs.Math.Nat.{mul-le-mul_right}
use Rattle.std.proofs.Math.Seq.{drop-append_seam}
use Rattle.std.specs.Int.{div_ceil}
use Rattle.qm_core.specs.Place.{Estimate}
use Rattle.raster_core.specs.Packed.{rows_at}
use Rattle.t85_core.specs.Phases.{phase_is_open, phase_stage, phase_waits}
use Rattle.t85_core.specs.declared.header.Header.{Header}
use Rattle.t85_core.specs.declared.pieces.Outcome.{Outcome}
use Rattle.t85_core.specs.declared.pieces.Outcome.TheVariants as outcome
use Rattle.t85_core.specs.declared.pieces.PieceDecoder.{PieceDecoder}
use Rattle.t85_core.specs.declared.pieces.Progress.{Progress}
use Rattle.t85_core.specs.Laws.{HeaderLaws}
use Rattle.t85_core.specs.Lent.{decoder_view}
use Rattle.t85_core.specs.Numbers.{ArePieceNumbers}
use Rattle.t85_core.specs.Options.{fields_of}
use Rattle.t85_core.specs.Outcomes.{end_in}
use Rattle.t85_core.specs.Feeds.{HasFed, IsFeed}
use Rattle.t85_core.specs.Pieces.{AwaitsHeight, stripes_ended, call_of as piece_call}
use Rattle.t85_core.specs.Consumed.{ConsumesImage}
use Rattle.libt85.specs.Decoded.{window_bytes}
use Rattle.libt85.specs.Decoder.{Answers, ReturnedAllRows, IsBrokenStream, IsImageOf, ReplacesMore, TellsAnswer, TellsCertain, bytes_call, is_waiting, stripes_ended_by}
use Rattle.libt85.specs.DecoderLimit.{IsCertainOfMore, ReplacesRow}
use Rattle.libt85.specs.DecoderState.{HasRead, InRows, bytes_held_by, hold_of}
use Rattle.libt85.specs.DecoderSteps.{ContinuesRows, IsOfEngine, IsOverLimit, IsToldOf, KeepsRest, MayTakeRows}
use Rattle.libt85.specs.declared.decoder.T85Decoder.{T85Decoder}
use Rattle.libt85.specs.declared.decoder.Report.{Report}
use Rattle.libt85.specs.declared.decoder.Answer.{Answer}
use Rattle.libt85.specs.declared.decoder.Answer.TheVariants as answer
use Rattle.libt85.proofs.WindowCoversMemory.{rows_whole}
use Rattle.libt85.proofs.DecoderReadsHeader.{ended_same, waiting_is}
use Rattle.libt85.proofs.DecoderHoldsRows.{fed_as, one_more, one_moved, placed_within, rows_moved, stands_placed}

-- the struct with these contexts
abbrev pub with_learned : T85Decoder → List Estimate → T85Decoder
with_learned d learned = record d { learned = learned }

pub keeps_on : {a b c : T85Decoder} → KeepsRest a b → KeepsRest b c → KeepsRest a c
keeps_on x y = record {
  version = y.version ∙ x.version;
  next = y.next ∙ x.next;
  limit = y.limit ∙ x.limit;
  header = y.header ∙ x.header;
  learned = y.learned ∙ x.learned;
  given = y.given ∙ x.given;
}

-- the engine's decoder was resumed from a struct and fed, and a struct has its numbers
pub record IsFed (old kept : T85Decoder) (memory memory' : List ℕ) (header : Header) (e e' : PieceDecoder) (learned' : List Estimate) (held' bytes : List ℕ) (is_all : Bool)
    (progress : Progress) : Type 0 where
  pub may : MayTakeRows header old
  pub head : length old.header ≡ 20
  pub long : length memory ≡ window_bytes header.xd
  pub long' : length memory' ≡ window_bytes header.xd
  pub header_is : e.image.header ≡ header
  pub same : KeepsRest (with_learned old learned') kept
  pub small : kept.place < 3
  pub numbers : ArePieceNumbers kept.numbers e'
  pub held : bytes_held_by kept ≡ held'
  pub call : IsFeed (decoder_view e (rows_at old.place header.xd memory) old.learned) (bytes_held_by old) held'
      (piece_call bytes is_all progress (decoder_view e' (rows_at kept.place header.xd memory') learned'))

module _ {old kept : T85Decoder} {memory memory' : List ℕ} {header : Header} {e e' : PieceDecoder} {learned' : List Estimate} {held' bytes : List ℕ} {is_all : Bool} {progress : Progress} {certain : ℕ}
    (new : T85Decoder) (told : Report) (laws : HeaderLaws) (done : IsFed old kept memory memory' header e e' learned' held' bytes is_all progress)
    (certain_is : end_in progress.outcome ≡ None → TellsCertain kept certain)
    (taken : told.taken ≡ progress.taken) (at : told.row ≡ kept.place * div_ceil header.xd 8) where
  fields_same : fields_of e'.image.header ≡ fields_of header
  fields_same = done.call.fed.same ∙ ap fields_of done.header_is

  rows_of : {stream text out' : List ℕ} → stream ≡ old.header ++ text → HasFed (decoder_view e' (rows_at kept.place header.xd memory') learned') held' text out' →
      InRows (hold_of kept memory') stream out'
  rows_of {text = text} is has =
      let wide : e'.image.header.xd ≡ header.xd = ap (λ f. f.xd) fields_same in
      record {
        version_is = done.same.version ∙ done.may.version_is;
        next_is = done.same.next ∙ done.may.next_is;
        place_to = done.small;
        decoder = e';
        header_of = rw (done.same.header, fields_same) done.may.header_of;
        numbers_are = done.numbers;
        text = text;
        stream_is = is ∙ ap (λ h. h ++ text) (sym done.same.header);
        has = fed_as e' (rows_whole kept.place memory' (sym wide) done.long') done.same.learned done.held has;
      }

  further : {stream out : List ℕ} (k : ContinuesRows header e (hold_of old memory) stream out) → stream ++ take told.taken bytes ≡ old.header ++ (k.text ++ take progress.taken bytes)
  further {stream} k = ap (λ n. stream ++ take n bytes) taken ∙ ap (λ s. s ++ take progress.taken bytes) k.stream_is ∙ append_assoc old.header k.text (take progress.taken bytes)

  all_of : {stream out : List ℕ} (rest : List ℕ) (k : ContinuesRows header e (hold_of old memory) stream out) → (stream ++ bytes) ++ rest ≡ old.header ++ ((k.text ++ bytes) ++ rest)
  all_of rest k = ap (λ s. (s ++ bytes) ++ rest) k.stream_is ∙ ap (λ s. s ++ rest) (append_assoc old.header k.text bytes) ∙ append_assoc old.header (k.text ++ bytes) rest

  behind : (more : List ℕ) → drop 20 (old.header ++ more) ≡ more
  behind more = ap (λ n. drop n (old.header ++ more)) (sym done.head) ∙ drop-append_seam old.header more

  bound : told.taken ≤ length bytes
  bound = subst (λ n. n ≤ length bytes) (sym taken) done.call.fed.bound

  height_of : kept.numbers.height ≡ e'.image.height
  height_of = done.numbers.height_is

  told_as : (what : Answer) → told.answer ≡ what → IsOfEngine what →
      TellsAnswer (ContinuesRows header e (hold_of old memory)) (hold_of old memory) (hold_of new memory') (bytes_call bytes is_all told.taken told.row) what →
      IsOfEngine told.answer × Answers (ContinuesRows header e (hold_of old memory)) (hold_of old memory) (hold_of new memory') (bytes_call bytes is_all told.taken told.row) told.answer
  told_as what is of tells = rw is (of, record { bound = bound; tells = tells })

  stored_or_none : (held' ≡ []) ⊎ ((progress.taken ≡ 0) × (length held' ≤ length (bytes_held_by old))) → bytes_held_by new ≡ bytes_held_by kept → (bytes_held_by new ≡ []) ⊎ (told.taken ≡ 0)
  stored_or_none (inl none) same = inl (same ∙ done.held ∙ none)
  stored_or_none (inr k) same = inr (taken ∙ k.0)

  done_no_more : (height : ℕ) → outcome.Done height ≡ outcome.More → ⊥
  done_no_more height e = cc

  -- the row that the engine returns
  row' : List ℕ
  row' = (rows_at kept.place header.xd memory').current

  count_of : {stream out : List ℕ} → ContinuesRows header e (hold_of old memory) stream out → length out ≡ kept.given * div_ceil e'.image.header.xd 8
  count_of k = rw (done.same.given, ap (λ f. f.xd) fields_same) k.count_is

  row_long : length row' ≡ div_ceil e'.image.header.xd 8
  unfolding row'
  row_long = placed_within (div_ceil header.xd 8) kept.place memory' done.small done.long' ∙ ap (λ f. div_ceil f.xd 8) (sym fields_same)

  with_row : {stream out : List ℕ} → progress.outcome ≡ outcome.Row → ContinuesRows header e (hold_of old memory) stream out →
      InRows (hold_of kept memory') (stream ++ take told.taken bytes) (out ++ row')
  unfolding row'
  with_row {out = out} e1 k = rows_of (further k) (done.call.fed.row e1 k.text out k.has)

  without_row : {stream out : List ℕ} → progress.outcome ≡ outcome.More → ContinuesRows header e (hold_of old memory) stream out → InRows (hold_of kept memory') (stream ++ take told.taken bytes) out
  without_row {out = out} e1 k = rows_of (further k) (done.call.fed.more e1 k.text out k.has).0

  -- more rows are certain than the limit
  certain_of_more : {stream out : List ℕ} → end_in progress.outcome ≡ None → kept.max_rows < certain → IsOverLimit kept new told.answer → (has : InRows (hold_of kept memory') stream out) →
      IsCertainOfMore has new.max_rows
  certain_of_more {stream} {out} going more over has = record {
    rows = certain;
    certain = certain_is going memory' stream out has;
    more = subst (λ n. n < certain) (sym over.limit_is) more;
  }

  in_place_of_row : {stream out : List ℕ} → progress.outcome ≡ outcome.Row → IsOverLimit kept new told.answer → (kept.max_rows < certain) ⊎ (kept.max_rows ≤ kept.given) →
      ContinuesRows header e (hold_of old memory) stream out → ReplacesRow new (stream ++ take told.taken bytes) out
  unfolding row' with_row rows_of
  in_place_of_row {out = out} e1 over why k = record {
    hold = hold_of kept memory';
    row = row';
    has = with_row e1 k;
    whole = row_long;
    why = elim why [
      | inl more ↦ inl (certain_of_more (ap end_in e1) more over (with_row e1 k))
      | inr more ↦ inr (rw (count_of k) (mul-le-mul_right {m = new.max_rows} {n = kept.given} (div_ceil e'.image.header.xd 8) (subst (λ n. n ≤ kept.given) (sym over.limit_is) more)))
    ];
    height_is = over.height_is;
  }

  -- all rows are returned
  all_rows : {stream out : List ℕ} → progress.outcome ≡ outcome.More → ContinuesRows header e (hold_of old memory) stream out → ReturnedAllRows kept (stream ++ bytes) out
  all_rows {stream} {out} e1 k =
      let more = done.call.fed.more e1 k.text out k.has in
      let waits : is_waiting kept ≡ (phase_is_open e'.phase && phase_waits e'.phase) = waiting_is kept e' done.numbers in
      let ended : stripes_ended (decoder_view e' (rows_at kept.place header.xd memory') learned') ≡ stripes_ended_by kept =
      sym (ended_same (phase_stage e'.phase) kept e'.course.entities done.numbers.stage_is done.numbers.course_is.entities_are) in (
        (λ w. rw (k.stream_is, append_assoc old.header k.text bytes) (record {
          header = fields_of header;
          header_of = laws.stands old.header (k.text ++ bytes) (fields_of header) done.may.header_of;
          hands = rw (behind (k.text ++ bytes), height_of, ← done.header_is) (more.1 (sym waits ∙ w));
        })),
        (λ w. rw (k.stream_is, append_assoc old.header k.text bytes) (
          fields_of header,
          laws.stands old.header (k.text ++ bytes) (fields_of header) done.may.header_of,
          subst (λ b. AwaitsHeight (fields_of header) b (stripes_ended_by kept) out) (sym (behind (k.text ++ bytes)))
              (subst (λ n. AwaitsHeight (fields_of header) (k.text ++ bytes) n out) ended
              (rw done.header_is at (more.2 (sym waits ∙ w)))),
        )),
      )

  all_taken : progress.outcome ≡ outcome.More → told.taken ≡ length bytes
  all_taken e1 = taken ∙ done.call.all e1

  in_place_of_more : {stream out : List ℕ} → progress.outcome ≡ outcome.More → IsOverLimit kept new told.answer → kept.max_rows < certain → ContinuesRows header e (hold_of old memory) stream out →
      ReplacesMore new (bytes_call bytes is_all told.taken told.row) stream out
  in_place_of_more {stream} {out} e1 over more k =
      let has : InRows (hold_of kept memory') (stream ++ bytes) out = subst (λ b. InRows (hold_of kept memory') (stream ++ b) out) (take_all told.taken bytes (omega (arith, all_taken e1)))
      (without_row e1 k) in
      record {
        hold = hold_of kept memory';
        has = has;
        all = all_taken e1;
        not_last = λ all. done.call.fed.ends all e1;
        fixed = all_rows e1 k;
        why = certain_of_more (ap end_in e1) more over has;
        height_is = over.height_is;
      }

  pub row_told : (what : Outcome) → progress.outcome ≡ what → IsToldOf what kept new certain told.answer →
      IsOfEngine told.answer × Answers (ContinuesRows header e (hold_of old memory)) (hold_of old memory) (hold_of new memory') (bytes_call bytes is_all told.taken told.row) told.answer
  unfolding rows_of rows_moved with_row without_row row'
  row_told outcome.Row e1 (inl is) =
      told_as answer.Row is.what_is tt (λ stream out k. record {
        row = row';
        stands = stands_placed (div_ceil header.xd 8) kept.place told.row memory' done.small done.long' at;
        place_is = at ∙ ap (λ w. kept.place * w) (sym (row_long ∙ ap (λ f. div_ceil f.xd 8) fields_same)) ∙ ap (λ n. n * length row') (sym is.counts.place);
        has = record {
          rows = rows_moved (one_moved is.counts) (with_row e1 k);
          count_is = length-append out row' ∙ one_more (length out) (length row') kept.given new.given (div_ceil e'.image.header.xd 8) (count_of k) row_long is.counts.given;
        };
        whole = row_long;
        within = subst (λ n. new.given ≤ n) (sym is.counts.limit) is.given_to;
      })
  row_told outcome.Row e1 (inr (over, why)) =
      told_as answer.TooManyRows over.what_is tt (over.ended, λ stream out k. inr (inl (in_place_of_row e1 over why k)))
  row_told outcome.More e1 (inr (over, more)) =
      told_as answer.TooManyRows over.what_is tt (over.ended, λ stream out k. inr (inr (in_place_of_more e1 over more k)))
  row_told outcome.More e1 (inl is) =
      let same : new ≡ kept = is.same in
      told_as answer.More is.what_is tt (
        all_taken e1,
        (λ stream out k.
            subst (λ d. HasRead (hold_of d memory') (stream ++ take told.taken bytes) out) (sym same)
            (inr (inr (record { rows = without_row e1 k; count_is = count_of k })))),
        (λ all. done.call.fed.ends all e1),
        (λ n stream out k. subst (λ d. ReturnedAllRows d (stream ++ bytes) out) (sym same) (all_rows e1 k)),
      )
  row_told (outcome.Done height) e1 (is, ended, same, counted, stored) =
      told_as answer.Done is tt (
        ended,
        (λ stream out rest k follows.
            let high : height ≡ new.numbers.height = sym (same ∙ height_of ∙ (done.call.fed.done height e1).0) in
            subst (λ s. IsImageOf s new.numbers.height out) (sym (all_of rest k))
            (record {
              header = fields_of header;
              header_of = laws.stands old.header ((k.text ++ bytes) ++ rest) (fields_of header) done.may.header_of;
              holds = rw (behind ((k.text ++ bytes) ++ rest), ← high, ← done.header_is) ((done.call.fed.done height e1).1 k.text out rest k.has follows);
            })),
        stored_or_none (done.call.earlier (λ more. done_no_more height (sym e1 ∙ more))) stored,
        (λ stream out rest k follows.
            let high : height ≡ new.numbers.height = sym (same ∙ height_of ∙ (done.call.fed.done height e1).0) in
            let w = done.call.fed.consumed height e1 k.text out rest k.has follows in
            let late : (phase_is_open e'.phase && phase_waits e'.phase) ≡ is_waiting new = sym (waiting_is new e' (subst (λ n. ArePieceNumbers n e') (sym counted) done.numbers)) in
            let whole : (k.text ++ bytes) ++ rest ≡ drop 20 ((stream ++ bytes) ++ rest) =
            sym (ap (drop 20) (all_of rest k) ∙ behind ((k.text ++ bytes) ++ rest)) in
            record {
              header = fields_of header;
              header_of = rw (further k) (laws.stands old.header (k.text ++ take progress.taken bytes) (fields_of header) done.may.header_of);
              consumed = w.0;
              stream_is = ap (drop 20) (further k) ∙ behind (k.text ++ take progress.taken bytes) ∙ w.1 ∙ ap (λ z. w.0 ++ z) (sym (stored ∙ done.held));
              image = subst (ConsumesImage (fields_of header) (is_waiting new) new.numbers.height w.0) whole
                  (subst (λ n. ConsumesImage (fields_of header) (is_waiting new) n w.0 ((k.text ++ bytes) ++ rest)) high
                  (subst (λ b. ConsumesImage (fields_of header) b height w.0 ((k.text ++ bytes) ++ rest)) late
                  (subst (λ h. ConsumesImage (fields_of h) (phase_is_open e'.phase && phase_waits e'.phase) height w.0 ((k.text ++ bytes) ++ rest)) done.header_is w.2)));
            }),
      )
  row_told (outcome.Broken fault) e1 (is, ended, same) =
      told_as (answer.Broken fault) is tt (
        ended,
        λ stream out rest k follows.
            let high : e'.image.height ≡ new.numbers.height = sym (same ∙ height_of) in
            subst (λ s. IsBrokenStream s new.numbers.height fault out) (sym (all_of rest k))
            (inr (record {
              header = fields_of header;
              header_of = laws.stands old.header ((k.text ++ bytes) ++ rest) (fields_of header) done.may.header_of;
              hands = rw (behind ((k.text ++ bytes) ++ rest), ← high, ← done.header_is) (done.call.fed.broken fault e1 k.text out rest k.has follows);
            })),
      )
