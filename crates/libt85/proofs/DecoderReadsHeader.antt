-- The header that a C caller's decoder reads.
use Rattle.std.proofs.Common.{cond, ◌≡◌, ◌≤◌, ◌<◌, ◌+◌, inl, inr, ℕ, ◌==◌, Bool, false, List, [], ◌++◌, length, take, drop, Option, None, Some, refl, sym, ap, subst, ◌∙◌, arith, append_assoc, append-nil, length-append, length-take, take_all, take-append-drop, true≢false}
use Rattle.std.specs.Prelude.{◌||◌, ◌&&◌}
use Rattle.std.proofs.lemmas.Bool.Decides.{nat_tests}
use Rattle.t85_core.specs.declared.fault.Fault.{Fault}
use Rattle.t85_core.specs.declared.fault.Fault.TheVariants.{ShortHeader}
use Rattle.t85_core.specs.Header.{header_fault, is_variable}
use Rattle.t85_core.specs.Laws.{HeaderLaws}
use Rattle.t85_core.specs.declared.pieces.PieceDecoder.{PieceDecoder}
use Rattle.t85_core.specs.Numbers.{is_set, ArePhaseNumbers, ArePieceNumbers, AreStageNumbers, IsCodeNext, IsHeadNext}
use Rattle.t85_core.specs.States.PieceStands.{entities_behind}
use Rattle.t85_core.specs.Stages.{code_kind, head_kind, stage_kind}
use Rattle.t85_core.specs.Phases.{phase_is_open, phase_waits}
use Rattle.t85_core.specs.declared.pieces.phase.Phase.{Phase}
use Rattle.t85_core.specs.declared.pieces.phase.Phase.TheVariants as phase
use Rattle.t85_core.specs.declared.pieces.course.Stage.{Stage}
use Rattle.t85_core.specs.declared.pieces.course.Stage.TheVariants as stage
use Rattle.raster_core.specs.declared.place.RowPlace.{RowPlace}
use Rattle.libt85.specs.Decoder.{Answers, BytesCall, ReadsHeader, bytes_call, is_waiting, stripes_ended_by}
use Rattle.libt85.specs.DecoderLimit.{StaysWithinLimit}
use Rattle.libt85.specs.DecoderState.{BehindHeader, CountsRows, HasRead, Hold, InHeader, InRows, hold_of}
use Rattle.libt85.specs.DecoderSteps.{IsAwaited, IsFilled, IsJudged, IsOfEngine}
use Rattle.libt85.specs.declared.decoder.T85Decoder.{T85Decoder}
use Rattle.libt85.specs.declared.decoder.Answer.{Answer}
use Rattle.libt85.specs.declared.decoder.Answer.TheVariants as answer

-- whether a decoder waits, and the stripes that its numbers show as ended
pub waiting_is : (d : T85Decoder) (e : PieceDecoder) → ArePieceNumbers d.numbers e → is_waiting d ≡ (phase_is_open e.phase && phase_waits e.phase)
waiting_is d e is = by e.phase is.phase_is where
  by : (p : Phase) → ArePhaseNumbers d.numbers p → is_waiting d ≡ (phase_is_open p && phase_waits p)
  by (phase.Known s) k = ap (λ b. b && is_set d.numbers.waits) k
  by (phase.First head) k = λ i. k.0 i && is_set (k.1 i)
  by (phase.Code code) k = λ i. k.0 i && is_set (k.1 i)
  by (phase.Behind behind) k = λ i. k.0 i && is_set (k.1 i)
  by phase.Late k = λ i. k.0 i && is_set (k.1 i)

pub ended_same : (s : Stage) (d : T85Decoder) (entities : ℕ) → AreStageNumbers d.numbers.stage s → d.numbers.entities ≡ entities → stripes_ended_by d ≡ entities_behind (stage_kind s) entities
ended_same s d entities is many = ap (λ n. cond {A = ℕ} ((d.numbers.stage.next == 2) || (d.numbers.stage.next == 3)) (n + 1) n) many ∙ by s is where
  at : (n : ℕ) → d.numbers.stage.next ≡ n → cond {A = ℕ} ((d.numbers.stage.next == 2) || (d.numbers.stage.next == 3)) (entities + 1) entities ≡
      cond {A = ℕ} ((n == 2) || (n == 3)) (entities + 1) entities
  at n e = ap (λ m. cond {A = ℕ} ((m == 2) || (m == 3)) (entities + 1) entities) e

  in_head : (comment : Option ℕ) → IsHeadNext d.numbers.stage comment → cond {A = ℕ} ((d.numbers.stage.next == 2) || (d.numbers.stage.next == 3)) (entities + 1) entities ≡
      entities_behind (head_kind comment) entities
  in_head None e = at 0 e
  in_head (Some left) e = at 1 e.0

  in_code : (begun : Option RowPlace) → IsCodeNext d.numbers.stage begun → cond {A = ℕ} ((d.numbers.stage.next == 2) || (d.numbers.stage.next == 3)) (entities + 1) entities ≡
      entities_behind (code_kind begun) entities
  in_code None e = at 2 e
  in_code (Some place) e = at 3 e.0

  by : (s : Stage) → AreStageNumbers d.numbers.stage s → cond {A = ℕ} ((d.numbers.stage.next == 2) || (d.numbers.stage.next == 3)) (entities + 1) entities ≡ entities_behind (stage_kind s) entities
  by (stage.Head head) k = in_head head.comment k.1
  by (stage.Code c) k = in_code c.begun k.next_is
  by stage.Done k = at 4 k

pub not_some : (fault : Fault) → None ≡ Some fault → ⊥
not_some fault e = cc

-- ---- where a decoder stands, by what comes next

pub in_header : (hold : Hold) (stream out : List ℕ) → hold.decoder.next ≡ 0 → HasRead hold stream out → InHeader hold.decoder stream out
in_header hold stream out e has = grind arith

pub behind_header : (hold : Hold) (stream out : List ℕ) → hold.decoder.next ≡ 1 → HasRead hold stream out → BehindHeader hold.decoder stream out
behind_header hold stream out e has = grind arith

pub counted : (hold : Hold) (stream out : List ℕ) → hold.decoder.next ≡ 2 → HasRead hold stream out → CountsRows hold stream out
counted hold stream out e (inl h) = absurd (omega (arith, e, h.next_is))
counted hold stream out e (inr (inl h)) = absurd (omega (arith, e, h.next_is))
counted hold stream out e (inr (inr h)) = h

pub in_rows : (hold : Hold) (stream out : List ℕ) → hold.decoder.next ≡ 2 → HasRead hold stream out → InRows hold stream out
in_rows hold stream out e has = (counted hold stream out e has).rows

-- ---- answers, where less is known

pub answers_from : {Has Has' : List ℕ → List ℕ → Type 0} (old mid new : Hold) (call : BytesCall) (what : Answer) → ((stream out : List ℕ) → Has stream out → Has' stream out) →
    IsOfEngine what → Answers Has' mid new call what → Answers Has old new call what
answers_from old mid new call answer.Row k of a = record { bound = a.bound; tells = λ s o h. a.tells s o (k s o h) }
answers_from old mid new call answer.More k of a =
    record { bound = a.bound; tells = (a.tells.0, (λ s o h. a.tells.1 s o (k s o h)), a.tells.2, (λ n s o h. a.tells.3 n s o (k s o h))) }
answers_from old mid new call answer.Done k of a = record { bound = a.bound; tells = (a.tells.0, (λ s o r h m. a.tells.1 s o r (k s o h) m), a.tells.2, (λ s o r h m. a.tells.3 s o r (k s o h) m)) }
answers_from old mid new call (answer.Broken fault) k of a = record { bound = a.bound; tells = (a.tells.0, λ s o r h m. a.tells.1 s o r (k s o h) m) }
answers_from old mid new call answer.TooManyRows k of a = record { bound = a.bound; tells = (a.tells.0, λ s o h. a.tells.1 s o (k s o h)) }
answers_from old mid new call what k of a = absurd of

-- ---- the header

take_few : (n : ℕ) (xs : List ℕ) → n < 20 → length (take n xs) < 20
take_few n xs few = subst (λ k. k < 20) (sym (length-take n xs)) (omega (arith, few))

short_fault : (bytes : List ℕ) → length bytes < 20 → header_fault bytes ≡ Some ShortHeader
short_fault bytes few = grind (arith, nat_tests)

-- it has not come as a whole
pub header_waits : {d mid new : T85Decoder} {bytes window : List ℕ} {count : ℕ} {is_all : Bool} (what : Answer) → d.version ≡ 2 → d.next ≡ 0 → IsFilled d mid bytes count → mid.header_len < 20 →
    IsAwaited mid new is_all what → Answers (HasRead (hold_of d window)) (hold_of d window) (hold_of new window) (bytes_call bytes is_all count 0) what
header_waits {d} {mid} {new} {bytes} {window} {count} answer.More version next fill few (all, same) = record {
  bound = omega (arith, fill.count_is);
  tells = (
    omega (arith, fill.count_is, fill.len_is, few),
    (λ stream out has.
        let was = in_header (hold_of d window) stream out next has in
        inl (rw same (record {
          version_is = fill.version_is ∙ version;
          next_is = fill.next_is ∙ next;
          few = few;
          height_is = fill.height_is ∙ was.height_is;
          stream_is = ap (λ s. s ++ take count bytes) was.stream_is ∙ sym fill.filled;
          out_is = was.out_is;
        }))),
    (λ a. true≢false (sym a ∙ all)),
    (λ n. absurd (omega (arith, n, ap (λ z. z.next) same, fill.next_is, next))),
  );
}
header_waits {d} {mid} {bytes = bytes} {window} {count} (answer.Broken fault) version next fill few (all, is, ended, kept) = record {
  bound = omega (arith, fill.count_is);
  tells = (
    ended,
    λ stream out rest has follows.
        let was = in_header (hold_of d window) stream out next has in
        let none : rest ≡ [] = follows all in
        let whole : take count bytes ≡ bytes = take_all count bytes (omega (arith, fill.count_is, fill.len_is, few)) in
        let is_short : length (stream ++ bytes) < 20 =
        subst (λ s. length s < 20) (fill.filled ∙ ap (λ s. s ++ take count bytes) (sym was.stream_is) ∙ ap (λ b. stream ++ b) whole) (take_few mid.header_len mid.header few) in
        inl (rw (none, append-nil (stream ++ bytes)) (short_fault (stream ++ bytes) is_short ∙ ap Some (sym is)), was.out_is, kept ∙ fill.height_is ∙ was.height_is),
  );
}
header_waits what version next fill few none = absurd none

-- then no header is complete
pub header_cut : {d mid : T85Decoder} {bytes window : List ℕ} {count : ℕ} → IsFilled d mid bytes count → mid.header_len < 20 → ReadsHeader (hold_of d window) bytes → ⊥
header_cut {d} {bytes = bytes} {window} fill few reads =
    let was = in_header (hold_of d window) reads.stream reads.out reads.next_is reads.read in
    let short : length reads.stream ≤ d.header_len = rw (was.stream_is, length-take d.header_len d.header) (omega arith) in
    let whole = reads.header_of.whole in
    let sum = length-append reads.stream bytes in
    let a = fill.count_is in
    let b = fill.len_is in
    omega (arith, whole, sum, short, few, a, b)

-- then no row is certain
pub awaited_within : {d mid : T85Decoder} {bytes : List ℕ} {count : ℕ} (new : T85Decoder) (is_all : Bool) (what : Answer) → d.next ≡ 0 → IsFilled d mid bytes count →
    IsAwaited mid new is_all what → StaysWithinLimit what new
awaited_within new is_all answer.More next fill (all, same) = λ window stream out k rows least. (let two = k.next_is in absurd (omega (arith, two, ap (λ z. z.next) same, fill.next_is, next)))
awaited_within new is_all (answer.Broken fault) next fill is = tt
awaited_within new is_all what next fill none = absurd none

-- what was filled is the stream so far
module _ {d mid : T85Decoder} {bytes : List ℕ} {count : ℕ} (laws : HeaderLaws) (next : d.next ≡ 0) (fill : IsFilled d mid bytes count) (full : 20 ≤ mid.header_len) where
  module _ {window stream out : List ℕ} (has : HasRead (hold_of d window) stream out) where
    stream_is : stream ++ take count bytes ≡ mid.header
    stream_is = ap (λ s. s ++ take count bytes) (in_header (hold_of d window) stream out next has).stream_is ∙ sym fill.filled ∙ take_all mid.header_len mid.header (omega (arith, fill.long, full))

    out_is : out ≡ []
    out_is = (in_header (hold_of d window) stream out next has).out_is

    height_is : mid.numbers.height ≡ 0
    height_is = fill.height_is ∙ (in_header (hold_of d window) stream out next has).height_is

    goes_on : (rest : List ℕ) → (stream ++ bytes) ++ rest ≡ mid.header ++ (drop count bytes ++ rest)
    goes_on rest =
        ap (λ b. (stream ++ b) ++ rest) (sym (take-append-drop count bytes)) ∙ ap (λ s. s ++ rest) (sym (append_assoc stream (take count bytes) (drop count bytes)))
        ∙ ap (λ s. (s ++ drop count bytes) ++ rest) stream_is ∙ append_assoc mid.header (drop count bytes) rest

  all_of_stream : {window : List ℕ} (reads : ReadsHeader (hold_of d window) bytes) → reads.stream ++ bytes ≡ mid.header ++ drop count bytes
  all_of_stream reads = sym (append-nil (reads.stream ++ bytes)) ∙ goes_on reads.read [] ∙ ap (λ r. mid.header ++ r) (append-nil (drop count bytes))

  -- and it is judged
  pub header_judged : {new : T85Decoder} {window : List ℕ} {is_all : Bool} (what : Answer) → IsJudged mid new what →
      Answers (HasRead (hold_of d window)) (hold_of d window) (hold_of new window) (bytes_call bytes is_all count 0) what
  header_judged {new} answer.Header is = record { bound = omega (arith, fill.count_is); tells = λ stream out has. rw (stream_is has, out_is has) is }
  header_judged answer.TooManyRows is = record {
    bound = omega (arith, fill.count_is);
    tells = (is.0, λ stream out has. inl (rw (stream_is has) is.1, is.2 ∙ height_is has));
  }
  header_judged (answer.Broken fault) is = record {
    bound = omega (arith, fill.count_is);
    tells = (
      is.0,
      λ stream out rest has follows.
          inl (ap header_fault (goes_on has rest) ∙ laws.refusal_stands mid.header (drop count bytes ++ rest) (omega (arith, fill.long)) ∙ is.1, out_is has, is.2 ∙ height_is has),
    );
  }
  header_judged what is = absurd is

  -- a header that is accepted, and within the limit, is reported
  pub header_reads : {window : List ℕ} (new : T85Decoder) (what : Answer) → IsJudged mid new what → new.max_rows ≡ d.max_rows → ReadsHeader (hold_of d window) bytes → what ≡ answer.Header
  header_reads new answer.Header is limit reads = refl
  header_reads new answer.TooManyRows is limit reads =
      let all : reads.stream ++ bytes ≡ mid.header ++ drop count bytes = all_of_stream reads in
      let same = laws.one (mid.header ++ drop count bytes) is.1.header reads.header (laws.stands mid.header (drop count bytes) is.1.header is.1.header_of) (rw all at reads.header_of) in
      let high : new.max_rows < reads.header.yd = subst (λ h. new.max_rows < h.yd) same is.1.more in
      let low = reads.within (subst (λ h. is_variable h ≡ false) same is.1.fixed) in
      absurd (omega (arith, high, low, limit))
  header_reads new (answer.Broken fault) is limit reads =
      absurd (not_some fault (sym (laws.not_refused (reads.stream ++ bytes) reads.header reads.header_of) ∙ ap header_fault (all_of_stream reads)
      ∙ laws.refusal_stands mid.header (drop count bytes) (omega (arith, fill.long)) ∙ is.1))
  header_reads new what is limit reads = absurd is

-- no row is certain
pub judged_within : (mid new : T85Decoder) (what : Answer) → IsJudged mid new what → StaysWithinLimit what new
judged_within mid new answer.Header is = tt
judged_within mid new answer.TooManyRows is = tt
judged_within mid new (answer.Broken fault) is = tt
judged_within mid new what is = absurd is
