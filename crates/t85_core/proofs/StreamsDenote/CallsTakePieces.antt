-- A stream in pieces: calls one after another.
use Rattle.std.proofs.Common.{◌≡◌, ℕ, List, [], ◌∷◌, ◌++◌, refl, sym, ap, ◌∙◌, subst, append_assoc, append-nil}
use Rattle.std.specs.Prelude.{flat_map}
use Rattle.t85_core.specs.declared.fault.Fault.TheVariants.{Truncated}
use Rattle.t85_core.specs.Lent.{PieceView, waits_behind}
use Rattle.t85_core.specs.declared.pieces.Outcome.{Outcome}
use Rattle.t85_core.specs.declared.pieces.Outcome.TheVariants as outcome
use Rattle.t85_core.specs.Height.{IsHeight}
use Rattle.t85_core.specs.Pieces.{AwaitsHeight, PiecesAwait, PiecesConsumed, stripes_ended, stream_of, row_held, HasDecoded, HandsOut, HoldsImage, PiecesTaken, PiecesWait, PiecesMore, PiecesWhole, PiecesBroken, Call, IsCallBy, StreamGoesOn, bytes_taken, given_with, row_given, AreCalls, decoder_after}
use Rattle.t85_core.specs.Consumed.{ConsumesImage}
use Rattle.t85_core.specs.Feeds.{HasFed, Feed, AreFeeds, FeedsTaken, decoder_fed, held_after}

-- the bytes that calls consumed, and the rows that they returned
abbrev taken_by : List Call → List ℕ
taken_by calls = flat_map bytes_taken calls

abbrev given_by : List Call → List ℕ
given_by calls = flat_map row_given calls

abbrev fed_to : List Feed → List ℕ
fed_to feeds = flat_map (λ feed. bytes_taken feed.call) feeds

abbrev given_for : List Feed → List ℕ
given_for feeds = flat_map (λ feed. row_given feed.call) feeds

-- a call more
call_on : {Before After : List ℕ → List ℕ → Type 0} {stored : List ℕ} {d : PieceView} {call : Call} → IsCallBy Before After stored d call → StreamGoesOn call.answer →
    (text out : List ℕ) → Before text out → After (text ++ bytes_taken call) (out ++ row_given call)
call_on {After} {call} is on text out s = by_answer call.answer refl where
  same : (row : List ℕ) → row_given call ≡ row → After (text ++ bytes_taken call) (out ++ row) → After (text ++ bytes_taken call) (out ++ row_given call)
  same row e k = subst (λ z. After (text ++ bytes_taken call) (out ++ z)) (sym e) k

  by_answer : (o : Outcome) → call.answer ≡ o → After (text ++ bytes_taken call) (out ++ row_given call)
  by_answer outcome.Row e = same (row_held call.new) (ap (λ z. given_with z (row_held call.new)) e) (is.row e text out s)
  by_answer outcome.More e = same [] (ap (λ z. given_with z (row_held call.new)) e) (subst (After (text ++ bytes_taken call)) (sym (append-nil out)) (is.more e text out s).0)
  by_answer (outcome.Done height) e = absurd (subst StreamGoesOn e on)
  by_answer (outcome.Broken fault) e = absurd (subst StreamGoesOn e on)

-- and all of them
calls_on : (d : PieceView) (calls : List Call) → AreCalls d calls → (text out : List ℕ) → HasDecoded d text out → HasDecoded (decoder_after d calls) (text ++ taken_by calls) (out ++ given_by calls)
calls_on d [] are text out s = rw (append-nil text, append-nil out) s
calls_on d (call ∷ calls) are text out s =
    rw (← append_assoc text (bytes_taken call) (taken_by calls), ← append_assoc out (row_given call) (given_by calls))
    (calls_on call.new calls are.2 (text ++ bytes_taken call) (out ++ row_given call) (call_on are.0 are.1 text out s))

-- where bytes are held
feeds_on : (d : PieceView) (held : List ℕ) (feeds : List Feed) → AreFeeds d held feeds → (text out : List ℕ) → HasFed d held text out →
    HasFed (decoder_fed d feeds) (held_after held feeds) (text ++ fed_to feeds) (out ++ given_for feeds)
feeds_on d held [] are text out s = rw (append-nil text, append-nil out) s
feeds_on d held (feed ∷ feeds) are text out s =
    rw (← append_assoc text (bytes_taken feed.call) (fed_to feeds), ← append_assoc out (row_given feed.call) (given_for feeds))
    (feeds_on feed.call.new feed.held feeds are.2 (text ++ bytes_taken feed.call) (out ++ row_given feed.call) (call_on are.0.fed are.1 text out s))

pub fed_at : FeedsTaken
fed_at d feeds s are = feeds_on d [] feeds are [] [] (record { decoded = []; text_is = refl; has = s })

pub taken_at : PiecesTaken
taken_at d calls s are = calls_on d calls are [] [] s

-- the stream stays the same
stream_after : (d : PieceView) (calls : List Call) → AreCalls d calls → stream_of (decoder_after d calls) ≡ stream_of d
stream_after d [] are = refl
stream_after d (call ∷ calls) are = stream_after call.new calls are.2 ∙ are.0.same

pub wait_at : PiecesWait
wait_at d calls last height rest s are is e late marked follows i =
    is.waits e late marked (taken_by calls) (given_by calls) rest height (taken_at d calls s are) follows
    (subst (λ z. IsHeight z ((taken_by calls ++ last.piece) ++ rest) height) (sym (stream_after d calls are)) i)

pub more_at : PiecesMore
more_at d calls last s are is e waits =
    subst (λ z. HandsOut z (taken_by calls ++ last.piece) last.new.height Truncated (given_by calls)) (stream_after d calls are)
    ((is.more e (taken_by calls) (given_by calls) (taken_at d calls s are)).1 waits)

pub await_at : PiecesAwait
await_at d calls last s are is e waits =
    subst (λ z. AwaitsHeight z (taken_by calls ++ last.piece) (stripes_ended last.new) (given_by calls)) (stream_after d calls are)
    ((is.more e (taken_by calls) (given_by calls) (taken_at d calls s are)).2 waits)

pub whole_at : PiecesWhole
whole_at d calls last height rest s are is e follows =
    subst (λ z. HoldsImage z ((taken_by calls ++ last.piece) ++ rest) height (given_by calls)) (stream_after d calls are)
    ((is.done height e).1 (taken_by calls) (given_by calls) rest (taken_at d calls s are) follows)

pub consumed_at : PiecesConsumed
consumed_at d calls last height rest s are is e follows =
    let w = is.consumed height e (taken_by calls) (given_by calls) rest (taken_at d calls s are) follows in
    subst (λ z. ConsumesImage z (waits_behind last.new) height (taken_by calls ++ bytes_taken last) ((taken_by calls ++ last.piece) ++ rest)) (stream_after d calls are)
    (subst (λ z. ConsumesImage (stream_of (decoder_after d calls)) (waits_behind last.new) height z ((taken_by calls ++ last.piece) ++ rest)) (sym (w.1 ∙ append-nil w.0)) w.2)

pub broken_at : PiecesBroken
broken_at d calls last fault rest s are is e follows =
    subst (λ z. HandsOut z ((taken_by calls ++ last.piece) ++ rest) last.new.height fault (given_by calls)) (stream_after d calls are)
    (is.broken fault e (taken_by calls) (given_by calls) rest (taken_at d calls s are) follows)
