-- The bytes of a row, and of the end of a code, that a target accepted.
use Rattle.std.proofs.Common.{◌≡◌, ℕ, List, refl, ◌∙◌, Option, Result, Ok, Err, arith, append_assoc}
use Rattle.std.specs.Prelude.{IfErr, OnErr, OnOk, replicate}
use Rattle.std.specs.Io.KnownBytes.{Appends}
use Rattle.qm_core.specs.Counts.{one_more}
use Rattle.qm_core.specs.Place.{Place, State, Estimate}
use Rattle.qm_core.specs.Encoder.{Finish, encoder_state}
use Rattle.qm_core.specs.Sink.{Took, Refused, sink_at}
use Rattle.qm_core.specs.declared.encoder.Encoder.{Encoder}
use Rattle.qm_core.specs.declared.sink.CodeSink.{Ghosts}
use Rattle.raster_core.specs.Lines.{Lines}
use Rattle.raster_core.specs.declared.shape.Shape.{Shape}
use Rattle.raster_core.specs.declared.shape.Kept.{Kept}
use Rattle.qm_core.specs.declared.encoder.CoderFault.{CoderFault}
use Rattle.t85_core.specs.declared.fault.Fault.TheVariants.{Write}
use Rattle.t85_core.specs.Failures.{CountsWrite}
use Rattle.t85_core.specs.Private.Buffers.{SinkView, SameSink, TakesByte, RefusesByte}
use Rattle.t85_core.specs.Private.RowSteps.{sent_as, RowOutcome, CodeFinished}
use Rattle.t85_core.proofs.BytesJoin.CallsJoin.{Appends-keeps}
use Rattle.t85_core.proofs.ImagesEncode.SinkTakes.{took_inked}
use Rattle.raster_core.specs.Row.{RowEncoded, RowsEncodedAgain, again_event, row_task}
use Rattle.t85_core.specs.Private.AgainRows.{EventsOutcome}

-- the result for it, and the count
pub sent_err : (answer : Result (Unit {0}) CoderFault) → IfErr (sent_as answer) (λ f. f ≡ Write)
sent_err (Ok u) = tt
sent_err (Err f) = refl

pub sent_counts : (answer : Result (Unit {0}) CoderFault) (old new : ℕ) → OnOk answer (new ≡ old) → OnErr answer (new ≡ one_more old) → CountsWrite old new (sent_as answer)
sent_counts (Ok u) old new same counted = same
sent_counts (Err f) old new same counted = counted

module _ {S : Type 0} (view : S → SinkView) (failed : S → ℕ) (from to : S) where
  abbrev takes : S → ℕ → S → Type 0
  takes s byte t = TakesByte (view s) byte (view t)

  abbrev refuses : S → S → Type 0
  refuses s t = RefusesByte (view s) (view t)

  abbrev pushes : Ghosts S
  pushes = record { took = takes; refused = refuses; failed = failed }

  refused_stays : {bytes : List ℕ} → Refused takes refuses from bytes to → SameSink (view from) (view to)
  refused_stays r =
      let front = (took_inked view from r.last r.done r.taken).0 in
      let last = r.then.0 in
      record { same_buffer = last.same_buffer ∙ front.same_buffer; same_writer = last.same_writer ∙ front.same_writer; grows = (let a = front.grows in let b = last.grows in omega arith) }

  -- it is the same target
  pub row_stays : {kept' : Kept} {answer : Result (Unit {0}) CoderFault} (shape : Shape) (kept : Kept) (s : State) (pushed : List ℕ) (lines : Lines) (e : Encoder) (learned : List Estimate) →
      RowEncoded (sink_at pushes from pushed) (row_task shape kept s lines) kept' (encoder_state to e learned) answer → SameSink (view from) (view to)
  row_stays {answer = (Ok u)} shape kept s pushed lines e learned r = (took_inked view from to r.ok.encodes.more r.ok.encodes.taken).0
  row_stays {answer = (Err f)} shape kept s pushed lines e learned r = refused_stays r.err.fails.cut

  pub again_stays : {answer : Result (Unit {0}) CoderFault} (shape : Shape) (s : State) (count : ℕ) (pushed : List ℕ) (e : Encoder) (learned : List Estimate) →
      RowsEncodedAgain (sink_at pushes from pushed) shape s count (encoder_state to e learned) answer → SameSink (view from) (view to)
  again_stays {answer = (Ok u)} shape s count pushed e learned r = (took_inked view from to r.ok.more r.ok.taken).0
  again_stays {answer = (Err f)} shape s count pushed e learned r = refused_stays r.err.fails.cut

  pub end_stays : {p : Place} {answer : Result (Unit {0}) CoderFault} (pushed : List ℕ) → Finish (sink_at pushes from pushed) p to answer → SameSink (view from) (view to)
  end_stays {answer = (Ok u)} pushed r = (took_inked view from to r.more r.writes.ok).0
  end_stays {answer = (Err f)} pushed r = refused_stays r.writes.err

  module _ (text text' : Option (List ℕ)) (text_is : (view from).text ≡ text) (text_is' : (view to).text ≡ text') where
    taken : (bytes : List ℕ) → Took takes from bytes to → Appends text text' bytes
    taken bytes took = rw (← text_is, ← text_is') (took_inked view from to bytes took).1

    cut : (bytes : List ℕ) (r : Refused takes refuses from bytes to) → Appends text text' r.done
    cut bytes r =
        let kept = Appends-keeps (view from).text (view r.last).text (view to).text r.done (took_inked view from r.last r.done r.taken).1 r.then.1 in
        rw (← text_is, ← text_is') kept

    pub row_inked : (shape : Shape) (kept kept' : Kept) (s : State) (pushed : List ℕ) (lines : Lines) (e : Encoder) (learned : List Estimate) (answer : Result (Unit {0}) CoderFault)
        → RowEncoded (sink_at pushes from pushed) (row_task shape kept s lines) kept' (encoder_state to e learned) answer →
        RowOutcome (row_task shape kept s lines) pushed kept' text (encoder_state text' e learned) (sent_as answer)
    row_inked shape kept kept' s pushed lines e learned (Ok u) r = record {
      ok = record {
        more = r.ok.encodes.more;
        appended = taken r.ok.encodes.more r.ok.encodes.taken;
        codes = r.ok.encodes.codes;
        taught = r.ok.encodes.taught;
        offset_is = r.ok.offset_is;
        flag_is = r.ok.flag_is;
      };
      cut = tt;
    }
    row_inked shape kept kept' s pushed lines e learned (Err f) r = record {
      ok = tt;
      cut = (let c = r.err.fails.cut in record {
        events = r.err.events;
        rest = r.err.rest;
        all_are = r.err.all_are;
        done = c.done;
        left = c.left;
        appended = cut r.err.fails.more c;
        begins = rw (append_assoc, ← c.all) r.err.fails.begins;
      });
    }

    pub again_inked : (shape : Shape) (s : State) (count : ℕ) (pushed : List ℕ) (e : Encoder) (learned : List Estimate) (answer : Result (Unit {0}) CoderFault) →
        RowsEncodedAgain (sink_at pushes from pushed) shape s count (encoder_state to e learned) answer → EventsOutcome s pushed (replicate count (again_event shape)) text (encoder_state text' e learned) (sent_as answer)
    again_inked shape s count pushed e learned (Ok u) r = record {
      ok = record { more = r.ok.more; appended = taken r.ok.more r.ok.taken; codes = r.ok.codes; taught = r.ok.taught };
      cut = tt;
    }
    again_inked shape s count pushed e learned (Err f) r = record {
      ok = tt;
      cut = (let c = r.err.fails.cut in record {
        events = r.err.events;
        rest = r.err.rest;
        all_are = r.err.all_are;
        done = c.done;
        left = c.left;
        appended = cut r.err.fails.more c;
        begins = rw (append_assoc, ← c.all) r.err.fails.begins;
      });
    }

    pub end_inked : (p : Place) (pushed : List ℕ) (answer : Result (Unit {0}) CoderFault) → Finish (sink_at pushes from pushed) p to answer → CodeFinished p pushed text text' (sent_as answer)
    end_inked p pushed (Ok u) r = record { code = r.code; is = r.is; more = r.more; all = r.all; ok = taken r.more r.writes.ok; cut = tt }
    end_inked p pushed (Err f) r = record {
      code = r.code;
      is = r.is;
      more = r.more;
      all = r.all;
      ok = tt;
      cut = record { front = r.writes.err.done; rest = r.writes.err.left; text_is = r.writes.err.all; appends = cut r.more r.writes.err };
    }
