-- How many bytes the steps of a row encoder append at most.
use Rattle.std.proofs.Common.{◌≡◌, ◌≤◌, ◌+◌, ◌*◌, ℕ, Bool, List, [], ◌++◌, length, sym, ap, ◌∙◌, arith, length-append, Option, Result, Ok, Err}
use Rattle.std.specs.Prelude.{OnOk, OnErr}
use Rattle.std.specs.Io.KnownBytes.{Appends, Keeps, append_known}
use Rattle.std.proofs.lemmas.List.{length-map}
use Rattle.devices.specs.Device.{AppendsBeginning}
use Rattle.qm_core.specs.Place.{Place, Estimate}
use Rattle.qm_core.specs.Code.{stuffed}
use Rattle.qm_core.specs.Encoder.{EncoderIsAt, waiting_bytes, encoder_state}
use Rattle.qm_core.specs.declared.encoder.Encoder.{Encoder}
use Rattle.raster_core.specs.Lines.{Lines, pixel_events, pseudo_event, may_be_typical}
use Rattle.raster_core.specs.Row.{canonical_events, row_task}
use Rattle.raster_core.specs.Window.{shape_mode}
use Rattle.raster_core.specs.declared.shape.Shape.{Shape}
use Rattle.raster_core.specs.declared.shape.Kept.{Kept}
use Rattle.t85_core.specs.declared.fault.Fault.{Fault}
use Rattle.t85_core.specs.Grammar.{marker_bytes}
use Rattle.t85_core.specs.RowSink.{known_length}
use Rattle.t85_core.specs.Private.CoderLaws.{WritingLaws}
use Rattle.t85_core.specs.MostBytes.{AppendsBeside, AppendsAtMost}
use Rattle.t85_core.specs.Private.RowSteps.{RowPut, RowCut, CodeEnded}
use Rattle.t85_core.specs.Private.Written.{ending_of}
use Rattle.t85_core.proofs.BytesJoin.OutputHoldsBytes.{beginning_handed}
use Rattle.t85_core.proofs.BytesJoin.CallsJoin.{Appends-more, Appends-keeps, beginning_all}
use Rattle.t85_core.proofs.StreamsDenote.StreamLengthIsBounded.{many, row_short, ending_short}

-- ---- bytes after bytes

pub beginning_few : {old new : Option (List ℕ)} {text : List ℕ} (most : ℕ) → length text ≤ most → AppendsBeginning old new text → AppendsAtMost most old new
beginning_few {text} most few begins =
    let parts = ap length begins.text_is ∙ length-append begins.front begins.rest in
    record { bytes = begins.front; appended = begins.appends; few = omega arith }

-- what was written, or a beginning of it
pub written_few : {E : Type 0} (most : ℕ) (old new : Option (List ℕ)) (text : List ℕ) (answer : Result (Unit {0}) E) → length text ≤ most →
    OnOk answer (Appends old new text) → OnErr answer (AppendsBeginning old new text) → AppendsAtMost most old new
written_few most old new text (Ok u) few whole cut = beginning_few most few (beginning_all whole)
written_few most old new text (Err f) few whole cut = beginning_few most few cut

pub kept_few : {others most : ℕ} {old mid new : Option (List ℕ)} → AppendsBeside others most old mid → Keeps mid new → AppendsBeside others most old new
kept_few {old} {mid} {new} a kept = record { bytes = a.bytes; appended = Appends-keeps old mid new a.bytes a.appended kept; few = a.few }

-- of what was appended and is held back in part, that part which was written
pub handed_few : (most : ℕ) (old new : Option (List ℕ)) (held : List ℕ) → known_length old ≤ known_length new → AppendsAtMost most old (append_known new held) →
    AppendsAtMost most old new
handed_few most old new held grows a = (let few = a.few in beginning_few most (omega arith) (beginning_handed new held grows (beginning_all a.appended)))

pub joined_few : {others between most : ℕ} {old mid new : Option (List ℕ)} → AppendsBeside between most old mid → AppendsBeside others between mid new → AppendsBeside others most old new
joined_few {old} {mid} {new} a b =
    let first = a.few in
    let second = b.few in
    record {
      bytes = a.bytes ++ b.bytes;
      appended = Appends-more old mid new a.bytes b.bytes a.appended b.appended;
      few = omega (arith, length-append a.bytes b.bytes);
    }

pub eased_few : {others most : ℕ} {old new : Option (List ℕ)} (others' most' : ℕ) → most + others' ≤ most' + others → AppendsBeside others most old new →
    AppendsBeside others' most' old new
eased_few others' most' within a = (let few = a.few in record { bytes = a.bytes; appended = a.appended; few = omega arith })

-- ---- a row, and the end of a code

events_few : {n : ℕ} (shape : Shape) (kept : Kept) (lines : Lines) → length lines.row ≡ n → length (canonical_events shape kept lines) ≤ n + 1
events_few {n} shape kept lines wide =
    let mode = shape_mode shape in
    let flag = may_be_typical mode lines in
    let pixels : length (pixel_events mode lines kept.offset) ≡ n = simp length-map (many 0 (length lines.row)) ∙ wide in
    let few = row_short mode.typical flag (pseudo_event mode kept.previous_typical flag) (pixel_events mode lines kept.offset) n pixels in
    omega arith

module _ (laws : WritingLaws) (e : Encoder) (p : Place) (learned : List Estimate) (pushed : List ℕ) (at : EncoderIsAt e p pushed) (old new : Option (List ℕ)) where
  pub row_put_few : {kept' : Kept} {n : ℕ} (shape : Shape) (kept : Kept) (lines : Lines) (e' : Encoder) (learned' : List Estimate) → length lines.row ≡ n →
      RowPut (row_task shape kept (record { place = p; learned = learned }) lines) pushed kept' old (encoder_state new e' learned') →
      AppendsBeside (2 * waiting_bytes e') (2 * waiting_bytes e + 4 * (n + 1)) old new
  row_put_few shape kept lines e' learned' wide put =
      let events = events_few shape kept lines wide in
      let few = laws.few_pushed e e' (record { place = p; learned = learned }) (canonical_events shape kept lines) pushed put.more at put.codes in
      record { bytes = put.more; appended = put.appended; few = omega arith }

  pub row_cut_few : {n : ℕ} (shape : Shape) (kept : Kept) (lines : Lines) → length lines.row ≡ n →
      RowCut (record { place = p; learned = learned }) pushed (canonical_events shape kept lines) old new →
      AppendsAtMost (2 * waiting_bytes e + 4 * (n + 1)) old new
  row_cut_few shape kept lines wide cut =
      let all = events_few shape kept lines wide in
      let parts = ap length cut.all_are ∙ length-append cut.events cut.rest in
      let few = laws.few_in_front e (record { place = p; learned = learned }) cut.events pushed ((pushed ++ cut.done) ++ cut.left) at cut.begins in
      record { bytes = cut.done; appended = cut.appended; few = omega (arith, length-append (pushed ++ cut.done) cut.left, length-append pushed cut.done) }

  pub code_ended_few : {reset : Bool} {answer : Result (Unit {0}) Fault} → CodeEnded p reset pushed old new answer → AppendsAtMost (2 * waiting_bytes e + 2) old new
  code_ended_few {reset} {answer} ended =
      let few = laws.few_to_end e (record { place = p; learned = learned }) [] pushed ended.code at ended.is in
      let parts : length pushed + length ended.more ≡ length (stuffed ended.code) + length (marker_bytes reset) =
      sym (length-append pushed ended.more) ∙ ap length ended.all ∙ length-append (stuffed ended.code) (marker_bytes reset) in
      written_few (2 * waiting_bytes e + 2) old new ended.more answer (omega arith) ended.ok ended.cut

-- a move, a row and the end of its stripe
pub row_few : {waits was n n' : ℕ} {b c : Option (List ℕ)} (waits' : ℕ) (a d : Option (List ℕ)) → was ≡ waits → n' ≡ n → AppendsAtMost 8 a b →
    AppendsBeside (2 * waits') (2 * was + 4 * (n' + 1)) b c →
    AppendsAtMost (2 * waits' + 2) c d → AppendsAtMost (2 * waits + 4 * (n + 1) + 10) a d
row_few {waits} {was} {n} {n'} waits' a d same width first row last =
    let front = joined_few
    (eased_few (2 * was + 4 * (n' + 1) + 2) (2 * waits + 4 * (n + 1) + 10) (omega arith) first)
    (eased_few (2 * waits' + 2) (2 * was + 4 * (n' + 1) + 2) (omega arith) row) in
    joined_few front last

-- a move and a beginning of a row
pub row_begun_few : {waits was n n' : ℕ} (a b c : Option (List ℕ)) → was ≡ waits → n' ≡ n → AppendsAtMost 8 a b → AppendsAtMost (2 * was + 4 * (n' + 1)) b c →
    AppendsAtMost (2 * waits + 4 * (n + 1) + 10) a c
row_begun_few {waits} {was} {n} {n'} a b c same width first row =
    joined_few
    (eased_few (2 * was + 4 * (n' + 1) + 2) (2 * waits + 4 * (n + 1) + 10) (omega arith) first)
    (eased_few 0 (2 * was + 4 * (n' + 1) + 2) (omega arith) row)

-- ---- the end of a stream

pub end_few : (waits : ℕ) (a b c : Option (List ℕ)) → AppendsAtMost (2 * waits + 2) a b → AppendsAtMost 8 b c → AppendsAtMost (2 * waits + 10) a c
end_few waits a b c first last = joined_few (eased_few 8 (2 * waits + 10) (omega arith) first) last

pub ending_few : (announced : ℕ) (reset : Bool) (height' : ℕ) (old new : Option (List ℕ)) (answer : Result (Unit {0}) Fault) →
    OnOk answer (Appends old new (ending_of announced reset height')) →
    OnErr answer (AppendsBeginning old new (ending_of announced reset height')) →
    AppendsAtMost 8 old new
ending_few announced reset height' old new answer whole cut = written_few 8 old new (ending_of announced reset height') answer (ending_short announced reset height') whole cut
