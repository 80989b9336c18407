-- The rows of decoders with the same numbers repeat alike.
use Rattle.std.proofs.Common.{◌≡◌, inl, inr, ℕ, Bool, true, false, List, Option, None, Some, refl, sym, ap, subst, ◌∙◌, arith}
use Rattle.std.specs.Prelude.{◌&&◌, ◌++◌, replicate}
use Rattle.std.specs.Int.{from_bool}
use Rattle.qm_core.specs.Decoder.{DecoderIsAt, decoder_registers, has_stopped}
use Rattle.qm_core.specs.Machine.{Registers}
use Rattle.qm_core.specs.Place.{Estimate, Place}
use Rattle.qm_core.specs.Skipping.{WantsNone}
use Rattle.qm_core.specs.Source.{bytes_of, heard_of, is_ended, is_stopped}
use Rattle.qm_core.specs.declared.decoder.Decoder.{Decoder}
use Rattle.qm_core.specs.declared.source.Heard.{Heard}
use Rattle.qm_core.specs.declared.source.Heard.TheVariants.{More, Ended, Stopped}
use Rattle.qm_core.specs.declared.source.Pulled.{Pulled}
use Rattle.raster_core.specs.Packed.{Held}
use Rattle.t85_core.specs.Lent.{decoder_view, stage_view}
use Rattle.t85_core.specs.Numbers.{AreMoveNumbers, ArePhaseNumbers, AreStageNumbers, code_number, is_set, marker_number}
use Rattle.t85_core.specs.Phases.{phase_is_open, phase_stage, phase_waits}
use Rattle.t85_core.specs.Options.{fields_of}
use Rattle.t85_core.specs.Repeats.{RepeatsByNumbers, RowsCanRepeat}
use Rattle.t85_core.specs.Stages.{head_kind, stage_first, stage_kind, stage_marker, stage_move, stage_row}
use Rattle.t85_core.specs.Stages as stage
use Rattle.t85_core.specs.States.PieceCode.{MarkerIs, MarkerRead}
use Rattle.t85_core.specs.States.PieceStands.{DecoderStands}
use Rattle.t85_core.specs.States.Pieces.{WalkStands}
use Rattle.t85_core.specs.States.SizedImage.{sized}
use Rattle.t85_core.specs.Header.{Fields}
use Rattle.t85_core.specs.declared.pieces.PieceDecoder.{PieceDecoder}
use Rattle.t85_core.specs.declared.pieces.course.Course.{Course}
use Rattle.t85_core.specs.declared.pieces.course.Stage.{Stage}
use Rattle.t85_core.specs.declared.pieces.course.Stage.TheVariants as stage_type
use Rattle.t85_core.specs.declared.pieces.numbers.MoveNumbers.{MoveNumbers}
use Rattle.t85_core.specs.declared.pieces.numbers.PieceNumbers.{PieceNumbers}
use Rattle.t85_core.specs.declared.pieces.numbers.StageNumbers.{StageNumbers}
use Rattle.t85_core.specs.declared.pieces.phase.Phase.{Phase}
use Rattle.t85_core.specs.declared.segments.Code.{Code}
use Rattle.t85_core.specs.declared.segments.Code.TheVariants as code
use Rattle.t85_core.specs.declared.segments.atmove.Move.{Move}
use Rattle.t85_core.proofs.BodiesDecode.NumbersFixDecoder.{flag_clear, flag_set, some_move}
use Rattle.t85_core.proofs.BodiesDecode.WalkGoesOn.{at_stage}
use Rattle.t85_core.proofs.BodiesDecode.PieceStands.{walks_of, code_of, waits_of}
use Rattle.t85_core.proofs.BodiesDecode.WalkTakesRows.{going}

-- ---- numbers that belong to one state

one_heard : (h h' : Heard) → is_stopped h ≡ false → is_stopped h' ≡ false → from_bool (is_ended h) ≡ from_bool (is_ended h') → h ≡ h'
one_heard h h' a b e = grind arith

one_marker : (m m' : Option Bool) → marker_number m ≡ marker_number m' → m ≡ m'
one_marker m m' e = grind arith

same_ahead : (f f' : Option Code) (reset : Bool) → code_number f ≡ code_number f' → f' ≡ Some (code.Marker reset) → f ≡ Some (code.Marker reset)
same_ahead f f' reset e is = grind arith

one_at : (n : MoveNumbers) (at at' : Option Move) → AreMoveNumbers n at → AreMoveNumbers n at' → at' ≡ at
one_at n None None k k' = refl
one_at n None (Some to) k k' = absurd (flag_set n.is_there k'.0 (flag_clear n.is_there k))
one_at n (Some to) at' k k' = sym (some_move n to at' (flag_set n.is_there k.0) (sym k.1) (sym k.2) k')

waits_by : (n : PieceNumbers) (p : Phase) → ArePhaseNumbers n p → (phase_is_open p && phase_waits p) ≡ (is_set n.is_open && is_set n.waits)
waits_by n p k = grind arith

open_by : (n : PieceNumbers) (p : Phase) → ArePhaseNumbers n p → phase_is_open p ≡ is_set n.is_open
open_by n p k = grind arith

next_by : (n : StageNumbers) (s : Stage) → AreStageNumbers n s → stage_kind s ≡ stage.Code → n.next ≡ 2
next_by n s k is = grind arith

kind_by : (n : StageNumbers) (s : Stage) → AreStageNumbers n s → n.next ≡ 2 → stage_kind s ≡ stage.Code
kind_by n s k is = grind arith

-- ---- the code of a stripe

-- the same position before a row of a code
record SameCode (s s' : Stage) : Type 0 where
  pub row : stage_row s' ≡ stage_row s
  pub at : stage_move s' ≡ stage_move s
  pub marked : MarkerRead (stage_marker s') (stage_first s') → MarkerRead (stage_marker s) (stage_first s)

same_code : (n : StageNumbers) (s s' : Stage) → stage_kind s ≡ stage.Code → stage_kind s' ≡ stage.Code → AreStageNumbers n s → AreStageNumbers n s' → SameCode s s'
same_code n (stage_type.Code c) (stage_type.Code c') is is' k k' = record {
  row = sym k'.row_is ∙ k.row_is;
  at = one_at n.at c.at c'.at k.at_are k'.at_are;
  marked = λ (reset, has). (reset, by reset has);
}
  where
    by : (reset : Bool) → MarkerIs reset c'.marker c'.first → MarkerIs reset c.marker c.first
    by reset (inl e) = inl (one_marker c.marker c'.marker (sym k.marker_is ∙ k'.marker_is) ∙ e)
    by reset (inr e) = inr (same_ahead c.first c'.first reset (sym k.first_is ∙ k'.first_is) e)
same_code n (stage_type.Head head) s' is is' k k' = absurd (in_head head.comment is) where
  in_head : (comment : Option ℕ) → head_kind comment ≡ stage.Code → ⊥
  in_head None e = cc
  in_head (Some left) e = cc
same_code n stage_type.Done s' is is' k k' = absurd (let bot : ⊥ = cc in bot)
same_code n s (stage_type.Head head) is is' k k' = absurd (in_head head.comment is') where
  in_head : (comment : Option ℕ) → head_kind comment ≡ stage.Code → ⊥
  in_head None e = cc
  in_head (Some left) e = cc
same_code n s stage_type.Done is is' k k' = absurd (let bot : ⊥ = cc in bot)

-- ---- the decoder of its pixels

wants_going : (h : Heard) (bits n held : ℕ) → WantsNone h bits n held → is_stopped h ≡ false
wants_going More bits n held wants = refl
wants_going Ended bits n held wants = refl
wants_going Stopped bits n held wants = absurd wants

walk_going : {h : Fields} {height : ℕ} {text out : List ℕ} (c : Course) (s : Stage) (rows : Held) (learned : List Estimate) → stage_kind s ≡ stage.Code →
    WalkStands (sized h height) (stage_view c s rows learned) text out → has_stopped c.decoder ≡ false
walk_going c s rows learned is w = let k = at_stage is w in ap is_stopped k.read.stands.heard ∙ going _ k.read.unstopped

decoder_going : (d : PieceDecoder) {rows : Held} {learned : List Estimate} {text out : List ℕ} → stage_kind (phase_stage d.phase) ≡ stage.Code → DecoderStands (decoder_view d rows learned) text out →
    has_stopped d.course.decoder ≡ false
decoder_going d {rows} {learned} {text} {out} is s = by (phase_is_open d.phase) (phase_waits d.phase) refl refl where
  by : (a b : Bool) → phase_is_open d.phase ≡ a → phase_waits d.phase ≡ b → has_stopped d.course.decoder ≡ false
  by false b e f = walk_going d.course (phase_stage d.phase) rows learned is (walks_of (decoder_view d rows learned) text out e s)
  by true false e f = walk_going d.course (phase_stage d.phase) rows learned is (let k = code_of (decoder_view d rows learned) text out e f s in k.walk)
  by true true e f = walk_going d.course (phase_stage d.phase) rows learned is (let k = waits_of (decoder_view d rows learned) text out e f s in k.walk)

at_by : {d d' : Decoder} {p : Place} {answers : List Pulled} → decoder_registers d ≡ decoder_registers d' → d'.heard ≡ d.heard → DecoderIsAt d p answers → DecoderIsAt d' p answers
at_by {d} {d'} {p} {answers} same heard k = record {
  heard = heard ∙ k.heard;
  closed = k.closed;
  bytes = k.bytes;
  few = k.few;
  zeros = k.zeros;
  no_zeros = k.no_zeros;
  registers = subst (λ r. Registers r.code r.span r.bits p (bytes_of answers ++ replicate k.zeros 0)) same k.registers;
}

-- ---- the decoder

pub repeats_by_numbers : RepeatsByNumbers
repeats_by_numbers d d' n rows learned text out has header k k' can =
    let c = can.rows in
    let in_code : stage_kind (phase_stage d'.phase) ≡ stage.Code = kind_by n.stage (phase_stage d'.phase) k'.stage_is (next_by n.stage (phase_stage d.phase) k.stage_is c.in_code) in
    let same = same_code n.stage (phase_stage d.phase) (phase_stage d'.phase) c.in_code in_code k.stage_is k'.stage_is in
    let registers : decoder_registers d.course.decoder ≡ decoder_registers d'.course.decoder = sym k.course_is.decoder_is ∙ k'.course_is.decoder_is in
    let bits : d.course.decoder.bits ≡ d'.course.decoder.bits = ap (λ r. r.bits) registers in
    let heard : d'.course.decoder.heard ≡ d.course.decoder.heard =
    one_heard d'.course.decoder.heard d.course.decoder.heard (decoder_going d' in_code has.stands)
    (ap is_stopped c.stands.heard ∙ wants_going (heard_of c.answers) _ _ _ c.skips.next.ready) (sym (ap (λ r. r.has_ended) registers)) in
    let left : d'.course.left ≡ d.course.left = sym k'.course_is.left_is ∙ k.course_is.left_is in
    let typical : d'.course.kept.previous_typical ≡ d.course.kept.previous_typical = sym k'.course_is.typical_is ∙ k.course_is.typical_is in
    let moved : RowsCanRepeat (fields_of d.image.header) (stage_view d'.course (phase_stage d'.phase) rows learned) = record {
      in_code = in_code;
      row_left = rw (same.row, left) c.row_left;
      settled = rw (same.row, same.at) c.settled;
      place = c.place;
      answers = c.answers;
      stands = at_by registers heard c.stands;
      skips = record {
        typical = c.skips.typical;
        previous = typical ∙ c.skips.previous;
        next = record { ready = rw (← bits) c.skips.next.ready; inside = c.skips.next.inside };
      };
    } in
    record {
      rows = subst (λ h. RowsCanRepeat h (stage_view d'.course (phase_stage d'.phase) rows learned)) (sym header) moved;
      goes_on = waits_by n d'.phase k'.phase_is ∙ sym (waits_by n d.phase k.phase_is) ∙ can.goes_on;
      in_time = λ late marked. can.in_time (open_by n d.phase k.phase_is ∙ sym (open_by n d'.phase k'.phase_is) ∙ late) (same.marked marked);
    }
