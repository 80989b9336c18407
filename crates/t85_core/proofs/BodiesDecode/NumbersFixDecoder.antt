-- A decoder that is made of another one's numbers.
use Rattle.std.proofs.Common.{◌≡◌, ◌≤◌, ◌<◌, ◌+◌, ◌^◌, ℕ, Bool, true, false, List, Option, Some, None, refl, sym, ap, ◌∙◌, subst, true≢false, arith}
use Rattle.std.specs.Prelude.{◌&&◌, ◌==◌, not}
use Rattle.std.specs.Coded.{le_prop}
use Rattle.std.specs.Int.{from_bool}
use Rattle.std.proofs.lemmas.Bool.Decides.{nat_tests}
use Rattle.std.specs.Option.{unwrap_or}
use Rattle.std.proofs.Props.{props}
use mathlib.Core.HLevel.{is_prop→PathP}
use Rattle.qm_core.specs.Decoder.{decoder_registers, has_stopped}
use Rattle.qm_core.specs.declared.source.Heard.{Heard}
use Rattle.qm_core.specs.declared.source.Heard.TheVariants.{More, Ended, Stopped}
use Rattle.qm_core.specs.Source.{is_stopped, is_ended}
use Rattle.qm_core.specs.declared.decoder.Decoder.{Decoder}
use Rattle.qm_core.specs.Place.{Estimate}
use Rattle.raster_core.specs.Packed.{Held}
use Rattle.raster_core.specs.declared.shape.Kept.{Kept}
use Rattle.raster_core.specs.declared.place.RowPlace.{RowPlace}
use Rattle.t85_core.specs.Lent.{PieceView, WalkView, stage_view, decoder_view}
use Rattle.t85_core.specs.declared.pieces.PieceDecoder.{PieceDecoder}
use Rattle.t85_core.specs.Phases.{phase_behind, phase_is_open, phase_looks, phase_stage, phase_waits}
use Rattle.t85_core.specs.declared.pieces.head.Head.{Head}
use Rattle.t85_core.specs.declared.pieces.phase.Phase.{Phase}
use Rattle.t85_core.specs.declared.pieces.phase.Phase.TheVariants as phase
use Rattle.t85_core.specs.declared.pieces.course.Course.{Course}
use Rattle.t85_core.specs.declared.pieces.code.InCode.{InCode}
use Rattle.t85_core.specs.declared.pieces.numbers.MoveNumbers.{MoveNumbers}
use Rattle.t85_core.specs.declared.pieces.numbers.PieceNumbers.{PieceNumbers}
use Rattle.t85_core.specs.declared.pieces.course.Stage.{Stage}
use Rattle.t85_core.specs.declared.pieces.course.Stage.TheVariants as stage_type
use Rattle.t85_core.specs.Stages.{head_start, Kind, stage_kind}
use Rattle.t85_core.specs.Stages as stage
use Rattle.t85_core.specs.declared.segments.Code as code_type
use Rattle.t85_core.specs.declared.segments.Code.TheVariants as code
use Rattle.t85_core.specs.declared.segments.atmove.Move as move
use Rattle.t85_core.specs.Header.{Fields}
use Rattle.t85_core.specs.Options.{fields_of}
use Rattle.t85_core.specs.Numbers.{is_set, AreCourseNumbers, AreHeadNumbers, AreMoveNumbers, ArePhaseNumbers, IsCourseAs, StaysInImage}
use Rattle.t85_core.specs.States.Pieces.{CodeStands, InRowStands, StageStands, WalkStands, head_place, code_place}
use Rattle.t85_core.specs.States.SizedImage.{sized}
use Rattle.t85_core.specs.States.PieceStands.{DecoderStands, HeightKnown, CodeWalks, WalkWaits}
use Rattle.t85_core.proofs.BodiesDecode.WalkNumbersFit.{stage_fits}
use Rattle.t85_core.proofs.BodiesDecode.WalkGoesOn.{walk_at}
use Rattle.t85_core.proofs.BodiesDecode.WalkTakesRows.{in_row_going, going}
use Rattle.t85_core.proofs.BodiesDecode.PieceStands.{walks_of, code_of, waits_of, put_walks, put_code, put_waits}

-- ---- what has the same numbers

one_move : (a b : move.Move) → a.row ≡ b.row → a.offset ≡ b.offset → a ≡ b
one_move a b row offset = λ i. record { row = row i; offset = offset i; low = is_prop→PathP (λ j. offset j ≤ 127) (λ j. le_prop) a.low b.low i }

pub flag_clear : (byte : ℕ) → is_set byte ≡ false → byte ≡ 0
flag_clear byte e = grind (arith, nat_tests)

pub flag_set : (byte : ℕ) → is_set byte ≡ true → byte ≡ 0 → ⊥
flag_set byte e zero = true≢false (sym e ∙ ap is_set zero)

pub no_move : (n : MoveNumbers) (at : Option move.Move) → n.is_there ≡ 0 → AreMoveNumbers n at → None ≡ at
no_move n None none k = refl
no_move n (Some to) none k = absurd (flag_set n.is_there k.0 none)

pub some_move : (n : MoveNumbers) (to : move.Move) (at : Option move.Move) → (n.is_there ≡ 0 → ⊥) → to.row ≡ n.row → to.offset ≡ n.offset → AreMoveNumbers n at → Some to ≡ at
some_move n to None there row offset k = absurd (there (flag_clear n.is_there k))
some_move n to (Some other) there row offset k = ap Some (one_move to other (row ∙ k.1) (offset ∙ k.2))

pub one_kept : (a b : Kept) → a.offset ≡ b.offset → a.previous_typical ≡ b.previous_typical → a ≡ b
one_kept a b offset previous = λ i. record { offset = offset i; previous_typical = previous i; low = is_prop→PathP (λ j. offset j ≤ 127) (λ j. le_prop) a.low b.low i }

pub one_code : (a b : InCode) → a.at ≡ b.at → a.row ≡ b.row → a.begun ≡ b.begun → a.first ≡ b.first → a.marker ≡ b.marker → a ≡ b
one_code a b at row begun first marker =
    λ i. record {
      at = at i;
      row = row i;
      begun = begun i;
      first = first i;
      marker = marker i;
      small = is_prop→PathP (λ j. (n : ℕ) → first j ≡ Some (code.Byte n) → n < 256) (λ j. hlevel props) a.small b.small i;
      behind = is_prop→PathP (λ j. (r : Bool) → marker j ≡ Some r → first j ≡ None) (λ j. hlevel props) a.behind b.behind i;
    }

-- whether one may arrive
pub looks_of : (n : PieceNumbers) (p : Phase) → ArePhaseNumbers n p → phase_looks p ≡ is_set n.is_open && not (n.waits == 2)
looks_of n (phase.Known s) k = sym (ap (λ b. b && not (n.waits == 2)) k)
looks_of n (phase.First head) k = λ i. sym (k.0) i && not (sym (k.1) i == 2)
looks_of n (phase.Code code) k = λ i. sym (k.0) i && not (sym (k.1) i == 2)
looks_of n (phase.Behind behind) k = λ i. sym (k.0) i && not (sym (k.1) i == 2)
looks_of n phase.Late k = λ i. sym (k.0) i && not (sym (k.1) i == 2)

-- a phase of these numbers, in this stage
pub known_phase : (n : PieceNumbers) (p : Phase) (s : Stage) → n.is_open ≡ 0 → ArePhaseNumbers n p → s ≡ phase_stage p → phase.Known s ≡ p
known_phase n (phase.Known t) s none k e = ap phase.Known e
known_phase n (phase.First head) s none k e = absurd (flag_set n.is_open k.0 none)
known_phase n (phase.Code code) s none k e = absurd (flag_set n.is_open k.0 none)
known_phase n (phase.Behind behind) s none k e = absurd (flag_set n.is_open k.0 none)
known_phase n phase.Late s none k e = absurd (flag_set n.is_open k.0 none)

-- the marker segments of a stage
abbrev head_in : Stage → Head
head_in (stage_type.Head head) = head
head_in (stage_type.Code code) = head_start
head_in stage_type.Done = head_start

pub record IsFirst (n : PieceNumbers) (p : Phase) (h : Head) : Type 0 where
  pub head : Head
  pub is : p ≡ phase.First head
  pub start : h ≡ head_start
  pub waits : n.waits ≡ 1
  pub numbers : AreHeadNumbers n.behind head

pub first_phase_of : (n : PieceNumbers) (p : Phase) (h : Head) → (n.is_open ≡ 0 → ⊥) → ArePhaseNumbers n p → stage_type.Head h ≡ phase_stage p → IsFirst n p h
first_phase_of n (phase.Known t) h some k e = absurd (some (flag_clear n.is_open k))
first_phase_of n (phase.First head) h some k e = record { head = head; is = refl; start = ap head_in e; waits = k.1; numbers = k.2 }
first_phase_of n (phase.Code code) h some k e = absurd (let bot : ⊥ = cc in bot)
first_phase_of n (phase.Behind behind) h some k e = absurd (let bot : ⊥ = cc in bot)
first_phase_of n phase.Late h some k e = absurd (let bot : ⊥ = cc in bot)

-- the code of a stage, or this one
abbrev code_in : InCode → Stage → InCode
code_in other (stage_type.Head head) = other
code_in other (stage_type.Code code) = code
code_in other stage_type.Done = other

pub code_phase_of : (n : PieceNumbers) (p : Phase) (c : InCode) (r : Option Phase) → (n.is_open ≡ 0 → ⊥) → ArePhaseNumbers n p → stage_type.Code c ≡ phase_stage p →
    (n.waits ≡ 0 → r ≡ Some (phase.Code c)) → ((head : Head) → n.waits ≡ 1 → AreHeadNumbers n.behind head → r ≡ Some (phase.Behind (record { code = c; head = head }))) → r ≡ Some p
code_phase_of n (phase.Known t) c r some k e zero one = absurd (some (flag_clear n.is_open k))
code_phase_of n (phase.First head) c r some k e zero one = absurd (let bot : ⊥ = cc in bot)
code_phase_of n (phase.Code code) c r some k e zero one = zero k.1 ∙ ap (λ d. Some (phase.Code d)) (ap (code_in c) e)
code_phase_of n (phase.Behind behind) c r some k e zero one = one behind.head k.1 k.2 ∙ ap (λ d. Some (phase.Behind (record { code = d; head = behind.head }))) (ap (code_in c) e)
code_phase_of n phase.Late c r some k e zero one = absurd (let bot : ⊥ = cc in bot)

-- a decoder that has not stopped has the numbers of any
pub resumed_decoder : (d : Decoder) → (e : Decoder) × (has_stopped e ≡ false) × (decoder_registers d ≡ decoder_registers e) × (has_stopped d ≡ false → e ≡ d)
resumed_decoder d = by d.heard refl where
  by : (h : Heard) → d.heard ≡ h → (e : Decoder) × (has_stopped e ≡ false) × (decoder_registers d ≡ decoder_registers e) × (has_stopped d ≡ false → e ≡ d)
  by More is = (d, ap is_stopped is, refl, λ _. refl)
  by Ended is = (d, ap is_stopped is, refl, λ _. refl)
  by Stopped is = (
    record d { heard = More; stuck = λ e. absurd (let z : More ≡ Stopped = e in let bot : ⊥ = cc in bot) },
    refl,
    ap (λ h. record { code = d.code; span = d.span; bits = d.bits; has_ended = from_bool (is_ended h) }) is,
    λ going. absurd (true≢false (sym (ap is_stopped is) ∙ going)),
  )

pub some_is : {A : Type 0} {a b : A} → Some a ≡ Some b → a ≡ b
some_is {A} {a} e = ap (λ o. unwrap_or o a) e

-- a course of these numbers
pub course_numbers : (c : Course) {n : PieceNumbers} {kept : Kept} {decoder going : Decoder} → AreCourseNumbers n c → kept.offset ≡ n.offset → kept.previous_typical ≡ is_set n.is_previous_typical →
    decoder ≡ going → (has_stopped c.decoder ≡ false → going ≡ c.decoder) → (few : n.entities + n.left < 2 ^ 32) → (some : 1 ≤ n.left) →
    IsCourseAs c (record { kept = kept; decoder = decoder; entities = n.entities; left = n.left; given = is_set n.is_given; few = few; some = some })
course_numbers c {n} {kept} {decoder} k offset typical is same few some = record {
  decoder_is = λ going. is ∙ same going;
  same =
      λ i. record {
        kept = one_kept kept c.kept (offset ∙ k.offset_is) (typical ∙ k.typical_is) i;
        decoder = decoder;
        entities = k.entities_are i;
        left = k.left_is i;
        given = k.given_is i;
        few = is_prop→PathP (λ j. k.entities_are j + k.left_is j < 2 ^ 32) (λ j. hlevel props) few c.few i;
        some = is_prop→PathP (λ j. 1 ≤ k.left_is j) (λ j. le_prop) some c.some i;
      };
}

-- ---- the same, but for a decoder that has stopped

module _ {w w' : Course} (k : IsCourseAs w w') (stage_at : Stage) (rows : Held) (learned : List Estimate) where
  abbrev before : WalkView
  before = stage_view w stage_at rows learned

  abbrev there : WalkView
  there = stage_view (record w { decoder = w'.decoder }) stage_at rows learned

  code_as : {h : Fields} {height entities : ℕ} {given : Bool} {at : Option move.Move} {row : ℕ} {first : Option code_type.Code} {marker : Option Bool} {text out : List ℕ} →
      CodeStands (sized h height) (head_place entities given at before.carried) (code_place row first marker w.decoder) text out →
      CodeStands (sized h height) (head_place entities given at before.carried) (code_place row first marker w'.decoder) text out
  code_as {h} {height} {entities} {given} {at} {row} {first} {marker} {text} {out} s =
      subst (λ z. CodeStands (sized h height) (head_place entities given at before.carried) (code_place row first marker z) text out)
      (sym (k.decoder_is (ap is_stopped s.read.stands.heard ∙ going _ s.read.unstopped))) s

  in_row_as : {h : Fields} {height entities : ℕ} {given : Bool} {at : Option move.Move} {row : ℕ} {first : Option code_type.Code} {marker : Option Bool} {place : RowPlace} {text out : List ℕ} →
      InRowStands (sized h height) (head_place entities given at before.carried) (code_place row first marker w.decoder) place text out →
      InRowStands (sized h height) (head_place entities given at before.carried) (code_place row first marker w'.decoder) place text out
  in_row_as {h} {height} {entities} {given} {at} {row} {first} {marker} {place} {text} {out} s =
      subst (λ z. InRowStands (sized h height) (head_place entities given at before.carried) (code_place row first marker z) place text out) (sym (k.decoder_is (in_row_going s))) s

  stage_as : (h : Fields) (height : ℕ) (text out : List ℕ) (s : Kind) → StageStands s (sized h height) before text out → StageStands s (sized h height) there text out
  stage_as h height text out stage.Code s = code_as s
  stage_as h height text out stage.Row s = in_row_as s
  stage_as h height text out k s = s

  walk_there : {h : Fields} {height : ℕ} {text out : List ℕ} → WalkStands (sized h height) before text out → WalkStands (sized h height) there text out
  walk_there {h} {height} {text} {out} s = walk_at s s.code_is s.behind (stage_as h height text out (stage_kind stage_at) s.stands)

  walk_as : {h : Fields} {height : ℕ} {text out : List ℕ} → WalkStands (sized h height) before text out → WalkStands (sized h height) (stage_view w' stage_at rows learned) text out
  walk_as {h} {height} {text} {out} s = subst (λ z. WalkStands (sized h height) (stage_view z stage_at rows learned) text out) (sym k.same) (walk_there s)

  code_walk_as : {h : Fields} {text out : List ℕ} → CodeWalks h before text out → CodeWalks h (stage_view w' stage_at rows learned) text out
  code_walk_as {h} {text} {out} s =
      subst (λ z. CodeWalks h (stage_view z stage_at rows learned) text out) (sym k.same)
      (let t : CodeWalks h there text out = record { walk = walk_there s.walk; in_code = s.in_code; ungiven = s.ungiven; in_time = s.in_time } in t)

-- the decoder stands where the other one does
pub stands_as : (d : PieceDecoder) (d' : PieceView) (c' : Course) (rows : Held) (learned : List Estimate) (text out : List ℕ) → d'.walk ≡ stage_view c' (phase_stage d.phase) rows learned →
    fields_of d'.header ≡ fields_of d.image.header → d'.height ≡ d.image.height → d'.is_open ≡ (phase_is_open d.phase) → d'.waits ≡ (phase_waits d.phase) → d'.behind ≡ (phase_behind d.phase) →
    IsCourseAs d.course c' →
    DecoderStands (decoder_view d rows learned) text out → DecoderStands d' text out
stands_as d d' c' rows learned text out walk header height is_open waits behind k s = by (phase_is_open d.phase) (phase_waits d.phase) refl refl where
  known : HeightKnown (fields_of d'.header) d'.height d'.is_open text
  known = subst (λ h. HeightKnown h d'.height d'.is_open text) (sym header)
      (subst (λ n. HeightKnown (fields_of d.image.header) n d'.is_open text) (sym height) (subst (λ b. HeightKnown (fields_of d.image.header) d.image.height b text) (sym is_open) s.height))

  by : (a b : Bool) → (phase_is_open d.phase) ≡ a → (phase_waits d.phase) ≡ b → DecoderStands d' text out
  by false b e f = put_walks d' text out (is_open ∙ e) known
      (subst (λ h. WalkStands (sized h d'.height) d'.walk text out) (sym header)
      (subst (λ n. WalkStands (sized (fields_of d.image.header) n) d'.walk text out) (sym height)
      (subst (λ z. WalkStands (sized (fields_of d.image.header) d.image.height) z text out) (sym walk)
      (walk_as k (phase_stage d.phase) rows learned (walks_of (decoder_view d rows learned) text out e s)))))
  by true false e f = put_code d' text out (is_open ∙ e) (waits ∙ f) known
      (subst (λ h. CodeWalks h d'.walk text out) (sym header) (subst (λ z. CodeWalks (fields_of d.image.header) z text out) (sym walk)
      (code_walk_as k (phase_stage d.phase) rows learned (code_of (decoder_view d rows learned) text out e f s))))
  by true true e f =
      let w = waits_of (decoder_view d rows learned) text out e f s in
      let t : WalkWaits (fields_of d.image.header) (stage_view (record d.course { decoder = c'.decoder }) (phase_stage d.phase) rows learned) (phase_behind d.phase) text out = record {
        done = w.done;
        back = w.back;
        text_is = w.text_is;
        walk = walk_there k (phase_stage d.phase) rows learned w.walk;
        at = w.at;
        ungiven = w.ungiven;
        in_time = w.in_time;
        behind = w.behind;
      } in
      put_waits d' text out (is_open ∙ e) (waits ∙ f) known
      (subst (λ h. WalkWaits h d'.walk d'.behind text out) (sym header)
      (subst (λ b. WalkWaits (fields_of d.image.header) d'.walk b text out) (sym behind)
      (subst (λ z. WalkWaits (fields_of d.image.header) z (phase_behind d.phase) text out) (sym walk)
      (subst (λ z. WalkWaits (fields_of d.image.header) (stage_view z (phase_stage d.phase) rows learned) (phase_behind d.phase) text out) (sym k.same) t))))

-- what it has decoded is in its image
pub stays : (d : PieceDecoder) {rows : Held} {learned : List Estimate} {text out : List ℕ} → DecoderStands (decoder_view d rows learned) text out → StaysInImage d
stays d {rows} {learned} {text} {out} s = by (phase_is_open d.phase) (phase_waits d.phase) refl refl where
  by : (a b : Bool) → phase_is_open d.phase ≡ a → phase_waits d.phase ≡ b → StaysInImage d
  by false b e f = stage_fits d.course (phase_stage d.phase) (walks_of (decoder_view d rows learned) text out e s)
  by true false e f = stage_fits d.course (phase_stage d.phase) (let k = code_of (decoder_view d rows learned) text out e f s in k.walk)
  by true true e f = stage_fits d.course (phase_stage d.phase) (let k = waits_of (decoder_view d rows learned) text out e f s in k.walk)
