-- The position of a decoder before and after a step.
use Rattle.std.proofs.Common.{cond, ◌≡◌, ◌≢◌, ◌<◌, ◌≤◌, ◌+◌, ◌-◌, ◌*◌, inl, inr, ℕ, Bool, true, false, List, [], ◌∷◌, ◌++◌, length, take, drop, nat_le, Option, None, Some, Result, Ok, refl, sym, ap, ◌∙◌, subst, append_assoc, append-nil, length-append, arith, true≢false}
use Rattle.std.specs.Prelude.{is_some, ◌&&◌}
use Rattle.std.proofs.lemmas.Bool.Decides.{nat_tests}
use Rattle.std.proofs.Math.Seq.{take-append_seam}
use Rattle.std.proofs.lemmas.List.{take-append-drop}
use Rattle.byteorder.specs.Endian.{big_bytes}
use Rattle.t85_core.proofs.BodiesDecode.LateHeightKeepsStripes.{head_behind}
use Rattle.t85_core.specs.Grammar.{ESC, COMMENT}
use Rattle.t85_core.proofs.BodiesDecode.WalkGoesOn.{walk_with, at_stage}
use Rattle.t85_core.specs.declared.segments.Place.{Place}
use Rattle.t85_core.specs.declared.segments.Code as code_type
use Rattle.qm_core.specs.Place.{start, Estimate}
use Rattle.qm_core.specs.Decoder.{DecoderIsAt}
use Rattle.qm_core.specs.declared.decoder.Decoder.{Decoder}
use Rattle.t85_core.specs.Failures.{Ends}
use Rattle.t85_core.specs.Private.CoderLaws.{CoderLaws}
use Rattle.t85_core.specs.States.Segments.{HasPassed, IsByteOrMarker, code_bytes, segments_so_far}
use Rattle.t85_core.specs.Private.Segments.{PieceFault}
use Rattle.t85_core.specs.declared.fault.Fault.{Fault}
use Rattle.t85_core.specs.declared.fault.Fault.TheVariants.{Truncated, Changed}
use Rattle.t85_core.specs.declared.header.Header.{Header}
use Rattle.t85_core.specs.Lent.{decoder_view, PieceView, WalkView, waits_behind}
use Rattle.t85_core.specs.declared.pieces.Outcome.{Outcome}
use Rattle.t85_core.specs.declared.pieces.Outcome.TheVariants as outcome
use Rattle.t85_core.specs.declared.pieces.head.Head.{Head}
use Rattle.t85_core.specs.Stages.{head_start, Kind, comment_left, head_kind, place_from, stage_kind}
use Rattle.t85_core.specs.declared.pieces.course.Stage.TheVariants as stage_type
use Rattle.t85_core.specs.Stages as stage
use Rattle.t85_core.specs.Header.{Fields, is_variable}
use Rattle.t85_core.specs.Options.{fields_of}
use Rattle.t85_core.specs.declared.pieces.PieceDecoder.{PieceDecoder}
use Rattle.t85_core.specs.declared.pieces.phase.Phase.{Phase}
use Rattle.t85_core.specs.declared.pieces.phase.Phase.TheVariants as phase
use Rattle.raster_core.specs.Packed.{Held}
use Rattle.t85_core.specs.Phases.{first_phase, phase_behind, phase_is_open, phase_looks, phase_stage, phase_waits}
use Rattle.t85_core.specs.Height.{GivesHeight, IsHeight}
use Rattle.t85_core.specs.Laws.{IsInUse}
use Rattle.t85_core.specs.Pieces.{AwaitsHeight, HasDecoded, HasHeight, HandsOut, HoldsImage, row_held, stripes_ended}
use Rattle.t85_core.specs.Consumed.{ConsumesImage}
use Rattle.t85_core.specs.States.Behind.{BehindStands, behind_at}
use Rattle.t85_core.specs.Private.Behind.{BreaksBehind, StopsBehind}
use Rattle.t85_core.specs.States.PieceStands.{MarkerAfterRows, DecoderStands, HeightKnown, StandsAs, CodeWalks, WalkWaits, IsAtMarker, entities_behind, is_last, place_at, place_behind, last_behind}
use Rattle.t85_core.specs.States.Pieces.{HeadStands, CommentStands, WalkStands, CutOff, HasMarker, IsInCode, head_place}
use Rattle.t85_core.specs.Private.Pieces.{IsFirstWalk, SomeStands, StepsOn, StepsOff, KeepsPlace}
use Rattle.t85_core.specs.Private.RowTurns.{BegunStep, BegunLeaves}
use Rattle.t85_core.specs.Private.StripeEnds.{StripeEnds}
use Rattle.t85_core.specs.States.SizedImage.{SizedImage, sized}
use Rattle.t85_core.specs.Private.PieceSteps.{SomeStand, DecoderOn, EndsConsumed, EndsWhole, EndsBroken, NoHeightBelow, StaysOpen, StepLeaves, KeepsDecoder, StripeLeft, StripeClosed, HeadEntered, steps_left}
use Rattle.t85_core.proofs.BodiesDecode.ImageIsPut.{in_use}
use Rattle.t85_core.proofs.BodiesDecode.SegmentsComeBehind.{behind_first, front_is, part_of}
use Rattle.t85_core.proofs.BodiesDecode.PiecesGiveResults.{cut_hands, cut_hands_first, piece_other, height_known, read_consumes, read_holds}
use Rattle.t85_core.proofs.BodiesDecode.MarkerComesInTime.{in_time_more, in_time_empty}
use Rattle.t85_core.proofs.BodiesDecode.HeadComesInPieces.{head_code, head_cut, comment_off}

-- more text
-- a relation at the height in use holds at the header's, if that is the same
pub at_first : (Holds : SizedImage → Type 0) {h : Fields} {height : ℕ} → height ≡ h.yd → Holds (sized h height) → Holds (sized h h.yd)
at_first Holds {h} same k = subst (λ n. Holds (sized h n)) same k

-- a height that may still be followed by another
pub known_open : {h : Fields} {height : ℕ} {is_open : Bool} {text : List ℕ} → is_open ≡ true → HeightKnown h height is_open text → HeightKnown h height true text
known_open {h} {height} {text = text} late k = subst (λ b. HeightKnown h height b text) late k

pub known_more : (h : Fields) (height : ℕ) (is_open : Bool) (text more : List ℕ) → HeightKnown h height is_open text → HeightKnown h height is_open (text ++ more)
known_more h height is_open text more k = record {
  variable = k.variable;
  first = k.first;
  came = λ o v rest. subst (λ z. GivesHeight h z height) (sym (append_assoc text more rest)) (k.came o v (more ++ rest));
  fixed = k.fixed;
}

-- a header's own height is in use
pub own_height : (header : Header) → IsInUse (fields_of header) header.yd
own_height header = in_use (record { header = header; height = header.yd; from = header.some_height; to = omega arith })

module _ (d : PieceView) (text out : List ℕ) where
  pub walks_of : d.is_open ≡ false → DecoderStands d text out → WalkStands (sized (fields_of d.header) d.height) d.walk text out
  walks_of known s = subst (λ b. StandsAs b d.waits d text out) known s.stands

  pub code_of : d.is_open ≡ true → d.waits ≡ false → DecoderStands d text out → CodeWalks (fields_of d.header) d.walk text out
  code_of late going s = subst (λ b. StandsAs true b d text out) going (subst (λ b. StandsAs b d.waits d text out) late s.stands)

  pub waits_of : d.is_open ≡ true → d.waits ≡ true → DecoderStands d text out → WalkWaits (fields_of d.header) d.walk d.behind text out
  waits_of late waits s = subst (λ b. StandsAs true b d text out) waits (subst (λ b. StandsAs b d.waits d text out) late s.stands)

  pub put_walks : d.is_open ≡ false → HeightKnown (fields_of d.header) d.height d.is_open text → WalkStands (sized (fields_of d.header) d.height) d.walk text out → DecoderStands d text out
  put_walks known k s = record { height = k; stands = subst (λ b. StandsAs b d.waits d text out) (sym known) s }

  pub put_code : d.is_open ≡ true → d.waits ≡ false → HeightKnown (fields_of d.header) d.height d.is_open text → CodeWalks (fields_of d.header) d.walk text out → DecoderStands d text out
  put_code late going k s = record { height = k; stands = subst (λ b. StandsAs b d.waits d text out) (sym late) (subst (λ b. StandsAs true b d text out) (sym going) s) }

  pub put_waits : d.is_open ≡ true → d.waits ≡ true → HeightKnown (fields_of d.header) d.height d.is_open text → WalkWaits (fields_of d.header) d.walk d.behind text out → DecoderStands d text out
  put_waits late waits k s = record { height = k; stands = subst (λ b. StandsAs b d.waits d text out) (sym late) (subst (λ b. StandsAs true b d text out) (sym waits) s) }

-- a walk begins to wait
pub waits_first : (h : Fields) (w : WalkView) (b : Head) (text out : List ℕ) → WalkStands (sized h h.yd) w text out → IsAtMarker w → w.given ≡ false →
    (IsInCode w.stage → MarkerAfterRows (sized h h.yd) text out) → b.at ≡ None → b.comment ≡ None → WalkWaits h w b text out
waits_first h w b text out s at ungiven in_time none empty = record {
  done = text;
  back = [];
  text_is = sym (append-nil text);
  walk = s;
  at = at;
  ungiven = ungiven;
  in_time = in_time;
  behind = behind_first h (place_behind h w.stage w.entities) (last_behind h w.stage w.left) b none empty;
}

-- ---- how many steps are left

pub begins_to_wait : (old new : Bool) (p p' : List ℕ) → old ≡ false → new ≡ true → length p' ≤ length p → steps_left new p' < steps_left old p
begins_to_wait old new p p' going waits le =
    subst (λ b. 2 * length p' + cond {A = ℕ} new 0 1 < 2 * length p + cond {A = ℕ} b 0 1) (sym going)
    (subst (λ b. 2 * length p' + cond {A = ℕ} b 0 1 < 2 * length p + cond {A = ℕ} false 0 1) (sym waits) (omega (arith, le)))

pub taken_is : (p p' g : List ℕ) → p ≡ g ++ p' → take (length p - length p') p ≡ g
taken_is p p' g e =
    let long = length-append g p' in
    let all : length p ≡ length (g ++ p') = ap length e in
    let same : length p - length p' ≡ length g = omega (arith, long, all) in
    ap (λ n. take n p) same ∙ ap (take (length g)) e ∙ take-append_seam g p'

pub taken_less : (p given p' : List ℕ) → p ≡ given ++ p' → length p' ≤ length p
taken_less p given p' e = let l = length-append given p' in let k : length p ≡ length (given ++ p') = ap length e in omega (arith, l, k)

-- ---- answers

none_some : {A : Type 0} {x : A} → None ≡ Some x → ⊥
none_some e = cc

-- what each answer says
abbrev AnswerLeaves : Bool → PieceView → PieceView → List ℕ → List ℕ → Option Outcome → Type 0
AnswerLeaves is_all d d' p p' None = DecoderOn d d' p p' []
AnswerLeaves is_all d d' p p' (Some outcome.Row) = DecoderOn d d' p p' (row_held d') × NoHeightBelow is_all d d' p
AnswerLeaves is_all d d' p p' (Some outcome.More) = (is_all ≡ false) × DecoderOn d d' p p' [] × (waits_behind d' ≡ false → EndsBroken true d p d'.height Truncated) × (length p' ≤ 7) ×
    (waits_behind d' ≡ true → StaysOpen d d' p)
AnswerLeaves is_all d d' p p' (Some (outcome.Done n)) = (d'.height ≡ n) × EndsWhole is_all d p n × EndsConsumed is_all d d' p p' n
AnswerLeaves is_all d d' p p' (Some (outcome.Broken f)) = EndsBroken is_all d p d'.height f

leaves_as : (is_all : Bool) (d d' : PieceView) (p p' : List ℕ) (r : Option Outcome) → d'.header ≡ d.header → d'.end ≡ d.end → AnswerLeaves is_all d d' p p' r → StepLeaves is_all d d' p p' r
leaves_as is_all d d' p p' r header going k = record {
  header = header;
  going = going;
  on = λ e. subst (AnswerLeaves is_all d d' p p') e k;
  row = λ e. (subst (AnswerLeaves is_all d d' p p') e k).0;
  waits = λ e. (subst (AnswerLeaves is_all d d' p p') e k).1;
  more = λ e. subst (AnswerLeaves is_all d d' p p') e k;
  done = λ n e. subst (AnswerLeaves is_all d d' p p') e k;
  broken = λ f e. subst (AnswerLeaves is_all d d' p p') e k;
}

-- another step is to be taken
pub leaves_on : (is_all : Bool) (d d' : PieceView) (p p' : List ℕ) → d'.header ≡ d.header → d'.end ≡ d.end → DecoderOn d d' p p' [] → StepLeaves is_all d d' p p' None
leaves_on is_all d d' p p' header going on = leaves_as is_all d d' p p' None header going on

-- a row
pub leaves_row : (is_all : Bool) (d d' : PieceView) (p p' : List ℕ) → d'.header ≡ d.header → d'.end ≡ d.end → DecoderOn d d' p p' (row_held d') → NoHeightBelow is_all d d' p →
    StepLeaves is_all d d' p p' (Some outcome.Row)
leaves_row is_all d d' p p' header going on waits = leaves_as is_all d d' p p' (Some outcome.Row) header going (on, waits)

-- what a fault comes to
pub record Comes (fault : Fault) (is_all : Bool) (r : Outcome) : Type 0 where
  pub more : r ≡ outcome.More → (fault ≡ Truncated) × (is_all ≡ false)
  pub broken : (f : Fault) → r ≡ outcome.Broken f → (f ≡ fault) × (f ≡ Truncated → is_all ≡ true)
  pub row : r ≢ outcome.Row
  pub done : (n : ℕ) → r ≢ outcome.Done n

some_is : {r s : Outcome} → Some r ≡ Some s → r ≡ s
some_is e = cc

pub leaves_stop : (is_all : Bool) (d d' : PieceView) (p p' : List ℕ) (fault : Fault) (r : Outcome) → Comes fault is_all r → d'.header ≡ d.header → d'.end ≡ d.end → waits_behind d' ≡ false →
    (fault ≡ Truncated → DecoderOn d d' p p' [] × (length p' ≤ 7)) →
    ((is_all : Bool) → (fault ≡ Truncated → is_all ≡ true) → EndsBroken is_all d p d'.height fault) → StepLeaves is_all d d' p p' (Some r)
leaves_stop is_all d d' p p' fault r c header going quiet on broken = record {
  header = header;
  going = going;
  on = λ e. absurd (none_some (sym e));
  row = λ e. absurd (c.row (some_is e));
  waits = λ e. absurd (c.row (some_is e));
  more = λ e. let k = c.more (some_is e) in (k.1, (on k.0).0, (λ _. subst (EndsBroken true d p d'.height) k.0 (broken true (λ _. refl))), (on k.0).1, (λ w. absurd (true≢false (sym w ∙ quiet))));
  done = λ n e. absurd (c.done n (some_is e));
  broken = λ f e. let k = c.broken f (some_is e) in subst (EndsBroken is_all d p d'.height) (sym k.0) (broken is_all (λ t. k.1 (k.0 ∙ t)));
}

-- a fault in the code, where no height came
pub code_broken : (d : PieceView) (p : List ℕ) (fault : Fault) → d.is_open ≡ true → d.waits ≡ false → StepsOff (sized (fields_of d.header) d.header.yd) d.walk p fault →
    (SomeStand d → fault ≢ Changed) → (is_all : Bool) → (fault ≡ Truncated → is_all ≡ true) → EndsBroken is_all d p d.height fault
code_broken d p fault late going off other is_all all text out rest s follows =
    subst (λ n. HandsOut (fields_of d.header) ((text ++ p) ++ rest) n fault out) (sym (s.height.first late))
    (cut_hands_first (fields_of d.header) (text ++ p) out rest fault (own_height d.header) (other (text, out, s)) (λ t. follows (all t)) (off text out (code_of d text out late going s).walk))

-- ---- behind an end marker

pub in_code_entities : (s : Kind) (e : ℕ) → IsInCode s → entities_behind s e ≡ e + 1
in_code_entities s e (inl k) = ap (λ z. entities_behind z e) k
in_code_entities s e (inr k) = ap (λ z. entities_behind z e) k

pub in_code_last : (s : Kind) (b : Bool) → IsInCode s → is_last s b ≡ b
in_code_last s b (inl k) = ap (λ z. is_last z b) k
in_code_last s b (inr k) = ap (λ z. is_last z b) k

pub not_head : (s : Kind) → s ≡ stage.Head → IsInCode s → ⊥
not_head s e (inl k) = let z : stage.Head ≡ stage.Code = sym e ∙ k in cc
not_head s e (inr k) = let z : stage.Head ≡ stage.Row = sym e ∙ k in cc

pub marker_of : (w : WalkView) → IsAtMarker w → IsInCode w.stage → HasMarker w
marker_of w (inl head) code = absurd (not_head w.stage head.0 code)
marker_of w (inr k) code = k.1

pub head_of : (w : WalkView) → IsAtMarker w → (IsInCode w.stage → ⊥) → (w.stage ≡ stage.Head) × (w.at ≡ None) × (w.entities ≡ 0)
head_of w (inl head) outside = head
head_of w (inr k) outside = absurd (outside k.0)

-- what came stays behind the same marker
pub behind_same : (h : Fields) (w w' : WalkView) (b : Head) (back : List ℕ) → IsInCode w.stage → IsInCode w'.stage → KeepsPlace w w' →
    BehindStands h (behind_at (place_behind h w.stage w.entities) (last_behind h w.stage w.left)) b back →
    BehindStands h (behind_at (place_behind h w'.stage w'.entities) (last_behind h w'.stage w'.left)) b back
behind_same h w w' b back code code' keeps s =
    subst (λ p. BehindStands h (behind_at p (last_behind h w'.stage w'.left)) b back) (ap (place_at h.yd) entities)
    (subst (λ l. BehindStands h (behind_at (place_behind h w.stage w.entities) l) b back) last s)
  where
    entities : entities_behind w.stage w.entities ≡ entities_behind w'.stage w'.entities
    entities = in_code_entities w.stage w.entities code ∙ ap (λ z. z + 1) (sym keeps.entities) ∙ sym (in_code_entities w'.stage w'.entities code')

    last : last_behind h w.stage w.left ≡ last_behind h w'.stage w'.left
    last = in_code_last w.stage (nat_le w.left h.l0) code ∙ ap (λ z. nat_le z h.l0) (sym keeps.left) ∙ sym (in_code_last w'.stage (nat_le w'.left h.l0) code')

pub no_bytes : (g p' : List ℕ) → [] ≡ g ++ p' → g ≡ []
no_bytes [] p' e = refl
no_bytes (x ∷ g) p' e = absurd (let bot : ⊥ = cc in bot)

-- a step that has no bytes
pub step_none : (h : Fields) (height : ℕ) (w w' : WalkView) (p' row : List ℕ) → StepsOn (sized h height) w w' [] p' row → (text out : List ℕ) → WalkStands (sized h height) w text out →
    WalkStands (sized h height) w' text (out ++ row)
step_none h height w w' p' row on text out s = let k = on text out s in subst (λ z. WalkStands (sized h height) w' z (out ++ row)) (ap (λ z. text ++ z) (no_bytes k.0 p' k.1) ∙ append-nil text) k.2

-- the same is known of the height
pub keep_known : (d d' : PieceView) (text : List ℕ) → KeepsDecoder d d' → HeightKnown (fields_of d.header) d.height d.is_open text → HeightKnown (fields_of d'.header) d'.height d'.is_open text
keep_known d d' text keeps k =
    subst (λ z. HeightKnown (fields_of z) d'.height d'.is_open text) (sym keeps.header) (subst (λ n. HeightKnown (fields_of d.header) n d'.is_open text) (sym keeps.height)
    (subst (λ b. HeightKnown (fields_of d.header) d.height b text) (sym keeps.is_open) k))

-- a row that waited
pub row_given : (d d' : PieceView) → d.is_open ≡ true → d.waits ≡ true → IsInCode d.walk.stage → KeepsDecoder d d' → (p' : List ℕ) (r : Result Bool Fault) →
    BegunStep (sized (fields_of d.header) d.header.yd) d.walk d'.walk [] p' r → BegunLeaves false d.walk d'.walk r →
    DecoderOn d d' [] [] (row_held d')
row_given d d' late waits code keeps p' r step leaves text out s = (
  [],
  refl,
  put_waits d' (text ++ []) (out ++ row_held d') (keeps.is_open ∙ late) (keeps.waits ∙ waits)
      (keep_known d d' (text ++ []) keeps (known_more (fields_of d.header) d.height d.is_open text [] s.height))
      (subst (λ k. WalkWaits (fields_of k) d'.walk d'.behind (text ++ []) (out ++ row_held d')) (sym keeps.header)
      (subst (λ b. WalkWaits (fields_of d.header) d'.walk b (text ++ []) (out ++ row_held d')) (sym keeps.behind) now)),
) where
  w : WalkWaits (fields_of d.header) d.walk d.behind text out
  w = waits_of d text out late waits s

  marked : HasMarker d.walk
  marked = marker_of d.walk w.at code

  whole : (r ≡ Ok true) × HasMarker d'.walk
  whole = leaves.whole refl marked

  code' : IsInCode d'.walk.stage
  code' = inl (leaves.row whole.0).1

  now : WalkWaits (fields_of d.header) d'.walk d.behind (text ++ []) (out ++ row_held d')
  now = record {
    done = w.done;
    back = w.back;
    text_is = append-nil text ∙ w.text_is;
    walk = step_none (fields_of d.header) d.header.yd d.walk d'.walk p' (row_held d') (step.row whole.0) w.done out w.walk;
    at = inr (code', whole.1);
    ungiven = leaves.place.given ∙ w.ungiven;
    in_time = λ _. in_time_more (row_held d') (w.in_time code);
    behind = behind_same (fields_of d.header) d.walk d'.walk d.behind w.back code code' leaves.place w.behind;
  }

-- its place
pub row_after : (d : PieceView) (w : WalkView) → d.is_open ≡ true → d.waits ≡ true → SomeStand d → IsInCode d.walk.stage → (r : Result Bool Fault) →
    BegunLeaves false d.walk w r → w.row ≡ d.walk.row + 1
row_after d w late waits some code r leaves = (leaves.row (leaves.whole refl (marker_of d.walk (waits_of d some.0 some.1 late waits some.2).at code)).0).0

-- a stripe ended
pub stripe_ended : {d d' : PieceView} → d.is_open ≡ true → d.waits ≡ true → SomeStand d → KeepsDecoder d d' → StripeEnds (sized (fields_of d.header) d.header.yd) d.walk d'.walk → StripeLeft d d'
stripe_ended late waits some keeps ends = record { keeps = keeps; entities = ends.entities; given = ends.given; at = ends.at; stage = ends.left; stands = ends.on; read = ends.read }

-- ---- steps one after another

pub on_compose : (d e d' : PieceView) (p p1 p' row : List ℕ) → DecoderOn d e p p1 [] → DecoderOn e d' p1 p' row → DecoderOn d d' p p' row
on_compose d e d' p p1 p' row on next text out s =
    let a = on text out s in
    let b = next (text ++ a.0) (out ++ []) a.2 in (
      a.0 ++ b.0,
      a.1 ∙ ap (λ z. a.0 ++ z) b.1 ∙ sym (append_assoc a.0 b.0 p'),
      subst (λ z. DecoderStands d' z (out ++ row)) (append_assoc text a.0 b.0) (subst (λ z. DecoderStands d' ((text ++ a.0) ++ b.0) (z ++ row)) (append-nil out) b.2),
    )

pub on_none : (d e : PieceView) (p : List ℕ) → ((text out : List ℕ) → DecoderStands d text out → DecoderStands e text out) → DecoderOn d e p p []
on_none d e p k text out s = ([], refl, subst (λ z. DecoderStands e z (out ++ [])) (sym (append-nil text)) (subst (DecoderStands e text) (sym (append-nil out)) (k text out s)))

module _ (is_all : Bool) (d e d' : PieceView) (p p1 p' : List ℕ) (header : e.header ≡ d.header) (going : e.end ≡ d.end) (on : DecoderOn d e p p1 []) where
  all_text : (text g rest : List ℕ) → p ≡ g ++ p1 → ((text ++ g) ++ p1) ++ rest ≡ (text ++ p) ++ rest
  all_text text g rest is = ap (λ z. z ++ rest) (append_assoc text g p1 ∙ ap (λ z. text ++ z) (sym is))

  broken_after : (all : Bool) (height : ℕ) (f : Fault) → EndsBroken all e p1 height f → EndsBroken all d p height f
  broken_after all height f broken text out rest s follows =
      let a = on text out s in
      subst (λ k. HandsOut (fields_of k) ((text ++ p) ++ rest) height f out) header (subst (λ z. HandsOut (fields_of e.header) z height f out) (all_text text a.0 rest a.1)
      (subst (λ z. HandsOut (fields_of e.header) (((text ++ a.0) ++ p1) ++ rest) height f z) (append-nil out) (broken (text ++ a.0) (out ++ []) rest a.2 follows)))

  whole_after : (n : ℕ) → EndsWhole is_all e p1 n → EndsWhole is_all d p n
  whole_after n whole text out rest s follows =
      let a = on text out s in
      subst (λ k. HoldsImage (fields_of k) ((text ++ p) ++ rest) n out) header (subst (λ z. HoldsImage (fields_of e.header) z n out) (all_text text a.0 rest a.1)
      (subst (λ z. HoldsImage (fields_of e.header) (((text ++ a.0) ++ p1) ++ rest) n z) (append-nil out) (whole (text ++ a.0) (out ++ []) rest a.2 follows)))

  consumed_after : (n : ℕ) → EndsConsumed is_all e d' p1 p' n → EndsConsumed is_all d d' p p' n
  consumed_after n consumed text out rest s follows =
      let a = on text out s in
      let b = consumed (text ++ a.0) (out ++ []) rest a.2 follows in (
        a.0 ++ b.0,
        a.1 ∙ ap (λ z. a.0 ++ z) b.1 ∙ sym (append_assoc a.0 b.0 p'),
        subst (λ k. ConsumesImage (fields_of k) (waits_behind d') n (text ++ (a.0 ++ b.0)) ((text ++ p) ++ rest)) header
            (subst (ConsumesImage (fields_of e.header) (waits_behind d') n (text ++ (a.0 ++ b.0))) (all_text text a.0 rest a.1)
            (subst (λ z. ConsumesImage (fields_of e.header) (waits_behind d') n z (((text ++ a.0) ++ p1) ++ rest)) (append_assoc text a.0 b.0) b.2)),
      )

  waits_after : NoHeightBelow is_all e d' p1 → NoHeightBelow is_all d d' p
  waits_after waits late marked text out rest n s follows i =
      let a = on text out s in
      waits late marked (text ++ a.0) (out ++ []) rest n a.2 follows (subst (λ k. IsHeight (fields_of k) (((text ++ a.0) ++ p1) ++ rest) n) (sym header)
      (subst (λ z. IsHeight (fields_of d.header) z n) (sym (all_text text a.0 rest a.1)) i))

  open_after : StaysOpen e d' p1 → StaysOpen d d' p
  open_after waits text out s =
      let a = on text out s in
      subst (λ k. AwaitsHeight (fields_of k) (text ++ p) (stripes_ended d') out) header
      (subst (λ z. AwaitsHeight (fields_of e.header) z (stripes_ended d') out) (append_assoc text a.0 p1 ∙ ap (λ z. text ++ z) (sym a.1))
      (subst (AwaitsHeight (fields_of e.header) ((text ++ a.0) ++ p1) (stripes_ended d')) (append-nil out) (waits (text ++ a.0) (out ++ []) a.2)))

  pub leaves_after : (r : Option Outcome) → StepLeaves is_all e d' p1 p' r → StepLeaves is_all d d' p p' r
  leaves_after r k = record {
    header = k.header ∙ header;
    going = k.going ∙ going;
    on = λ is. on_compose d e d' p p1 p' [] on (k.on is);
    row = λ is. on_compose d e d' p p1 p' (row_held d') on (k.row is);
    waits = λ is. waits_after (k.waits is);
    more = λ is. let m = k.more is in (m.0, on_compose d e d' p p1 p' [] on m.1, (λ w. broken_after true d'.height Truncated (m.2 w)), m.3, (λ w. open_after (m.4 w)));
    done = λ n is. let m = k.done n is in (m.0, whole_after n m.1, consumed_after n m.2);
    broken = λ f is. broken_after is_all d'.height f (k.broken f is);
  }

-- a fault for good
pub leaves_broken : (is_all : Bool) (d d' : PieceView) (p p' : List ℕ) (f : Fault) → d'.header ≡ d.header → d'.end ≡ d.end → EndsBroken is_all d p d'.height f →
    StepLeaves is_all d d' p p' (Some (outcome.Broken f))
leaves_broken is_all d d' p p' f header going broken = leaves_as is_all d d' p p' (Some (outcome.Broken f)) header going broken

pub leaves_done : (is_all : Bool) (d d' : PieceView) (p p' : List ℕ) (n : ℕ) → d'.header ≡ d.header → d'.end ≡ d.end → d'.height ≡ n → EndsWhole is_all d p n → EndsConsumed is_all d d' p p' n →
    StepLeaves is_all d d' p p' (Some (outcome.Done n))
leaves_done is_all d d' p p' n header going height whole consumed = leaves_as is_all d d' p p' (Some (outcome.Done n)) header going (height, whole, consumed)

-- a walk that is over waits for nothing
pub done_nowhere : (d : PieceView) → d.is_open ≡ true → d.waits ≡ true → d.walk.stage ≡ stage.Done → SomeStand d → ⊥
done_nowhere d late waits done some = elim (waits_of d some.0 some.1 late waits some.2).at [
  | inl head ↦ (let e : stage.Head ≡ stage.Done = sym head.0 ∙ done in let bot : ⊥ = cc in bot)
  | inr code ↦ elim code.0 [
    | inl is ↦ (let e : stage.Code ≡ stage.Done = sym is ∙ done in let bot : ⊥ = cc in bot)
    | inr is ↦ (let e : stage.Row ≡ stage.Done = sym is ∙ done in let bot : ⊥ = cc in bot)
  ]
]

-- the height is known at a position where none may arrive
pub closed_of : (d : PieceDecoder) (rows : Held) (learned : List Estimate) (text out : List ℕ) → phase_looks d.phase ≡ false → DecoderStands (decoder_view d rows learned) text out →
    phase_is_open d.phase ≡ false
closed_of d rows learned text out quiet s = by d.phase refl where
  by : (p : Phase) → d.phase ≡ p → phase_is_open d.phase ≡ false
  by (phase.Known s) e = ap phase_is_open e
  by (phase.First head) e = absurd (true≢false (sym (ap phase_looks e) ∙ quiet))
  by (phase.Code code) e = absurd (true≢false (sym (ap phase_looks e) ∙ quiet))
  by (phase.Behind behind) e = absurd (true≢false (sym (ap phase_looks e) ∙ quiet))
  by phase.Late e = absurd (done_nowhere (decoder_view d rows learned) (ap phase_is_open e) (ap phase_waits e) (ap (λ p. stage_kind (phase_stage p)) e) (text, out, s))

pub open_looks : (p : Phase) → phase_looks p ≡ true → phase_is_open p ≡ true
open_looks (phase.Known s) e = absurd (true≢false (sym e))
open_looks (phase.First head) e = refl
open_looks (phase.Code code) e = refl
open_looks (phase.Behind behind) e = refl
open_looks phase.Late e = refl

-- ---- in the code

-- ---- the stripe before

pub closed_none : (d d' : PieceView) → d.is_open ≡ true → d.waits ≡ true → SomeStand d → (IsInCode d.walk.stage → ⊥) → KeepsDecoder d d' → d'.walk ≡ d.walk → StripeClosed d d'
closed_none d d' late waits some outside keeps same = record {
  keeps = keeps;
  stage = ap (λ w. w.stage) same ∙ head.0;
  entities = ap (λ w. w.entities) same ∙ sym (ap (λ z. entities_behind z d.walk.entities) head.0);
  given = ap (λ w. w.given) same ∙ here.ungiven;
  at = ap (λ w. w.at) same ∙ head.1;
  stands = λ text out w. subst (λ z. WalkStands (sized (fields_of d.header) d.header.yd) z w.done out) (sym same) w.walk;
} where
  here : WalkWaits (fields_of d.header) d.walk d.behind some.0 some.1
  here = waits_of d some.0 some.1 late waits some.2

  head : (d.walk.stage ≡ stage.Head) × (d.walk.at ≡ None) × (d.walk.entities ≡ 0)
  head = head_of d.walk here.at outside

pub closed_ended : (d d' : PieceView) → d.is_open ≡ true → d.waits ≡ true → SomeStand d → IsInCode d.walk.stage → last_behind (fields_of d.header) d.walk.stage d.walk.left ≡ false → StripeLeft d d' →
    StripeClosed d d'
closed_ended d d' late waits some code more e = record {
  keeps = e.keeps;
  stage = e.stage over;
  entities = e.entities over ∙ sym (in_code_entities d.walk.stage d.walk.entities code);
  given = e.given ∙ (waits_of d some.0 some.1 late waits some.2).ungiven;
  at = e.at;
  stands = λ text out w. e.stands w.done out w.walk;
} where
  over : d.header.l0 < d.walk.left
  over = let t = sym (in_code_last d.walk.stage (nat_le d.walk.left d.header.l0) code) ∙ more in grind (arith, nat_tests)

pub split_is : (p front behind : List ℕ) (n : ℕ) → front ≡ take n p → behind ≡ drop n p → p ≡ front ++ behind
split_is p front behind n f b = sym (take-append-drop n p) ∙ ap (λ z. z ++ drop n p) (sym f) ∙ ap (λ z. front ++ z) (sym b)

-- ---- the head of the next stripe

module _ (h : Fields) (w : WalkView) (b : Head) (place : Place) (done back out : List ℕ) (s : WalkStands (sized h h.yd) w done out) (is : w.stage ≡ stage.Head) (none : w.at ≡ None)
    (ungiven : w.given ≡ false) (entities : place ≡ record { height = h.yd; entities = w.entities; given = false })
    (bs : BehindStands h (behind_at place false) b back) where
  bare : HeadStands (sized h h.yd) (head_place w.entities false None w.carried) done out
  bare = subst (λ a. HeadStands (sized h h.yd) (head_place w.entities false a w.carried) done out) none
      (subst (λ g. HeadStands (sized h h.yd) (head_place w.entities g w.at w.carried) done out) ungiven (at_stage is s))

  pub head_segments : HeadStands (sized h h.yd) (head_place w.entities false b.at w.carried) (done ++ bs.front) out
  head_segments = head_behind refl bare (subst (λ p. HasPassed h p false (Some bs.front) (Some []) (segments_so_far b.at (is_some b.at) p.given bs.comments)) entities bs.passed)

  full : HeadStands (sized h h.yd) (head_place w.entities w.given b.at w.carried) (done ++ bs.front) out
  full = subst (λ g. HeadStands (sized h h.yd) (head_place w.entities g b.at w.carried) (done ++ bs.front) out) (sym ungiven) head_segments

  -- a walk there
  pub entered_walk : (comment : Option ℕ) → b.comment ≡ comment →
      WalkStands (sized h h.yd) (record w { stage = head_kind comment; at = b.at; comment = comment_left comment; row = 0; place = place_from None; first = None; marker = None }) (done ++ back) out
  entered_walk None between = walk_with s tt tt (omega (arith, s.within))
      (subst (λ z. HeadStands (sized h h.yd) (head_place w.entities w.given b.at w.carried) (done ++ z) out) (sym (front_is bs between)) full)
  entered_walk (Some left) inside =
      let k = part_of bs left inside in
      walk_with s tt tt (omega (arith, s.within)) (record {
        before = done ++ bs.front;
        head = full;
        part = k.0;
        small = k.1;
        text_is = ap (λ z. done ++ z) k.2 ∙ sym (append_assoc done bs.front (ESC ∷ COMMENT ∷ (big_bytes 4 (length k.0 + left) ++ k.0)));
      })

module _ (d e d' : PieceView) (closed : StripeClosed d e) (keeps : KeepsDecoder e d') (more : last_behind (fields_of d.header) d.walk.stage d.walk.left ≡ false) where
  all_keeps : KeepsDecoder d d'
  all_keeps = record {
    header = keeps.header ∙ closed.keeps.header;
    height = keeps.height ∙ closed.keeps.height;
    is_open = keeps.is_open ∙ closed.keeps.is_open;
    waits = keeps.waits ∙ closed.keeps.waits;
    behind = keeps.behind ∙ closed.keeps.behind;
    going = keeps.going ∙ closed.keeps.going;
  }

  place_is : place_behind (fields_of d.header) d.walk.stage d.walk.entities ≡ record { height = d.header.yd; entities = e.walk.entities; given = false }
  place_is = ap (place_at d.header.yd) (sym closed.entities)

  there : {text out : List ℕ} (w : WalkWaits (fields_of d.header) d.walk d.behind text out) →
      BehindStands (fields_of d.header) (behind_at (place_behind (fields_of d.header) d.walk.stage d.walk.entities) false) d.behind w.back
  there w = subst (λ l. BehindStands (fields_of d.header) (behind_at (place_behind (fields_of d.header) d.walk.stage d.walk.entities) l) d.behind w.back) more w.behind

  pub entered : d'.walk ≡ record e.walk {
    stage = head_kind d.behind.comment;
    at = d.behind.at;
    comment = comment_left d.behind.comment;
    row = 0;
    place = place_from None;
    first = None;
    marker =
        None;
  } → HeadEntered d d'
  entered walk = record {
    keeps = all_keeps;
    stage = ap (λ w. w.stage) walk;
    comment = λ n is. ap (λ w. w.comment) walk ∙ ap comment_left is;
    entities = ap (λ w. w.entities) walk ∙ closed.entities;
    given = ap (λ w. w.given) walk ∙ closed.given;
    at = ap (λ w. w.at) walk;
    stands = λ text out w. subst (λ z. WalkStands (sized (fields_of d.header) d.header.yd) z text out) (sym walk) (subst (λ z. WalkStands (sized (fields_of d.header) d.header.yd)
        (record e.walk { stage = head_kind d.behind.comment; at = d.behind.at; comment = comment_left d.behind.comment; row = 0; place = place_from None; first = None; marker = None }) z out)
        (sym w.text_is)
        (entered_walk (fields_of d.header) e.walk d.behind (place_behind (fields_of d.header) d.walk.stage d.walk.entities) w.done w.back out
        (closed.stands text out w) closed.stage closed.at closed.given place_is (there w) d.behind.comment refl));
  }

-- ---- what comes behind

-- a code begins
pub code_entered : (q : CoderLaws) (d e d' : PieceView) (c : code_type.Code) (dec : Decoder) (p rest : List ℕ) → d.is_open ≡ true → d.waits ≡ true → HeadEntered d e → d.behind.comment ≡ None →
    IsByteOrMarker c → DecoderIsAt dec start [] → p ≡ code_bytes c ++ rest →
    d'.header ≡ e.header → d'.height ≡ e.height → d'.is_open ≡ e.is_open → d'.waits ≡ false → d'.walk ≡
    record e.walk { decoder = dec; stage = stage.Code; comment = 0; row = 0; place = place_from None; first = Some c; marker = None } → DecoderOn d d' p rest []
code_entered q d e d' c dec p rest late waits head between is at p_is header height is_open going walk text out s = (
  code_bytes c,
  p_is,
  put_code d' (text ++ code_bytes c) (out ++ []) (is_open ∙ head.keeps.is_open ∙ late) going
      (subst (λ z. HeightKnown (fields_of z) d'.height d'.is_open (text ++ code_bytes c)) (sym (header ∙ head.keeps.header))
      (subst (λ n. HeightKnown (fields_of d.header) n d'.is_open (text ++ code_bytes c)) (sym (height ∙ head.keeps.height))
      (subst (λ b. HeightKnown (fields_of d.header) d.height b (text ++ code_bytes c)) (sym (is_open ∙ head.keeps.is_open))
      (known_more (fields_of d.header) d.height d.is_open text (code_bytes c) s.height))))
      (subst (λ z. CodeWalks (fields_of z) d'.walk (text ++ code_bytes c) (out ++ [])) (sym (header ∙ head.keeps.header))
      (subst (λ w. CodeWalks (fields_of d.header) w (text ++ code_bytes c) (out ++ [])) (sym walk) now)),
) where
  there : WalkStands (sized (fields_of d.header) d.header.yd) e.walk text out
  there = head.stands text out (waits_of d text out late waits s)

  in_head : HeadStands (sized (fields_of d.header) d.header.yd) (head_place e.walk.entities e.walk.given e.walk.at e.walk.carried) text out
  in_head = at_stage (head.stage ∙ ap head_kind between) there

  now : CodeWalks (fields_of d.header) (record e.walk { decoder = dec; stage = stage.Code; comment = 0; row = 0; place = place_from None; first = Some c; marker = None }) (text ++ code_bytes c)
      (out ++ [])
  now = record {
    walk = subst (WalkStands (sized (fields_of d.header) d.header.yd) (record e.walk {
      decoder = dec;
      stage = stage.Code;
      comment = 0;
      row = 0;
      place = place_from None;
      first = Some c;
      marker =
          None;
    }) (text ++ code_bytes c)) (sym (append-nil out)) (walk_with there is tt (omega (arith, there.within)) (head_code in_head c is dec at));
    in_code = inl refl;
    ungiven = head.given;
    in_time = in_time_empty q (own_height d.header) in_head c;
  }

-- a fault comes next
module _ (d e : PieceView) (q : CoderLaws) (late : d.is_open ≡ true) (waits : d.waits ≡ true) (head : HeadEntered d e) (p : List ℕ) (f : Fault)
    (stops : StopsBehind (fields_of d.header) (behind_at (place_behind (fields_of d.header) d.walk.stage d.walk.entities) false) d.behind p f) where
  behind_off : (text out : List ℕ) → DecoderStands d text out → CutOff (sized (fields_of d.header) d.header.yd) (text ++ p) out f × (f ≢ Changed)
  behind_off text out s = by d.behind.comment refl stops.breaks where
    there : WalkStands (sized (fields_of d.header) d.header.yd) e.walk text out
    there = head.stands text out (waits_of d text out late waits s)

    by : (o : Option ℕ) → d.behind.comment ≡ o → BreaksBehind (fields_of d.header) (behind_at (place_behind (fields_of d.header) d.walk.stage d.walk.entities) false) d.behind o p f →
        CutOff (sized (fields_of d.header) d.header.yd) (text ++ p) out f × (f ≢ Changed)
    by None is (unread, ends) =
        let k : HeadStands (sized (fields_of d.header) d.header.yd) (head_place e.walk.entities e.walk.given e.walk.at e.walk.carried) text out = at_stage (head.stage ∙ ap head_kind is) there in (
          head_cut k q (own_height d.header) p unread f stops.counted
              (subst (λ a. Ends Truncated (Some p) (Some unread) (PieceFault (fields_of d.header) (record { height = d.header.yd; entities = e.walk.entities; given = e.walk.given }) (is_some a)) f)
              (sym head.at)
              (subst (λ g. Ends Truncated (Some p) (Some unread) (PieceFault (fields_of d.header) (record { height = d.header.yd; entities = e.walk.entities; given = g }) (is_some d.behind.at)) f)
              (sym head.given)
              (subst (λ n. Ends Truncated (Some p) (Some unread) (PieceFault (fields_of d.header) (record { height = d.header.yd; entities = n; given = false }) (is_some d.behind.at)) f)
              (sym head.entities) ends))),
          piece_other (fields_of d.header) (place_behind (fields_of d.header) d.walk.stage d.walk.entities) (is_some d.behind.at) refl ends.given f
              (subst (PieceFault (fields_of d.header) (place_behind (fields_of d.header) d.walk.stage d.walk.entities) (is_some d.behind.at) ends.given) stops.counted ends.has_fault),
        )
    by (Some left) is (short, ended) =
        let k : CommentStands (sized (fields_of d.header) d.header.yd) (head_place e.walk.entities e.walk.given e.walk.at e.walk.carried) e.walk.comment text out =
        at_stage (head.stage ∙ ap head_kind is) there in (
          subst (CutOff (sized (fields_of d.header) d.header.yd) (text ++ p) out) (sym ended) (comment_off k q (own_height d.header) p (subst (λ n. length p < n) (sym (head.comment left is)) short)),
          (λ t. let z : Truncated ≡ Changed = sym ended ∙ t in cc),
        )

  pub behind_broken : (is_all : Bool) → (f ≡ Truncated → is_all ≡ true) → EndsBroken is_all d p e.height f
  behind_broken is_all all text out rest s follows =
      let k = behind_off text out s in
      subst (λ n. HandsOut (fields_of d.header) ((text ++ p) ++ rest) n f out) (sym (head.keeps.height ∙ s.height.first late))
      (cut_hands_first (fields_of d.header) (text ++ p) out rest f (own_height d.header) k.1 (λ t. follows (all t)) k.0)

-- of the same decoder
pub leaves_of : {is_all : Bool} {d0 d d' : PieceView} {p p' : List ℕ} {r : Option Outcome} → d0 ≡ d → StepLeaves is_all d0 d' p p' r → StepLeaves is_all d d' p p' r
leaves_of {is_all} {d0} {d} {d'} {p} {p'} {r} same k = subst (λ z. StepLeaves is_all z d' p p' r) same k

-- ---- where the height is known

module _ (d : PieceView) (known : d.is_open ≡ false) where
  known_of : (text more : List ℕ) → HeightKnown (fields_of d.header) d.height d.is_open text → HasHeight (fields_of d.header) (text ++ more) d.height
  known_of text more k = height_known (fields_of d.header) d.height text more (own_height d.header).accepted (subst (λ b. HeightKnown (fields_of d.header) d.height b text) known k)

  pub turn_on : (d' : PieceView) (p p' row : List ℕ) → KeepsDecoder d d' → StepsOn (sized (fields_of d.header) d.height) d.walk d'.walk p p' row → DecoderOn d d' p p' row
  turn_on d' p p' row keeps on text out s =
      let k = on text out (walks_of d text out known s) in (
        k.0,
        k.1,
        put_walks d' (text ++ k.0) (out ++ row) (keeps.is_open ∙ known) (keep_known d d' (text ++ k.0) keeps (known_more (fields_of d.header) d.height d.is_open text k.0 s.height))
            (subst (λ z. WalkStands (sized (fields_of z) d'.height) d'.walk (text ++ k.0) (out ++ row)) (sym keeps.header)
            (subst (λ n. WalkStands (sized (fields_of d.header) n) d'.walk (text ++ k.0) (out ++ row)) (sym keeps.height) k.2)),
      )

  pub turn_whole : (w : WalkView) (p p' : List ℕ) → StepsOn (sized (fields_of d.header) d.height) d.walk w p p' [] → w.stage ≡ stage.Done → (is_all : Bool) → EndsWhole is_all d p d.height
  turn_whole w p p' on done is_all text out rest s follows =
      let k = on text out (walks_of d text out known s) in
      let body : (text ++ k.0) ++ (p' ++ rest) ≡ (text ++ p) ++ rest = append_assoc text k.0 (p' ++ rest) ∙ ap (λ z. text ++ z) (sym (append_assoc k.0 p' rest) ∙ ap (λ z. z ++ rest) (sym k.1))
      ∙ sym (append_assoc text p rest) in
      subst (λ z. HoldsImage (fields_of d.header) z d.height out) body
      (read_holds (fields_of d.header) d.height (text ++ k.0) out (p' ++ rest)
      (subst (λ z. HasHeight (fields_of d.header) z d.height) (sym (append_assoc text k.0 (p' ++ rest))) (known_of text (k.0 ++ (p' ++ rest)) s.height))
      (at_stage done (subst (WalkStands (sized (fields_of d.header) d.height) w (text ++ k.0)) (append-nil out) k.2)))

  pub turn_consumed : (d' : PieceView) (p p' : List ℕ) → KeepsDecoder d d' → StepsOn (sized (fields_of d.header) d.height) d.walk d'.walk p p' [] → d'.walk.stage ≡ stage.Done → (is_all : Bool) →
      EndsConsumed is_all d d' p p' d.height
  turn_consumed d' p p' keeps on done is_all text out rest s follows =
      let k = on text out (walks_of d text out known s) in
      let body : (text ++ k.0) ++ (p' ++ rest) ≡ (text ++ p) ++ rest = append_assoc text k.0 (p' ++ rest) ∙ ap (λ z. text ++ z) (sym (append_assoc k.0 p' rest) ∙ ap (λ z. z ++ rest) (sym k.1))
      ∙ sym (append_assoc text p rest) in
      let height = subst (λ b. HeightKnown (fields_of d.header) d.height b (text ++ k.0)) known (known_more (fields_of d.header) d.height d.is_open text k.0 s.height) in (
        k.0,
        k.1,
        subst (λ b. ConsumesImage (fields_of d.header) (b && d'.waits) d.height (text ++ k.0) ((text ++ p) ++ rest)) (sym (keeps.is_open ∙ known))
            (subst (ConsumesImage (fields_of d.header) false d.height (text ++ k.0)) body
            (read_consumes (fields_of d.header) d.height (text ++ k.0) out (p' ++ rest) (own_height d.header).accepted height
            (at_stage done (subst (WalkStands (sized (fields_of d.header) d.height) d'.walk (text ++ k.0)) (append-nil out) k.2)))),
      )

  pub turn_broken : (p : List ℕ) (f : Fault) → StepsOff (sized (fields_of d.header) d.height) d.walk p f → (is_all : Bool) → (f ≡ Truncated → is_all ≡ true) → EndsBroken is_all d p d.height f
  turn_broken p f off is_all all text out rest s follows =
      cut_hands (fields_of d.header) d.height (text ++ p) out rest f (subst (λ z. HasHeight (fields_of d.header) z d.height) (sym (append_assoc text p rest)) (known_of text (p ++ rest) s.height))
      (λ t. follows (all t)) (off text out (walks_of d text out known s))

-- more bytes are needed behind a marker
pub leaves_more : (is_all : Bool) (d d' : PieceView) (p p' : List ℕ) → d'.header ≡ d.header → d'.end ≡ d.end → is_all ≡ false → d'.is_open ≡ true → d'.waits ≡ true → DecoderOn d d' p p' [] →
    length p' ≤ 7 → StaysOpen d d' p → StepLeaves is_all d d' p p' (Some outcome.More)
leaves_more is_all d d' p p' header going open_ late waits on few stays =
    leaves_as is_all d d' p p' (Some outcome.More) header going (open_, on, (λ w. absurd (true≢false (sym (subst (λ b. (b && d'.waits) ≡ true) (sym late) waits) ∙ w))), few, (λ _. stays))

pub fewer_after : (old mid new : Bool) (p p1 p' : List ℕ) → mid ≡ old → length p1 ≤ length p → steps_left new p' < steps_left mid p1 → steps_left new p' < steps_left old p
fewer_after old mid new p p1 p' same le less = let k : steps_left new p' < 2 * length p1 + cond {A = ℕ} old 0 1 = subst (λ b. steps_left new p' < 2 * length p1 + cond {A = ℕ} b 0 1) same less in
    omega (arith, k, le)

-- before the first byte
pub first_open : (b : Bool) → phase_is_open (first_phase b) ≡ b
first_open true = refl
first_open false = refl

pub first_waits : (b : Bool) → phase_waits (first_phase b) ≡ phase_is_open (first_phase b)
first_waits true = refl
first_waits false = refl

pub first_none : (b : Bool) → phase_behind (first_phase b) ≡ head_start
first_none true = refl
first_none false = refl

pub first_stage : (b : Bool) → phase_stage (first_phase b) ≡ stage_type.Head head_start
first_stage true = refl
first_stage false = refl

pub started : (d : PieceView) → d.is_open ≡ is_variable (fields_of d.header) → d.waits ≡ d.is_open → d.height ≡ d.header.yd → IsFirstWalk d.walk →
    WalkStands (sized (fields_of d.header) d.header.yd) d.walk [] [] → d.behind.at ≡ None → d.behind.comment ≡ None → DecoderStands d [] []
started d open_is waits height first s at comment = by d.is_open refl where
  known : HeightKnown (fields_of d.header) d.height d.is_open []
  known = record {
    variable = λ e. sym open_is ∙ e;
    first = λ _. height;
    came = λ closed v. absurd (true≢false (sym v ∙ sym open_is ∙ closed));
    fixed = λ _ _. height;
  }

  by : (b : Bool) → d.is_open ≡ b → DecoderStands d [] []
  by true e = put_waits d [] [] e (waits ∙ e) known (waits_first (fields_of d.header) d.walk d.behind [] [] s (inl (first.stage, first.at, first.entities)) first.given
      (λ code. absurd (not_head d.walk.stage first.stage code)) at comment)
  by false e = put_walks d [] [] e known (subst (λ n. WalkStands (sized (fields_of d.header) n) d.walk [] []) (sym height) s)

-- the same but for how the stream has ended
pub stands_same : (d d' : PieceView) (text out : List ℕ) → d'.header ≡ d.header → d'.height ≡ d.height → d'.is_open ≡ d.is_open → d'.waits ≡ d.waits → d'.walk ≡ d.walk → d'.behind ≡ d.behind →
    DecoderStands d text out → DecoderStands d' text out
stands_same d d' text out header height is_open waits walk behind s = by d.is_open d.waits refl refl where
  known : HeightKnown (fields_of d'.header) d'.height d'.is_open text
  known = subst (λ z. HeightKnown (fields_of z) d'.height d'.is_open text) (sym header)
      (subst (λ n. HeightKnown (fields_of d.header) n d'.is_open text) (sym height) (subst (λ b. HeightKnown (fields_of d.header) d.height b text) (sym is_open) s.height))

  by : (a b : Bool) → d.is_open ≡ a → d.waits ≡ b → DecoderStands d' text out
  by false b e f = put_walks d' text out (is_open ∙ e) known
      (subst (λ z. WalkStands (sized (fields_of z) d'.height) d'.walk text out) (sym header)
      (subst (λ n. WalkStands (sized (fields_of d.header) n) d'.walk text out) (sym height)
      (subst (λ w. WalkStands (sized (fields_of d.header) d.height) w text out) (sym walk) (walks_of d text out e s))))
  by true false e f = put_code d' text out (is_open ∙ e) (waits ∙ f) known
      (subst (λ z. CodeWalks (fields_of z) d'.walk text out) (sym header) (subst (λ w. CodeWalks (fields_of d.header) w text out) (sym walk) (code_of d text out e f s)))
  by true true e f = put_waits d' text out (is_open ∙ e) (waits ∙ f) known
      (subst (λ z. WalkWaits (fields_of z) d'.walk d'.behind text out) (sym header)
      (subst (λ w. WalkWaits (fields_of d.header) w d'.behind text out) (sym walk) (subst (λ b. WalkWaits (fields_of d.header) d.walk b text out) (sym behind) (waits_of d text out e f s))))

-- ---- calls

-- it goes on
pub call_on : (d e d' : PieceView) (p p' row : List ℕ) (taken : ℕ) → taken ≡ length p - length p' → d'.header ≡ e.header → d'.height ≡ e.height → d'.is_open ≡ e.is_open → d'.waits ≡ e.waits →
    d'.walk ≡ e.walk → d'.behind ≡ e.behind → d'.end ≡ None → DecoderOn d e p p' row →
    (text out : List ℕ) → HasDecoded d text out → HasDecoded d' (text ++ take taken p) (out ++ row)
call_on d e d' p p' row taken count header height is_open waits walk behind going on text out s =
    let k = on text out s.stands in
    record {
      going = going;
      stands = subst (λ z. DecoderStands d' (text ++ z) (out ++ row)) (sym (taken_is p p' k.0 k.1) ∙ ap (λ n. take n p) (sym count))
          (stands_same e d' (text ++ k.0) (out ++ row) header height is_open waits walk behind k.2);
    }

-- ---- for a decoder at some position

-- its walk does
pub some_code : (d : PieceView) → d.is_open ≡ true → d.waits ≡ false → SomeStand d → SomeStands (sized (fields_of d.header) d.header.yd) d.walk
some_code d late going some = (some.0, some.1, (code_of d some.0 some.1 late going some.2).walk)

pub some_waits : (d : PieceView) → d.is_open ≡ true → d.waits ≡ true → SomeStand d → SomeStands (sized (fields_of d.header) d.header.yd) d.walk
some_waits d late waits some = let w = waits_of d some.0 some.1 late waits some.2 in (w.done, some.1, w.walk)

-- the effect of a step is stated only for such a decoder
module _ (is_all : Bool) (d d' : PieceView) (p p' : List ℕ) (header : d'.header ≡ d.header) (going : d'.end ≡ d.end) where
  leaves_where : (r : Option Outcome) → (r ≡ Some outcome.More → (is_all ≡ false) × (length p' ≤ 7)) → ((n : ℕ) → r ≡ Some (outcome.Done n) → d'.height ≡ n) →
      (SomeStand d → StepLeaves is_all d d' p p' r) → StepLeaves is_all d d' p p' r
  leaves_where r cut done there = record {
    header = header;
    going = going;
    on = λ e text out s. (there (text, out, s)).on e text out s;
    row = λ e text out s. (there (text, out, s)).row e text out s;
    waits = λ e late marked text out rest n s. (there (text, out, s)).waits e late marked text out rest n s;
    more = λ e. (
      (cut e).0,
      (λ text out s. ((there (text, out, s)).more e).1 text out s),
      (λ w text out rest s. ((there (text, out, s)).more e).2 w text out rest s),
      (cut e).1,
      (λ w text out s. ((there (text, out, s)).more e).4 w text out s),
    );
    done = λ n e. (done n e, (λ text out rest s. ((there (text, out, s)).done n e).1 text out rest s), (λ text out rest s. ((there (text, out, s)).done n e).2 text out rest s));
    broken = λ f e text out rest s. (there (text, out, s)).broken f e text out rest s;
  }

  pub on_where : (SomeStand d → StepLeaves is_all d d' p p' None) → StepLeaves is_all d d' p p' None
  on_where = leaves_where None (λ e. absurd (none_some e)) (λ n e. absurd (none_some e))

  pub row_where : (SomeStand d → StepLeaves is_all d d' p p' (Some outcome.Row)) → StepLeaves is_all d d' p p' (Some outcome.Row)
  row_where = leaves_where (Some outcome.Row) (λ e. absurd (let bot : ⊥ = cc in bot)) (λ n e. absurd (let bot : ⊥ = cc in bot))

  pub done_where : (n : ℕ) → d'.height ≡ n → (SomeStand d → StepLeaves is_all d d' p p' (Some (outcome.Done n))) → StepLeaves is_all d d' p p' (Some (outcome.Done n))
  done_where n is = leaves_where (Some (outcome.Done n)) (λ e. absurd (let bot : ⊥ = cc in bot)) (λ m e. is ∙ (let k : n ≡ m = cc in k))

  pub broken_where : (f : Fault) → (SomeStand d → StepLeaves is_all d d' p p' (Some (outcome.Broken f))) → StepLeaves is_all d d' p p' (Some (outcome.Broken f))
  broken_where f = leaves_where (Some (outcome.Broken f)) (λ e. absurd (let bot : ⊥ = cc in bot)) (λ n e. absurd (let bot : ⊥ = cc in bot))

-- a stripe with more rows behind it is not the last
pub not_last : (d : PieceView) → d.is_open ≡ true → d.waits ≡ true → SomeStand d → (IsInCode d.walk.stage → d.header.l0 < d.walk.left) → last_behind (fields_of d.header) d.walk.stage d.walk.left ≡
    false
not_last d late waits some more = by (waits_of d some.0 some.1 late waits some.2).at where
  by : IsAtMarker d.walk → last_behind (fields_of d.header) d.walk.stage d.walk.left ≡ false
  by (inl head) = ap (λ z. is_last z (nat_le d.walk.left d.header.l0)) head.0
  by (inr k) = in_code_last d.walk.stage (nat_le d.walk.left d.header.l0) k.0 ∙ (let over = more k.0 in grind (arith, nat_tests))
