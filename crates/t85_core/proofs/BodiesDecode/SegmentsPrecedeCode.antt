-- The marker segments of a stripe that came before its code.
use Rattle.std.proofs.Common.{cond, ◌≡◌, ◌≢◌, ◌<◌, ◌+◌, ℕ, Bool, true, false, List, [], ◌∷◌, ◌++◌, length, Option, None, Some, refl, sym, ap, ◌∙◌, subst, append_assoc, arith}
use Rattle.qm_core.specs.Place.{Estimate, start}
use Rattle.qm_core.specs.Decoder.{DecoderIsAt}
use Rattle.qm_core.specs.declared.decoder.Decoder.{Decoder}
use Rattle.raster_core.specs.Packed.{Held}
use Rattle.byteorder.specs.Endian.{big_bytes}
use Rattle.t85_core.specs.declared.fault.Fault.{Fault}
use Rattle.t85_core.specs.declared.fault.Fault.TheVariants.{Changed}
use Rattle.t85_core.specs.declared.pieces.code.InCode.{InCode}
use Rattle.t85_core.specs.declared.pieces.head.Head.{Head}
use Rattle.t85_core.specs.declared.pieces.course.Stage.TheVariants as stage
use Rattle.t85_core.specs.declared.pieces.course.Course.{Course}
use Rattle.t85_core.specs.declared.segments.Code as code_type
use Rattle.t85_core.specs.declared.segments.atmove.Move as move
use Rattle.t85_core.specs.Lent.{stage_view, Carried, WalkView}
use Rattle.t85_core.specs.Stages as kind
use Rattle.t85_core.specs.Stages.{StartsCode, code_kind, head_kind, place_from}
use Rattle.t85_core.specs.Header.{Fields}
use Rattle.t85_core.specs.Grammar.{ESC, COMMENT, NewLength, IsLegal, is_valid_length, segment_bytes, stripe_count}
use Rattle.t85_core.specs.Laws.{IsInUse}
use Rattle.t85_core.specs.Private.CoderLaws.{CoderLaws}
use Rattle.t85_core.specs.States.Segments.{IsByteOrMarker, code_bytes}
use Rattle.t85_core.specs.States.Behind.{BehindStands, CommentBegun, behind_at, head_at}
use Rattle.t85_core.specs.Private.Behind.{BehindOn, BreaksBehind, StopsBehind}
use Rattle.t85_core.specs.States.DecodeStripes.{StripesRead}
use Rattle.t85_core.specs.States.Passage.{passage}
use Rattle.t85_core.specs.States.Pieces.{CutOff, HeadStands, CommentStands, StageStands, WalkStands, head_place}
use Rattle.t85_core.specs.Private.Pieces.{StepsOff, StepsOn}
use Rattle.t85_core.specs.States.SizedImage.{sized}
use Rattle.t85_core.proofs.BodiesDecode.HeadComesInPieces.{head_cut, head_length, head_other, head_code, comment_off}
use Rattle.t85_core.proofs.BodiesDecode.WalkGoesOn.{on_same, walk_at, walk_with, at_stage, put_stage}

-- a code of which only the first element was read
abbrev pub code_started : Course → Held → List Estimate → Option move.Move → code_type.Code → WalkView
code_started w rows learned at c = record (stage_view w stage.Done rows learned) { stage = kind.Code; at = at; comment = 0; row = 0; place = place_from None; first = Some c; marker = None }

pub started_view : (w : Course) (rows : Held) (learned : List Estimate) {at : Option move.Move} {c : code_type.Code} {code : InCode} → StartsCode at c code →
    stage_view w (stage.Code code) rows learned ≡ code_started w rows learned at c
started_view w rows learned s =
    λ i. record {
      carried = record { held = rows; kept = w.kept; learned = learned };
      decoder = w.decoder;
      stage = (ap code_kind s.begun_is) i;
      entities = w.entities;
      left = w.left;
      given = w.given;
      at = s.at_is i;
      comment = 0;
      row = s.row_is i;
      place = (ap place_from s.begun_is) i;
      first = s.first_is i;
      marker = s.marker_is i;
    }

-- a place in the marker segments of a stripe, or in a comment among them
abbrev pub HeadHere : (h : Fields) (height entities : ℕ) (given : Bool) (carried : Carried) → Option move.Move → Option ℕ → (text out : List ℕ) → Type 0
HeadHere h height entities given carried at None text out = HeadStands (sized h height) (head_place entities given at carried) text out
HeadHere h height entities given carried at (Some left) text out = CommentStands (sized h height) (head_place entities given at carried) left text out

-- The stripes before them, and what came of them.
pub record HeadParts (h : Fields) (height entities : ℕ) (given : Bool) (carried : Carried) (b : Head) (text out : List ℕ) : Type 0 where
  pub before : Bool
  pub first : List ℕ
  pub back : List ℕ
  pub text_is : text ≡ first ++ back
  pub stripes : StripesRead h height (passage (Some first) (Some []) (Some []) (Some out)) entities (cond before 1 0) carried
  pub fewer : entities < stripe_count height h.l0
  pub behind : BehindStands h (head_at (record { height = height; entities = entities; given = given }) false before) b back

pub parts_of : {h : Fields} {height entities : ℕ} {given : Bool} {carried : Carried} {at : Option move.Move} (comment : Option ℕ) {text out : List ℕ} →
    HeadHere h height entities given carried at comment text out →
    HeadParts h height entities given carried (record { at = at; comment = comment }) text out
parts_of None s = record {
  before = s.before;
  first = s.front;
  back = s.back;
  text_is = s.text_is;
  stripes = s.stripes;
  fewer = s.fewer;
  behind = record { front = s.back; comments = s.comments; passed = s.passed; begun = refl };
}
parts_of (Some left) s = record {
  before = s.head.before;
  first = s.head.front;
  back = s.head.back ++ (ESC ∷ COMMENT ∷ (big_bytes 4 (length s.part + left) ++ s.part));
  text_is = s.text_is ∙ ap (λ z. z ++ (ESC ∷ COMMENT ∷ (big_bytes 4 (length s.part + left) ++ s.part))) s.head.text_is
      ∙ append_assoc s.head.front s.head.back (ESC ∷ COMMENT ∷ (big_bytes 4 (length s.part + left) ++ s.part));
  stripes = s.head.stripes;
  fewer = s.head.fewer;
  behind = record { front = s.head.back; comments = s.head.comments; passed = s.head.passed; begun = (s.part, s.small, refl) };
}

module _ {h : Fields} {height entities : ℕ} {given : Bool} {carried : Carried} {b : Head} {text out : List ℕ} (s : HeadParts h height entities given carried b text out) where
  -- the segments that are whole
  segments_here : HeadStands (sized h height) (head_place entities given b.at carried) (s.first ++ s.behind.front) out
  segments_here = record { before = s.before; front = s.first; back = s.behind.front; text_is = refl; stripes = s.stripes; comments = s.behind.comments; passed = s.behind.passed; fewer = s.fewer }

  pub here_of : HeadHere h height entities given carried b.at b.comment text out
  here_of = by b.comment s.behind.begun
    where
      by : (c : Option ℕ) → CommentBegun c s.behind.front s.back → HeadHere h height entities given carried b.at c text out
      by None e = subst (λ z. HeadStands (sized h height) (head_place entities given b.at carried) z out) (sym (s.text_is ∙ ap (λ z. s.first ++ z) e)) segments_here
      by (Some left) (part, small, e) = record {
        before = s.first ++ s.behind.front;
        head = segments_here;
        part = part;
        small = small;
        text_is = s.text_is ∙ ap (λ z. s.first ++ z) e ∙ sym (append_assoc s.first s.behind.front (ESC ∷ COMMENT ∷ (big_bytes 4 (length part + left) ++ part)));
      }

  -- more of them came
  pub parts_on : {b' : Head} {p p' : List ℕ} → BehindOn h (head_at (record { height = height; entities = entities; given = given }) false s.before) b b' p p' → (more : List ℕ) × (p ≡ more ++ p') ×
      HeadParts h height entities given carried b' (text ++ more) out
  parts_on on =
      let k = on s.back s.behind in (
        k.0,
        k.1,
        record {
          before = s.before;
          first = s.first;
          back = s.back ++ k.0;
          text_is = ap (λ z. z ++ k.0) s.text_is ∙ append_assoc s.first s.back k.0;
          stripes = s.stripes;
          fewer = s.fewer;
          behind = k.2;
        },
      )

  -- they break, or the piece ends in them
  pub parts_off : CoderLaws → IsInUse h height → (p : List ℕ) (f : Fault) → StopsBehind h (behind_at (record { height = height; entities = entities; given = given }) false) b p f →
      CutOff (sized h height) (text ++ p) out f
  parts_off q use_ p f stops = by b.comment here_of stops.breaks
    where
      by : (c : Option ℕ) → HeadHere h height entities given carried b.at c text out → BreaksBehind h (behind_at (record { height = height; entities = entities; given = given }) false) b c p f →
          CutOff (sized h height) (text ++ p) out f
      by None here (unread, ends) = head_cut here q use_ p unread f stops.counted ends
      by (Some left) here (short, ended) = subst (λ z. CutOff (sized h height) (text ++ p) out z) (sym ended) (comment_off here q use_ p short)

-- ---- a walk there

abbrev pub head_view : Course → Held → List Estimate → Head → WalkView
head_view w rows learned b = stage_view w (stage.Head b) rows learned

abbrev carried_with : Course → Held → List Estimate → Carried
carried_with w rows learned = record { held = rows; kept = w.kept; learned = learned }

module _ (h : Fields) (height : ℕ) (w : Course) (rows : Held) (learned : List Estimate) (text out : List ℕ) (at : Option move.Move) where
  stage_here : (comment : Option ℕ) → StageStands (head_kind comment) (sized h height) (head_view w rows learned (record { at = at; comment = comment })) text out →
      HeadHere h height w.entities w.given (carried_with w rows learned) at comment text out
  stage_here None s = s
  stage_here (Some left) s = s

  here_stage : (comment : Option ℕ) → HeadHere h height w.entities w.given (carried_with w rows learned) at comment text out →
      StageStands (head_kind comment) (sized h height) (head_view w rows learned (record { at = at; comment = comment })) text out
  here_stage None s = s
  here_stage (Some left) s = s

module _ {h : Fields} {height : ℕ} (w : Course) (rows : Held) (learned : List Estimate) (b : Head) where
  parts : {text out : List ℕ} → WalkStands (sized h height) (head_view w rows learned b) text out → HeadParts h height w.entities w.given (carried_with w rows learned) b text out
  parts {text} {out} s = parts_of b.comment (stage_here h height w rows learned text out b.at b.comment s.stands)

  -- ---- more segments came

  module _ {b' : Head} {p p' : List ℕ} (on : (before : Bool) → BehindOn h (head_at (record { height = height; entities = w.entities; given = w.given }) false before) b b' p p') where
    pub head_on : StepsOn (sized h height) (head_view w rows learned b) (head_view w rows learned b') p p' []
    head_on text out s =
        let k = parts_on (parts s) (on (parts s).before) in
        on_same h height (head_view w rows learned b') text out p p' k.0 k.1 (record {
          left_is = s.left_is;
          width_is = s.width_is;
          code_is = tt;
          behind = tt;
          within = omega (arith, s.within);
          stands = here_stage h height w rows learned (text ++ k.0) out b'.at b'.comment (here_of k.2);
        })

    pub head_off : CoderLaws → IsInUse h height → (f : Fault) → StopsBehind h (behind_at (record { height = height; entities = w.entities; given = w.given }) false) b' p' f →
        StepsOff (sized h height) (head_view w rows learned b) p f
    head_off q use_ f stops text out s =
        let k = parts_on (parts s) (on (parts s).before) in
        subst (λ z. CutOff (sized h height) z out f) (append_assoc text k.0 p' ∙ ap (λ z. text ++ z) (sym k.1)) (parts_off k.2 q use_ p' f stops)

  -- ---- what follows them comes

  module _ (between : b.comment ≡ None) where
    at_head : {text out : List ℕ} → WalkStands (sized h height) (head_view w rows learned b) text out →
        HeadStands (sized h height) (head_place w.entities w.given b.at (carried_with w rows learned)) text out
    at_head s = at_stage (ap head_kind between) s

    -- the height in use
    pub head_height : {p p' : List ℕ} (n : ℕ) → w.given ≡ false → n ≡ height → IsLegal h (NewLength n) → p ≡ segment_bytes (NewLength n) ++ p' →
        StepsOn (sized h height) (head_view w rows learned b) (head_view (record w { given = true }) rows learned b) p p' []
    head_height {p} {p'} n none same legal taken text out s =
        on_same h height (head_view (record w { given = true }) rows learned b) text out p p' (segment_bytes (NewLength n)) taken
        (walk_at s tt tt (put_stage h height (head_view (record w { given = true }) rows learned b) (text ++ segment_bytes (NewLength n)) out _ (ap head_kind between)
        (head_length (at_head s) n none same legal)))

    -- another one
    pub head_changes : {p p' : List ℕ} → CoderLaws → IsInUse h height → (n : ℕ) → w.given ≡ false → is_valid_length h w.entities n ≡ true → IsLegal h (NewLength n) → n ≢ height → p ≡
        segment_bytes (NewLength n) ++ p' → StepsOff (sized h height) (head_view w rows learned b) p Changed
    head_changes {p} {p'} q use_ n none valid legal other taken text out s = head_other (at_head s) q use_ p p' n none valid legal other taken

    -- the code
    pub head_begins : {p p' : List ℕ} (c : code_type.Code) → IsByteOrMarker c → (d : Decoder) → DecoderIsAt d start [] → (code : InCode) → StartsCode b.at c code → p ≡ code_bytes c ++ p' →
        StepsOn (sized h height) (head_view w rows learned b) (stage_view (record w { decoder = d }) (stage.Code code) rows learned) p p' []
    head_begins {p} {p'} c is d stands code same taken =
        subst (λ z. StepsOn (sized h height) (head_view w rows learned b) z p p' []) (sym (started_view (record w { decoder = d }) rows learned same))
        (λ text out s. on_same h height (code_started (record w { decoder = d }) rows learned b.at c) text out p p' (code_bytes c) taken
        (walk_with s is tt (omega (arith, s.within)) (head_code (at_head s) c is d stands)))
