-- No height follows the last stripe: the image ends there.
use Rattle.std.proofs.Common.{cond, ◌≡◌, ◌≤◌, ◌+◌, ◌*◌, inl, inr, ℕ, Bool, true, false, List, [], ◌++◌, length, nat_le, Some, refl, sym, ap, ◌∙◌, subst, append_assoc, append-nil, arith, true≢false}
use Rattle.std.specs.Prelude.{flat_map, ◌&&◌, ◌⊎◌}
use Rattle.std.proofs.lemmas.Bool.Decides.{nat_tests}
use Rattle.t85_core.specs.Lent.{PieceView}
use Rattle.t85_core.specs.Header.{Fields, is_variable}
use Rattle.t85_core.specs.Options.{fields_of}
use Rattle.t85_core.specs.Grammar.{AreStripes, stripe_bytes, stripe_count, all_segments, lengths}
use Rattle.t85_core.specs.Height.{GivesHeight}
use Rattle.t85_core.specs.States.State.{image_start}
use Rattle.t85_core.specs.Pieces.{HoldsImage, MayFollow}
use Rattle.t85_core.specs.Consumed.{ConsumesImage}
use Rattle.t85_core.specs.Private.CoderLaws.{CoderLaws}
use Rattle.t85_core.specs.Private.HeightWalk.{LookEnds}
use Rattle.t85_core.specs.States.DecodeStripes.{StripesRead}
use Rattle.t85_core.specs.States.Behind.{BehindStands, behind_at}
use Rattle.t85_core.specs.States.Pieces.{IsInCode}
use Rattle.t85_core.specs.States.PieceStands.{DecoderStands, WalkWaits, place_behind, last_behind}
use Rattle.t85_core.specs.Private.PieceSteps.{EndsConsumed, EndsWhole, StripeLeft, LookIsOver}
use Rattle.t85_core.specs.States.Passage.{passage}
use Rattle.t85_core.proofs.BytesJoin.SegmentsGiveHeights.{gives_none}
use Rattle.t85_core.proofs.BodiesParse.BodyHasOneHeight.{one_height_of}
use Rattle.t85_core.proofs.BodiesParse.HeightExists.{never_behind}
use Rattle.t85_core.proofs.BodiesDecode.StripesDenoteRaster.{stripes_whole}
use Rattle.t85_core.proofs.BodiesDecode.ImageIsPut.{image_read}
use Rattle.t85_core.proofs.BodiesDecode.WalkGoesOn.{nil_of, last_stripe}
use Rattle.t85_core.proofs.BodiesDecode.PiecesGiveResults.{read_holds}
use Rattle.t85_core.proofs.BodiesDecode.PieceStands.{own_height, waits_of, in_code_entities, in_code_last}
use Rattle.t85_core.proofs.BodiesDecode.SegmentsComeBehind.{comments_so_far}
use Rattle.t85_core.proofs.BodiesDecode.DecoderLooksBehind.{comments_behind, in_last, fewer_here}

module _ (d d' : PieceView) (p : List ℕ) (is_all : Bool) (q : CoderLaws) (late : d.is_open ≡ true) (waits : d.waits ≡ true) (last : last_behind (fields_of d.header) d.walk.stage d.walk.left ≡ true)
    (over : LookIsOver is_all d p) (ended : StripeLeft d d') where
  abbrev h : Fields
  h = fields_of d.header

  module _ {text out : List ℕ} (s : DecoderStands d text out) where
    abbrev w : WalkWaits h d.walk d.behind text out
    w = waits_of d text out late waits s

    in_code : IsInCode d.walk.stage
    in_code = in_last h d.walk w.at last

    read : StripesRead h d.header.yd (passage (Some w.done) (Some []) (Some []) (Some out)) (d.walk.entities + 1) 0 d'.walk.carried
    read = subst (λ g. StripesRead h d.header.yd (passage (Some w.done) (Some []) (Some []) (Some out)) (d.walk.entities + 1) (cond {A = ℕ} g 1 0) d'.walk.carried) w.ungiven
        (ended.read w.done out w.walk)

    all : d.header.yd ≤ (d.walk.entities + 1) * d.header.l0
    all =
        let t = sym (in_code_last d.walk.stage (nat_le d.walk.left d.header.l0) in_code) ∙ last in
        let le : d.walk.left ≤ d.header.l0 = grind (arith, nat_tests) in
        let left = w.walk.left_is in
        let times : (d.walk.entities + 1) * d.header.l0 ≡ d.walk.entities * d.header.l0 + d.header.l0 = omega arith in
        omega (arith, le, left, times)

    many : d.walk.entities + 1 ≡ stripe_count d.header.yd d.header.l0
    many = last_stripe d.header.yd d.header.l0 d.walk.entities d.header.some_rows (fewer_here h d.walk d.behind text out q w in_code) all

    same : length read.stripes ≡ (place_behind h d.walk.stage d.walk.entities).entities
    same = read.many ∙ sym (in_code_entities d.walk.stage d.walk.entities in_code)

    none : lengths (all_segments read.stripes) ≡ []
    none = nil_of (lengths (all_segments read.stripes)) (let e = read.gives_in.heights_are in omega (arith, e))

    each : AreStripes h read.stripes
    each = stripes_whole h d.header.yd (image_start d.header.xd) read.stripes read.rows read.flags read.next read.run

    done_is : w.done ≡ flat_map stripe_bytes read.stripes
    done_is = read.taken ∙ append-nil (flat_map stripe_bytes read.stripes)

    body : (more : List ℕ) → (text ++ p) ++ more ≡ w.done ++ ((w.back ++ p) ++ more)
    body more = ap (λ z. (z ++ p) ++ more) w.text_is ∙ ap (λ z. z ++ more) (append_assoc w.done w.back p) ∙ append_assoc w.done (w.back ++ p) more

    module _ (more : List ℕ) (follows : MayFollow is_all more) where
      look : LookEnds h (place_behind h d.walk.stage d.walk.entities).entities ((w.back ++ p) ++ more)
      look = over w.back more (subst (λ l. BehindStands h (behind_at (place_behind h d.walk.stage d.walk.entities) l) d.behind w.back) last w.behind) follows

      no_height : (n : ℕ) → GivesHeight h (w.done ++ ((w.back ++ p) ++ more)) n → ⊥
      no_height n = never_behind (own_height d.header).accepted read.stripes (read.many ∙ many) each (gives_none 0 0 (all_segments read.stripes) (omega arith) none)
          (ap (λ z. z ++ ((w.back ++ p) ++ more)) done_is) (subst (λ k. LookEnds h k ((w.back ++ p) ++ more)) (sym same) look)

  pub look_whole : EndsWhole is_all d p d.header.yd
  look_whole text out more s follows =
      subst (λ z. HoldsImage h z d.header.yd out) (sym (body s more))
      (read_holds h d.header.yd (w s).done out (((w s).back ++ p) ++ more)
      (λ m is. one_height_of ((w s).done ++ (((w s).back ++ p) ++ more)) m d.header.yd (own_height d.header).accepted is (inr (refl, no_height s more follows)))
      (image_read h d.header.yd (Some (w s).done) (Some []) (d.walk.entities + 1) 0 d'.walk.carried (Some []) (Some out) (read s) (own_height d.header) (many s)))

  pub look_consumed : (e : PieceView) → e.waits ≡ false → EndsConsumed is_all d e p p d.header.yd
  look_consumed e quiet text out more s follows = (
    [],
    refl,
    subst (λ b. ConsumesImage h (e.is_open && b) d.header.yd (text ++ []) ((text ++ p) ++ more)) (sym quiet) (at_end e.is_open),
  ) where
    here : ConsumesImage h false d.header.yd (text ++ []) ((text ++ p) ++ more)
    here = record {
      stripes = (read s).stripes;
      bytes = (w s).back;
      consumed_is = append-nil text ∙ (w s).text_is ∙ ap (λ z. z ++ (w s).back) (done_is s);
      each = each s;
      all = (read s).many ∙ many s;
      behind = record {
        given = λ n g. absurd (no_height s more follows n (subst (λ z. GivesHeight h z n) (body s more) g));
        exact = λ why. absurd (neither why);
        comments = comments_so_far (w s).behind (comments_behind h d.walk d.header.some_rows (in_code s) (w s).walk.left_is (w s).behind.passed (many s));
      };
    } where
      neither : (is_variable h ≡ false) ⊎ (1 ≤ length (lengths (all_segments (read s).stripes))) → ⊥
      neither (inl fixed) = true≢false (sym (s.height.variable late) ∙ fixed)
      neither (inr some) = let zero : length (lengths (all_segments (read s).stripes)) ≡ 0 = ap length (none s) in omega (arith, some, zero)

    at_end : (b : Bool) → ConsumesImage h (b && false) d.header.yd (text ++ []) ((text ++ p) ++ more)
    at_end true = here
    at_end false = here
