-- A body has one outcome.
use Rattle.std.proofs.Common.{◌≡◌, ◌<◌, ◌^◌, ◌⊎◌, inl, inr, ℕ, Bool, List, Option, Some, None, refl, ap, ◌∙◌, arith}
use Rattle.qm_core.specs.Code.{IsBytes}
use Rattle.raster_core.specs.Raster.{Raster}
use Rattle.t85_core.specs.declared.fault.Fault.{Fault}
use Rattle.t85_core.specs.Header.{Fields}
use Rattle.t85_core.specs.Grammar.{Parts}
use Rattle.t85_core.specs.Refusal.{BodyFault}
use Rattle.t85_core.specs.Denotes.{DenotesAt}
use Rattle.t85_core.specs.Fixed.{Fixes}
use Rattle.t85_core.specs.Outcome.{IsOutcome, pbm_rows, pbm_text}
use Rattle.t85_core.specs.Private.CoderLaws.{CoderLaws}
use Rattle.t85_core.specs.Laws.{IsInUse, HasOutcome}
use Rattle.t85_core.proofs.BodiesParse.BodyHasOneHeight.{whole_or_broken_at}
use Rattle.t85_core.proofs.StreamsDenote.RasterIsUnique.{one_raster_at}
use Rattle.t85_core.proofs.StreamsDenote.BodyDenotesRaster.{some_raster_at}
use Rattle.t85_core.proofs.StreamsDenote.BodyFixesRows.{some_fixed_at, one_fixed_at}
use Rattle.t85_core.proofs.BodiesParse.BodyParsesOrBreaks.{parsed}

pub one_outcome_at : (q : CoderLaws) (h : Fields) (height : ℕ) (body : List ℕ) → IsInUse h height → IsBytes body → HasOutcome h height body
one_outcome_at q h height body u bytes = went (parsed h height body bytes) where
  small : height < 2 ^ 32
  small = omega arith

  never : (f : Fault) → Parts h height body → BodyFault h height body f → ⊥
  never f p b = whole_or_broken_at h height body f u p b

  only_whole : (raster : Raster) → DenotesAt h height body raster → (other : Option Fault) (text : List ℕ) → IsOutcome h height body other text → (other ≡ None) × (text ≡ pbm_text raster)
  only_whole raster d None text o = (refl, o.2 ∙ ap pbm_text (one_raster_at q u.accepted small d o.1))
  only_whole raster d (Some f) text o = absurd (never f d.parts o.1.broken)

  only_broken : (f : Fault) (rows : List (List Bool)) → Fixes h height body f rows → (other : Option Fault) (text : List ℕ) → IsOutcome h height body other text →
      (other ≡ Some f) × (text ≡ pbm_rows h.xd height rows)
  only_broken f rows x None text o = absurd (never f o.1.parts x.broken)
  only_broken f rows x (Some g) text o =
      let same = one_fixed_at q u o.1 x in
      (ap Some same.0, o.2 ∙ ap (pbm_rows h.xd height) same.1)

  went : (Parts h height body) ⊎ ((f : Fault) × BodyFault h height body f) → HasOutcome h height body
  went (inl p) =
      let r = some_raster_at q u.accepted u.from u.to p in
      record { fault = None; text = pbm_text r.0; is = (r.0, r.1, refl); only = λ other text o. only_whole r.0 r.1 other text o }
  went (inr b) =
      let r = some_fixed_at q u.accepted b.1 in
      record { fault = Some b.0; text = pbm_rows h.xd height r.0; is = (r.0, r.1, refl); only = λ other text o. only_broken b.0 r.0 r.1 other text o }
