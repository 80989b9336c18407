-- Each body that has its parts denotes a raster.
use Rattle.std.proofs.Common.{ℕ, ◌≤◌, List, [], ◌∷◌, map, refl, arith}
use Rattle.std.specs.List.{AllByRecursion}
use Rattle.raster_core.specs.Raster.{Raster}
use Rattle.t85_core.specs.Header.{Fields, IsAccepted}
use Rattle.t85_core.specs.Grammar.{Stripe, AreStripes, Parts}
use Rattle.t85_core.specs.Denotes.{DenotesAt}
use Rattle.qm_core.specs.Code.{IsBytes}
use Rattle.t85_core.specs.Private.CoderLaws.{CoderLaws}
use Rattle.t85_core.proofs.StreamsDenote.RasterIsUnique.{enough_stripes}
use Rattle.t85_core.proofs.StreamsDenote.RowsAreBuilt.{some_rows}

pub bytes_of_codes : (h : Fields) (stripes : List Stripe) → AreStripes h stripes → AllByRecursion IsBytes (map (λ s. s.code) stripes)
bytes_of_codes h [] each = tt
bytes_of_codes h (s ∷ stripes) each = (each.0.bytes, bytes_of_codes h stripes each.1)

pub some_raster_at : {h : Fields} {n : ℕ} {body : List ℕ} → CoderLaws → IsAccepted h → 1 ≤ n → n ≤ h.yd → Parts h n body → (raster : Raster) × DenotesAt h n body raster
some_raster_at {h} {n} q ok some most p =
    let r = some_rows {h = h} ok.stripe_from (bytes_of_codes h p.stripes p.each) q n (rw p.count (enough_stripes n h.l0 ok.stripe_from)) in (
      record { width = h.xd; rows = r.coded.rows },
      record {
        parts = p;
        proper = record {
          width_from = ok.width_from;
          width_to = ok.width_to;
          height_from = omega arith;
          height_to = omega arith;
          rows = r.built.lying.wide;
        };
        width = refl;
        height = r.many;
        flags = r.coded.flags;
        legal = r.built.lying.legal;
        lies = r.built.lying.lies;
      },
    )
