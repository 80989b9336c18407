-- No body and no stream denotes two rasters.
use Rattle.std.proofs.Common.{◌≡◌, ℕ, ◌*◌, ◌<◌, ◌≤◌, ◌^◌, Bool, List, length, drop, sym, ◌∙◌, subst, arith}
use Rattle.std.specs.List.{AllByRecursion}
use Rattle.std.proofs.lemmas.Grind.{div_ceil_times}
use Rattle.raster_core.specs.Raster.{Raster, white_row}
use Rattle.t85_core.specs.Coding.{flagged}
use Rattle.t85_core.specs.Header.{Fields, IsAccepted}
use Rattle.t85_core.specs.Grammar.{Stripe, stripe_count}
use Rattle.t85_core.specs.Denotes.{Denotes, DenotesAt}
use Rattle.t85_core.specs.Height.{IsHeight}
use Rattle.t85_core.specs.Private.CoderLaws.{CoderLaws}
use Rattle.t85_core.proofs.BodiesParse.BodyHasOneHeight.{one_height_of, height_within}
use Rattle.t85_core.proofs.BytesJoin.ListsKeepElements.{same_list}
use Rattle.t85_core.proofs.StreamsDenote.CodesDecideStripes.{Lying, agree}
use Rattle.t85_core.proofs.BodiesParse.BodyHasOneReading.{one_parts}
use Rattle.t85_core.proofs.BodiesParse.StreamHasOneReading.{header_is}

pub enough_stripes : (n l : ℕ) → 0 < l → n ≤ stripe_count n l * l
enough_stripes n l some = (div_ceil_times n l some).0

-- stripes, codes and rows as `DenotesAt` has them
record Coded (h : Fields) (n : ℕ) (stripes : List Stripe) (rows : List (List Bool)) : Type 0 where
  pub many : length rows ≡ n
  pub flags : List Bool
  pub lying : Lying h stripes (flagged rows flags)

one_list_of_rows : {h : Fields} {n : ℕ} {stripes : List Stripe} {rows rows' : List (List Bool)} → CoderLaws → 0 < h.l0 → length stripes ≡ stripe_count n h.l0 →
    Coded h n stripes rows → Coded h n stripes rows' → rows ≡ rows'
one_list_of_rows {h} {n} {rows} {rows'} q some count a b =
    let alike = agree q some a.lying b.lying n (omega arith) (omega arith) (rw count (enough_stripes n h.l0 some)) in
    same_list (white_row h.xd) rows rows' (a.many ∙ sym b.many) (λ i lt. alike.rows_are i (omega arith))

pub lying_in : {h : Fields} {n : ℕ} {body : List ℕ} {raster : Raster} (p : DenotesAt h n body raster) → Lying h p.parts.stripes (flagged raster.rows p.flags)
lying_in {raster} p = record { wide = subst (λ w. AllByRecursion (λ row. length row ≡ w) raster.rows) p.width p.proper.rows; legal = p.legal; lies = p.lies }

coded : {h : Fields} {n : ℕ} {body : List ℕ} {raster : Raster} (p : DenotesAt h n body raster) → Coded h n p.parts.stripes raster.rows
coded p = record { many = p.height; flags = p.flags; lying = lying_in p }

pub one_raster_at : {h : Fields} {n : ℕ} {body : List ℕ} {one other : Raster} → CoderLaws → IsAccepted h → n < 2 ^ 32 → DenotesAt h n body one → DenotesAt h n body other → other ≡ one
one_raster_at {h} {n} {one} {other} k ok small p q =
    let stripes = one_parts ok q.parts.stripes p.parts.stripes q.parts.rest p.parts.rest q.parts.each p.parts.each (q.parts.count ∙ sym p.parts.count) (sym q.parts.body_is ∙ p.parts.body_is) in
    let rows = one_list_of_rows k ok.stripe_from p.parts.count (subst (λ s. Coded h n s other.rows) stripes (coded q)) (coded p) in
    let width = q.width ∙ sym p.width in
    λ i. record { width = width i; rows = rows i }

-- what the body of a stream with this header says
record Says (bytes : List ℕ) (h : Fields) (raster : Raster) : Type 0 where
  pub height : ℕ
  pub height_is : IsHeight h (drop 20 bytes) height
  pub at : DenotesAt h height (drop 20 bytes) raster

pub one_raster_of : {bytes : List ℕ} {one other : Raster} → CoderLaws → Denotes bytes one → Denotes bytes other → other ≡ one
one_raster_of {bytes} {other} q p r =
    let same : p.header ≡ r.header = header_is p.header_of r.header_of in
    let says : Says bytes r.header other = record { height = r.height; height_is = r.height_is; at = r.denotes } in
    let s : Says bytes p.header other = subst (λ u. Says bytes u other) (sym same) says in
    let n : s.height ≡ p.height = one_height_of (drop 20 bytes) s.height p.height p.header_of.accepted s.height_is p.height_is in
    let within = height_within (drop 20 bytes) p.height p.header_of.accepted p.height_is in
    one_raster_at q p.header_of.accepted (omega arith) p.denotes
    (subst (λ z. DenotesAt p.header z (drop 20 bytes) other) n s.at)
