-- A broken body fixes one fault and one list of rows.
use Rattle.std.proofs.Common.{◌≡◌, ℕ, suc, ◌+◌, ◌*◌, ◌<◌, ◌≤◌, Bool, false, List, length, sym, subst, arith}
use Rattle.std.proofs.lemmas.Grind.{div_ceil_times}
use Rattle.std.proofs.Math.Nat.{mul-le-mul_right}
use Rattle.t85_core.specs.Header.{Fields, IsAccepted}
use Rattle.t85_core.specs.Grammar.{Segment, Stripe, AreStripes, IsBegun, stripe_count}
use Rattle.t85_core.specs.Refusal.{BodyFault}
use Rattle.t85_core.specs.Coding.{FlaggedRows}
use Rattle.t85_core.proofs.StreamsDenote.CodesDecideStripes.{Lying}
use Rattle.t85_core.specs.Fixed.{FixesRows, begun_stripes, Fixes}
use Rattle.t85_core.specs.declared.fault.Fault.{Fault}
use Rattle.t85_core.specs.Private.CoderLaws.{CoderLaws}
use Rattle.t85_core.specs.Laws.{IsInUse}
use Rattle.t85_core.proofs.BytesJoin.ListsGrow.{All-push}
use Rattle.t85_core.proofs.BytesJoin.ListsKeepElements.{length-push}
use Rattle.t85_core.proofs.StreamsDenote.BodyDenotesRaster.{bytes_of_codes}
use Rattle.t85_core.proofs.StreamsDenote.LongestListIsDecided.{TheLongest, some_longest, one_longest}
use Rattle.t85_core.proofs.BodiesParse.BodyHasOneHeight.{one_fault_of}

pub begun_length : (stripes : List Stripe) (segments : List Segment) (code : List ℕ) → length (begun_stripes stripes segments code) ≡ length stripes + 1
begun_length stripes segments code = let e = length-push stripes (record { segments = segments; code = code; reset = false }) in omega arith

begun_are : (h : Fields) (stripes : List Stripe) (segments : List Segment) (code : List ℕ) → AreStripes h stripes → IsBegun h segments code → AreStripes h (begun_stripes stripes segments code)
begun_are h stripes segments code each begun = All-push (λ s. IsBegun h s.segments s.code) stripes (record { segments = segments; code = code; reset = false }) each begun

pub begins_within : (height l n : ℕ) → 0 < l → n < stripe_count height l → n * l < height
begins_within height l n some few =
    let up : suc n * l ≤ stripe_count height l * l = mul-le-mul_right l few in
    let t = div_ceil_times height l some in
    omega arith

-- first rows of stripes up to stripe n, where the codes lie
pub record AreLying (h : Fields) (stripes : List Stripe) (n : ℕ) (x : FlaggedRows) : Type 0 where
  pub lying : Lying h stripes x
  pub from : n * h.l0 ≤ length x.rows
  pub to : length x.rows ≤ (n + 1) * h.l0

pub some_fixed_at : {h : Fields} {height : ℕ} {body : List ℕ} {fault : Fault} → CoderLaws → IsAccepted h → BodyFault h height body fault → (rows : List (List Bool)) × Fixes h height body fault rows
some_fixed_at {h} {height} q ok b =
    let w = b.tail_has in
    let n = begins_within height h.l0 (length b.stripes) ok.stripe_from b.fewer in
    let bytes = bytes_of_codes h (begun_stripes b.stripes w.segments w.code) (begun_are h b.stripes w.segments w.code b.each w.begun) in
    let t : TheLongest h height (begun_stripes b.stripes w.segments w.code) (length b.stripes) w.code = some_longest q ok (begun_length b.stripes w.segments w.code) bytes n in
    (t.coded.rows, record { broken = b; fixed = record { flags = t.coded.flags; decided = t.decided; longest = t.longest } })

-- the rows that the same stripes, segments and code fix
one_list : {h : Fields} {height : ℕ} {stripes : List Stripe} {segments : List Segment} {code : List ℕ} {rows rows' : List (List Bool)} → CoderLaws → IsAccepted h →
    FixesRows h height stripes segments code rows → FixesRows h height stripes segments code rows' → rows ≡ rows'
one_list {stripes} {segments} {code} q ok a b = one_longest q ok (begun_length stripes segments code) a.decided b.decided a.longest b.longest

pub one_fixed_at : {h : Fields} {height : ℕ} {body : List ℕ} {f g : Fault} {rows rows' : List (List Bool)} → CoderLaws → IsInUse h height → Fixes h height body f rows → Fixes h height body g rows' →
    (f ≡ g) × (rows ≡ rows')
one_fixed_at {h} {height} {body} {f} {g} {rows'} q u a b =
    let cut = one_fault_of h height body f g u a.broken b.broken in
    let same = subst (λ (z : List Stripe × List Segment × List ℕ). FixesRows h height z.0 z.1 z.2 rows') (λ i. (sym cut.stripes i, sym cut.broken.segments i, sym cut.broken.code i)) b.fixed in
    (cut.broken.fault, one_list q u.accepted a.fixed same)
