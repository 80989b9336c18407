-- From what decoding took and put to the rows of a whole body.
use Rattle.std.proofs.Common.{◌≡◌, ◌≢◌, ◌<◌, ◌⊎◌, inl, inr, ℕ, suc, Bool, List, [], ◌∷◌, ◌++◌, length, drop, get_or, Option, None, Some, Result, Ok, Err, refl, sym, ap, ◌∙◌, subst, append_assoc, arith}
use Rattle.std.specs.Prelude.{OnOk, IfErr, flat_map}
use Rattle.std.specs.List.{AllByRecursion}
use Rattle.std.proofs.Math.Seq.{drop-append_seam}
use Rattle.devices.specs.Device.{AppendsBeginning}
use Rattle.pbm_core.specs.Pbm.{header_text}
use Rattle.qm_core.specs.Code.{IsBytes}
use Rattle.raster_core.specs.Raster.{Raster}
use Rattle.raster_core.specs.Packed.{packed_row}
use Rattle.t85_core.specs.declared.fault.Fault.{Fault}
use Rattle.t85_core.specs.declared.fault.Fault.TheVariants.{Truncated, Read, Write}
use Rattle.t85_core.specs.DecodeRows.{PutsRows}
use Rattle.t85_core.specs.Denotes.{DenotesAt}
use Rattle.t85_core.specs.Failures.{CountsRead, reads_after}
use Rattle.t85_core.specs.Fixed.{Fixes}
use Rattle.t85_core.specs.Header.{Fields}
use Rattle.t85_core.specs.Laws.{HasOutcome}
use Rattle.t85_core.specs.Outcome.{IsOutcome, pbm_rows}
use Rattle.t85_core.specs.RowSink.{TargetView, WritesOn}
use Rattle.t85_core.specs.States.DecodeStripes.{ImageRead, ImageCut}
use Rattle.t85_core.specs.Private.DecodeStripes.{ImageUnwritten}
use Rattle.t85_core.specs.States.Passage.{passage}
use Rattle.t85_core.proofs.BytesJoin.BytesAreKnown.{counted-other}
use Rattle.t85_core.proofs.BytesJoin.CallsJoin.{beginning_longer, longer_or_all}
use Rattle.t85_core.proofs.BodiesDecode.BodyIsDecoded.{fixes_more}
use Rattle.t85_core.proofs.BodiesDecode.BytesDecideFirstRows.{pbm_of}

pub bytes_each : (bytes : List ℕ) → ((i : ℕ) → get_or bytes i 0 < 256) → IsBytes bytes
bytes_each [] below = tt
bytes_each (b ∷ bytes) below = (below 0, bytes_each bytes (λ i. below (suc i)))

-- the rows of an outcome
record RowsIn (h : Fields) (height : ℕ) (text : List ℕ) : Type 0 where
  rows : List (List Bool)
  text_is : text ≡ pbm_rows h.xd height rows
  wide : AllByRecursion (λ r. length r ≡ h.xd) rows

rows_in : (h : Fields) (height : ℕ) (body : List ℕ) (fault : Option Fault) (text : List ℕ) → IsOutcome h height body fault text → RowsIn h height text
rows_in h height body None text o =
    let raster = o.0 in
    let d = o.1 in
    record {
      rows = raster.rows;
      text_is = o.2 ∙ pbm_of h height raster body d;
      wide = subst (λ w. AllByRecursion (λ r. length r ≡ w) raster.rows) d.width d.proper.rows;
    }
rows_in h height body (Some f) text o = record { rows = o.0; text_is = o.2; wide = o.1.fixed.decided.wide }

-- behind the same head
behind : (head one other : List ℕ) → head ++ one ≡ head ++ other → one ≡ other
behind head one other same = sym (drop-append_seam head one) ∙ ap (drop (length head)) same ∙ drop-append_seam head other

is_write : (f : Fault) → (f ≡ Write) ⊎ (f ≢ Write)
is_write Write = inl refl
is_write f = inr (λ e. let bot : ⊥ = cc in bot)

unread : (f : Fault) → CountsRead {T = Unit {0}} 0 0 (Err f) → f ≢ Read
unread f counts same = (let counted : 0 ≡ reads_after Read 0 = subst (λ z. 0 ≡ reads_after z 0) same counts in omega (arith, counted))

module _ {h : Fields} {height : ℕ} {body : List ℕ} (rest : List ℕ) {old new : TargetView} where
  all_put : {u : Unit {0}} → ImageRead h height (passage (Some body) (Some rest) old.text new.text) → WritesOn {T = Unit {0}} old new (Ok u) → PutsRows h height body old new (Ok u)
  all_put i writes = record {
    fault = None;
    rows = i.rows;
    is = (raster, denotes, sym (pbm_of h height raster body denotes));
    wide = denotes.proper.rows;
    whole = (refl, i.appended);
    broken = tt;
    cut = λ e. absurd (let bot : ⊥ = cc in bot);
    writes = writes;
  } where
    raster : Raster
    raster = record { width = h.xd; rows = i.rows }

    denotes : DenotesAt h height body raster
    denotes = subst (λ z. DenotesAt h height z raster) (sym i.taken) (i.denotes rest)

  fixed_put : {f : Fault} → f ≢ Write → CountsRead {T = Unit {0}} 0 0 (Err f) → ImageCut h height (passage (Some body) (Some rest) old.text new.text) f → WritesOn {T = Unit {0}} old new (Err f) →
      PutsRows h height body old new (Err f)
  fixed_put {f = f} other counts i writes = record {
    fault = Some f;
    rows = i.rows;
    is = (i.rows, fixes, refl);
    wide = fixes.fixed.decided.wide;
    whole = tt;
    broken = λ _. (refl, i.appended);
    cut = λ e. absurd (other (let is : f ≡ Write = cc in is));
    writes = writes;
  } where
    has : Fixes h height i.ends.given f i.rows
    has = subst (λ g. Fixes h height i.ends.given g i.rows) (counted-other Truncated f (unread f counts)) i.ends.has_fault

    fixes : Fixes h height body f i.rows
    fixes = subst (λ z. Fixes h height z f i.rows) (sym i.ends.taken) (longer_or_all (λ z. Fixes h height z f i.rows) i.ends.given rest has i.ends.at_end
        (fixes_more h height i.ends.given rest f i.rows has))

  some_put : {f : Fault} → f ≡ Write → HasOutcome h height body → ImageUnwritten h height (passage (Some body) (Some rest) old.text new.text) → WritesOn {T = Unit {0}} old new (Err f) →
      PutsRows h height body old new (Err f)
  some_put {f = f} is o i writes = record {
    fault = o.fault;
    rows = all.rows;
    is = subst (IsOutcome h height body o.fault) all.text_is o.is;
    wide = all.wide;
    whole = tt;
    broken = λ other. absurd (other is);
    cut = λ _. subst (AppendsBeginning old.text new.text) (sym longer) (beginning_longer first.0 i.appended);
    writes = writes;
  } where
    all : RowsIn h height o.text
    all = rows_in h height body o.fault o.text o.is

    first : (more : List ℕ) × (o.text ≡ pbm_rows h.xd height i.rows ++ more)
    first = i.first (i.ahead ++ rest) o.fault o.text (subst (λ z. IsOutcome h height z o.fault o.text) (i.taken ∙ append_assoc i.given i.ahead rest) o.is)

    longer : flat_map packed_row all.rows ≡ flat_map packed_row i.rows ++ first.0
    longer = behind (header_text h.xd height) _ _ (sym all.text_is ∙ first.1 ∙ append_assoc (header_text h.xd height) (flat_map packed_row i.rows) first.0)

  pub rows_decoded : {answer : Result (Unit {0}) Fault} → HasOutcome h height body → CountsRead 0 0 answer → OnOk answer (ImageRead h height (passage (Some body) (Some rest) old.text new.text)) →
      IfErr answer (λ f. f ≢ Write → ImageCut h height (passage (Some body) (Some rest) old.text new.text) f) →
      IfErr answer (λ _. ImageUnwritten h height (passage (Some body) (Some rest) old.text new.text)) →
      WritesOn old new answer → PutsRows h height body old new answer
  rows_decoded {answer = Ok u} o counts ok err unwritten writes = all_put ok writes
  rows_decoded {answer = Err f} o counts ok err unwritten writes = elim (is_write f) [ inl is ↦ some_put is o unwritten writes | inr other ↦ fixed_put other counts (err other) writes ]
