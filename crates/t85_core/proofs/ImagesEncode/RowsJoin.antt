-- Rows that were read after rows.
use Rattle.std.proofs.Common.{◌≡◌, ℕ, Bool, List, [], ◌∷◌, ◌++◌, Option, None, Some, refl, ap, ◌∙◌, append_assoc}
use Rattle.std.specs.Io.KnownBytes.{Consumes}
use Rattle.pbm_core.specs.declared.form.Form.{Form}
use Rattle.pbm_core.specs.Image.{AreRows}
use Rattle.t85_core.specs.Private.EncodeRows.{ReadsRows}
use Rattle.t85_core.proofs.BytesJoin.CallsJoin.{Consumes-more}

rows_append : (form : Form) (width : ℕ) (xs ys : List ℕ) (rows more : List (List Bool)) → AreRows form width xs rows → AreRows form width ys more →
    AreRows form width (xs ++ ys) (rows ++ more)
rows_append form width xs ys [] more p q = rw p q
rows_append form width xs ys (row ∷ rows) more p q = (p.0, p.1 ++ ys, ap (λ z. z ++ ys) p.2 ∙ append_assoc p.0 p.1 ys, p.3, rows_append form width p.1 ys rows more p.4 q)

-- nothing was read
pub reads_none : {form : Form} {width : ℕ} {known : Option (List ℕ)} → ReadsRows form width known known []
reads_none {known} = record { given = []; taken = nothing known; are_rows = refl } where
  nothing : (known : Option (List ℕ)) → Consumes known known []
  nothing None = tt
  nothing (Some a) = refl

pub none_read : {form : Form} {width : ℕ} {known known' : Option (List ℕ)} → known' ≡ known → ReadsRows form width known known' []
none_read is = rw is reads_none

pub reads_join : {form : Form} {width : ℕ} {a b c : Option (List ℕ)} {rows more : List (List Bool)} → ReadsRows form width a b rows → ReadsRows form width b c more →
    ReadsRows form width a c (rows ++ more)
reads_join {form} {width} {a} {b} {c} {rows} {more} p q = record {
  given = p.given ++ q.given;
  taken = Consumes-more a b c p.given q.given p.taken q.taken;
  are_rows = rows_append form width p.given q.given rows more p.are_rows q.are_rows;
}
