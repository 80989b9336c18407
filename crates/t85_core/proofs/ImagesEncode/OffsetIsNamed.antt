-- An offset is named for the stripe that begins.
use Rattle.std.proofs.Common.{◌≡◌, ℕ, zero, suc, ◌+◌, ◌*◌, ◌/◌, ◌%◌, ◌≤◌, Bool, true, false, ◌&&◌, ◌==◌, List, [], ◌∷◌, length, refl, sym, ◌∙◌, ap, arith, inl, Option, None, Some}
use Rattle.std.specs.Prelude.{slice_index_or}
use Rattle.std.proofs.lemmas.List.{get_or_past}
use Rattle.std.proofs.lemmas.Bool.Decides.{nat_tests}
use Rattle.raster_core.specs.Packed.{Held}
use Rattle.t85_core.specs.RowImage.{Image, naming, with_name, named_after, SameNames}
use Rattle.t85_core.specs.States.Sent.{Origin}
use Rattle.t85_core.specs.States.ByRow.{RowView, RowPlan, IsPlan, Stands}
use Rattle.t85_core.proofs.ImagesEncode.RastersMayCome.{stands_anew}
use Rattle.t85_core.proofs.StreamsDenote.StateIsCarried.{stripe_at}
use Rattle.t85_core.proofs.ImagesEncode.RowEncoderAdvances.{stands_waiting}

-- ---- names

pub name_at : {t : ℕ} (i : ℕ) (names : List (Option ℕ)) → slice_index_or (with_name t i names) i None ≡ Some t
name_at zero names = refl
name_at (suc i) [] = name_at i []
name_at (suc i) (name ∷ names) = name_at i names

pub names_before : (t i : ℕ) (names : List (Option ℕ)) → SameNames i names (with_name t i names)
names_before t zero names j lt = absurd (omega arith)
names_before t (suc i) [] zero lt = refl
names_before t (suc i) [] (suc j) lt = get_or_past [] (suc j) None (omega arith) ∙ sym (get_or_past [] j None (omega arith)) ∙ names_before t i [] j (omega arith)
names_before t (suc i) (name ∷ names) zero lt = refl
names_before t (suc i) (name ∷ names) (suc j) lt = names_before t i names j (omega arith)

length-with_name : (t i : ℕ) (names : List (Option ℕ)) → length (with_name t i names) ≡ suc i
length-with_name t zero names = refl
length-with_name t (suc i) [] = rw (length-with_name t i [])
length-with_name t (suc i) (name ∷ names) = rw (length-with_name t i names)

-- ---- what does not hang on them

plan_named : {image : Image} {p : RowPlan} (names : List (Option ℕ)) → IsPlan image p → IsPlan (naming image names) p
plan_named names is = record {
  width_is = is.width_is;
  limit_is = is.limit_is;
  shape_is = record { width_is = is.shape_is.width_is; mode_is = is.shape_is.mode_is };
  stripe_rows_is = is.stripe_rows_is;
  some = is.some;
  announced_is = is.announced_is;
  may_end_is = is.may_end_is;
  candidates_are = is.candidates_are;
  reset_is = is.reset_is;
  most_is = is.most_is;
  width_from = is.width_from;
  width_to = is.width_to;
  limit_to = is.limit_to;
}

-- where whole stripes came
pub whole_rows : {n i : ℕ} (l : ℕ) → 1 ≤ l → n ≡ i * l → (n / l ≡ i) × (n % l ≡ 0)
whole_rows {n} {i} l some is =
    let sum : n ≡ i * l + 0 = omega arith in
    (ap (λ z. z / l) sum ∙ stripe_at l i 0 (omega arith), ap (λ z. z % l) is ∙ Rattle.std.proofs.Math.Nat.mul-mod_left i l)

-- the stripes before stay
pub offset_named : (t : ℕ) (image : Image) (rows : List (List Bool)) (v : RowView) (window : Held) (origin : Origin) (text : Option (List ℕ)) → v.in_stripe ≡ 0 →
    Stands image rows v window origin text
    → (length rows % image.settings.stripe_rows ≡ 0) × Stands (named_after t (length rows) image) rows (record v { named = Some t }) window origin text
offset_named t image rows v window origin text none so =
    let w = stands_waiting image rows v window origin text none so in
    let names : List (Option ℕ) = with_name t w.i image.settings.named in
    let at = whole_rows image.settings.stripe_rows w.plan_is.some w.stripes.many in (
      at.1,
      rw at.0 (inl (record {
        plan_is = plan_named names w.plan_is;
        come = w.come;
        i = w.i;
        at = w.at;
        front = w.front;
        stripes = stands_anew w.stripes names (names_before t w.i image.settings.named);
        in_stripe = w.in_stripe;
        codes = w.codes;
        names_to = (let many = length-with_name t w.i image.settings.named in omega arith);
        on_course = λ within.
            let on = w.on_course within in
            record {
              is_held = on.is_held;
              is_tallied = record { two_line = on.is_tallied.two_line; most = on.is_tallied.most; counts = on.is_tallied.counts };
              named_is = sym (ap (λ j. slice_index_or names j None) w.stripes.stripe_is ∙ name_at w.i image.settings.named);
            };
        sent = w.sent;
      })),
    )

-- an offset is chosen only if no stripe is in progress
pub name_waits : {n : ℕ} (closed offered : Bool) → (closed && ((n == 0) && offered)) ≡ true → n ≡ 0
name_waits {n} true true e = by (n == 0) refl e where
  by : (b : Bool) → (n == 0) ≡ b → (b && true) ≡ true → n ≡ 0
  by true is e = grind (arith, nat_tests)
  by false is e = absurd (let bot : ⊥ = cc in bot)
name_waits {n} true false e = by (n == 0) e where
  by : (b : Bool) → (b && false) ≡ true → n ≡ 0
  by true e = absurd (let bot : ⊥ = cc in bot)
  by false e = absurd (let bot : ⊥ = cc in bot)
name_waits false offered e = absurd (let bot : ⊥ = cc in bot)
