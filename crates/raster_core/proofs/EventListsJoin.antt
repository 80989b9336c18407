-- Lists of a row's events.
use Rattle.std.proofs.Common.{◌≡◌, ℕ, suc, ◌+◌, ◌-◌, ◌/◌, ◌^◌, ◌≤◌, Bool, false, [], ◌∷◌, ◌++◌, length, refl, sym, ◌∙◌, arith}
use Rattle.std.proofs.Math.Nat.{div-div-eq-div-mul}
use Rattle.std.proofs.lemmas.List.{length-map, map-append}
use Rattle.qm_core.specs.Place.{Event}
use Rattle.raster_core.specs.Raster.{pixel_at}
use Rattle.raster_core.specs.Lines.{Lines, numbers_from, context_at}
use Rattle.raster_core.specs.Machine.Bytes.{events_from, lane_events}
use Rattle.raster_core.specs.declared.row_byte.Template.{Template}
use Rattle.raster_core.proofs.RegistersTakeBytes.{length-numbers}
use Rattle.raster_core.proofs.CountsAdd.{numbers_cat}

-- the context of a pixel by a template
abbrev pub context_by : Template → Lines → ℕ → ℕ
context_by template lines x = context_at (record { two_line = template.two_line; typical = false }) lines template.offset x

-- a pixel in its context
abbrev pub event_by : Template → Lines → ℕ → Event
event_by template lines x = record { context = context_by template lines x; pixel = pixel_at lines.row x }

pub event_is : (a k : ℕ) (q b : Bool) → a ≡ k → q ≡ b → (let e : Event = record { context = a; pixel = q } in e) ≡ record { context = k; pixel = b }
event_is a k q b h i = cc

pub events_none : (template : Template) (lines : Lines) (x : ℕ) → events_from template lines x 0 ≡ []
unfolding events_from
events_none template lines x = refl

pub events_first : (template : Template) (lines : Lines) (x n : ℕ) → events_from template lines x (suc n) ≡ event_by template lines x ∷ events_from template lines (x + 1) n
unfolding events_from
events_first template lines x n = refl

pub events_append : (template : Template) (lines : Lines) (x m n : ℕ) → events_from template lines x (m + n) ≡ events_from template lines x m ++ events_from template lines (x + m) n
unfolding events_from
events_append template lines x m n = rw numbers_cat (map-append _ (numbers_from x m) (numbers_from (x + m) n))

pub length-events : (template : Template) (lines : Lines) (x n : ℕ) → length (events_from template lines x n) ≡ n
unfolding events_from
length-events template lines x n = length-map (numbers_from x n) _ ∙ length-numbers x n

pub events_last : (template : Template) (lines : Lines) (x n cx : ℕ) (pixel : Bool) → cx ≡ context_by template lines (x + n) → pixel ≡ pixel_at lines.row (x + n) →
    events_from template lines x n ++ record { context = cx; pixel = pixel } ∷ [] ≡ events_from template lines x (n + 1)
events_last template lines x n cx pixel c p =
    rw (event_is cx _ pixel _ c p, ← events_none template lines ((x + n) + 1), ← events_first template lines (x + n) 0) (sym (events_append template lines x n 1))

-- n events and those that are left of `all`
pub events_rest : (template : Template) (lines : Lines) (x n all : ℕ) → n ≤ all → events_from template lines x n ++ events_from template lines (x + n) (all - n) ≡ events_from template lines x all
events_rest template lines x n all h =
    let e : n + (all - n) ≡ all = omega arith in
    rw (← events_append, e) refl

-- ---- lanes

pub two_and_two : (lanes : ℕ) → lane_events lanes 2 ++ lane_events (lanes / 2 ^ 32) 2 ≡ lane_events lanes 4
two_and_two lanes = rw (← div-div-eq-div-mul lanes 65536 65536) refl

-- the first events of a row, and those that follow
pub events_on : (t u : Template) (lines : Lines) (x m n k : ℕ) → u ≡ t → x ≡ m → m + n ≡ k → events_from t lines 0 m ++ events_from u lines x n ≡ events_from t lines 0 k
events_on t u lines x m n k template place size =
    let e : x ≡ 0 + m = omega arith in
    rw (template, e, ← events_append, size) refl
