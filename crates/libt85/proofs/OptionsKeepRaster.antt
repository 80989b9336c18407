-- Headers that differ, with which the same bytes denote the same raster.
use Rattle.std.proofs.Common.{◌≡◌, ℕ, Bool, List, [], ◌∷◌, drop, map, sym, ap, subst, inl, inr, ◌∙◌}
use Rattle.std.specs.Prelude.{IsTrue}
use Rattle.std.specs.List.{AllByRecursion}
use Rattle.raster_core.specs.Raster.{Raster}
use Rattle.t85_core.specs.Coding.{HasLegalFlags, has_bit, mode_of}
use Rattle.t85_core.specs.Denotes.{Denotes, DenotesAt, EachLies, coding_in}
use Rattle.t85_core.specs.Grammar.{Segment, NewLength, Move, Comment, AreStripes, IsBegun, IsLegal, Parts, Stripe}
use Rattle.t85_core.specs.Header.{Fields, HeaderOf}
use Rattle.t85_core.specs.Height.{GivesHeight, IsHeight}

-- ---- other options

-- these options instead
abbrev pub with_options : Fields → ℕ → Fields
with_options h o = record h { options = o }

-- They code rows in the same way, and also allow a late height or also do not.
pub record AreAlike (o o' : ℕ) : Type 0 where
  pub variable : has_bit o 5 ≡ has_bit o' 5
  pub two_line : has_bit o 6 ≡ has_bit o' 6
  pub typical : has_bit o 3 ≡ has_bit o' 3

pub alike_back : (o o' : ℕ) → AreAlike o o' → AreAlike o' o
alike_back o o' a = record { variable = sym a.variable; two_line = sym a.two_line; typical = sym a.typical }

legal_with : (h : Fields) (o : ℕ) → AreAlike h.options o → (s : Segment) → IsLegal h s → IsLegal (with_options h o) s
legal_with h o a (NewLength height) l = (subst IsTrue a.variable l.0, l.1, l.2)
legal_with h o a (Move row offset) l = l
legal_with h o a (Comment text) l = l

all_legal : (h : Fields) (o : ℕ) → AreAlike h.options o → (segments : List Segment) → AllByRecursion (IsLegal h) segments → AllByRecursion (IsLegal (with_options h o)) segments
all_legal h o a [] l = l
all_legal h o a (s ∷ segments) l = (legal_with h o a s l.0, all_legal h o a segments l.1)

begun_with : (h : Fields) (o : ℕ) → AreAlike h.options o → (segments : List Segment) (code : List ℕ) → IsBegun h segments code → IsBegun (with_options h o) segments code
begun_with h o a segments code b = record { legal = all_legal h o a segments b.legal; one_move = b.one_move; bytes = b.bytes }

each_with : (h : Fields) (o : ℕ) → AreAlike h.options o → (stripes : List Stripe) → AreStripes h stripes → AreStripes (with_options h o) stripes
each_with h o a [] e = e
each_with h o a (s ∷ stripes) e = (begun_with h o a s.segments s.code e.0, each_with h o a stripes e.1)

gives_with : (h : Fields) (o : ℕ) → AreAlike h.options o → (body : List ℕ) (height : ℕ) → GivesHeight h body height → GivesHeight (with_options h o) body height
gives_with h o a body height g = record {
  variable = subst IsTrue a.variable g.variable;
  stripes = g.stripes;
  segments = g.segments;
  rest = g.rest;
  body_is = g.body_is;
  each = each_with h o a g.stripes g.each;
  begun = begun_with h o a g.segments [] g.begun;
  first = g.first;
  within = g.within;
  behind = g.behind;
  valid = g.valid;
}

height_with : (h : Fields) (o : ℕ) → AreAlike h.options o → (body : List ℕ) (height : ℕ) → IsHeight h body height → IsHeight (with_options h o) body height
height_with h o a body height (inl g) = inl (gives_with h o a body height g)
height_with h o a body height (inr none) = inr (none.0, λ other g. none.1 other (gives_with (with_options h o) h.options (alike_back h.options o a) body other g))

parts_with : (h : Fields) (o : ℕ) → AreAlike h.options o → (height : ℕ) (body : List ℕ) → Parts h height body → Parts (with_options h o) height body
parts_with h o a height body p = record {
  stripes = p.stripes;
  rest = p.rest;
  body_is = p.body_is;
  count = p.count;
  each = each_with h o a p.stripes p.each;
  gives = p.gives;
}

denotes_with : (h : Fields) (o : ℕ) → AreAlike h.options o → (height : ℕ) (body : List ℕ) (raster : Raster) → DenotesAt h height body raster → DenotesAt (with_options h o) height body raster
unfolding parts_with
denotes_with h o a height body raster d =
    let mode : mode_of h.options ≡ mode_of o = ap (λ (b : Bool). record { two_line = b; typical = has_bit h.options 3 }) a.two_line
    ∙ ap (λ (b : Bool). record { two_line = has_bit o 6; typical = b }) a.typical in
    let coding : coding_in h d.parts.stripes d.flags raster.rows ≡ coding_in
    (with_options h o) d.parts.stripes d.flags raster.rows = ap (λ m. record (coding_in h d.parts.stripes d.flags raster.rows) { mode = m }) mode in
    record {
      parts = parts_with h o a height body d.parts;
      proper = d.proper;
      width = d.width;
      height = d.height;
      flags = d.flags;
      legal = subst HasLegalFlags coding d.legal;
      lies = subst (λ c. EachLies c (map (λ s. s.code) d.parts.stripes)) coding d.lies;
    }

-- The same bytes behind these headers denote the same raster.
pub options_denote : (old new : List ℕ) (o : ℕ) (h : Fields) (raster : Raster) → HeaderOf new (with_options h o) → AreAlike h.options o → drop 20 new ≡ drop 20 old →
    (d : Denotes old raster) → d.header ≡ h → Denotes new raster
options_denote old new o h raster of_new a same d is = record {
  header = with_options h o;
  header_of = of_new;
  height = d.height;
  height_is = subst (λ body. IsHeight (with_options h o) body d.height) (sym same) (height_with h o a (drop 20 old) d.height (subst (λ f. IsHeight f (drop 20 old) d.height) is d.height_is));
  denotes = subst (λ body. DenotesAt (with_options h o) d.height body raster) (sym same)
      (denotes_with h o a d.height (drop 20 old) raster (subst (λ f. DenotesAt f d.height (drop 20 old) raster) is d.denotes));
}
