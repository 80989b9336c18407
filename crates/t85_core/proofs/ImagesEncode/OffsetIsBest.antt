-- The offset that is found for a stripe is the best one.
use Rattle.std.proofs.Common.{◌≡◌, ◌⊎◌, inl, inr, ℕ, ◌+◌, ◌-◌, ◌*◌, ◌/◌, ◌%◌, ◌^◌, ◌<◌, ◌≤◌, Bool, true, false, not, ◌&&◌, ◌||◌, List, [], ◌∷◌, ◌++◌, length, refl, sym, ◌∙◌, ap, arith, length-append, Option, None, Some, IfSome, ◌==◌, option_map, option_to_list, Contains}
use Rattle.std.specs.Prelude.{flat_map, if◌then◌else◌, min, nat_le}
use Rattle.std.proofs.lemmas.Bool.Decides.{nat_tests}
use Rattle.std.proofs.Math.Nat.{mul-le-mul_right}
use Rattle.pbm_core.specs.Pbm.{bytes_of_row}
use Rattle.qm_core.specs.Code.{code_of, stuffed}
use Rattle.qm_core.specs.Encoder.{EncoderIsAt}
use Rattle.qm_core.specs.Laws.{EventsDouble, CodeIsShort}
use Rattle.qm_core.specs.Place.{Estimate, start}
use Rattle.raster_core.specs.Raster.{Raster, height}
use Rattle.raster_core.specs.Lines.{Mode}
use Rattle.raster_core.specs.Offset.{best_offset, candidates}
use Rattle.raster_core.specs.Packed.{Held, rows_at}
use Rattle.raster_core.specs.Tally.{CountsLines, is_two_line, most_of}
use Rattle.t85_core.specs.declared.encoding.by_row.RowEncoder.{RowEncoder}
use Rattle.t85_core.specs.declared.encoding.by_row.best_offset.Choice.{Choice}
use Rattle.t85_core.specs.declared.encoding.by_row.trial.Trial.{Trial}
use Rattle.t85_core.specs.declared.encoding.learning.Learning.{Learning}
use Rattle.t85_core.specs.BestOffset.{IsNoWorse, IsShortest, IsBestFor, counted_lag, plain_lines, stripe_length}
use Rattle.t85_core.specs.Coding.{mode_of}
use Rattle.t85_core.specs.Grammar.{marker_bytes, segment_bytes, stripe_bytes}
use Rattle.t85_core.specs.Jbg.{Settings, named_for, move_segments, coding_of}
use Rattle.t85_core.specs.RowImage.{Image, MayCome, naming, with_name}
use Rattle.t85_core.specs.States.ByRow.{IsLined, IsStart, Waits, view_of}
use Rattle.t85_core.specs.States.Looked.{CourseAt, offset_to}
use Rattle.t85_core.specs.States.RowStream.{StripesWhole}
use Rattle.t85_core.specs.States.Sent.{Origin}
use Rattle.t85_core.specs.States.State.{StripeStart, first_row_start, offset_at}
use Rattle.t85_core.specs.Private.Trial.{Chooses, IsCarriedTo, IsTried, named_move, trial_from, trial_length, tried_lag}
use Rattle.t85_core.specs.States.Trial.{are_stripe_rows}
use Rattle.t85_core.specs.States.Written.{after_rows, lines_down, next_move}
use Rattle.t85_core.specs.Private.Written.{next_stripe}
use Rattle.t85_core.proofs.ImagesEncode.EncoderCarriesState.{CourseGoes}
use Rattle.t85_core.proofs.ImagesEncode.OffsetIsNamed.{name_at, names_before, whole_rows}
use Rattle.t85_core.proofs.ImagesEncode.RastersMayCome.{come_first, stands_anew, stands_here, stripe_comes}
use Rattle.t85_core.proofs.StreamsDenote.StreamLengthIsBounded.{stripe_short}

-- ---- a trial

at_top : (t current : ℕ) → IfSome {T = ℕ × ℕ} (named_move t current) (λ m. m.0 ≡ 0)
at_top t current = went (t == current) where
  went : (b : Bool) → IfSome {T = ℕ × ℕ} (option_map (λ u. (0, u)) (if b then None else Some t)) (λ m. m.0 ≡ 0)
  went true = tt
  went false = refl

moved_there : {t : ℕ} (current : ℕ) → t ≡ offset_at (named_move t current) 0 current
moved_there {t} current = went (t == current) refl where
  went : (b : Bool) → (t == current) ≡ b → t ≡ offset_at (option_map (λ u. (0, u)) (if b then None else Some t)) 0 current
  went true is = grind (arith, nat_tests)
  went false is = refl

-- a window over a copy of another one's bytes
pub copied : {copy : Held} {place place' width width' : ℕ} {bytes bytes' : List ℕ} → bytes ≡ bytes' → place ≡ place' → width' ≡ width → copy ≡ rows_at place width bytes →
    copy ≡ rows_at place' width' bytes'
copied {place'} {width} {width'} {bytes} same at wide is = rw (is, at, ← wide, same)

-- before the first row
pub record IsUntried (e : RowEncoder) (learned : List Estimate) (t width : ℕ) (trial : Trial) : Type 0 where
  pub offset_is : trial.kept.offset ≡ t
  pub previous_is : trial.kept.previous_typical ≡ e.kept.previous_typical
  pub taught : trial.learned ≡ learned
  pub codes : EncoderIsAt trial.encoder start []
  pub none : trial.sink.bytes ≡ 0
  pub two_line : is_two_line trial.tally ≡ e.shape.two_line
  pub most : most_of trial.tally ≡ e.most_offset
  pub counts : CountsLines trial.tally width 0 []

pub trial_begins : {learned : List Estimate} {t width : ℕ} {window' : Held} {trial : Trial} (e : RowEncoder) (window : Held) (carry : StripeStart) → IsCarriedTo e learned window carry →
    IsUntried e learned t width trial → (IsLined window → window' ≡ window) → IsTried (trial_from e carry t) [] width trial window'
trial_begins {t} e window carry carried u stays = record {
  pushed = [];
  codes = u.codes;
  bytes = u.none;
  is_held = record {
    at_top = at_top t carry.offset;
    offset_is = u.offset_is ∙ moved_there carry.offset;
    previous_is = u.previous_is ∙ carried.previous_is;
    learned_is = u.taught ∙ carried.learned_is;
    third = carried.third;
    lines_are = rw (stays (_, carried.lines_are)) carried.lines_are;
  };
  two_line = u.two_line;
  most_is = u.most;
  counts = λ _. u.counts;
}

-- the bytes of its move and its end marker
pub others_are : (t current : ℕ) → (if t == current then 2 else 10) ≡ length (flat_map segment_bytes (move_segments (named_move t current))) + 2
others_are t current = went (t == current) where
  went : (b : Bool) → (if b then 2 else 10) ≡ length (flat_map segment_bytes (move_segments (option_map (λ u. (0, u)) (if b then None else Some t)))) + 2
  went true = refl
  went false = refl

pub summed : (x y : ℕ) → (x % 2 ^ 64 + y) % 2 ^ 64 ≡ (x + y) % 2 ^ 64
summed x y = omega arith

-- ---- the better one

module _ (cost : ℕ → ℕ) where
  than_both : (t u v : ℕ) → IsNoWorse cost t u → IsNoWorse cost u v → IsNoWorse cost t v
  than_both t u v (inl a) (inl b) = inl (omega arith)
  than_both t u v (inl a) (inr (b, _)) = inl (omega arith)
  than_both t u v (inr (a, _)) (inl b) = inl (omega arith)
  than_both t u v (inr (a, c)) (inr (b, d)) = inr (a ∙ b, omega (arith, c))

  two_shortest : {current : ℕ} {second : Choice} → Chooses cost current 0 second → IsShortest cost (current ∷ 0 ∷ []) second.offset
  two_shortest {current} {second} h = record { among = which h.one; no_worse = (h.than_first, (h.than_second, tt)) } where
    which : (second.offset ≡ current) ⊎ (second.offset ≡ 0) → Contains (current ∷ 0 ∷ []) second.offset
    which (inl e) = (0, omega arith, sym e)
    which (inr e) = (1, omega arith, sym e)

  three_shortest : {current lag : ℕ} {second best : Choice} → Chooses cost current 0 second → Chooses cost second.offset lag best → IsShortest cost (current ∷ 0 ∷ lag ∷ []) best.offset
  three_shortest {current} {lag} {second} {best} h k = record {
    among = which h.one k.one;
    no_worse = (than_both best.offset second.offset current k.than_first h.than_first, (than_both best.offset second.offset 0 k.than_first h.than_second, (k.than_second, tt)));
  } where
    which : (second.offset ≡ current) ⊎ (second.offset ≡ 0) → (best.offset ≡ second.offset) ⊎ (best.offset ≡ lag) → Contains (current ∷ 0 ∷ lag ∷ []) best.offset
    which (inl e) (inl f) = (0, omega arith, sym e ∙ sym f)
    which (inr e) (inl f) = (1, omega arith, sym e ∙ sym f)
    which g (inr f) = (2, omega arith, sym f)

  -- the same by another measure
  module _ (other : ℕ → ℕ) (same : (t : ℕ) → cost t ≡ other t) where
    as_good : (t u : ℕ) → IsNoWorse cost t u → IsNoWorse other t u
    as_good t u (inl lt) = inl (let a = same t in let b = same u in omega arith)
    as_good t u (inr (e, le)) = inr (sym (same t) ∙ e ∙ same u, le)

    pub two_best : (current : ℕ) (second : Choice) → Chooses cost current 0 second → IsShortest other (current ∷ 0 ∷ []) second.offset
    two_best current second h =
        let s = two_shortest h in
        record { among = s.among; no_worse = (as_good _ _ s.no_worse.0, (as_good _ _ s.no_worse.1.0, tt)) }

    pub three_best : (current lag : ℕ) (second best : Choice) → Chooses cost current 0 second → Chooses cost second.offset lag best →
        IsShortest other (current ∷ 0 ∷ lag ∷ []) best.offset
    three_best current lag second best h k =
        let s = three_shortest h k in
        record { among = s.among; no_worse = (as_good _ _ s.no_worse.0, (as_good _ _ s.no_worse.1.0, (as_good _ _ s.no_worse.1.1.0, tt))) }

-- ---- of each raster that may come

holds : {b d : Bool} (a c f : Bool) → (a && (b && (c && (d && f)))) ≡ true → (b ≡ true) × (d ≡ true)
holds {b = true} {d = true} true true f h = (refl, refl)
holds {b = true} {d = false} true true f h = absurd (let bot : ⊥ = cc in bot)
holds {b = true} true false f h = absurd (let bot : ⊥ = cc in bot)
holds {b = false} true c f h = absurd (let bot : ⊥ = cc in bot)
holds false c f h = absurd (let bot : ⊥ = cc in bot)

is_zero : {n : ℕ} → (n == 0) ≡ true → n ≡ 0
is_zero h = grind (arith, nat_tests)

is_some_row : (n : ℕ) → nat_le 1 n ≡ true → 1 ≤ n
is_some_row n h = grind (arith, nat_tests)

-- where the call applies no stripe runs, and there is a row
pub rows_held : (e : RowEncoder) (n : ℕ) → are_stripe_rows e n ≡ true → (e.in_stripe ≡ 0) × (1 ≤ n / bytes_of_row e.size.width)
rows_held e n is =
    let count = n / bytes_of_row e.size.width in
    let most = min e.stripe_rows (e.size.height - e.rows) in
    let h = holds (not e.is_closed) (n % bytes_of_row e.size.width == 0) ((count == most) || (e.may_end && nat_le count most)) is in
    (is_zero h.0, is_some_row count h.1)

module _ {image : Image} {rows : List (List Bool)} {window : Held} {origin : Origin} {text : Option (List ℕ)} {raster : Raster} (double : EventsDouble) (short : CodeIsShort)
    (part : List (List Bool)) (e : RowEncoder) (learning : Learning) (w : Waits image rows (view_of e learning) window origin text) (m : MayCome image (rows ++ part) raster)
    (enough : length part ≡ min image.settings.stripe_rows (height raster - length rows)) (some_part : 1 ≤ length part) where
  abbrev s : Settings
  s = image.settings

  abbrev l : ℕ
  l = image.settings.stripe_rows

  abbrev c : StripeStart
  c = w.at.carry

  abbrev names : ℕ → List (Option ℕ)
  names t = with_name t w.i image.settings.named

  abbrev named : ℕ → Settings
  named t = record image.settings { named = names t }

  many : length part ≡ min l (height raster - w.i * l)
  many = rw (enough, w.stripes.many)

  within : w.i * l < height raster
  within = omega (arith, many)

  on : IsStart image.settings image.width w.at (view_of e learning) window
  on = w.on_course (let high = m.height_to in omega (arith, within))

  pub carried : IsCarriedTo e learning.learned window c
  carried = on.is_held

  come : (t : ℕ) → MayCome (naming image (names t)) (rows ++ part) raster
  come t = record { proper = m.proper; width_is = m.width_is; height_to = m.height_to; height_is = m.height_is; first = m.first }

  whole : (t : ℕ) → StripesWhole (naming image (names t)) w.i rows w.at w.front
  whole t = stands_anew w.stripes (names t) (names_before t w.i image.settings.named)

  goes : (t : ℕ) → CourseGoes (named t) raster w.i w.at part
  goes t = stripe_comes w.plan_is.some (whole t) (come t) within many

  named_is : {t : ℕ} → named_for (named t) w.at.stripe ≡ Some t
  named_is {t} = rw w.stripes.stripe_is (name_at w.i image.settings.named)

  move_is : (t : ℕ) → next_move (named t) raster.width w.at ≡ named_move t c.offset
  move_is t = rw named_is

  -- the length of the stripe that is coded in this mode after this move
  length_with : Mode → Option (ℕ × ℕ) → ℕ
  length_with mode move = length (stuffed (code_of (after_rows mode move 0 (first_row_start c) part).state.place)) + (length (flat_map segment_bytes (move_segments move)) + 2)

  length_next : (t : ℕ) → length (stripe_bytes (next_stripe (named t) raster.width w.at part)) ≡ length_with (mode_of s.options) (next_move (named t) raster.width w.at)
  unfolding length_with
  length_next t =
      let stripe = next_stripe (named t) raster.width w.at part in
      omega (arith, length-append (flat_map segment_bytes stripe.segments) (stuffed stripe.code ++ marker_bytes stripe.reset), length-append (stuffed stripe.code) (marker_bytes stripe.reset))

  few_bytes : (t : ℕ) → stripe_length s raster w.i t < 2 ^ 64
  few_bytes t =
      let most = stripe_short double short (coding_of (named t) raster) m.proper w.i in
      let high = m.proper.height_to in
      let wide = m.proper.width_to in
      let up : min l (height raster - w.i * l) * (raster.width + 1) ≤ 2 ^ 32 * (raster.width + 1) = mul-le-mul_right (raster.width + 1) (omega arith) in
      omega arith

  length_is : (t : ℕ) → trial_length e c part t ≡ stripe_length s raster w.i t
  unfolding length_with
  length_is t =
      let few = few_bytes t in
      ap (λ mode. length_with mode (named_move t c.offset) % 2 ^ 64) w.plan_is.shape_is.mode_is
      ∙ ap (λ move. length_with (mode_of s.options) move % 2 ^ 64) (sym (move_is t))
      ∙ ap (λ n. n % 2 ^ 64) (sym (length_next t) ∙ ap (λ z. length (stripe_bytes z)) (goes t).stripe)
      ∙ omega arith

  lag_is : (t : ℕ) → tried_lag (trial_from e c t) part ≡ counted_lag s raster w.i
  lag_is t =
      ap (λ mode. best_offset (plain_lines mode (lines_down c.above c.second part)) (candidates mode.two_line e.most_offset)) w.plan_is.shape_is.mode_is
      ∙ ap (λ most. best_offset (plain_lines (mode_of s.options) (lines_down c.above c.second part)) (candidates (mode_of s.options).two_line most)) w.plan_is.most_is
      ∙ ap (λ lines. best_offset (plain_lines (mode_of s.options) lines) (candidates (mode_of s.options).two_line s.most_offset)) (goes t).lines

  course : CourseAt image.settings raster w.i w.at
  course = (stands_here w.stripes).course raster (come_first part m) within

  offset_is : e.kept.offset ≡ offset_to s raster w.i
  offset_is = on.is_held.offset_is ∙ course.offset

  index_is : length rows / l ≡ w.i
  index_is = (whole_rows l w.plan_is.some w.stripes.many).0

  pub found : {lag : Option ℕ} {t : ℕ} → lag ≡ tried_lag (trial_from e c e.kept.offset) part → IsShortest (stripe_length s raster w.i) (e.kept.offset ∷ 0 ∷ option_to_list lag) t →
      IsBestFor s raster (length rows / l) t
  found {t} is best =
      rw (index_is, ← offset_is, ← lag_is e.kept.offset, ← is) best

  pub found_two : {lag : Option ℕ} {second : Choice} → lag ≡ None → lag ≡ tried_lag (trial_from e c e.kept.offset) part → Chooses (trial_length e c part) e.kept.offset 0 second →
      IsBestFor s raster (length rows / l) second.offset
  found_two {second} none is h = found (sym none ∙ is) (two_best (trial_length e c part) (stripe_length s raster w.i) length_is e.kept.offset second h)

  pub found_three : {lag : Option ℕ} {u : ℕ} {second best : Choice} → lag ≡ Some u → lag ≡ tried_lag (trial_from e c e.kept.offset) part →
      Chooses (trial_length e c part) e.kept.offset 0 second →
      Chooses (trial_length e c part) second.offset u best → IsBestFor s raster (length rows / l) best.offset
  found_three {u} {second} {best} some is h k = found (sym some ∙ is) (three_best (trial_length e c part) (stripe_length s raster w.i) length_is e.kept.offset u second best h k)
