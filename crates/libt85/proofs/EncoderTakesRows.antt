-- The steps of an encoder that a C caller holds.
use Rattle.std.proofs.Common.{◌≡◌, ◌≤◌, ◌<◌, ◌+◌, ◌*◌, ◌%◌, ◌/◌, inl, inr, ℕ, zero, suc, ◌==◌, Bool, true, false, not, nat_lt, List, [], ◌∷◌, ◌++◌, length, take, Option, None, Some, refl, sym, ap, ◌∙◌, arith, length-append, take_all}
use Rattle.std.specs.Prelude.{IfSome, unwrap_or, ◌&&◌, slice_index_or}
use Rattle.std.specs.Int.{div_ceil}
use Rattle.std.proofs.lemmas.Bool.Decides.{nat_tests}
use Rattle.pbm_core.specs.Image.{pixels_of}
use Rattle.raster_core.specs.Packed.{Held, next_place, rows_at}
use Rattle.raster_core.specs.Raster.{IsRaster}
use Rattle.raster_core.specs.Window.{current_place, held as rows_held}
use Rattle.raster_core.specs.declared.window.Window.{Window}
use Rattle.t85_core.specs.Coding.{has_bit}
use Rattle.t85_core.specs.Encode.{raster_of}
use Rattle.t85_core.specs.Jbg.{jbg}
use Rattle.t85_core.specs.Laws.{CodeDenotes}
use Rattle.t85_core.specs.Lent.{TurnsWindow}
use Rattle.t85_core.specs.RowImage.{Image, may_name, with_name}
use Rattle.t85_core.specs.RowNumbers.{row_numbers}
use Rattle.t85_core.specs.States.ByRow.{EndsImage, IsPlan, MayGoOn, NamesOffset, RowView, Stands, TakesNextRow, encoder_at, view_of}
use Rattle.t85_core.specs.MostBytes.{most_row_bytes}
use Rattle.t85_core.specs.States.RowCalls.{takes_name}
use Rattle.t85_core.specs.States.RowLaws.{RowsGoElsewhere}
use Rattle.t85_core.specs.States.RowSteps.{given_row}
use Rattle.t85_core.specs.States.RowStream.{HaveCome}
use Rattle.t85_core.specs.States.Sent.{Origin, behind}
use Rattle.t85_core.specs.declared.encoding.by_row.RowEncoder.{RowEncoder}
use Rattle.t85_core.specs.declared.encoding.learning.Learning.{Learning}
use Rattle.libt85.specs.Decoded.{window_bytes}
use Rattle.libt85.specs.Encoder.{EndsStream, HasCome, TakesName, TakesOne, encoder_hold, numbers_of_encoder}
use Rattle.libt85.specs.EncoderSteps.{AwaitsCall, KeepsChoices}
use Rattle.libt85.specs.declared.encoder.T85Encoder.{T85Encoder}
use Rattle.libt85.proofs.WindowCoversMemory.{IsOver, rows_whole, window_rows}

-- ---- what stands says of the plan, and of the rows

module _ {image : Image} {rows : List (List Bool)} {v : RowView} {window : Held} {origin : Origin} {text : Option (List ℕ)} where
  pub plan_in : Stands image rows v window origin text → IsPlan image v.plan
  plan_in (inl w) = w.plan_is
  plan_in (inr r) = r.0.plan_is

  pub come_in : Stands image rows v window origin text → HaveCome image.width image.limit rows v.rows
  come_in (inl w) = w.come
  come_in (inr r) = r.0.come

  -- the same by other names
  pub stands_as : {v' : RowView} {window' : Held} {origin' : Origin} → v ≡ v' → window ≡ window' → origin ≡ origin' →
      Stands image rows v window origin text → Stands image rows v' window' origin' text
  stands_as same at from stands = rw (← same, ← at, ← from) stands

-- ---- a row

-- a struct awaits a call, and a window has the rows of the caller's memory
pub record IsLent (d : T85Encoder) (e : RowEncoder) (memory : List ℕ) (window : Window) : Type 0 where
  pub ready : AwaitsCall d e
  pub long : length memory ≡ window_bytes d.width
  pub place_is : current_place window ≡ d.place
  pub rows_are : rows_held window ≡ rows_at d.place d.width memory

-- what the engine has of an image
pub stands_lent : {d : T85Encoder} {e : RowEncoder} {memory : List ℕ} {window : Window} {image : Image} {rows : List (List Bool)} {sent : List ℕ} → IsLent d e memory window →
    HasCome image (encoder_hold d memory) rows sent → Stands image rows (view_of e d.learning) (rows_held window) (behind sent (Some [])) (Some [])
stands_lent {d} {memory = memory} {image = image} {rows} {sent} lent k =
    stands_as (sym (lent.ready.goes_on.resumes memory image rows sent k d.learning)) (rows_whole d.place memory k.width_is lent.long ∙ sym lent.rows_are) refl (k.stands (Some []))

-- the struct with these context states and counts
abbrev pub taught : T85Encoder → Learning → T85Encoder
taught d learning = record d { learning = learning }

-- a struct has the numbers of the engine's encoder after a call, and the memory is that of its window
pub record IsKept (d kept : T85Encoder) (e : RowEncoder) (learning : Learning) (memory : List ℕ) (window : Window) : Type 0 where
  pub same : KeepsChoices (taught d learning) kept
  pub numbers_are : numbers_of_encoder kept ≡ row_numbers e
  pub long : length memory ≡ window_bytes d.width
  pub over : IsOver window kept.place d.width memory

-- once rows have been received, the struct has them
come_so : {d kept : T85Encoder} {e : RowEncoder} {learning : Learning} {memory memory' bytes : List ℕ} {window : Window} {image : Image} {rows all : List (List Bool)} {sent : List ℕ} →
    RowsGoElsewhere → IsKept d kept e learning memory' window → HasCome image (encoder_hold d memory) rows sent → kept.place ≡ 2 * length all % 3 → MayGoOn e →
    Stands image all (view_of e learning) (rows_held window) (behind sent (Some [])) (Some bytes) → HasCome image (encoder_hold kept memory') all (sent ++ bytes)
come_so {kept = kept} {e} {memory' = memory'} {bytes} {image = image} {all = all} {sent} law is k placed may now =
    let goes = law image all _ _ (behind sent (Some [])) (Some bytes) now in
    let sends = goes.1 in
    let come = come_in now in
    record {
      version_is = is.same.version ∙ k.version_is;
      next_is = is.same.next ∙ k.next_is;
      width_is = is.same.width ∙ k.width_is;
      limit_is = is.same.height ∙ k.limit_is;
      rows_are = ap (λ n. n.rows) is.numbers_are ∙ come.many;
      settings_are = is.same.settings ∙ k.settings_are;
      proper = k.proper;
      not_low = k.not_low;
      some = k.some;
      place_is = placed;
      engine = e;
      ready = may;
      numbers_are = is.numbers_are;
      stands = λ text. stands_as (ap (view_of e) (sym is.same.learning)) (window_rows is.over ∙ sym (rows_whole kept.place memory' k.width_is is.long))
          (ap (λ b. behind b text) (sends.all ∙ ap (λ m. sent ++ m) (sym sends.appended))) (goes.2 text);
    }

-- a row further in the window
next_but_one : (place next : ℕ) → place < 3 → next ≡ (place + 2) % 3 → next_place (next_place place) ≡ next
next_but_one zero next small is = sym is
next_but_one (suc zero) next small is = sym is
next_but_one (suc (suc zero)) next small is = sym is
next_but_one (suc (suc (suc place))) next small is = absurd (omega (arith, small))

place_on : {place : ℕ} (rows : List (List Bool)) (row : List Bool) → place ≡ 2 * length rows % 3 → next_place (next_place place) ≡ 2 * length (rows ++ row ∷ []) % 3
place_on {place} rows row is =
    next_but_one place (2 * length (rows ++ row ∷ []) % 3) (omega (arith, is))
    (let long : length (rows ++ row ∷ []) ≡ length rows + 1 = length-append rows (row ∷ []) in ap (λ n. 2 * n % 3) long ∙ (omega (arith, is)))

-- a row was put
pub row_taken : {d kept : T85Encoder} {e e' : RowEncoder} {learning : Learning} {memory memory' room stream : List ℕ} {window window' : Window} (row : List ℕ) (n : ℕ) →
    RowsGoElsewhere → IsLent d e memory window → IsKept d kept e' learning memory' window' → length row ≡ div_ceil d.width 8 → room ≡ stream → most_row_bytes e ≤ length stream →
    (most_row_bytes e ≤ length room → MayGoOn e' × TurnsWindow window window' ×
    TakesNextRow (given_row e row) (encoder_at (view_of e d.learning) (rows_held window) (Some [])) (encoder_at (view_of e' learning) (rows_held window') (Some (take n room)))) →
    TakesOne (encoder_hold d memory) (encoder_hold kept memory') row (take n stream)
row_taken {d} {e = e} row n law lent is whole same enough puts = λ image rows sent k.
    let put = puts (rw same enough) in
    let pixels : pixels_of e.size.width row ≡ pixels_of image.width (take (div_ceil image.width 8) row) =
    rw (lent.ready.goes_on.width_is, ← k.width_is, take_all (div_ceil d.width 8) row (omega (arith, whole))) in
    come_so law is k (sym is.over.place_is ∙ put.1.1 ∙ ap (λ p. next_place (next_place p)) lent.place_is ∙ place_on rows _ k.place_is) put.0
    (rw (← pixels, ← same) (put.2 image rows (behind sent (Some [])) (stands_lent lent k)))

-- ---- a name

-- an offset that is offered is not above the greatest
offered_within : (closed stripe two_line : Bool) (most t : ℕ) → (closed && (stripe && may_name two_line most t)) ≡ true → t ≤ most
offered_within true true true most t is = grind (arith, nat_tests)
offered_within true true false most t is = grind (arith, nat_tests)
offered_within true false two_line most t is = absurd (let bot : ⊥ = cc in bot)
offered_within false stripe two_line most t is = absurd (let bot : ⊥ = cc in bot)

-- names in their range are, with one more
names_within : {most t : ℕ} (i : ℕ) (names : List (Option ℕ)) → t ≤ most → ((j : ℕ) → IfSome (slice_index_or names j None) (λ t. t ≤ most)) →
    (j : ℕ) → IfSome (slice_index_or (with_name t i names) j None) (λ t. t ≤ most)
names_within zero names to all zero = to
names_within zero names to all (suc j) = tt
names_within (suc i) [] to all zero = tt
names_within (suc i) [] to all (suc j) = names_within i [] to (λ k. all (suc k)) j
names_within (suc i) (name ∷ names) to all zero = all zero
names_within (suc i) (name ∷ names) to all (suc j) = names_within i names to (λ k. all (suc k)) j

-- the offset is named in each stream that a caller may have begun
pub name_taken : {d kept : T85Encoder} {e e' : RowEncoder} (t : ℕ) → AwaitsCall d e → takes_name e t ≡ true → MayGoOn e' → numbers_of_encoder kept ≡ row_numbers e' → KeepsChoices d kept →
    kept.place ≡ d.place →
    ((l : Learning) → NamesOffset t (view_of e l) (view_of e' l)) → (window : List ℕ) → TakesName (encoder_hold d window) (encoder_hold kept window) t
name_taken {d} {kept} {e} {e'} t ready may goes numbers same place names window = λ image rows sent k.
    let old : (text : Option (List ℕ)) → Stands image rows (view_of e d.learning) (rows_at d.place image.width (take (window_bytes image.width) window)) (behind sent text) text =
    λ text. stands_as (sym (ready.goes_on.resumes window image rows sent k d.learning)) refl refl (k.stands text) in
    let now = names d.learning image rows _ _ None (old None) in
    let most = (plan_in (old None)).most_is in
    let within = offered_within (not e.is_closed) (e.in_stripe == 0) e.shape.two_line e.most_offset t may in
    let come = come_in now.1 in (
      now.0,
      record {
        version_is = same.version ∙ k.version_is;
        next_is = same.next ∙ k.next_is;
        width_is = same.width ∙ k.width_is;
        limit_is = same.height ∙ k.limit_is;
        rows_are = ap (λ n. n.rows) numbers ∙ come.many;
        settings_are = same.settings ∙ k.settings_are;
        proper = record {
          options_to = k.proper.options_to;
          no_low_bit = k.proper.no_low_bit;
          no_layer_bit = k.proper.no_layer_bit;
          stripe_from = k.proper.stripe_from;
          stripe_to = k.proper.stripe_to;
          offset_to = k.proper.offset_to;
          announced_to = k.proper.announced_to;
          comment_to = k.proper.comment_to;
          named_to = names_within (length rows / image.settings.stripe_rows) image.settings.named (omega (arith, within, most)) k.proper.named_to;
        };
        not_low = k.not_low;
        some = k.some;
        place_is = place ∙ k.place_is;
        engine = e';
        ready = goes;
        numbers_are = numbers;
        stands = λ text. stands_as (ap (view_of e') (sym same.learning)) (ap (λ p. rows_at p image.width (take (window_bytes image.width) window)) (sym place)) refl
            (names d.learning image rows _ _ text (old text)).1;
      },
    )

-- what the options offer is what the engine's encoder does
pub offers_same : {d : T85Encoder} {e : RowEncoder} (t : ℕ) → AwaitsCall d e → may_name e.shape.two_line e.most_offset t ≡ may_name (has_bit d.options 6) d.most_offset t
offers_same {d} {e} t ready =
    ap (λ m. may_name m.two_line e.most_offset t) ready.goes_on.plan_is.shape_is.mode_is ∙ ap (λ n. may_name (has_bit d.options 6) n t) ready.goes_on.plan_is.most_is

-- ---- the end

announced_to : (o : Option ℕ) (n limit : ℕ) → n ≤ limit → nat_lt (unwrap_or o limit) limit ≡ false → n ≤ unwrap_or o n
announced_to None n limit few low = omega arith
announced_to (Some a) n limit few low = (let high : limit ≤ a = grind (arith, nat_tests) in omega (arith, high, few))

-- the stream was ended
pub stream_ended : {d : T85Encoder} {e : RowEncoder} {memory room stream : List ℕ} {window : Window} (n : ℕ) →
    CodeDenotes → IsLent d e memory window → 0 < e.rows → room ≡ stream → most_row_bytes e ≤ length stream →
    (most_row_bytes e ≤ length room → EndsImage (view_of e d.learning) (rows_held window) (Some []) (Some (take n room))) → EndsStream (encoder_hold d memory) (take n stream)
stream_ended {stream = stream} n denotes lent some same enough ends = λ image rows sent k.
    let stood = stands_lent lent k in
    let sends = ends (rw same enough) image rows (behind sent (Some [])) stood in
    let plan = plan_in stood in
    let come = come_in stood in
    let is : sent ++ take n stream ≡ jbg image.settings (raster_of image.width rows) = rw (← same, sends.appended) (sym sends.all) in
    let many = come.many in
    let few = come.few in
    let tall = plan.limit_to in
    let wide = plan.width_to in
    let proper : IsRaster (raster_of image.width rows) =
    record { width_from = plan.width_from; width_to = omega (arith, wide); height_from = omega (arith, some, many); height_to = omega (arith, few, tall); rows = come.wide } in
    record { is = is; denotes = rw is (denotes image.settings (raster_of image.width rows) k.proper proper (announced_to image.settings.announced (length rows) image.limit few k.not_low)) }
