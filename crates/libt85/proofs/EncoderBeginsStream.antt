-- The beginning of a stream that a C caller's encoder writes.
use Rattle.std.proofs.Common.{◌≡◌, ◌≤◌, ◌*◌, inl, inr, ℕ, zero, suc, false, List, [], length, take, Option, Some, refl, sym, ap, ◌∙◌, arith, append-nil, length-append}
use Rattle.std.specs.Prelude.{replicate}
use Rattle.std.specs.List.{AllByRecursion}
use Rattle.std.proofs.Math.Nat.{suc-mul}
use Rattle.std.proofs.lemmas.List.{length-replicate}
use Rattle.pbm_core.specs.declared.size.Size.{Size}
use Rattle.raster_core.specs.Packed.{Held, rows_at}
use Rattle.raster_core.specs.Raster.{Raster, IsRaster, white_row}
use Rattle.raster_core.specs.Window.{held as rows_held}
use Rattle.raster_core.specs.declared.window.Window.{Window}
use Rattle.t85_core.specs.Encode.{raster_of}
use Rattle.t85_core.specs.Jbg.{head_of, is_low, jbg_up_to}
use Rattle.t85_core.specs.Options.{settings_of}
use Rattle.t85_core.specs.RowImage.{Image, MayCome, image_of}
use Rattle.t85_core.specs.States.ByRow.{RowView, Stands, view_of}
use Rattle.t85_core.specs.States.RowLaws.{RowsGoElsewhere}
use Rattle.t85_core.specs.States.Sent.{Origin, Sends, behind, here}
use Rattle.t85_core.specs.declared.options.Options.{Options}
use Rattle.libt85.specs.Decoded.{window_bytes}
use Rattle.libt85.specs.Encoder.{BeginsStream, encoder_hold}
use Rattle.libt85.specs.EncoderSteps.{HasBegun}
use Rattle.libt85.specs.declared.encoder.T85Encoder.{T85Encoder}
use Rattle.libt85.proofs.RoomSuffices.{all_within, nothing_in, spilled_long, text_of}
use Rattle.libt85.proofs.StreamIsStored.{are_settings}
use Rattle.libt85.proofs.ConsumerTakesRows.{not_spilled}
use Rattle.libt85.proofs.WindowCoversMemory.{IsOver, rows_whole, window_rows}
use Rattle.libt85.specs.Delivered.{IsEmptyRoom}
use Rattle.libt85.specs.declared.memory.Room.{Room}
use Rattle.libt85.proofs.EncoderTakesRows.{come_in, stands_as}

-- ---- the beginning

none_whole : (i n : ℕ) → 1 ≤ n → i * n ≡ 0 → i ≡ 0
none_whole zero n one e = refl
none_whole (suc i) n one e = absurd (omega (arith, suc-mul i n, one, e))

all_white : (limit width : ℕ) → AllByRecursion (λ row. length row ≡ width) (replicate limit (white_row width))
all_white zero width = tt
all_white (suc n) width = (length-replicate width false, all_white n width)

-- a white image of the greatest height
abbrev white_raster : Image → Raster
white_raster image = raster_of image.width (replicate image.limit (white_row image.width))

-- the bytes before the first row are the head
head_sent : {image : Image} {v : RowView} {window : Held} {origin : Origin} {text : Option (List ℕ)} → 1 ≤ image.limit → Stands image [] v window origin text →
    Sends origin text (head_of image.settings image.width image.limit)
head_sent {image} {origin = origin} {text} some (inl w) =
    let plan = w.plan_is in
    let tall = plan.limit_to in
    let wide = plan.width_to in
    let none : w.i ≡ 0 = none_whole w.i image.settings.stripe_rows plan.some (sym w.stripes.many) in
    let long : length (replicate image.limit (white_row image.width)) ≡ image.limit = length-replicate image.limit (white_row image.width) in
    let proper : IsRaster (white_raster image) =
    record { width_from = plan.width_from; width_to = omega (arith, wide); height_from = omega (arith, some, long); height_to = omega (arith, tall, long); rows = all_white image.limit image.width } in
    let may : MayCome image [] (white_raster image) = record { proper = proper; width_is = refl; height_to = omega (arith, long); height_is = λ e. long; first = refl } in
    let front_is : w.front ≡ head_of image.settings image.width image.limit =
    (w.stripes.stands image.settings.named (λ j _. refl)).front_is (white_raster image) may ∙ ap (jbg_up_to image.settings (white_raster image)) none
    ∙ append-nil (head_of image.settings image.width _)
    ∙ ap (head_of image.settings image.width) long in
    rw front_is at w.sent
head_sent some (inr (r, from, to)) =
    let none : length r.part ≡ 0 = (let all = ap length r.all in let sum = length-append r.whole r.part in omega (arith, all, sum)) in
    absurd (omega (arith, none, from, r.in_stripe))

-- the head was written into room for it
pub head_written : {image : Image} {v : RowView} {window : Held} (room out : Room) → 1 ≤ image.limit → IsEmptyRoom room →
    length (head_of image.settings image.width image.limit) ≤ length out.bytes.now →
    Stands image [] v window (here (Some (text_of room))) (Some (text_of out)) →
    Stands image [] v window (here (Some [])) (Some (take out.len out.bytes.now)) × (take out.len out.bytes.now ≡ head_of image.settings image.width image.limit)
head_written {image} room out some empty enough stands =
    let stood = rw (nothing_in room empty) at stands in
    let sends = head_sent some stood in
    let text_is : text_of out ≡ head_of image.settings image.width image.limit = sends.appended ∙ sym sends.all in
    let same = all_within out (not_spilled out.spilled (λ e. omega (arith, ap length text_is, spilled_long out e, enough))) in
    (rw same at stood, sym same ∙ text_is)

-- a stream was begun, with a window over the memory
pub stream_begun : {size : Size} {d : T85Encoder} {memory room stream : List ℕ} {window : Window} (o : Options) (n : ℕ) → RowsGoElsewhere → IsOver window 0 size.width memory →
    length memory ≡ window_bytes size.width →
    is_low (settings_of o) size.height ≡ false → room ≡ stream → length (head_of (settings_of o) size.width size.height) ≤ length stream →
    (length (head_of (settings_of o) size.width size.height) ≤ length room → HasBegun (settings_of o) size d window (take n room)) →
    BeginsStream (image_of (settings_of o) size.width size.height) (encoder_hold d memory) (take n stream)
stream_begun {size} {d} {memory} {room} {stream} {window} o n law over long low same enough begins =
    let k = begins (rw same enough) in
    let goes = law (image_of (settings_of o) size.width size.height) [] (view_of k.engine d.learning) (rows_held window) (here (Some [])) (Some (take n room)) k.stands in
    let sends = goes.1 in
    let come = come_in k.stands in
    let first = k.place_is ∙ over.place_is in
    record {
      head = rw (← same) k.head_is;
      come = record {
        version_is = k.version_is;
        next_is = k.next_is;
        width_is = k.width_is;
        limit_is = k.limit_is;
        rows_are = ap (λ n. n.rows) k.numbers_are ∙ come.many;
        settings_are = k.settings_are;
        proper = are_settings o;
        not_low = low;
        some = size.some_height;
        place_is = first;
        engine = k.engine;
        ready = k.ready;
        numbers_are = k.numbers_are;
        stands = λ text. stands_as refl (window_rows over ∙ ap (λ p. rows_at p size.width memory) (sym first) ∙ sym (rows_whole d.place memory refl long))
            (ap (λ b. behind b text) (sends.all ∙ sym sends.appended ∙ ap (take n) same)) (goes.2 text);
      };
    }
