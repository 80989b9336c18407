-- An image whose rows are read and coded one by one.
use Rattle.std.proofs.Common.{◌≡◌, ℕ, ◌+◌, ◌*◌, ◌/◌, ◌<◌, ◌≤◌, ◌⊎◌, inl, inr, Bool, List, [], ◌++◌, length, refl, sym, ◌∙◌, ap, arith, Option, append_assoc, append-nil, length-append}
use Rattle.std.proofs.lemmas.Grind.{div_ceil_times}
use Rattle.std.proofs.Math.Seq.{take-length}
use Rattle.pbm_core.specs.declared.fault.PbmFault.{PbmFault}
use Rattle.pbm_core.specs.declared.form.Form.{Form}
use Rattle.raster_core.specs.Raster.{Raster, height}
use Rattle.raster_core.specs.Packed.{Held}
use Rattle.t85_core.specs.Grammar.{marker_bytes, stripe_bytes, stripe_count}
use Rattle.t85_core.specs.Coding.{mode_of}
use Rattle.t85_core.specs.Encode.{IsBeginning, BeginsWith, raster_of, layout_of}
use Rattle.t85_core.specs.Jbg.{Settings, jbg, jbg_up_to}
use Rattle.t85_core.specs.States.Written.{next_move}
use Rattle.t85_core.specs.Private.Written.{next_stripe}
use Rattle.t85_core.specs.Private.CoderLaws.{WritingLaws}
use Rattle.t85_core.specs.Private.EncodeRows.{ReadsRows, RowTaken, EndsInRow}
use Rattle.t85_core.specs.Private.EncodeStripes.{ImageShort, ImageRefused}
use Rattle.t85_core.specs.States.Sent.{Origin, SendsBeginning, here}
use Rattle.t85_core.specs.States.RowStream.{StreamCut, StreamFront}
use Rattle.t85_core.specs.States.ByRow.{RowView, Waits, Runs, Stands, IsLined, move_bytes}
use Rattle.t85_core.specs.RowImage.{MayCome, Image, image_of}
use Rattle.t85_core.proofs.BytesJoin.BytesAreSent.{here_sent}
use Rattle.t85_core.proofs.StreamsDenote.StateIsCarried.{stripe_at}
use Rattle.t85_core.proofs.ImagesEncode.RowEncoderAdvances.{stands_many}
use Rattle.t85_core.proofs.ImagesEncode.RowsStopShort.{pushed_begins}
use Rattle.t85_core.proofs.ImagesEncode.RastersMayCome.{stands_here, come_first, come_long, part_begins, front_begins, less_or_not}
use Rattle.t85_core.specs.States.Passage.{Passage, passage}

-- so many whole stripes are stripes of the image
few_stripes : (n l i : ℕ) → 1 ≤ l → i * l ≤ n → i ≤ stripe_count n l
few_stripes n l i some within = went (less_or_not (stripe_count n l) i) where
  went : (stripe_count n l < i) ⊎ (i ≤ stripe_count n l) → i ≤ stripe_count n l
  went (inr h) = h
  went (inl h) =
      let low = (div_ceil_times n l some).0 in
      let up : (stripe_count n l + 1) * l ≤ i * l = Rattle.std.proofs.Math.Nat.mul-le-mul_right l (omega arith) in
      let sum : (stripe_count n l + 1) * l ≡ stripe_count n l * l + 1 * l = Rattle.std.proofs.Math.Nat.add-mul (stripe_count n l) 1 l in
      absurd (omega arith)

module _ (image : Image) (rows : List (List Bool)) (v : RowView) (window : Held) (origin : Origin) (text : Option (List ℕ)) where
  -- no stripe runs
  front_waits : Waits image rows v window origin text → StreamFront image rows origin text
  front_waits w = record {
    bytes = w.front;
    sent = w.sent;
    begun = λ raster b. record {
      holds = record { rest = []; bytes_are = rw ((stands_here w.stripes).front_is raster b, ← whole, ← append-nil (jbg_up_to image.settings raster (length rows / image.settings.stripe_rows))) };
      begins = front_begins image.settings raster w.i (few_stripes (height raster) image.settings.stripe_rows w.i w.plan_is.some (let long = come_long b in omega arith))
          (record { rest = []; bytes_are = sym ((stands_here w.stripes).front_is raster b) ∙ sym (append-nil w.front) });
    };
  } where
    whole : length rows / image.settings.stripe_rows ≡ w.i
    whole =
        let sum : length rows ≡ w.i * image.settings.stripe_rows + 0 = omega arith in
        ap (λ n. n / image.settings.stripe_rows) sum ∙ stripe_at image.settings.stripe_rows w.i 0 (omega arith)

  -- one runs
  front_runs : WritingLaws → 0 < v.in_stripe → v.in_stripe < v.plan.stripe_rows → Runs image rows v window origin text → StreamFront image rows origin text
  front_runs laws some fewer r = record {
    bytes = r.front ++ (move_bytes image.settings image.width r.at ++ r.pushed);
    sent = r.sent;
    begun = λ raster b. record {
      holds = record {
        rest = move_bytes image.settings image.width r.at ++ r.pushed;
        bytes_are = rw ((stands_here r.stripes).front_is raster (first raster b), ← whole);
      };
      begins = part_begins r.plan_is.some r.stripes r.part (move_bytes image.settings image.width r.at ++ r.pushed) r.few begins (all raster b)
          (let long = come_long (all raster b) in omega (arith, length-append r.whole r.part));
    };
  } where
    all : (raster : Raster) → MayCome image rows raster → MayCome image (r.whole ++ r.part) raster
    all raster b = rw (← r.all) b

    first : (raster : Raster) → MayCome image rows raster → MayCome image r.whole raster
    first raster b = come_first r.part (all raster b)

    whole : length rows / image.settings.stripe_rows ≡ r.i
    whole =
        let sum = ap length r.all ∙ (omega (arith, length-append r.whole r.part)) in
        ap (λ n. n / image.settings.stripe_rows) sum ∙ stripe_at image.settings.stripe_rows r.i (length r.part) (omega arith)

    begins : (later : List (List Bool)) → IsBeginning (move_bytes image.settings image.width r.at ++ r.pushed) (stripe_bytes (next_stripe image.settings image.width r.at (r.part ++ later)))
    begins later =
        let p = pushed_begins laws (mode_of image.settings.options) (next_move image.settings image.width r.at) r.at.carry r.part
        (length r.part + length later) v.encoder r.pushed r.running.codes later refl in
        record {
          rest = p.rest ++ marker_bytes image.settings.reset;
          bytes_are =
              rw (p.bytes_are, append_assoc, ← append_assoc);
        }

  -- what stands is a beginning of each stream that may come, with each stripe whose rows all came
  pub front_stands : WritingLaws → Stands image rows v window origin text → StreamFront image rows origin text
  front_stands laws (inl w) = front_waits w
  front_stands laws (inr r) = front_runs laws r.1 r.2 r.0

-- ---- an image of a height that is known

pub may_come : {width height' : ℕ} {rows : List (List Bool)} {raster : Raster} (s : Settings) → BeginsWith width height' rows raster → MayCome (image_of s width height') rows raster
may_come s b = record { proper = b.proper; width_is = b.width_is; height_to = omega arith; height_is = λ _. b.height_is; first = b.first }

module _ {form : Form} {width : ℕ} {rows : List (List Bool)} {known mid : Option (List ℕ)} (s : Settings) (height' : ℕ) (known' text text' : Option (List ℕ))
    (read : ReadsRows form width known mid rows) where
  -- no whole row more came
  pub front_short : {fault : PbmFault} → length rows < height' → EndsInRow form width mid known' fault → StreamFront (image_of s width height') rows (here text) text' →
      ImageShort s (layout_of form width height') (λ raster n. jbg_up_to s raster n) (λ raster. jbg s raster) (passage known known' text text') fault
  front_short few part front = record {
    rows = rows;
    few = few;
    mid = mid;
    read = read;
    part = part;
    bytes = front.bytes;
    holds = λ raster b. (front.begun raster (may_come s b)).holds;
    begins = λ raster b. (front.begun raster (may_come s b)).begins;
    appended = here_sent front.sent;
  }

  -- the target took no more
  pub cut_refused : length rows ≤ height' → StreamCut (image_of s width height') rows (here text) text' →
      ImageRefused (layout_of form width height') (λ raster. jbg s raster) (passage known mid text text')
  cut_refused few cut = record { rows = rows; few = few; read = read; bytes = cut.bytes; begins = λ raster b. cut.begins raster (may_come s b); appended = here_sent cut.sent }

  pub end_refused : length rows ≡ height' → SendsBeginning (here text) text' (jbg s (raster_of width rows)) →
      ImageRefused (layout_of form width height') (λ raster. jbg s raster) (passage known mid text text')
  end_refused many cut = record {
    rows = rows;
    few = omega arith;
    read = read;
    bytes = cut.front;
    begins = λ raster b. rw (same raster b) (record { rest = cut.rest; bytes_are = cut.text_is });
    appended = here_sent cut.sends;
  } where
    -- no other image has all these rows
    same : (raster : Raster) → BeginsWith width height' rows raster → raster ≡ raster_of width rows
    same raster b =
        let long : length raster.rows ≡ length rows = omega arith in
        let rows_are : raster.rows ≡ rows = rw (← take-length raster.rows, long) b.first in
        ap (λ w. raster_of w raster.rows) b.width_is ∙ ap (raster_of width) rows_are

-- the rows that were read, and the encoder's position
abbrev pub ComeTo : Form → Image → Passage → RowView → Held → Type 0
ComeTo form image p v window =
    (rows : List (List Bool)) × ReadsRows form image.width p.input p.input_after rows × Stands image rows v window (here p.output) p.output_after

-- the encoder counts them
pub many_come : {form : Form} {image : Image} {p : Passage} {v : RowView} {window : Held} → (so : ComeTo form image p v window) → v.rows ≡ length so.0
many_come {image = image} {p = p} {v = v} {window = window} so = (stands_many image so.0 v window (here p.output) p.output_after so.2).0

-- the window has lines after a row was read
pub taken_lined : {form : Form} {width : ℕ} {known known' : Option (List ℕ)} {old new : Held} → RowTaken form width known known' old new → IsLined old → IsLined new
taken_lined r l = (record { row = r.row; above = l.0.row; second = l.0.above }, r.below l.0 l.1)
