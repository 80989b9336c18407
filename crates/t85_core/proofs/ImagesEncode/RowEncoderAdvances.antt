-- A row encoder, from row to row.
use Rattle.t85_core.specs.States.DecodeRows.{IsCarried}
use Rattle.std.proofs.Common.{slice_index_or, ◌≡◌, ℕ, zero, suc, ◌+◌, ◌-◌, ◌*◌, ◌^◌, ◌<◌, ◌≤◌, ◌⊎◌, inl, inr, nat_eq, true, false, Bool, List, [], ◌∷◌, ◌++◌, length, refl, sym, ◌∙◌, ap, subst, arith, Option, None, Some, append_assoc, append-nil, length-append}
use Rattle.std.specs.Prelude.{Result, if◌then◌else◌, is_some, unwrap_or, IfSome, ◌==◌}
use Rattle.std.specs.List.{AllByRecursion}
use Rattle.std.specs.Io.KnownBytes.{Appends}
use Rattle.std.proofs.lemmas.Bool.Decides.{nat_tests}
use Rattle.std.proofs.lemmas.Grind.{div_ceil_times}
use Rattle.std.proofs.Math.Seq.{take-length}
use Rattle.devices.specs.Device.{AppendsBeginning}
use Rattle.std.proofs.lemmas.List.{get_or_past}
use Rattle.qm_core.specs.Place.{Estimate, Event, start, fresh, after}
use Rattle.qm_core.specs.Code.{code_of, stuffed}
use Rattle.qm_core.specs.Encoder.{EncoderIsAt, IsStuffedFront, encoder_state}
use Rattle.qm_core.specs.declared.encoder.Encoder.{Encoder}
use Rattle.raster_core.specs.Raster.{height, white_row}
use Rattle.raster_core.specs.Lines.{Lines, Mode, row_events, may_be_typical}
use Rattle.raster_core.specs.Packed.{Held, HasLines, white_lines}
use Rattle.raster_core.specs.Row.{canonical_events, row_task}
use Rattle.raster_core.specs.Tally.{CountsLines, is_two_line, most_of}
use Rattle.raster_core.specs.declared.shape.Kept.{Kept}
use Rattle.raster_core.specs.declared.tally.Tally.{Tally}
use Rattle.t85_core.specs.Grammar.{marker_bytes, stripe_bytes, stripe_count}
use Rattle.t85_core.specs.Coding.{mode_of}
use Rattle.t85_core.specs.Encode.{IsBeginning, raster_of}
use Rattle.t85_core.specs.Jbg.{Settings, named_for, head_of, jbg, jbg_up_to, ending}
use Rattle.t85_core.specs.States.State.{RowStart, StripeStart, first_row_start, next_stripe_start, offset_at, lines_with, after_row}
use Rattle.t85_core.specs.States.Written.{EncoderStart, next_flag, next_move, row_start_in, after_rows, lines_down, IsCountedTo, IsTallied, has_choice}
use Rattle.t85_core.specs.Private.Written.{first_encoder_start, next_stripe, next_encoder_start, ending_of}
use Rattle.t85_core.specs.Private.CoderLaws.{WritingLaws}
use Rattle.t85_core.specs.States.Sent.{Origin, Sends, SendsBeginning, here}
use Rattle.t85_core.specs.States.RowStream.{StreamCut, HaveCome, StripesWhole}
use Rattle.t85_core.specs.States.ByRow.{RowView, IsPlan, IsHeldBy, IsStart, Runs, Waits, Stands, counted_of, move_bytes, IsBelow, encoder_at}
use Rattle.t85_core.specs.RowImage.{MayCome, Image}
use Rattle.t85_core.specs.Private.RowSteps.{MoveMade, MoveCut, RowPut, RowCut, CodeEnded, StripeEnded, StripeBegun, StripesEnded}
use Rattle.t85_core.proofs.BytesJoin.BytesAreSent.{Sends-more, Sends-keeps, sends_after, sends_longer, sent_here}
use Rattle.t85_core.proofs.ImagesEncode.StripeGrows.{after_more, lines_more}
use Rattle.t85_core.proofs.ImagesEncode.RowsStopShort.{events_down, rows_place, fails_begins}
use Rattle.t85_core.proofs.ImagesEncode.RastersMayCome.{none_whole, stands_here, same_announced, come_first, come_long, stripe_more, part_begins, whole_more, inside_of, front_begins, less_or_not}

-- before the first row of a stripe without a move, what is held is what is carried
pub carried_by_held : {b : RowStart} {kept : Kept} {learned : List Estimate} {window : Held} → IsHeldBy None 0 b kept learned window →
    IsCarried b (record { held = window; kept = kept; learned = learned })
carried_by_held h = record { offset_is = h.offset_is; previous_is = h.previous_is; learned_is = h.learned_is; third = h.third; lines_are = h.lines_are }

pub held_by_carried : {b : RowStart} {kept : Kept} {learned : List Estimate} {window : Held} → IsCarried b (record { held = window; kept = kept; learned = learned }) →
    IsHeldBy None 0 b kept learned window
held_by_carried h = record { at_top = tt; offset_is = h.offset_is; previous_is = h.previous_is; learned_is = h.learned_is; third = h.third; lines_are = h.lines_are }

-- the move was made at the first row
pub moved_before : {offset : ℕ} (move : Option (ℕ × ℕ)) (r : ℕ) → IfSome move (λ m. m.0 ≡ 0) → offset ≡ offset_at move (suc r) offset
moved_before None r h = refl
moved_before {offset} (Some move) r h = ap (λ b. if b then move.1 else offset) (sym other) where
  other : (move.0 == suc r) ≡ false
  other = let test : nat_eq move.0 (suc r) ≡ false = grind (arith, nat_tests, h) in test

-- at most so many events
pub events_more : (counter width old new : ℕ) → old ≤ counter * (width + 1) → new ≤ old + width + 1 → new ≤ (counter + 1) * (width + 1)
events_more counter width old new h more =
    let sum : (counter + 1) * (width + 1) ≡ counter * (width + 1) + 1 * (width + 1) = Rattle.std.proofs.Math.Nat.add-mul counter 1 (width + 1) in
    omega (arith, sum)

none_counted : (width : ℕ) (is_counted : Bool) (offset : ℕ) (tally : Tally) → (is_counted ≡ true → (width' current : ℕ) → CountsLines tally width' current []) →
    IsCountedTo width (if is_counted then Some offset else None) tally []
none_counted width true offset tally h = h refl width offset
none_counted width false offset tally h = tt

-- ---- a stripe begins

module _ {image : Image} {rows : List (List Bool)} {v : RowView} {before : Held} {origin : Origin} {mid : Option (List ℕ)} (text' : Option (List ℕ))
    (w : Waits image rows v before origin mid) where
  -- where rows may still come
  waits_within : v.rows < v.plan.limit → w.i * image.settings.stripe_rows < image.limit
  waits_within left = omega arith

  pub stripe_begun : v.rows < v.plan.limit → (kept : Kept) (tally : Tally) (is_counted : Bool)
      → ((s' : Settings) (width' : ℕ) (at : EncoderStart) → v.kept.offset ≡ at.carry.offset → v.named ≡ named_for s' at.stripe → v.plan.has_candidates ≡ has_choice s' → IsTallied s' width' at v.tally →
      MoveMade (next_move s' width' at) at.carry.offset mid text' v.kept kept)
      → (is_counted ≡ true → (width' current : ℕ) → CountsLines tally width' current []) → is_two_line tally ≡ is_two_line v.tally → most_of tally ≡ most_of v.tally
      → (v.plan.stripe_rows < v.plan.limit - v.rows → v.plan.has_candidates ≡ true → is_counted ≡ true)
      → Runs image rows (record v { kept = kept; tally = tally; is_counted = is_counted; named = None }) before origin text'
  stripe_begun left kept tally is_counted moves counts two_line most counted = record {
    plan_is = w.plan_is;
    come = w.come;
    i = w.i;
    whole = rows;
    part = [];
    all = sym (append-nil rows);
    at = w.at;
    front = w.front;
    stripes = w.stripes;
    in_stripe = w.in_stripe;
    few = omega arith;
    pushed = [];
    running = record {
      codes = w.codes;
      is_held = record {
        at_top = made.at_top;
        offset_is = made.offset_is;
        previous_is = made.previous_is ∙ on.is_held.previous_is;
        learned_is = on.is_held.learned_is;
        third = on.is_held.third;
        lines_are = on.is_held.lines_are;
      };
      two_line = two_line ∙ on.is_tallied.two_line;
      most = most ∙ on.is_tallied.most;
      tallied = none_counted image.width is_counted _ tally counts;
    };
    names_to = w.names_to;
    none_named = refl;
    counts = λ more some. counted
        (let sum : (w.i + 1) * image.settings.stripe_rows
        ≡ w.i * image.settings.stripe_rows + 1 * image.settings.stripe_rows = Rattle.std.proofs.Math.Nat.add-mul w.i 1 image.settings.stripe_rows in omega (arith, sum))
        (w.plan_is.candidates_are ∙ some);
    sent = Sends-more (move_bytes image.settings image.width w.at ++ []) w.sent (rw append-nil made.appended);
  } where
    on : IsStart image.settings image.width w.at v before
    on = w.on_course (waits_within left)

    made : MoveMade (next_move image.settings image.width w.at) w.at.carry.offset mid text' v.kept kept
    made = moves image.settings image.width w.at on.is_held.offset_is on.named_is w.plan_is.candidates_are on.is_tallied

  -- a beginning of the move was written
  pub move_cut : v.rows < v.plan.limit → (row : List Bool)
      → ((s' : Settings) (width' : ℕ) (at : EncoderStart) → v.kept.offset ≡ at.carry.offset → v.named ≡ named_for s' at.stripe → v.plan.has_candidates ≡ has_choice s' → IsTallied s' width' at v.tally →
      MoveCut s' width' at mid text')
      → StreamCut image (rows ++ row ∷ []) origin text'
  move_cut left row cuts = record {
    bytes = w.front ++ p.front;
    sent = Sends-more p.front w.sent p.appends;
    begins = λ raster b. part_begins w.plan_is.some w.stripes [] p.front (omega arith)
        (λ later. record {
          rest = p.rest ++ (stuffed (code_of (row_start_in image.settings image.width w.at later).state.place) ++ marker_bytes image.settings.reset);
          bytes_are = rw p.text_is (append_assoc p.front p.rest (stuffed (code_of (row_start_in image.settings image.width w.at later).state.place) ++ marker_bytes image.settings.reset));
        })
        (rw append-nil (come_first (row ∷ []) b))
        (let long = come_long b in omega (arith, length-append rows (row ∷ [])));
  } where
    on : IsStart image.settings image.width w.at v before
    on = w.on_course (waits_within left)

    p : AppendsBeginning mid text' (move_bytes image.settings image.width w.at)
    p = cuts image.settings image.width w.at on.is_held.offset_is on.named_is w.plan_is.candidates_are on.is_tallied

-- ---- a row is coded

pub length-lines_down : (above second : List Bool) (rows : List (List Bool)) → length (lines_down above second rows) ≡ length rows
length-lines_down above second [] = refl
length-lines_down above second (row ∷ rows) = rw (length-lines_down row above rows)

pub all_more : {width : ℕ} (rows : List (List Bool)) (row : List Bool) → AllByRecursion (λ r. length r ≡ width) rows → length row ≡ width →
    AllByRecursion (λ r. length r ≡ width) (rows ++ row ∷ [])
all_more [] row all is = (is, tt)
all_more (first ∷ rows) row all is = (all.0, all_more rows row all.1 is)

-- the target refused a byte of some rows of the stripe in progress, which have these events
module _ {image : Image} {rows : List (List Bool)} {v : RowView} {before : Held} {origin : Origin} {mid : Option (List ℕ)} (r : Runs image rows v before origin mid) (more : List (List Bool))
    (text' : Option (List ℕ)) where
  abbrev from_row : RowStart
  from_row = row_start_in image.settings image.width r.at r.part

  pub rows_cut : {events : List Event} → WritingLaws → 1 ≤ length more → length r.part + length more ≤ image.settings.stripe_rows →
      events_down (mode_of image.settings.options) (next_move image.settings image.width r.at) (0 + length r.part) from_row more ≡ events →
      RowCut (record { place = from_row.state.place; learned = v.learned }) r.pushed events mid text' → StreamCut image (rows ++ more) origin text'
  rows_cut laws some fewer events_are cut = record {
    bytes = (r.front ++ (move_bytes image.settings image.width r.at ++ r.pushed)) ++ cut.done;
    sent = Sends-more cut.done r.sent cut.appended;
    begins = λ raster m. rw bytes_are (part_begins r.plan_is.some r.stripes (r.part ++ more) (move_bytes image.settings image.width r.at ++ (r.pushed ++ cut.done)) few begins
        (subst (λ z. MayCome image z raster) all m)
        (let long = come_long (subst (λ z. MayCome image z raster) all m) in omega (arith, length-append r.whole (r.part ++ more), length-append r.part more)));
  } where
    all : rows ++ more ≡ r.whole ++ (r.part ++ more)
    all = rw r.all (append_assoc r.whole r.part more)

    few : length (r.part ++ more) ≤ image.settings.stripe_rows
    few = let sum = length-append r.part more in omega (arith, sum)

    bytes_are : (r.front ++ (move_bytes image.settings image.width r.at ++ r.pushed)) ++ cut.done ≡ r.front ++ (move_bytes image.settings image.width r.at ++ (r.pushed ++ cut.done))
    bytes_are = rw (append_assoc, append_assoc)

    front_is : IsStuffedFront ((r.pushed ++ cut.done) ++ cut.left) (after from_row.state cut.events).place
    front_is = subst (λ l. IsStuffedFront ((r.pushed ++ cut.done) ++ cut.left) (after (record { place = from_row.state.place; learned = l }) cut.events).place) r.running.is_held.learned_is cut.begins

    begins : (later : List (List Bool)) → IsBeginning (move_bytes image.settings image.width r.at ++ (r.pushed ++ cut.done))
        (stripe_bytes (next_stripe image.settings image.width r.at ((r.part ++ more) ++ later)))
    begins later =
        let p = fails_begins laws (mode_of image.settings.options) (next_move image.settings image.width r.at) r.at.carry r.part more (length (r.part ++ more) + length later) cut.events cut.rest
        (r.pushed ++ cut.done) cut.left (events_are ∙ cut.all_are) front_is later refl in
        record {
          rest = p.rest ++ marker_bytes image.settings.reset;
          bytes_are =
              ap (λ z. move_bytes image.settings image.width r.at ++ (z ++ marker_bytes image.settings.reset)) p.bytes_are
              ∙ ap (λ z. move_bytes image.settings image.width r.at ++ z) (append_assoc (r.pushed ++ cut.done) p.rest (marker_bytes image.settings.reset))
              ∙ sym (append_assoc (move_bytes image.settings image.width r.at) (r.pushed ++ cut.done) (p.rest ++ marker_bytes image.settings.reset));
        }

module _ {image : Image} {rows : List (List Bool)} {v : RowView} {before : Held} {origin : Origin} {mid : Option (List ℕ)} (row : List Bool) (window : Held) (text' : Option (List ℕ))
    (below : IsBelow row before window) (wide : window.width ≡ v.plan.width) (r : Runs image rows v before origin mid) where
  abbrev mode : Mode
  mode = mode_of image.settings.options

  abbrev move : Option (ℕ × ℕ)
  move = next_move image.settings image.width r.at

  abbrev c : StripeStart
  c = r.at.carry

  abbrev b : RowStart
  b = after_rows mode move 0 (first_row_start c) r.part

  abbrev next : RowStart
  next = after_row mode move (length r.part) b row (next_flag mode b row)

  next_is : after_rows mode move 0 (first_row_start c) (r.part ++ row ∷ []) ≡ next
  next_is =
      let at : 0 + length r.part ≡ length r.part = omega arith in
      after_more mode move 0 (first_row_start c) r.part (row ∷ []) ∙ ap (λ n. after_row mode move n b row (next_flag mode b row)) at

  pub lines_are : HasLines window (lines_with b row)
  lines_are = below (record { row = b.above; above = b.second; second = r.running.is_held.third }) r.running.is_held.lines_are

  events_are : canonical_events v.plan.shape v.kept (lines_with b row) ≡ row_events mode (lines_with b row) (offset_at move (length r.part) b.offset) b.previous (next_flag mode b row)
  events_are =
      ap (λ m. row_events m (lines_with b row) v.kept.offset v.kept.previous_typical (may_be_typical m (lines_with b row))) r.plan_is.shape_is.mode_is
      ∙ ap (λ o. row_events mode (lines_with b row) o v.kept.previous_typical (next_flag mode b row)) r.running.is_held.offset_is
      ∙ ap (λ f. row_events mode (lines_with b row) (offset_at move (length r.part) b.offset) f (next_flag mode b row)) r.running.is_held.previous_is

  state_is : after (record { place = b.state.place; learned = v.learned }) (canonical_events v.plan.shape v.kept (lines_with b row)) ≡ next.state
  state_is =
      ap (λ l. after (record { place = b.state.place; learned = l }) (canonical_events v.plan.shape v.kept (lines_with b row))) r.running.is_held.learned_is
      ∙ ap (after b.state) events_are

  many : length (r.part ++ row ∷ []) ≡ suc (length r.part)
  many = omega (arith, length-append r.part (row ∷ []))

  counted_same : (kept : Kept) → kept.offset ≡ v.kept.offset → counted_of (record v { kept = kept }) ≡ counted_of v
  counted_same kept same = rw same

  pub row_coded : {kept : Kept} → v.rows < v.plan.limit → v.in_stripe < v.plan.stripe_rows → v.plan.stripe_rows < 2 ^ 32 →
      (learned : List Estimate) (tally : Tally) (e : Encoder) →
      RowPut (row_task v.plan.shape v.kept (record { place = b.state.place; learned = v.learned }) (lines_with b row)) r.pushed kept mid (encoder_state text' e learned) →
      ((lines : List Lines) (l : Lines) → length lines < 2 ^ 32 - 1 → HasLines window l → IsCountedTo v.plan.width (counted_of (record v { kept = kept })) v.tally lines →
      IsCountedTo v.plan.width (counted_of (record v { kept = kept })) tally (lines ++ l ∷ [])) →
      is_two_line tally ≡ is_two_line v.tally → most_of tally ≡ most_of v.tally →
      Runs image (rows ++ row ∷ []) (record v { kept = kept; learned = learned; tally = tally; encoder = e; rows = v.rows + 1; in_stripe = v.in_stripe + 1 }) window origin text'
  row_coded {kept} left fewer few_rows learned tally e put counts two_line most = record {
    plan_is = r.plan_is;
    come = record {
      many = (let sum = length-append rows (row ∷ []) in omega (arith, sum));
      few = (let sum = length-append rows (row ∷ []) in omega (arith, sum));
      wide = all_more rows row r.come.wide (lines_are.row_wide ∙ wide ∙ r.plan_is.width_is);
    };
    i = r.i;
    whole = r.whole;
    part = r.part ++ row ∷ [];
    all = rw r.all (append_assoc r.whole r.part (row ∷ []));
    at = r.at;
    front = r.front;
    stripes = r.stripes;
    in_stripe = (let sum = length-append r.part (row ∷ []) in omega (arith, sum));
    few = (let sum = length-append r.part (row ∷ []) in omega (arith, sum));
    pushed = r.pushed ++ put.more;
    running = record {
      codes = rw (next_is, ← state_is) put.codes;
      is_held = rw (many, next_is) (record {
        at_top = r.running.is_held.at_top;
        offset_is = put.offset_is ∙ r.running.is_held.offset_is ∙ moved_before move (length r.part) r.running.is_held.at_top;
        previous_is = put.flag_is ∙ ap (λ m. may_be_typical m (lines_with b row)) r.plan_is.shape_is.mode_is;
        learned_is = put.taught ∙ ap (λ n. n.learned) state_is;
        third = b.second;
        lines_are = lines_are;
      });
      two_line = two_line ∙ r.running.two_line;
      most = most ∙ r.running.most;
      tallied = subst (λ lines. IsCountedTo image.width (counted_of (record v { kept = kept })) tally lines) (sym (lines_more mode move 0 (first_row_start c) r.part row))
          (subst (λ w. IsCountedTo w (counted_of (record v { kept = kept })) tally (lines_down c.above c.second r.part ++ lines_with b row ∷ [])) r.plan_is.width_is
          (counts (lines_down c.above c.second r.part) (lines_with b row) (let many_lines = length-lines_down c.above c.second r.part in omega arith) lines_are
          (subst (λ w. IsCountedTo w (counted_of (record v { kept = kept })) v.tally (lines_down c.above c.second r.part)) (sym r.plan_is.width_is)
          (subst (λ o. IsCountedTo image.width o v.tally (lines_down c.above c.second r.part)) (sym (counted_same kept put.offset_is)) r.running.tallied))));
    };
    names_to = r.names_to;
    none_named = r.none_named;
    counts = r.counts;
    sent = rw (← append_assoc (move_bytes image.settings image.width r.at) r.pushed put.more, ← append_assoc r.front (move_bytes image.settings image.width r.at ++ r.pushed) put.more)
        (Sends-more put.more r.sent put.appended);
  }

  -- the target refused a byte of it
  pub row_cut : WritingLaws → v.in_stripe < v.plan.stripe_rows →
      RowCut (record { place = b.state.place; learned = v.learned }) r.pushed (canonical_events v.plan.shape v.kept (lines_with b row)) mid text' → StreamCut image (rows ++ row ∷ []) origin text'
  row_cut laws fewer cut = rows_cut r (row ∷ []) text' laws (omega arith) (omega arith)
      (append-nil (row_events mode (lines_with b row) (offset_at move (0 + length r.part) b.offset) b.previous (next_flag mode b row))
      ∙ ap (λ n. row_events mode (lines_with b row) (offset_at move n b.offset) b.previous (next_flag mode b row)) (sym at) ∙ sym events_are) cut where
        at : length r.part ≡ 0 + length r.part
        at = omega arith

-- ---- where a row encoder stands

module _ (image : Image) (rows : List (List Bool)) (v : RowView) (window : Held) (origin : Origin) (text' : Option (List ℕ)) where
  -- its numbers
  pub stands_many : Stands image rows v window origin text' → (v.rows ≡ length rows) × (v.plan.limit ≡ image.limit)
  stands_many (inl w) = (w.come.many, w.plan_is.limit_is)
  stands_many (inr r) = (r.0.come.many, r.0.plan_is.limit_is)

  -- no stripe runs
  pub stands_waiting : v.in_stripe ≡ 0 → Stands image rows v window origin text' → Waits image rows v window origin text'
  stands_waiting none (inl w) = w
  stands_waiting none (inr r) = absurd (omega arith)

  -- one runs
  pub stands_running : 0 < v.in_stripe → Stands image rows v window origin text' → Runs image rows v window origin text'
  stands_running some (inl w) = absurd (omega arith)
  stands_running some (inr r) = r.0

-- ---- a stripe ends

module _ {image : Image} {rows : List (List Bool)} {v : RowView} {window : Held} {origin : Origin} {mid : Option (List ℕ)} (text' : Option (List ℕ)) (some : 0 < v.in_stripe)
    (r : Runs image rows v window origin mid) where
  abbrev last : RowStart
  last = row_start_in image.settings image.width r.at r.part

  some_part : 0 < length r.part
  some_part = omega arith

  bytes_of : {code : List ℕ} (laws : WritingLaws) (more : List ℕ) → Rattle.qm_core.specs.Code.IsCode last.state.place code → r.pushed ++ more ≡ stuffed code ++ marker_bytes v.plan.reset →
      (r.front ++ (move_bytes image.settings image.width r.at ++ r.pushed)) ++ more ≡ r.front ++ stripe_bytes (next_stripe image.settings image.width r.at r.part)
  bytes_of {code} laws more is all =
      append_assoc r.front (move_bytes image.settings image.width r.at ++ r.pushed) more
      ∙ ap (λ z. r.front ++ z) (append_assoc (move_bytes image.settings image.width r.at) r.pushed more)
      ∙ ap (λ z. r.front ++ (move_bytes image.settings image.width r.at ++ z)) all
      ∙ ap (λ z. r.front ++ (move_bytes image.settings image.width r.at ++ (stuffed z ++ marker_bytes v.plan.reset)))
      ((laws.one_code last.state.place (rows_place laws (mode_of image.settings.options) (next_move image.settings image.width r.at) 0
      (first_row_start r.at.carry) r.part laws.start_is_place)).only code is)
      ∙ ap (λ b. r.front ++ (move_bytes image.settings image.width r.at ++ (stuffed (code_of last.state.place) ++ marker_bytes b))) r.plan_is.reset_is

  -- what is held after its rows, and its move
  behind : IsHeldBy None 0 last v.kept v.learned window
  behind = record {
    at_top = tt;
    offset_is = r.running.is_held.offset_is ∙ moved (length r.part) refl;
    previous_is = r.running.is_held.previous_is;
    learned_is = r.running.is_held.learned_is;
    third = r.running.is_held.third;
    lines_are = r.running.is_held.lines_are;
  } where
    moved : (n : ℕ) → length r.part ≡ n → offset_at (next_move image.settings image.width r.at) (length r.part) last.offset ≡ last.offset
    moved zero e = absurd (omega (arith, some_part))
    moved (suc n) e = ap (λ k. offset_at (next_move image.settings image.width r.at) k last.offset) e ∙ sym (moved_before (next_move image.settings image.width r.at) n r.running.is_held.at_top)

  counted_some : {offset : ℕ} {lines : List Lines} → counted_of v ≡ Some offset → IsCountedTo image.width (counted_of v) v.tally lines → CountsLines v.tally image.width offset lines
  counted_some {lines} is counts = subst (λ o. IsCountedTo image.width o v.tally lines) is counts

  -- what was counted chooses the next move
  tallied : (r.i + 1) * image.settings.stripe_rows < image.limit → IsTallied image.settings image.width (next_encoder_start image.settings image.width r.at r.part) v.tally
  tallied more = by_count v.is_counted refl (λ some'. r.counts more some') where
    lines : List Lines
    lines = lines_down r.at.carry.above r.at.carry.second r.part

    next : EncoderStart
    next = next_encoder_start image.settings image.width r.at r.part

    current : (b : Bool) → v.plan.reset ≡ b → (if v.plan.reset then 0 else v.kept.offset) ≡ (next_stripe_start image.width b last).offset
    current true is = ap (λ z. if z then 0 else v.kept.offset) is
    current false is = ap (λ z. if z then 0 else v.kept.offset) is ∙ behind.offset_is

    same : (if v.plan.reset then 0 else v.kept.offset) ≡ next.carry.offset
    same = current image.settings.reset r.plan_is.reset_is

    by_count : (b : Bool) → v.is_counted ≡ b → (has_choice image.settings ≡ true → b ≡ true) →
        IsTallied image.settings image.width next v.tally
    by_count true is counts = record {
      two_line = r.running.two_line;
      most = r.running.most;
      counts = λ _. subst (λ o. CountsLines v.tally image.width o lines) same (counted_some (ap (λ z. if z then Some (if v.plan.reset then 0 else v.kept.offset) else None) is) r.running.tallied);
    }
    by_count false is counts = record {
      two_line = r.running.two_line;
      most = r.running.most;
      counts = λ some'. absurd (let e : false ≡ true = counts some' in let bot : ⊥ = cc in bot);
    }

  pub stripe_ended : {kept : Kept} {learned : List Estimate} {window' : Held} {text'' : Option (List ℕ)} {E : Type 0} {answer : Result (Unit {0}) E} (laws : WritingLaws) (e : Encoder) →
      EncoderIsAt e start [] →
      ((last' : RowStart) → IsHeldBy None 0 last' v.kept v.learned window → IsHeldBy None 0 (first_row_start (next_stripe_start v.plan.width v.plan.reset last')) kept learned window') →
      (ended : CodeEnded last.state.place v.plan.reset r.pushed mid text' answer) → Appends mid text' ended.more → Rattle.std.specs.Io.KnownBytes.Keeps text' text'' →
      StripeEnded image v.in_stripe rows (encoder_at (record v { kept = kept; learned = learned; encoder = e; in_stripe = 0 }) window' text'') origin
  stripe_ended {kept} {learned} {window'} laws e codes goes ended put keeps = record {
    plan_is = r.plan_is;
    come = r.come;
    i = r.i;
    whole = r.whole;
    part = r.part;
    all = r.all;
    at = r.at;
    front = r.front;
    stripes = r.stripes;
    many = sym r.in_stripe;
    some = some_part;
    few = r.few;
    in_stripe = refl;
    codes = codes;
    names_to = r.names_to;
    on_course = λ more'. record {
      is_held = subst (λ w. IsHeldBy None 0 (first_row_start (next_stripe_start w image.settings.reset last)) kept learned window') r.plan_is.width_is
          (subst (λ b. IsHeldBy None 0 (first_row_start (next_stripe_start v.plan.width b last)) kept learned window') r.plan_is.reset_is (goes last behind));
      is_tallied = tallied more';
      named_is = r.none_named ∙ sym (get_or_past image.settings.named (suc r.at.stripe) None (let is = r.stripes.stripe_is in omega arith));
    };
    sent = Sends-keeps
        (subst (Sends origin text') (bytes_of laws ended.more ended.is ended.all) (Sends-more ended.more r.sent put)) keeps;
  }

  pub stripe_cut : {code more : List ℕ} (laws : WritingLaws) → Rattle.qm_core.specs.Code.IsCode last.state.place code → r.pushed ++ more ≡ stuffed code ++ marker_bytes v.plan.reset →
      AppendsBeginning mid text' more → StripeBegun image v.in_stripe rows origin text'
  stripe_cut {more} laws is all cut = record {
    i = r.i;
    whole = r.whole;
    part = r.part;
    all = r.all;
    at = r.at;
    front = r.front;
    stripes = r.stripes;
    many = sym r.in_stripe;
    some = some_part;
    few = r.few;
    sent = subst (SendsBeginning origin text') (bytes_of laws more is all) (sends_after r.sent cut);
  }

-- ---- from a stripe that was ended

module _ (image : Image) (count : ℕ) (rows : List (List Bool)) (v : RowView) (window : Held) (origin : Origin) (text' : Option (List ℕ)) where
  -- a stripe with all its rows
  pub ended_waits : count ≡ v.plan.stripe_rows → StripeEnded image count rows (encoder_at v window text') origin → Waits image rows v window origin text'
  ended_waits full e = record {
    plan_is = e.plan_is;
    come = e.come;
    i = e.i + 1;
    at = next_encoder_start image.settings image.width e.at e.part;
    front = e.front ++ stripe_bytes (next_stripe image.settings image.width e.at e.part);
    stripes = subst (λ z. StripesWhole image (e.i + 1) z (next_encoder_start image.settings image.width e.at e.part)
        (e.front ++ stripe_bytes (next_stripe image.settings image.width e.at e.part))) (sym e.all)
        (whole_more e.plan_is.some e.stripes e.part (e.many ∙ full ∙ e.plan_is.stripe_rows_is));
    in_stripe = e.in_stripe;
    codes = e.codes;
    names_to = omega arith;
    on_course = e.on_course;
    sent = e.sent;
  }

  -- a beginning of it was written
  pub cut_stream : 1 ≤ image.settings.stripe_rows → count ≡ image.settings.stripe_rows → StripeBegun image count rows origin text' → StreamCut image rows origin text'
  cut_stream some full e = record {
    bytes = e.sent.front;
    sent = e.sent.sends;
    begins = λ raster b.
        let m = subst (λ z. MayCome image z raster) e.all b in
        let long = come_long m in
        let sum = length-append e.whole e.part in
        let full_part : length e.part ≡ image.settings.stripe_rows = e.many ∙ full in
        front_begins image.settings raster (e.i + 1)
        (let inside = inside_of (height raster) image.settings.stripe_rows e.i some (omega (arith, sum)) in omega arith)
        (record {
          rest = e.sent.rest;
          bytes_are =
              sym (stripe_more some e.stripes e.part m (omega (arith, sum)) (omega (arith, sum)))
              ∙ e.sent.text_is;
        });
  }

-- ---- an image ends

count_is : {c : ℕ} (n l : ℕ) → 1 ≤ l → n ≤ c * l → c * l < n + l → stripe_count n l ≡ c
count_is {c} n l some from to = went (less_or_not c (stripe_count n l)) (less_or_not (stripe_count n l) c) where
  times : (n ≤ stripe_count n l * l) × (stripe_count n l * l < n + l)
  times = div_ceil_times n l some

  went : (c < stripe_count n l) ⊎ (stripe_count n l ≤ c) → (stripe_count n l < c) ⊎ (c ≤ stripe_count n l) → stripe_count n l ≡ c
  went (inl h) k =
      let up : (c + 1) * l ≤ stripe_count n l * l = Rattle.std.proofs.Math.Nat.mul-le-mul_right l (omega arith) in
      let sum : (c + 1) * l ≡ c * l + 1 * l = Rattle.std.proofs.Math.Nat.add-mul c 1 l in
      let high = times.1 in
      absurd (omega (arith, sum))
  went (inr h) (inl k) =
      let up : (stripe_count n l + 1) * l ≤ c * l = Rattle.std.proofs.Math.Nat.mul-le-mul_right l (omega arith) in
      let sum : (stripe_count n l + 1) * l ≡ stripe_count n l * l + 1 * l = Rattle.std.proofs.Math.Nat.add-mul (stripe_count n l) 1 l in
      let low = times.0 in
      absurd (omega (arith, sum))
  went (inr h) (inr k) = omega arith

not_some : {o : Option ℕ} → o ≡ None → is_some o ≡ false
not_some none = ap is_some none

module _ {image : Image} {rows : List (List Bool)} (v : RowView) (plan : IsPlan image v.plan) (come : HaveCome image.width image.limit rows v.rows) (some : 0 < v.rows)
    (whole : v.plan.may_end ≡ false → v.rows ≡ v.plan.limit) where
  all_rows : image.settings.announced ≡ None → length rows ≡ image.limit
  all_rows none = (let full = whole (plan.may_end_is ∙ not_some none) in omega arith)

  -- the image itself may come
  pub itself : MayCome image rows (raster_of image.width rows)
  itself = record {
    proper = record {
      width_from = plan.width_from;
      width_to = plan.width_to;
      height_from = omega arith;
      height_to = omega arith;
      rows = come.wide;
    };
    width_is = refl;
    height_to = come.few;
    height_is = all_rows;
    first = take-length rows;
  }

  pub announced_at : v.plan.announced ≡ unwrap_or image.settings.announced (length rows)
  announced_at = plan.announced_is ∙ same_announced image.settings.announced image.limit (length rows) (λ none. sym (all_rows none))

  -- no stripe runs
  pub waits_ended : {window : Held} {origin : Origin} {text' : Option (List ℕ)} → Waits image rows v window origin text' → StripesEnded image rows v origin text'
  waits_ended {origin} {text'} w = record {
    rows_are = come.many;
    reset_is = plan.reset_is;
    announced_is = announced_at;
    sent = subst (Sends origin text')
        ((stands_here w.stripes).front_is (raster_of image.width rows) itself
        ∙ ap (jbg_up_to image.settings (raster_of image.width rows)) (sym (count_is (length rows) image.settings.stripe_rows plan.some (omega arith) (omega arith)))) w.sent;
  }

module _ {image : Image} {rows whole : List (List Bool)} {i : ℕ} {at : EncoderStart} {front : List ℕ} (count : ℕ) (part : List (List Bool)) (some : 1 ≤ image.settings.stripe_rows)
    (all : rows ≡ whole ++ part) (stripes : StripesWhole image i whole at front) (some_part : 0 < length part) (few : length part ≤ image.settings.stripe_rows)
    (m : MayCome image rows (raster_of image.width rows)) where
  sum : length rows ≡ i * image.settings.stripe_rows + length part
  sum = (let lengths : length rows ≡ length (whole ++ part) = ap length all in omega (arith, length-append whole part))

  -- the stripes with this one are all
  pub last_stripe : front ++ stripe_bytes (next_stripe image.settings image.width at part) ≡ jbg_up_to image.settings (raster_of image.width rows)
      (stripe_count (length rows) image.settings.stripe_rows)
  last_stripe =
      stripe_more some stripes part (subst (λ z. MayCome image z (raster_of image.width rows)) all m) (omega (arith, sum, some_part)) (omega (arith, sum, few))
      ∙ ap (jbg_up_to image.settings (raster_of image.width rows))
      (sym (count_is (length rows) image.settings.stripe_rows some (omega (arith, sum, few, product)) (omega (arith, sum, some_part, product))))
    where
      product : (i + 1) * image.settings.stripe_rows ≡ i * image.settings.stripe_rows + 1 * image.settings.stripe_rows
      product = Rattle.std.proofs.Math.Nat.add-mul i 1 image.settings.stripe_rows

pub ended_stripes : {image : Image} {count : ℕ} {rows : List (List Bool)} {v v' : RowView} {window : Held} {origin : Origin} {mid text' : Option (List ℕ)} (window' : Held) → 0 < v.rows →
    (v.plan.may_end ≡ false → v.rows ≡ v.plan.limit) → Runs image rows v window origin mid → StripeEnded image count rows (encoder_at v' window' text') origin →
    StripesEnded image rows v' origin text'
ended_stripes {image} {count} {rows} {v} {origin} {text'} window' some whole r e = record {
  rows_are = e.come.many;
  reset_is = e.plan_is.reset_is;
  announced_is = e.plan_is.announced_is ∙ same_announced image.settings.announced image.limit (length rows) (λ none. sym (all_rows v r.plan_is r.come some whole none));
  sent = subst (Sends origin text') (last_stripe count e.part r.plan_is.some e.all e.stripes e.some e.few (itself v r.plan_is r.come some whole)) e.sent;
}

-- no more than a beginning of the last stripe was written
pub cut_stripes : {image : Image} {count : ℕ} {rows : List (List Bool)} {v : RowView} {window : Held} {origin : Origin} {mid text' : Option (List ℕ)} → 0 < v.rows →
    (v.plan.may_end ≡ false → v.rows ≡ v.plan.limit) → Runs image rows v window origin mid → StripeBegun image count rows origin text' →
    SendsBeginning origin text' (jbg image.settings (raster_of image.width rows))
cut_stripes {image} {count} {rows} {v} {origin} {text'} some whole r e =
    sends_longer (ending image.settings (length rows))
    (subst (SendsBeginning origin text') (last_stripe count e.part r.plan_is.some e.all e.stripes e.some e.few (itself v r.plan_is r.come some whole)) e.sent)

module _ {image : Image} {rows : List (List Bool)} {v : RowView} {origin : Origin} {mid : Option (List ℕ)} (text' : Option (List ℕ)) (e : StripesEnded image rows v origin mid) where
  ending_is : ending_of v.plan.announced v.plan.reset v.rows ≡ ending image.settings (length rows)
  ending_is =
      ap (λ n. ending_of n v.plan.reset v.rows) e.announced_is ∙ ap (λ b. ending_of (unwrap_or image.settings.announced (length rows)) b v.rows) e.reset_is
      ∙ ap (ending_of (unwrap_or image.settings.announced (length rows)) image.settings.reset) e.rows_are

  pub stream_ended : Appends mid text' (ending_of v.plan.announced v.plan.reset v.rows) → Sends origin text' (jbg image.settings (raster_of image.width rows))
  stream_ended last = Sends-more (ending image.settings (length rows)) e.sent (subst (Appends mid text') ending_is last)

  pub ending_cut : AppendsBeginning mid text' (ending_of v.plan.announced v.plan.reset v.rows) → SendsBeginning origin text' (jbg image.settings (raster_of image.width rows))
  ending_cut last = sends_after e.sent (subst (AppendsBeginning mid text') ending_is last)

-- ---- an image begins

-- the fields before the first row
pub record IsUnused (s : Settings) (v : RowView) : Type 0 where
  pub rows_is : v.rows ≡ 0
  pub in_stripe : v.in_stripe ≡ 0
  pub nameless : v.named ≡ None
  pub codes : EncoderIsAt v.encoder start []
  pub offset_is : v.kept.offset ≡ 0
  pub previous_is : v.kept.previous_typical ≡ false
  pub learned_is : v.learned ≡ fresh
  pub two_line : is_two_line v.tally ≡ (mode_of s.options).two_line
  pub most : most_of v.tally ≡ s.most_offset
  pub counts : (width current : ℕ) → CountsLines v.tally width current []

pub none_stand : {image : Image} {v : RowView} {window : Held} {text text' : Option (List ℕ)} → IsPlan image v.plan → image.settings.named ≡ [] → IsUnused image.settings v →
    HasLines window (white_lines image.width) → Appends text text' (head_of image.settings image.width image.limit) → Stands image [] v window (here text) text'
none_stand {image} plan unnamed u white put = inl (record {
  plan_is = plan;
  come = record { many = u.rows_is; few = omega arith; wide = tt };
  i = 0;
  at = first_encoder_start image.width;
  front = head_of image.settings image.width image.limit;
  stripes = none_whole;
  in_stripe = u.in_stripe;
  codes = u.codes;
  names_to = (let none_are : length image.settings.named ≡ 0 = ap length unnamed in omega arith);
  on_course = λ _. record {
    is_held = record { at_top = tt; offset_is = u.offset_is; previous_is = u.previous_is; learned_is = u.learned_is; third = white_row image.width; lines_are = white };
    is_tallied = record { two_line = u.two_line; most = u.most; counts = λ _. u.counts image.width 0 };
    named_is = u.nameless ∙ sym (ap (λ names. slice_index_or names 0 None) unnamed);
  };
  sent = sent_here put;
})
