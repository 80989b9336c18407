-- From the encoder's effect on a buffer to the contents of the caller's memory.
use Rattle.std.proofs.Common.{◌≡◌, ◌≤◌, ◌<◌, ◌^◌, ◌==◌, ◌⊎◌, inl, inr, ℕ, true, false, nat_lt, Bor, List, [], ◌∷◌, ◌++◌, length, take, take_all, Option, Some, None, Result, Ok, Err, refl, sym, ap, ◌∙◌, subst, arith, append_assoc, true≢false}
use Rattle.std.specs.Prelude.{is_some, option_to_list, option_map, unwrap_or, IfSome, slice_index_or, zero, suc}
use Rattle.std.specs.Option.{option_map_or}
use Rattle.std.specs.Io.KnownBytes.{Consumes}
use Rattle.std.proofs.lemmas.Bool.Decides.{nat_tests}
use Rattle.std.proofs.lemmas.List.{take-take}
use Rattle.std.proofs.Math.Seq.{take-length}
use Rattle.t85_core.specs.Change.{between}
use Rattle.pbm_core.specs.Pbm.{bytes_of_row}
use Rattle.pbm_core.specs.declared.fault.PbmFault.TheVariants.{Truncated, BadDigit, Read as PbmRead}
use Rattle.pbm_core.specs.declared.form.Form.TheVariants.{Raw}
use Rattle.raster_core.specs.Raster.{Raster, IsRaster}
use Rattle.t85_core.specs.declared.fault.Fault.{Fault}
use Rattle.t85_core.specs.declared.fault.Fault.TheVariants.{Write, AnnouncedLow, Pbm}
use Rattle.t85_core.specs.declared.options.Options.{Options}
use Rattle.t85_core.specs.Encode.{Encode, WritesCodeFront, BeginsWith, IsBeginning, raster_of, layout_of}
use Rattle.t85_core.specs.Jbg.{Settings, AreSettings, IsAnnounced, is_low, jbg}
use Rattle.t85_core.specs.Laws.{CodeDenotes}
use Rattle.t85_core.specs.Options.{settings_of}
use Rattle.libt85.specs.Delivered.{answer_status, IsEmptyRoom}
use Rattle.libt85.specs.Encoded.{DeliversCode, asked}
use Rattle.libt85.proofs.TextIsDelivered.{none_failed, fits_in, full_of}
use Rattle.libt85.specs.declared.memory.Room.{Room}
use Rattle.pbm_core.specs.declared.size.Size.{Size}
use Rattle.libt85.proofs.RoomSuffices.{all_within, nothing_in, text_of}
use Rattle.libt85.proofs.ConsumerTakesRows.{not_spilled, spilled_by}
use Rattle.libt85.proofs.BytesHoldRows.{RowsOf, rows_of, ends_within, first_rows}

comment_fits : (o : Option (Bor (List ℕ))) → option_map_or (λ c. length c.now) o 0 < 2 ^ 32 → length (unwrap_or (option_map (λ c. c.now) o) []) < 2 ^ 32
comment_fits None fits = fits
comment_fits (Some c) fits = fits

announced_small : (o : Option ℕ) → option_map_or (λ n. n) o 0 < 2 ^ 32 → unwrap_or o 0 < 2 ^ 32
announced_small None fits = fits
announced_small (Some n) fits = fits

abbrev no_names : List (Option ℕ)
no_names = []

none_named : (most i : ℕ) → IfSome (slice_index_or no_names i None) (λ t. t ≤ most)
none_named most zero = tt
none_named most (suc i) = tt

-- what options say is in its ranges
pub are_settings : (o : Options) → AreSettings (settings_of o)
are_settings o = record {
  options_to = o.no_reserved_bit;
  no_low_bit = o.no_low_bit;
  no_layer_bit = ap (λ n. n == 1) o.no_layer_bit;
  stripe_from = o.some_rows;
  stripe_to = o.not_too_many;
  offset_to = o.in_range;
  announced_to = announced_small o.announced o.announced_fits;
  comment_to = comment_fits o.comment o.comment_fits;
  named_to = none_named o.most_offset;
}

not_low : (a b : ℕ) → nat_lt a b ≡ false → b ≤ a
not_low a b e = grind (arith, nat_tests)

module _ (s : Settings) (width height' : ℕ) (body memory : List ℕ) (len : ℕ) (low : is_low s height' ≡ false) where
  by_fault : (in_new : Option (List ℕ)) (f : Fault) → len ≤ length memory →
      Encode s (layout_of Raw width height') (between (Some body) in_new 0 0) (between (Some []) (Some (take len memory)) 0 0) (Err f) →
      DeliversCode (asked s width height') body memory len (answer_status (Err f))
  by_fault in_new (Pbm Truncated) within d =
      let w = d.short Truncated (λ e. absurd (let bot : ⊥ = cc in bot)) refl in
      inr (record {
        rows = w.rows;
        rest = w.rest;
        holds = w.holds;
        few = w.few;
        part = w.part;
        writes = inl (record { text = w.text; begun = w.begun; fits = fits_in w.text 36 memory len 36 w.appends within refl });
      })
  by_fault in_new (Pbm PbmRead) within d = absurd (omega (arith, d.reads))
  by_fault in_new (Pbm BadDigit) within d =
      let w = d.short BadDigit (λ e. absurd (let bot : ⊥ = cc in bot)) refl in
      let same : BadDigit ≡ Truncated = w.part.shows.1 in
      absurd (let bot : ⊥ = cc in bot)
  by_fault in_new Write within d = absurd (omega (arith, d.writes))
  by_fault in_new AnnouncedLow within d = absurd (true≢false (sym (d.low refl).0 ∙ low))
  by_fault in_new f within d = absurd (d.among (λ e. absurd (let bot : ⊥ = cc in bot)))

  by_answer : (in_new : Option (List ℕ)) (answer : Result (Unit {0}) Fault) → len ≤ length memory →
      Encode s (layout_of Raw width height') (between (Some body) in_new 0 0) (between (Some []) (Some (take len memory)) 0 0) answer →
      DeliversCode (asked s width height') body memory len (answer_status answer)
  by_answer in_new (Ok u) within d =
      let w = d.whole in
      inl (record {
        rows = w.rows;
        rest = w.rest;
        holds = w.holds;
        many = w.many;
        denotes = w.denotes;
        delivers = inl (fits_in (jbg s (raster_of width w.rows)) 0 memory len 0 w.appends within refl);
      })
  by_answer in_new (Err f) within d = by_fault in_new f within d

  module _ (law : CodeDenotes) (proper : AreSettings s) (width_from : 1 ≤ width) (width_to : width ≤ 2 ^ 20) (height_from : 1 ≤ height') (height_to : height' < 2 ^ 32)
      (all : len ≡ length memory) (b : ℕ) where
    -- the code of each raster that begins with the rows that are there begins with the memory and another byte
    each : (given left : List ℕ) → body ≡ given ++ left → WritesCodeFront s (layout_of Raw width height') given (Some []) (Some (take len memory ++ b ∷ [])) → (held : RowsOf width height' body) →
        (raster : Raster) → BeginsWith width height' held.rows raster → IsBeginning (take len memory ++ b ∷ []) (jbg s raster)
    each given left taken w held raster begins =
        let same : w.holds.front ++ (w.rest ++ left) ≡ held.holds.front ++ held.rest =
        sym (append_assoc w.holds.front w.rest left) ∙ ap (λ l. l ++ left) (sym w.holds.bytes_are) ∙ sym taken ∙ held.holds.bytes_are in
        let few : length w.rows ≤ height' = w.few in
        let ends = elim held.ends as (λ _. (length w.rows ≤ length held.rows) ⊎ (length held.rest < bytes_of_row width)) [ inl many ↦ inl (omega arith) | inr some ↦ inr some.1 ] in
        let first = first_rows width w.rows held.rows w.holds.front (w.rest ++ left) held.holds.front held.rest same w.holds.are_rows held.holds.are_rows ends in
        let begun = w.begins raster (record {
          proper = begins.proper;
          width_is = begins.width_is;
          height_is = begins.height_is;
          first = sym (take-take (length w.rows) (length held.rows) raster.rows first.0) ∙ ap (take (length w.rows)) begins.first ∙ first.1;
        }) in
        record { rest = begun.rest; bytes_are = begun.bytes_are ∙ ap (λ l. l ++ begun.rest) (sym w.appends) }

    whole_memory : take len memory ≡ memory
    whole_memory = take_all len memory (omega (arith, all))

    is_raster : (held : RowsOf width height' body) → length held.rows ≡ height' → IsRaster (raster_of width held.rows)
    is_raster held many = record { width_from = width_from; width_to = width_to; height_from = omega arith; height_to = omega arith; rows = held.wide }

    filled : (given left : List ℕ) → body ≡ given ++ left → WritesCodeFront s (layout_of Raw width height') given (Some []) (Some (take len memory ++ b ∷ [])) → (held : RowsOf width height' body) →
        DeliversCode (asked s width height') body memory len 18
    filled given left taken w held = elim held.ends [
      | inl many ↦
          let raster : Raster = raster_of width held.rows in
          let is : IsRaster raster = is_raster held many in
          let begins : BeginsWith width height' held.rows raster = record { proper = is; width_is = refl; height_is = many; first = take-length held.rows } in
          inl (record {
            rows = held.rows;
            rest = held.rest;
            holds = held.holds;
            many = many;
            denotes = law s raster proper is (subst (λ n. IsAnnounced s n) (sym many) (not_low (unwrap_or s.announced height') height' low));
            delivers = inr (let more = each given left taken w held raster begins in full_of (jbg s raster) memory b more.rest len more.bytes_are all);
          })
      | inr few ↦
          inr (record {
            rows = held.rows;
            rest = held.rest;
            holds = held.holds;
            few = few.0;
            part = ends_within width held.rest few.1;
            writes = inr (record {
              next = b;
              begins = λ raster begins. rw (← whole_memory) (each given left taken w held raster begins);
              written_is = all;
              answer_is = refl;
            });
          })
    ]

    begun : (in_new : Option (List ℕ)) (given : List ℕ) → Consumes (Some body) in_new given → WritesCodeFront s (layout_of Raw width height') given (Some []) (Some (take len memory ++ b ∷ [])) →
        DeliversCode (asked s width height') body memory len 18
    begun None given taken w = absurd taken
    begun (Some left) given taken w = filled given left taken w (rows_of width height' body)

pub stored : {s : Settings} {width height' : ℕ} {body : List ℕ} {in_new : Option (List ℕ)} {answer : Result (Unit {0}) Fault} (room out : Room) → is_low s height' ≡ false → IsEmptyRoom room →
    is_some out.spilled ≡ false → Encode s (layout_of Raw width height') (between (Some body) in_new 0 0) (between (Some (text_of room)) (Some (text_of out)) room.failures out.failures) answer →
    DeliversCode (asked s width height') body out.bytes.now out.len (answer_status answer)
stored {s} {width} {height'} {body} {in_new} {answer} room out low empty none d =
    let within = all_within out (not_spilled out.spilled (λ e. true≢false (sym e ∙ none))) in
    by_answer s width height' body out.bytes.now out.len low in_new answer out.within
    (rw (empty.0, none_failed out.failures (is_some out.spilled) none out.full, nothing_in room empty, within) at d)

pub overfull : {body : List ℕ} {in_new : Option (List ℕ)} {answer : Result (Unit {0}) Fault} (o : Options) (size : Size) (room out : Room) → CodeDenotes → size.height < 2 ^ 32 →
    is_low (settings_of o) size.height ≡ false → IsEmptyRoom room → is_some out.spilled ≡ true →
    Encode (settings_of o) (layout_of Raw size.width size.height) (between (Some body) in_new 0 0) (between (Some (text_of room)) (Some (text_of out)) room.failures out.failures) answer →
    DeliversCode (asked (settings_of o) size.width size.height) body out.bytes.now out.len 18
overfull {body} {in_new} o size room out law tall low empty some d =
    let spill = spilled_by out.spilled some in
    let text_is : text_of out ≡ take out.len out.bytes.now ++ spill.0 ∷ [] = ap (λ z. take out.len out.bytes.now ++ option_to_list z) spill.1 in
    begun (settings_of o) size.width size.height body out.bytes.now out.len low law (are_settings o) size.some_width size.not_too_wide size.some_height tall
    (out.spilled_last some) spill.0 in_new d.front.0 d.front.1
    (rw (nothing_in room empty, text_is) at d.front.2)
