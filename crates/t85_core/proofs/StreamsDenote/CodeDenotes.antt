-- The stream that is written for a raster denotes it.
use Rattle.std.proofs.Common.{◌≡◌, ◌⊎◌, inl, inr, ℕ, zero, suc, ◌+◌, ◌*◌, ◌<◌, ◌≤◌, ◌%◌, ◌^◌, true, false, nat_lt, List, [], ◌∷◌, ◌++◌, length, map, refl, sym, ◌∙◌, ap, subst, arith, Option, None, Some, append-nil, append_assoc}
use Rattle.std.specs.Prelude.{slice_index_or, flat_map, IsTrue, is_some, unwrap_or, if◌then◌else◌}
use Rattle.std.specs.List.{AllByRecursion}
use Rattle.std.proofs.lemmas.Grind.{div_ceil_times}
use Rattle.std.proofs.lemmas.Bool.{cases_lt}
use Rattle.std.proofs.lemmas.Bool.Decides.{nat_tests}
use Rattle.std.proofs.Math.Nat.{lt_of_mul-lt-mul_right}
use Rattle.std.proofs.lemmas.List.{length-map, length-replicate}
use Rattle.std.proofs.lemmas.List.Folds.{flat_map-map}
use Rattle.std.proofs.lemmas.Simd.{map-map}
use Rattle.qm_core.specs.Place.{IsPlace}
use Rattle.qm_core.specs.Code.{Lies, code_of}
use Rattle.raster_core.specs.Raster.{Raster, IsRaster, height}
use Rattle.raster_core.specs.Lines.{Lines, numbers_from, may_be_typical}
use Rattle.raster_core.specs.Offset.{chosen_offset}
use Rattle.t85_core.specs.Header.{Fields, IsAccepted}
use Rattle.t85_core.specs.Grammar.{Segment, NewLength, Stripe, IsBegun, AreStripes, GiveOnly, segment_bytes, marker_bytes, lengths, all_segments, stripe_bytes, stripe_count}
use Rattle.t85_core.specs.Coding.{Coding, HasLegalFlags, move_of, rows_of, lines_of, learned_at, begun, events_of, place_of}
use Rattle.t85_core.specs.Denotes.{Denotes, EachLies, coding_in}
use Rattle.t85_core.specs.Height.{GivesHeight, IsHeight}
use Rattle.t85_core.specs.Jbg.{Settings, AreSettings, IsAnnounced, written_options, header_of, ending, cut, coding_of, canonical_flags, named_for, first_choice, choice_after, current_offset, move_before, move_segments, coded_stripe, stripes_of, jbg}
use Rattle.t85_core.specs.Private.CoderLaws.{WritingLaws}
use Rattle.t85_core.proofs.BytesJoin.SegmentsGiveHeights.{lengths_append, gives_none, valid_in_use}
use Rattle.t85_core.proofs.BodiesParse.BodyHasOneReading.{one_front, parts_or_fault}
use Rattle.t85_core.proofs.BodiesParse.BodyHasOneHeight.{never_suits, given_breaks}
use Rattle.t85_core.proofs.ImagesEncode.EncoderCarriesRows.{get_mapped, same_lines, flag_is_typical}
use Rattle.t85_core.proofs.StreamsDenote.HeaderIsWritten.{WrittenBits, header_begins, written_bits}
use Rattle.t85_core.proofs.StreamsDenote.StripesMakeBody.{length_mapped, mapped_is, all_mapped, chosen_within, moved_within, with_first, with_first_bytes, with_first_map, with_first_all, comments, move_behind, move_alone, begun_with_comment, begun_with_move}

-- ---- segments that give no height

no_height_in_move : (move : Option (ℕ × ℕ)) → lengths (move_segments move) ≡ []
no_height_in_move None = refl
no_height_in_move (Some to) = refl

no_height_in_comment : (comment : Option (List ℕ)) (segments : List Segment) → lengths (comments comment ++ segments) ≡ lengths segments
no_height_in_comment None segments = refl
no_height_in_comment (Some text) segments = refl

no_height_in_stripes : (c : Coding) (k n : ℕ) → lengths (all_segments (map (coded_stripe c) (numbers_from k n))) ≡ []
no_height_in_stripes c k zero = refl
no_height_in_stripes c k (suc n) =
    lengths_append (coded_stripe c k).segments (all_segments (map (coded_stripe c) (numbers_from (k + 1) n)))
    ∙ ap (λ u. u ++ lengths (all_segments (map (coded_stripe c) (numbers_from (k + 1) n)))) (no_height_in_move (slice_index_or c.moves k None))
    ∙ no_height_in_stripes c (k + 1) n

no_height_in_first : (comment : Option (List ℕ)) (xs : List Stripe) → lengths (all_segments (with_first (comments comment) xs)) ≡ lengths (all_segments xs)
no_height_in_first comment [] = refl
no_height_in_first comment (x ∷ xs) =
    ap lengths (append_assoc (comments comment) x.segments (all_segments xs)) ∙ no_height_in_comment comment (x.segments ++ all_segments xs)

more_stripes : (a b l : ℕ) → 0 < l → a ≤ b → stripe_count a l ≤ stripe_count b l
more_stripes a b l some le =
    let t = div_ceil_times a l some in
    let u = div_ceil_times b l some in
    let lt : stripe_count a l * l < (stripe_count b l + 1) * l = omega arith in
    let lt' : stripe_count a l < stripe_count b l + 1 = lt_of_mul-lt-mul_right l lt in
    omega arith

module _ (q : WritingLaws) (s : Settings) (raster : Raster) (proper : AreSettings s) (is : IsRaster raster) (announced : IsAnnounced s (height raster)) where
  abbrev c : Coding
  c = coding_of s raster

  abbrev n : ℕ
  n = stripe_count (height raster) s.stripe_rows

  -- the raster as cut, before offsets are chosen
  abbrev raw : Coding
  raw = cut s raster

  abbrev h : Fields
  h = header_of s raster.width (height raster)

  -- the stripes as they are written, and with the comment before the first
  abbrev written : List Stripe
  written = map (coded_stripe c) (numbers_from 0 n)

  abbrev stripes : List Stripe
  stripes = with_first (comments s.comment) written

  bits : WrittenBits s
  bits = written_bits s proper

  announced_small : (o : Option ℕ) → unwrap_or o 0 < 2 ^ 32 → unwrap_or o (height raster) < 2 ^ 32
  announced_small None p = is.height_to
  announced_small (Some a) p = p

  accepted : IsAccepted h
  accepted = record {
    width_from = is.width_from;
    width_to = is.width_to;
    height_from = (let a : height raster ≤ unwrap_or s.announced (height raster) = announced in omega arith);
    height_to = announced_small s.announced proper.announced_to;
    stripe_from = proper.stripe_from;
    stripe_to = proper.stripe_to;
    offset_to = proper.offset_to;
    options_to = bits.small;
    no_table = (let e : written_options s % 8 ≡ 0 = bits.low ∙ proper.no_low_bit in omega arith);
  }

  some_stripes : 0 < stripe_count (height raster) s.stripe_rows
  some_stripes =
      let times = div_ceil_times (height raster) s.stripe_rows proper.stripe_from in
      grind (arith, times.0, is.height_from)

  many_stripes : length stripes ≡ n
  many_stripes =
      sym (length-map stripes (λ x. x.reset))
      ∙ ap length (with_first_map (λ x. x.reset) (comments s.comment) (λ x. refl) written)
      ∙ length-map written (λ x. x.reset)
      ∙ length_mapped (coded_stripe c) 0 n

  -- ---- what the stripes say

  move_at : (i : ℕ) → i < n → slice_index_or c.moves i None ≡ move_before s raw i
  move_at i lt = let at : 0 + i ≡ i = omega arith in get_mapped (move_before s raw) 0 n i None lt ∙ ap (move_before s raw) at

  moves_are : map (λ x. move_of x.segments) stripes ≡ c.moves
  moves_are =
      let many : length c.moves ≡ n = length_mapped (move_before s raw) 0 n in
      with_first_map (λ x. move_of x.segments) (comments s.comment) (λ x. move_behind s.comment x.segments) written
      ∙ map-map (λ x. move_of x.segments) (coded_stripe c) (numbers_from 0 n)
      ∙ ap (λ k. map (λ i. move_of (move_segments (slice_index_or c.moves i None))) (numbers_from 0 k)) (sym many)
      ∙ mapped_is (λ i. move_of (move_segments (slice_index_or c.moves i None))) None c.moves (λ i lt. move_alone (slice_index_or c.moves i None))

  resets_are : map (λ x. x.reset) stripes ≡ c.resets
  resets_are =
      let many : length c.resets ≡ n = length-replicate n s.reset in
      with_first_map (λ x. x.reset) (comments s.comment) (λ x. refl) written
      ∙ map-map (λ x. x.reset) (coded_stripe c) (numbers_from 0 n)
      ∙ ap (λ k. map (λ i. slice_index_or c.resets i false) (numbers_from 0 k)) (sym many)
      ∙ mapped_is (λ i. slice_index_or c.resets i false) false c.resets (λ i lt. refl)

  codes_are : map (λ x. x.code) stripes ≡ map (λ i. code_of (place_of c i)) (numbers_from 0 n)
  codes_are =
      with_first_map (λ x. x.code) (comments s.comment) (λ x. refl) written
      ∙ map-map (λ x. x.code) (coded_stripe c) (numbers_from 0 n)

  -- they say how the raster is coded
  coding_is : coding_in h stripes (canonical_flags raw) raster.rows ≡ coding_of s raster
  coding_is = λ i. record { raster = raster; mode = bits.mode i; stripe_rows = s.stripe_rows; moves = moves_are i; resets = resets_are i; flags = canonical_flags raw }

  -- ---- codes

  place_is : (i : ℕ) → IsPlace (place_of c i)
  place_is i = q.events_keep_place (events_of c i) (begun (learned_at c i)) q.start_is_place

  begun_at : (i : ℕ) → i < n → IsBegun h (coded_stripe c i).segments (coded_stripe c i).code
  begun_at i lt = subst (λ m. IsBegun h (move_segments m) (code_of (place_of c i))) (sym (move_at i lt)) (chosen i) where
    bytes : (i : ℕ) → AllByRecursion (λ b. b < 256) (code_of (place_of c i))
    bytes i = (q.one_code (place_of c i) (place_is i)).is.bytes

    chosen : (i : ℕ) → IsBegun h (move_segments (move_before s raw i)) (code_of (place_of c i))
    chosen zero =
        begun_with_move h (first_choice s) (code_of (place_of c 0)) proper.stripe_from
        (moved_within (named_for s 0) s.most_offset 0 None (proper.named_to 0) tt)
        (bytes 0)
    chosen (suc i) =
        let current : ℕ = current_offset s raw i in
        let lines : List Lines = map (lines_of raw) (rows_of raw i) in
        let chosen = chosen_within raw.mode.two_line s.most_offset raster.width lines current in
        begun_with_move h (choice_after s raw i current) (code_of (place_of c (suc i))) proper.stripe_from
        (moved_within (named_for s (suc i)) s.most_offset current (chosen_offset raw.mode.two_line s.most_offset raster.width lines current) (proper.named_to (suc i)) chosen) (bytes (suc i))

  each : AreStripes h stripes
  each =
      with_first_all (λ x. IsBegun h x.segments x.code) (comments s.comment) (λ x b. begun_with_comment h s.comment proper.comment_to x.segments x.code b) written
      (all_mapped (λ x. IsBegun h x.segments x.code) (coded_stripe c) 0 n (λ i lt.
      let at : i ≡ 0 + i = omega arith in
      subst (λ z. IsBegun h (coded_stripe c z).segments (coded_stripe c z).code) at (begun_at i lt)))

  abbrev body : List ℕ
  body = (flat_map segment_bytes (comments s.comment) ++ stripes_of s raster) ++ ending s (height raster)

  body_is : body ≡ flat_map stripe_bytes stripes ++ ending s (height raster)
  body_is =
      let some : 0 < length written = (let e : length written ≡ n = length_mapped (coded_stripe c) 0 n in omega (arith, some_stripes)) in
      ap (λ z. z ++ ending s (height raster))
      (ap (λ z. flat_map segment_bytes (comments s.comment) ++ z) (sym (flat_map-map stripe_bytes (coded_stripe c) (numbers_from 0 n))) ∙ sym (with_first_bytes (comments s.comment) written some))

  -- ---- the height

  no_height : lengths (all_segments stripes) ≡ []
  no_height = no_height_in_first s.comment written ∙ no_height_in_stripes c 0 n

  gives : (height' : ℕ) → GiveOnly height' 0 (all_segments stripes)
  gives height' = gives_none height' 0 (all_segments stripes) (omega arith) no_height

  some_announced : (o : Option ℕ) → height raster < unwrap_or o (height raster) → is_some o ≡ true
  some_announced None less = absurd (omega arith)
  some_announced (Some a) less = refl

  height_is : IsHeight h body (height raster)
  height_is = went (cases_lt (height raster) (unwrap_or s.announced (height raster))) where
    went : (height raster < unwrap_or s.announced (height raster)) ⊎ (unwrap_or s.announced (height raster) ≤ height raster) → IsHeight h body (height raster)
    went (inl less) =
        let t : nat_lt (height raster) (unwrap_or s.announced (height raster)) ≡ true = grind (arith, nat_tests) in
        inl (record {
          variable = bits.variable (some_announced s.announced less);
          stripes = stripes;
          segments = [];
          rest = marker_bytes s.reset;
          body_is = body_is ∙ ap (λ b. flat_map stripe_bytes stripes ++ (if b then segment_bytes (NewLength (height raster)) ++ marker_bytes s.reset else [])) t;
          each = each;
          begun = record { legal = tt; one_move = omega arith; bytes = tt };
          first = ap lengths (append-nil (all_segments stripes)) ∙ no_height;
          within = (let m = more_stripes (height raster) (unwrap_or s.announced (height raster)) s.stripe_rows proper.stripe_from announced in omega (arith, many_stripes));
          behind = λ _. tt;
          valid = valid_in_use h (height raster) (length stripes) proper.stripe_from is.height_from announced (omega (arith, many_stripes));
        })
    went (inr least) =
        let t : nat_lt (height raster) (unwrap_or s.announced (height raster)) ≡ false = grind (arith, nat_tests) in
        let same : height raster ≡ unwrap_or s.announced (height raster) = (let a : height raster ≤ unwrap_or s.announced (height raster) = announced in omega arith) in
        let nothing : ending s (height raster) ≡ [] = ap (λ b. if b then segment_bytes (NewLength (height raster)) ++ marker_bytes s.reset else []) t in
        inr (same, λ other g. none_given nothing same other g)
      where
        none_given : ending s (height raster) ≡ [] → height raster ≡ unwrap_or s.announced (height raster) → (other : ℕ) → GivesHeight h body other → ⊥
        none_given nothing same other g = by (cases_lt (length g.stripes) (length stripes)) where
          as_many : length g.stripes ≤ n
          as_many = subst (λ y. length g.stripes ≤ stripe_count y s.stripe_rows) (sym same) g.within

          by : (length g.stripes < length stripes) ⊎ (length stripes ≤ length g.stripes) → ⊥
          by (inl less) =
              parts_or_fault accepted 0 (length stripes) (never_suits h (length stripes)) stripes g.stripes (ending s (height raster))
              each g.each (gives 0) (omega arith) less (given_breaks accepted body other g) (sym body_is ∙ g.body_is)
          by (inr more) =
              let count : length stripes ≡ length g.stripes = omega (arith, many_stripes, as_many) in
              let behind : List ℕ = flat_map segment_bytes g.segments ++ (segment_bytes (NewLength other) ++ g.rest) in
              let front = one_front accepted stripes g.stripes (ending s (height raster)) behind each g.each count (sym body_is ∙ g.body_is) in
              not_nil (flat_map segment_bytes g.segments) (sym nothing ∙ front.1)
            where
              not_nil : (xs : List ℕ) → [] ≡ xs ++ (segment_bytes (NewLength other) ++ g.rest) → ⊥
              not_nil [] e = cc
              not_nil (x ∷ xs) e = cc

  -- ---- flags and codes

  legal : HasLegalFlags (coding_of s raster)
  legal y lt flag =
      subst IsTrue (flag_is_typical s raster y lt ∙ ap (may_be_typical c.mode) (sym (same_lines s raster y))) flag

  code_at : (i : ℕ) → i < n → slice_index_or (map (λ x. x.code) stripes) i [] ≡ code_of (place_of c i)
  code_at i lt =
      let at : 0 + i ≡ i = omega arith in
      ap (λ z. slice_index_or z i []) codes_are ∙ get_mapped (λ i. code_of (place_of c i)) 0 n i [] lt ∙ ap (λ z. code_of (place_of c z)) at

  lies : EachLies (coding_of s raster) (map (λ x. x.code) stripes)
  lies i lt =
      let many : length (map (λ x. x.code) stripes) ≡ n = ap length codes_are ∙ length_mapped (λ i. code_of (place_of c i)) 0 n in
      subst (λ b. Lies b (place_of c i)) (sym (code_at i (omega arith))) (q.code_lies (place_of c i) (code_of (place_of c i)) (q.one_code (place_of c i) (place_is i)).is)

  pub code_denotes_at : Denotes (jbg s raster) raster
  code_denotes_at = record {
    header = h;
    header_of = header_begins h body accepted;
    height = height raster;
    height_is = height_is;
    denotes = record {
      parts = record { stripes = stripes; rest = ending s (height raster); body_is = body_is; count = many_stripes; each = each; gives = gives (height raster) };
      proper = is;
      width = refl;
      height = refl;
      flags = canonical_flags raw;
      legal = subst HasLegalFlags (sym coding_is) legal;
      lies = subst (λ z. EachLies z (map (λ x. x.code) stripes)) (sym coding_is) lies;
    };
  }
