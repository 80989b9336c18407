-- The output for each raster that is still possible.
use Rattle.std.proofs.Common.{◌≡◌, ℕ, zero, suc, ◌+◌, ◌-◌, ◌*◌, ◌<◌, ◌≤◌, ◌⊎◌, inl, inr, nat_lt, true, false, Bool, List, [], ◌++◌, length, refl, sym, ◌∙◌, ap, subst, arith, Option, None, Some, append_assoc, append-nil, length-append}
use Rattle.std.specs.Prelude.{min, unwrap_or, option_map}
use Rattle.std.proofs.lemmas.Grind.{div_ceil_times}
use Rattle.std.proofs.lemmas.Bool.Decides.{nat_tests}
use Rattle.std.proofs.lemmas.List.{take-take}
use Rattle.std.proofs.Math.Seq.{take-append_seam}
use Rattle.qm_core.specs.Code.{code_of}
use Rattle.raster_core.specs.Offset.{chosen_offset}
use Rattle.t85_core.specs.Coding.{mode_of}
use Rattle.t85_core.specs.States.State.{first_row_start, next_stripe_start}
use Rattle.raster_core.specs.Raster.{Raster, height, white_row}
use Rattle.t85_core.specs.Grammar.{Stripe, stripe_bytes, stripe_count}
use Rattle.t85_core.specs.Jbg.{Settings, moved_to, move_segments, coding_of, coded_stripe, head_of, stripes_up_to, jbg_up_to, jbg, ending}
use Rattle.t85_core.specs.Encode.{IsBeginning}
use Rattle.t85_core.specs.States.Written.{EncoderStart, after_rows, lines_down}
use Rattle.t85_core.specs.Private.Written.{first_encoder_start, next_stripe, next_encoder_start}
use Rattle.t85_core.specs.States.RowStream.{FrontStands, StripesWhole}
use Rattle.t85_core.specs.RowImage.{MayCome, Image, SameNames, naming}
use Rattle.t85_core.proofs.ImagesEncode.EncoderCarriesState.{CourseGoes, course_begins, course_step, stripes_more}
use Rattle.t85_core.proofs.ImagesEncode.RowsContinue.{RowsGoOn, front_splits, rows_continue, rows_go_on}

-- a raster that begins with rows begins with the first of them
pub come_first : {image : Image} {raster : Raster} {first : List (List Bool)} (rows : List (List Bool)) → MayCome image (first ++ rows) raster → MayCome image first raster
come_first {raster} {first} rows b = record {
  proper = b.proper;
  width_is = b.width_is;
  height_to = b.height_to;
  height_is = b.height_is;
  first =
      rw (← take-take (length first) (length (first ++ rows)) raster.rows (omega (arith, length-append first rows)), b.first) (take-append_seam first rows);
}

-- it has them all
pub come_long : {image : Image} {rows : List (List Bool)} {raster : Raster} → MayCome image rows raster → length rows ≤ height raster
come_long {rows} {raster} b = (front_splits b.first).0

pub same_announced : (o : Option ℕ) (a b : ℕ) → (o ≡ None → a ≡ b) → unwrap_or o a ≡ unwrap_or o b
same_announced None a b h = h refl
same_announced (Some n) a b h = refl

-- the head of each raster that may come
pub come_head : {image : Image} {rows : List (List Bool)} {raster : Raster} → MayCome image rows raster →
    head_of image.settings image.width image.limit ≡ head_of image.settings raster.width (height raster)
come_head {image} {raster} b =
    rw (← b.width_is, same_announced image.settings.announced image.limit (height raster) (λ none. sym (b.height_is none)))

-- nothing but the head
none_stands : {image : Image} → FrontStands image 0 [] (first_encoder_start image.width) (head_of image.settings image.width image.limit)
none_stands {image} = record {
  front_is = λ raster b. come_head b ∙ sym (append-nil (head_of image.settings raster.width (height raster)));
  course = λ raster b _. rw (← b.width_is) (course_begins);
}

pub none_whole : {image : Image} → StripesWhole image 0 [] (first_encoder_start image.width) (head_of image.settings image.width image.limit)
none_whole = record {
  many = omega arith;
  stripe_is = refl;
  stands = λ names _. none_stands;
}

-- where the encoder stands with the names that were given
pub stands_here : {image : Image} {i : ℕ} {rows : List (List Bool)} {at : EncoderStart} {front : List ℕ} → StripesWhole image i rows at front → FrontStands image i rows at front
stands_here {image} so = so.stands image.settings.named (λ j _. refl)

-- the same where later stripes get other names
pub stands_anew : {image : Image} {i : ℕ} {rows : List (List Bool)} {at : EncoderStart} {front : List ℕ} → StripesWhole image i rows at front → (names : List (Option ℕ)) →
    SameNames i image.settings.named names → StripesWhole (naming image names) i rows at front
stands_anew so names same = record {
  many = so.many;
  stripe_is = so.stripe_is;
  stands = λ names' same'. so.stands names' (λ j lt. same j lt ∙ same' j lt);
}

pub less_or_not : (a b : ℕ) → (a < b) ⊎ (b ≤ a)
less_or_not a b = went (nat_lt a b) refl where
  went : (is : Bool) → nat_lt a b ≡ is → (a < b) ⊎ (b ≤ a)
  went true e = inl (grind (arith, nat_tests, e))
  went false e = inr (grind (arith, nat_tests, e))

-- a stripe that begins within n rows is one of their stripes
pub inside_of : (n l i : ℕ) → 1 ≤ l → i * l < n → i < stripe_count n l
inside_of n l i some within = went (less_or_not i (stripe_count n l)) where
  went : (i < stripe_count n l) ⊎ (stripe_count n l ≤ i) → i < stripe_count n l
  went (inl h) = h
  went (inr h) =
      let times = (div_ceil_times n l some).0 in
      let down : stripe_count n l * l ≤ i * l = Rattle.std.proofs.Math.Nat.mul-le-mul_right l h in
      absurd (omega (arith, within))

-- the first stripes begin more of them
stripes_begin : (s : Settings) (raster : Raster) (n m : ℕ) → IsBeginning (stripes_up_to s raster n) (stripes_up_to s raster (n + m))
stripes_begin s raster n zero = record { rest = []; bytes_are = let same : n + 0 ≡ n = omega arith in ap (stripes_up_to s raster) same ∙ sym (append-nil (stripes_up_to s raster n)) }
stripes_begin s raster n (suc m) =
    let b = stripes_begin s raster n m in
    let same : n + suc m ≡ (n + m) + 1 = omega arith in
    record {
      rest = b.rest ++ stripe_bytes (coded_stripe (coding_of s raster) (n + m));
      bytes_are =
          rw (same, stripes_more s raster (n + m), b.bytes_are) (append_assoc (stripes_up_to s raster n) b.rest (stripe_bytes (coded_stripe (coding_of s raster) (n + m))));
    }

-- a beginning of the stream up to some stripe is one of the stream
pub front_begins : {bytes : List ℕ} (s : Settings) (raster : Raster) (n : ℕ) → n ≤ stripe_count (height raster) s.stripe_rows → IsBeginning bytes (jbg_up_to s raster n) →
    IsBeginning bytes (jbg s raster)
front_begins {bytes} s raster n few b = record { rest = b.rest ++ (more.rest ++ ending s (height raster)); bytes_are = all_are } where
  count : ℕ
  count = stripe_count (height raster) s.stripe_rows

  head : List ℕ
  head = head_of s raster.width (height raster)

  same : n + (count - n) ≡ count
  same = omega arith

  more : IsBeginning (stripes_up_to s raster n) (stripes_up_to s raster count)
  more = subst (λ k. IsBeginning (stripes_up_to s raster n) (stripes_up_to s raster k)) same (stripes_begin s raster n (count - n))

  all_are : jbg s raster ≡ bytes ++ (b.rest ++ (more.rest ++ ending s (height raster)))
  all_are =
      ap (λ z. (head ++ z) ++ ending s (height raster)) more.bytes_are
      ∙ ap (λ z. z ++ ending s (height raster)) (sym (append_assoc head (stripes_up_to s raster n) more.rest))
      ∙ append_assoc (jbg_up_to s raster n) more.rest (ending s (height raster))
      ∙ ap (λ z. z ++ (more.rest ++ ending s (height raster))) b.bytes_are
      ∙ append_assoc bytes b.rest (more.rest ++ ending s (height raster))

-- a stripe more
pub up_to_more : (s : Settings) (raster : Raster) (i : ℕ) → jbg_up_to s raster (i + 1) ≡ jbg_up_to s raster i ++ stripe_bytes (coded_stripe (coding_of s raster) i)
up_to_more s raster i =
    rw (stripes_more s raster i, ← append_assoc (head_of s raster.width (height raster)) (stripes_up_to s raster i) (stripe_bytes (coded_stripe (coding_of s raster) i)))

module _ {image : Image} {i : ℕ} {whole : List (List Bool)} {at : EncoderStart} {front : List ℕ} (some : 1 ≤ image.settings.stripe_rows) (so : StripesWhole image i whole at front) where
  abbrev l : ℕ
  l = image.settings.stripe_rows

  here : FrontStands image i whole at front
  here = stands_here so

  -- the stripe of a raster that begins so
  pub stripe_comes : {raster : Raster} {part : List (List Bool)} → MayCome image (whole ++ part) raster → i * l < height raster → length part ≡ min l (height raster - i * l) →
      CourseGoes image.settings raster i at part
  stripe_comes {raster} {part} b within enough =
      course_step part some (inside_of (height raster) l i some within) (here.course raster (come_first part b) within)
      (rows_continue (white_row raster.width) raster.rows whole part b.first so.many) enough

  next_bytes : {part : List (List Bool)} {raster : Raster} → raster.width ≡ image.width → CourseGoes image.settings raster i at part →
      stripe_bytes (next_stripe image.settings image.width at part) ≡ stripe_bytes (coded_stripe (coding_of image.settings raster) i)
  next_bytes {part} {raster} wide goes = ap stripe_bytes (subst (λ w. next_stripe image.settings w at part ≡ coded_stripe (coding_of image.settings raster) i) wide goes.stripe)

  -- the stream up to there, with this stripe
  pub stripe_more : {raster : Raster} (part : List (List Bool)) → MayCome image (whole ++ part) raster → i * l < height raster → length part ≡ min l (height raster - i * l) →
      front ++ stripe_bytes (next_stripe image.settings image.width at part) ≡ jbg_up_to image.settings raster (i + 1)
  stripe_more {raster} part b within enough =
      ap (λ z. z ++ stripe_bytes (next_stripe image.settings image.width at part)) (here.front_is raster (come_first part b))
      ∙ ap (λ z. jbg_up_to image.settings raster i ++ z) (next_bytes b.width_is (stripe_comes b within enough))
      ∙ sym (up_to_more image.settings raster i)

  -- a beginning of each stripe that begins with these rows, after those that are whole
  pub part_begins : {raster : Raster} (part : List (List Bool)) (bytes : List ℕ) → length part ≤ l →
      ((later : List (List Bool)) → IsBeginning bytes (stripe_bytes (next_stripe image.settings image.width at (part ++ later)))) → MayCome image (whole ++ part) raster →
      i * l < height raster →
      IsBeginning (front ++ bytes) (jbg image.settings raster)
  part_begins {raster} part bytes few begins b within =
      front_begins image.settings raster (i + 1) (let inside = inside_of (height raster) l i some within in omega arith) (record {
        rest = p.rest;
        bytes_are =
            up_to_more image.settings raster i
            ∙ ap (λ z. z ++ stripe_bytes (coded_stripe (coding_of image.settings raster) i)) (sym (here.front_is raster first))
            ∙ ap (λ z. front ++ z) (sym (next_bytes b.width_is goes) ∙ p.bytes_are)
            ∙ sym (append_assoc front bytes p.rest);
      })
    where
      first : MayCome image whole raster
      first = come_first part b

      long : length part ≤ min l (height raster - i * l)
      long = (let all = come_long b in omega (arith, all, length-append whole part))

      go : RowsGoOn (white_row raster.width) raster.rows (i * l) l part
      go = rows_go_on whole b.first so.many long

      goes : CourseGoes image.settings raster i at (part ++ go.later)
      goes = course_step (part ++ go.later) some (inside_of (height raster) l i some within) (here.course raster first within) go.continues (length-append part go.later ∙ go.many)

      p : IsBeginning bytes (stripe_bytes (next_stripe image.settings image.width at (part ++ go.later)))
      p = begins go.later

  rows_more : (part : List (List Bool)) → length part ≡ l → length (whole ++ part) ≡ (i + 1) * l
  rows_more part enough = let product : (i + 1) * l ≡ i * l + 1 * l = Rattle.std.proofs.Math.Nat.add-mul i 1 l in omega (arith, length-append whole part)

  -- a stripe with all its rows
  part_stands : (part : List (List Bool)) → length part ≡ l →
      FrontStands image (i + 1) (whole ++ part) (next_encoder_start image.settings image.width at part) (front ++ stripe_bytes (next_stripe image.settings image.width at part))
  part_stands part enough = record {
    front_is = λ raster b. stripe_more part b (within raster b) (all raster b);
    course = λ raster b more. rw (← b.width_is) ((stripe_comes b (within raster b) (all raster b)).next (inside_of (height raster) l (i + 1) some more));
  } where
    long : (raster : Raster) → MayCome image (whole ++ part) raster → i * l + l ≤ height raster
    long raster b = (let has = come_long b in omega (arith, length-append whole part))

    within : (raster : Raster) → MayCome image (whole ++ part) raster → i * l < height raster
    within raster b = omega (arith, long raster b)

    all : (raster : Raster) → MayCome image (whole ++ part) raster → length part ≡ min l (height raster - i * l)
    all raster b = omega (arith, long raster b)

-- what is written for a stripe is the same where its own name is
module _ {image : Image} {i : ℕ} {whole : List (List Bool)} {at : EncoderStart} {front : List ℕ} (some : 1 ≤ image.settings.stripe_rows) (so : StripesWhole image i whole at front)
    (part : List (List Bool)) (enough : length part ≡ image.settings.stripe_rows) where
  start_with : Option (ℕ × ℕ) → EncoderStart
  start_with move = record {
    stripe = suc at.stripe;
    carry = next_stripe_start image.width image.settings.reset (after_rows (mode_of image.settings.options) move 0 (first_row_start at.carry) part);
    counted = lines_down at.carry.above at.carry.second part;
  }

  stripe_with : Option (ℕ × ℕ) → Stripe
  stripe_with move = record {
    segments = move_segments move;
    code = code_of (after_rows (mode_of image.settings.options) move 0 (first_row_start at.carry) part).state.place;
    reset = image.settings.reset;
  }

  move_named : Option ℕ → Option (ℕ × ℕ)
  move_named name = option_map (λ t. (0, t)) (moved_to name at.carry.offset
      (chosen_offset (mode_of image.settings.options).two_line image.settings.most_offset image.width at.counted at.carry.offset))

  -- with all its rows, whatever is named for the stripes after it
  pub whole_more : StripesWhole image (i + 1) (whole ++ part) (next_encoder_start image.settings image.width at part) (front ++ stripe_bytes (next_stripe image.settings image.width at part))
  unfolding start_with stripe_with move_named
  whole_more = record {
    many = rows_more some so part enough;
    stripe_is = (let is = so.stripe_is in omega arith);
    stands = λ names same.
        let anew = stands_anew so names (λ j lt. same j (omega arith)) in
        let name = sym (same at.stripe (let is = so.stripe_is in omega arith)) in
        rw (← name) (part_stands some anew part enough);
  }
