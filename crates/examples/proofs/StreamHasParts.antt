-- The parts of the stream that is written for a raster.
use Rattle.std.proofs.Common.{◌≡◌, ℕ, zero, suc, ◌+◌, ◌-◌, ◌*◌, ◌/◌, ◌<◌, ◌≤◌, ◌^◌, Bool, true, false, List, [], ◌∷◌, ◌++◌, length, map, drop, min, refl, sym, ◌∙◌, ap, subst, arith, Option, None, Some, append_assoc}
use Rattle.std.specs.Prelude.{slice_index_or, if◌then◌else◌, flat_map, unwrap_or, option_map, option_and_then, option_to_list, nat_lt, nat_le, find, count_by, sum_by, is_some, IfSome, ◌==◌}
use Rattle.std.specs.Int.{bytes_high_first}
use Rattle.std.specs.List.{AllByRecursion, list_all}
use Rattle.std.proofs.lemmas.Grind.{flat_map-append, div_ceil_times}
use Rattle.std.proofs.lemmas.Bool.Decides.{nat_tests}
use Rattle.std.proofs.lemmas.List.Folds.{flat_map-map}
use Rattle.std.proofs.lemmas.List.Sums.{sum_by-cons}
use Rattle.qm_core.specs.Code.{code_of, stuffed}
use Rattle.qm_core.specs.Laws.{EventsKeepPlace, OneCode}
use Rattle.qm_core.specs.Place.{IsPlace, start}
use Rattle.raster_core.specs.Lines.{Lines, numbers_from}
use Rattle.raster_core.specs.Offset.{chosen_offset, best_offset, candidates, agreement}
use Rattle.raster_core.specs.Raster.{Raster, IsRaster, height}
use Rattle.t85_core.specs.Coding.{Coding, begun, events_of, learned_at, lines_of, place_of, rows_of}
use Rattle.t85_core.specs.Grammar.{Segment, NewLength, Move, Comment, Stripe, IsBegun, AreStripes, GiveOnly, Parts, all_segments, comments_in, is_comment, is_move, lengths, marker_bytes, moves_in, segment_bytes, stripe_bytes, stripe_count}
use Rattle.t85_core.specs.Denotes.{Denotes}
use Rattle.t85_core.specs.Header.{Fields, HeaderOf, long_at}
use Rattle.t85_core.specs.Height.{IsHeight}
use Rattle.t85_core.specs.Info.{HasLine, numbers_of, line_text}
use Rattle.t85_core.specs.Jbg.{Settings, AreSettings, named_for, moved_to, first_choice, choice_after, coded_stripe, coding_of, current_offset, cut, ending, header_of, jbg, move_before, move_segments}
use Rattle.examples.specs.Line.{line_numbers}
use Rattle.examples.proofs.StreamSplits.{same_fields}

-- ---- moves

found_within : (test : ℕ → Bool) (most k n : ℕ) → k + n ≤ most + 1 → IfSome (find test (numbers_from k n)) (λ t. t ≤ most)
found_within test most k zero room = tt
found_within test most k (suc n) room =
    let first : k ≤ most = omega (arith, room) in
    let rest = found_within test most (k + 1) n (omega (arith, room)) in
    elim (test k) as (λ b. IfSome (if b then Some k else find test (numbers_from (k + 1) n)) (λ t. t ≤ most)) [ true ↦ first | false ↦ rest ]

-- the offset that is chosen is a candidate, but for an empty list of these
candidates_within : (least most : ℕ) (test : ℕ → Bool) → IfSome (find test (numbers_from least (most + 1 - least))) (λ t. t ≤ most)
candidates_within least most test = went (nat_le least (most + 1)) refl where
  went : (b : Bool) → nat_le least (most + 1) ≡ b → IfSome (find test (numbers_from least (most + 1 - least))) (λ t. t ≤ most)
  went true e = found_within test most least (most + 1 - least) (let le : least ≤ most + 1 = grind (arith, nat_tests) in omega (arith, le))
  went false e =
      let none : most + 1 - least ≡ 0 = (let lt : most + 1 < least = grind (arith, nat_tests) in omega (arith, lt)) in
      subst (λ n. IfSome (find test (numbers_from least n)) (λ t. t ≤ most)) (sym none) tt

chosen_within : (two_line : Bool) (most width : ℕ) (stripe : List Lines) (current : ℕ) → IfSome (chosen_offset two_line most width stripe current) (λ t. t ≤ most)
chosen_within two_line most width stripe current =
    gains (best_offset stripe (candidates two_line most))
    (candidates_within (if two_line then 5 else 3) most (λ t. list_all (λ u. nat_le (agreement stripe u) (agreement stripe t)) (candidates two_line most))) where
      gains : (best : Option ℕ) → IfSome best (λ t. t ≤ most) →
          IfSome (option_and_then (λ t. if nat_lt (width * length stripe / 8) (agreement stripe t - agreement stripe current) then Some t else None) best) (λ t. t ≤ most)
      gains None within = tt
      gains (Some t) within = elim (nat_lt (width * length stripe / 8) (agreement stripe t - agreement stripe current)) as
          (λ b. IfSome (if b then Some t else None) (λ t. t ≤ most)) [ true ↦ within | false ↦ tt ]

-- and so is one that is named or chosen
moved_within : (named : Option ℕ) (most current : ℕ) (chosen : Option ℕ) → IfSome named (λ t. t ≤ most) → IfSome chosen (λ t. t ≤ most) → IfSome (moved_to named current chosen) (λ t. t ≤ most)
moved_within None most current chosen is within = within
moved_within (Some t) most current chosen is within =
    elim (t == current) as (λ b. IfSome (if b then None else Some t) (λ t. t ≤ most)) [ true ↦ tt | false ↦ is ]

-- ---- lists over numbers

get_mapped : {X : Type 0} (f : ℕ → X) (k n i : ℕ) (d : X) → i < n → slice_index_or (map f (numbers_from k n)) i d ≡ f (k + i)
get_mapped f k zero i d within = absurd (omega (arith, within))
get_mapped f k (suc n) zero d within = ap f (let e : k ≡ k + 0 = omega arith in e)
get_mapped f k (suc n) (suc i) d within = get_mapped f (k + 1) n i d (omega (arith, within)) ∙ ap f (let e : (k + 1) + i ≡ k + suc i = omega arith in e)

length_mapped : {X : Type 0} (f : ℕ → X) (k n : ℕ) → length (map f (numbers_from k n)) ≡ n
length_mapped f k zero = refl
length_mapped f k (suc n) = ap suc (length_mapped f (k + 1) n)

all_mapped : {X : Type 0} (P : X → Type 0) (f : ℕ → X) (k n : ℕ) → ((i : ℕ) → k ≤ i → i < k + n → P (f i)) → AllByRecursion P (map f (numbers_from k n))
all_mapped P f k zero each = tt
all_mapped P f k (suc n) each = (each k (omega arith) (omega arith), all_mapped P f (k + 1) n (λ i from to. each i (omega (arith, from)) (omega (arith, to))))

some_stripes : (n l rows : ℕ) → rows ≤ n * l → 1 ≤ rows → 1 ≤ n
some_stripes zero l rows room some = absurd (omega (arith, room, some))
some_stripes (suc n) l rows room some = omega arith

-- ---- a comment before the first stripe

abbrev pub comments : Option (List ℕ) → List Segment
comments comment = map Comment (option_to_list comment)

abbrev pub commented : Option (List ℕ) → Stripe → Stripe
commented comment x = record { segments = comments comment ++ x.segments; code = x.code; reset = x.reset }

abbrev pub with_comment : Option (List ℕ) → List Stripe → List Stripe
with_comment comment [] = []
with_comment comment (x ∷ xs) = commented comment x ∷ xs

comment_bytes : (comment : Option (List ℕ)) (xs : List Stripe) → 1 ≤ length xs → flat_map stripe_bytes (with_comment comment xs) ≡ flat_map segment_bytes (comments comment) ++ flat_map stripe_bytes xs
comment_bytes comment [] some = absurd (omega (arith, some))
comment_bytes comment (x ∷ xs) some =
    let front : List ℕ = flat_map segment_bytes (comments comment) in
    let own : List ℕ = flat_map segment_bytes x.segments in
    let behind : List ℕ = stuffed x.code ++ marker_bytes x.reset in
    ap (λ l. (l ++ behind) ++ flat_map stripe_bytes xs) (flat_map-append segment_bytes (comments comment) x.segments)
    ∙ ap (λ l. l ++ flat_map stripe_bytes xs) (append_assoc front own behind)
    ∙ append_assoc front (own ++ behind) (flat_map stripe_bytes xs)

comment_length : (comment : Option (List ℕ)) (xs : List Stripe) → length (with_comment comment xs) ≡ length xs
comment_length comment [] = refl
comment_length comment (x ∷ xs) = refl

comment_begun : (h : Fields) (comment : Option (List ℕ)) → length (unwrap_or comment []) < 2 ^ 32 → (xs : List Stripe) → AreStripes h xs → AreStripes h (with_comment comment xs)
comment_begun h comment small [] are = tt
comment_begun h None small (x ∷ xs) are = are
comment_begun h (Some text) small (x ∷ xs) are = (
  record {
    legal = (small, are.0.legal);
    one_move = (let one : count_by is_move x.segments ≤ 1 = are.0.one_move in let more : count_by is_move
        (Comment text ∷ x.segments) ≡ 0 + count_by is_move x.segments = sum_by-cons _ (Comment text) x.segments in omega (arith, one, more));
    bytes = are.0.bytes;
  },
  are.1,
)

-- ---- heights

lengths_append : (xs ys : List Segment) → lengths (xs ++ ys) ≡ lengths xs ++ lengths ys
lengths_append [] ys = refl
lengths_append (NewLength height' ∷ xs) ys = ap (λ l. height' ∷ l) (lengths_append xs ys)
lengths_append (Move row offset ∷ xs) ys = lengths_append xs ys
lengths_append (Comment text ∷ xs) ys = lengths_append xs ys

no_height_in_move : (move : Option (ℕ × ℕ)) → lengths (move_segments move) ≡ []
no_height_in_move None = refl
no_height_in_move (Some to) = refl

no_height_in_comment : (comment : Option (List ℕ)) → lengths (comments comment) ≡ []
no_height_in_comment None = refl
no_height_in_comment (Some text) = refl

no_height : (c : Coding) (k n : ℕ) → lengths (all_segments (map (coded_stripe c) (numbers_from k n))) ≡ []
no_height c k zero = refl
no_height c k (suc n) =
    lengths_append (move_segments (slice_index_or c.moves k None)) (all_segments (map (coded_stripe c) (numbers_from (k + 1) n)))
    ∙ ap (λ l. l ++ lengths (all_segments (map (coded_stripe c) (numbers_from (k + 1) n)))) (no_height_in_move (slice_index_or c.moves k None))
    ∙ no_height c (k + 1) n

no_height_first : (comment : Option (List ℕ)) (xs : List Stripe) → lengths (all_segments (with_comment comment xs)) ≡ lengths (all_segments xs)
no_height_first comment [] = refl
no_height_first comment (x ∷ xs) =
    ap (λ l. lengths l) (append_assoc (comments comment) x.segments (all_segments xs))
    ∙ lengths_append (comments comment) (x.segments ++ all_segments xs)
    ∙ ap (λ l. l ++ lengths (x.segments ++ all_segments xs)) (no_height_in_comment comment)

-- ---- what is counted

counted_move : (move : Option (ℕ × ℕ)) → count_by is_move (move_segments move) ≡ (if is_some move then 1 else 0)
counted_move None = refl
counted_move (Some to) = refl

uncounted_comment : (move : Option (ℕ × ℕ)) → count_by is_comment (move_segments move) ≡ 0
uncounted_comment None = refl
uncounted_comment (Some to) = refl

moves_from : (c : Coding) (move : ℕ → Option (ℕ × ℕ)) (k n : ℕ) → ((i : ℕ) → k ≤ i → i < k + n → slice_index_or c.moves i None ≡ move i) →
    sum_by moves_in (map (coded_stripe c) (numbers_from k n)) ≡ count_by is_some (map move (numbers_from k n))
moves_from c move k zero is = refl
moves_from c move k (suc n) is =
    let here : moves_in (coded_stripe c k) ≡ (if is_some (move k) then 1 else 0) = ap (λ m. count_by is_move (move_segments m)) (is k (omega arith) (omega arith)) ∙ counted_move (move k) in
    let more = moves_from c move (k + 1) n (λ i from to. is i (omega (arith, from)) (omega (arith, to))) in
    sum_by-cons moves_in (coded_stripe c k) (map (coded_stripe c) (numbers_from (k + 1) n))
    ∙ ap (λ a. a + sum_by moves_in (map (coded_stripe c) (numbers_from (k + 1) n))) here
    ∙ ap (λ b. (if is_some (move k) then 1 else 0) + b) more
    ∙ sym (sum_by-cons _ (move k) (map move (numbers_from (k + 1) n)))

no_comment : (c : Coding) (k n : ℕ) → sum_by comments_in (map (coded_stripe c) (numbers_from k n)) ≡ 0
no_comment c k zero = refl
no_comment c k (suc n) =
    let all = sum_by-cons comments_in (coded_stripe c k) (map (coded_stripe c) (numbers_from (k + 1) n)) in
    let first : comments_in (coded_stripe c k) ≡ 0 = uncounted_comment (slice_index_or c.moves k None) in
    omega (arith, all, first, no_comment c (k + 1) n)

comment_moves : (comment : Option (List ℕ)) (xs : List Stripe) → sum_by moves_in (with_comment comment xs) ≡ sum_by moves_in xs
comment_moves comment [] = refl
comment_moves None (x ∷ xs) = refl
comment_moves (Some text) (x ∷ xs) =
    let all : sum_by moves_in (commented (Some text) x ∷ xs) ≡ moves_in (commented (Some text) x) + sum_by moves_in xs = sum_by-cons moves_in (commented (Some text) x) xs in
    let first : moves_in (commented (Some text) x) ≡ 0 + moves_in x = sum_by-cons _ (Comment text) x.segments in
    let others : sum_by moves_in (x ∷ xs) ≡ moves_in x + sum_by moves_in xs = sum_by-cons moves_in x xs in
    omega (arith, all, first, others)

comment_counted : (comment : Option (List ℕ)) (xs : List Stripe) → 1 ≤ length xs → sum_by comments_in xs ≡ 0 → sum_by comments_in (with_comment comment xs) ≡ (if is_some comment then 1 else 0)
comment_counted comment [] some zero_is = absurd (omega (arith, some))
comment_counted None (x ∷ xs) some zero_is = zero_is
comment_counted (Some text) (x ∷ xs) some zero_is =
    let all : sum_by comments_in (commented (Some text) x ∷ xs) ≡ comments_in (commented (Some text) x) + sum_by comments_in xs = sum_by-cons comments_in (commented (Some text) x) xs in
    let first : comments_in (commented (Some text) x) ≡ 1 + comments_in x = sum_by-cons _ (Comment text) x.segments in
    let others : sum_by comments_in (x ∷ xs) ≡ comments_in x + sum_by comments_in xs = sum_by-cons comments_in x xs in
    omega (arith, all, first, others, zero_is)

gives_none : (height' : ℕ) (segments : List Segment) → lengths segments ≡ [] → GiveOnly height' 0 segments
gives_none height' segments none = record {
  one = (let e : length (lengths segments) ≡ 0 = ap (λ l. length l) none in omega (arith, e));
  this = subst (λ l. AllByRecursion (λ n. n ≡ height') l) (sym none) tt;
}

-- ---- the whole

begun_move : (h : Fields) (choice : Option ℕ) (code : List ℕ) → 1 ≤ h.l0 → IfSome choice (λ t. t ≤ h.mx) → AllByRecursion (λ b. b < 256) code →
    IsBegun h (move_segments (option_map (λ t. (0, t)) choice)) code
begun_move h None code some within bytes = record { legal = tt; one_move = omega arith; bytes = bytes }
begun_move h (Some t) code some within bytes = record { legal = ((some, within), tt); one_move = omega arith; bytes = bytes }

module _ (start_is_place : IsPlace start) (keep : EventsKeepPlace) (one_code : OneCode) (s : Settings) (raster : Raster) (accepted : AreSettings s) (proper : IsRaster raster) where
  abbrev pub h : Fields
  h = header_of s raster.width (height raster)

  abbrev pub c : Coding
  c = coding_of s raster

  abbrev pub n : ℕ
  n = stripe_count (height raster) s.stripe_rows

  abbrev pub written : List Stripe
  written = map (coded_stripe c) (numbers_from 0 n)

  move_is : (i : ℕ) → i < n → slice_index_or c.moves i None ≡ move_before s (cut s raster) i
  move_is i within = get_mapped (move_before s (cut s raster)) 0 n i None within ∙ ap (λ j. move_before s (cut s raster) j) (let e : 0 + i ≡ i = omega arith in e)

  begun_before : (i : ℕ) (code : List ℕ) → AllByRecursion (λ b. b < 256) code → IsBegun h (move_segments (move_before s (cut s raster) i)) code
  begun_before zero code bytes = begun_move h (first_choice s) code accepted.stripe_from (moved_within (named_for s 0) s.most_offset 0 None (accepted.named_to 0) tt) bytes
  begun_before (suc i) code bytes = begun_move h (choice_after s (cut s raster) i (current_offset s (cut s raster) i)) code accepted.stripe_from
      (moved_within (named_for s (suc i)) s.most_offset (current_offset s (cut s raster) i) _ (accepted.named_to (suc i))
      (chosen_within (cut s raster).mode.two_line s.most_offset raster.width (map (lines_of (cut s raster)) (rows_of (cut s raster) i)) (current_offset s (cut s raster) i))) bytes

  are : AreStripes h written
  are = all_mapped (λ x. IsBegun h x.segments x.code) (coded_stripe c) 0 n (λ i from to.
      (let bytes = (one_code (place_of c i) (keep (events_of c i) (begun (learned_at c i)) start_is_place)).is.bytes in
      subst (λ m. IsBegun h (move_segments m) (code_of (place_of c i))) (sym (move_is i (omega (arith, to)))) (begun_before i (code_of (place_of c i)) bytes)))

  some : 1 ≤ length written
  some =
      let whole = div_ceil_times (height raster) s.stripe_rows accepted.stripe_from in
      let many : 1 ≤ n = some_stripes n s.stripe_rows (height raster) whole.0 proper.height_from in
      omega (arith, length_mapped (coded_stripe c) 0 n, many)

  body_is : drop 20 (jbg s raster) ≡ flat_map stripe_bytes (with_comment s.comment written) ++ ending s (height raster)
  body_is = ap (λ l. l ++ ending s (height raster))
      (ap (λ l. flat_map segment_bytes (comments s.comment) ++ l) (sym (flat_map-map stripe_bytes (coded_stripe c) (numbers_from 0 n))) ∙ sym (comment_bytes s.comment written some))

  -- the parts of what stands after the header
  abbrev parts : Parts h (height raster) (drop 20 (jbg s raster))
  parts = record {
    stripes = with_comment s.comment written;
    rest = ending s (height raster);
    body_is = body_is;
    count = comment_length s.comment written ∙ length_mapped (coded_stripe c) 0 n;
    each = comment_begun h s.comment accepted.comment_to written are;
    gives = gives_none (height raster) (all_segments (with_comment s.comment written)) (no_height_first s.comment written ∙ no_height c 0 n);
  }

  -- ---- the header, and the line

  read_back : (x : ℕ) → x < 2 ^ 32 → long_at 0 (bytes_high_first 4 x) ≡ x
  read_back x small = omega (arith, small)

  fits : (announced : Option ℕ) (rows : ℕ) → unwrap_or announced 0 < 2 ^ 32 → rows < 2 ^ 32 → unwrap_or announced rows < 2 ^ 32
  fits None rows small few = few
  fits (Some announced) rows small few = small

  same_header : (other : Fields) → HeaderOf (jbg s raster) other → other ≡ h
  same_header other of = same_fields other h
      (sym of.xd ∙ read_back h.xd (let wide = proper.width_to in omega (arith, wide)))
      (sym of.yd ∙ read_back h.yd (fits s.announced (height raster) accepted.announced_to proper.height_to))
      (sym of.l0 ∙ read_back h.l0 accepted.stripe_to)
      (sym of.mx) (sym of.options)

  numbers_are : numbers_of h (height raster) parts.stripes ≡ line_numbers s raster
  numbers_are = same count moves comment where
    numbers : ℕ → ℕ → ℕ → List ℕ
    numbers stripes' moves' comments' = h.xd ∷ h.yd ∷ h.l0 ∷ h.mx ∷ h.options ∷ height raster ∷ stripes' ∷ moves' ∷ comments' ∷ []

    same : {a a' b b' c c' : ℕ} → a ≡ a' → b ≡ b' → c ≡ c' → numbers a b c ≡ numbers a' b' c'
    same p q r = cc

    count : length parts.stripes ≡ n
    count = comment_length s.comment written ∙ length_mapped (coded_stripe c) 0 n

    moves : sum_by moves_in parts.stripes ≡ count_by is_some c.moves
    moves = comment_moves s.comment written ∙ moves_from c (move_before s (cut s raster)) 0 n (λ i from to. move_is i (omega (arith, to)))

    flag : Option (List ℕ) → ℕ
    flag comment = if is_some comment then 1 else 0

    small : (comment : Option (List ℕ)) → min (flag comment) (2 ^ 64 - 1) ≡ flag comment
    small None = refl
    small (Some text) = refl

    comment : min (sum_by comments_in parts.stripes) (2 ^ 64 - 1) ≡ flag s.comment
    comment = ap (λ m. min m (2 ^ 64 - 1)) (comment_counted s.comment written some (no_comment c 0 n)) ∙ small s.comment

  pub has_line : Denotes (jbg s raster) raster → HasLine (jbg s raster) (line_text (line_numbers s raster))
  has_line d = record {
    header = h;
    header_of = subst (λ (k : Fields). HeaderOf (jbg s raster) k) same d.header_of;
    height = height raster;
    height_is = subst (λ n. IsHeight h (drop 20 (jbg s raster)) n) (sym d.denotes.height) (subst (λ (k : Fields). IsHeight k (drop 20 (jbg s raster)) d.height) same d.height_is);
    parts = parts;
    text_is = ap (λ l. line_text l) (sym numbers_are);
  } where
    same : d.header ≡ h
    same = same_header d.header d.header_of
