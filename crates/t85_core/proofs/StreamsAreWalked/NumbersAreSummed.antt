-- The numbers of a body whose height was found, or why it has none.
use Rattle.std.proofs.Common.{cond, ◌≡◌, ◌≢◌, inl, ◌<◌, ◌≤◌, ◌+◌, ◌-◌, ◌*◌, ◌^◌, ℕ, zero, suc, Bool, true, List, [], ◌∷◌, ◌++◌, Option, None, Some, IfSome, length, sum_by, min, nat_lt, refl, sym, ap, ◌∙◌, subst, append_assoc, arith}
use Rattle.std.specs.Prelude.{flat_map}
use Rattle.std.specs.List.{AllByRecursion}
use Rattle.std.specs.Io.KnownBytes.{Consumes}
use Rattle.std.proofs.lemmas.Bool.Decides.{nat_tests}
use Rattle.t85_core.specs.declared.fault.Fault.{Fault}
use Rattle.t85_core.specs.declared.fault.Fault.TheVariants.{Truncated, Read}
use Rattle.t85_core.specs.Header.{Fields, IsAccepted}
use Rattle.t85_core.specs.Grammar.{NewLength, Segment, segment_bytes, is_move, is_comment, lengths, all_segments, Stripe, stripe_bytes, stripe_count, is_valid_length, IsLegal, IsBegun, moves_in, comments_in}
use Rattle.t85_core.specs.Height.{GivesHeight, IsHeight}
use Rattle.t85_core.specs.Failures.{Ends, counted_as}
use Rattle.t85_core.specs.Private.HeightWalk.{IsAlone, SearchEnd, SegmentCounts, SkipsStripes, SkipsFault, FindsGiven, FindsNone, BodyNumbers, BodyRefused, BodyUnfinished, search_place}
use Rattle.t85_core.specs.Private.Buffers.{reading}
use Rattle.t85_core.proofs.BytesJoin.CallsJoin.{Consumes-more, known_behind, known_all}
use Rattle.t85_core.proofs.BytesJoin.ListsGrow.{All-push, count_push, flat_map_push}
use Rattle.t85_core.proofs.BytesJoin.SegmentsGiveHeights.{lengths_append, gives_none, valid_in_use, valid_over, more_stripes}
use Rattle.t85_core.proofs.StreamsAreWalked.SkippedPartsJoin.{Skipped, joined_to, broken_behind, parts_behind, joined_sum}
use Rattle.t85_core.proofs.StreamsAreWalked.HeightIsFound.{skipped_whole}

-- the numbers of a body
abbrev pub numbers_with : Fields → ℕ → ℕ → ℕ → ℕ → List ℕ
numbers_with h height count moves comments = h.xd ∷ h.yd ∷ h.l0 ∷ h.mx ∷ h.options ∷ height ∷ count ∷ moves ∷ comments ∷ []

same_numbers : (h : Fields) (height : ℕ) {count moves comments count' moves' comments' : ℕ} → count ≡ count' → moves ≡ moves' → comments ≡ comments' →
    numbers_with h height count moves comments ≡ numbers_with h height count' moves' comments'
same_numbers h height a b c = λ i. numbers_with h height (a i) (b i) (c i)

-- no height is given
pub none_numbers : {h : Fields} (old new : Option (List ℕ)) {entities : ℕ} {counts : SegmentCounts} {numbers : List ℕ} → FindsNone h (reading old new) entities counts →
    numbers ≡ numbers_with h h.yd entities counts.moves counts.comments → IfSome old (BodyNumbers h numbers)
none_numbers {h} old new {numbers = numbers} f is = went old f.mid f.before.taken f.height_is where
  went : (old mid : Option (List ℕ)) → Consumes old mid (flat_map stripe_bytes f.before.stripes) → IfSome old (λ body. IsHeight h body h.yd) → IfSome old (BodyNumbers h numbers)
  went None mid taken height = tt
  went (Some body) None taken height = absurd taken
  went (Some body) (Some rest) taken height =
      let b = f.before in
      record {
        height = h.yd;
        height_is = height;
        parts = record { stripes = b.stripes; rest = rest; body_is = taken; count = b.count_is ∙ f.all; each = b.each; gives = gives_none h.yd 0 (all_segments b.stripes) (omega arith) b.none };
        numbers_are = is ∙ same_numbers h h.yd (sym b.count_is) b.moves_are b.comments_are;
      }

fits : (l n k : ℕ) → 0 < l → (k - 1) * l < n → k ≤ stripe_count n l
fits l n zero some low = omega arith
fits l n (suc j) some low =
    let same : suc j - 1 ≡ j = omega arith in
    more_stripes n l j some (rw same at low)

pub entities_fit : (h : Fields) (k n : ℕ) → 0 < h.l0 → is_valid_length h k n ≡ true → k ≤ stripe_count n h.l0
entities_fit h k n some e = fits h.l0 n k some (valid_over h k n e)

-- a lower height makes no more stripes
fewer_stripes : (h : Fields) (n : ℕ) → 0 < h.l0 → 1 ≤ n → n ≤ h.yd → stripe_count n h.l0 ≤ stripe_count h.yd h.l0
fewer_stripes h n some one most =
    let low = valid_over h (stripe_count n h.l0) n (valid_in_use h n (stripe_count n h.l0) some one most (omega arith)) in
    fits h.l0 h.yd (stripe_count n h.l0) some (omega arith)

one_or_none : (m : ℕ) → m ≤ 1 → cond {A = ℕ} (nat_lt 0 m) 1 0 ≡ m
one_or_none zero few = refl
one_or_none (suc m) few = let t : nat_lt 0 (suc m) ≡ true = grind (arith, nat_tests) in rw t (omega arith)

module _ {h : Fields} (ok : IsAccepted h) {old mid : Option (List ℕ)} {to : SearchEnd} {n : ℕ} (f : FindsGiven h (reading old mid) to n) where
  abbrev ss : List Stripe
  ss = f.before.stripes

  -- with the height
  abbrev front : List Segment
  front = f.segments ++ NewLength n ∷ []

  front_bytes : flat_map segment_bytes front ≡ flat_map segment_bytes f.segments ++ segment_bytes (NewLength n)
  front_bytes = flat_map_push segment_bytes f.segments (NewLength n)

  taken : Consumes old mid (flat_map stripe_bytes ss ++ flat_map segment_bytes front)
  taken = rw front_bytes (Consumes-more old f.mid mid (flat_map stripe_bytes ss) (flat_map segment_bytes f.segments ++ segment_bytes (NewLength n)) f.before.taken f.taken)

  behind_front : (rest : List ℕ) → (flat_map stripe_bytes ss ++ flat_map segment_bytes front) ++ rest ≡ flat_map stripe_bytes ss ++ (flat_map segment_bytes front ++ rest)
  behind_front rest = append_assoc (flat_map stripe_bytes ss) (flat_map segment_bytes front) rest

  -- whatever is after it
  gives_height : (rest : List ℕ) → GivesHeight h (flat_map stripe_bytes ss ++ (flat_map segment_bytes front ++ rest)) n
  gives_height rest = record {
    variable = f.legal.0;
    stripes = ss;
    segments = f.segments;
    rest = rest;
    body_is = rw (front_bytes, append_assoc);
    each = f.before.each;
    begun = f.begun;
    first = rw (lengths_append, f.before.none) f.none;
    within = omega (arith, f.before.count_is, f.within);
    behind = λ e. f.behind (sym f.before.count_is ∙ e);
    valid = rw f.before.count_is f.valid;
  }

  pub given_height : IfSome old (λ body. IsHeight h body n)
  given_height = known_all (λ body. IsHeight h body n) old mid _ taken (λ rest. inl (rw behind_front (gives_height rest)))

  -- all its stripes were skipped before it
  pub whole_numbers : {count : ℕ} {numbers : List ℕ} → count ≡ stripe_count n h.l0 → count ≤ to.entities → numbers ≡ numbers_with h n count to.passed.moves to.passed.comments →
      IfSome old (BodyNumbers h numbers)
  whole_numbers {count} {numbers} is few numbers_told = known_all (BodyNumbers h numbers) old mid _ taken told where
    same : count ≡ length ss
    same = let fit = entities_fit h to.entities n ok.stripe_from f.valid in omega (arith, f.before.count_is)

    told : (rest : List ℕ) → BodyNumbers h numbers ((flat_map stripe_bytes ss ++ flat_map segment_bytes front) ++ rest)
    told rest = record {
      height = n;
      height_is = inl (rw behind_front (gives_height rest));
      parts = record {
        stripes = ss;
        rest = flat_map segment_bytes front ++ rest;
        body_is = behind_front rest;
        count = sym same ∙ is;
        each = f.before.each;
        gives = gives_none n 0 (all_segments ss) (omega arith) f.before.none;
      };
      numbers_are = numbers_told ∙ same_numbers h n same f.before.moves_are f.before.comments_are;
    }

  all_lengths : lengths (all_segments ss ++ front) ≡ n ∷ []
  all_lengths = rw (lengths_append, f.before.none, lengths_append, f.none)

  abbrev moved : Bool
  moved = nat_lt 0 to.part.moves

  -- the rest of its stripes was skipped after it
  module _ (few : to.part.moves ≤ 1) where
    skipped : Skipped h n ss front true moved
    skipped = record {
      each = f.before.each;
      begun = record {
        legal = All-push (IsLegal h) f.segments (NewLength n) f.begun.legal f.legal;
        one_move = (let c = count_push is_move f.segments (NewLength n) in omega (arith, f.begun.one_move));
        bytes = tt;
      };
      gives = record { one = (let e = ap length all_lengths in omega arith); this = rw all_lengths (refl, tt) };
      given_is = sym (ap length all_lengths);
      moved_is = (let c = count_push is_move f.segments (NewLength n) in let e = one_or_none to.part.moves few in omega (arith, f.part_moves_are));
    }

    pub joined_numbers : {new : Option (List ℕ)} {count all_moves some_comments all_comments : ℕ} {more : SegmentCounts} {numbers : List ℕ} → count ≡ stripe_count n h.l0 → to.entities < count →
        SkipsStripes h (nat_lt 0 to.part.moves) (count - to.entities) (reading mid new) more → all_moves ≡ (to.passed.moves + to.part.moves) + more.moves →
        some_comments ≡ min (to.passed.comments + to.part.comments) (2 ^ 64 - 1) → all_comments ≡ min (some_comments + more.comments) (2 ^ 64 - 1) →
        numbers ≡ numbers_with h n count all_moves all_comments → IfSome old (BodyNumbers h numbers)
    joined_numbers {new} {count} {all_moves} {all_comments = all_comments} {more} {numbers} is less s moves_told some_told all_told numbers_told = by s.stripes refl where
      by : (ts : List Stripe) → s.stripes ≡ ts → IfSome old (BodyNumbers h numbers)
      by [] e = absurd (let z = ap length e in omega (arith, s.count_is))
      by (t ∷ ts) e = went old mid new taken (subst (λ z. Consumes mid new (flat_map stripe_bytes z)) e s.taken) where
        all : List Stripe
        all = ss ++ joined_to front t ∷ ts

        many : length ss + length (t ∷ ts) ≡ count
        many = let z = ap length e in omega (arith, f.before.count_is, s.count_is)

        moves_are : all_moves ≡ sum_by moves_in all
        moves_are =
            let a = joined_sum is_move ss front t ts in
            let b = count_push is_move f.segments (NewLength n) in
            let m : more.moves ≡ sum_by moves_in (t ∷ ts) = s.moves_are ∙ ap (sum_by moves_in) e in
            omega (arith, f.before.moves_are, f.part_moves_are)

        comments_are : all_comments ≡ min (sum_by comments_in all) (2 ^ 64 - 1)
        comments_are =
            let a = joined_sum is_comment ss front t ts in
            let b = count_push is_comment f.segments (NewLength n) in
            let m : more.comments ≡ min (sum_by comments_in (t ∷ ts)) (2 ^ 64 - 1) = s.comments_are ∙ ap (λ z. min (sum_by comments_in z) (2 ^ 64 - 1)) e in
            let up = fewer_stripes h n ok.stripe_from f.legal.1 f.legal.2 in
            let part = f.part_comments_are (omega arith) in
            omega (arith, f.before.comments_are)

        went : (old mid new : Option (List ℕ)) → Consumes old mid (flat_map stripe_bytes ss ++ flat_map segment_bytes front) → Consumes mid new (flat_map stripe_bytes (t ∷ ts)) →
            IfSome old (BodyNumbers h numbers)
        went None mid new a b = tt
        went (Some body) None new a b = absurd a
        went (Some body) (Some rest) None a b = absurd b
        went (Some body) (Some rest) (Some left) a b =
            let body_is : body ≡ flat_map stripe_bytes ss ++ (flat_map segment_bytes front ++ (flat_map stripe_bytes (t ∷ ts) ++ left)) = rw (a, b, append_assoc) in
            let p = parts_behind skipped t ts left (subst (AllByRecursion (λ (s : Stripe). IsBegun h s.segments s.code)) e s.each) (subst (IsAlone moved) e s.alone)
            (subst (λ z. lengths (all_segments z) ≡ []) e s.none) (many ∙ is) in
            record {
              height = n;
              height_is = inl (rw body_is (gives_height (flat_map stripe_bytes (t ∷ ts) ++ left)));
              parts = record { stripes = all; rest = left; body_is = body_is ∙ p.body_is; count = p.count; each = p.each; gives = p.gives };
              numbers_are = numbers_told ∙ same_numbers h n (is ∙ sym p.count) moves_are comments_are;
            }

    broken : {count : ℕ} {tail : List ℕ} {fault : Fault} → count ≡ stripe_count n h.l0 → SkipsFault h (search_place to.entities true moved) count tail fault →
        BodyRefused h fault (flat_map stripe_bytes ss ++ (flat_map segment_bytes front ++ tail))
    broken {tail = tail} is q = record { height = n; height_is = inl (gives_height tail); broken = broken_behind skipped (sym f.before.count_is) (rw is at q) }

    pub joined_refused : {new : Option (List ℕ)} {count : ℕ} {fault : Fault} → count ≡ stripe_count n h.l0 →
        Ends Truncated mid new (SkipsFault h (search_place to.entities true (nat_lt 0 to.part.moves)) count) fault →
        fault ≢ Read → IfSome old (BodyRefused h fault)
    joined_refused {count = count} {fault} is e other =
        known_behind (BodyRefused h fault) (λ body. SkipsFault h (search_place to.entities true moved) count body fault) old mid _ taken (skipped_whole mid e other)
        (λ rest q. rw behind_front (broken is q))

    pub joined_unread : {new : Option (List ℕ)} {count : ℕ} {fault : Fault} → count ≡ stripe_count n h.l0 →
        Ends Truncated mid new (SkipsFault h (search_place to.entities true (nat_lt 0 to.part.moves)) count) fault →
        fault ≡ Read → (given : List ℕ) × Consumes old new given × BodyUnfinished h given
    joined_unread {new} {count} is e read = (
      (flat_map stripe_bytes ss ++ flat_map segment_bytes front) ++ e.given,
      Consumes-more old mid new (flat_map stripe_bytes ss ++ flat_map segment_bytes front) e.given taken e.taken,
      inl (rw behind_front (broken is (subst (λ x. SkipsFault h (search_place to.entities true moved) count e.given (counted_as Truncated x)) read e.has_fault))),
    )
