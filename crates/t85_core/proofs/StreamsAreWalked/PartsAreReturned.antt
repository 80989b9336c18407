-- The results of a walk over the parts of a stream.
use Rattle.std.proofs.Common.{cond, not, ◌≡◌, ◌≢◌, ◌⊎◌, inl, inr, ◌<◌, ◌≤◌, ◌+◌, ◌-◌, ℕ, Bool, true, false, nat_eq, List, [], ◌∷◌, ◌++◌, Option, None, Some, IfSome, is_some, count_by, length, take, drop, refl, sym, ap, ◌∙◌, subst, append_assoc, length-append, zero-add, arith, true≢false}
use Rattle.std.specs.Prelude.{flat_map, IsTrue}
use Rattle.std.specs.List.{AllByRecursion}
use Rattle.std.proofs.lemmas.Bool.Decides.{nat_tests}
use Rattle.std.proofs.lemmas.Grind.{flat_map-append}
use Rattle.std.proofs.lemmas.List.{drop-drop, take-append-drop, length-take-le, length-drop}
use Rattle.std.proofs.Math.Seq.{drop-append_seam, take-add, take-append_seam, take-append-add}
use Rattle.qm_core.specs.Code.{stuffed}
use Rattle.t85_core.specs.declared.fault.Fault.{Fault}
use Rattle.t85_core.specs.declared.parts.Found.{Found}
use Rattle.t85_core.specs.declared.parts.Found.TheVariants as found
use Rattle.t85_core.specs.declared.parts.Part.{Part}
use Rattle.t85_core.specs.declared.parts.PartWalk.{PartWalk}
use Rattle.t85_core.specs.declared.parts.Taken.{Taken}
use Rattle.t85_core.specs.declared.parts.Taken.TheVariants as taken
use Rattle.t85_core.specs.Header.{Fields, is_variable, HeaderOf, header_fault}
use Rattle.t85_core.specs.Grammar.{Segment, NewLength, Move, Comment, segment_bytes, is_move, is_comment, is_nil, lengths, Stripe, stripe_bytes, marker_bytes, all_segments, stripe_count, is_valid_length, IsLegal, IsBegun, AreStripes, GiveOnly}
use Rattle.t85_core.specs.Refusal.{BodyFault, rest_fault}
use Rattle.t85_core.specs.Height.{GivesHeight, IsHeight}
use Rattle.t85_core.specs.Private.HeightWalk.{IsAlone, LooksTo, LookEnds}
use Rattle.t85_core.specs.Parts.{Passed, Nothing, Behind, TellsNext, TellsOfAny, passed_bytes, EndsInHeight, IsTail, IsUngiven, IsGiven, StandsBehind, Adds, IsBehind, TakesPart, IsWholeStream, BreaksAt}
use Rattle.t85_core.specs.Private.PartSteps.{ReadsPart, MissesPart, IsSegment, place_before, kind_of, part_told, walk_behind, is_given, height_told, stripes_in_use, header_part, header_walk, TellsThere, TellsBehind, TellsBefore, SeesHeight, ComesOrEnds, IsDone, TailIs}
use Rattle.t85_core.proofs.BytesJoin.ListsGrow.{All-append}
use Rattle.t85_core.proofs.BytesJoin.SegmentsGiveHeights.{many_lengths, lengths_append, gives_none, gives_left, gives_right, valid_parts}
use Rattle.t85_core.proofs.BodiesParse.StreamHasOneReading.{header_is, accepted}
use Rattle.t85_core.proofs.BodiesParse.BodyHasOneHeight.{none_left, none_right, one_given}
use Rattle.t85_core.proofs.BodiesParse.HeightExists.{never_behind, comments_give_none, comments_make_none}
use Rattle.t85_core.proofs.StreamsAreWalked.HeightIsFound.{Breaks, none_moved, height_of_skipped}
use Rattle.t85_core.proofs.StreamsAreWalked.PartsAreRead.{header_front}
use Rattle.t85_core.proofs.StreamsAreWalked.PartsArePassed.{GoesOver, ended, stands_segment, stands_entity, ungiven_segment, ungiven_comment, ungiven_entity, given_now, given_segment, given_entity, gives_there}
use Rattle.t85_core.proofs.StreamsAreWalked.StripeIsPassed.{few_byte}

-- whether a height was given, by its number
given_of : (n : ℕ) → 1 ≤ n → not (nat_eq n 0) ≡ true
given_of n one = grind (arith, nat_tests)

zero_of : (n : ℕ) → not (nat_eq n 0) ≡ false → n ≡ 0
zero_of n e = grind (arith, nat_tests)

in_use_zero : (h : Fields) (w : PartWalk) → w.late_height ≡ 0 → height_told h w ≡ h.yd
in_use_zero h w e = let t : nat_eq w.late_height 0 ≡ true = grind (arith, nat_tests) in rw t

in_use_given : (h : Fields) (w : PartWalk) → 1 ≤ w.late_height → height_told h w ≡ w.late_height
in_use_given h w e = let t : nat_eq w.late_height 0 ≡ false = grind (arith, nat_tests) in rw t

-- the one height that is given
single : (ns : List ℕ) (n : ℕ) → length ns ≡ 1 → AllByRecursion (λ m. m ≡ n) ns → ns ≡ n ∷ []
single (m ∷ []) n one all = rw all.0
single ns n one all = absurd (omega arith)

-- it is known that a height comes
abbrev pub known : PartWalk → PartWalk
known w = record { offset = w.offset; entities = w.entities; late_height = w.late_height; moved = w.moved; at_height = true }

module _ {stream : List ℕ} {w : PartWalk} {h : Fields} {ss : List Stripe} {gs : List Segment} (p : StandsBehind stream w h ss gs) where
  abbrev Ungiven : Type 0
  Ungiven = IsUngiven w h ss gs (drop 20 stream)

  abbrev Given : Type 0
  Given = IsGiven w h ss gs (drop 20 stream)

  late_of : Given → 1 ≤ w.late_height
  late_of g = (valid_parts h (length g.gives.stripes) w.late_height g.gives.valid).0

  -- where none was given
  ungiven_of : w.late_height ≡ 0 → Ungiven
  ungiven_of zero = by p.height where
    by : Ungiven ⊎ Given → Ungiven
    by (inl u) = u
    by (inr g) = absurd (let one = late_of g in omega arith)

  -- and its position before
  given_of_walk : is_given w ≡ true → Given
  given_of_walk is = by p.height where
    by : Ungiven ⊎ Given → Given
    by (inl u) = absurd (true≢false (sym is ∙ rw u.zero))
    by (inr g) = g

  few_ungiven : w.entities < stripes_in_use h w → Ungiven → length ss < stripe_count h.yd h.l0
  few_ungiven few u = let e = ap (λ n. stripe_count n h.l0) (in_use_zero h w u.zero) in omega (arith, p.entities_are)

  few_given : w.entities < stripes_in_use h w → Given → length ss < stripe_count w.late_height h.l0
  few_given few g = let e = ap (λ n. stripe_count n h.l0) (in_use_given h w (late_of g)) in omega (arith, p.entities_are)

  -- ---- a part that was read

  module _ (left : List ℕ) (len : ℕ) (len_is : len ≡ length (drop w.offset stream) - length left) where
    len_of : (bytes : List ℕ) → drop w.offset stream ≡ bytes ++ left → len ≡ length bytes
    len_of bytes there = let l : length (drop w.offset stream) ≡ length bytes + length left = ap length there ∙ length-append bytes left in omega arith

    told : (t : Taken) {w' : PartWalk} (to : Passed) (bytes : List ℕ) → drop w.offset stream ≡ bytes ++ left → Adds (kind_of t) (Behind h ss gs) to bytes → IsBehind stream w' to →
        TakesPart stream w w' (Behind h ss gs) (part_told t w len)
    told t to bytes there adds stands = record {
      to = to;
      bytes = bytes;
      adds = adds;
      stands = stands;
      offset_is = refl;
      len_is = len_of bytes there;
      there = rw (there, len_of bytes there) (take-append_seam bytes left);
      stripe_is = p.entities_are;
    }

    goes_over : {w' : PartWalk} (bytes : List ℕ) → w'.offset ≡ w.offset + len → drop w.offset stream ≡ bytes ++ left → GoesOver stream w w' bytes left
    goes_over bytes at there = record { there = there; at = rw (← len_of bytes there) at }

    module _ (few : w.entities < stripes_in_use h w) where
      height_segment : (w' : PartWalk) (s : Segment) → lengths (s ∷ []) ≡ [] → w'.late_height ≡ w.late_height → w'.at_height ≡ w.at_height →
          IsUngiven w' h ss (gs ++ s ∷ []) (drop 20 stream) ⊎ IsGiven w' h ss (gs ++ s ∷ []) (drop 20 stream)
      height_segment w' s none late comes = by p.height where
        by : Ungiven ⊎ Given → IsUngiven w' h ss (gs ++ s ∷ []) (drop 20 stream) ⊎ IsGiven w' h ss (gs ++ s ∷ []) (drop 20 stream)
        by (inl u) = inl (ungiven_segment w' u s none late comes (few_ungiven few u))
        by (inr g) = inr (given_segment w' g late (few_given few g) s none)

      height_entity : (w' : PartWalk) (code : List ℕ) (reset : Bool) → w'.late_height ≡ w.late_height → w'.at_height ≡ false →
          IsUngiven w' h (ss ++ ended gs code reset ∷ []) [] (drop 20 stream) ⊎ IsGiven w' h (ss ++ ended gs code reset ∷ []) [] (drop 20 stream)
      height_entity w' code reset late comes = by p.height where
        by : Ungiven ⊎ Given → IsUngiven w' h (ss ++ ended gs code reset ∷ []) [] (drop 20 stream) ⊎ IsGiven w' h (ss ++ ended gs code reset ∷ []) [] (drop 20 stream)
        by (inl u) = inl (ungiven_entity w' u code reset late comes (few_ungiven few u))
        by (inr g) = inr (given_entity w' g late (few_given few g) comes code reset)

      -- of a stripe
      pub takes_in_stripe : (given : Bool) (t : Taken) → given ≡ is_given w → ReadsPart h (record { height = 0; entities = w.entities; given = given }) w.moved (drop w.offset stream) left t →
          TakesPart stream w (walk_behind t w len) (Behind h ss gs) (part_told t w len)
      takes_in_stripe given taken.Comment is (text, s) =
          let bytes : List ℕ = segment_bytes (Comment text) in
          told taken.Comment (Behind h ss (gs ++ Comment text ∷ [])) bytes s.1 (text, (s.0, refl, refl))
          (stands_segment p (goes_over bytes refl s.1) (Comment text) refl s.0 refl (omega arith) (few_byte w.moved) (height_segment (walk_behind taken.Comment w len) (Comment text) refl refl refl))
      takes_in_stripe given taken.Move is (first, row, offset, s) =
          let bytes : List ℕ = segment_bytes (Move row offset) in
          let none : cond {A = ℕ} w.moved 1 0 ≡ 0 = rw first in
          told taken.Move (Behind h ss (gs ++ Move row offset ∷ [])) bytes s.1 (row, offset, (s.0, refl, refl))
          (stands_segment p (goes_over bytes refl s.1) (Move row offset) refl s.0 refl (omega arith) (omega arith) (height_segment (walk_behind taken.Move w len) (Move row offset) refl refl refl))
      takes_in_stripe given (taken.NewHeight n) is (first, valid, s) =
          let bytes : List ℕ = segment_bytes (NewLength n) in
          let u = ungiven_of (zero_of w.late_height (sym is ∙ first)) in
          let fits : is_valid_length h (length ss) n ≡ true = rw p.entities_are at valid in
          told (taken.NewHeight n) (Behind h ss (gs ++ NewLength n ∷ [])) bytes s.1 (n, (s.0, refl, refl))
          (stands_segment p (goes_over bytes refl s.1) (NewLength n) refl s.0 refl (omega arith) (few_byte w.moved)
          (inr (given_now (walk_behind (taken.NewHeight n) w len) u n p.header_of.accepted.stripe_from refl refl fits
          (gives_there p n left u.none u.within (λ all. absurd (let less = few_ungiven few u in omega arith)) s.0 fits s.1))))
      takes_in_stripe given taken.DataEntity is (code, reset, small, there) =
          let bytes : List ℕ = stuffed code ++ marker_bytes reset in
          told taken.DataEntity (Behind h (ss ++ ended gs code reset ∷ []) []) bytes there (code, reset, refl, refl)
          (stands_entity p (goes_over bytes refl there) code reset refl small refl refl (height_entity (walk_behind taken.DataEntity w len) code reset refl refl))

  -- ---- behind the last stripe

  all_of : Ungiven → stripe_count h.yd h.l0 ≤ w.entities → length ss ≡ stripe_count h.yd h.l0
  all_of u most = omega (arith, p.entities_are)

  comments_of : Ungiven → length ss ≡ stripe_count h.yd h.l0 → AllByRecursion (λ s. IsTrue (is_comment s)) gs
  comments_of u all = by w.at_height refl where
    by : (t : Bool) → w.at_height ≡ t → AllByRecursion (λ s. IsTrue (is_comment s)) gs
    by true e = (u.comes e).1
    by false e = rw (u.quiet all e) tt

  body_apart : drop 20 stream ≡ flat_map stripe_bytes ss ++ (flat_map segment_bytes gs ++ drop w.offset stream)
  body_apart = p.body_is ∙ append_assoc (flat_map stripe_bytes ss) (flat_map segment_bytes gs) (drop w.offset stream)

  -- where the look ends no height comes
  pub never_before : w.late_height ≡ 0 → stripe_count h.yd h.l0 ≤ w.entities → LookEnds h w.entities (drop w.offset stream) → (n : ℕ) → GivesHeight h (drop 20 stream) n → ⊥
  never_before zero most l n =
      let u = ungiven_of zero in
      let all = all_of u most in
      never_behind p.header_of.accepted ss all p.each (gives_none 0 0 (all_segments ss) (omega arith) (none_left (all_segments ss) gs u.none)) body_apart (record {
        segments = gs ++ l.segments;
        last = l.last;
        are = record {
          comments = All-append (λ s. IsTrue (is_comment s)) gs l.segments (comments_of u all) l.are.comments;
          legal = All-append (IsLegal h) gs l.segments p.begun.legal l.are.legal;
        };
        no_height = λ n z valid e. l.no_height n z (subst (λ k. is_valid_length h k n ≡ true) (sym p.entities_are) valid) e;
        no_comment = l.no_comment;
        rest_is = rw (l.rest_is, flat_map-append, append_assoc);
      })

  -- a height was seen there
  pub comes_looked : w.late_height ≡ 0 → stripe_count h.yd h.l0 ≤ w.entities → (n : ℕ) (left : List ℕ) → LooksTo h w.entities (Some (drop w.offset stream)) (Some left) n →
      GivesHeight h (drop 20 stream) n
  comes_looked zero most n left l =
      let u = ungiven_of zero in
      let all = all_of u most in
      let comments = All-append (λ s. IsTrue (is_comment s)) gs l.segments (comments_of u all) l.are.comments in
      record {
        variable = l.legal.0;
        stripes = ss;
        segments = gs ++ l.segments;
        rest = left;
        body_is = body_apart ∙ rw (l.taken, flat_map-append) (simp append_assoc);
        each = p.each;
        begun = record { legal = All-append (IsLegal h) gs l.segments p.begun.legal l.are.legal; one_move = comments_make_none p.header_of.accepted (gs ++ l.segments) comments; bytes = tt };
        first = rw (lengths_append, none_left (all_segments ss) gs u.none) (comments_give_none p.header_of.accepted (gs ++ l.segments) comments);
        within = u.within;
        behind = λ _. comments;
        valid = rw p.entities_are at l.valid;
      }

  -- a comment or the height was read
  pub takes_before : (left : List ℕ) (len : ℕ) → len ≡ length (drop w.offset stream) - length left → w.late_height ≡ 0 → stripe_count h.yd h.l0 ≤ w.entities → {n : ℕ} →
      GivesHeight h (drop 20 stream) n → (t : Taken) → IsSegment t → ReadsPart h (place_before w.entities) true (drop w.offset stream) left t →
      TakesPart stream w (walk_behind t (known w) len) (Behind h ss gs) (part_told t w len)
  takes_before left len len_is zero most {n} g taken.Comment is (text, s) =
      let bytes : List ℕ = segment_bytes (Comment text) in
      let u = ungiven_of zero in
      let all = all_of u most in
      told left len len_is taken.Comment (Behind h ss (gs ++ Comment text ∷ [])) bytes s.1 (text, (s.0, refl, refl))
      (stands_segment p (goes_over left len len_is bytes refl s.1) (Comment text) refl s.0 refl (omega arith) (few_byte w.moved)
      (inl (ungiven_comment (walk_behind taken.Comment (known w) len) u text refl refl all (comments_of u all) n g)))
  takes_before left len len_is zero most g taken.Move is (first, row, offset, s) = absurd (true≢false first)
  takes_before left len len_is zero most g (taken.NewHeight m) is (first, valid, s) =
      let bytes : List ℕ = segment_bytes (NewLength m) in
      let u = ungiven_of zero in
      let all = all_of u most in
      let fits : is_valid_length h (length ss) m ≡ true = rw p.entities_are at valid in
      told left len len_is (taken.NewHeight m) (Behind h ss (gs ++ NewLength m ∷ [])) bytes s.1 (m, (s.0, refl, refl))
      (stands_segment p (goes_over left len len_is bytes refl s.1) (NewLength m) refl s.0 refl (omega arith) (few_byte w.moved)
      (inr (given_now (walk_behind (taken.NewHeight m) (known w) len) u m p.header_of.accepted.stripe_from refl refl fits
      (gives_there p m left u.none u.within (λ _. comments_of u all) s.0 fits s.1))))
  takes_before left len len_is zero most g taken.DataEntity is more = absurd is

  -- ---- the end

  whole : (height : ℕ) → EndsInHeight w.at_height height gs → IsHeight h (drop 20 stream) height → length ss ≡ stripe_count height h.l0 → GiveOnly height 0 (all_segments ss) →
      ((n : ℕ) → GivesHeight h (drop 20 stream) n → lengths (all_segments ss ++ gs) ≡ n ∷ []) → IsDone stream w h ss gs
  whole height last height_is all gives given = record {
    height = height;
    last = last;
    within = (let l : length stream ≡ length T + (length P + length R) = ap length apart ∙ length-append T (P ++ R) ∙ ap (λ n. length T + n) (length-append P R) in omega (arith, twenty));
    bytes_are =
        let e : w.offset ≡ length T + length P = omega (arith, twenty) in
        ap (take w.offset) apart ∙ ap (λ n. take n (T ++ (P ++ R))) e ∙ take-append-add T (P ++ R) (length P) ∙ ap (λ z. T ++ z) (take-append_seam P R);
    numbers = record {
      header = h;
      header_of = p.header_of;
      height = height;
      height_is = height_is;
      parts = record {
        stripes = ss;
        rest = flat_map segment_bytes gs ++ drop w.offset stream;
        body_is = body_apart;
        count = all;
        each = p.each;
        gives = gives;
      };
      numbers_are = refl;
    };
    height_is = height_is;
    all = all;
    given = given;
  } where
    T : List ℕ
    T = take 20 stream

    P : List ℕ
    P = passed_bytes ss gs

    R : List ℕ
    R = drop w.offset stream

    twenty : length (take 20 stream) ≡ 20
    twenty = length-take-le 20 stream p.header_of.whole

    apart : stream ≡ take 20 stream ++ (passed_bytes ss gs ++ drop w.offset stream)
    apart = sym (take-append-drop 20 stream) ∙ ap (λ z. take 20 stream ++ z) p.body_is

  -- the height was given
  pub ends_given : is_given w ≡ true → stripes_in_use h w ≤ w.entities → IsDone stream w h ss gs
  ends_given is most =
      let g = given_of_walk is in
      let all : length ss ≡ stripe_count w.late_height h.l0 = (let e = ap (λ n. stripe_count n h.l0) (in_use_given h w (late_of g)) in omega (arith, p.entities_are)) in
      whole w.late_height (g.last all) (inl g.gives) all (gives_left w.late_height 0 (all_segments ss) gs g.only)
      (λ n other. single (lengths (all_segments ss ++ gs)) w.late_height g.one g.only.this ∙ rw (one_given p.header_of.accepted (drop 20 stream) g.gives other))

  module _ (none : is_given w ≡ false) (most : stripes_in_use h w ≤ w.entities) where
    pub zero_there : w.late_height ≡ 0
    zero_there = zero_of w.late_height none

    pub most_there : stripe_count h.yd h.l0 ≤ w.entities
    most_there = let e = ap (λ n. stripe_count n h.l0) (in_use_zero h w zero_there) in omega arith

    never_whole : w.at_height ≡ false → ((n : ℕ) → GivesHeight h (drop 20 stream) n → ⊥) → IsDone stream w h ss gs
    never_whole quiet never =
        let u = ungiven_of zero_there in
        let all = all_of u most_there in
        whole h.yd (rw quiet (u.quiet all quiet)) (inr (refl, never)) all (gives_none h.yd 0 (all_segments ss) (omega arith) (none_left (all_segments ss) gs u.none))
        (λ n g. absurd (never n g))

    -- none may be
    pub ends_fixed : is_variable h ≡ false → IsDone stream w h ss gs
    ends_fixed fixed = never_whole (by w.at_height refl) (λ n g. true≢false (sym g.variable ∙ fixed)) where
      by : (t : Bool) → w.at_height ≡ t → w.at_height ≡ false
      by true e = absurd (let c = ((ungiven_of zero_there).comes e).2 in true≢false (sym c.1.variable ∙ fixed))
      by false e = e

    -- none is behind the last stripe
    pub ends_looked : w.at_height ≡ false → LookEnds h w.entities (drop w.offset stream) → IsDone stream w h ss gs
    ends_looked quiet l = never_whole quiet (never_before zero_there most_there l)

  -- with what belongs to it behind its parts
  pub whole_there : (n : ℕ) → IsDone stream w h ss gs → TailIs w stream n → IsWholeStream stream (w.offset + n) h ss gs
  whole_there n d t = record {
    height = d.height;
    comes_last = w.at_height;
    last = d.last;
    tail = t.0;
    tail_is = rw rest_is t.4;
    within = (let l = length-drop w.offset stream in let k = ap length t.2 ∙ length-append t.0 t.1 in omega (arith, t.3));
    bytes_are = take-add w.offset n stream ∙ rw (d.bytes_are, tail_taken) (append_assoc (take 20 stream) (passed_bytes ss gs) t.0);
    numbers = d.numbers;
    height_is = d.height_is;
    all = d.all;
    given = d.given;
  } where
    tail_taken : take n (drop w.offset stream) ≡ t.0
    tail_taken = rw (t.2, ← t.3) (take-append_seam t.0 t.1)

    rest_is : drop (w.offset + n) stream ≡ t.1
    rest_is = rw (← drop-drop n w.offset stream, t.2, ← t.3) (drop-append_seam t.0 t.1)

  -- ---- a fault

  module _ {given : Bool} (is : given ≡ is_given w) (few : w.entities < stripes_in_use h w) {f : Fault}
      (m : MissesPart h (record { height = 0; entities = w.entities; given = given }) w.moved (drop w.offset stream) f) where
    heights_are : cond given 1 0 ≡ length (lengths (all_segments ss ++ gs))
    heights_are = by p.height where
      by : Ungiven ⊎ Given → cond given 1 0 ≡ length (lengths (all_segments ss ++ gs))
      by (inl u) = rw (is, u.zero, u.none)
      by (inr g) = rw (is, given_of w.late_height (late_of g)) (sym g.one)

    has : (n : ℕ) (heights : ℕ) → heights ≡ length (lengths (all_segments ss ++ gs)) →
        rest_fault h (record { height = n; entities = length ss; heights = heights }) (count_by is_move gs) (not (is_nil m.code)) m.rest ≡ Some f
    has n heights e =
        let at = heights_are ∙ sym e in
        subst (λ (z : ℕ × ℕ × ℕ). rest_fault h (record { height = n; entities = z.0; heights = z.1 }) z.2 (not (is_nil m.code)) m.rest ≡ Some f)
        (λ i. (p.entities_are i, at i, p.moved_is i)) (m.rest_has n)

    begun : IsBegun h gs m.code
    begun = record { legal = p.begun.legal; one_move = p.begun.one_move; bytes = m.small }

    tail_is : flat_map segment_bytes gs ++ drop w.offset stream ≡ flat_map segment_bytes gs ++ (stuffed m.code ++ m.rest)
    tail_is = rw m.bytes_are

    -- at this height
    broken_at : (n : ℕ) → GiveOnly n 0 (all_segments ss ++ gs) → length ss < stripe_count n h.l0 → BodyFault h n (drop 20 stream) f
    broken_at n only less = record {
      stripes = ss;
      tail = flat_map segment_bytes gs ++ drop w.offset stream;
      bytes_are = body_apart;
      fewer = less;
      each = p.each;
      gives = gives_left n 0 (all_segments ss) gs only;
      tail_has = record {
        segments = gs;
        code = m.code;
        rest = m.rest;
        bytes_are = tail_is;
        begun = begun;
        gives = rw zero-add at (gives_right n 0 (all_segments ss) gs only);
        rest_has = has n (length (lengths (all_segments ss)) + length (lengths gs)) (sym (many_lengths (all_segments ss) gs));
      };
    }

    -- before a height is given
    skips : Ungiven → length ss < stripe_count h.yd h.l0 → Breaks h (drop 20 stream) f
    skips u less = record {
      stripes = ss;
      tail = flat_map segment_bytes gs ++ drop w.offset stream;
      bytes_are = body_apart;
      fewer = omega arith;
      each = p.each;
      alone = alone ss p.each;
      none = none_left (all_segments ss) gs u.none;
      tail_has = record {
        segments = gs;
        code = m.code;
        rest = m.rest;
        bytes_are = tail_is;
        begun = begun;
        alone = omega (arith, p.begun.one_move, none_moved ss);
        none = none_right (all_segments ss) gs u.none;
        rest_has = λ n. rw (none_moved ss, zero-add, zero-add) (has n 0 (ap length (sym u.none)));
      };
    } where
      alone : (ss : List Stripe) → AreStripes h ss → IsAlone false ss
      alone [] each = tt
      alone (s ∷ ss) each = omega (arith, each.0.one_move)

    height_broken : (n : ℕ) × IsHeight h (drop 20 stream) n × BodyFault h n (drop 20 stream) f
    height_broken = by p.height where
      by : Ungiven ⊎ Given → (n : ℕ) × IsHeight h (drop 20 stream) n × BodyFault h n (drop 20 stream) f
      by (inl u) =
          let less = few_ungiven few u in
          (h.yd, height_of_skipped p.header_of.accepted (skips u less), broken_at h.yd (gives_none h.yd 0 (all_segments ss ++ gs) (omega arith) u.none) less)
      by (inr g) = (w.late_height, inl g.gives, broken_at w.late_height g.only (few_given few g))

    pub breaks_in_stripe : BreaksAt stream w (Behind h ss gs) f w.offset w.entities
    breaks_in_stripe = record {
      offset_is = refl;
      stripe_is = p.entities_are;
      breaks = record {
        code = m.code;
        rest = m.rest;
        bytes_are = m.bytes_are;
        small = m.small;
        rest_has = λ n. has n (length (lengths (all_segments ss ++ gs))) refl;
      };
      stream_has = inr (record {
        header = h;
        header_of = p.header_of;
        height = height_broken.0;
        height_is = height_broken.1;
        broken = height_broken.2;
      });
    }

-- ---- steps

-- a part was taken
pub tells_taken : {stream : List ℕ} {w w' v : PartWalk} {from : Passed} {told : Found} {part : Part} → told ≡ found.Part part → w' ≡ v → TakesPart stream w v from part →
    TellsNext stream w w' from told
tells_taken {stream} {w} {w'} {v} {from} {told} {part} e k t = subst (λ r. TellsNext stream w w' from r) (sym e) (subst (λ z. TakesPart stream w z from part) (sym k) t)

-- whatever the numbers are
offset_behind : (t : Taken) (w : PartWalk) (len : ℕ) → (walk_behind t w len).offset ≡ w.offset + len
offset_behind taken.Comment w len = refl
offset_behind t w len = refl

pub any_taken : {w' : PartWalk} {told : Found} {len : ℕ} (stream : List ℕ) (w v : PartWalk) (t : Taken) (left : List ℕ) → told ≡ found.Part (part_told t v len) → w' ≡ walk_behind t v len →
    v.offset ≡ w.offset →
    len ≡ length (drop w.offset stream) - length left → length left < length (drop w.offset stream) → TellsOfAny stream w w' told
any_taken {w'} {told} {len} stream w v t left e k same len_is less =
    let l = length-drop w.offset stream in
    let next : w'.offset ≡ w.offset + len = ap (λ z. z.offset) k ∙ offset_behind t v len ∙ ap (λ n. n + len) same in
    let some : 0 < len = omega arith in
    let within : w'.offset ≤ length stream = omega arith in
    subst (TellsOfAny stream w w') (sym e) (same, next, some, within)

-- the look answered
pub seen : {stream : List ℕ} {w : PartWalk} {h : Fields} {ss : List Stripe} {gs : List Segment} (p : StandsBehind stream w h ss gs) → is_given w ≡ false → stripes_in_use h w ≤ w.entities →
    w.at_height ≡ false →
    (o : Option ℕ) (left : List ℕ) (sees : Bool) → sees ≡ is_some o → IfSome o (LooksTo h w.entities (Some (drop w.offset stream)) (Some left)) →
    (o ≡ None → LookEnds h w.entities (drop w.offset stream)) → ComesOrEnds h stream w ss gs sees
seen {stream} {w} {h} {ss} {gs} p none most quiet None left sees is found ends = subst (ComesOrEnds h stream w ss gs) (sym is) (ends_looked p none most quiet (ends refl))
seen {stream} {w} {h} {ss} {gs} p none most quiet (Some n) left sees is found ends =
    subst (ComesOrEnds h stream w ss gs) (sym is) (zero_there p none most, (n, comes_looked p (zero_there p none most) (most_there p none most) n left found))

-- a height comes behind the last stripe
pub before_of : (h : Fields) (stream : List ℕ) (w w' : PartWalk) (found : Found) → SeesHeight h stream w true → TellsBefore h stream w w' found → TellsBehind h stream w w' found
before_of h stream w w' found sees before most ss gs p =
    let seen = sees most ss gs p in
    let none : is_given w ≡ false = ap (λ n. not (nat_eq n 0)) seen.0 in
    before seen.0 (most_there p none most) seen.1.0 seen.1.1 ss gs p

-- a result for each header is one for the header of the stream
pub tells_behind : (stream : List ℕ) (h : Fields) (w w' : PartWalk) (found : Found) → HeaderOf stream h → w.offset ≢ 0 → TellsThere h stream w w' found → (from : Passed) →
    IsBehind stream w from → TellsNext stream w w' from found
tells_behind stream h w w' found header some told Nothing p = absurd (some p)
tells_behind stream h w w' found header some told (Behind k ss gs) p =
    let same : h ≡ k = header_is header p.header_of in
    subst (λ z. TellsThere z stream w w' found) same told ss gs p

-- the header is returned
pub tells_header : (stream : List ℕ) (h : Fields) (w : PartWalk) → HeaderOf stream h → w.offset ≡ 0 → (from : Passed) → IsBehind stream w from → TakesPart stream w header_walk from header_part
tells_header stream h w header zero Nothing p = record {
  to = Behind h [] [];
  bytes = take 20 stream;
  adds = (h, refl, header_front stream h header, length-take-le 20 stream header.whole);
  stands = record {
    header_of = header;
    offset_is = refl;
    body_is = refl;
    each = tt;
    begun = record { legal = tt; one_move = omega arith; bytes = tt };
    entities_are = refl;
    moved_is = refl;
    height = inl (record { zero = refl; none = refl; within = omega arith; quiet = λ _ _. refl; comes = λ e. absurd (true≢false (sym e)) });
  };
  offset_is = sym zero;
  len_is = sym (length-take-le 20 stream header.whole);
  there = refl;
  stripe_is = refl;
}
tells_header stream h w header zero (Behind k ss gs) p = absurd (omega arith)

-- it is refused
pub tells_refused : (stream : List ℕ) (f : Fault) (w : PartWalk) → header_fault stream ≡ Some f → (from : Passed) → IsBehind stream w from → BreaksAt stream w from f 0 0
tells_refused stream f w refused Nothing p = record { offset_is = sym p; stripe_is = refl; breaks = refused; stream_has = inl refused }
tells_refused stream f w refused (Behind k ss gs) p = absurd (let e : None ≡ Some f = sym (accepted stream k p.header_of) ∙ refused in let bot : ⊥ = cc in bot)

-- the header's numbers
pub any_header : {w' : PartWalk} {told : Found} (stream : List ℕ) (h : Fields) (w : PartWalk) → HeaderOf stream h → w.offset ≡ 0 → told ≡ found.Part header_part → w' ≡ header_walk →
    TellsOfAny stream w w' told
any_header {w'} {told} stream h w header zero e k =
    let at : w'.offset ≡ 20 = ap (λ z. z.offset) k in
    let long = header.whole in
    let next : w'.offset ≡ w.offset + 20 = omega arith in
    let within : w'.offset ≤ length stream = omega arith in
    subst (TellsOfAny stream w w') (sym e) (sym zero, next, omega arith, within)

-- what belongs to a stream behind its parts
pub tail_none : (w : PartWalk) (stream : List ℕ) → ((reset : Bool) (more : List ℕ) → drop w.offset stream ≡ marker_bytes reset ++ more → ⊥) → TailIs w stream 0
tail_none w stream never = ([], drop w.offset stream, refl, refl, by w.at_height) where
  by : (t : Bool) → IsTail t [] (drop w.offset stream)
  by true = inr (refl, never)
  by false = refl

pub tail_marker : (w : PartWalk) (stream : List ℕ) (reset : Bool) (rest : List ℕ) → w.at_height ≡ true → drop w.offset stream ≡ marker_bytes reset ++ rest → TailIs w stream 2
tail_marker w stream reset rest at there = (marker_bytes reset, rest, there, refl, subst (λ t. IsTail t (marker_bytes reset) rest) (sym at) (inl (reset, refl)))
