-- The front of a rest that has no error.
use Rattle.std.proofs.Common.{cond, ◌≡◌, ◌≢◌, ◌⊎◌, inl, inr, ◌<◌, ◌≤◌, ◌+◌, ◌*◌, ◌/◌, ◌%◌, ◌^◌, ℕ, Bool, true, false, not, List, [], ◌∷◌, ◌++◌, Option, None, Some, length, drop, take, nat_eq, refl, sym, ap, ◌∙◌, subst, append_assoc, length-take-le, arith}
use Rattle.std.specs.Prelude.{if◌then◌else◌}
use Rattle.std.specs.List.{AllByRecursion}
use Rattle.std.proofs.lemmas.Bool.{cases_eq, cases_lt}
use Rattle.std.proofs.lemmas.Bool.Decides.{nat_tests}
use Rattle.std.proofs.lemmas.List.{take-append-drop}
use Rattle.byteorder.specs.Endian.{big_bytes, big_number}
use Rattle.t85_core.specs.declared.fault.Fault.{Fault}
use Rattle.t85_core.specs.declared.fault.Fault.TheVariants.{Truncated, BadEscape}
use Rattle.t85_core.specs.Header.{Fields, is_variable}
use Rattle.t85_core.specs.Grammar.{Segment, NewLength, Move, Comment, segment_bytes, marker_bytes, is_valid_length, IsLegal, is_move, GiveOnly}
use Rattle.t85_core.specs.Refusal.{Spot, rest_fault, escape_fault, length_fault, move_fault, comment_fault, is_legal_move}
use Rattle.t85_core.proofs.BytesJoin.SegmentsGiveHeights.{gives_none, valid_parts}
use Rattle.t85_core.proofs.BytesJoin.CodesAreStuffed.{stuff}

some_else : (t : Bool) (f : Fault) (r : Option Fault) → (if t then Some f else r) ≡ None → (t ≡ false) × (r ≡ None)
some_else t f r e = (grind (arith, nat_tests), grind (arith, nat_tests))

not_false : (t : Bool) → not t ≡ false → t ≡ true
not_false t e = grind (arith, nat_tests)

-- four bytes are those of their number
pub four_back : (a b c d : ℕ) (z : List ℕ) → a < 256 → b < 256 → c < 256 → d < 256 → big_bytes 4 (big_number 4 (a ∷ b ∷ c ∷ d ∷ z)) ≡ a ∷ b ∷ c ∷ d ∷ []
four_back a b c d z ha hb hc hd =
    four (big_number 4 (a ∷ b ∷ c ∷ d ∷ z)) a b c d ha hb hc hd (let e : big_number 4 (a ∷ b ∷ c ∷ d ∷ z) ≡ a * 16777216 + b * 65536 + c * 256 + d = omega arith in e)
  where
    four : (n a b c d : ℕ) → a < 256 → b < 256 → c < 256 → d < 256 → n ≡ a * 16777216 + b * 65536 + c * 256 + d → big_bytes 4 n ≡ a ∷ b ∷ c ∷ d ∷ []
    four n a b c d ha hb hc hd e =
        let e3 : n / 16777216 % 256 ≡ a = omega arith in
        let e2 : n / 65536 % 256 ≡ b = omega arith in
        let e1 : n / 256 % 256 ≡ c = omega arith in
        let e0 : n % 256 ≡ d = omega arith in
        ap (λ u. u ∷ (n / 65536 % 256) ∷ (n / 256 % 256) ∷ (n % 256) ∷ []) e3 ∙ ap (λ u. a ∷ u ∷ (n / 256 % 256) ∷ (n % 256) ∷ []) e2
        ∙ ap (λ u. a ∷ b ∷ u ∷ (n % 256) ∷ []) e1 ∙ ap (λ u. a ∷ b ∷ c ∷ u ∷ []) e0

four_small : (a b c d : ℕ) (z : List ℕ) → a < 256 → b < 256 → c < 256 → d < 256 → big_number 4 (a ∷ b ∷ c ∷ d ∷ z) < 2 ^ 32
four_small a b c d z ha hb hc hd = let e : big_number 4 (a ∷ b ∷ c ∷ d ∷ z) ≡ a * 16777216 + b * 65536 + c * 256 + d = omega arith in omega arith

abbrev pub AreBytes : List ℕ → Type 0
AreBytes xs = AllByRecursion (λ b. b < 256) xs

module _ (h : Fields) (spot : Spot) (moves : ℕ) where
  -- a legal segment that may follow so many moves is at the front
  pub record SegmentAt (tail : List ℕ) : Type 0 where
    pub segment : Segment
    pub more : List ℕ
    pub tail_is : tail ≡ segment_bytes segment ++ more
    pub legal : IsLegal h segment
    pub one_move : moves + cond (is_move segment) 1 0 ≤ 1
    pub gives : GiveOnly spot.height spot.heights (segment ∷ [])

  length_at : (bytes : List ℕ) → AreBytes bytes → length_fault h spot bytes ≡ None → moves ≤ 1 → SegmentAt (255 ∷ 5 ∷ bytes)
  length_at bytes all e few = went bytes all (grind (arith, nat_tests)) (grind (arith, nat_tests)) (grind (arith, nat_tests)) where
    variable : is_variable h ≡ true
    variable = grind (arith, nat_tests)

    none : spot.heights ≡ 0
    none = grind (arith, nat_tests)

    went : (xs : List ℕ) → AreBytes xs → 4 ≤ length xs → big_number 4 xs ≡ spot.height → not (is_valid_length h spot.entities (big_number 4 xs)) ≡ false →
        SegmentAt (255 ∷ 5 ∷ xs)
    went (x ∷ y ∷ z ∷ w ∷ xs) a long g v =
        let valid = valid_parts h spot.entities (big_number 4 (x ∷ y ∷ z ∷ w ∷ xs)) (not_false _ v) in
        record {
          segment = NewLength (big_number 4 (x ∷ y ∷ z ∷ w ∷ xs));
          more = xs;
          tail_is = ap (λ u. 255 ∷ 5 ∷ (u ++ xs)) (sym (four_back x y z w xs a.0 a.1.0 a.1.1.0 a.1.1.1.0));
          legal = (variable, valid.0, valid.1);
          one_move = omega arith;
          gives = record { one = omega (arith, none); this = (g, tt) };
        }
    went xs a long g v = absurd (omega arith)

  move_at : (bytes : List ℕ) → AreBytes bytes → move_fault h moves bytes ≡ None → spot.heights ≤ 1 → SegmentAt (255 ∷ 6 ∷ bytes)
  move_at bytes all e once = went bytes all (grind (arith, nat_tests)) (grind (arith, nat_tests)) where
    none : moves ≡ 0
    none = grind (arith, nat_tests)

    went : (xs : List ℕ) → AreBytes xs → 6 ≤ length xs → is_legal_move h xs ≡ true → SegmentAt (255 ∷ 6 ∷ xs)
    went (x ∷ y ∷ z ∷ w ∷ o ∷ last ∷ xs) a long g =
        let zero_last : last ≡ 0 = grind (arith, nat_tests) in
        record {
          segment = Move (big_number 4 (x ∷ y ∷ z ∷ w ∷ o ∷ last ∷ xs)) o;
          more = xs;
          tail_is = ap (λ v. 255 ∷ 6 ∷ (v ++ o ∷ last ∷ xs)) (sym (four_back x y z w (o ∷ last ∷ xs) a.0 a.1.0 a.1.1.0 a.1.1.1.0))
              ∙ ap (λ v. 255 ∷ 6 ∷ (big_bytes 4 (big_number 4 (x ∷ y ∷ z ∷ w ∷ o ∷ last ∷ xs)) ++ o ∷ v ∷ xs)) zero_last;
          legal = (grind (arith, nat_tests), grind (arith, nat_tests));
          one_move = omega (arith, none);
          gives = gives_none spot.height spot.heights (Move (big_number 4 (x ∷ y ∷ z ∷ w ∷ o ∷ last ∷ xs)) o ∷ []) once refl;
        }
    went xs a long g = absurd (omega arith)

  comment_at : (bytes : List ℕ) → AreBytes bytes → comment_fault bytes ≡ None → moves ≤ 1 → spot.heights ≤ 1 → SegmentAt (255 ∷ 7 ∷ bytes)
  comment_at bytes all e few once = went bytes all (grind (arith, nat_tests)) (grind (arith, nat_tests)) where
    went : (xs : List ℕ) → AreBytes xs → 4 ≤ length xs → 4 + big_number 4 xs ≤ length xs → SegmentAt (255 ∷ 7 ∷ xs)
    went (x ∷ y ∷ z ∷ w ∷ xs) a long g =
        let le : big_number 4 (x ∷ y ∷ z ∷ w ∷ xs) ≤ length xs = omega arith in
        let many : length (take (big_number 4 (x ∷ y ∷ z ∷ w ∷ xs)) xs) ≡ big_number 4 (x ∷ y ∷ z ∷ w ∷ xs) = length-take-le (big_number 4 (x ∷ y ∷ z ∷ w ∷ xs)) xs le in
        let small = four_small x y z w xs a.0 a.1.0 a.1.1.0 a.1.1.1.0 in
        record {
          segment = Comment (take (big_number 4 (x ∷ y ∷ z ∷ w ∷ xs)) xs);
          more = drop (big_number 4 (x ∷ y ∷ z ∷ w ∷ xs)) xs;
          tail_is =
              ap (λ v. 255 ∷ 7 ∷ (v ++ xs)) (sym (four_back x y z w xs a.0 a.1.0 a.1.1.0 a.1.1.1.0) ∙ ap (big_bytes 4) (sym many))
              ∙ ap (λ v. 255 ∷ 7 ∷ (big_bytes 4 (length (take (big_number 4 (x ∷ y ∷ z ∷ w ∷ xs)) xs)) ++ v)) (sym (take-append-drop (big_number 4 (x ∷ y ∷ z ∷ w ∷ xs)) xs))
              ∙ ap (λ v. 255 ∷ 7 ∷ v) (sym (append_assoc (big_bytes 4 (length (take (big_number 4 (x ∷ y ∷ z ∷ w ∷ xs)) xs))) (take (big_number 4 (x ∷ y ∷ z ∷ w ∷ xs)) xs)
              (drop (big_number 4 (x ∷ y ∷ z ∷ w ∷ xs)) xs)));
          legal = omega arith;
          one_move = omega arith;
          gives = gives_none spot.height spot.heights (Comment (take (big_number 4 (x ∷ y ∷ z ∷ w ∷ xs)) xs) ∷ []) once refl;
        }
    went xs a long g = absurd (omega arith)

  -- what is at the front of a rest: a code byte, an end marker, or before the code a segment
  pub data Front (in_code : Bool) (tail : List ℕ) : Type 0 where
    code_byte : (b : ℕ) (more : List ℕ) → b < 256 → tail ≡ stuff b ++ more → Front in_code tail
    end_marker : (reset : Bool) (more : List ℕ) → tail ≡ marker_bytes reset ++ more → Front in_code tail
    segment_at : in_code ≡ false → SegmentAt tail → Front in_code tail

  plain_byte : (c : Bool) (b : ℕ) (z : List ℕ) → b < 256 → b ≢ 255 → Front c (b ∷ z)
  plain_byte c b z small n =
      let t : nat_eq b 255 ≡ false = grind (arith, nat_tests) in
      code_byte b z small (ap (λ u. cond u (255 ∷ 0 ∷ []) (b ∷ []) ++ z) (sym t))

  escape_front : (c : Bool) (e : ℕ) (bytes : List ℕ) → AreBytes bytes → moves ≤ 1 → spot.heights ≤ 1 → escape_fault h spot moves c e bytes ≡ None → Front c (255 ∷ e ∷ bytes)
  escape_front c e bytes all few once none = zero_or (cases_eq e 0) where
    not_in_code : (d : Bool) (f : Option Fault) → (if d then Some BadEscape else f) ≡ None → (d ≡ false) × (f ≡ None)
    not_in_code d f q = some_else d BadEscape f q

    five : escape_fault h spot moves c 5 bytes ≡ None → Front c (255 ∷ 5 ∷ bytes)
    five q = let r = not_in_code c (length_fault h spot bytes) q in segment_at r.0 (length_at bytes all r.1 few)

    six : escape_fault h spot moves c 6 bytes ≡ None → Front c (255 ∷ 6 ∷ bytes)
    six q = let r = not_in_code c (move_fault h moves bytes) q in segment_at r.0 (move_at bytes all r.1 once)

    seven : escape_fault h spot moves c 7 bytes ≡ None → Front c (255 ∷ 7 ∷ bytes)
    seven q = let r = not_in_code c (comment_fault bytes) q in segment_at r.0 (comment_at bytes all r.1 few once)

    four : escape_fault h spot moves c 4 bytes ≡ None → ⊥
    four q = cc

    at : (n : ℕ) → e ≡ n → escape_fault h spot moves c n bytes ≡ None
    at n same = subst (λ u. escape_fault h spot moves c u bytes ≡ None) same none

    bad : e ≢ 0 → e ≢ 2 → e ≢ 3 → e ≢ 4 → (e ≡ 1) ⊎ (8 ≤ e) → ⊥
    bad n0 n2 n3 n4 q = grind (arith, nat_tests)

    others : e ≢ 0 → e ≢ 2 → e ≢ 3 → e ≢ 4 → (e ≡ 5) ⊎ (e ≢ 5) → (e ≡ 6) ⊎ (e ≢ 6) → (e ≡ 7) ⊎ (e ≢ 7) → Front c (255 ∷ e ∷ bytes)
    others n0 n2 n3 n4 (inl s) q r = subst (λ u. Front c (255 ∷ u ∷ bytes)) (sym s) (five (at 5 s))
    others n0 n2 n3 n4 (inr n5) (inl s) r = subst (λ u. Front c (255 ∷ u ∷ bytes)) (sym s) (six (at 6 s))
    others n0 n2 n3 n4 (inr n5) (inr n6) (inl s) = subst (λ u. Front c (255 ∷ u ∷ bytes)) (sym s) (seven (at 7 s))
    others n0 n2 n3 n4 (inr n5) (inr n6) (inr n7) = absurd (bad n0 n2 n3 n4 (rest n0 n2 n3 n4 n5 n6 n7 (cases_lt e 8))) where
      rest : e ≢ 0 → e ≢ 2 → e ≢ 3 → e ≢ 4 → e ≢ 5 → e ≢ 6 → e ≢ 7 → (e < 8) ⊎ (8 ≤ e) → (e ≡ 1) ⊎ (8 ≤ e)
      rest m0 m2 m3 m4 m5 m6 m7 (inl less) = inl (omega arith)
      rest m0 m2 m3 m4 m5 m6 m7 (inr more) = inr more

    four_or : e ≢ 0 → e ≢ 2 → e ≢ 3 → (e ≡ 4) ⊎ (e ≢ 4) → Front c (255 ∷ e ∷ bytes)
    four_or n0 n2 n3 (inl s) = absurd (four (at 4 s))
    four_or n0 n2 n3 (inr n4) = others n0 n2 n3 n4 (cases_eq e 5) (cases_eq e 6) (cases_eq e 7)

    three_or : e ≢ 0 → e ≢ 2 → (e ≡ 3) ⊎ (e ≢ 3) → Front c (255 ∷ e ∷ bytes)
    three_or n0 n2 (inl s) = end_marker true bytes (ap (λ u. 255 ∷ u ∷ bytes) s)
    three_or n0 n2 (inr n3) = four_or n0 n2 n3 (cases_eq e 4)

    two_or : e ≢ 0 → (e ≡ 2) ⊎ (e ≢ 2) → Front c (255 ∷ e ∷ bytes)
    two_or n0 (inl s) = end_marker false bytes (ap (λ u. 255 ∷ u ∷ bytes) s)
    two_or n0 (inr n2) = three_or n0 n2 (cases_eq e 3)

    zero_or : (e ≡ 0) ⊎ (e ≢ 0) → Front c (255 ∷ e ∷ bytes)
    zero_or (inl s) = code_byte 255 bytes (omega arith) (ap (λ u. 255 ∷ u ∷ bytes) s)
    zero_or (inr n0) = two_or n0 (cases_eq e 2)

  -- a rest without a fault has a piece at its front
  pub front_of : (c : Bool) (tail : List ℕ) → AreBytes tail → moves ≤ 1 → spot.heights ≤ 1 → rest_fault h spot moves c tail ≡ None → Front c tail
  front_of c [] all few once e = absurd (let bot : ⊥ = cc in bot)
  front_of c (b ∷ []) all few once e = went (cases_eq b 255) where
    some_none : Some Truncated ≡ None → ⊥
    some_none q = cc

    went : (b ≡ 255) ⊎ (b ≢ 255) → Front c (b ∷ [])
    went (inl s) = let t : nat_eq b 255 ≡ true = grind (arith, nat_tests) in absurd (some_none (ap (λ u. cond u (Some Truncated) None) (sym t) ∙ e))
    went (inr n) = plain_byte c b [] all.0 n
  front_of c (b ∷ y ∷ bytes) all few once e = went (cases_eq b 255) where
    went : (b ≡ 255) ⊎ (b ≢ 255) → Front c (b ∷ y ∷ bytes)
    went (inr n) = plain_byte c b (y ∷ bytes) all.0 n
    went (inl s) =
        let q = subst (λ u. rest_fault h spot moves c (u ∷ y ∷ bytes) ≡ None) s e in
        subst (λ u. Front c (u ∷ y ∷ bytes)) (sym s) (escape_front c y bytes all.1.1 few once q)
