-- A body has one reading: the bytes say where a segment, a code byte, an end marker or a rest with a fault stands.
use Rattle.std.proofs.Common.{cond, ◌≡◌, ◌≢◌, ◌⊎◌, inl, inr, ◌<◌, ◌≤◌, ◌+◌, ◌^◌, ℕ, suc, Bool, true, false, not, List, [], ◌∷◌, ◌++◌, None, Some, count_by, length, drop, take, nat_eq, refl, sym, ap, ◌∙◌, subst, append_assoc, append-nil, arith}
use Rattle.std.specs.Prelude.{flat_map}
use Rattle.std.specs.List.{AllByRecursion}
use Rattle.std.proofs.lemmas.Bool.Decides.{nat_tests}
use Rattle.std.proofs.lemmas.List.{take_at, drop_at}
use Rattle.std.proofs.lemmas.List.Sums.{sum_by-append}
use Rattle.byteorder.specs.Endian.{big_bytes, big_number}
use Rattle.qm_core.specs.Code.{stuffed}
use Rattle.t85_core.specs.declared.fault.Fault.{Fault}
use Rattle.t85_core.specs.declared.fault.Fault.TheVariants.{Truncated}
use Rattle.t85_core.specs.Header.{Fields, IsAccepted}
use Rattle.t85_core.specs.Grammar.{Segment, NewLength, Move, Comment, segment_bytes, is_move, lengths, is_nil, Stripe, stripe_bytes, marker_bytes, all_segments, is_valid_length, IsLegal, IsBegun, GiveOnly}
use Rattle.t85_core.specs.Refusal.{Spot, spot_after, rest_fault, escape_fault, length_fault, move_fault, comment_fault, StripeFault}
use Rattle.t85_core.proofs.BytesJoin.ListsGrow.{count_push}
use Rattle.t85_core.proofs.BytesJoin.SegmentsGiveHeights.{many_lengths, gives_left, gives_right}
use Rattle.t85_core.proofs.StreamsAreWalked.SegmentsAreChecked.{row_of, length_whole, move_whole, comment_whole}
use Rattle.t85_core.proofs.BytesJoin.CodesAreStuffed.{stuff, stuff_cases, stuffed_cons, second, one_stuff}

-- no code byte is at the front
abbrev pub NoCode : List ℕ → Type 0
NoCode x = (b : ℕ) (z : List ℕ) → x ≡ stuff b ++ z → ⊥

pub one_code : (c d x y : List ℕ) → stuffed c ++ x ≡ stuffed d ++ y → NoCode x → NoCode y → (c ≡ d) × (x ≡ y)
one_code [] [] x y e p q = (refl, e)
one_code [] (b ∷ d) x y e p q = absurd (p b (stuffed d ++ y) (e ∙ stuffed_cons b d y))
one_code (b ∷ c) [] x y e p q = absurd (q b (stuffed c ++ x) (sym e ∙ stuffed_cons b c x))
one_code (b ∷ c) (b' ∷ d) x y e p q =
    let first = one_stuff b b' (stuffed c ++ x) (stuffed d ++ y) (sym (stuffed_cons b c x) ∙ e ∙ stuffed_cons b' d y) in
    let rest = one_code c d x y first.1 p q in
    (ap (λ z. z ∷ c) first.0 ∙ ap (λ z. b' ∷ z) rest.0, rest.1)

-- the bytes of a segment after its first two
abbrev body_of : Segment → List ℕ
body_of (NewLength height) = big_bytes 4 height
body_of (Move row offset) = big_bytes 4 row ++ offset ∷ 0 ∷ []
body_of (Comment text) = big_bytes 4 (length text) ++ text

pub one_number : (a b : ℕ) (x y : List ℕ) → a < 2 ^ 32 → b < 2 ^ 32 → big_bytes 4 a ++ x ≡ big_bytes 4 b ++ y → (a ≡ b) × (x ≡ y)
one_number a b x y p q e = (sym (row_of a x p) ∙ ap (big_number 4) e ∙ row_of b y q, ap (drop 4) e)

pub one_segment : {h : Fields} → IsAccepted h → (s t : Segment) (x y : List ℕ) → IsLegal h s → IsLegal h t → segment_bytes s ++ x ≡ segment_bytes t ++ y → (s ≡ t) × (x ≡ y)
one_segment ok (NewLength a) (NewLength b) x y p q e =
    let k = one_number a b x y (omega arith) (omega arith) (ap (drop 2) e) in
    (ap NewLength k.0, k.1)
one_segment ok (Move row offset) (Move row' offset') x y p q e =
    let k = one_number row row' (offset ∷ 0 ∷ x) (offset' ∷ 0 ∷ y) (omega arith) (omega arith) (ap (drop 2) e) in
    let o : offset ∷ 0 ∷ x ≡ offset' ∷ 0 ∷ y = k.1 in
    let same : offset ≡ offset' = cc in
    (ap (λ r. Move r offset) k.0 ∙ ap (Move row') same, (cc))
one_segment ok (Comment text) (Comment text') x y p q e =
    let k = one_number (length text) (length text') (text ++ x) (text' ++ y) p q (ap (drop 2) e) in
    let front : text ≡ text' = sym (take_at text x (length text) refl) ∙ ap (take (length text)) k.1 ∙ ap (λ n. take n (text' ++ y)) k.0 ∙ take_at text' y (length text') refl in
    (ap Comment front, sym (drop_at text x (length text) refl) ∙ ap (drop (length text)) k.1 ∙ ap (λ n. drop n (text' ++ y)) k.0 ∙ drop_at text' y (length text') refl)
one_segment ok s t x y p q e = absurd (let bot : ⊥ = cc in bot)

-- no segment begins as a code byte does
pub no_segment_in_code : (b : ℕ) (x y : List ℕ) (s : Segment) → stuff b ++ x ≡ segment_bytes s ++ y → ⊥
no_segment_in_code b x y s e = went s (stuff_cases b) e where
  went : (s : Segment) → ((b ≡ 255) × (stuff b ≡ 255 ∷ 0 ∷ [])) ⊎ ((b ≢ 255) × (stuff b ≡ b ∷ [])) → stuff b ++ x ≡ segment_bytes s ++ y → ⊥
  went (NewLength a) (inl p) e = let k : 0 ≡ 5 = second (ap (λ z. z ++ x) (sym p.1) ∙ e) in omega (arith, k)
  went (Move row offset) (inl p) e = let k : 0 ≡ 6 = second (ap (λ z. z ++ x) (sym p.1) ∙ e) in omega (arith, k)
  went (Comment text) (inl p) e = let k : 0 ≡ 7 = second (ap (λ z. z ++ x) (sym p.1) ∙ e) in omega (arith, k)
  went (NewLength a) (inr p) e = let k : b ∷ x ≡ 255 ∷ 5 ∷ body_of (NewLength a) ++ y = ap (λ z. z ++ x) (sym p.1) ∙ e in p.0 (cc)
  went (Move row offset) (inr p) e = let k : b ∷ x ≡ 255 ∷ 6 ∷ body_of (Move row offset) ++ y = ap (λ z. z ++ x) (sym p.1) ∙ e in p.0 (cc)
  went (Comment text) (inr p) e = let k : b ∷ x ≡ 255 ∷ 7 ∷ body_of (Comment text) ++ y = ap (λ z. z ++ x) (sym p.1) ∙ e in p.0 (cc)

-- No more pieces are at the front of x, after these segments and this code: no code byte, and no legal segment that would fit
-- there.
pub record EndsPieces (h : Fields) (Fits : List Segment → Type 0) (segments : List Segment) (code x : List ℕ) : Type 0 where
  pub no_code : NoCode x
  pub no_segment : code ≡ [] → (s : Segment) (z : List ℕ) → IsLegal h s → Fits (segments ++ s ∷ []) → x ≡ segment_bytes s ++ z → ⊥

module _ {h : Fields} (ok : IsAccepted h) (Fits : List Segment → Type 0) (closed : (ss ts : List Segment) → Fits (ss ++ ts) → Fits ss) where
  no_segment_before : {before : List Segment} {c x : List ℕ} (y : List ℕ) (t : Segment) → IsLegal h t → Fits (before ++ t ∷ []) → EndsPieces h Fits before c x →
      stuffed c ++ x ≡ segment_bytes t ++ y → ⊥
  no_segment_before {c = []} y t legal fits ends e = ends.no_segment refl t y legal fits e
  no_segment_before {c = (b ∷ c)} {x} y t legal fits ends e = no_segment_in_code b (stuffed c ++ x) y t (sym (stuffed_cons b c x) ∙ e)

  -- the cut of a stripe is the only one
  pub one_cut : {c d x y : List ℕ} (before ss ts : List Segment) → flat_map segment_bytes ss ++ (stuffed c ++ x) ≡ flat_map segment_bytes ts ++ (stuffed d ++ y) →
      AllByRecursion (IsLegal h) ss →
      AllByRecursion (IsLegal h) ts → Fits (before ++ ss) → Fits (before ++ ts) → EndsPieces h Fits (before ++ ss) c x → EndsPieces h Fits (before ++ ts) d y →
      (ss ≡ ts) × (c ≡ d) × (x ≡ y)
  one_cut {c} {d} {x} {y} before [] [] e p q f g ends ends' = let k = one_code c d x y e ends.no_code ends'.no_code in (refl, k.0, k.1)
  one_cut {c} {d} {x} {y} before [] (t ∷ ts) e p q f g ends ends' =
      let fits : Fits (before ++ t ∷ []) = closed (before ++ t ∷ []) ts (subst Fits (sym (append_assoc before (t ∷ []) ts)) g) in
      absurd (no_segment_before (flat_map segment_bytes ts ++ (stuffed d ++ y)) t q.0 fits (subst (λ u. EndsPieces h Fits u c x) (append-nil before) ends)
      (e ∙ append_assoc (segment_bytes t) (flat_map segment_bytes ts) (stuffed d ++ y)))
  one_cut {c} {d} {x} {y} before (s ∷ ss) [] e p q f g ends ends' =
      let fits : Fits (before ++ s ∷ []) = closed (before ++ s ∷ []) ss (subst Fits (sym (append_assoc before (s ∷ []) ss)) f) in
      absurd (no_segment_before (flat_map segment_bytes ss ++ (stuffed c ++ x)) s p.0 fits (subst (λ u. EndsPieces h Fits u d y) (append-nil before) ends')
      (sym e ∙ append_assoc (segment_bytes s) (flat_map segment_bytes ss) (stuffed c ++ x)))
  one_cut {c} {d} {x} {y} before (s ∷ ss) (t ∷ ts) e p q f g ends ends' =
      let first = one_segment ok s t (flat_map segment_bytes ss ++ (stuffed c ++ x)) (flat_map segment_bytes ts ++ (stuffed d ++ y)) p.0 q.0
      (sym (append_assoc (segment_bytes s) (flat_map segment_bytes ss) (stuffed c ++ x)) ∙ e ∙ append_assoc (segment_bytes t) (flat_map segment_bytes ts) (stuffed d ++ y)) in
      let a : before ++ s ∷ ss ≡ (before ++ s ∷ []) ++ ss = sym (append_assoc before (s ∷ []) ss) in
      let b : before ++ t ∷ ts ≡ (before ++ s ∷ []) ++ ts = ap (λ u. before ++ u ∷ ts) (sym first.0) ∙ sym (append_assoc before (s ∷ []) ts) in
      let rest = one_cut (before ++ s ∷ []) ss ts first.1 p.1 q.1 (subst Fits a f) (subst Fits b g)
      (subst (λ u. EndsPieces h Fits u c x) a ends) (subst (λ u. EndsPieces h Fits u d y) b ends') in
      (ap (λ z. z ∷ ss) first.0 ∙ ap (λ z. t ∷ z) rest.0, rest.1, rest.2)

-- ---- whole stripes

-- a stripe, cut before its end marker
pub cut_at_marker : (s : Stripe) (x : List ℕ) → stripe_bytes s ++ x ≡ flat_map segment_bytes s.segments ++ (stuffed s.code ++ (marker_bytes s.reset ++ x))
cut_at_marker s x = append_assoc (flat_map segment_bytes s.segments) (stuffed s.code ++ marker_bytes s.reset) x
    ∙ ap (λ z. flat_map segment_bytes s.segments ++ z) (append_assoc (stuffed s.code) (marker_bytes s.reset) x)

pub marker_no_code : (reset : Bool) (x : List ℕ) → NoCode (marker_bytes reset ++ x)
marker_no_code reset x b z e = went reset (stuff_cases b) e where
  went : (r : Bool) → ((b ≡ 255) × (stuff b ≡ 255 ∷ 0 ∷ [])) ⊎ ((b ≢ 255) × (stuff b ≡ b ∷ [])) → marker_bytes r ++ x ≡ stuff b ++ z → ⊥
  went true (inl p) e = let k : 3 ≡ 0 = second (e ∙ ap (λ u. u ++ z) p.1) in omega (arith, k)
  went false (inl p) e = let k : 2 ≡ 0 = second (e ∙ ap (λ u. u ++ z) p.1) in omega (arith, k)
  went true (inr p) e = let k : 255 ∷ 3 ∷ x ≡ b ∷ z = e ∙ ap (λ u. u ++ z) p.1 in p.0 (cc)
  went false (inr p) e = let k : 255 ∷ 2 ∷ x ≡ b ∷ z = e ∙ ap (λ u. u ++ z) p.1 in p.0 (cc)

pub marker_no_segment : (reset : Bool) (x : List ℕ) (s : Segment) (z : List ℕ) → marker_bytes reset ++ x ≡ segment_bytes s ++ z → ⊥
marker_no_segment true x (NewLength a) z e = cc
marker_no_segment false x (NewLength a) z e = cc
marker_no_segment reset x s z e = cc

marker_ends : (h : Fields) (Fits : List Segment → Type 0) (ss : List Segment) (c : List ℕ) (reset : Bool) (x : List ℕ) → EndsPieces h Fits ss c (marker_bytes reset ++ x)
marker_ends h Fits ss c reset x = record { no_code = marker_no_code reset x; no_segment = λ _ s z _ _ e. marker_no_segment reset x s z e }

pub one_marker : (a b : Bool) (x y : List ℕ) → marker_bytes a ++ x ≡ marker_bytes b ++ y → (a ≡ b) × (x ≡ y)
one_marker true true x y e = (refl, (cc))
one_marker false false x y e = (refl, (cc))
one_marker a b x y e = absurd (let bot : ⊥ = cc in bot)

-- what a stripe is made of
abbrev pub IsStripe : Fields → Stripe → Type 0
IsStripe h s = IsBegun h s.segments s.code

abbrev Any : List Segment → Type 0
Any ss = Unit {0}

pub one_stripe : {h : Fields} → IsAccepted h → (s t : Stripe) (x y : List ℕ) → IsStripe h s → IsStripe h t → stripe_bytes s ++ x ≡ stripe_bytes t ++ y → (s ≡ t) × (x ≡ y)
one_stripe {h} ok s t x y p q e =
    let cut = one_cut ok Any (λ _ _ _. tt) [] s.segments t.segments (sym (cut_at_marker s x) ∙ e ∙ cut_at_marker t y)
    p.legal q.legal tt tt (marker_ends h Any s.segments s.code s.reset x) (marker_ends h Any t.segments t.code t.reset y) in
    let end = one_marker s.reset t.reset x y cut.2 in
    let make : List Segment × List ℕ × Bool → Stripe = λ u. record { segments = u.0; code = u.1; reset = u.2 } in
    (ap (λ z. make (z, s.code, s.reset)) cut.0 ∙ ap (λ z. make (t.segments, z, s.reset)) cut.1 ∙ ap (λ z. make (t.segments, t.code, z)) end.0, end.1)

-- as many whole stripes, and the same bytes after them
pub one_front : {h : Fields} → IsAccepted h → (ss ts : List Stripe) (x y : List ℕ) → AllByRecursion (IsStripe h) ss → AllByRecursion (IsStripe h) ts → length ss ≡ length ts →
    flat_map stripe_bytes ss ++ x ≡ flat_map stripe_bytes ts ++ y → (ss ≡ ts) × (x ≡ y)
one_front ok [] [] x y p q n e = (refl, e)
one_front ok (s ∷ ss) (t ∷ ts) x y p q n e =
    let first = one_stripe ok s t (flat_map stripe_bytes ss ++ x) (flat_map stripe_bytes ts ++ y) p.0 q.0
    (sym (append_assoc (stripe_bytes s) (flat_map stripe_bytes ss) x) ∙ e ∙ append_assoc (stripe_bytes t) (flat_map stripe_bytes ts) y) in
    let fewer : length ss ≡ length ts = omega arith in
    let rest = one_front ok ss ts x y p.1 q.1 fewer first.1 in
    (ap (λ z. z ∷ ss) first.0 ∙ ap (λ z. t ∷ z) rest.0, rest.1)
one_front ok ss ts x y p q n e = absurd (omega arith)

pub one_parts : {h : Fields} → IsAccepted h → (ss ts : List Stripe) (x y : List ℕ) → AllByRecursion (IsStripe h) ss → AllByRecursion (IsStripe h) ts → length ss ≡ length ts →
    flat_map stripe_bytes ss ++ x ≡ flat_map stripe_bytes ts ++ y → ss ≡ ts
one_parts ok ss ts x y p q n e = (one_front ok ss ts x y p q n e).0

-- ---- a stripe that isn't whole

abbrev pub spot_of : ℕ → ℕ → ℕ → Spot
spot_of height k n = record { height = height; entities = k; heights = n }

none_some : {f : Fault} → None ≡ Some f → ⊥
none_some e = cc

pub no_code_in : {f : Fault} (h : Fields) (spot : Spot) (m : ℕ) (c : Bool) (rest : List ℕ) → rest_fault h spot m c rest ≡ Some f → NoCode rest
no_code_in {f} h spot m c rest e b z is = went (stuff_cases b) where
  plain : b ≢ 255 → (y : List ℕ) → rest_fault h spot m c (b ∷ y) ≡ Some f → ⊥
  plain n [] e = let t : nat_eq b 255 ≡ false = grind (arith, nat_tests) in none_some (ap (λ u. cond u (Some Truncated) None) (sym t) ∙ e)
  plain n (y ∷ ys) e = let t : nat_eq b 255 ≡ false = grind (arith, nat_tests) in none_some (ap (λ u. cond u (escape_fault h spot m c y ys) None) (sym t) ∙ e)

  went : ((b ≡ 255) × (stuff b ≡ 255 ∷ 0 ∷ [])) ⊎ ((b ≢ 255) × (stuff b ≡ b ∷ [])) → ⊥
  went (inl p) = none_some (subst (λ u. rest_fault h spot m c u ≡ Some f) (is ∙ ap (λ u. u ++ z) p.1) e)
  went (inr p) = plain p.0 z (subst (λ u. rest_fault h spot m c u ≡ Some f) (is ∙ ap (λ u. u ++ z) p.1) e)

pub no_marker_fault : {f : Fault} (h : Fields) (spot : Spot) (m : ℕ) (c reset : Bool) (x : List ℕ) → rest_fault h spot m c (marker_bytes reset ++ x) ≡ Some f → ⊥
no_marker_fault h spot m c true x k = none_some k
no_marker_fault h spot m c false x k = none_some k

-- a height that may be in use is valid after so many data entities
abbrev pub Suits : Fields → ℕ → ℕ → Type 0
Suits h height k = 1 ≤ height → is_valid_length h k height ≡ true

module _ {h : Fields} (ok : IsAccepted h) (height k n : ℕ) (suits : Suits h height k) where
  -- segments that may be in one stripe, after n heights
  pub record Fits (ss : List Segment) : Type 0 where
    pub one_move : count_by is_move ss ≤ 1
    pub gives : GiveOnly height n ss

  fits_closed : (ss ts : List Segment) → Fits (ss ++ ts) → Fits ss
  fits_closed ss ts f = record { one_move = few ss ts f.one_move; gives = gives_left height n ss ts f.gives } where
    few : (ss ts : List Segment) → count_by is_move (ss ++ ts) ≤ 1 → count_by is_move ss ≤ 1
    few ss ts e = let c = sum_by-append (λ y. cond (is_move y) 1 0) ss ts in omega arith

  fault_ends : {f : Fault} (segments : List Segment) (code rest : List ℕ) →
      rest_fault h (spot_of height k (n + length (lengths segments))) (count_by is_move segments) (not (is_nil code)) rest ≡ Some f →
      EndsPieces h Fits segments code rest
  fault_ends {f} segments code rest e = record {
    no_code = no_code_in h (spot_of height k (n + length (lengths segments))) (count_by is_move segments) (not (is_nil code)) rest e;
    no_segment = λ nil s z legal fits is. no s z legal fits is
        (subst (λ u. rest_fault h (spot_of height k (n + length (lengths segments))) (count_by is_move segments) (not (is_nil u)) rest ≡ Some f) nil e);
  } where
    no : (s : Segment) (z : List ℕ) → IsLegal h s → Fits (segments ++ s ∷ []) → rest ≡ segment_bytes s ++ z →
        rest_fault h (spot_of height k (n + length (lengths segments))) (count_by is_move segments) false rest ≡ Some f → ⊥
    no (NewLength a) z legal fits is e =
        let given = gives_right height n segments (NewLength a ∷ []) fits.gives in
        let same : a ≡ height = given.this.0 in
        let none : n + length (lengths segments) ≡ 0 = (let one : (n + length (lengths segments)) + 1 ≤ 1 = given.one in omega arith) in
        let e1 : length_fault h (spot_of height k (n + length (lengths segments))) (big_bytes 4 a ++ z) ≡ Some f =
        subst (λ u. rest_fault h (spot_of height k (n + length (lengths segments))) (count_by is_move segments) false u ≡ Some f) is e in
        let e2 : length_fault h (spot_of height k 0) (big_bytes 4 a ++ z) ≡ Some f = subst (λ u. length_fault h (spot_of height k u) (big_bytes 4 a ++ z) ≡ Some f) none e1 in
        let e3 : length_fault h (spot_of height k 0) (big_bytes 4 height ++ z) ≡ Some f = subst (λ u. length_fault h (spot_of height k 0) (big_bytes 4 u ++ z) ≡ Some f) same e2 in
        none_some (sym (length_whole h height k legal.0 z (omega arith) (suits (omega arith))) ∙ e3)
    no (Move row offset) z legal fits is e =
        let none : count_by is_move segments ≡ 0 = (let c = count_push is_move segments (Move row offset) in omega arith) in
        let e1 : move_fault h (count_by is_move segments) (big_bytes 4 row ++ offset ∷ 0 ∷ z) ≡ Some f =
        subst (λ u. rest_fault h (spot_of height k (n + length (lengths segments))) (count_by is_move segments) false u ≡ Some f) is e in
        let e2 : move_fault h 0 (big_bytes 4 row ++ offset ∷ 0 ∷ z) ≡ Some f = subst (λ u. move_fault h u (big_bytes 4 row ++ offset ∷ 0 ∷ z) ≡ Some f) none e1 in
        none_some (sym (move_whole h row offset z (omega arith) legal.0 legal.1) ∙ e2)
    no (Comment text) z legal fits is e =
        let e1 : comment_fault (big_bytes 4 (length text) ++ (text ++ z)) ≡ Some f =
        subst (λ u. rest_fault h (spot_of height k (n + length (lengths segments))) (count_by is_move segments) false u ≡ Some f) is e in
        none_some (sym (comment_whole text z legal) ∙ e1)

  left_fits : {tail : List ℕ} {f : Fault} (q : StripeFault h (spot_of height k n) tail f) → Fits q.segments
  left_fits q = record { one_move = q.begun.one_move; gives = q.gives }

  left_ends : {tail : List ℕ} {f : Fault} (q : StripeFault h (spot_of height k n) tail f) → EndsPieces h Fits q.segments q.code q.rest
  left_ends q = fault_ends q.segments q.code q.rest q.rest_has

  -- a stripe that isn't whole is no stripe
  no_stripe_in_fault : {tail : List ℕ} {f : Fault} (s : Stripe) (x : List ℕ) → IsStripe h s → GiveOnly height n s.segments → StripeFault h (spot_of height k n) tail f →
      stripe_bytes s ++ x ≡ tail → ⊥
  no_stripe_in_fault {f} s x p g q e =
      let cut = one_cut ok Fits fits_closed [] s.segments q.segments (sym (cut_at_marker s x) ∙ e ∙ q.bytes_are)
      p.legal q.begun.legal (record { one_move = p.one_move; gives = g }) (left_fits q) (marker_ends h Fits s.segments s.code s.reset x) (left_ends q) in
      no_marker_fault h (spot_of height k (n + length (lengths q.segments))) (count_by is_move q.segments) (not (is_nil q.code)) s.reset x
      (subst (λ z. rest_fault h (spot_of height k (n + length (lengths q.segments))) (count_by is_move q.segments) (not (is_nil q.code)) z ≡ Some f) (sym cut.2) q.rest_has)

-- two cuts of a stripe that isn't whole are one
pub record SameStripeFault {h : Fields} {spot spot' : Spot} {x y : List ℕ} {f g : Fault} (p : StripeFault h spot x f) (q : StripeFault h spot' y g) : Type 0 where
  pub segments : p.segments ≡ q.segments
  pub code : p.code ≡ q.code
  pub rest : p.rest ≡ q.rest
  pub fault : f ≡ g

pub one_stripe_fault : {h : Fields} {x y : List ℕ} {f g : Fault} → IsAccepted h → (height k n : ℕ) → Suits h height k →
    (p : StripeFault h (spot_of height k n) x f) (q : StripeFault h (spot_of height k n) y g) →
    x ≡ y → SameStripeFault p q
one_stripe_fault {h} {f} {g} ok height k n suits p q e =
    let cut = one_cut ok (Fits ok height k n suits) (fits_closed ok height k n suits) [] p.segments q.segments (sym p.bytes_are ∙ e ∙ q.bytes_are)
    p.begun.legal q.begun.legal (left_fits ok height k n suits p) (left_fits ok height k n suits q)
    (left_ends ok height k n suits p) (left_ends ok height k n suits q) in
    let same : rest_fault h (spot_of height k (n + length (lengths p.segments))) (count_by is_move p.segments) (not (is_nil p.code)) p.rest
    ≡ rest_fault h (spot_of height k (n + length (lengths q.segments))) (count_by is_move q.segments) (not (is_nil q.code)) q.rest =
    ap (λ z. rest_fault h (spot_of height k (n + length (lengths z))) (count_by is_move z) (not (is_nil p.code)) p.rest) cut.0
    ∙ ap (λ z. rest_fault h (spot_of height k (n + length (lengths q.segments))) (count_by is_move q.segments) (not (is_nil z)) p.rest) cut.1
    ∙ ap (rest_fault h (spot_of height k (n + length (lengths q.segments))) (count_by is_move q.segments) (not (is_nil q.code))) cut.2 in
    let r : Some f ≡ Some g = sym p.rest_has ∙ same ∙ q.rest_has in
    record { segments = cut.0; code = cut.1; rest = cut.2; fault = (let r : f ≡ g = cc in r) }

-- ---- whole stripes, and one that isn't whole

-- what stripes stand after: the entities and heights before them, and theirs
abbrev pub spot_on : ℕ → ℕ → ℕ → List Stripe → Spot
spot_on height k n ss = spot_of height (k + length ss) (n + length (lengths (all_segments ss)))

-- whole stripes after n heights
pub record Wholes (h : Fields) (height n : ℕ) (ss : List Stripe) : Type 0 where
  pub each : AllByRecursion (IsStripe h) ss
  pub gives : GiveOnly height n (all_segments ss)

first_whole : {h : Fields} {height n : ℕ} {s : Stripe} {ss : List Stripe} → Wholes h height n (s ∷ ss) → IsStripe h s × GiveOnly height n s.segments
first_whole {height} {n} {s} {ss} w = (w.each.0, gives_left height n s.segments (all_segments ss) w.gives)

rest_whole : {h : Fields} {height n : ℕ} {s : Stripe} {ss : List Stripe} → Wholes h height n (s ∷ ss) → Wholes h height (n + length (lengths s.segments)) ss
rest_whole {height} {n} {s} {ss} w = record { each = w.each.1; gives = gives_right height n s.segments (all_segments ss) w.gives }

module _ {h : Fields} (ok : IsAccepted h) (height most : ℕ) (suits : (k : ℕ) → k ≤ most → Suits h height k) where
  -- what is left after the first of them stands where it stood
  onward : (k n : ℕ) (s : Stripe) (ss : List Stripe) → spot_on height k n (s ∷ ss) ≡ spot_on height (suc k) (n + length (lengths s.segments)) ss
  onward k n s ss =
      let a : k + suc (length ss) ≡ suc k + length ss = omega arith in
      let c = many_lengths s.segments (all_segments ss) in
      let b : n + length (lengths (all_segments (s ∷ ss))) ≡ (n + length (lengths s.segments)) + length (lengths (all_segments ss)) = omega arith in
      ap (λ u. spot_of height u (n + length (lengths (all_segments (s ∷ ss))))) a ∙ ap (spot_of height (suc k + length ss)) b

  here : (k n : ℕ) → spot_on height k n [] ≡ spot_of height k n
  here k n =
      let a : k + 0 ≡ k = omega arith in
      let b : n + 0 ≡ n = omega arith in
      ap (λ u. spot_of height u (n + 0)) a ∙ ap (spot_of height k) b

  -- whole stripes, or fewer and one that isn't whole
  never_both : {tail : List ℕ} {f : Fault} (k : ℕ) {n : ℕ} (ss ts : List Stripe) (x : List ℕ) → Wholes h height n ss → AllByRecursion (IsStripe h) ts →
      k + length ts ≤ most → length ts < length ss → StripeFault h (spot_on height k n ts) tail f → flat_map stripe_bytes ss ++ x ≡ flat_map stripe_bytes ts ++ tail → ⊥
  never_both k [] ts x p q le less w e = omega arith
  never_both {tail} {f} k {n} (s ∷ ss) [] x p q le less w e =
      let first = first_whole p in
      no_stripe_in_fault ok height k n (suits k (omega arith)) s (flat_map stripe_bytes ss ++ x) first.0 first.1 (subst (λ u. StripeFault h u tail f) (here k n) w)
      (sym (append_assoc (stripe_bytes s) (flat_map stripe_bytes ss) x) ∙ e)
  never_both {tail} {f} k {n} (s ∷ ss) (t ∷ ts) x p q le less w e =
      let first = one_stripe ok s t (flat_map stripe_bytes ss ++ x) (flat_map stripe_bytes ts ++ tail) p.each.0 q.0
      (sym (append_assoc (stripe_bytes s) (flat_map stripe_bytes ss) x) ∙ e ∙ append_assoc (stripe_bytes t) (flat_map stripe_bytes ts) tail) in
      let w' : StripeFault h (spot_on height (suc k) (n + length (lengths s.segments)) ts) tail f =
      subst (λ u. StripeFault h (spot_on height (suc k) (n + length (lengths u.segments)) ts) tail f) (sym first.0) (subst (λ u. StripeFault h u tail f) (onward k n t ts) w) in
      never_both (suc k) ss ts x (rest_whole p) q.1 (omega arith) (omega arith) w' first.1

  -- two cuts that end in a stripe that isn't whole have the same stripes, and leave the same bytes
  same_front : {x y : List ℕ} {f g : Fault} (k : ℕ) {n : ℕ} (ss ts : List Stripe) → Wholes h height n ss → Wholes h height n ts →
      k + length ss ≤ most → k + length ts ≤ most → StripeFault h (spot_on height k n ss) x f → StripeFault h (spot_on height k n ts) y g →
      flat_map stripe_bytes ss ++ x ≡ flat_map stripe_bytes ts ++ y → (ss ≡ ts) × (x ≡ y)
  same_front k [] [] p q ls lt v w e = (refl, e)
  same_front {x} {y} {g = g} k {n} (s ∷ ss) [] p q ls lt v w e =
      let first = first_whole p in
      absurd (no_stripe_in_fault ok height k n (suits k (omega arith)) s (flat_map stripe_bytes ss ++ x) first.0 first.1 (subst (λ u. StripeFault h u y g) (here k n) w)
      (sym (append_assoc (stripe_bytes s) (flat_map stripe_bytes ss) x) ∙ e))
  same_front {x} {y} {f} k {n} [] (t ∷ ts) p q ls lt v w e =
      let first = first_whole q in
      absurd (no_stripe_in_fault ok height k n (suits k (omega arith)) t (flat_map stripe_bytes ts ++ y) first.0 first.1 (subst (λ u. StripeFault h u x f) (here k n) v)
      (sym (append_assoc (stripe_bytes t) (flat_map stripe_bytes ts) y) ∙ sym e))
  same_front {x} {y} {f} {g} k {n} (s ∷ ss) (t ∷ ts) p q ls lt v w e =
      let first = one_stripe ok s t (flat_map stripe_bytes ss ++ x) (flat_map stripe_bytes ts ++ y) p.each.0 q.each.0
      (sym (append_assoc (stripe_bytes s) (flat_map stripe_bytes ss) x) ∙ e ∙ append_assoc (stripe_bytes t) (flat_map stripe_bytes ts) y) in
      let back = sym first.0 in
      let w' : StripeFault h (spot_on height (suc k) (n + length (lengths s.segments)) ts) y g =
      subst (λ u. StripeFault h (spot_on height (suc k) (n + length (lengths u.segments)) ts) y g) back (subst (λ u. StripeFault h u y g) (onward k n t ts) w) in
      let q' : Wholes h height (n + length (lengths s.segments)) ts = subst (λ u. Wholes h height (n + length (lengths u.segments)) ts) back (rest_whole q) in
      let rest = same_front (suc k) ss ts (rest_whole p) q' (omega arith) (omega arith) (subst (λ u. StripeFault h u x f) (onward k n s ss) v) w' first.1 in
      (ap (λ z. z ∷ ss) first.0 ∙ ap (λ z. t ∷ z) rest.0, rest.1)

  after_is : (ss : List Stripe) → spot_after height ss ≡ spot_on height 0 0 ss
  after_is ss =
      let a : length ss ≡ 0 + length ss = omega arith in
      let b : length (lengths (all_segments ss)) ≡ 0 + length (lengths (all_segments ss)) = omega arith in
      ap (λ u. spot_of height u (length (lengths (all_segments ss)))) a ∙ ap (spot_of height (0 + length ss)) b

  -- a body has its parts, or it is broken
  pub parts_or_fault : {tail : List ℕ} {f : Fault} (ss ts : List Stripe) (x : List ℕ) → AllByRecursion (IsStripe h) ss → AllByRecursion (IsStripe h) ts →
      GiveOnly height 0 (all_segments ss) →
      length ts ≤ most →
      length ts < length ss → StripeFault h (spot_after height ts) tail f → flat_map stripe_bytes ss ++ x ≡ flat_map stripe_bytes ts ++ tail → ⊥
  parts_or_fault {tail} {f} ss ts x p q g le less w e =
      never_both 0 ss ts x (record { each = p; gives = g }) q (omega arith) less (subst (λ u. StripeFault h u tail f) (after_is ts) w) e

  -- two cuts that end in a stripe that isn't whole are one
  pub record SameCut {x y : List ℕ} {f g : Fault} (ss ts : List Stripe) (v : StripeFault h (spot_after height ss) x f) (w : StripeFault h (spot_after height ts) y g) : Type 0 where
    pub stripes : ss ≡ ts
    pub broken : SameStripeFault v w

  pub one_broken : {x y : List ℕ} {f g : Fault} (ss ts : List Stripe) → Wholes h height 0 ss → Wholes h height 0 ts →
      length ss ≤ most → length ts ≤ most → (v : StripeFault h (spot_after height ss) x f) (w : StripeFault h (spot_after height ts) y g) →
      flat_map stripe_bytes ss ++ x ≡ flat_map stripe_bytes ts ++ y → SameCut ss ts v w
  one_broken {x} {y} {f} {g} ss ts p q ls lt v w e =
      let front = same_front 0 ss ts p q (omega arith) (omega arith)
      (subst (λ u. StripeFault h u x f) (after_is ss) v) (subst (λ u. StripeFault h u y g) (after_is ts) w) e in
      made ts front.0 y front.1 w
    where
      made : (us : List Stripe) → ss ≡ us → (z : List ℕ) → x ≡ z → (w : StripeFault h (spot_after height us) z g) → SameCut ss us v w
      made us same = subst (λ us. (z : List ℕ) → x ≡ z → (w : StripeFault h (spot_after height us) z g) → SameCut ss us v w) same
          (λ z left w. record { stripes = refl; broken = one_stripe_fault ok height (length ss) (length (lengths (all_segments ss))) (suits (length ss) ls) v w left })

-- ---- a code that goes on

-- a beginning of a code is a beginning of the code that no code byte stands after
code_front : (c d x y : List ℕ) → stuffed c ++ x ≡ stuffed d ++ y → NoCode y → (more : List ℕ) × (d ≡ c ++ more)
code_front [] d x y e q = (d, refl)
code_front (b ∷ c) [] x y e q = absurd (q b (stuffed c ++ x) (sym e ∙ stuffed_cons b c x))
code_front (b ∷ c) (b' ∷ d) x y e q =
    let first = one_stuff b b' (stuffed c ++ x) (stuffed d ++ y) (sym (stuffed_cons b c x) ∙ e ∙ stuffed_cons b' d y) in
    let rest = code_front c d x y first.1 q in
    (rest.0, ap (λ z. z ∷ d) (sym first.0) ∙ ap (λ z. b ∷ z) rest.1)

-- two readings of the same bytes after some segments: segments and a code that has begun, and segments and a whole code
record TwoReadings (h : Fields) (Fits : List Segment → Type 0) (before ss ts : List Segment) (b : ℕ) (c x d y : List ℕ) : Type 0 where
  pub same : flat_map segment_bytes ss ++ (stuffed (b ∷ c) ++ x) ≡ flat_map segment_bytes ts ++ (stuffed d ++ y)
  pub begun : AllByRecursion (IsLegal h) ss
  pub whole : AllByRecursion (IsLegal h) ts
  pub fits : Fits (before ++ ss)
  pub ends : EndsPieces h Fits (before ++ ts) d y

-- a code that has begun goes on in the same stripe
begun_cut : {h : Fields} {Fits : List Segment → Type 0} {b : ℕ} {c x d y : List ℕ} → IsAccepted h → ((ss ts : List Segment) → Fits (ss ++ ts) → Fits ss) →
    (ss ts : List Segment) {before : List Segment} → TwoReadings h Fits before ss ts b c x d y → (ss ≡ ts) × (more : List ℕ) × (d ≡ (b ∷ c) ++ more)
begun_cut {b} {c} {x} {d} {y} ok closed [] [] r = let k = code_front (b ∷ c) d x y r.same r.ends.no_code in (refl, k.0, k.1)
begun_cut {b} {c} {x} {d} {y} ok closed [] (t ∷ ts) r =
    absurd (no_segment_in_code b (stuffed c ++ x) (flat_map segment_bytes ts ++ (stuffed d ++ y)) t
    (sym (stuffed_cons b c x) ∙ r.same ∙ append_assoc (segment_bytes t) (flat_map segment_bytes ts) (stuffed d ++ y)))
begun_cut {h} {Fits} {b} {c} {x} {d} {y} ok closed (s ∷ ss) [] {before} r =
    let fits = closed (before ++ s ∷ []) ss (subst Fits (sym (append_assoc before (s ∷ []) ss)) r.fits) in
    absurd (no_segment_before ok Fits closed (flat_map segment_bytes ss ++ (stuffed (b ∷ c) ++ x)) s r.begun.0 fits (subst (λ u. EndsPieces h Fits u d y) (append-nil before) r.ends)
    (sym r.same ∙ append_assoc (segment_bytes s) (flat_map segment_bytes ss) (stuffed (b ∷ c) ++ x)))
begun_cut {h} {Fits} {b} {c} {x} {d} {y} ok closed (s ∷ ss) (t ∷ ts) {before} r =
    let after_s : List ℕ = flat_map segment_bytes ss ++ (stuffed (b ∷ c) ++ x) in
    let after_t : List ℕ = flat_map segment_bytes ts ++ (stuffed d ++ y) in
    let first = one_segment ok s t after_s after_t r.begun.0 r.whole.0
    (sym (append_assoc (segment_bytes s) (flat_map segment_bytes ss) (stuffed (b ∷ c) ++ x)) ∙ r.same ∙ append_assoc (segment_bytes t) (flat_map segment_bytes ts) (stuffed d ++ y)) in
    let front = sym (append_assoc before (s ∷ []) ss) in
    let front' = ap (λ u. before ++ u ∷ ts) (sym first.0) ∙ sym (append_assoc before (s ∷ []) ts) in
    let r' : TwoReadings h Fits (before ++ s ∷ []) ss ts b c x d y =
    record { same = first.1; begun = r.begun.1; whole = r.whole.1; fits = subst Fits front r.fits; ends = subst (λ u. EndsPieces h Fits u d y) front' r.ends } in
    let rest = begun_cut ok closed ss ts r' in
    (λ i. first.0 i ∷ rest.0 i, rest.1, rest.2)

-- in a whole stripe
pub begun_in_stripe : {h : Fields} {ss : List Segment} {b : ℕ} {c : List ℕ} → IsAccepted h → (x : List ℕ) (t : Stripe) (y : List ℕ) → IsBegun h ss (b ∷ c) → IsStripe h t →
    flat_map segment_bytes ss ++ (stuffed (b ∷ c) ++ x) ≡ stripe_bytes t ++ y → (ss ≡ t.segments) × (more : List ℕ) × (t.code ≡ (b ∷ c) ++ more)
begun_in_stripe {h} {ss} {b} {c} ok x t y p q e =
    begun_cut {Fits = Any} {c = c} {x = x} ok (λ _ _ _. tt) ss t.segments {before = []}
    (record { same = e ∙ cut_at_marker t y; begun = p.legal; whole = q.legal; fits = tt; ends = marker_ends h Any t.segments t.code t.reset y })

-- in one that isn't whole
pub begun_in_fault : {h : Fields} {height n b : ℕ} {ss : List Segment} {c tail : List ℕ} {f : Fault} → IsAccepted h → (k : ℕ) → Suits h height k → (x : List ℕ) →
    IsBegun h ss (b ∷ c) →
    GiveOnly height n ss →
    (w : StripeFault h (spot_of height k n) tail f) → flat_map segment_bytes ss ++ (stuffed (b ∷ c) ++ x) ≡ tail → (ss ≡ w.segments) × (more : List ℕ) × (w.code ≡ (b ∷ c) ++ more)
begun_in_fault {height} {n} {b} {ss} {c} ok k suits x p g w e =
    begun_cut {c = c} {x = x} ok (fits_closed ok height k n suits) ss w.segments {before = []}
    (record { same = e ∙ w.bytes_are; begun = p.legal; whole = w.begun.legal; fits = record { one_move = p.one_move; gives = g }; ends = left_ends ok height k n suits w })

-- a whole stripe that is at the front of one that isn't
pub stripe_in_fault : {h : Fields} {height n : ℕ} {tail : List ℕ} {f : Fault} → IsAccepted h → (k : ℕ) → Suits h height k → (s : Stripe) (x : List ℕ) → IsStripe h s →
    GiveOnly height n s.segments →
    StripeFault h (spot_of height k n) tail f → stripe_bytes s ++ x ≡ tail → ⊥
stripe_in_fault {height} {n} ok k suits s x p g q e = no_stripe_in_fault ok height k n suits s x p g q e

module _ {h : Fields} (ok : IsAccepted h) (height most : ℕ) (suits : (k : ℕ) → k ≤ most → Suits h height k) where
  first_on : (k : ℕ) {n : ℕ} (ss ts : List Stripe) (x y : List ℕ) → Wholes h height n ss → AllByRecursion (IsStripe h) ts →
      k + length ts ≤ most →
      (length ss ≤ length ts) ⊎ ((f : Fault) × StripeFault h (spot_on height k n ts) y f) → flat_map stripe_bytes ss ++ x ≡ flat_map stripe_bytes ts ++ y →
      (later : List Stripe) × (ts ≡ ss ++ later) × (x ≡ flat_map stripe_bytes later ++ y)
  first_on k [] ts x y p q le w e = (ts, refl, e)
  first_on k (s ∷ ss) [] x y p q le (inl m) e = absurd (omega arith)
  first_on k {n} (s ∷ ss) [] x y p q le (inr w) e =
      let first = first_whole p in
      absurd (no_stripe_in_fault ok height k n (suits k (omega arith)) s (flat_map stripe_bytes ss ++ x) first.0 first.1
      (subst (λ u. StripeFault h u y w.0) (here ok height most suits k n) w.1) (sym (append_assoc (stripe_bytes s) (flat_map stripe_bytes ss) x) ∙ e))
  first_on k {n} (s ∷ ss) (t ∷ ts) x y p q le w e =
      let first = one_stripe ok s t (flat_map stripe_bytes ss ++ x) (flat_map stripe_bytes ts ++ y) p.each.0 q.0
      (sym (append_assoc (stripe_bytes s) (flat_map stripe_bytes ss) x) ∙ e ∙ append_assoc (stripe_bytes t) (flat_map stripe_bytes ts) y) in
      let rest = first_on (suc k) ss ts x y (rest_whole p) q.1 (omega arith) (fewer first.0 w) first.1 in
      (rest.0, ap (λ z. z ∷ ts) (sym first.0) ∙ ap (λ z. s ∷ z) rest.1, rest.2)
    where
      fewer : s ≡ t → (length (s ∷ ss) ≤ length (t ∷ ts)) ⊎ ((f : Fault) × StripeFault h (spot_on height k n (t ∷ ts)) y f) →
          (length ss ≤ length ts) ⊎ ((f : Fault) × StripeFault h (spot_on height (suc k) (n + length (lengths s.segments)) ts) y f)
      fewer same (inl m) = inl (omega arith)
      fewer same (inr u) = inr (
        u.0,
        subst (λ z. StripeFault h (spot_on height (suc k) (n + length (lengths z.segments)) ts) y u.0) (sym same)
            (subst (λ z. StripeFault h z y u.0) (onward ok height most suits k n t ts) u.1),
      )

  -- Whole stripes are the first of each other reading: of more stripes, or of some and one that isn't whole.
  pub first_parts : (ss ts : List Stripe) (x y : List ℕ) → AllByRecursion (IsStripe h) ss → AllByRecursion (IsStripe h) ts → GiveOnly height 0 (all_segments ss) → length ts ≤ most →
      (length ss ≤ length ts) ⊎ ((f : Fault) × StripeFault h (spot_after height ts) y f) → flat_map stripe_bytes ss ++ x ≡ flat_map stripe_bytes ts ++ y →
      (later : List Stripe) × (ts ≡ ss ++ later) × (x ≡ flat_map stripe_bytes later ++ y)
  first_parts ss ts x y p q g le w e = first_on 0 ss ts x y (record { each = p; gives = g }) q (omega arith) (turned w) e where
    turned : (length ss ≤ length ts) ⊎ ((f : Fault) × StripeFault h (spot_after height ts) y f) → (length ss ≤ length ts) ⊎ ((f : Fault) × StripeFault h (spot_on height 0 0 ts) y f)
    turned (inl m) = inl m
    turned (inr u) = inr (u.0, subst (λ z. StripeFault h z y u.0) (after_is ok height most suits ts) u.1)
