-- The results for a stream in pieces: its height, its image, or its error and the rows that it fixes.
use Rattle.std.proofs.Common.{cond, ◌≡◌, ◌≢◌, ◌+◌, ◌-◌, ◌<◌, ◌≤◌, ◌⊎◌, inl, inr, ℕ, Bool, true, false, List, [], ◌∷◌, ◌++◌, length, take, nat_eq, nat_le, ◌==◌, ◌||◌, Option, None, Some, refl, sym, ap, ◌∙◌, subst, append_assoc, append-nil, arith, true≢false}
use Rattle.std.specs.Prelude.{flat_map}
use Rattle.std.specs.List.{AllByRecursion}
use Rattle.std.proofs.lemmas.Bool.Decides.{nat_tests}
use Rattle.std.proofs.lemmas.Bool.{cases_eq, cases_lt}
use Rattle.std.proofs.Math.Seq.{take-length}
use Rattle.byteorder.specs.Endian.{big_bytes, big_number}
use Rattle.t85_core.specs.declared.fault.Fault.{Fault}
use Rattle.t85_core.specs.declared.fault.Fault.TheVariants.{Truncated, BadEscape, Aborted, Changed}
use Rattle.t85_core.specs.Header.{Fields, IsAccepted, is_variable}
use Rattle.t85_core.specs.Height.{GivesHeight}
use Rattle.t85_core.specs.Grammar.{NewLength, Parts, segment_bytes, stripe_bytes, stripe_count, all_segments, lengths}
use Rattle.t85_core.specs.Refusal.{BodyFault, StripeFault, spot_after, rest_fault, length_fault, move_fault, comment_fault}
use Rattle.t85_core.specs.Denotes.{DenotesAt}
use Rattle.t85_core.specs.Fixed.{Fixes}
use Rattle.t85_core.specs.Laws.{IsInUse}
use Rattle.t85_core.specs.Pieces.{HasHeight, HandsOut, HoldsImage}
use Rattle.t85_core.specs.Consumed.{ConsumesImage}
use Rattle.t85_core.specs.declared.segments.Place.{Place}
use Rattle.t85_core.specs.Private.Segments.{PieceFault}
use Rattle.t85_core.specs.States.DecodeStripes.{ImageRead}
use Rattle.t85_core.specs.States.Pieces.{CutOff}
use Rattle.t85_core.specs.States.SizedImage.{sized}
use Rattle.t85_core.specs.States.PieceStands.{HeightKnown}
use Rattle.t85_core.specs.States.Passage.{passage}
use Rattle.t85_core.proofs.BytesJoin.SegmentsGiveHeights.{gives_none, more_stripes, valid_over, valid_parts}
use Rattle.t85_core.proofs.BodiesParse.BodyHasOneReading.{one_broken, one_front, parts_or_fault}
use Rattle.t85_core.proofs.BodiesParse.BodyHasOneHeight.{given_breaks, never_suits, one_given, one_height_of, suits_in_use, none_left, none_right}
use Rattle.t85_core.proofs.StreamsAreWalked.SegmentsAreChecked.{length_changed}
use Rattle.t85_core.proofs.BodiesDecode.BodyIsDecoded.{fixes_more}
use Rattle.t85_core.proofs.BytesJoin.CallsJoin.{longer_or_all}

-- ---- the height

-- it came, or none may come
pub height_known : (h : Fields) (height : ℕ) (text more : List ℕ) → IsAccepted h → HeightKnown h height false text → HasHeight h (text ++ more) height
height_known h height text more ok k = went (is_variable h) refl where
  went : (v : Bool) → is_variable h ≡ v → HasHeight h (text ++ more) height
  went true v n is = one_height_of (text ++ more) n height ok is (inl (k.came refl v more))
  went false v n (inl g) = absurd (true≢false (sym g.variable ∙ v))
  went false v n (inr e) = e.0 ∙ sym (k.fixed refl v)

-- no height came before a fault that is no other height
pub height_broken : (h : Fields) (body : List ℕ) (f : Fault) → IsInUse h h.yd → BodyFault h h.yd body f → f ≢ Changed → HasHeight h body h.yd
height_broken h body f use_ b other n (inr e) = e.0
height_broken h body f use_ b other n (inl g) = went (cases_eq n h.yd) where
  none_before : lengths (all_segments g.stripes) ≡ []
  none_before = none_left (all_segments g.stripes) g.segments g.first

  none_here : lengths g.segments ≡ []
  none_here = none_right (all_segments g.stripes) g.segments g.first

  zero : length (lengths (all_segments g.stripes)) ≡ 0
  zero = ap length none_before

  no_heights : length (lengths (all_segments g.stripes)) + length (lengths g.segments) ≡ 0
  no_heights = let a = ap length none_here in omega (arith, zero, a)

  changed : n ≢ h.yd → StripeFault h (spot_after h.yd g.stripes) (flat_map segment_bytes g.segments ++ (segment_bytes (NewLength n) ++ g.rest)) Changed
  changed different = record {
    segments = g.segments;
    code = [];
    rest = segment_bytes (NewLength n) ++ g.rest;
    bytes_are = refl;
    begun = g.begun;
    gives = gives_none h.yd (length (lengths (all_segments g.stripes))) g.segments (omega (arith, zero)) none_here;
    rest_has = subst (λ u. length_fault h (record { height = h.yd; entities = length g.stripes; heights = u }) (big_bytes 4 n ++ g.rest) ≡ Some Changed) (sym no_heights)
        (length_changed h h.yd (length g.stripes) g.variable n g.rest (let w = valid_parts h (length g.stripes) n g.valid in omega (arith, w.1, use_.accepted.height_to)) g.valid different);
  }

  went : (n ≡ h.yd) ⊎ (n ≢ h.yd) → n ≡ h.yd
  went (inl e) = e
  went (inr different) = absurd (other (one_broken use_.accepted h.yd (stripe_count h.yd h.l0) (suits_in_use use_) b.stripes g.stripes
      (record { each = b.each; gives = b.gives }) (record { each = g.each; gives = gives_none h.yd 0 (all_segments g.stripes) (omega arith) none_before })
      (let less = b.fewer in omega (arith, less)) g.within b.tail_has (changed different) (sym b.bytes_are ∙ g.body_is)).broken.fault)

-- what breaks before a code breaks so at each height, so a height is no such fault
module _ (h : Fields) (place : Place) (moved : Bool) (fresh : place.given ≡ false) where
  by_escape : (a b c d e f g : Bool) (x y z : Option Fault) → (x ≡ Some Changed → ⊥) → (y ≡ Some Changed → ⊥) → (z ≡ Some Changed → ⊥) →
      cond a (cond b None (cond c (Some Aborted) (cond ((d || e) || false) (Some BadEscape) (cond f x (cond g y z))))) None ≡ Some Changed → ⊥
  by_escape a b c d e f g x y z p q r k = grind (arith, nat_tests)

  pub piece_other : (rest : List ℕ) (f : Fault) → PieceFault h place moved rest f → f ≢ Changed
  piece_other rest f broken is = went rest (λ height. subst (λ z. rest_fault h (record { height = height; entities = place.entities; heights = cond place.given 1 0 }) (cond moved 1 0) false rest ≡
      Some z) is (broken height)) where
        went : (rest : List ℕ) → ((height : ℕ) → rest_fault h (record { height = height; entities = place.entities; heights = cond place.given 1 0 }) (cond moved 1 0) false rest ≡ Some Changed) → ⊥
        went [] k = let e = k 0 in cc
        went (b ∷ []) k = let e = k 0 in grind (arith, nat_tests)
        went (b ∷ escape ∷ bytes) k =
            let same : nat_eq (big_number 4 bytes) (big_number 4 bytes) ≡ true = grind (arith, nat_tests) in
            by_escape (b == 255) ((escape == 0) || (escape == 2) || (escape == 3)) (escape == 4) (escape == 1) (nat_le 8 escape) (escape == 5) (escape == 6)
            (length_fault h (record { height = big_number 4 bytes; entities = place.entities; heights = cond place.given 1 0 }) bytes) (move_fault h (cond moved 1 0) bytes) (comment_fault bytes)
            (λ e. let bot : ⊥ = grind (arith, nat_tests) in bot) (λ e. let bot : ⊥ = grind (arith, nat_tests) in bot) (λ e. let bot : ⊥ = grind (arith, nat_tests) in bot)
            (k (big_number 4 bytes))

-- ---- the ends

-- what bytes fix that are broken or end too early, whatever follows
pub cut_fixes : (h : Fields) (height : ℕ) (text out rest : List ℕ) (f : Fault) → (c : CutOff (sized h height) text out f) → (f ≡ Truncated → rest ≡ []) → Fixes h height (text ++ rest) f c.cut.rows
cut_fixes h height text out rest f c nothing =
    subst (λ z. Fixes h height z f c.cut.rows) (sym all) (longer_or_all (λ z. Fixes h height z f c.cut.rows) c.cut.ends.given (c.unread ++ rest) has
    (λ ended. ap (λ z. z ++ rest) (c.cut.ends.at_end ended) ∙ nothing ended) (fixes_more h height c.cut.ends.given (c.unread ++ rest) f c.cut.rows has))
  where
    has : Fixes h height c.cut.ends.given f c.cut.rows
    has = subst (λ z. Fixes h height c.cut.ends.given z c.cut.rows) c.counted c.cut.ends.has_fault

    all : text ++ rest ≡ c.cut.ends.given ++ (c.unread ++ rest)
    all = ap (λ z. z ++ rest) c.cut.ends.taken ∙ append_assoc c.cut.ends.given c.unread rest

pub cut_hands : (h : Fields) (height : ℕ) (text out rest : List ℕ) (f : Fault) → HasHeight h (text ++ rest) height → (f ≡ Truncated → rest ≡ []) → CutOff (sized h height) text out f →
    HandsOut h (text ++ rest) height f out
cut_hands h height text out rest f is nothing c = record { height_is = is; rows = c.cut.rows; fixes = cut_fixes h height text out rest f c nothing; out_is = c.cut.appended }

-- where no height came before it
pub cut_hands_first : (h : Fields) (text out rest : List ℕ) (f : Fault) → IsInUse h h.yd → f ≢ Changed → (f ≡ Truncated → rest ≡ []) → CutOff (sized h h.yd) text out f →
    HandsOut h (text ++ rest) h.yd f out
cut_hands_first h text out rest f use_ other nothing c = cut_hands h h.yd text out rest f (height_broken h (text ++ rest) f use_ (cut_fixes h h.yd text out rest f c nothing).broken other) nothing c

-- what a whole body holds
pub read_holds : (h : Fields) (height : ℕ) (text out rest : List ℕ) → HasHeight h (text ++ rest) height → ImageRead h height (passage (Some text) (Some []) (Some []) (Some out)) →
    HoldsImage h (text ++ rest) height out
read_holds h height text out rest is i = record {
  height_is = is;
  rows = i.rows;
  denotes = subst (λ z. DenotesAt h height z (record { width = h.xd; rows = take height i.rows })) (ap (λ z. z ++ rest) (sym (i.taken ∙ append-nil i.given)))
      (subst (λ z. DenotesAt h height (i.given ++ rest) (record { width = h.xd; rows = z })) (sym (ap (λ n. take n i.rows) (sym (i.denotes rest).height) ∙ take-length i.rows)) (i.denotes rest));
  out_is = i.appended;
}

-- the heights that may be among segments, if there is one
one_length : (height : ℕ) (xs : List ℕ) → length xs ≤ 1 → AllByRecursion (λ n. n ≡ height) xs → (xs ≡ [] → ⊥) → xs ≡ height ∷ []
one_length height [] few all some = absurd (some refl)
one_length height (x ∷ []) few all some = ap (λ z. z ∷ []) all.0
one_length height (x ∷ y ∷ xs) few all some = absurd (omega (arith, few))

-- A height came before these stripes were over: it is in one of them.
module _ (h : Fields) (height : ℕ) (text : List ℕ) (ok : IsAccepted h) (parts : Parts h height text) (only : parts.rest ≡ []) where
  is : text ++ [] ≡ flat_map stripe_bytes parts.stripes ++ []
  is = append-nil text ∙ parts.body_is ∙ ap (λ z. flat_map stripe_bytes parts.stripes ++ z) only

  no_fewer : (g : GivesHeight h (text ++ []) height) → length g.stripes ≤ length parts.stripes
  no_fewer g =
      let over = valid_over h (length g.stripes) height g.valid in
      let more = more_stripes height h.l0 (length g.stripes - 1) ok.stripe_from over in
      let all = parts.count in
      omega (arith, more, all)

  never : (g : GivesHeight h (text ++ []) height) → lengths (all_segments parts.stripes) ≡ [] → ⊥
  never g none = by (cases_lt (length g.stripes) (length parts.stripes)) where
    no_bytes : (front rest : List ℕ) → [] ≡ front ++ (segment_bytes (NewLength height) ++ rest) → ⊥
    no_bytes [] rest e = cc
    no_bytes (x ∷ front) rest e = cc

    by : (length g.stripes < length parts.stripes) ⊎ (length parts.stripes ≤ length g.stripes) → ⊥
    by (inl less) =
        parts_or_fault ok 0 (length parts.stripes) (never_suits h (length parts.stripes)) parts.stripes g.stripes [] parts.each g.each (gives_none 0 0 (all_segments parts.stripes) (omega arith) none)
        (omega (arith, less)) less (given_breaks ok (text ++ []) height g) (sym is ∙ g.body_is)
    by (inr more) =
        let low = no_fewer g in
        let same : length parts.stripes ≡ length g.stripes = omega (arith, low, more) in
        let front = one_front ok parts.stripes g.stripes [] (flat_map segment_bytes g.segments ++ (segment_bytes (NewLength height) ++ g.rest)) parts.each g.each same (sym is ∙ g.body_is) in
        no_bytes (flat_map segment_bytes g.segments) g.rest front.1

  given_in : GivesHeight h (text ++ []) height → lengths (all_segments parts.stripes) ≡ height ∷ []
  given_in g = one_length height (lengths (all_segments parts.stripes)) (let one = parts.gives.one in omega (arith, one)) parts.gives.this (never g)

-- the bytes that are consumed, where no height is behind the stripes
pub read_consumes : (h : Fields) (height : ℕ) (text out rest : List ℕ) → IsAccepted h → HeightKnown h height false text → ImageRead h height (passage (Some text) (Some []) (Some []) (Some out)) →
    ConsumesImage h false height text (text ++ rest)
read_consumes h height text out rest ok k i = record {
  stripes = i.parts.stripes;
  bytes = [];
  consumed_is = same ∙ i.parts.body_is ∙ ap (λ z. flat_map stripe_bytes i.parts.stripes ++ z) i.only;
  each = i.parts.each;
  all = i.parts.count;
  behind = record { given = given; exact = λ _. refl; comments = record { comments = []; are = tt; part = []; begun = inl refl; bytes_are = refl } };
} where
  same : text ≡ i.given
  same = i.taken ∙ append-nil i.given

  given : (n : ℕ) → GivesHeight h (text ++ rest) n → lengths (all_segments i.parts.stripes) ≡ n ∷ []
  given n g =
      let here : n ≡ height = one_given ok (text ++ rest) g (k.came refl g.variable rest) in
      subst (λ m. lengths (all_segments i.parts.stripes) ≡ m ∷ []) (sym here)
      (given_in h height i.given ok i.parts i.only (subst (λ z. GivesHeight h (z ++ []) height) same (k.came refl g.variable [])))
