-- A body has one height, and at a height in use one fault, or none and its parts.
use Rattle.std.proofs.Common.{◌≡◌, ◌≢◌, inl, inr, ◌≤◌, ◌+◌, ℕ, true, List, [], ◌∷◌, ◌++◌, Some, length, drop, refl, sym, ap, ◌∙◌, arith}
use Rattle.std.specs.Prelude.{flat_map}
use Rattle.byteorder.specs.Endian.{big_bytes}
use Rattle.t85_core.specs.declared.fault.Fault.{Fault}
use Rattle.t85_core.specs.declared.fault.Fault.TheVariants.{Changed}
use Rattle.t85_core.specs.Header.{Fields, IsAccepted, is_variable}
use Rattle.t85_core.specs.Grammar.{Segment, NewLength, segment_bytes, lengths, all_segments, stripe_count, is_valid_length, Parts}
use Rattle.t85_core.specs.Refusal.{spot_after, length_fault, StripeFault, StripesFault, BodyFault}
use Rattle.t85_core.specs.Height.{GivesHeight, IsHeight}
use Rattle.t85_core.specs.Laws.{IsInUse}
use Rattle.t85_core.proofs.BytesJoin.SegmentsGiveHeights.{lengths_append, gives_none, valid_parts, valid_in_use}
use Rattle.t85_core.proofs.StreamsAreWalked.SegmentsAreChecked.{length_changed}
use Rattle.t85_core.proofs.BodiesParse.BodyHasOneReading.{one_number, Suits, spot_of, Wholes, SameCut, one_broken, parts_or_fault}

-- a height in use is valid up to its last data entity
pub suits_in_use : {h : Fields} {height : ℕ} → IsInUse h height → (k : ℕ) → k ≤ stripe_count height h.l0 → Suits h height k
suits_in_use {h} {height} u k few _ = valid_in_use h height k u.accepted.stripe_from u.from u.to few

module _ (h : Fields) (height : ℕ) (body : List ℕ) where
  pub whole_or_broken_at : (f : Fault) → IsInUse h height → Parts h height body → BodyFault h height body f → ⊥
  whole_or_broken_at f u p b =
      parts_or_fault u.accepted height (stripe_count height h.l0) (suits_in_use u) p.stripes b.stripes p.rest p.each b.each p.gives
      (omega arith) (omega arith) b.tail_has (sym p.body_is ∙ b.bytes_are)

  pub one_fault_of : (f g : Fault) (u : IsInUse h height) (p : BodyFault h height body f) (q : BodyFault h height body g) →
      SameCut u.accepted height (stripe_count height h.l0) (suits_in_use u) p.stripes q.stripes p.tail_has q.tail_has
  one_fault_of f g u p q =
      one_broken u.accepted height (stripe_count height h.l0) (suits_in_use u) p.stripes q.stripes (record { each = p.each; gives = p.gives }) (record { each = q.each; gives = q.gives })
      (omega arith) (omega arith) p.tail_has q.tail_has (sym p.bytes_are ∙ q.bytes_are)

-- ---- heights that are given

nil_left : (xs ys : List ℕ) → xs ++ ys ≡ [] → xs ≡ []
nil_left [] ys e = refl
nil_left (x ∷ xs) ys e = absurd (let bot : ⊥ = cc in bot)

nil_right : (xs ys : List ℕ) → xs ++ ys ≡ [] → ys ≡ []
nil_right [] ys e = e
nil_right (x ∷ xs) ys e = absurd (let bot : ⊥ = cc in bot)

pub none_left : (ss ts : List Segment) → lengths (ss ++ ts) ≡ [] → lengths ss ≡ []
none_left ss ts e = nil_left (lengths ss) (lengths ts) (sym (lengths_append ss ts) ∙ e)

pub none_right : (ss ts : List Segment) → lengths (ss ++ ts) ≡ [] → lengths ts ≡ []
none_right ss ts e = nil_right (lengths ss) (lengths ts) (sym (lengths_append ss ts) ∙ e)

-- where 0 is in use, each valid height is another
pub never_suits : (h : Fields) (most k : ℕ) → k ≤ most → Suits h 0 k
never_suits h most k le one = absurd (omega arith)

module _ {h : Fields} (ok : IsAccepted h) (body : List ℕ) where
  pub changed : {m : ℕ} (n k : ℕ) (rest : List ℕ) → is_variable h ≡ true → is_valid_length h k n ≡ true → m ≡ 0 →
      length_fault h (spot_of 0 k m) (big_bytes 4 n ++ rest) ≡ Some Changed
  changed n k rest variable valid none =
      let w = valid_parts h k n valid in
      rw none (length_changed h 0 k variable n rest (omega arith) valid (let other : n ≢ 0 = omega arith in other))

  -- after what comes before it, a valid height is a fault where 0 is in use
  abbrev pub given_breaks : (n : ℕ) (g : GivesHeight h body n) → StripeFault h (spot_after 0 g.stripes) (flat_map segment_bytes g.segments ++ (segment_bytes (NewLength n) ++ g.rest)) Changed
  given_breaks n g = record {
    segments = g.segments;
    code = [];
    rest = segment_bytes (NewLength n) ++ g.rest;
    bytes_are = refl;
    begun = g.begun;
    gives = gives_none 0 (length (lengths (all_segments g.stripes))) g.segments (let a = ap length (none_left (all_segments g.stripes) g.segments g.first) in omega arith)
        (none_right (all_segments g.stripes) g.segments g.first);
    rest_has = changed n (length g.stripes) g.rest g.variable g.valid (
        let a = ap length (none_left (all_segments g.stripes) g.segments g.first) in
        let b : length (lengths g.segments) ≡ 0 = rw (none_right (all_segments g.stripes) g.segments g.first) in
        omega arith);
  }

  pub given_whole : {n : ℕ} (g : GivesHeight h body n) → Wholes h 0 0 g.stripes
  given_whole g = record { each = g.each; gives = gives_none 0 0 (all_segments g.stripes) (omega arith) (none_left (all_segments g.stripes) g.segments g.first) }

  -- at height 0, a body that breaks contains a height at its break or none
  pub given_where_broken : {n count : ℕ} {f : Fault} (b : StripesFault h 0 count body f) (g : GivesHeight h body n) →
      SameCut ok 0 (length b.stripes + length g.stripes) (never_suits h (length b.stripes + length g.stripes)) b.stripes g.stripes b.tail_has (given_breaks n g)
  given_where_broken {n} b g =
      one_broken ok 0 (length b.stripes + length g.stripes) (never_suits h (length b.stripes + length g.stripes)) b.stripes g.stripes
      (record { each = b.each; gives = b.gives }) (given_whole g) (omega arith) (omega arith) b.tail_has (given_breaks n g) (sym b.bytes_are ∙ g.body_is)

  pub one_given : {a b : ℕ} → GivesHeight h body a → GivesHeight h body b → a ≡ b
  one_given {a} {b} p q =
      let most : ℕ = length p.stripes + length q.stripes in
      let cut = one_broken ok 0 (length p.stripes + length q.stripes) (never_suits h (length p.stripes + length q.stripes)) p.stripes q.stripes
      (given_whole p) (given_whole q) (omega arith) (omega arith) (given_breaks a p) (given_breaks b q) (sym p.body_is ∙ q.body_is) in
      let w = valid_parts h (length p.stripes) a p.valid in
      let v = valid_parts h (length q.stripes) b q.valid in
      (one_number a b p.rest q.rest (omega arith) (omega arith) (ap (drop 2) cut.broken.rest)).0

-- the height is one
pub one_height_of : {h : Fields} (body : List ℕ) (a b : ℕ) → IsAccepted h → IsHeight h body a → IsHeight h body b → a ≡ b
one_height_of body a b ok (inl p) (inl q) = one_given ok body p q
one_height_of body a b ok (inl p) (inr q) = absurd (q.1 a p)
one_height_of body a b ok (inr p) (inl q) = absurd (p.1 b q)
one_height_of body a b ok (inr p) (inr q) = p.0 ∙ sym q.0

-- and in use
pub height_within : {h : Fields} (body : List ℕ) (n : ℕ) → IsAccepted h → IsHeight h body n → IsInUse h n
height_within {h} body n ok (inl g) = let w = valid_parts h (length g.stripes) n g.valid in record { accepted = ok; from = w.0; to = w.1 }
height_within body n ok (inr q) = let e = q.0 in record { accepted = ok; from = omega arith; to = omega arith }
