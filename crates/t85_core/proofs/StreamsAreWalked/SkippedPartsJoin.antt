-- Whole stripes and segments that were skipped, joined to what a walk passed after them.
use Rattle.std.proofs.Common.{cond, ◌≡◌, ◌≢◌, ◌⊎◌, inl, inr, ◌<◌, ◌≤◌, ◌+◌, ◌-◌, ℕ, Bool, true, not, List, [], ◌∷◌, ◌++◌, Option, None, Some, count_by, length, sum_by, refl, sym, ap, ◌∙◌, subst, append_assoc, length-append, zero-add, arith, true≢false}
use Rattle.std.specs.Prelude.{flat_map}
use Rattle.std.proofs.lemmas.Grind.{flat_map-append}
use Rattle.std.proofs.lemmas.List.Sums.{sum_by-append}
use Rattle.t85_core.specs.declared.fault.Fault.{Fault}
use Rattle.t85_core.specs.declared.fault.Fault.TheVariants.{Truncated}
use Rattle.t85_core.specs.Header.{Fields}
use Rattle.t85_core.specs.Grammar.{Segment, segment_bytes, is_move, is_nil, lengths, all_segments, Stripe, stripe_bytes, stripe_count, IsLegal, IsBegun, AreStripes, GiveOnly, Parts}
use Rattle.t85_core.specs.Refusal.{Spot, spot_behind, spot_after, rest_fault, StripesFault}
use Rattle.t85_core.specs.Private.HeightWalk.{moved_behind, IsAlone, SearchPlace, SearchEnd, SkipFault, SkipsStripes, SkipsFault, Sought, search_place}
use Rattle.t85_core.specs.Failures.{Ends}
use Rattle.t85_core.specs.Info.{IsWalkFault}
use Rattle.t85_core.specs.Private.Buffers.{Reading}
use Rattle.t85_core.proofs.BodiesParse.FaultsAreLimited.{rest_faults, uncounted}
use Rattle.t85_core.proofs.BytesJoin.ListsGrow.{All-append}
use Rattle.t85_core.proofs.BytesJoin.SegmentsGiveHeights.{many_lengths, gives_none, gives_both, gives_left, gives_right}
use Rattle.t85_core.proofs.BytesJoin.BytesAreKnown.{stable_rest}

-- the rest of a broken stripe has the same error, with the counts in another form
pub same_rest : {h : Fields} {at : SearchPlace} {bytes : List ℕ} {f : Fault} (q : SkipFault h at bytes f) (t : Spot) (n : ℕ) → at.entities ≡ t.entities → cond at.given 1 0 ≡ t.heights →
    cond at.moved 1 0 + count_by is_move q.segments ≡ n → rest_fault h t n (not (is_nil q.code)) q.rest ≡ Some f
same_rest {h} {f = f} q t n entities heights moves =
    subst (λ (z : ℕ × ℕ × ℕ). rest_fault h (record { height = t.height; entities = z.0; heights = z.1 }) z.2 (not (is_nil q.code)) q.rest ≡ Some f) (λ i. (entities i, heights i, moves i))
    (q.rest_has t.height)

abbrev pub joined_to : List Segment → Stripe → Stripe
joined_to front s = record { segments = front ++ s.segments; code = s.code; reset = s.reset }

-- Whole stripes, and segments of the next one, were skipped.
pub record Skipped (h : Fields) (height : ℕ) (ss : List Stripe) (front : List Segment) (given moved : Bool) : Type 0 where
  pub each : AreStripes h ss
  pub begun : IsBegun h front []
  pub gives : GiveOnly height 0 (all_segments ss ++ front)
  pub given_is : cond given 1 0 ≡ length (lengths (all_segments ss ++ front))
  pub moved_is : cond moved 1 0 ≡ count_by is_move front

module _ {h : Fields} {height : ℕ} {ss : List Stripe} {front : List Segment} {given moved : Bool} (p : Skipped h height ss front given moved) where
  -- the first stripe with what was skipped of it before
  begun_joined : (segments : List Segment) (code : List ℕ) → IsBegun h segments code → cond moved 1 0 + count_by is_move segments ≤ 1 → IsBegun h (front ++ segments) code
  begun_joined segments code q few = record {
    legal = All-append (IsLegal h) front segments p.begun.legal q.legal;
    one_move = (let all = sum_by-append (λ y. cond (is_move y) 1 0) front segments in omega (arith, all, p.moved_is));
    bytes = q.bytes;
  }

  segments_are : (t : Stripe) (ts : List Stripe) → all_segments (ss ++ joined_to front t ∷ ts) ≡ (all_segments ss ++ front) ++ all_segments (t ∷ ts)
  segments_are t ts = simp (flat_map-append, append_assoc)

  pub gives_joined : (t : Stripe) (ts : List Stripe) → lengths (all_segments (t ∷ ts)) ≡ [] → GiveOnly height 0 (all_segments (ss ++ joined_to front t ∷ ts))
  gives_joined t ts none =
      rw segments_are (gives_both height 0 (all_segments (t ∷ ts)) p.gives (gives_none height (0 + length (lengths (all_segments ss ++ front))) (all_segments (t ∷ ts)) p.gives.one none))

  heights_joined : (t : Stripe) (ts : List Stripe) → lengths (all_segments (t ∷ ts)) ≡ [] → length (lengths (all_segments (ss ++ joined_to front t ∷ ts))) ≡ cond given 1 0
  heights_joined t ts none =
      let a = ap (λ z. length (lengths z)) (segments_are t ts) in
      let b = many_lengths (all_segments ss ++ front) (all_segments (t ∷ ts)) in
      let z = ap length none in
      omega (arith, p.given_is)

  pub each_joined : (t : Stripe) (ts : List Stripe) → AreStripes h (t ∷ ts) → IsAlone moved (t ∷ ts) → AreStripes h (ss ++ joined_to front t ∷ ts)
  each_joined t ts all alone = All-append (λ (s : Stripe). IsBegun h s.segments s.code) ss (joined_to front t ∷ ts) p.each (begun_joined t.segments t.code all.0 alone, all.1)

  pub bytes_joined : (t : Stripe) (ts : List Stripe) (x : List ℕ) →
      flat_map stripe_bytes ss ++ (flat_map segment_bytes front ++ (flat_map stripe_bytes (t ∷ ts) ++ x)) ≡ flat_map stripe_bytes (ss ++ joined_to front t ∷ ts) ++ x
  bytes_joined t ts x = simp (flat_map-append, append_assoc)

  -- a stripe that breaks after them
  broken_in : {count : ℕ} {tail : List ℕ} {f : Fault} (ts : List Stripe) → length ss + length ts < count → AreStripes h ts → IsAlone moved ts → lengths (all_segments ts) ≡ [] →
      SkipFault h (search_place (length ss + length ts) given (moved_behind moved ts)) tail f →
      StripesFault h height count (flat_map stripe_bytes ss ++ (flat_map segment_bytes front ++ (flat_map stripe_bytes ts ++ tail))) f
  broken_in {count} {tail} {f} [] fewer all alone none q =
      let g = rw zero-add at (gives_right height 0 (all_segments ss) front p.gives) in
      let behind : List Segment = front ++ q.segments in
      let heights = many_lengths (all_segments ss) front in
      let more = many_lengths front q.segments in
      let zero = ap length q.none in
      let moves = sum_by-append (λ y. cond (is_move y) 1 0) front q.segments in
      record {
        stripes = ss;
        tail = flat_map segment_bytes front ++ tail;
        bytes_are = refl;
        fewer = omega arith;
        each = p.each;
        gives = gives_left height 0 (all_segments ss) front p.gives;
        tail_has = record {
          segments = behind;
          code = q.code;
          rest = q.rest;
          bytes_are = rw (q.bytes_are, flat_map-append, append_assoc);
          begun = begun_joined q.segments q.code q.begun q.alone;
          gives = gives_both height (length (lengths (all_segments ss))) q.segments g (gives_none height (length (lengths (all_segments ss)) + length (lengths front)) q.segments g.one q.none);
          rest_has = same_rest q (spot_behind (spot_after height ss) behind) (count_by is_move behind) (omega arith) (omega (arith, p.given_is)) (omega (arith, p.moved_is));
        };
      }
  broken_in {count} {tail} {f} (t ∷ ts) fewer all alone none q =
      let many = length-append ss (joined_to front t ∷ ts) in
      let g = gives_joined t ts none in
      let heights = heights_joined t ts none in
      let zero = ap length q.none in
      record {
        stripes = ss ++ joined_to front t ∷ ts;
        tail = tail;
        bytes_are = bytes_joined t ts tail;
        fewer = omega arith;
        each = each_joined t ts all alone;
        gives = g;
        tail_has = record {
          segments = q.segments;
          code = q.code;
          rest = q.rest;
          bytes_are = q.bytes_are;
          begun = q.begun;
          gives = gives_none height (length (lengths (all_segments (ss ++ joined_to front t ∷ ts)))) q.segments (omega arith) q.none;
          rest_has = same_rest q (spot_behind (spot_after height (ss ++ joined_to front t ∷ ts)) q.segments) (count_by is_move q.segments) (omega arith) (omega arith) (omega arith);
        };
      }

  pub broken_behind : {from count : ℕ} {bytes : List ℕ} {f : Fault} → from ≡ length ss → SkipsFault h (search_place from given moved) count bytes f →
      StripesFault h height count (flat_map stripe_bytes ss ++ (flat_map segment_bytes front ++ bytes)) f
  broken_behind {count = count} {bytes} {f} at q =
      let r : SkipsFault h (search_place (length ss) given moved) count bytes f = rw at at q in
      rw r.bytes_are (broken_in r.stripes r.fewer r.each r.alone r.none r.tail_has)

  -- whole stripes after them
  abbrev pub parts_behind : (t : Stripe) (ts : List Stripe) (rest : List ℕ) → AreStripes h (t ∷ ts) → IsAlone moved (t ∷ ts) → lengths (all_segments (t ∷ ts)) ≡ [] →
      length ss + length (t ∷ ts) ≡ stripe_count height h.l0 →
      Parts h height (flat_map stripe_bytes ss ++ (flat_map segment_bytes front ++ (flat_map stripe_bytes (t ∷ ts) ++ rest)))
  parts_behind t ts rest all alone none many = record {
    stripes = ss ++ joined_to front t ∷ ts;
    rest = rest;
    body_is = bytes_joined t ts rest;
    count = length-append ss (joined_to front t ∷ ts) ∙ many;
    each = each_joined t ts all alone;
    gives = gives_joined t ts none;
  }

-- of all of them together
pub joined_sum : (p : Segment → Bool) (ss : List Stripe) (front : List Segment) (t : Stripe) (ts : List Stripe) →
    sum_by (λ (s : Stripe). count_by p s.segments) (ss ++ joined_to front t ∷ ts) ≡
    sum_by (λ (s : Stripe). count_by p s.segments) ss + (count_by p front + sum_by (λ (s : Stripe). count_by p s.segments) (t ∷ ts))
joined_sum p ss front t ts =
    let f = λ (s : Stripe). count_by p s.segments in
    let a = sum_by-append f ss (joined_to front t ∷ ts) in
    let b : count_by p (front ++ t.segments) ≡ count_by p front + count_by p t.segments = sum_by-append (λ y. cond (p y) 1 0) front t.segments in
    let c = sum_by-append f (joined_to front t ∷ []) ts in
    let d = sum_by-append f (t ∷ []) ts in
    omega arith

-- ---- a fault stays, whatever bytes follow, but for the end

which_end : (f : Fault) → (f ≡ Truncated) ⊎ (f ≢ Truncated)
which_end Truncated = inl refl
which_end f = inr (λ e. cc)

skip_longer : {h : Fields} {at : SearchPlace} {bytes : List ℕ} {f : Fault} (more : List ℕ) → f ≢ Truncated → SkipFault h at bytes f → SkipFault h at (bytes ++ more) f
skip_longer {h} {at} {bytes} {f} more other q = record {
  segments = q.segments;
  code = q.code;
  rest = q.rest ++ more;
  bytes_are = rw (q.bytes_are, append_assoc, append_assoc);
  begun = q.begun;
  alone = q.alone;
  none = q.none;
  rest_has = λ n. stays _
      (stable_rest h (record { height = n; entities = at.entities; heights = cond at.given 1 0 }) (cond at.moved 1 0 + count_by is_move q.segments) (not (is_nil q.code)) q.rest more f (q.rest_has n));
} where
  stays : (P : Type 0) → (f ≡ Truncated) ⊎ P → P
  stays P (inl e) = absurd (other e)
  stays P (inr e) = e

pub skips_longer : {h : Fields} {at : SearchPlace} {count : ℕ} {bytes : List ℕ} {f : Fault} (more : List ℕ) → SkipsFault h at count bytes f → (f ≡ Truncated) ⊎ SkipsFault h at count (bytes ++ more) f
skips_longer {h} {at} {count} {bytes} {f} more p = went (which_end f) where
  went : (f ≡ Truncated) ⊎ (f ≢ Truncated) → (f ≡ Truncated) ⊎ SkipsFault h at count (bytes ++ more) f
  went (inl e) = inl e
  went (inr other) = inr (record {
    stripes = p.stripes;
    tail = p.tail ++ more;
    bytes_are = rw (p.bytes_are, append_assoc);
    fewer = p.fewer;
    each = p.each;
    alone = p.alone;
    none = p.none;
    tail_has = skip_longer more other p.tail_has;
  })

-- it is one of a walk
pub skips_faults : {h : Fields} {from : SearchPlace} {count : ℕ} {old new : Option (List ℕ)} {f : Fault} → Ends Truncated old new (SkipsFault h from count) f → IsWalkFault f
skips_faults {h} {f = f} e = let q = e.has_fault.tail_has in uncounted Truncated f (rest_faults h _ _ _ q.rest (q.rest_has 0))

-- no height comes after one
pub sought_whole : (h : Fields) (from : SearchPlace) (count : ℕ) (known : Reading) (to : SearchEnd) (o : Option ℕ) → from.given ≡ true → Sought h from count known to o →
    SkipsStripes h from.moved (count - from.entities) known to.passed
sought_whole h from count known to None given s = s.2
sought_whole h from count known to (Some n) given s = absurd (true≢false (sym given ∙ s.1.part.ungiven))
