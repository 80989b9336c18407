-- A body of bytes has its parts, or it is broken.
use Rattle.std.proofs.Common.{◌≡◌, ◌≢◌, ◌⊎◌, inl, inr, ◌<◌, ◌≤◌, ◌+◌, ℕ, zero, suc, false, not, List, [], ◌∷◌, ◌++◌, Option, None, Some, count_by, length, refl, sym, ap, ◌∙◌, subst, append_assoc, length-append, arith, true≢false}
use Rattle.std.specs.Prelude.{flat_map}
use Rattle.qm_core.specs.Code.{stuffed}
use Rattle.t85_core.specs.declared.fault.Fault.{Fault}
use Rattle.t85_core.specs.declared.fault.Fault.TheVariants.{Truncated}
use Rattle.t85_core.specs.Header.{Fields}
use Rattle.t85_core.specs.Grammar.{Segment, NewLength, Move, Comment, segment_bytes, lengths, all_segments, GiveOnly, Stripe, stripe_bytes, AreStripes, IsBegun, IsLegal, is_move, is_nil, stripe_count, Parts}
use Rattle.t85_core.specs.Refusal.{spot_after, rest_fault, StripeFault, StripesFault, BodyFault}
use Rattle.t85_core.proofs.BytesJoin.ListsGrow.{All-push, count_push, flat_map_push}
use Rattle.t85_core.proofs.BytesJoin.ListsKeepElements.{all_right}
use Rattle.t85_core.proofs.BytesJoin.CodesAreStuffed.{stuff, stuff_cases, stuffed_cons}
use Rattle.t85_core.proofs.BytesJoin.SegmentsGiveHeights.{many_lengths, gives_none, gives_both}
use Rattle.t85_core.proofs.BodiesParse.BodyHasOneReading.{cut_at_marker, spot_of}
use Rattle.t85_core.proofs.BodiesParse.RestHasPiece.{AreBytes, Front, code_byte, end_marker, segment_at, front_of}

stuffed_push : (code : List ℕ) (b : ℕ) (z : List ℕ) → stuffed (code ++ b ∷ []) ++ z ≡ stuffed code ++ (stuff b ++ z)
stuffed_push [] b z = stuffed_cons b [] z
stuffed_push (x ∷ code) b z = stuffed_cons x (code ++ b ∷ []) z ∙ ap (λ u. stuff x ++ u) (stuffed_push code b z) ∙ sym (stuffed_cons x code (stuff b ++ z))

stuff_long : (b : ℕ) → 1 ≤ length (stuff b)
stuff_long b = went (stuff_cases b) where
  went : ((b ≡ 255) × (stuff b ≡ 255 ∷ 0 ∷ [])) ⊎ ((b ≢ 255) × (stuff b ≡ b ∷ [])) → 1 ≤ length (stuff b)
  went (inl p) = let e : length (stuff b) ≡ 2 = ap length p.1 in omega arith
  went (inr p) = let e : length (stuff b) ≡ 1 = ap length p.1 in omega arith

pub segment_long : (s : Segment) → 1 ≤ length (segment_bytes s)
segment_long (NewLength n) = omega arith
segment_long (Move row offset) = omega arith
segment_long (Comment text) = omega arith

pub shorter : {xs : List ℕ} (piece more : List ℕ) (fuel : ℕ) → length xs ≤ suc fuel → 1 ≤ length piece → xs ≡ piece ++ more → length more ≤ fuel
shorter {xs} piece more fuel le long e =
    let l : length xs ≡ length piece + length more = ap length e ∙ length-append piece more in
    omega arith

nothing : (code : List ℕ) → not (is_nil code) ≡ false → code ≡ []
nothing [] e = refl
nothing (b ∷ code) e = absurd (true≢false e)

module _ (h : Fields) (height : ℕ) where
  -- a whole stripe is at the front, or the rest is broken; k entities and n heights precede it
  data Parsed (k n : ℕ) (tail : List ℕ) : Type 0 where
    whole : (s : Stripe) (more : List ℕ) → IsBegun h s.segments s.code → GiveOnly height n s.segments → tail ≡ stripe_bytes s ++ more → Parsed k n tail
    broken : (f : Fault) → StripeFault h (spot_of height k n) tail f → Parsed k n tail

  module _ (k n : ℕ) (tail : List ℕ) where
    -- the fault of a rest after these segments and this code
    abbrev fault_of : List Segment → List ℕ → List ℕ → Option Fault
    fault_of segments code rest = rest_fault h (spot_of height k (n + length (lengths segments))) (count_by is_move segments) (not (is_nil code)) rest

    parse_stripe : (fuel : ℕ) (segments : List Segment) (code rest : List ℕ) → length rest ≤ fuel → IsBegun h segments code → GiveOnly height n segments → AreBytes rest →
        tail ≡ flat_map segment_bytes segments ++ (stuffed code ++ rest) → Parsed k n tail
    parse_stripe zero segments code [] le begun gives all e = broken Truncated (record { segments = segments; code = code; rest = []; bytes_are = e; begun = begun; gives = gives; rest_has = refl })
    parse_stripe zero segments code (x ∷ rest) le begun gives all e = absurd (omega arith)
    parse_stripe (suc fuel) segments code rest le begun gives all e =
        look (fault_of segments code rest) refl (λ ss c r less b g a is. parse_stripe fuel ss c r less b g a is)
      where
        look : (o : Option Fault) → fault_of segments code rest ≡ o →
            ((ss : List Segment) (c r : List ℕ) → length r ≤ fuel → IsBegun h ss c → GiveOnly height n ss → AreBytes r → tail ≡ flat_map segment_bytes ss ++ (stuffed c ++ r) →
            Parsed k n tail) →
            Parsed k n tail
        look (Some f) q further = broken f (record { segments = segments; code = code; rest = rest; bytes_are = e; begun = begun; gives = gives; rest_has = q })
        look None q further = take_piece (front_of h (spot_of height k (n + length (lengths segments))) (count_by is_move segments) (not (is_nil code)) rest all begun.one_move gives.one q) where
          take_piece : Front h (spot_of height k (n + length (lengths segments))) (count_by is_move segments) (not (is_nil code)) rest → Parsed k n tail
          take_piece (code_byte b more small is) =
              further segments (code ++ b ∷ []) more (shorter (stuff b) more fuel le (stuff_long b) is)
              (record { legal = begun.legal; one_move = begun.one_move; bytes = All-push (λ x. x < 256) code b begun.bytes small }) gives
              (all_right (λ x. x < 256) (stuff b) more (subst AreBytes is all))
              (e ∙ ap (λ u. flat_map segment_bytes segments ++ (stuffed code ++ u)) is ∙ ap (λ u. flat_map segment_bytes segments ++ u) (sym (stuffed_push code b more)))
          take_piece (end_marker reset more is) =
              whole (record { segments = segments; code = code; reset = reset }) more begun gives
              (e ∙ ap (λ u. flat_map segment_bytes segments ++ (stuffed code ++ u)) is ∙ sym (cut_at_marker (record { segments = segments; code = code; reset = reset }) more))
          take_piece (segment_at none at) =
              further (segments ++ at.segment ∷ []) [] at.more (shorter (segment_bytes at.segment) at.more fuel le (segment_long at.segment) at.tail_is)
              (record { legal = All-push (IsLegal h) segments at.segment begun.legal at.legal; one_move = (let c = count_push is_move segments at.segment in omega arith); bytes = tt })
              (gives_both height n (at.segment ∷ []) gives at.gives)
              (all_right (λ x. x < 256) (segment_bytes at.segment) at.more (subst AreBytes at.tail_is all))
              (e ∙ ap (λ u. flat_map segment_bytes segments ++ (stuffed u ++ rest)) (nothing code none) ∙ ap (λ u. flat_map segment_bytes segments ++ u) at.tail_is
              ∙ sym (append_assoc (flat_map segment_bytes segments) (segment_bytes at.segment) at.more)
              ∙ ap (λ u. u ++ at.more) (sym (flat_map_push segment_bytes segments at.segment)))

  -- so many stripes and a rest, or fewer and what is broken
  data Read (k n m : ℕ) (tail : List ℕ) : Type 0 where
    all_there : (ss : List Stripe) (rest : List ℕ) → length ss ≡ m → AreStripes h ss → GiveOnly height n (all_segments ss) → tail ≡ flat_map stripe_bytes ss ++ rest → Read k n m tail
    some_there : (ss : List Stripe) (f : Fault) (t : List ℕ) → length ss < m → AreStripes h ss → GiveOnly height n (all_segments ss) →
        StripeFault h (spot_of height (k + length ss) (n + length (lengths (all_segments ss)))) t f → tail ≡ flat_map stripe_bytes ss ++ t → Read k n m tail

  read_stripes : (m k n : ℕ) (tail : List ℕ) → n ≤ 1 → AreBytes tail → Read k n m tail
  read_stripes zero k n tail once all = all_there [] tail refl tt (gives_none height n [] once refl) refl
  read_stripes (suc m) k n tail once all =
      went (parse_stripe k n tail (length tail) [] [] tail (omega arith) (record { legal = tt; one_move = omega arith; bytes = tt }) (gives_none height n [] once refl) all refl)
      (λ n t once a. read_stripes m (suc k) n t once a)
    where
      went : Parsed k n tail → ((n : ℕ) (t : List ℕ) → n ≤ 1 → AreBytes t → Read (suc k) n m t) → Read k n (suc m) tail
      went (broken f left) further =
          let a : k ≡ k + 0 = omega arith in
          let b : n ≡ n + 0 = omega arith in
          some_there [] f tail (omega arith) tt (gives_none height n [] once refl)
          (subst (λ u. StripeFault h (spot_of height (k + 0) u) tail f) b (subst (λ u. StripeFault h (spot_of height u n) tail f) a left)) refl
      went (whole s more begun gives is) further = next (further (n + length (lengths s.segments)) more gives.one (all_right (λ x. x < 256) (stripe_bytes s) more (subst AreBytes is all))) where
        joined : (ss : List Stripe) (z : List ℕ) → more ≡ flat_map stripe_bytes ss ++ z → tail ≡ flat_map stripe_bytes (s ∷ ss) ++ z
        joined ss z q = is ∙ ap (λ u. stripe_bytes s ++ u) q ∙ sym (append_assoc (stripe_bytes s) (flat_map stripe_bytes ss) z)

        next : Read (suc k) (n + length (lengths s.segments)) m more → Read k n (suc m) tail
        next (all_there ss rest many each gs q) = all_there (s ∷ ss) rest (ap suc many) (begun, each) (gives_both height n (all_segments ss) gives gs) (joined ss rest q)
        next (some_there ss f t less each gs left q) =
            let a : suc k + length ss ≡ k + suc (length ss) = omega arith in
            let c = many_lengths s.segments (all_segments ss) in
            let b : (n + length (lengths s.segments)) + length (lengths (all_segments ss)) ≡ n + length (lengths (all_segments (s ∷ ss))) = omega arith in
            some_there (s ∷ ss) f t (omega arith) (begun, each) (gives_both height n (all_segments ss) gives gs)
            (subst (λ u. StripeFault h (spot_of height (k + suc (length ss)) u) t f) b
            (subst (λ u. StripeFault h (spot_of height u ((n + length (lengths s.segments)) + length (lengths (all_segments ss)))) t f) a left)) (joined ss t q)

  -- so many whole stripes and a rest, or fewer and one that isn't whole
  pub data Cut (m : ℕ) (body : List ℕ) : Type 0 where
    enough : (ss : List Stripe) (rest : List ℕ) → length ss ≡ m → AreStripes h ss → GiveOnly height 0 (all_segments ss) → body ≡ flat_map stripe_bytes ss ++ rest → Cut m body
    too_few : (f : Fault) → StripesFault h height m body f → Cut m body

  pub cut_of : (m : ℕ) (body : List ℕ) → AreBytes body → Cut m body
  cut_of m body all = went (read_stripes m 0 0 body (omega arith) all) where
    went : Read 0 0 m body → Cut m body
    went (all_there ss rest n each gs q) = enough ss rest n each gs q
    went (some_there ss f t less each gs left q) =
        let a : 0 + length ss ≡ length ss = omega arith in
        let b : 0 + length (lengths (all_segments ss)) ≡ length (lengths (all_segments ss)) = omega arith in
        let left' : StripeFault h (spot_after height ss) t f =
        subst (λ u. StripeFault h (spot_of height (length ss) u) t f) b (subst (λ u. StripeFault h (spot_of height u (0 + length (lengths (all_segments ss)))) t f) a left) in
        too_few f (record { stripes = ss; tail = t; bytes_are = q; fewer = less; each = each; gives = gs; tail_has = left' })

  pub parsed : (body : List ℕ) → AreBytes body → (Parts h height body) ⊎ ((f : Fault) × BodyFault h height body f)
  parsed body all = went (cut_of (stripe_count height h.l0) body all) where
    went : Cut (stripe_count height h.l0) body → (Parts h height body) ⊎ ((f : Fault) × BodyFault h height body f)
    went (enough ss rest n each gs q) = inl (record { stripes = ss; rest = rest; body_is = q; count = n; each = each; gives = gs })
    went (too_few f b) = inr (f, b)
