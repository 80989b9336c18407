-- The stripes that are written for a raster, as parts of a body: the comment is a segment of the first.
use Rattle.std.proofs.Common.{◌≡◌, ℕ, zero, suc, ◌+◌, ◌-◌, ◌*◌, ◌/◌, ◌<◌, ◌≤◌, ◌^◌, Bool, true, false, List, [], ◌∷◌, ◌++◌, length, map, refl, sym, ◌∙◌, ap, subst, arith, Option, None, Some, append_assoc}
use Rattle.std.specs.Prelude.{slice_index_or, if◌then◌else◌, flat_map, unwrap_or, option_map, option_and_then, option_to_list, nat_lt, nat_le, find, count_by, IfSome, ◌==◌}
use Rattle.std.specs.List.{AllByRecursion, list_all}
use Rattle.std.proofs.lemmas.Grind.{flat_map-append}
use Rattle.qm_core.specs.Code.{stuffed}
use Rattle.raster_core.specs.Lines.{Lines, numbers_from}
use Rattle.raster_core.specs.Offset.{chosen_offset, best_offset, candidates, agreement}
use Rattle.t85_core.specs.Header.{Fields}
use Rattle.t85_core.specs.Grammar.{Segment, Comment, Stripe, IsBegun, is_move, segment_bytes, stripe_bytes, marker_bytes}
use Rattle.t85_core.specs.Coding.{move_of}
use Rattle.t85_core.specs.Jbg.{Settings, named_for, moved_to, move_segments}
use Rattle.t85_core.proofs.BytesJoin.ListsKeepElements.{same_list}
use Rattle.t85_core.proofs.ImagesEncode.EncoderCarriesRows.{get_mapped}

-- ---- lists over numbers

pub length_mapped : {X : Type 0} (f : ℕ → X) (k n : ℕ) → length (map f (numbers_from k n)) ≡ n
length_mapped f k zero = refl
length_mapped f k (suc n) = ap suc (length_mapped f (k + 1) n)

pub mapped_is : {X : Type 0} (f : ℕ → X) (d : X) (xs : List X) → ((i : ℕ) → i < length xs → f i ≡ slice_index_or xs i d) → map f (numbers_from 0 (length xs)) ≡ xs
mapped_is f d xs h =
    let many : length (map f (numbers_from 0 (length xs))) ≡ length xs = length_mapped f 0 (length xs) in
    same_list d (map f (numbers_from 0 (length xs))) xs many (λ i lt.
    let at : 0 + i ≡ i = omega arith in
    let lt' : i < length xs = omega (arith, lt) in
    get_mapped f 0 (length xs) i d lt' ∙ ap f at ∙ h i lt')

pub all_mapped : {X : Type 0} (P : X → Type 0) (f : ℕ → X) (k n : ℕ) → ((i : ℕ) → i < n → P (f (k + i))) → AllByRecursion P (map f (numbers_from k n))
all_mapped P f k zero h = tt
all_mapped P f k (suc n) h =
    let at : k + 0 ≡ k = omega arith in (
      subst (λ z. P (f z)) at (h 0 (omega arith)),
      all_mapped P f (k + 1) n (λ i lt.
          let on : k + suc i ≡ (k + 1) + i = omega arith in
          subst (λ z. P (f z)) on (h (suc i) (omega (arith, lt)))),
    )

-- ---- moves

found_within : (p : ℕ → Bool) (most k n : ℕ) → ((i : ℕ) → i < n → k + i ≤ most) → IfSome (find p (numbers_from k n)) (λ t. t ≤ most)
found_within p most k zero h = tt
found_within p most k (suc n) h =
    let first : k ≤ most = (let e : k + 0 ≤ most = h 0 (omega arith) in omega arith) in
    let rest = found_within p most (k + 1) n (λ i lt. let e : k + suc i ≤ most = h (suc i) (omega arith) in omega arith) in
    elim (p k) as (λ b. IfSome (if b then Some k else find p (numbers_from (k + 1) n)) (λ t. t ≤ most)) [ true ↦ first | false ↦ rest ]

-- a chosen offset is a candidate
pub chosen_within : (two_line : Bool) (most width : ℕ) (stripe : List Lines) (current : ℕ) → IfSome (chosen_offset two_line most width stripe current) (λ t. t ≤ most)
chosen_within two_line most width stripe current =
    gains (best_offset stripe (candidates two_line most))
    (found_within (λ t. list_all (λ u. nat_le (agreement stripe u) (agreement stripe t)) (candidates two_line most)) most (if two_line then 5 else 3) (most + 1 - (if two_line then 5 else 3))
    (λ i lt. omega arith))
  where
    gains : (best : Option ℕ) → IfSome best (λ t. t ≤ most) →
        IfSome (option_and_then (λ t. if nat_lt (width * length stripe / 8) (agreement stripe t - agreement stripe current) then Some t else None) best) (λ t. t ≤ most)
    gains None h = tt
    gains (Some t) h =
        elim (nat_lt (width * length stripe / 8) (agreement stripe t - agreement stripe current)) as (λ b. IfSome (if b then Some t else None) (λ t. t ≤ most)) [ true ↦ h | false ↦ tt ]

-- and so is one that is named or chosen
pub moved_within : (named : Option ℕ) (most current : ℕ) (chosen : Option ℕ) → IfSome named (λ t. t ≤ most) → IfSome chosen (λ t. t ≤ most) → IfSome (moved_to named current chosen) (λ t. t ≤ most)
moved_within None most current chosen is within = within
moved_within (Some t) most current chosen is within =
    elim (t == current) as (λ b. IfSome (if b then None else Some t) (λ t. t ≤ most)) [ true ↦ tt | false ↦ is ]

-- no name is out of its range
pub none_named : (s : Settings) (most : ℕ) → s.named ≡ [] → (i : ℕ) → IfSome (named_for s i) (λ t. t ≤ most)
none_named s most none i = subst (λ names. IfSome (slice_index_or names i None) (λ t. t ≤ most)) (sym none) (nothing i) where
  nothing : (i : ℕ) → IfSome (named_for (record s { named = [] }) i) (λ t. t ≤ most)
  nothing zero = tt
  nothing (suc i) = tt

-- ---- a comment before the first stripe

abbrev pub with_segments : List Segment → Stripe → Stripe
with_segments more x = record { segments = more ++ x.segments; code = x.code; reset = x.reset }

abbrev pub with_first : List Segment → List Stripe → List Stripe
with_first more [] = []
with_first more (x ∷ xs) = with_segments more x ∷ xs

pub with_first_bytes : (more : List Segment) (xs : List Stripe) → 0 < length xs → flat_map stripe_bytes (with_first more xs) ≡ flat_map segment_bytes more ++ flat_map stripe_bytes xs
with_first_bytes more [] some = absurd (omega arith)
with_first_bytes more (x ∷ xs) some =
    let front : List ℕ = flat_map segment_bytes more in
    let own : List ℕ = flat_map segment_bytes x.segments in
    let behind : List ℕ = stuffed x.code ++ marker_bytes x.reset in
    ap (λ z. (z ++ behind) ++ flat_map stripe_bytes xs) (flat_map-append segment_bytes more x.segments)
    ∙ ap (λ z. z ++ flat_map stripe_bytes xs) (append_assoc front own behind)
    ∙ append_assoc front (own ++ behind) (flat_map stripe_bytes xs)

pub with_first_map : {X : Type 0} (g : Stripe → X) (more : List Segment) → ((x : Stripe) → g (with_segments more x) ≡ g x) → (xs : List Stripe) → map g (with_first more xs) ≡ map g xs
with_first_map g more same [] = refl
with_first_map g more same (x ∷ xs) = ap (λ z. z ∷ map g xs) (same x)

pub with_first_all : (P : Stripe → Type 0) (more : List Segment) → ((x : Stripe) → P x → P (with_segments more x)) → (xs : List Stripe) → AllByRecursion P xs → AllByRecursion P (with_first more xs)
with_first_all P more keeps [] h = tt
with_first_all P more keeps (x ∷ xs) h = (keeps x h.0, h.1)

abbrev pub comments : Option (List ℕ) → List Segment
comments comment = map Comment (option_to_list comment)

-- a comment is no move
pub move_behind : (comment : Option (List ℕ)) (segments : List Segment) → move_of (comments comment ++ segments) ≡ move_of segments
move_behind None segments = refl
move_behind (Some text) segments = refl

pub move_alone : (move : Option (ℕ × ℕ)) → move_of (move_segments move) ≡ move
move_alone None = refl
move_alone (Some to) = refl

pub begun_with_comment : (h : Fields) (comment : Option (List ℕ)) → length (unwrap_or comment []) < 2 ^ 32 → (segments : List Segment) (code : List ℕ) →
    IsBegun h segments code → IsBegun h (comments comment ++ segments) code
begun_with_comment h None small segments code b = b
begun_with_comment h (Some text) small segments code b = record {
  legal = (small, b.legal);
  one_move = (let e : count_by is_move segments ≤ 1 = b.one_move in omega arith);
  bytes = b.bytes;
}

-- what a stripe with a move begins with
pub begun_with_move : (h : Fields) (choice : Option ℕ) (code : List ℕ) → 1 ≤ h.l0 → IfSome choice (λ t. t ≤ h.mx) → AllByRecursion (λ b. b < 256) code →
    IsBegun h (move_segments (option_map (λ t. (0, t)) choice)) code
begun_with_move h None code some within bytes = record { legal = tt; one_move = omega arith; bytes = bytes }
begun_with_move h (Some t) code some within bytes = record { legal = ((some, within), tt); one_move = omega arith; bytes = bytes }
