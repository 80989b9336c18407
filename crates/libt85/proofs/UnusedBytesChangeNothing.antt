-- The three bytes of a header that have no effect on the image.
use Rattle.std.proofs.Common.{◌≡◌, ℕ, zero, suc, ◌+◌, ◌*◌, ◌/◌, ◌%◌, ◌<◌, ◌≤◌, ◌&&◌, Bool, true, eqb, List, ◌∷◌, ◌++◌, length, take, drop, slice_set, slice_index, bit_and, bit_or, refl, sym, ap, subst, ◌∙◌, arith, add-zero, zero-add, Some, None, ◌==◌, ◌↔◌}
use Rattle.std.proofs.lemmas.Bool.{eqb-true, and_parts}
use Rattle.std.proofs.lemmas.Nat.{and_assoc, and_comm, and-not, or_disjoint}
use Rattle.std.proofs.lemmas.List.{length-set, length-take-le}
use Rattle.t85_core.specs.declared.fault.Fault.{Fault}
use Rattle.t85_core.specs.Fault.{fault_number}
use Rattle.t85_core.specs.Header.{Fields, HeaderOf, header_fault}
use Rattle.t85_core.specs.Laws.{HeaderLaws}
use Rattle.t85_core.specs.Denotes.{Denotes}
use Rattle.raster_core.specs.Raster.{Raster}
use Rattle.libt85.proofs.OptionsKeepRaster.{AreAlike, alike_back, options_denote}
use Rattle.libt85.specs.UnusedFields.{RejectsValues, SetsUnused, Unused, fields_with, with_bits_of, with_unused}

-- ---- the bits of the options

all_from : (ℕ → Bool) → ℕ → ℕ → Bool
all_from p k zero = true
all_from p k (suc n) = p k && all_from p (k + 1) n

at_from : (p : ℕ → Bool) (k n : ℕ) → all_from p k n ≡ true → (i : ℕ) → i < n → p (k + i) ≡ true
unfolding all_from
at_from p k zero all i few = absurd (omega arith)
at_from p k (suc n) all zero few = rw add-zero (and_parts _ _ all).0
at_from p k (suc n) all (suc i) few =
    let e : k + suc i ≡ (k + 1) + i = omega arith in
    rw e (at_from p (k + 1) n (and_parts _ _ all).1 i (omega arith))

unused_bits : ℕ → ℕ
unused_bits n = n / 16 % 2 * 16 + n / 4 % 2 * 4

masked : ℕ → Bool
masked n = eqb (bit_and n 20) (unused_bits n)

unused_is : (n : ℕ) → n < 256 → bit_and n 20 ≡ n / 16 % 2 * 16 + n / 4 % 2 * 4
unfolding all_from masked unused_bits
unused_is n few = eqb-true _ _ (rw zero-add at (at_from masked 0 256 refl n few))

apart : (o c : ℕ) → bit_and (bit_and o 235) (bit_and c 20) ≡ 0
apart o c =
    let e : bit_and 235 (bit_and c 20) ≡ 0 = and_comm 235 (bit_and c 20) ∙ (and_assoc 235 c 20 ∙ and_comm c 0) in
    and_assoc (bit_and c 20) o 235 ∙ (ap (λ n. bit_and o n) e ∙ and_comm o 0)

bits_set : (o c : ℕ) → o < 256 → c < 256 → bit_or (bit_and o 235) (bit_and c 20) ≡ with_bits_of o c
bits_set o c small other =
    let sum : bit_or (bit_and o 235) (bit_and c 20) ≡ bit_and o 235 + bit_and c 20 = or_disjoint _ _ (apart o c) in
    let rest : bit_and 235 o + bit_and 20 o ≡ o = and-not 8 20 o (omega arith) small in
    let left : bit_and o 235 ≡ bit_and 235 o = and_comm o 235 in
    let right : bit_and o 20 ≡ bit_and 20 o = and_comm o 20 in
    let of_o = unused_is o small in
    let of_c = unused_is c other in
    omega arith

-- ---- the bytes

pub of_twenty : (P : List ℕ → Type 0) → ((b0 b1 b2 b3 b4 b5 b6 b7 b8 b9 b10 b11 b12 b13 b14 b15 b16 b17 b18 b19 : ℕ) (rest : List ℕ) →
    P (b0 ∷ b1 ∷ b2 ∷ b3 ∷ b4 ∷ b5 ∷ b6 ∷ b7 ∷ b8 ∷ b9 ∷ b10 ∷ b11 ∷ b12 ∷ b13 ∷ b14 ∷ b15 ∷ b16 ∷ b17 ∷ b18 ∷ b19 ∷ rest)) → (bytes : List ℕ) → 20 ≤ length bytes → P bytes
of_twenty P f (b0 ∷ b1 ∷ b2 ∷ b3 ∷ b4 ∷ b5 ∷ b6 ∷ b7 ∷ b8 ∷ b9 ∷ b10 ∷ b11 ∷ b12 ∷ b13 ∷ b14 ∷ b15 ∷ b16 ∷ b17 ∷ b18 ∷ b19 ∷ rest) long =
    f b0 b1 b2 b3 b4 b5 b6 b7 b8 b9 b10 b11 b12 b13 b14 b15 b16 b17 b18 b19 rest
of_twenty P f bytes long = absurd (omega arith)

-- the first twenty bytes with three of them set, as the code sets them
abbrev pub three_set : List ℕ → ℕ → ℕ → ℕ → List ℕ
three_set first my order options = slice_set (slice_set (slice_set first 17 my) 18 order) 19 options

set_is : (bytes : List ℕ) (my order options : ℕ) → 20 ≤ length bytes → three_set (take 20 bytes) my order options ++ drop 20 bytes ≡ take 17 bytes ++ my ∷ order ∷ options ∷ drop 20 bytes
set_is bytes my order options =
    of_twenty (λ s. three_set (take 20 s) my order options ++ drop 20 s ≡ take 17 s ++ my ∷ order ∷ options ∷ drop 20 s)
    (λ b0 b1 b2 b3 b4 b5 b6 b7 b8 b9 b10 b11 b12 b13 b14 b15 b16 b17 b18 b19 rest. refl) bytes

long_three : (first : List ℕ) (my order options : ℕ) → length first ≡ 20 → 20 ≤ length (three_set first my order options)
long_three first my order options long = simp length-set (omega arith)

fields_are : (bytes : List ℕ) (u : Unused) (h f : Fields) → 20 ≤ length bytes → HeaderOf bytes h → HeaderOf (with_unused bytes u) f → HeaderOf (with_unused bytes u) (fields_with h u)
fields_are bytes u h f =
    of_twenty (λ s. HeaderOf s h → HeaderOf (with_unused s u) f → HeaderOf (with_unused s u) (fields_with h u)) (λ b0 b1 b2 b3 b4 b5 b6 b7 b8 b9 b10 b11 b12 b13 b14 b15 b16 b17 b18 b19 rest old new.
    let is : with_bits_of b19 u.options ≡ with_bits_of h.options u.options = ap (λ o. with_bits_of o u.options) old.options in
    let same : with_bits_of h.options u.options ≡ f.options = sym is ∙ new.options in
    record {
      whole = new.whole;
      dl = old.dl;
      d = old.d;
      p = old.p;
      zero = old.zero;
      xd = old.xd;
      yd = old.yd;
      l0 = old.l0;
      mx = old.mx;
      order = new.order;
      options = is;
      accepted = record {
        width_from = old.accepted.width_from;
        width_to = old.accepted.width_to;
        height_from = old.accepted.height_from;
        height_to = old.accepted.height_to;
        stripe_from = old.accepted.stripe_from;
        stripe_to = old.accepted.stripe_to;
        offset_to = old.accepted.offset_to;
        options_to = rw same new.accepted.options_to;
        no_table = rw same new.accepted.no_table;
      };
    }) bytes

behind_same : (bytes : List ℕ) (u : Unused) → 20 ≤ length bytes → drop 20 (with_unused bytes u) ≡ drop 20 bytes
behind_same bytes u = of_twenty (λ s. drop 20 (with_unused s u) ≡ drop 20 s) (λ b0 b1 b2 b3 b4 b5 b6 b7 b8 b9 b10 b11 b12 b13 b14 b15 b16 b17 b18 b19 rest. refl) bytes

alike : (o p : ℕ) → AreAlike o (with_bits_of o p)
alike o p =
    let high : o / 32 ≡ with_bits_of o p / 32 = omega arith in
    let higher : o / 64 ≡ with_bits_of o p / 64 = omega arith in
    let middle : o / 8 % 2 ≡ with_bits_of o p / 8 % 2 = omega arith in
    record {
      variable = ap (λ n. n % 2 == 1) high;
      two_line = ap (λ n. n % 2 == 1) higher;
      typical = ap (λ n. n == 1) middle;
    }

-- ---- the two results

-- what the code does with the first twenty bytes of a header that it accepts
pub record Sets (bytes first : List ℕ) (u : Unused) (options : ℕ) : Type 0 where
  pub h : Fields
  pub header : HeaderOf bytes h
  pub was : header_fault bytes ≡ None
  pub long : 20 ≤ length bytes
  pub first_is : first ≡ take 20 bytes
  pub options_are : options ≡ with_bits_of (slice_index bytes 19) u.options

pub sets_of : HeaderLaws → (bytes first : List ℕ) (u : Unused) (h : Fields) → HeaderOf bytes h → first ≡ take 20 bytes → u.options < 256 →
    Sets bytes first u (bit_or (bit_and h.options 235) (bit_and u.options 20))
sets_of laws bytes first u h header is small =
    let few : h.options < 256 = omega (arith, header.accepted.options_to) in
    record {
      h = h;
      header = header;
      was = laws.not_refused bytes h header;
      long = header.whole;
      first_is = is;
      options_are = bits_set h.options u.options few small ∙ ap (λ o. with_bits_of o u.options) (sym header.options);
    }

joined : (bytes first : List ℕ) (u : Unused) (options : ℕ) → Sets bytes first u options → three_set first u.my u.order options ++ drop 20 bytes ≡ with_unused bytes u
joined bytes first u options sets = rw (sets.first_is, sets.options_are) (set_is bytes u.my u.order _ sets.long)

first_long : (bytes first : List ℕ) (u : Unused) (options : ℕ) → Sets bytes first u options → 20 ≤ length (three_set first u.my u.order options)
first_long bytes first u options sets =
    let l : length (take 20 bytes) ≡ 20 = length-take-le 20 bytes sets.long in
    long_three first u.my u.order options (ap length sets.first_is ∙ l)

denotes_same : HeaderLaws → (bytes new : List ℕ) (u : Unused) (h : Fields) (raster : Raster) → 20 ≤ length bytes → new ≡ with_unused bytes u → HeaderOf bytes h → HeaderOf new (fields_with h u) →
    Denotes bytes raster ↔ Denotes new raster
denotes_same laws bytes new u h raster long is old now =
    let o = with_bits_of h.options u.options in
    let behind : drop 20 new ≡ drop 20 bytes = ap (λ s. drop 20 s) is ∙ behind_same bytes u long in
    let like : AreAlike h.options o = alike h.options u.options in (
      λ d. options_denote bytes new o h raster now like behind d (laws.one bytes d.header h d.header_of old),
      λ d. options_denote new bytes h.options (fields_with h u) raster old (alike_back h.options o like) (sym behind) d (laws.one new d.header (fields_with h u) d.header_of now),
    )

pub accepts : HeaderLaws → (bytes first : List ℕ) (u : Unused) (options : ℕ) (f : Fields) → Sets bytes first u options → HeaderOf (three_set first u.my u.order options) f →
    SetsUnused bytes (three_set first u.my u.order options ++ drop 20 bytes) u 0
accepts laws bytes first u options f sets header =
    let is = joined bytes first u options sets in
    let all = laws.stands _ (drop 20 bytes) f header in
    let of_all : HeaderOf (with_unused bytes u) f = subst (λ s. HeaderOf s f) is all in
    let same : (h : Fields) → HeaderOf bytes h → HeaderOf (three_set first u.my u.order options ++ drop 20 bytes) (fields_with h u) = λ h old. rw is (fields_are bytes u h f sets.long old of_all) in
    record {
      answer_is = refl;
      was_accepted = sets.was;
      is_accepted = laws.not_refused _ f all;
      set = is;
      same = same;
      denotes = λ raster. denotes_same laws bytes _ u sets.h raster sets.long is sets.header (same sets.h sets.header);
    }

pub rejects : HeaderLaws → (bytes first : List ℕ) (u : Unused) (options : ℕ) (fault : Fault) (answer : ℕ) → Sets bytes first u options →
    header_fault (three_set first u.my u.order options) ≡ Some fault → answer ≡ fault_number fault → RejectsValues bytes bytes u answer
rejects laws bytes first u options fault answer sets is number =
    record {
      was_accepted = sets.was;
      fault = fault;
      is = ap header_fault (sym (joined bytes first u options sets)) ∙ (laws.refusal_stands _ (drop 20 bytes) (first_long bytes first u options sets) ∙ is);
      answer_is = number;
      kept = refl;
    }
