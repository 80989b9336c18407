-- A header with the actual height, with which the same bytes denote the same raster.
use Rattle.std.proofs.Common.{◌≡◌, ◌≤◌, ◌<◌, ◌⊎◌, ℕ, ◌+◌, ◌*◌, suc, List, [], ◌∷◌, ◌++◌, length, take, drop, get_or, refl, ap, subst, inl, inr, arith, ◌∙◌}
use Rattle.std.specs.Int.{div_ceil}
use Rattle.std.specs.List.{AllByRecursion}
use Rattle.std.proofs.lemmas.Bool.{cases_lt}
use Rattle.std.proofs.lemmas.Bool.Decides.{nat_tests}
use Rattle.std.proofs.lemmas.List.{get_or-drop}
use Rattle.std.proofs.lemmas.Grind.{div_ceil_times}
use Rattle.std.proofs.Math.Nat.{mul-le-mul_right}
use Rattle.byteorder.specs.Endian.{big_bytes}
use borrow.Rule.Slice.PartMut.{put_mid}
use Rattle.qm_core.specs.Code.{IsBytes}
use Rattle.raster_core.specs.Raster.{Raster}
use Rattle.t85_core.specs.Denotes.{Denotes, DenotesAt}
use Rattle.t85_core.specs.Grammar.{Segment, NewLength, Move, Comment, AreStripes, IsBegun, IsLegal, Parts, Stripe, all_segments, lengths}
use Rattle.t85_core.specs.Header.{Fields, HeaderOf, IsAccepted}
use Rattle.t85_core.specs.Height.{GivesHeight, IsHeight}
use Rattle.t85_core.specs.Laws.{HeaderLaws, IsInUse, OneHeight, SomeHeight}
use Rattle.libt85.specs.SetHeight.{SetsHeight, with_yd}
use Rattle.libt85.proofs.PremisesHold.{bytes_each}
use Rattle.libt85.proofs.UnusedBytesChangeNothing.{of_twenty}

-- this height instead
abbrev pub with_height : Fields → ℕ → Fields
with_height h n = record h { yd = n }

-- ---- from a lower height to that of the header

count_up : (n m l : ℕ) → 1 ≤ l → n ≤ m → div_ceil n l ≤ div_ceil m l
count_up n m l some few = went (cases_lt (div_ceil m l) (div_ceil n l)) where
  went : (div_ceil m l < div_ceil n l) ⊎ (div_ceil n l ≤ div_ceil m l) → div_ceil n l ≤ div_ceil m l
  went (inr le) = le
  went (inl lt) =
      let k : suc (div_ceil m l) * l ≤ div_ceil n l * l = mul-le-mul_right l lt in
      let s : suc (div_ceil m l) * l ≡ div_ceil m l * l + l = omega arith in
      absurd (omega (arith, k, s, (div_ceil_times n l some).1, (div_ceil_times m l some).0))

legal_up : (h : Fields) (n : ℕ) → n ≤ h.yd → (s : Segment) → IsLegal (with_height h n) s → IsLegal h s
legal_up h n few (NewLength m) l = (l.0, l.1, omega (arith, l.2, few))
legal_up h n few (Move row offset) l = l
legal_up h n few (Comment text) l = l

all_up : (h : Fields) (n : ℕ) → n ≤ h.yd → (segments : List Segment) → AllByRecursion (IsLegal (with_height h n)) segments → AllByRecursion (IsLegal h) segments
all_up h n few [] l = l
all_up h n few (s ∷ segments) l = (legal_up h n few s l.0, all_up h n few segments l.1)

begun_up : (h : Fields) (n : ℕ) → n ≤ h.yd → (segments : List Segment) (code : List ℕ) → IsBegun (with_height h n) segments code → IsBegun h segments code
begun_up h n few segments code b = record { legal = all_up h n few segments b.legal; one_move = b.one_move; bytes = b.bytes }

each_up : (h : Fields) (n : ℕ) → n ≤ h.yd → (stripes : List Stripe) → AreStripes (with_height h n) stripes → AreStripes h stripes
each_up h n few [] e = e
each_up h n few (s ∷ stripes) e = (begun_up h n few s.segments s.code e.0, each_up h n few stripes e.1)

gives_up : (h : Fields) (n : ℕ) → 1 ≤ h.l0 → n ≤ h.yd → (body : List ℕ) (height : ℕ) → GivesHeight (with_height h n) body height → GivesHeight h body height
gives_up h n some few body height g =
    let count = count_up n h.yd h.l0 some few in
    record {
      variable = g.variable;
      stripes = g.stripes;
      segments = g.segments;
      rest = g.rest;
      body_is = g.body_is;
      each = each_up h n few g.stripes g.each;
      begun = begun_up h n few g.segments [] g.begun;
      first = g.first;
      within = omega (arith, g.within, count);
      behind = λ all. g.behind (omega (arith, g.within, count, all));
      valid = grind (arith, nat_tests, g.valid, few);
    }

parts_up : (h : Fields) (n : ℕ) → n ≤ h.yd → (body : List ℕ) → Parts (with_height h n) n body → Parts h n body
parts_up h n few body p = record {
  stripes = p.stripes;
  rest = p.rest;
  body_is = p.body_is;
  count = p.count;
  each = each_up h n few p.stripes p.each;
  gives = p.gives;
}

denotes_up : (h : Fields) (n : ℕ) → n ≤ h.yd → (body : List ℕ) (raster : Raster) → DenotesAt (with_height h n) n body raster → DenotesAt h n body raster
unfolding parts_up
denotes_up h n few body raster d = record {
  parts = parts_up h n few body d.parts;
  proper = d.proper;
  width = d.width;
  height = d.height;
  flags = d.flags;
  legal = d.legal;
  lies = d.lies;
}

-- ---- and back, for the actual height

all_down : (h : Fields) (n : ℕ) (segments : List Segment) → AllByRecursion (λ m. m ≡ n) (lengths segments) → AllByRecursion (IsLegal h) segments → AllByRecursion (IsLegal (with_height h n)) segments
all_down h n [] these l = l
all_down h n (NewLength m ∷ segments) these l = ((l.0.0, l.0.1, omega (arith, these.0)), all_down h n segments these.1 l.1)
all_down h n (Move row offset ∷ segments) these l = (l.0, all_down h n segments these l.1)
all_down h n (Comment text ∷ segments) these l = (l.0, all_down h n segments these l.1)

these_left : (n : ℕ) (a b : List Segment) → AllByRecursion (λ m. m ≡ n) (lengths (a ++ b)) → AllByRecursion (λ m. m ≡ n) (lengths a)
these_left n [] b t = tt
these_left n (NewLength m ∷ a) b t = (t.0, these_left n a b t.1)
these_left n (Move row offset ∷ a) b t = these_left n a b t
these_left n (Comment text ∷ a) b t = these_left n a b t

these_right : (n : ℕ) (a b : List Segment) → AllByRecursion (λ m. m ≡ n) (lengths (a ++ b)) → AllByRecursion (λ m. m ≡ n) (lengths b)
these_right n [] b t = t
these_right n (NewLength m ∷ a) b t = these_right n a b t.1
these_right n (Move row offset ∷ a) b t = these_right n a b t
these_right n (Comment text ∷ a) b t = these_right n a b t

each_down : (h : Fields) (n : ℕ) (stripes : List Stripe) → AllByRecursion (λ m. m ≡ n) (lengths (all_segments stripes)) → AreStripes h stripes → AreStripes (with_height h n) stripes
each_down h n [] these e = e
each_down h n (s ∷ stripes) these e = (
  record { legal = all_down h n s.segments (these_left n s.segments (all_segments stripes) these) e.0.legal; one_move = e.0.one_move; bytes = e.0.bytes },
  each_down h n stripes (these_right n s.segments (all_segments stripes) these) e.1,
)

parts_down : (h : Fields) (n : ℕ) (body : List ℕ) → Parts h n body → Parts (with_height h n) n body
parts_down h n body p = record {
  stripes = p.stripes;
  rest = p.rest;
  body_is = p.body_is;
  count = p.count;
  each = each_down h n p.stripes p.gives.this p.each;
  gives = p.gives;
}

denotes_down : (h : Fields) (n : ℕ) (body : List ℕ) (raster : Raster) → DenotesAt h n body raster → DenotesAt (with_height h n) n body raster
unfolding parts_down
denotes_down h n body raster d = record {
  parts = parts_down h n body d.parts;
  proper = d.proper;
  width = d.width;
  height = d.height;
  flags = d.flags;
  legal = d.legal;
  lies = d.lies;
}

-- ---- the actual height is the same

accepted_with : (h : Fields) (n : ℕ) → IsInUse h n → IsAccepted (with_height h n)
accepted_with h n used = record {
  width_from = used.accepted.width_from;
  width_to = used.accepted.width_to;
  height_from = used.from;
  height_to = omega (arith, used.to, used.accepted.height_to);
  stripe_from = used.accepted.stripe_from;
  stripe_to = used.accepted.stripe_to;
  offset_to = used.accepted.offset_to;
  options_to = used.accepted.options_to;
  no_table = used.accepted.no_table;
}

settled : SomeHeight → OneHeight → (h : Fields) (n : ℕ) (body : List ℕ) → IsInUse h n → IsBytes body → IsHeight h body n → IsHeight (with_height h n) body n
settled some one h n body used bytes is =
    let found = some (with_height h n) body (accepted_with h n used) bytes in
    went found.0 found.1 where
      went : (m : ℕ) → IsHeight (with_height h n) body m → IsHeight (with_height h n) body n
      went m (inl g) =
          let there : IsHeight (with_height h n) body m = inl g in
          subst (IsHeight (with_height h n) body) (one h body n m used.accepted is (inl (gives_up h n used.accepted.stripe_from used.to body m g))) there
      went m (inr none) =
          let there : IsHeight (with_height h n) body m = inr none in
          subst (IsHeight (with_height h n) body) none.0 there

-- ---- the bytes

header_with : HeaderLaws → (bytes : List ℕ) (h : Fields) (n : ℕ) → IsAccepted (with_height h n) → 20 ≤ length bytes → HeaderOf bytes h → HeaderOf (with_yd bytes n) (with_height h n)
header_with laws bytes h n accepted long = of_twenty (λ s. HeaderOf s h → HeaderOf (with_yd s n) (with_height h n))
    (λ b0 b1 b2 b3 b4 b5 b6 b7 b8 b9 b10 b11 b12 b13 b14 b15 b16 b17 b18 b19 rest old. record {
      whole = old.whole;
      dl = old.dl;
      d = old.d;
      p = old.p;
      zero = old.zero;
      xd = old.xd;
      yd = (laws.written (with_height h n) accepted).yd;
      l0 = old.l0;
      mx = old.mx;
      order = old.order;
      options = old.options;
      accepted = accepted;
    }) bytes long

behind_yd : (bytes : List ℕ) (n : ℕ) → 20 ≤ length bytes → drop 20 (with_yd bytes n) ≡ drop 20 bytes
behind_yd bytes n = of_twenty (λ s. drop 20 (with_yd s n) ≡ drop 20 s) (λ b0 b1 b2 b3 b4 b5 b6 b7 b8 b9 b10 b11 b12 b13 b14 b15 b16 b17 b18 b19 rest. refl) bytes

written_yd : (bytes buffer : List ℕ) (n : ℕ) → 20 ≤ length bytes → buffer ≡ big_bytes 4 n ++ drop 4 (take 4 (drop 8 bytes)) → put_mid 8 4 bytes buffer ≡ with_yd bytes n
written_yd bytes buffer n long is =
    of_twenty (λ s. buffer ≡ big_bytes 4 n ++ drop 4 (take 4 (drop 8 s)) → put_mid 8 4 s buffer ≡ with_yd s n)
    (λ b0 b1 b2 b3 b4 b5 b6 b7 b8 b9 b10 b11 b12 b13 b14 b15 b16 b17 b18 b19 rest e. ap (λ b. put_mid 8 4
    (b0 ∷ b1 ∷ b2 ∷ b3 ∷ b4 ∷ b5 ∷ b6 ∷ b7 ∷ b8 ∷ b9 ∷ b10 ∷ b11 ∷ b12 ∷ b13 ∷ b14 ∷ b15 ∷ b16 ∷ b17 ∷ b18 ∷ b19 ∷ rest) b) e) bytes long is

-- ---- the result

at_one : OneHeight → (stream : List ℕ) (h : Fields) (n : ℕ) (raster : Raster) → IsAccepted h → IsHeight h (drop 20 stream) n → (d : Denotes stream raster) → d.header ≡ h →
    DenotesAt h n (drop 20 stream) raster
at_one one stream h n raster accepted height d is =
    let same : d.height ≡ n = one h (drop 20 stream) n d.height accepted height (subst (λ f. IsHeight f (drop 20 stream) d.height) is d.height_is) in
    subst (λ m. DenotesAt h m (drop 20 stream) raster) same (subst (λ f. DenotesAt f d.height (drop 20 stream) raster) is d.denotes)

-- what the laws say, and what is known of the stream
pub record IsOpened (bytes : List ℕ) (h : Fields) (n : ℕ) : Type 0 where
  pub headers : HeaderLaws
  pub one : OneHeight
  pub some : SomeHeight
  pub header : HeaderOf bytes h
  pub height : IsHeight h (drop 20 bytes) n
  pub from : 1 ≤ n
  pub to : n ≤ h.yd

pub set_done : (bytes buffer : List ℕ) (h : Fields) (n : ℕ) → IsOpened bytes h n → buffer ≡ big_bytes 4 n ++ drop 4 (take 4 (drop 8 bytes)) → ((i : ℕ) → get_or (put_mid 8 4 bytes buffer) i 0 < 256) →
    SetsHeight bytes (put_mid 8 4 bytes buffer) 0
set_done bytes buffer h n o is fit =
    let new : List ℕ = put_mid 8 4 bytes buffer in
    let set : new ≡ with_yd bytes n = written_yd bytes buffer n o.header.whole is in
    let used : IsInUse h n = record { accepted = o.header.accepted; from = o.from; to = o.to } in
    let accepted : IsAccepted (with_height h n) = accepted_with h n used in
    let header : HeaderOf new (with_height h n) = rw set (header_with o.headers bytes h n accepted o.header.whole o.header) in
    let behind : drop 20 new ≡ drop 20 bytes = ap (λ s. drop 20 s) set ∙ behind_yd bytes n o.header.whole in
    let bytes_are : IsBytes (drop 20 bytes) = subst IsBytes behind (bytes_each (drop 20 new) (λ i. rw (get_or-drop 20 new i 0) (fit (20 + i)))) in
    let height : IsHeight (with_height h n) (drop 20 new) n = rw behind (settled o.some o.one h n (drop 20 bytes) used bytes_are o.height) in
    record {
      answer_is = refl;
      header = h;
      header_of = o.header;
      height = n;
      height_is = o.height;
      set = set;
      same = header;
      denotes = λ raster. (
        λ d. record {
          header = with_height h n;
          header_of = header;
          height = n;
          height_is = height;
          denotes = rw behind (denotes_down h n (drop 20 bytes) raster (at_one o.one bytes h n raster o.header.accepted o.height d (o.headers.one bytes d.header h d.header_of o.header)));
        },
        λ d. record {
          header = h;
          header_of = o.header;
          height = n;
          height_is = o.height;
          denotes = denotes_up h n o.to (drop 20 bytes) raster
              (rw behind at (at_one o.one new (with_height h n) n raster accepted height d (o.headers.one new d.header (with_height h n) d.header_of header)));
        },
      );
    }
