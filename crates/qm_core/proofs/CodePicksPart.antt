-- The part that a code lies in, where its size is small.
use Rattle.std.proofs.Common.{◌≡◌, ℕ, ◌+◌, ◌-◌, ◌*◌, ◌%◌, ◌^◌, ◌<◌, ◌≤◌, max, Bool, not, cond, nat_lt, inl, inr, List, arith, ap, ◌∙◌}
use Rattle.std.proofs.lemmas.Bool.{lt-ltb, le-ltb, cases_lt}
use Rattle.std.proofs.lemmas.Nat.{pow_pos}
use Rattle.qm_core.specs.Place.{Place, State, Estimate, estimate_of, same, lower_part, upper_part}
use Rattle.qm_core.specs.Machine.{Registers}
use Rattle.qm_core.specs.declared.decoder.Decoder.{Decoder}
use Rattle.qm_core.proofs.MultiplesShift.{room_between, mod_128, sub-mod}
use Rattle.qm_core.proofs.RegistersSplit.{registers_lower, registers_upper}
use Rattle.qm_core.proofs.StepTakesPart.{Takes, upper, favoured_next, other_next, favoured_lower, favoured_upper, other_lower, other_upper}

-- which part it is, and whose
pub record IsPart (code lower upper code' span' : ℕ) (is_other : Bool) : Type 0 where
  pub lower_is : code < lower → (code' ≡ code) × (span' ≡ lower) × (is_other ≡ nat_lt lower upper)
  pub upper_is : lower ≤ code → (code' ≡ code - lower) × (span' ≡ upper) × (is_other ≡ not (nat_lt lower upper))

-- a pixel that is not quiet: the size is divided into the parts, and only the smaller one may be large enough
pub record IsCut (s : State) (e : Estimate) (code span entry : ℕ) : Type 0 where
  pub span_is : span ≡ 128 * s.place.size
  pub entry_is : entry ≡ 128 * upper e
  pub few : entry ≤ 128 * 0x5B12
  pub less : entry ≤ span
  pub short : span - entry ≤ max code 0x3F_FFFF

-- what going to it leaves
pub record Taken (s : State) (cx : ℕ) (e : Estimate) (is_other : Bool) (code span bits code' span' : ℕ) : Type 0 where
  pub part : Place
  pub takes : Takes s cx (same (not is_other) e.pixel) part (cond (not is_other) (favoured_next e) (other_next e))
  pub registers : (b : List ℕ) → Registers code span bits s.place b → Registers code' span' bits part b

pub taken : {s : State} {cx : ℕ} {e : Estimate} {code span entry bits code' span' : ℕ} {o : Bool} →
    e ≡ estimate_of s.learned cx → IsCut s e code span entry → IsPart code (span - entry) entry code' span' o → Taken s cx e o code span bits code' span'
taken {s} {cx} {e} {code} {span} {entry} {o = o} is cut part =
    let small = cut.few in
    let size = cut.entry_is in
    let whole = cut.span_is in
    let short = cut.short in
    elim (cases_lt code (span - entry)) [
      | inl below ↦
          let l = part.lower_is below in
          elim (cases_lt (span - entry) entry) [
            | inl exchanged ↦
                let g = l.2 ∙ lt-ltb (span - entry) entry exchanged in
                rw (l.0, l.1, g) (record { part = lower_part s.place (upper e); takes = other_lower is (omega arith); registers = λ b r. registers_lower (upper e) size r })
            | inr straight ↦
                let g = l.2 ∙ le-ltb (span - entry) entry straight in
                rw (l.0, l.1, g) (record { part = lower_part s.place (upper e); takes = favoured_lower is (omega arith) (omega arith); registers = λ b r. registers_lower (upper e) size r })
          ]
      | inr above ↦
          let u = part.upper_is above in
          elim (cases_lt (span - entry) entry) [
            | inl exchanged ↦
                let g = u.2 ∙ ap not (lt-ltb (span - entry) entry exchanged) in
                rw (u.0, u.1, g) (record {
                  part = upper_part s.place (upper e);
                  takes = favoured_upper is (omega arith) (omega arith);
                  registers = λ b r. registers_upper
                      (upper e) size above cut.less r;
                })
            | inr straight ↦
                let g = u.2 ∙ ap not (le-ltb (span - entry) entry straight) in
                rw (u.0, u.1, g) (record { part = upper_part s.place (upper e); takes = other_upper is (omega arith); registers = λ b r. registers_upper (upper e) size above cut.less r })
          ]
    ]

-- the code stays a multiple of its unit, and inside
pub record Fits (code span bits : ℕ) : Type 0 where
  pub enough : 16 ≤ bits
  pub few : bits ≤ 23
  pub whole : span % 128 ≡ 0
  pub aligned : code % 2 ^ (23 - bits) ≡ 0
  pub room : code + 2 ^ (23 - bits) ≤ span

-- as the fields of a decoder say
pub fits_in : (d : Decoder) → 16 ≤ d.bits → Fits d.code d.span d.bits
fits_in d enough = record { enough = enough; few = d.few; whole = d.whole; aligned = d.aligned; room = d.room }

lower_whole : {code span bits : ℕ} (entry : ℕ) → Fits code span bits → entry % 128 ≡ 0 → (span - entry) % 2 ^ (23 - bits) ≡ 0
lower_whole {span = span} {bits} entry f w = mod_128 bits (span - entry) f.enough f.few (sub-mod 128 span entry (omega arith) f.whole w)

pub lower_room : {code span bits : ℕ} (entry : ℕ) → Fits code span bits → entry % 128 ≡ 0 → code < span - entry → code + 2 ^ (23 - bits) ≤ span - entry
lower_room {code} {span} {bits} entry f w below = room_between (2 ^ (23 - bits)) code (span - entry) (pow_pos (23 - bits)) f.aligned (lower_whole entry f w) below

pub part_fits : {code span bits entry code' span' : ℕ} {o : Bool} → Fits code span bits → entry % 128 ≡ 0 → IsPart code (span - entry) entry code' span' o →
    (code' % 2 ^ (23 - bits) ≡ 0) × (code' + 2 ^ (23 - bits) ≤ span')
part_fits {code} {span} {bits} {entry} f w part =
    elim (cases_lt code (span - entry)) [
      | inl below ↦ let l = part.lower_is below in rw (l.0, l.1) (f.aligned, lower_room entry f w below)
      | inr above ↦
          let u = part.upper_is above in
          rw (u.0, u.1) (sub-mod (2 ^ (23 - bits)) code (span - entry) (pow_pos (23 - bits)) f.aligned (lower_whole entry f w), omega (arith, f.room))
    ]
