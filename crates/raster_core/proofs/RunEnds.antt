-- The end of a run of bytes of one colour.
use Rattle.std.proofs.Common.{◌≡◌, ℕ, ◌+◌, ◌*◌, ◌<◌, ◌≤◌, Bool, true, false, List, length, sym, ◌∙◌, ap, arith, subst, refl}
use Rattle.std.specs.Prelude.{slice_index}
use Rattle.std.specs.Int.{div_ceil}
use Rattle.qm_core.specs.Place.{Place}
use Rattle.qm_core.specs.Encoder.{EncoderIsAt, has_failed}
use Rattle.qm_core.specs.Skipping.{has_room}
use Rattle.qm_core.specs.Puts.{state_at, IsUnchanged}
use Rattle.qm_core.specs.declared.coder.Coder.{Coder}
use Rattle.raster_core.specs.Machine.Registers.{bit, past_bits}
use Rattle.raster_core.specs.Machine.Rows.{AreUniform, RemembersOnly, StopsAt}
use Rattle.raster_core.specs.Machine.Uniform.{colour_of, filled, uniform_event, AreFilled}
use Rattle.raster_core.specs.declared.rows.Rows.{Rows}
use Rattle.raster_core.specs.declared.row_byte.Around.{Around}

-- a row that goes on for more than eight bytes has nine
nine_more : {width long : ℕ} (i : ℕ) → long ≡ div_ceil width 8 → 8 * i + 64 < width → i + 9 ≤ long
nine_more i is more = omega arith

-- the next eight bytes are no such word
no_word : {S : Type 0} {colour : Bool} {rows : Rows} {i : ℕ} {c : Coder S} → (8 * i + 64 < rows.width → AreUniform colour rows i 8 → true ≡ false) → StopsAt colour rows i c
no_word none = record { no_room = λ more uniform. absurd (let e = none more uniform in cc) }

-- the pixels above them are of another colour, or few are left of the row
pub ends_above : {S : Type 0} {colour : Bool} {rows : Rows} {i : ℕ} {c : Coder S} {result : Bool} (left : ℕ) → left + 8 * i ≡ rows.width →
    (64 < left → i + 9 ≤ length rows.above.now → i + 9 ≤ length rows.second.now → AreFilled colour rows.above.now (i + 1) 8 → AreFilled colour rows.second.now (i + 1) 8 → result ≡ true) →
    result ≡ false → StopsAt colour rows i c
ends_above {rows = rows} {i} left size all is = no_word (λ more uniform.
    sym (all (omega arith) (nine_more i rows.above_long more) (nine_more i rows.second_long more) uniform.above_filled uniform.second_filled) ∙ is)

-- they are of another colour themselves
pub ends_below : {S : Type 0} {colour : Bool} {rows : Rows} {i : ℕ} {c : Coder S} {result : Bool} →
    (i + 8 ≤ length rows.current.now → AreFilled colour rows.current.now i 8 → result ≡ true) → result ≡ false → StopsAt colour rows i c
ends_below {rows = rows} {i} all is = no_word (λ more uniform.
    let long = nine_more i rows.long more in
    sym (all (omega arith) uniform.row_filled) ∙ is)

-- the coder did not take them
pub ends_full : {S : Type 0} {colour : Bool} {rows : Rows} {i : ℕ} {c c' : Coder S} {result : Bool} →
    ((p : Place) (pushed : List ℕ) → has_failed c.encoder.now ≡ false → EncoderIsAt c.encoder.now p pushed → result ≡ has_room (state_at c p) (uniform_event colour) 64) →
    result ≡ false → IsUnchanged c c' → StopsAt colour rows i c'
ends_full exact is same = record {
  no_room = λ more uniform p pushed going at.
      let e = exact p pushed (rw (← same.encoder_is) going) (subst (λ e. EncoderIsAt e p pushed) same.encoder_is at) in
      rw (same.learned_is, ← e) is;
}

-- ---- where none begins

-- the colour of what is remembered
colour_is : {colour : Bool} {a : Around} → RemembersOnly colour a → colour_of a.above ≡ colour
colour_is {colour = true} only = ap colour_of only.above_is
colour_is {colour = false} only = ap colour_of only.above_is

pub ends_alike : {S : Type 0} {colour : Bool} {a : Around} {rows : Rows} {i : ℕ} {c : Coder S} → StopsAt (colour_of a.above) rows i c → RemembersOnly colour a → StopsAt colour rows i c
ends_alike h only = rw (← colour_is only) h

-- the two rows above are not alike
pub ends_unlike : {S : Type 0} {colour : Bool} {a : Around} {rows : Rows} {i : ℕ} {c : Coder S} → (a.second ≡ a.above → ⊥) → RemembersOnly colour a → StopsAt colour rows i c
ends_unlike unlike only = absurd (unlike (only.second_is ∙ sym only.above_is))

-- the next byte is of another colour
pub ends_other : {S : Type 0} {colour : Bool} {a : Around} {rows : Rows} {i : ℕ} {c : Coder S} → (slice_index rows.current.now i ≡ bit (colour_of a.above) * 255 → ⊥) → RemembersOnly colour a →
    StopsAt colour rows i c
ends_other {rows = rows} {i} other only =
    let here : i + 0 ≡ i = omega arith in
    no_word (λ more uniform.
    absurd (other (rw (← here, uniform.row_filled 0 (omega arith), ← colour_is only) refl)))

-- what is remembered is not of one colour
pub ends_mixed : {S : Type 0} {colour : Bool} {a : Around} {rows : Rows} {i : ℕ} {c : Coder S} {result : Bool} →
    (a.second ≡ filled (colour_of a.above) 24 → a.above ≡ filled (colour_of a.above) 24 → a.past ≡ filled (colour_of a.above) (past_bits a.template.offset) → result ≡ true) →
    result ≡ false → RemembersOnly colour a → StopsAt colour rows i c
ends_mixed {a = a} all is only =
    let same : RemembersOnly (colour_of a.above) a = rw (colour_is only) only in
    let e = all same.second_is same.above_is same.past_is in
    absurd (cc)
