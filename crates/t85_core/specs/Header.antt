-- The header: the twenty bytes before the first marker segment (T.82, 6.2).
use Rattle.std.specs.Prelude.{◌≡◌, ◌≢◌, ◌≤◌, ◌<◌, ◌^◌, ◌/◌, ◌%◌, ℕ, Bool, ◌||◌, not, ◌==◌, nat_lt, nat_le, List, [], ◌∷◌, ◌++◌, length, drop, slice_index, Option, Some, None, if◌then◌else◌}
use Rattle.byteorder.specs.Endian.{big_number, big_bytes}
use Rattle.t85_core.specs.declared.fault.Fault.{Fault}
use Rattle.t85_core.specs.declared.fault.Fault.TheVariants.{ShortHeader, ReservedBits, Layers, Planes, ZeroSize, TooWide, MoveRange, PrivateTable}

-- the fields of a header: width, height, rows per stripe, greatest offset of the adaptive pixel, options
pub record Fields : Type 0 where
  pub xd : ℕ
  pub yd : ℕ
  pub l0 : ℕ
  pub mx : ℕ
  pub options : ℕ

-- in their ranges
pub record IsAccepted (h : Fields) : Type 0 where
  pub width_from : 1 ≤ h.xd
  pub width_to : h.xd ≤ 2 ^ 20
  pub height_from : 1 ≤ h.yd
  pub height_to : h.yd < 2 ^ 32
  pub stripe_from : 1 ≤ h.l0
  pub stripe_to : h.l0 < 2 ^ 32
  pub offset_to : h.mx ≤ 127
  pub options_to : h.options < 128
  -- no private table follows: not DPON and DPPRIV without DPLAST
  pub no_table : h.options % 8 ≢ 6

-- the bit VLENGTH of the options byte, with which the height may change in the stream
abbrev pub VLENGTH : ℕ
VLENGTH = 5

-- whether VLENGTH is set
abbrev pub is_variable : Fields → Bool
is_variable h = h.options / 2 ^ VLENGTH % 2 == 1

-- the number in the four bytes from index i, the highest first
abbrev pub long_at : ℕ → List ℕ → ℕ
long_at i bytes = big_number 4 (drop i bytes)

-- The first twenty bytes are a header with these fields. Byte 17 and the low four bits of byte 18 may have any value.
pub record HeaderOf (bytes : List ℕ) (h : Fields) : Type 0 where
  pub whole : 20 ≤ length bytes
  pub dl : slice_index bytes 0 ≡ 0
  pub d : slice_index bytes 1 ≡ 0
  pub p : slice_index bytes 2 ≡ 1
  pub zero : slice_index bytes 3 ≡ 0
  pub xd : long_at 4 bytes ≡ h.xd
  pub yd : long_at 8 bytes ≡ h.yd
  pub l0 : long_at 12 bytes ≡ h.l0
  pub mx : slice_index bytes 16 ≡ h.mx
  pub order : slice_index bytes 18 < 16
  pub options : slice_index bytes 19 ≡ h.options
  pub accepted : IsAccepted h

-- a test of the bytes, and the error if it holds
abbrev pub Refusal : Type 0
Refusal = (List ℕ → Bool) × Fault

-- The tests that reject twenty bytes, in their order. The last one is that the options DPON and DPPRIV are set and DPLAST is
-- clear.
abbrev pub refusals : List Refusal
refusals =
    (λ bytes. not (slice_index bytes 3 == 0) || nat_le 16 (slice_index bytes 18) || nat_le 128 (slice_index bytes 19), ReservedBits)
    ∷ (λ bytes. not (slice_index bytes 0 == 0) || not (slice_index bytes 1 == 0), Layers)
    ∷ (λ bytes. not (slice_index bytes 2 == 1), Planes)
    ∷ (λ bytes. (long_at 4 bytes == 0) || (long_at 8 bytes == 0) || (long_at 12 bytes == 0), ZeroSize)
    ∷ (λ bytes. nat_lt 1048576 (long_at 4 bytes), TooWide)
    ∷ (λ bytes. nat_lt 127 (slice_index bytes 16), MoveRange)
    ∷ (λ bytes. slice_index bytes 19 % 8 == 6, PrivateTable)
    ∷ []

-- the error of the first test that holds
abbrev pub first_refusal : List Refusal → List ℕ → Option Fault
first_refusal [] bytes = None
first_refusal (refusal ∷ more) bytes = if refusal.0 bytes then Some refusal.1 else first_refusal more bytes

-- the error of a header, if it is rejected
abbrev pub header_fault : List ℕ → Option Fault
header_fault bytes = if nat_lt (length bytes) 20 then Some ShortHeader else first_refusal refusals bytes

-- the fields at their offsets, with MY and order 0
abbrev pub header_bytes : Fields → List ℕ
header_bytes h = 0 ∷ 0 ∷ 1 ∷ 0 ∷ big_bytes 4 h.xd ++ big_bytes 4 h.yd ++ big_bytes 4 h.l0 ++ h.mx ∷ 0 ∷ 0 ∷ h.options ∷ []
