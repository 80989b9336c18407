-- Which options are rejected, and with which error; and the header and the settings for options.
use Rattle.std.specs.Prelude.{ℕ, ◌≡◌, ◌%◌, ◌==◌, ◌||◌, not, nat_lt, nat_le, Bool, false, List, [], Option, Some, None, length, option_map, if◌then◌else◌}
use Rattle.std.specs.Option.{option_map_or}
use Rattle.t85_core.specs.declared.fault.Fault.{Fault}
use Rattle.t85_core.specs.declared.fault.Fault.TheVariants.{OptionBits, StripeZero, MoveLarge, CommentLong}
use Rattle.t85_core.specs.declared.options.Options.{Options}
use Rattle.t85_core.specs.Coding.{has_bit}
use Rattle.t85_core.specs.Jbg.{Settings}
use Rattle.t85_core.specs.declared.header.Header.{Header}
use Rattle.t85_core.specs.Header.{Fields}

-- a bit other than LRLTWO, VLENGTH and TPBON: one of the three lowest, bit 4, or bit 7 and above
abbrev pub has_other_bit : ℕ → Bool
has_other_bit p = not (p % 8 == 0) || has_bit p 4 || nat_le 128 p

-- the first error, in this order
abbrev pub refusal_of : ℕ → ℕ → ℕ → Option (List ℕ) → Option Fault
refusal_of p s m comment =
    if has_other_bit p then Some OptionBits
    else if s == 0 then Some StripeZero
    else if nat_lt 127 m then Some MoveLarge
    else if option_map_or (λ c. nat_lt 4294967295 (length c)) comment false then Some CommentLong
    else None

-- the settings of options
abbrev pub settings_of : Options → Settings
settings_of o = record {
  options = o.options;
  stripe_rows = o.stripe_rows;
  most_offset = o.most_offset;
  announced = o.announced;
  reset = o.reset;
  comment = option_map (λ c. c.now) o.comment;
  named = [];
}

-- options have the given values
abbrev pub Holds : Settings → Options → Type 0
Holds s o = settings_of o ≡ s

abbrev pub fields_of : Header → Fields
fields_of h = record { xd = h.xd; yd = h.yd; l0 = h.l0; mx = h.mx; options = h.options }
