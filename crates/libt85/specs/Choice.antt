-- JBIG-KIT's choice of an offset, which counts the rows of a stripe in a C caller's struct.
use Rattle.std.specs.Prelude.{ℕ, ◌≡◌, ◌≢◌, ◌==◌, ◌||◌, ◌&&◌, not, nat_lt, Bool, true, List, [], ◌∷◌, ◌++◌, length, Option, None, option_map, unwrap_or}
use Rattle.std.specs.Int.{div_ceil}
use Rattle.pbm_core.specs.Image.{pixels_of}
use Rattle.raster_core.specs.Choice.{Counting, counting_with, kit_offset}
use Rattle.raster_core.specs.Counting.{HasCounted, counting_of, is_reset}
use Rattle.raster_core.specs.Lines.{Lines}
use Rattle.t85_core.specs.Coding.{mode_of}
use Rattle.t85_core.specs.Fault.{fault_number}
use Rattle.t85_core.specs.Options.{refusal_of}
use Rattle.t85_core.specs.RowImage.{may_name}
use Rattle.libt85.specs.Encoded.{or_else, status_if}
use Rattle.libt85.specs.declared.choice.T85Choice.{T85Choice}
use Rattle.libt85.specs.declared.options.T85Options.{T85Options}

-- The struct is as calls leave it that started a choice which counts in this way, and received these rows of the current stripe.
pub record HasChoice (c : Counting) (reset : Bool) (d : T85Choice) (stripe : List Lines) : Type 0 where
  pub version_is : d.version ≡ 1
  pub counting_is : counting_of d.choice ≡ c
  pub reset_is : is_reset d.choice ≡ reset
  pub counted : HasCounted d.choice stripe

-- a statement about each choice that the caller may have started, and the rows passed
abbrev pub OfEachChoice : T85Choice → (Counting → Bool → List Lines → Type 0) → Type 0
OfEachChoice d Q = (c : Counting) (reset : Bool) (stripe : List Lines) → HasChoice c reset d stripe → Q c reset stripe

-- ---- the start

-- how pixels are counted with these options, in images of this width
abbrev pub counting_asked : T85Options → ℕ → Counting
counting_asked options width = counting_with (mode_of options.options) options.most_offset width

-- the first error: the size of the struct or the version of the options, the options, the width
abbrev pub choice_refusal : ℕ → ℕ → T85Options → Option ℕ
choice_refusal size width options =
    or_else (status_if (not (size == 528) || not (options.version == 1)) 50)
    (or_else (option_map fault_number (refusal_of options.options options.stripe_rows options.most_offset None))
    (or_else (status_if (width == 0) 33)
    (status_if (nat_lt 1048576 width) 34)))

-- the effect of `t85_choice_start`
pub record StartsChoice (size width : ℕ) (options : T85Options) (old new : T85Choice) (answer : ℕ) : Type 0 where
  pub status_is : answer ≡ unwrap_or (choice_refusal size width options) 0
  pub refused : answer ≢ 0 → new ≡ old
  pub started : answer ≡ 0 → HasChoice (counting_asked options width) options.reset new []

-- ---- a row

-- whether a row of this many bytes is shorter than the width
abbrev pub is_short : T85Choice → ℕ → Bool
is_short d len = nat_lt len (div_ceil (counting_of d.choice).width 8)

-- the first error: the struct was not initialized, or one of the rows is short; the row above may be empty
abbrev pub choice_row_refusal : T85Choice → ℕ → ℕ → Option ℕ
choice_row_refusal d row above =
    or_else (status_if (not (d.version == 1)) 53)
    (status_if (is_short d row || (not (above == 0) && is_short d above)) 55)

-- The pixels of a row and of the row above it, which is white if there are no bytes. The second row above is not looked at.
abbrev pub passed_lines : ℕ → List ℕ → List ℕ → List Bool → Lines
passed_lines width row above second = record { row = pixels_of width row; above = pixels_of width above; second = second }

-- the row is the next of the stripe
abbrev pub CountsPassed : List ℕ → List ℕ → T85Choice → T85Choice → Type 0
CountsPassed row above old new = OfEachChoice old (λ c reset stripe. (second : List Bool) → HasChoice c reset new (stripe ++ passed_lines c.width row above second ∷ []))

-- the effect of `t85_choice_row`
pub record PassesRow (row above : List ℕ) (old new : T85Choice) (answer : ℕ) : Type 0 where
  pub status_is : answer ≡ unwrap_or (choice_row_refusal old (length row) (length above)) 0
  pub refused : answer ≢ 0 → new ≡ old
  pub passed : answer ≡ 0 → CountsPassed row above old new

-- ---- the end of a stripe

-- whether the offset may be that of a stripe
abbrev pub may_be_named : T85Choice → ℕ → Bool
may_be_named d offset = may_name (counting_of d.choice).mode.two_line (counting_of d.choice).most offset

-- the first error: the struct was not initialized, or the stripe cannot have been coded at this offset
abbrev pub choice_offset_refusal : T85Choice → ℕ → Option ℕ
choice_offset_refusal d current =
    or_else (status_if (not (d.version == 1)) 53)
    (status_if (not (may_be_named d current)) 22)

-- The effect of `t85_choice_offset`: the offset is that of the next stripe, of which no row has been received.
pub record ChoosesOffset (current before : ℕ) (old new : T85Choice) (offset answer : ℕ) : Type 0 where
  pub status_is : answer ≡ unwrap_or (choice_offset_refusal old current) 0
  pub refused : answer ≢ 0 → (new ≡ old) × (offset ≡ before)
  pub chosen : answer ≡ 0 → OfEachChoice old (λ c reset stripe. (offset ≡ kit_offset c reset stripe current) × HasChoice c reset new [])
  pub offered : answer ≡ 0 → may_be_named old offset ≡ true
