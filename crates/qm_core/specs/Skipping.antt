-- Several equal events in one step, or as many as the bits already read determine.
use Rattle.std.specs.Prelude.{ℕ, ◌≡◌, ◌≤◌, ◌<◌, ◌+◌, ◌-◌, ◌*◌, Bool, not, nat_lt, ◌&&◌, IsTrue, List, length, replicate}
use Rattle.qm_core.specs.Table.{row_at}
use Rattle.qm_core.specs.Place.{State, Event, Estimate, estimate_of, same, step, after}
use Rattle.qm_core.specs.Code.{Lies, wanted_bytes}
use Rattle.qm_core.specs.Source.{bytes_of, heard_of}
use Rattle.qm_core.specs.Machine.{Registers}
use Rattle.qm_core.specs.Decoder.{DecoderIsAt}
use Rattle.qm_core.specs.declared.source.Pulled.{Pulled}
use Rattle.qm_core.specs.declared.source.Heard.{Heard}
use Rattle.qm_core.specs.declared.source.Heard.TheVariants.{More, Ended, Stopped}
use Rattle.qm_core.specs.declared.decoder.Decoder.{Decoder}

-- this event `count` times: none of them involves a doubling, and the context states after them are those
-- before them
pub record IsRun (s : State) (event : Event) (count : ℕ) : Type 0 where
  pub quiet : (k : ℕ) → k ≤ count → (after s (replicate k event)).place.doublings ≡ s.place.doublings
  pub taught : (after s (replicate count event)).learned ≡ s.learned

-- the size of the subinterval of the less probable symbol in a context
abbrev pub upper_size : List Estimate → ℕ → ℕ
upper_size learned cx = (row_at (estimate_of learned cx).row).size

-- whether the event is its context's more probable symbol, and the interval has room for it `count` times with no doubling
abbrev pub has_room : State → Event → ℕ → Bool
has_room s event count =
    same event.pixel (estimate_of s.learned event.context).pixel
    && not (nat_lt s.place.size (0x8000 + count * upper_size s.learned event.context))

-- An event after n doublings needs no pull: before the end of the source, the bytes read are enough; after it, 16 bits
-- are available, including substituted zeros.
abbrev pub WantsNone : Heard → ℕ → ℕ → ℕ → Type 0
WantsNone More bits n held = wanted_bytes n ≤ held
WantsNone Ended bits n held = 16 ≤ bits
WantsNone Stopped bits n held = ⊥

-- the event can be decoded `count` times in one step: there is room, no pull is needed, and the bytes are in the interval then
pub record CanSkip (d : Decoder) (s : State) (answers : List Pulled) (event : Event) (count : ℕ) : Type 0 where
  pub room : IsTrue (has_room s event count)
  pub ready : WantsNone (heard_of answers) d.bits s.place.doublings (length (bytes_of answers))
  pub inside : Lies (bytes_of answers) (after s (replicate count event)).place

-- ---- as many as the bits already read determine

-- The next event is this one: no pull is needed, and the bytes are in the interval after it.
pub record IsDetermined (d : Decoder) (s : State) (answers : List Pulled) (event : Event) : Type 0 where
  pub ready : WantsNone (heard_of answers) d.bits s.place.doublings (length (bytes_of answers))
  pub inside : Lies (bytes_of answers) (step s event.context event.pixel).place

-- An event `count` times, from a decoder at a state.
pub record PixelRun : Type 0 where
  pub decoder : Decoder
  pub state : State
  pub event : Event
  pub count : ℕ

abbrev pub pixel_run : Decoder → State → Event → ℕ → PixelRun
pixel_run d s event count = record { decoder = d; state = s; event = event; count = count }

-- the state after so many of them
abbrev pub state_in : PixelRun → ℕ → State
state_in run k = after run.state (replicate k run.event)

-- the bits that the decoder then still has, with no pull before
abbrev pub bits_left : PixelRun → ℕ → ℕ
bits_left run k = run.decoder.bits + run.state.place.doublings - (state_in run k).place.doublings

-- These events were decoded, each with no pull.
pub record RunDecoded (run : PixelRun) (answers : List Pulled) (d' : Decoder) (learned : List Estimate) : Type 0 where
  pub ready : (k : ℕ) → k < run.count → WantsNone (heard_of answers) (bits_left run k) (state_in run k).place.doublings (length (bytes_of answers))
  pub stands : DecoderIsAt d' (state_in run run.count).place answers
  pub taught : learned ≡ (state_in run run.count).learned

-- They lead to these registers, after some bytes, and to these context states. Before each, 16 bits are available.
pub record RunGoes (run : PixelRun) (d' : Decoder) (learned : List Estimate) (b : List ℕ) : Type 0 where
  pub registers : Registers d'.code d'.span d'.bits (state_in run run.count).place b
  pub taught : learned ≡ (state_in run run.count).learned
  pub ready : (k : ℕ) → k < run.count → 16 ≤ bits_left run k
