-- How a walk goes on over bytes that are held, and over those that are read after them.
use Rattle.std.specs.Prelude.{ℕ, ◌-◌, ◌*◌, ◌<◌, ◌≡◌, ◌≢◌, ◌≤◌, Bool, true, false, List, [], ◌++◌, length, Option, Some, Result, Ok, flat_map, OnOk, IfOk, IfErr, IsErrOf}
use Rattle.std.specs.Io.KnownBytes.{Appends, Consumes, Keeps, IsAtEnd}
use Rattle.raster_core.specs.Packed.{packed_row, row_bytes}
use Rattle.t85_core.specs.declared.fault.Fault.{Fault}
use Rattle.t85_core.specs.declared.fault.Fault.TheVariants.{Truncated}
use Rattle.t85_core.specs.Stages as stage
use Rattle.t85_core.specs.Lent.{WalkView}
use Rattle.t85_core.specs.Fixed.{Fixes}
use Rattle.t85_core.specs.Failures.{Ends, counted_as, reads_after}
use Rattle.t85_core.specs.Private.Buffers.{SourceView, Reading, ReadsOn}
use Rattle.t85_core.specs.RowSink.{copies}
use Rattle.t85_core.specs.States.Passage.{Passage, passage}
use Rattle.t85_core.specs.Private.DecodeStripes.{ImageUnwritten}
use Rattle.t85_core.specs.States.Pieces.{CutOff, WalkStands}
use Rattle.t85_core.specs.Private.Pieces.{SomeStands, IsOver}
use Rattle.t85_core.specs.States.SizedImage.{SizedImage}

-- ---- bytes that are held

-- how many bytes the reader still has, at most
abbrev pub still_left : SourceView → List ℕ → ℕ
still_left s held = s.left - length held

-- This many of the buffered bytes stay, the last ones, and the others were consumed. Nothing was read.
pub record KeepsLast (old : SourceView) (held : List ℕ) (new : SourceView) (held' : List ℕ) (left : ℕ) : Type 0 where
  pub taken : (front back : List ℕ) → held ≡ front ++ back → length back ≡ left → (held' ≡ back) × Consumes old.known new.known front
  pub within : length held' ≤ left
  pub still : still_left new held' ≡ still_left old held
  pub beyond : new.beyond ≡ old.beyond
  pub unfailed : new.failures ≡ old.failures
  pub same_source : new.source ≡ old.source

-- Bytes were read behind the buffered ones. If there were none, or the read failed, none is buffered any more.
pub record Refills (old : SourceView) (held : List ℕ) (new : SourceView) (held' : List ℕ) (result : Result (Unit {0}) Fault) : Type 0 where
  pub ok : OnOk result (Keeps old.known new.known)
  pub err : IfErr result (Ends Truncated old.known new.known (λ given fault. (given ≡ held) × (fault ≡ Truncated)))
  pub lowers : OnOk result (still_left new held' < still_left old held)
  pub reads : ReadsOn old new result

-- ---- a walk over them

-- A walk takes bytes, and hands these out.
abbrev pub ReadsWalk : SizedImage → WalkView → WalkView → Option (List ℕ) → Option (List ℕ) → List ℕ → Type 0
ReadsWalk image w w' known known' row = (text out : List ℕ) → WalkStands image w text out → (given : List ℕ) × Consumes known known' given × WalkStands image w' (text ++ given) (out ++ row)

-- The bytes so far are broken, or end too early, and fix the returned rows.
pub record WalkBreaks (image : SizedImage) (text out : List ℕ) (known known' : Option (List ℕ)) (fault : Fault) : Type 0 where
  pub given : List ℕ
  pub taken : Consumes known known' given
  pub rows : List (List Bool)
  pub fixes : Fixes image.fields image.height (text ++ given) (counted_as Truncated fault) rows
  pub out_is : out ≡ flat_map packed_row rows
  pub at_end : fault ≡ Truncated → IsAtEnd known'

abbrev pub BreaksWalk : SizedImage → WalkView → Option (List ℕ) → Option (List ℕ) → Fault → Type 0
BreaksWalk image w known known' fault = (text out : List ℕ) → WalkStands image w text out → WalkBreaks image text out known known' fault

-- A walk took what it could of what is held, and waits for more.
abbrev pub WaitsWalk : SizedImage → WalkView → WalkView → Option (List ℕ) → Option (List ℕ) → List ℕ → Type 0
WaitsWalk image w w' known known' held' =
    (text out : List ℕ) → WalkStands image w text out →
    (given : List ℕ) × Consumes known known' given × WalkStands image w' (text ++ given) out × CutOff image ((text ++ given) ++ held') out Truncated

-- The effect of a turn over the buffered bytes. Few bytes stay if it needs more.
pub record HeldTurn (image : SizedImage) (w w' : WalkView) (known : Reading) (held' : List ℕ) (answer : Result Bool Fault) : Type 0 where
  pub row : answer ≡ Ok true → ReadsWalk image w w' known.old known.new w'.carried.held.current
  pub done : answer ≡ Ok false → ReadsWalk image w w' known.old known.new [] × IsOver w'.stage
  pub waits : IsErrOf answer Truncated → WaitsWalk image w w' known.old known.new held'
  pub few : IsErrOf answer Truncated → length held' ≤ 7
  pub err : IfErr answer (λ f. f ≢ Truncated → BreaksWalk image w known.old known.new f)
  pub unread : IfErr answer (λ f. SomeStands image w → ((n : ℕ) → reads_after f n ≡ n))

-- The effect of decoding rows that are equal, which reads on at the end of the buffered bytes: so many were handed out, or the image is whole.
pub record RowsTurn (image : SizedImage) (w w' : WalkView) (old new : SourceView) (answer : Result ℕ Fault) : Type 0 where
  pub some : IfOk answer (λ n. 0 < n → ReadsWalk image w w' old.known new.known (copies n w'.carried.held.current) × (SomeStands image w → w'.stage ≡ stage.Code))
  pub none : IfOk answer (λ n. n ≡ 0 → ReadsWalk image w w' old.known new.known [] × IsOver w'.stage)
  pub err : IfErr answer (λ f. BreaksWalk image w old.known new.known f)
  pub reads : SomeStands image w → ReadsOn old new answer

-- This many rows were decoded and written, and a walk is behind them.
pub record ImageSoFar (image : SizedImage) (w : WalkView) (p : Passage) (row : ℕ) : Type 0 where
  pub bytes : List ℕ
  pub out : List ℕ
  pub stands : WalkStands image w bytes out
  pub taken : Consumes p.input p.input_after bytes
  pub put : Appends p.output p.output_after out
  pub many : length out ≡ row * row_bytes image.fields.xd
  pub few : row ≤ image.height
  pub begun : ImageUnwritten image.fields image.height (passage (Some bytes) (Some []) (Some []) (Some out))
