-- Whether a height may still arrive, and what comes next.
use Rattle.std.specs.Prelude.{Bool, true, false}
use Rattle.t85_core.specs.Stages.{head_start}
use Rattle.t85_core.specs.declared.pieces.course.Stage.{Stage}
use Rattle.t85_core.specs.declared.pieces.course.Stage.TheVariants as stage
use Rattle.t85_core.specs.declared.pieces.head.Head.{Head}
use Rattle.t85_core.specs.declared.pieces.phase.Phase.{Phase}
use Rattle.t85_core.specs.declared.pieces.phase.Phase.TheVariants as phase

-- before the first stripe, if a height may arrive, or if none may
abbrev pub first_phase : Bool → Phase
first_phase true = phase.First head_start
first_phase false = phase.Known (stage.Head head_start)

abbrev pub phase_is_open : Phase → Bool
phase_is_open (phase.Known s) = false
phase_is_open (phase.First head) = true
phase_is_open (phase.Code code) = true
phase_is_open (phase.Behind behind) = true
phase_is_open phase.Late = true

abbrev pub phase_waits : Phase → Bool
phase_waits (phase.Known s) = false
phase_waits (phase.First head) = true
phase_waits (phase.Code code) = false
phase_waits (phase.Behind behind) = true
phase_waits phase.Late = true

-- the marker segments among which a height may come
abbrev pub phase_behind : Phase → Head
phase_behind (phase.Known s) = head_start
phase_behind (phase.First head) = head
phase_behind (phase.Code code) = head_start
phase_behind (phase.Behind behind) = behind.head
phase_behind phase.Late = head_start

-- whether the height in use is the header's, and another may follow
abbrev pub phase_looks : Phase → Bool
phase_looks (phase.Known s) = false
phase_looks (phase.First head) = true
phase_looks (phase.Code code) = true
phase_looks (phase.Behind behind) = true
phase_looks phase.Late = false

-- whether it is before the first stripe, and a height may come
abbrev pub phase_is_first : Phase → Bool
phase_is_first (phase.Known s) = false
phase_is_first (phase.First head) = true
phase_is_first (phase.Code code) = false
phase_is_first (phase.Behind behind) = false
phase_is_first phase.Late = false

-- what comes next, apart from those marker segments
abbrev pub phase_stage : Phase → Stage
phase_stage (phase.Known s) = s
phase_stage (phase.First head) = stage.Head head_start
phase_stage (phase.Code code) = stage.Code code
phase_stage (phase.Behind behind) = stage.Code behind.code
phase_stage phase.Late = stage.Done
