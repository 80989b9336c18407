-- The view of an input that reads ahead of another.
use Rattle.std.specs.Prelude.{◌≡◌, ◌≤◌, ◌<◌, ℕ, ◌+◌, ◌-◌, List, ◌++◌, length, take, drop, Option, None, Some, [], ◌∷◌, Result, MatchResult, IfOk, IfSome}
use Rattle.std.specs.Io.KnownBytes.{Keeps, prepend_known}
use Rattle.devices.specs.declared.device.Input as device
use Rattle.devices.specs.declared.buffered.Buffered.{Buffered}
use Rattle.devices.specs.Device.{InputView, Counts, PassesHeld}

-- the bytes of an array from one index up to another
abbrev pub bytes_between : List ℕ → ℕ → ℕ → List ℕ
bytes_between bytes at end = take (end - at) (drop at bytes)

-- the device behind the buffer
abbrev pub view_behind : {R : Type 0} {G : device.Ghosts R} → Buffered R G → InputView
view_behind {R} {G} b = G.view b.input.now

-- the buffered bytes, followed by those of the device behind the buffer
abbrev pub buffered_view : {R : Type 0} {G : device.Ghosts R} → Buffered R G → InputView
buffered_view {R} {G} b = record {
  remaining = prepend_known (bytes_between b.bytes b.at b.end) (view_behind b).remaining;
  held = bytes_between b.bytes b.at b.end;
  left = (b.end - b.at) + (view_behind b).left;
  failures = (view_behind b).failures;
  source = b.input.ghost_name;
}

-- The next byte, if it is buffered, is consumed.
pub record GivesHeld (old new : InputView) (result : Option ℕ) : Type 0 where
  pub some : IfSome result (λ b. PassesHeld 1 old new × (old.held ≡ b ∷ new.held))
  pub none : result ≡ None → old.held ≡ []

-- A read behind the buffered bytes, in a buffer with this much room for them: those that came are buffered after them. None,
-- unless the buffer was full, is the end of the input. A failed read consumes nothing.
pub record ReadsBehind {E : Type 0} (room : ℕ) (old new : InputView) (result : Result ℕ E) : Type 0 where
  pub bytes : Keeps old.remaining new.remaining
  pub held : MatchResult result (λ n. (more : List ℕ) × (length more ≡ n) × (new.held ≡ old.held ++ more)) (λ _. new.held ≡ old.held)
  pub within : length new.held ≤ room
  pub at_end : IfOk result (λ n. n ≡ 0 → length old.held < room → Keeps new.remaining (Some new.held))
  pub left : new.left ≡ old.left
  pub held_left : length new.held ≤ new.left
  pub failures : Counts old.failures new.failures result
  pub same_source : new.source ≡ old.source
