use Rattle.std.proofs.Common.{◌≡◌, ◌≤◌, ◌+◌, ◌-◌, ℕ, List, length, drop, refl, ap, length-take, arith}
use Rattle.std.specs.Io.KnownBytes.{Keeps, IsAtEnd, prepend_known}
use Rattle.devices.specs.Buffered.{bytes_between, view_behind}
use Rattle.devices.proofs.DeviceHoldsBytes.{Keeps-same, Keeps-consumes, none_held, none_came, some_taken, copied, end_behind, at_end_unheld}
use Rattle.devices.proofs.buffered.BufferedInput.read.Goals as goal
use Rattle.devices.proofs.buffered.BufferedInput.read.Goals.{then-self+in-Ok, else-self}

pub returns : goal.returns
returns g c =
    let old = c.args.self.now in
    let bytes : List ℕ = c.if-self.self.bytes in
    let at : ℕ = c.if-self.self.at in
    let end : ℕ = c.if-self.self.end in
    let count : ℕ = c.min-count.result in
    let behind = g.R.Input.view c.if-self.self.input.now in
    let kept : Keeps (prepend_known (bytes_between old.bytes old.at old.end) (view_behind old).remaining) (prepend_known (bytes_between bytes at end) behind.remaining) =
    elim c.if-self.branch [ then-self+in-Ok w ↦ rw w.self-is w.fill.ensures.bytes | else-self w ↦ rw w.self-is (Keeps-same _) ] in
    let left : (end - at) + behind.left ≡ (old.end - old.at) + (view_behind old).left =
    elim c.if-self.branch [ then-self+in-Ok w ↦ rw w.self-is w.fill.ensures.left | else-self w ↦ rw w.self-is refl ] in
    let failures : behind.failures ≡ (view_behind old).failures =
    elim c.if-self.branch [ then-self+in-Ok w ↦ rw w.self-is w.in-Ok.ensures.failures | else-self w ↦ rw w.self-is refl ] in
    let same_source : c.if-self.self.input.ghost_name ≡ old.input.ghost_name =
    elim c.if-self.branch [ then-self+in-Ok w ↦ rw w.self-is w.fill.ensures.same_source | else-self w ↦ rw w.self-is refl ] in
    let last : at ≡ end → IsAtEnd behind.remaining =
    elim c.if-self.branch [
      | then-self+in-Ok w ↦ rw w.self-is (λ e. end_behind _ _ (w.in-Ok.ensures.at_end (none_came _ _ (none_held _ _ _ e) w.in-Ok.ensures.held)
          (omega (arith, ap length (none_held old.bytes _ _ w.if-self.true)))))
      | else-self w ↦ rw w.self-is (λ e. absurd (w.if-self.false e))
    ] in
    let fits : at + count ≤ end = omega (arith, c.min-count.ensures) in
    let given = copied bytes c.copy_from_slice.new.self (drop count c.args.buf.now) at count end c.copy_from_slice.ensures.after
    (omega (arith, c.copy_from_slice.auto.self, c.min-count.ensures, length-take c.min-count.result c.args.buf.now)) fits in
    record {
      within = omega arith;
      bytes = (
        Keeps-consumes _ _ _ _ kept (rw given (some_taken bytes at count end behind.remaining fits)),
        (λ none some. at_end_unheld _ _ (none_held bytes (at + count) end (omega (arith, none, some, c.min-count.ensures))) (last (omega (arith, none, some, c.min-count.ensures)))),
      );
      left = omega (arith, left);
      failures = failures;
      drained = tt;
      same_source = same_source;
    }
