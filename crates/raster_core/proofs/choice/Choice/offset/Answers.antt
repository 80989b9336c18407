use Rattle.std.proofs.Common.{◌≡◌, ℕ, Bool, true, false, sym, ◌∙◌, refl}
use Rattle.std.specs.Prelude.{if◌then◌else◌}
use Rattle.raster_core.specs.Choice.{Counting, PixelCounts, counts_of}
use Rattle.raster_core.specs.Counting.{counting_of, is_offered, is_reset}
use Rattle.raster_core.specs.Offset.{candidates}
use Rattle.raster_core.proofs.CountsChooseOffset.{worth_of, moved, stays, small, offered_is}
use Rattle.raster_core.proofs.choice.Choice.offset.Goals as goal

pub returns-then-is_worth-clause-chosen : goal.returns-then-is_worth-clause-chosen
returns-then-is_worth-clause-chosen c stripe k offered =
    let t = c.args.self.now in
    let n : PixelCounts = counts_of (counting_of t) stripe in
    let e = worth_of t n c.extremes-extremes.result.best c.extremes-extremes.result.worst c.args.current k (offered_is (counting_of t) c.args.current offered)
    (c.extremes-extremes.ensures.best n k) (c.extremes-extremes.ensures.worst n k) in
    moved n (candidates (counting_of t).mode.two_line (counting_of t).most) c.args.current _ c.first_best.result
    (sym e ∙ sym (c.is_worth.ensures (small t c.args.current (offered_is (counting_of t) c.args.current offered))) ∙ c.if-is_worth.true) (c.first_best.ensures.best n k)

pub returns-else-is_worth-clause-chosen : goal.returns-else-is_worth-clause-chosen
returns-else-is_worth-clause-chosen c stripe k offered =
    let t = c.args.self.now in
    let n : PixelCounts = counts_of (counting_of t) stripe in
    let e = worth_of t n c.extremes-extremes.result.best c.extremes-extremes.result.worst c.args.current k (offered_is (counting_of t) c.args.current offered)
    (c.extremes-extremes.ensures.best n k) (c.extremes-extremes.ensures.worst n k) in
    let worth = sym e ∙ sym (c.is_worth.ensures (small t c.args.current (offered_is (counting_of t) c.args.current offered))) ∙ c.if-is_worth.false in
    rw c.unmoved-unmoved.ensures (stays n (candidates (counting_of t).mode.two_line (counting_of t).most) c.args.current _ worth)

pub returns-else-is_worth-clause-offered : goal.returns-else-is_worth-clause-offered
returns-else-is_worth-clause-offered c offered = rw c.unmoved-unmoved.ensures (kept (is_reset c.args.self.now) (counting_of c.args.self.now) c.args.current offered)
  where
    kept : (r : Bool) (n : Counting) (x : ℕ) → is_offered n x ≡ true → is_offered n (if r then 0 else x) ≡ true
    kept true n x h = refl
    kept false n x h = h
