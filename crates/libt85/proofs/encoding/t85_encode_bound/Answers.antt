use Rattle.std.proofs.Common.{◌≡◌, ◌≤◌, ◌+◌, ◌*◌, ℕ, [], length, Some, None, cond, sym, ap, ◌∙◌, arith}
use Rattle.std.specs.Prelude.{unwrap_or}
use Rattle.raster_core.specs.Raster.{height}
use Rattle.t85_core.specs.Grammar.{stripe_count}
use Rattle.libt85.specs.Encoded.{comment_chosen, settings_chosen}
use Rattle.libt85.proofs.encoding.t85_encode_bound.Goals as goal
use Rattle.libt85.proofs.encoding.t85_encode_bound.Goals.{then-choice, else-choice}

sum_up : {n held stripes pixels held' stripes' pixels' : ℕ} → n ≤ 34 + held' + 14 * stripes' + 4 * pixels' → held' ≡ held → stripes' ≡ stripes → pixels' ≡ pixels →
    n ≤ 34 + held + 14 * stripes + 4 * pixels
sum_up law a b c = omega arith

pub returns-clause-enough : goal.returns-clause-enough
returns-clause-enough c = λ comment raster long few some is w h.
    let choice = c.args.choice.now in
    let law = c.lengths.ensures (settings_chosen choice comment) raster is in
    let asked : length (unwrap_or (comment_chosen choice comment) []) ≡ c.if-choice.comment = elim c.if-choice.branch [
      | then-choice v ↦ ap (λ b. length (unwrap_or (cond b (Some comment) None) [])) v.if-choice.true ∙ long ∙ sym v.comment-is
      | else-choice v ↦ ap (λ b. length (unwrap_or (cond b (Some comment) None) [])) v.if-choice.false ∙ sym v.comment-is
    ] in
    let stripes : stripe_count (height raster) choice.stripe_rows ≡ c.div_ceil-stripes.result = ap (λ n. stripe_count n choice.stripe_rows) h ∙ sym c.div_ceil-stripes.ensures in
    let pixels : height raster * (raster.width + 1) ≡ c.args.height * (c.args.width + 1) = ap (λ n. n * (raster.width + 1)) h ∙ ap (λ n. c.args.height * (n + 1)) w in
    sum_up law asked stripes pixels
