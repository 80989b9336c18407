use Rattle.std.proofs.Common.{refl, sym, subst, ◌++◌, ◌∷◌, [], Some}
use Rattle.t85_core.specs.States.Written.{IsCountedTo}
use Rattle.t85_core.specs.Private.Trial.{trial_of, tried_to}
use Rattle.t85_core.specs.States.State.{lines_with}
use Rattle.raster_core.specs.Window.{held, shape_mode}
use Rattle.t85_core.proofs.ImagesEncode.TrialCountsBytes.{sure, row_tried, lines_are}
use Rattle.t85_core.proofs.encoding.by_row.trial.Trial.code.Goals as goal

pub returns-clause-row : goal.returns-clause-row
returns-clause-row c most carry offset part row before few below h =
    let line = lines_with (tried_to (trial_of (shape_mode c.args.shape) most carry offset) part) row in
    let lines = lines_are c.args.shape most carry offset row (held c.args.window.now) c.args.self.now below h in
    let never = c.encode_row.ensures.fails.0.3 c.requires.ready.going in
    let typical = c.counted-counted.ensures.typical in
    let plain = c.counted-counted.ensures.plain in
    row_tried c.args.shape most carry offset row (held c.args.window.now) _ below h few refl
    (sure c.encode_row.result never (c.encode_row.ensures.row (tried_to (trial_of (shape_mode c.args.shape) most carry offset) part).state.place h.pushed line c.requires.ready.going h.codes lines).ok)
    (λ is. c.count_row.ensures.none (typical is))
    (λ counted is rows few_rows was. subst (λ n. IsCountedTo n (Some 0) c.count_row.new.tally (rows ++ line ∷ [])) c.requires.ready.row.0
    (subst (λ o. IsCountedTo c.args.window.now.width o c.count_row.new.tally (rows ++ line ∷ [])) (plain counted is)
    (c.count_row.ensures.counts rows line few_rows lines (subst (λ o. IsCountedTo c.args.window.now.width o c.args.self.now.tally rows) (sym (plain counted is))
    (subst (λ n. IsCountedTo n (Some 0) c.args.self.now.tally rows) (sym c.requires.ready.row.0) was)))))
    c.count_row.ensures.two_line c.count_row.ensures.most
