use Rattle.std.proofs.Common.{rules, arith, length-take-le, length}
use Rattle.std.proofs.lemmas.List.{take-append-drop}
use Rattle.libt85.proofs.BestOffsetIsFound.{best_found, best_refused, rows_fit, scratch_within}
use Rattle.libt85.proofs.encoder.best.t85_best_offset.Goals as goal

pub returns-in-Err : goal.returns-in-Err
returns-in-Err c = best_refused c.in-Err.ensures.ready

pub find_best-requires-clause-rows : goal.find_best-requires-clause-rows
find_best-requires-clause-rows c =
    let used = c.stripe_bytes-used.ensures in
    rw (length-take-le c.stripe_bytes-used.result c.args.rows.now used.within, used.is)
    (rows_fit c.args.encoder.now c.in-Ok.engine (length c.args.rows.now) (length c.args.window.now) (length c.args.scratch.now) c.in-Ok.ensures.ready c.in-Ok.ensures.enough)

pub returns : goal.returns
returns c =
    let used = c.stripe_bytes-used.ensures in
    let needed = c.window_bytes-needed.ensures in
    let found = c.find_best.ensures in
    let within = scratch_within c.args.encoder.now (length c.args.rows.now) (length c.args.window.now) (length c.args.scratch.now) c.in-Ok.ensures.enough in
    let long = length-take-le c.window_bytes-needed.result c.args.scratch.now (omega (arith, needed, within)) in
    best_found _ c.in-Ok.ensures.ready c.in-Ok.ensures.enough needed used.is used.within (rw found.same (take-append-drop c.window_bytes-needed.result c.args.window.now))
    (search (rules, long)) found.best found.named
