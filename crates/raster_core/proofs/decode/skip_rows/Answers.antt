use Rattle.raster_core.proofs.decode.skip_rows.Goals as goal

pub returns-clause-skipped : goal.returns-clause-skipped
returns-clause-skipped c = λ p answers h some. rw (c.flag_context.ensures) at (c.next_run.ensures.run p answers h)

pub returns-clause-exact : goal.returns-clause-exact
returns-clause-exact c = λ p answers h few can. (rw (c.flag_context.ensures) at (c.next_run.ensures.exact p answers h few)) can.next
