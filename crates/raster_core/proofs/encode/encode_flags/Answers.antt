use Rattle.std.proofs.Common.{◌≡◌, ℕ, ◌+◌, ◌-◌, ◌∷◌, [], ◌++◌, refl, ap, ◌∙◌, arith, replicate}
use Rattle.std.proofs.lemmas.List.{replicate_more, replicate-append-replicate}
use Rattle.qm_core.specs.Place.{Event}
use Rattle.raster_core.specs.Row.{again_event}
use Rattle.raster_core.proofs.EventListsJoin.{event_is}
use Rattle.raster_core.proofs.EventsArePut.{puts_as, puts_join, puts_none, puts_stop}
use Rattle.raster_core.proofs.encode.encode_flags.Goals as goal

pub loop-row-init : goal.loop-row-init
loop-row-init g c = record {
  puts = puts_none;
  events = omega arith;
  none = λ _. record { learned_is = refl; encoder_is = refl; out_is = refl };
}

-- one event more
next : (n : ℕ) (one event : Event) → one ≡ event → replicate n event ++ one ∷ [] ≡ replicate (n + 1) event
next n one event is = rw is (replicate_more n event)

pub returns-in_err-put-clause-puts : goal.returns-in_err-put-clause-puts
returns-in_err-put-clause-puts g c =
    let k : ℕ = c.loop-row._row in
    let all : k + 1 + (c.args.count - (k + 1)) ≡ c.args.count = omega arith in
    let event = event_is c.flag_context-cx.result.number _ _ _ c.flag_context-cx.ensures refl in
    puts_as (replicate-append-replicate (k + 1) (c.args.count - (k + 1)) (again_event c.args.shape) ∙ ap (λ n. replicate n (again_event c.args.shape)) all)
    (puts_stop _ c.from_residual.ensures
    (puts_as (next k _ (again_event c.args.shape) event) (puts_join c.loop-row.invariant.puts c.in_err-put.ensures)))

pub loop-row-preserved : goal.loop-row-preserved
loop-row-preserved g c =
    let event = event_is c.flag_context-cx.result.number _ _ _ c.flag_context-cx.ensures refl in
    record {
      puts = puts_as (next c.loop-row._row _ (again_event c.args.shape) event) (puts_join c.loop-row.invariant.puts c.in_ok-put.ensures);
      events = let e = c.in_ok-put.ensures.count in omega arith;
      none = λ is. absurd (omega arith);
    }
