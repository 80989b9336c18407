use Rattle.std.proofs.Common.{◌≡◌, ◌+◌, ◌==◌, ℕ, if◌then◌else◌, option_map, arith, ap}
use Rattle.std.proofs.lemmas.Bool.Decides.{nat_tests}
use Rattle.t85_core.specs.States.State.{offset_at}
use Rattle.t85_core.specs.States.DecodeRows.{pair_of}
use Rattle.t85_core.proofs.pieces.code.rows.is_settled.Goals as goal

pub returns-in-Some : goal.returns-in-Some
returns-in-Some c =
    let row = c.in-Some.to.row in let offset = c.in-Some.to.offset in
    let moved : (k o : ℕ) → offset_at (option_map pair_of c.args.at) k o ≡ (if row == k then offset else o) = (λ k o. ap (λ at. offset_at (option_map pair_of at) k o) c.in-Some.is) in (
      λ past k o from. let at = moved k o in grind (arith, nat_tests, past, from, at),
      λ all. let at = moved row (offset + 1) in let stays = all row (offset + 1) in grind (arith, nat_tests, at, stays),
    )
