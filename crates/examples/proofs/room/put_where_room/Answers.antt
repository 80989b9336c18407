use Rattle.std.proofs.Common.{◌≡◌, ◌∙◌, sym, true, false, arith}
use Rattle.std.specs.Prelude.{is_ok}
use Rattle.examples.proofs.RoomSuffices.{unfilled, when_ok}
use Rattle.examples.proofs.room.put_where_room.Goals as goal

-- no write failed
went : (c : goal.After-is_ok) → (is_ok c.put_row.result ≡ true) × (c.put_row.new.output.failures ≡ 0)
went c = unfilled {old = c.args.room.now} {new = c.put_row.new.output} (record {
  room = let most = c.most_row_bytes.ensures in let left = c.left-left.ensures in omega (arith, most, left, c.if-most_row_bytes-left.false);
  few = c.put_row.ensures.few;
  unfailed = c.requires.unfailed;
  counts = (c.put_row.ensures.writes c.requires.going).counts;
  fault = c.put_row.ensures.goes_on.4;
})

pub returns-clause-put : goal.returns-clause-put
returns-clause-put c is = when_ok c.put_row.result (went c).0 c.put_row.ensures.ok

pub returns-clause-kept : goal.returns-clause-kept
returns-clause-kept c is =
    let both : false ≡ true = sym is ∙ c.is_ok.ensures.value ∙ (went c).0 in
    cc

pub returns-clause-unfailed : goal.returns-clause-unfailed
returns-clause-unfailed c = (went c).1

pub returns-clause-wherever : goal.returns-clause-wherever
returns-clause-wherever c room = c.is_ok.ensures.value ∙ (went c).0
