use Rattle.std.proofs.Common.{◌≡◌, ◌≤◌, ◌+◌, ℕ, length, arith, ◌∙◌, ◌++◌, ap, take}
use Rattle.std.proofs.lemmas.List.{length-take-le}
use Rattle.pbm_core.proofs.RowGrows.{length_mid, filled_row, cleared_row}
use Rattle.pbm_core.proofs.row_reader.RowReader.read_raw.Goals as goal

pub returns-clause-takes : goal.returns-clause-takes
returns-clause-takes c before is =
    let at : ℕ = c.min-at.result in
    let n : ℕ = c.min-taken.result in
    let from = is.1 in
    let begun : at ≡ length before = omega (arith, c.min-at.ensures, is.0, from, c.requires) in
    let within : n ≤ length c.args.piece.now = omega (arith, c.min-taken.ensures) in
    let fits : at + n ≤ length c.args.row.now = omega (arith, c.min-taken.ensures, c.min-at.ensures) in
    let ys = c.copy_from_slice.ensures.after in
    let long : length c.copy_from_slice.new.self ≡ n = ap length ys ∙ length-take-le n c.args.piece.now within in
    let same = length_mid at n c.args.row.now c.copy_from_slice.new.self fits long in
    let whole : at + n ≡ length c.args.row.now = omega (arith, same, fits, c.if-at-taken.false) in
    record {
      decides = (
        cleared_row c.args.size.width (before ++ take n c.args.piece.now) _ c.clear_padding.new.row c.args.size.some_width (same ∙ c.requires)
            (filled_row before c.args.piece.now c.args.row.now c.copy_from_slice.new.self n begun is.2 whole ys within) c.clear_padding.ensures
            (λ k. omega (arith, c.type_inv.row k)),
        c.start.ensures.raw c.args.size.width c.clear_padding.new.row c.args.size.some_width,
      );
      all_taken = (λ h. cc);
    }
