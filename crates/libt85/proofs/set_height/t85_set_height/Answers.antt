use Rattle.std.proofs.Common.{inl}
use Rattle.libt85.proofs.HeightKeepsRaster.{set_done}
use Rattle.libt85.proofs.set_height.t85_set_height.Goals as goal

pub returns : goal.returns
returns c =
    let known = c.in-Ok.ensures in
    inl (set_done c.args.stream.now c.write_u32.new.buf _ c.in-Ok.opened.height (record {
      headers = c.headers.ensures;
      one = c.heights.ensures.one_height;
      some = c.heights.ensures.some_height;
      header = known.accepted;
      height = known.height;
      from = known.from;
      to = known.to;
    }) c.write_u32.ensures (λ i. (c.type_inv.stream i).fits))
