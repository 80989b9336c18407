use Rattle.std.proofs.Common.{inl, inr, subst, refl, arith}
use Rattle.t85_core.specs.Options.{fields_of}
use Rattle.libt85.specs.Decoded.{DeliversText}
use Rattle.libt85.proofs.decoding.t85_decode.Goals as goal

pub returns-then-opened-max_rows : goal.returns-then-opened-max_rows
returns-then-opened-max_rows c =
    let o = c.in-Ok.opened in
    inr (inl (record {
      opens = record { header = fields_of o.header; header_of = c.in-Ok.ensures.accepted; height = o.height; height_is = c.in-Ok.ensures.height };
      higher = c.if-opened-max_rows.true;
      refuses = record { answer_is = c.number-then-opened-max_rows.ensures; nothing = refl; kept = refl };
    }))

pub returns-then-window-bytes : goal.returns-then-window-bytes
returns-then-window-bytes c =
    let o = c.in-Ok.opened in
    inr (inr (inl (record {
      opens = record { header = fields_of o.header; header_of = c.in-Ok.ensures.accepted; height = o.height; height_is = c.in-Ok.ensures.height };
      within = c.if-opened-max_rows.false;
      short = omega (arith, c.window_bytes-bytes.ensures, c.if-window-bytes.true);
      refuses = record { answer_is = c.number-then-window-bytes.ensures; nothing = refl; kept = refl };
    })))

pub returns : goal.returns
returns c =
    let o = c.in-Ok.opened in
    inr (inr (inr (record {
      opens = record { header = fields_of o.header; header_of = c.in-Ok.ensures.accepted; height = o.height; height_is = c.in-Ok.ensures.height };
      within = c.if-opened-max_rows.false;
      enough = omega (arith, c.window_bytes-bytes.ensures, c.if-window-bytes.false);
      writes = subst (λ body. DeliversText (fields_of o.header) o.height body c.fill_image.new.image c.fill_image.new.written c.fill_image.result) c.in-Ok.ensures.body c.fill_image.ensures;
    })))
