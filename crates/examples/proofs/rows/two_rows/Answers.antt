use Rattle.std.proofs.Common.{◌∙◌, ap, sym, subst, ℕ, List, Option, Result, Ok, Err, ◌∷◌, []}
use Rattle.std.specs.Prelude.{OnOk}
use Rattle.std.specs.Io.KnownBytes.{Appends}
use Rattle.pbm_core.specs.Image.{pixels_of}
use Rattle.t85_core.specs.Encode.{raster_of}
use Rattle.t85_core.specs.Jbg.{jbg}
use Rattle.t85_core.specs.Options.{settings_of}
use Rattle.t85_core.specs.States.Sent.{Sends, here}
use Rattle.examples.proofs.rows.two_rows.Goals as goal
use Rattle.t85_core.specs.RowImage.{image_of}

map_ok : {T E : Type 0} (r : Result T E) {P Q : Type 0} → (P → Q) → OnOk r P → OnOk r Q
map_ok (Ok x) k p = k p
map_ok (Err e) k p = tt

-- all bytes of a stream went here
here_sent : (old new : Option (List ℕ)) (bytes : List ℕ) → Sends (here old) new bytes → Appends old new bytes
here_sent old new bytes sent = subst (Appends old new) (sym sent.all) sent.appended

pub returns-clause-whole : goal.returns-clause-whole
returns-clause-whole g c =
    map_ok c.finish.result (λ all.
    let s = settings_of c.args.options.now in
    let first_wide = ap (λ z. z.width) c.in_ok-encoder.ensures.begins.3 in
    let second_wide = ap (λ z. z.width) (c.in_ok-put_row.ensures.goes_on.3 ∙ c.in_ok-encoder.ensures.begins.3) in
    let one = c.in_ok-put_row.ensures.ok (image_of s c.args.size.width c.args.size.height) [] (here (g.W.Output.view c.args.output.now).contents) c.in_ok-encoder.ensures.begun in
    let two = c.in_ok-put_row-2.ensures.ok (image_of s c.args.size.width c.args.size.height) (pixels_of c.in_ok-encoder.encoder.size.width c.args.first.now ∷ [])
    (here (g.W.Output.view c.args.output.now).contents) one in
    subst (λ w. Appends (g.W.Output.view c.args.output.now).contents (g.W.Output.view c.finish.new.output).contents
    (jbg s (raster_of c.args.size.width (pixels_of w c.args.first.now ∷ pixels_of c.args.size.width c.args.second.now ∷ [])))) first_wide
    (subst (λ w. Appends (g.W.Output.view c.args.output.now).contents (g.W.Output.view c.finish.new.output).contents
    (jbg s (raster_of c.args.size.width (pixels_of c.in_ok-encoder.encoder.size.width c.args.first.now ∷ pixels_of w c.args.second.now ∷ [])))) second_wide
    (here_sent _ _ _ (all (image_of s c.args.size.width c.args.size.height) _ (here (g.W.Output.view c.args.output.now).contents) two)))) c.finish.ensures.ok
