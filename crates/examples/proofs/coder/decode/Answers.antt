use Rattle.std.proofs.Common.{rules, ◌≡◌, ◌<◌, ◌++◌, ◌∷◌, [], length, false, arith, refl, ◌∙◌, add-one}
use Rattle.std.proofs.Math.Seq.{take-suc}
use Rattle.qm_core.specs.Place.{step}
use Rattle.examples.proofs.PixelsAreCoded.{decoded_on, at_place}
use Rattle.examples.proofs.coder.decode.Goals as goal

pub loop-cx-preserved : goal.loop-cx-preserved
loop-cx-preserved c =
    let a = c.loop-cx.invariant.along in
    let i = c.loop-cx.cx-index in
    let contexts = c.args.contexts.now in
    let next = c.in-Ok.ensures.next a.0 a.2 a.3 in
    let gives = c.pulls_join.ensures (record { rest = c.args.code }) c.loop-cx.source c.next.new.source a.2 next.more a.4 next.gives in
    let on = decoded_on c.places.ensures.start_is_place c.places.ensures.events_keep_place c.codes.ensures.one_code
    c.inverse.ensures c.one_pixel.ensures.only_pixel c.args.learned.now (record { rest = c.args.code }) in
    record {
      going = search rules;
      along = (
        (step (at_place a.0 c.loop-cx.learned) c.cx-item.result.number c.in-Ok.pixel).place,
        c.places.ensures.pixel_keeps_place (at_place a.0 c.loop-cx.learned) c.cx-item.result.number c.in-Ok.pixel a.1,
        a.2 ++ next.more,
        next.stands,
        gives,
        λ pixels long held.
            (let so_far = a.5 pixels long held in
            let within : i < length pixels = omega arith in
            let more = on pixels (record { in_contexts = omega arith; in_pixels = within; is_cx = c.cx-item.is; is_pixel = refl }) next a.1 gives held so_far.1 in
            let grown : c.push.new.self.items ≡ c.loop-cx.pixels.items ++ c.in-Ok.pixel ∷ [] = search rules in
            (grown ∙ rw (so_far.0, more.0, add-one, take-suc pixels i false) refl, more.1)),
      );
    }
