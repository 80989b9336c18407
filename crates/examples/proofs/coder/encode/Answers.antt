use Rattle.std.proofs.Common.{rules, ◌≡◌, ◌<◌, ◌≤◌, length, arith, refl, ap, ◌∙◌, subst, sym}
use Rattle.std.specs.Prelude.{is_err, false}
use Rattle.qm_core.specs.Code.{code_of, stuffed}
use Rattle.qm_core.specs.Place.{State, IsPlace}
use Rattle.examples.specs.Coder.{end_of}
use Rattle.examples.proofs.PixelsAreCoded.{coded_on, ended, led, end_is_place, at_place}
use Rattle.examples.proofs.coder.encode.Goals as goal

pub loop-i-preserved : goal.loop-i-preserved
loop-i-preserved c =
    let a = c.loop-i.invariant.along in
    let put = c.put.ensures.put a.0 c.loop-i.code.bytes.items c.loop-i.invariant.going a.1 in
    let went : is_err c.put.result ≡ false = search rules in
    let in_pixels : c.loop-i.i < length c.args.pixels.now = omega arith in
    let in_contexts : c.loop-i.i < length c.args.contexts.now = omega arith in
    record {
      unfailed = search rules;
      events = search rules;
      going = search rules;
      along = coded_on c.args.learned.now {cx = c.index-contexts-i.result} (record { in_contexts = in_contexts; in_pixels = in_pixels; is_cx = c.index-contexts-i.is; is_pixel = refl }) went put a.2;
    }

pub returns-clause-code : goal.returns-clause-code
returns-clause-code c =
    let a = c.loop-i.invariant.along in
    let before = c.args.learned.now in
    let contexts = c.args.contexts.now in
    let pixels = c.args.pixels.now in
    let went : is_err c.finish.result ≡ false = search rules in
    let no_context : length contexts ≤ c.loop-i.i = omega arith in
    let there : at_place a.0 c.loop-i.learned ≡ end_of before contexts pixels = led before contexts pixels c.loop-i.i a.0 c.loop-i.learned no_context a.2 in
    let place : IsPlace a.0 = subst (λ (s : State). IsPlace s.place) (sym there) (end_is_place c.places.ensures.start_is_place c.places.ensures.events_keep_place before contexts pixels) in
    ended a.0 c.loop-i.code c.finish.new.out c.finish.result c.codes.ensures.one_code place went (c.finish.ensures.code a.0 c.loop-i.code.bytes.items c.loop-i.invariant.going a.1)
    ∙ ap (λ (s : State). stuffed (code_of s.place)) there
