use Rattle.std.proofs.Common.{◌≡◌, Some, sym, ap, ◌∙◌}
use Rattle.t85_core.specs.declared.segments.Code.TheVariants as code
use Rattle.t85_core.proofs.BodiesDecode.EntityIsPulled.{none_of}
use Rattle.t85_core.proofs.BodiesDecode.MarkerIsFound.{found_before, found_ahead, none_ahead, byte_ahead, finds_on, misses_on, keeps_on}
use Rattle.t85_core.proofs.BodiesDecode.FewBytesRemain.{skip_few}
use Rattle.t85_core.proofs.pieces.code.find.find_marker.Goals as goal

pub returns-in-Some-clause-ok : goal.returns-in-Some-clause-ok
returns-in-Some-clause-ok c = found_before c.args.first.now c.args.marker c.args.piece.now.rest.now c.in-Some.reset c.in-Some.is

pub returns-in-Some-Marker-clause-ok : goal.returns-in-Some-Marker-clause-ok
returns-in-Some-Marker-clause-ok c =
    let is : c.args.first.now ≡ Some (code.Marker c.in-Some-Marker.reset) = sym c.take.ensures.value ∙ c.in-Some-Marker.is ∙ ap Some c.in-Some-Marker.field-0-is
    ∙ ap (λ z. Some (code.Marker z)) (sym c.in-Some-Marker.reset-is) in
    found_ahead c.args.first.now c.args.marker c.args.piece.now.rest.now c.in-Some-Marker.reset (none_of _ c.in_default.not-Some) is

pub returns-in-Some-Byte-clause-ok : goal.returns-in-Some-Byte-clause-ok
returns-in-Some-Byte-clause-ok c =
    let is : c.args.first.now ≡ Some (code.Byte c.in-Some-Byte.field-0-0) = sym c.take.ensures.value ∙ c.in-Some-Byte.is ∙ ap Some c.in-Some-Byte.field-0-is in
    finds_on c.args.first.now c.args.marker (none_of _ c.in_default.not-Some) (byte_ahead _ _ is) _ _ c.skip_some.result c.skip_some.ensures.ok

pub returns-in-Some-Byte-clause-err : goal.returns-in-Some-Byte-clause-err
returns-in-Some-Byte-clause-err c =
    let is : c.args.first.now ≡ Some (code.Byte c.in-Some-Byte.field-0-0) = sym c.take.ensures.value ∙ c.in-Some-Byte.is ∙ ap Some c.in-Some-Byte.field-0-is in
    misses_on c.args.first.now c.args.marker (none_of _ c.in_default.not-Some) (byte_ahead _ _ is) _ _ c.skip_some.result c.skip_some.ensures.err

pub returns-in-Some-Byte-clause-more : goal.returns-in-Some-Byte-clause-more
returns-in-Some-Byte-clause-more c =
    let is : c.args.first.now ≡ Some (code.Byte c.in-Some-Byte.field-0-0) = sym c.take.ensures.value ∙ c.in-Some-Byte.is ∙ ap Some c.in-Some-Byte.field-0-is in
    keeps_on c.args.first.now c.args.marker (none_of _ c.in_default.not-Some) (byte_ahead _ _ is) _ _ c.take.new.self c.take.ensures.after c.skip_some.result c.skip_some.ensures.err

pub returns-in-Some-Byte-clause-few : goal.returns-in-Some-Byte-clause-few
returns-in-Some-Byte-clause-few c = skip_few _ c.skip_some.new.piece.rest.now c.skip_some.result c.skip_some.ensures.err

pub returns-in-None-clause-few : goal.returns-in-None-clause-few
returns-in-None-clause-few c = skip_few _ c.skip_some-in-None.new.piece.rest.now c.skip_some-in-None.result c.skip_some-in-None.ensures.err

pub returns-in-None-clause-ok : goal.returns-in-None-clause-ok
returns-in-None-clause-ok c =
    finds_on c.args.first.now c.args.marker (none_of _ c.in_default.not-Some) (none_ahead _ (sym c.take.ensures.value ∙ c.in-None.is)) _ _ c.skip_some-in-None.result c.skip_some-in-None.ensures.ok

pub returns-in-None-clause-err : goal.returns-in-None-clause-err
returns-in-None-clause-err c =
    misses_on c.args.first.now c.args.marker (none_of _ c.in_default.not-Some) (none_ahead _ (sym c.take.ensures.value ∙ c.in-None.is)) _ _ c.skip_some-in-None.result c.skip_some-in-None.ensures.err

pub returns-in-None-clause-more : goal.returns-in-None-clause-more
returns-in-None-clause-more c =
    keeps_on c.args.first.now c.args.marker (none_of _ c.in_default.not-Some)
    (none_ahead _ (sym c.take.ensures.value ∙ c.in-None.is)) _ _ c.take.new.self c.take.ensures.after c.skip_some-in-None.result c.skip_some-in-None.ensures.err
