use Rattle.std.proofs.Common.{rules, ◌∙◌, ap, refl}
use Rattle.std.specs.Prelude.{nat_lt, length}
use Rattle.raster_core.specs.Offset.{candidates}
use Rattle.t85_core.specs.Coding.{mode_of}
use Rattle.t85_core.specs.Options.{settings_of}
use Rattle.t85_core.proofs.ImagesEncode.BodyIsEncoded.{are_settings}
use Rattle.t85_core.proofs.StreamsDenote.HeaderIsWritten.{written_bits}
use Rattle.t85_core.proofs.ImagesEncode.RowEncoderAdvances.{none_stand}
use Rattle.t85_core.proofs.encoding.by_row.RowEncoder.new.Goals as goal

pub returns-clause-plan : goal.returns-clause-plan
returns-clause-plan c =
    let s = settings_of c.args.options.now in
    let mode = c.shape-shape.ensures.mode ∙ ap (λ f. mode_of f.options) c.header.ensures ∙ (written_bits s (are_settings c.args.options.now)).mode in
    record {
      width_is = refl;
      limit_is = refl;
      shape_is = record { width_is = c.shape-shape.ensures.width ∙ ap (λ f. f.xd) c.header.ensures; mode_is = mode };
      stripe_rows_is = refl;
      some = c.args.options.now.some_rows;
      announced_is = c.unwrap_or.ensures;
      may_end_is = c.is_some.ensures;
      candidates_are = c.has_candidates.ensures ∙ ap (λ m. nat_lt 0 (length (candidates m.two_line c.args.options.now.most_offset))) mode;
      reset_is = refl;
      most_is = refl;
      width_from = c.args.size.some_width;
      width_to = c.args.size.not_too_wide;
      limit_to = search rules;
    }

pub returns-clause-first : goal.returns-clause-first
returns-clause-first c learning untaught window text text' white put =
    none_stand (returns-clause-plan c) refl (record {
      rows_is = refl;
      in_stripe = refl;
      nameless = refl;
      codes = c.start.ensures.codes;
      offset_is = refl;
      previous_is = refl;
      learned_is = untaught.learned_is;
      two_line = untaught.two_line;
      most = untaught.most;
      counts = untaught.counts;
    }) white put
