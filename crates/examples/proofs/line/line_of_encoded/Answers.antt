use Rattle.std.proofs.Common.{◌≡◌, ◌≢◌, ◌<◌, ◌≤◌, ◌^◌, ℕ, zero, suc, List, [], length, Option, Some, None, Result, Ok, Err, ap, arith}
use Rattle.std.specs.Prelude.{OnOk, IfErr, IfSome, option_map, unwrap_or, ◌==◌}
use Rattle.std.specs.Borrow.{Bor}
use Rattle.std.specs.Option.{option_map_or}
use Rattle.std.specs.Io.KnownBytes.{Appends}
use Rattle.qm_core.specs.Laws.{EventsKeepPlace, OneCode}
use Rattle.qm_core.specs.Place.{IsPlace, start}
use Rattle.t85_core.specs.declared.fault.Fault.{Fault}
use Rattle.t85_core.specs.declared.fault.Fault.TheVariants.{Read, Write}
use Rattle.t85_core.specs.declared.options.Options.{Options}
use Rattle.t85_core.specs.ToJbg.{WritesStream}
use Rattle.t85_core.specs.Height.{StreamFault}
use Rattle.t85_core.specs.Info.{HasLine, line_text}
use Rattle.t85_core.specs.Jbg.{Settings, AreSettings, named_for}
use Rattle.t85_core.specs.Options.{settings_of}
use Rattle.t85_core.specs.Failures.{CountsRead}
use Rattle.examples.specs.Image.{IsOfImage}
use Rattle.examples.specs.Line.{line_numbers, WritesLine}
use Rattle.examples.proofs.StreamHasParts.{has_line}
use Rattle.examples.proofs.StreamIsAccepted.{LineOrFault, no_fault}
use Rattle.examples.proofs.line.line_of_encoded.Goals as goal

-- options are accepted
are_settings : (o : Options) → AreSettings (settings_of o)
are_settings o = record {
  options_to = o.no_reserved_bit;
  no_low_bit = o.no_low_bit;
  no_layer_bit = ap (λ n. n == 1) o.no_layer_bit;
  stripe_from = o.some_rows;
  stripe_to = o.not_too_many;
  offset_to = o.in_range;
  announced_to = announced o.announced o.announced_fits;
  comment_to = comment o.comment o.comment_fits;
  named_to = none_named;
} where
  none_named : (i : ℕ) → IfSome (named_for (settings_of o) i) (λ t. t ≤ o.most_offset)
  none_named zero = tt
  none_named (suc i) = tt

  announced : (a : Option ℕ) → option_map_or (λ n. n) a 0 < 2 ^ 32 → unwrap_or a 0 < 2 ^ 32
  announced None fits = fits
  announced (Some n) fits = fits

  comment : (c : Option (Bor (List ℕ))) → option_map_or (λ (c : Bor (List ℕ)). length c.now) c 0 < 2 ^ 32 → length (unwrap_or (option_map (λ (c : Bor (List ℕ)). c.now) c) []) < 2 ^ 32
  comment None fits = fits
  comment (Some c) fits = fits

abbrev OneLine : Type 0
OneLine = (bytes x y : List ℕ) → HasLine bytes x → HasLine bytes y → x ≡ y

module _ (one_line : OneLine) (start_is_place : IsPlace start) (keep : EventsKeepPlace) (one_code : OneCode) (s : Settings) (accepted : AreSettings s) where
  the_line : {first bytes : List ℕ} {old new : Option (List ℕ)} → WritesStream s bytes (Some []) (Some first) → (text : List ℕ) × HasLine first text × Appends old new text → WritesLine s bytes old new
  the_line {first} w told = record { raster = w.raster; rest = w.rest; is = w.is; appends = rw same at told.2 } where
    line : HasLine first (line_text (line_numbers s w.raster))
    line = rw w.appends (has_line start_is_place keep one_code s w.raster accepted w.proper w.denotes)

    same : told.0 ≡ line_text (line_numbers s w.raster)
    same = one_line first told.0 (line_text (line_numbers s w.raster)) told.1 line

  known_line : (known old new : Option (List ℕ)) (first : List ℕ) (answer : Result (Unit {0}) Fault) → IfSome known (λ bytes. WritesStream s bytes (Some []) (Some first))
      → OnOk answer ((text : List ℕ) × HasLine first text × Appends old new text) → OnOk answer (IfSome known (λ bytes. WritesLine s bytes old new))
  known_line known old new first (Err fault) written told = tt
  known_line None old new first (Ok u) written told = tt
  known_line (Some bytes) old new first (Ok u) written told = the_line written told

known_told : LineOrFault → (s : Settings) (known : Option (List ℕ)) (first : List ℕ) (answer : Result (Unit {0}) Fault) → IfSome known (λ bytes. WritesStream s bytes (Some []) (Some first))
    → IfErr answer (λ f. f ≢ Read → f ≢ Write → StreamFault first f) → CountsRead 0 0 answer → IfErr answer (λ fault. IfSome known (λ _. IsOfImage fault))
known_told law s None first (Ok u) written refused counts = tt
known_told law s None first (Err f) written refused counts = tt
known_told law s (Some bytes) first (Ok u) written refused counts = tt
known_told law s (Some bytes) first (Err Write) written refused counts = tt
known_told law s (Some bytes) first (Err Read) written refused counts = absurd (omega (arith, counts))
known_told law s (Some bytes) first (Err f) w refused counts = absurd (no_fault law first w.raster (rw w.appends w.denotes) f (refused (λ e. cc) (λ e. cc)))

pub returns-clause-line : goal.returns-clause-line
returns-clause-line g c =
    known_line c.lines.ensures.one_line c.places.ensures.start_is_place c.places.ensures.events_keep_place c.codes.ensures.one_code (settings_of c.args.options.now) (are_settings c.args.options.now)
    (g.R.Input.view c.args.input.now).remaining (g.W.Output.view c.args.output.now).contents (g.W.Output.view c.info.new.output).contents c.written.result.now c.info.result
    (rw (c.new-stream.ensures.room.0, ← c.written.ensures) at c.in_ok-to_jbg.ensures.outcome.leaves.whole) c.info.ensures.outcome.line

pub returns-clause-told : goal.returns-clause-told
returns-clause-told g c =
    known_told c.lines.ensures.line_or_fault (settings_of c.args.options.now) (g.R.Input.view c.args.input.now).remaining c.written.result.now c.info.result
    (rw (c.new-stream.ensures.room.0, ← c.written.ensures) at c.in_ok-to_jbg.ensures.outcome.leaves.whole) c.info.ensures.outcome.refused c.info.ensures.outcome.reads
