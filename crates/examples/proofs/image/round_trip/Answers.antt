use Rattle.std.proofs.Common.{rules, ◌≡◌, ◌≤◌, ◌+◌, ◌^◌, true, arith, ◌⊎◌, inr, ℕ, List, [], ◌++◌, length, append-nil, Option, Some, None, Result, Ok, Err, refl, sym, ap, ◌∙◌}
use Rattle.std.specs.Prelude.{OnOk, IfErr, IfSome}
use Rattle.std.specs.Io.KnownBytes.{Appends}
use Rattle.t85_core.specs.Change.{between}
use Rattle.pbm_core.specs.Image.{OneImage, WrittenImageIsRead, pbm}
use Rattle.t85_core.specs.declared.fault.Fault.{Fault}
use Rattle.t85_core.specs.Laws.{HeaderLaws}
use Rattle.t85_core.specs.ToJbg.{WritesStream}
use Rattle.t85_core.specs.Outcome.{pbm_text}
use Rattle.t85_core.specs.Jbg.{Settings}
use Rattle.t85_core.specs.Options.{settings_of}
use Rattle.t85_core.specs.ToPbm.{IsFixed, WritesDenoted, Delivery, ToPbm, again_failures, second_reading}
use Rattle.examples.specs.Image.{IsRawForm, WritesRawForm, IsOfImage}
use Rattle.examples.specs.declared.held.Held.{Held}
use Rattle.examples.proofs.StreamIsAccepted.{LineOrFault, told}
use Rattle.examples.proofs.image.round_trip.Goals as goal

module _ (s : Settings) (first : List ℕ) (old new : Option (List ℕ)) where
  -- The stream denotes the raster that was read, and what is written is the one raster that it denotes.
  same_raster : OneImage → WrittenImageIsRead → (bytes : List ℕ) → WritesStream s bytes (Some []) (Some first) → WritesDenoted first old new → WritesRawForm bytes old new
  same_raster one_image is_read bytes read written = record { raster = read.raster; rest = read.rest; is = read.is; appends = appends; unchanged = unchanged } where
    same : read.raster ≡ written.raster
    same = written.only read.raster (rw read.appends read.denotes)

    appends : Appends old new (pbm_text read.raster)
    appends = rw same written.appends

    unchanged : IsRawForm bytes → Appends old new bytes
    unchanged raw =
        let raster = raw.0 in
        let proper = raw.1 in
        let wide : raster.width ≤ 1048576 = proper.width_to in
        let tall : length raster.rows ≤ 4294967295 = (let below = proper.height_to in omega (arith, below)) in
        let text : bytes ≡ pbm raster.width raster.rows ++ [] = raw.2 ∙ sym (append-nil (pbm raster.width raster.rows)) in
        let image = is_read raster.width raster.rows [] proper.width_from wide proper.height_from tall proper.rows in
        let both = one_image bytes raster.width raster.rows [] read.raster.width read.raster.rows read.rest (rw text image) read.is in
        rw (raw.2 ∙ ap (λ w. pbm w raster.rows) both.widths ∙ ap (λ rows. pbm read.raster.width rows) both.all_rows) appends

  came_back : OneImage → WrittenImageIsRead → (known : Option (List ℕ)) {second : List ℕ} (answer : Result (Unit {0}) Fault) → second ≡ first →
      IfSome known (λ bytes. WritesStream s bytes (Some []) (Some first))
      → OnOk answer (IsFixed first ⊎ (Some second ≡ Some first) → WritesDenoted first old new) → OnOk answer (IfSome known (λ bytes. WritesRawForm bytes old new))
  came_back one_image is_read known (Err fault) same read written = tt
  came_back one_image is_read None (Ok u) same read written = tt
  came_back one_image is_read (Some bytes) (Ok u) same read written = same_raster one_image is_read bytes read (written (inr (ap Some same)))

known_told : LineOrFault → HeaderLaws → (s : Settings) (known : Option (List ℕ)) {first : List ℕ} {limit : ℕ} {left left' : Option (List ℕ)} {untouched : Type 0} {out : Delivery}
    (answer : Result (Unit {0}) Fault)
    → 2 ^ 32 ≤ limit + 1 → IfSome known (λ bytes. WritesStream s bytes (Some []) (Some first))
    → ToPbm limit (between (Some first) left 0 0) (second_reading true untouched (between (Some first) left' 0 0)) out answer → IfErr answer (λ fault. IfSome known (λ bytes. IsOfImage fault))
known_told law headers s None (Ok u) large read converts = tt
known_told law headers s None (Err f) large read converts = tt
known_told law headers s (Some bytes) {first} answer large read converts = told law headers {bytes = first} {raster = read.raster} (rw read.appends read.denotes) large converts

never_failed : (again : Option Held) → again_failures (λ (held : Held). 0) again ≡ 0
never_failed None = refl
never_failed (Some held) = refl

pub returns-in_err-to_jbg-clause-told : goal.returns-in_err-to_jbg-clause-told
returns-in_err-to_jbg-clause-told g c = let leaves = c.in_err-to_jbg.ensures.outcome.leaves in let among = leaves.among in search (rules, among)

pub returns-clause-again : goal.returns-clause-again
returns-clause-again g c =
    let read = rw (c.new-stream.ensures.room.0, ← c.written.ensures) at c.in_ok-to_jbg.ensures.outcome.leaves.whole in
    came_back (settings_of c.args.options.now) c.written.result.now (g.W.Output.view c.args.output.now).contents
    (g.W.Output.view c.to_pbm.new.output).contents c.images.ensures.one_image c.images.ensures.written_image_is_read
    (g.R.Input.view c.args.input.now).remaining c.to_pbm.result (c.written-2.ensures ∙ sym c.written.ensures) read c.to_pbm.ensures.outcome.denoted

pub returns-clause-told : goal.returns-clause-told
returns-clause-told g c =
    let read = rw (c.new-stream.ensures.room.0, ← c.written.ensures) at c.in_ok-to_jbg.ensures.outcome.leaves.whole in
    known_told c.lines.ensures.line_or_fault c.headers.ensures (settings_of c.args.options.now) (g.R.Input.view c.args.input.now).remaining c.to_pbm.result (omega arith) read
    (rw (c.written-2.ensures ∙ sym c.written.ensures, never_failed c.to_pbm.new.again) at c.to_pbm.ensures.outcome)
