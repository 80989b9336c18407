use Rattle.std.proofs.Common.{◌≡◌, ◌∙◌, ap, refl, rules, arith}
use Rattle.raster_core.specs.Window.{current_place}
use Rattle.libt85.proofs.DecoderRepeatsRows.{gives_again, none_again, nothing_changed, repeats_in}
use Rattle.libt85.proofs.WindowCoversMemory.{window_rows}
use Rattle.libt85.proofs.decoder.T85Decoder.repeat_row.Goals as goal

pub returns-then-count-eq0-clause-none : goal.returns-then-count-eq0-clause-none
returns-then-count-eq0-clause-none c = λ z.
    let stays : current_place c.repeat-count.new.window ≡ c.args.self.now.place = ap current_place (c.repeat-count.ensures.none c.if-count-eq0.true) ∙ c.resume-window.ensures.place in
    nothing_changed c.args.decoder.now c.repeat-count.new.self c.requires.may.place_to c.requires.long (search rules) c.if-count-eq0.true
    (repeats_in c.args.decoder.now c.repeat-count.new.self c.resume-window.ensures.held
    (window_rows {window = c.repeat-count.new.window}
    (record { place_is = stays; width_is = c.repeat-count.ensures.window.0 ∙ c.resume-window.ensures.width; rows_are = search rules }))
    (record { repeats = c.repeat-count.ensures.repeats; all = c.repeat-count.ensures.all }))

pub returns-then-count-eq0-clause-rows : goal.returns-then-count-eq0-clause-rows
returns-then-count-eq0-clause-rows c = λ stream out k.
    let stays : current_place c.repeat-count.new.window ≡ c.args.self.now.place = ap current_place (c.repeat-count.ensures.none c.if-count-eq0.true) ∙ c.resume-window.ensures.place in (
      (λ some. absurd (omega (arith, some))),
      none_again c.args.decoder.now c.repeat-count.new.self c.headers.ensures c.repeats.ensures c.requires.may c.requires.numbers c.requires.header c.requires.long (search rules) c.if-count-eq0.true
          (λ few. let none = c.if-count-eq0.true in omega (arith, few, none))
          (repeats_in c.args.decoder.now c.repeat-count.new.self c.resume-window.ensures.held
          (window_rows {window = c.repeat-count.new.window}
          (record { place_is = stays; width_is = c.repeat-count.ensures.window.0 ∙ c.resume-window.ensures.width; rows_are = search rules }))
          (record { repeats = c.repeat-count.ensures.repeats; all = c.repeat-count.ensures.all }))
          stream out k,
    )

pub returns-clause-rows : goal.returns-clause-rows
returns-clause-rows c = λ stream out k.
    gives_again {kept = c.keep.new.self} {e = c.args.decoder.now} {e' = c.repeat-count.new.self} (record {
      may = c.requires.may;
      long = c.requires.long;
      long' = search rules;
      header_is = c.requires.header;
      same = c.keep.ensures.same;
      held = c.keep.ensures.held;
      small = search rules;
      numbers = c.keep.ensures.numbers;
      call = repeats_in c.args.decoder.now c.repeat-count.new.self c.resume-window.ensures.held
          (window_rows {window = c.repeat-count.new.window}
          (record { place_is = search rules; width_is = c.repeat-count.ensures.window.0 ∙ c.resume-window.ensures.width; rows_are = search rules }))
          (record { repeats = c.repeat-count.ensures.repeats; all = c.repeat-count.ensures.all });
      keeps = record { version = refl; next = refl; header = refl; learned = refl; place = refl; numbers = refl; held = refl };
      given = refl;
    })
    c.headers.ensures c.repeats.ensures
    (λ few. let given = c.keep.ensures.same.given in let limit = c.keep.ensures.same.limit in omega (arith, few, given, limit))
    stream out k
