use Rattle.std.proofs.Common.{◌≡◌, ◌∙◌, None, ap, refl, rules}
use Rattle.t85_core.specs.Options.{fields_of}
use Rattle.t85_core.specs.Outcomes.{end_in}
use Rattle.libt85.specs.Decoder.{TellsCertain}
use Rattle.libt85.proofs.DecoderAnswers.{keeps_on, row_told}
use Rattle.libt85.proofs.DecoderIsCalled.{decoder_certain, told_within}
use Rattle.libt85.proofs.DecoderHoldsRows.{call_in}
use Rattle.libt85.proofs.WindowCoversMemory.{window_rows}
use Rattle.libt85.proofs.decoder.T85Decoder.take_row.Goals as goal

-- the certain rows, if the stream goes on
certain : (c : goal.After-limited_answer) → end_in c.feed-progress.result.outcome ≡ None → TellsCertain c.hold.new.self c.certain-certain.result
certain c going =
    decoder_certain c.headers.ensures c.hold.new.self c.args.header.now c.feed-progress.new.self c.certain-certain.result
    (rw (c.hold.ensures.same.header, c.keep.ensures.same.header) c.requires.may.header_of)
    (c.feed-progress.ensures.feed.fed.same ∙ ap fields_of c.requires.header) (rw c.hold.ensures.numbers c.keep.ensures.numbers)
    (c.certain-certain.ensures.certain (c.feed-progress.ensures.feed.fed.ended ∙ going))

pub returns-clause-answers : goal.returns-clause-answers
returns-clause-answers c =
    (row_told {kept = c.hold.new.self} {e = c.args.decoder.now} {e' = c.feed-progress.new.self} c.limited_answer.new.self _ c.headers.ensures
    (record {
      may = c.requires.may;
      head = search rules;
      long = c.requires.long;
      long' = search rules;
      header_is = c.requires.header;
      same = keeps_on c.keep.ensures.same c.hold.ensures.same;
      small = search rules;
      numbers = rw c.hold.ensures.numbers c.keep.ensures.numbers;
      held = c.hold.ensures.held;
      call = call_in c.args.decoder.now c.feed-progress.new.self c.resume-window.ensures.held
          (window_rows {window = c.feed-progress.new.window}
          (record { place_is = search rules; width_is = c.feed-progress.ensures.window.0 ∙ c.resume-window.ensures.width; rows_are = search rules }))
          (rw c.held-held.ensures at c.feed-progress.ensures.feed);
    })
    (certain c) refl (search rules) c.feed-progress.result.outcome refl c.limited_answer.ensures.told).1

pub returns-clause-within : goal.returns-clause-within
returns-clause-within c =
    told_within c.hold.new.self c.limited_answer.new.self c.certain-certain.result c.feed-progress.result.outcome c.limited_answer.result (certain c) c.limited_answer.ensures.told
