use Rattle.std.proofs.Common.{inl, inr, refl, rules}
use Rattle.libt85.proofs.EncoderIsCalled.{none_refused, none_sized, resumed}
use Rattle.libt85.proofs.encoder.T85Encoder.resume.Goals as goal
use Rattle.libt85.proofs.encoder.T85Encoder.resume.Goals.{then-self-eq0-via-then-self-eq0, then-self-eq0-via-else-self-eq0+then-self-gt-MOST_WIDTH, then-self-eq0-via-else-self-eq0+else-self-gt-MOST_WIDTH+then-self-eq0-2}

pub returns-then-self-eq0 : goal.returns-then-self-eq0
returns-then-self-eq0 c = elim c.then-self-eq0.branch [
  | then-self-eq0-via-then-self-eq0 w ↦ none_sized c.args.self.now (inl (search rules))
  | then-self-eq0-via-else-self-eq0+then-self-gt-MOST_WIDTH w ↦ none_sized c.args.self.now (inr (inl (search rules)))
  | then-self-eq0-via-else-self-eq0+else-self-gt-MOST_WIDTH+then-self-eq0-2 w ↦ none_sized c.args.self.now (inr (inr (search rules)))
]

pub returns-in-Ok : goal.returns-in-Ok
returns-in-Ok c =
    let engine = c.resume.ensures in
    resumed {result = c.resume.result} (record {
      sized = engine.size;
      has_numbers = engine.numbers;
      settings_are = c.in-Ok.ensures.judged;
      numbers_are = c.numbers.ensures;
      width_is = refl;
      height_is = refl;
      ready = engine.ready;
      going = engine.going;
      plan = engine.plan;
      resumes = engine.resumes;
    })

pub returns-in-Err : goal.returns-in-Err
returns-in-Err c = none_refused c.args.self.now c.in-Err.ensures.judged
