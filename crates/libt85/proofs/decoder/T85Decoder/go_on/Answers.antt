use Rattle.libt85.proofs.decoder.T85Decoder.go_on.Goals as goal

pub returns-in-0-clause-answers : goal.returns-in-0-clause-answers
returns-in-0-clause-answers c = c.take_header.ensures.answers c.args.window.now

pub returns-in-0-clause-header : goal.returns-in-0-clause-header
returns-in-0-clause-header c = c.take_header.ensures.header c.args.window.now
