use Rattle.devices.proofs.DeviceHoldsBytes.{behind_read}
use Rattle.devices.proofs.buffered.read_behind.Goals as goal

pub returns-clause-ok : goal.returns-clause-ok
returns-clause-ok g c =
    behind_read c.read.result c.args.held c.args.bytes.now c.read.new.buf (g.R.Input.view c.args.input.now).remaining (g.R.Input.view c.read.new.self).remaining
    c.requires.within c.read.ensures.within c.read.ensures.bytes
