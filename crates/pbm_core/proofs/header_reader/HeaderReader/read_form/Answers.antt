use Rattle.std.proofs.Common.{refl, inl, inr}
use Rattle.pbm_core.proofs.header_reader.HeaderReader.read_form.Goals as goal

pub returns-in-None : goal.returns-in-None
returns-in-None c = (inl (inr (refl, c.args.byte, inr (inl (c.in-None.ensures.none refl, refl)))), λ h. cc, λ h. cc)
