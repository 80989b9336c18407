use Rattle.std.proofs.Common.{refl, inl, inr}
use Rattle.pbm_core.proofs.header_reader.HeaderReader.read_letter.Goals as goal

pub returns-then-byte-ne80 : goal.returns-then-byte-ne80
returns-then-byte-ne80 c = (inl (inr (refl, c.args.byte, inl (c.if-byte-ne80.true, refl))), λ h. cc, λ h. cc)
