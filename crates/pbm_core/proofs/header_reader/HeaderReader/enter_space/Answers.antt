use Rattle.std.proofs.Common.{refl, inl, inr, ◌∷◌, []}
use Rattle.pbm_core.specs.Pbm.{IsWhite}
use Rattle.pbm_core.proofs.HeaderGrows.{enters_gap}
use Rattle.pbm_core.proofs.header_reader.HeaderReader.enter_space.Goals as goal

pub returns-else-byte-eq35 : goal.returns-else-byte-eq35
returns-else-byte-eq35 c front spaces is each =
    let white : IsWhite c.args.byte = elim c.requires [ inl h ↦ h | inr h ↦ absurd (c.if-byte-eq35.false h) ] in
    enters_gap c.args.self.form c.args.self.width front spaces (c.args.byte ∷ []) is each (inl (c.args.byte, white, refl))
