use Rattle.std.proofs.Common.{refl, inl, inr, ◌∷◌, []}
use Rattle.pbm_core.specs.declared.fault.PbmFault.TheVariants.{TooTall}
use Rattle.pbm_core.specs.Pbm.{IsWhite}
use Rattle.pbm_core.specs.Refusal.{most_height}
use Rattle.pbm_core.proofs.HeaderGrows.{fault_grown, refused_number, size_lasts, height_refused, numbers_done, numbers_whole}
use Rattle.pbm_core.proofs.header_reader.HeaderReader.end_height.Goals as goal

pub returns-in-Err : goal.returns-in-Err
returns-in-Err c before is =
    let lasts = size_lasts most_height c.args.self.value TooTall c.in-Err.fault c.in-Err.ensures.fault (inr refl) in (
      fault_grown c.args.byte c.in-Err.fault is
          (λ rest n. refused_number rest c.args.byte n c.requires.space (height_refused c.args.self.width c.requires.width c.in-Err.ensures.fault)),
      lasts.0,
      lasts.1,
    )

pub returns : goal.returns
returns c before is =
    let white : IsWhite c.args.byte = elim c.requires.space [ inl h ↦ h | inr h ↦ absurd (c.if-byte-eq35.false h) ] in
    let n = c.in-Ok.ensures.number in
    let done = numbers_done c.args.self.form c.args.self.width c.args.self.value c.in-Ok.field-0 before is c.requires.width n.0 n.1 n.2 in
    c.whole.ensures _ done.is_width.some done.is_width.within done.is_height.some done.is_height.within
    (numbers_whole c.args.self.form c.args.self.width c.args.self.value before (c.args.byte ∷ []) done (inl (c.args.byte, white, refl)))
