use Rattle.std.proofs.Common.{◌^◌, arith}
use Rattle.qm_core.proofs.MultiplesShift.{multiple_shifted}
use Rattle.qm_core.proofs.RegistersShift.{shift_by, shift_of, span_whole}
use Rattle.qm_core.proofs.RegistersDouble.{room_shifted, low_whole, digits_shifted}
use Rattle.qm_core.proofs.encoder.shifting.raise.Goals as goal

pub overflow_sub-shift : goal.overflow_sub-shift
overflow_sub-shift c = (shift_of _ c.requires.short).few

pub returns-clause-large : goal.returns-clause-large
returns-clause-large c =
    let s = shift_of _ c.requires.short in
    let whole = span_whole _ c.requires.short in
    (rw whole s.from, omega (arith, whole), rw whole (multiple_shifted c.args.span 128 (2 ^ shift_by c.args.span) (omega arith) c.requires.short.2))

pub returns-clause-most : goal.returns-clause-most
returns-clause-most c = let s = shift_of _ c.requires.short in omega (arith, s.most)

pub returns-clause-room : goal.returns-clause-room
returns-clause-room c =
    rw (span_whole _ c.requires.short, low_whole _ _ _ c.requires.short c.requires.bits c.requires.room) (room_shifted _ _ _ (shift_by c.args.span) 8 c.requires.room)

pub returns-clause-fixed : goal.returns-clause-fixed
returns-clause-fixed c = λ h.
    rw (span_whole _ c.requires.short, low_whole _ _ _ c.requires.short c.requires.bits c.requires.room) (room_shifted _ _ _ (shift_by c.args.span) 7 h)

pub returns-clause-digits : goal.returns-clause-digits
returns-clause-digits c = λ p front d.
    rw (span_whole _ c.requires.short, low_whole _ _ _ c.requires.short c.requires.bits c.requires.room) (digits_shifted (shift_of _ c.requires.short) d)
