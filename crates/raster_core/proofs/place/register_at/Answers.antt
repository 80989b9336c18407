use Rattle.std.proofs.Common.{◌≡◌, ◌+◌, ◌*◌, ◌-◌, arith}
use Rattle.raster_core.specs.Machine.Registers.{before}
use Rattle.raster_core.proofs.RegistersTakeBytes.{packed_byte, first_byte, second_byte, three_bytes}
use Rattle.raster_core.proofs.place.register_at.Goals as goal

pub returns-then-i-eq0-clause-is : goal.returns-then-i-eq0-clause-is
returns-then-i-eq0-clause-is c = λ row is.
    let first : 8 * c.args.i + 8 ≡ 8 = omega arith in
    rw (c.byte_at-near.ensures.byte, is, packed_byte) (rw first (first_byte row))

pub returns-then-i-eq1-clause-is : goal.returns-then-i-eq1-clause-is
returns-then-i-eq1-clause-is c = λ row is.
    let near : c.byte_at-near.result ≡ before row (8 * c.args.i + 8) 8 = rw (c.byte_at-near.ensures.byte, is) (packed_byte row c.args.i) in
    let middle : c.byte_at-middle.result ≡ before row (8 * (c.args.i - 1) + 8) 8 = rw (c.byte_at-middle.ensures.byte, is) (packed_byte row (c.args.i - 1)) in
    let here : 8 * c.args.i + 8 ≡ 16 = omega arith in
    let there : 8 * (c.args.i - 1) + 8 ≡ 8 = omega arith in
    let near' = rw here at near in
    let middle' = rw there at middle in
    rw here (omega (arith, near', middle', second_byte row))

pub returns-clause-is : goal.returns-clause-is
returns-clause-is c = λ row is.
    let near : c.byte_at-near.result ≡ before row (8 * c.args.i + 8) 8 = rw (c.byte_at-near.ensures.byte, is) (packed_byte row c.args.i) in
    let middle : c.byte_at-middle.result ≡ before row (8 * (c.args.i - 1) + 8) 8 = rw (c.byte_at-middle.ensures.byte, is) (packed_byte row (c.args.i - 1)) in
    let far : c.byte_at-far.result ≡ before row (8 * (c.args.i - 2) + 8) 8 = rw (c.byte_at-far.ensures.byte, is) (packed_byte row (c.args.i - 2)) in
    let here : 8 * c.args.i + 8 ≡ 8 * (c.args.i - 2) + 24 = omega arith in
    let there : 8 * (c.args.i - 1) + 8 ≡ 8 * (c.args.i - 2) + 16 = omega arith in
    let near' = rw here at near in
    let middle' = rw there at middle in
    rw here (omega (arith, near', middle', far, three_bytes row (c.args.i - 2)))
