use Rattle.std.proofs.Common.{ℕ, ◌≡◌, ◌+◌, ◌*◌, ◌/◌, ◌%◌, arith, refl}
use Rattle.raster_core.specs.Machine.Registers.{before}
use Rattle.raster_core.proofs.RegistersTakeBytes.{packed_byte, moves_on}
use Rattle.raster_core.proofs.place.around_at.Goals as goal

wrapped : (a b : ℕ) → (a % 4294967296 % 16777216 + b) % 16777216 ≡ (a + b) % 16777216
wrapped a b = omega arith

pub returns-clause-is : goal.returns-clause-is
returns-clause-is c = λ row is.
    let i : ℕ = c.args.x / 8 in
    let k : ℕ = c.args.x % 8 in
    let x : 8 * i + k ≡ c.args.x = omega arith in
    let there : 8 * (i + 1) + 8 ≡ 8 * i + 16 = omega arith in
    let far : 8 * (i + 2) + 8 ≡ 8 * i + 24 = omega arith in
    let register : c.register_at-register.result ≡ before row (8 * i + 16) 24 = rw (c.register_at-register.ensures.is row is, there) refl in
    let next : c.byte_at-next.result ≡ before row (8 * i + 24) 8 = rw (c.byte_at-next.ensures.byte, is, packed_byte, far) refl in
    rw (wrapped, moves_on row i k c.register_at-register.result c.byte_at-next.result (omega arith) register next, x) refl
