use Rattle.std.proofs.Common.{◌≡◌, ℕ, ◌+◌, ◌-◌, ◌*◌, ◌<◌, length, ap, subst, arith, get_or, refl}
use Rattle.raster_core.specs.Packed.{packed_row}
use Rattle.raster_core.specs.Machine.Words.{led, word}
use Rattle.raster_core.proofs.BytesMakeWords.{led_white, nothing, one_byte, byte_led, word_behind, word_filled}
use Rattle.raster_core.proofs.words.word_at.Goals as goal

pub returns-then-place-lt2 : goal.returns-then-place-lt2
returns-then-place-lt2 c line e = led_white line c.args.place (omega arith)

pub inside-init : goal.inside-init
inside-init c line e = nothing (led line) (64 * c.args.place)

pub across-init : goal.across-init
across-init c line e = nothing (led line) (64 * c.args.place)

next : (i : ℕ) → 8 * i + 8 ≡ 8 * (i + 1)
next i = omega arith

pub inside-preserved : goal.inside-preserved
inside-preserved c line e =
    let i : ℕ = c.inside.i in
    let byte : c.from.result ≡ get_or (packed_row line) (8 * (c.args.place - 2) + i) 0 =
    rw (c.from.ensures, e) refl in
    let read = byte_led line c.args.place i c.from.result c.if-place-lt2.false c.inside-test.true byte in
    rw (one_byte (led line) (64 * c.args.place) (8 * i) (omega arith) (c.inside.invariant line e) read, next) refl

pub across-preserved : goal.across-preserved
across-preserved c line e =
    let i : ℕ = c.across.i in
    let byte : c.from-in-across.result ≡ get_or (packed_row line) (8 * (c.args.place - 2) + i) 0 =
    rw (c.from-in-across.ensures, e) refl in
    let few : i < 8 = omega arith in
    let read = byte_led line c.args.place i c.from-in-across.result c.if-place-lt2.false few byte in
    rw (one_byte (led line) (64 * c.args.place) (8 * i) (omega arith) (c.across.invariant line e) read, next) refl

pub returns-after-across : goal.returns-after-across
returns-after-across c line e =
    let long : length c.args.row.now ≡ length (packed_row line) = ap length e in
    word_filled line c.args.place (length c.args.row.now - 8 * (c.args.place - 2)) (omega arith) (omega arith) (omega arith)
    (subst (λ n. c.across.word ≡ word (led line) (64 * c.args.place) (8 * n)) (omega arith) (c.across.invariant line e))

pub returns-else-first-row-2 : goal.returns-else-first-row-2
returns-else-first-row-2 c line e =
    let long : length c.args.row.now ≡ length (packed_row line) = ap length e in
    word_behind line c.args.place (omega arith) (omega arith)
