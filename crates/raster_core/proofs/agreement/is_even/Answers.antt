use Rattle.std.proofs.Common.{◌≡◌, ℕ, ◌+◌, ◌-◌, ◌^◌, ◌≤◌, ◌∙◌, sym, arith, Bool, true, false}
use Rattle.std.specs.Prelude.{bit_and}
use Rattle.std.proofs.lemmas.Bool.{eqb-true}
use Rattle.std.proofs.lemmas.Nat.{le_or_l, le_or_r, and_le_l, and_le_r}
use Rattle.raster_core.specs.Machine.Words.{word}
use Rattle.raster_core.proofs.WordsHaveOneColour.{dark, lit, in_all}
use Rattle.raster_core.proofs.WordsHoldPixels.{word_lt}
use Rattle.raster_core.proofs.agreement.is_even.Goals as goal

pub returns-then-second-eq0 : goal.returns-then-second-eq0
returns-then-second-eq0 c p place second before word even =
    let all = eqb-true _ _ even in
    let middle : c.args.before ≡ 0 = omega (arith, all, le_or_l c.args.before c.args.word) in
    let last : c.args.word ≡ 0 = omega (arith, all, le_or_r c.args.before c.args.word) in
    in_all p place false (dark p place 64 (sym second ∙ c.if-second-eq0.true)) (dark p (place + 64) 64 (sym before ∙ middle)) (dark p (place + 128) 64 (sym word ∙ last))

-- the greatest word in a conjunction
greatest : (x y most : ℕ) → bit_and x y ≡ most → x ≤ most → y ≤ most → (x ≡ most) × (y ≡ most)
greatest x y most e a b = (omega (arith, e, a, and_le_l x y), omega (arith, e, b, and_le_r x y))

below : (p : ℕ → Bool) (f x : ℕ) → x ≡ word p f 64 → x ≤ 2 ^ 64 - 1
below p f x e = let l = word_lt p f 64 in omega arith

pub returns : goal.returns
returns c p place second before word even =
    let all = eqb-true _ _ even in
    let a = below p place c.args.second second in
    let b = below p (place + 64) c.args.before before in
    let d = below p (place + 128) c.args.word word in
    let left : bit_and c.args.second c.args.before ≤ 2 ^ 64 - 1 = omega (arith, a, and_le_l c.args.second c.args.before) in
    let last = greatest (bit_and c.args.second c.args.before) c.args.word (2 ^ 64 - 1) all left d in
    let first = greatest c.args.second c.args.before (2 ^ 64 - 1) last.0 a b in
    in_all p place true (lit p place 64 (sym second ∙ first.0)) (lit p (place + 64) 64 (sym before ∙ first.1)) (lit p (place + 128) 64 (sym word ∙ last.1))
