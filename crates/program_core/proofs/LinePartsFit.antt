-- A line that is put together from parts that find room.
use Rattle.std.proofs.Common.{◌≡◌, ◌≤◌, ◌<◌, ◌+◌, ◌++◌, ◌∙◌, ◌==◌, ℕ, List, [], length, refl, ap, arith, le-leb, length-append, subst, sym}
use Rattle.std.proofs.lemmas.Grind.{common_steps}
use Rattle.std.proofs.lemmas.List.Sums.{fails_before_first}
use Rattle.std.specs.List.{before_first}
use Rattle.std.specs.Prelude.{codes}
use Rattle.std.specs.Fmt.Cut.{cut_to}
use Rattle.program_core.specs.Message.{fault_line, IsInOneLine}

-- a part that has room is not cut
cut_to_fits : (room : ℕ) (text : List ℕ) → length text ≤ room → cut_to room text ≡ text
unfolding cut_to
cut_to_fits room text fits = rw (le-leb (length text) room fits) refl

-- what is put after a text where there is room for it
pub record IsPut (old part new : List ℕ) (most : ℕ) : Type 0 where
  pub puts : length old + most < 128 → new ≡ old ++ cut_to most part

put_whole : {old part new : List ℕ} {most : ℕ} → IsPut old part new most → length part ≤ most → length old + most < 128 → new ≡ old ++ part
put_whole {old} {part} {most = most} p fits has_room = p.puts has_room ∙ ap (λ (t : List ℕ). old ++ t) (cut_to_fits most part fits)

-- the four parts of a fault's line, one after another
pub line_whole : {program text none named colon told line : List ℕ} → none ≡ [] → IsPut none program named 24 → IsPut named (codes ": ") colon 2 → IsPut colon text told 96 →
    IsPut told (codes "\n") line 1
    → length program ≤ 24 → length text ≤ 96 → line ≡ fault_line program text
line_whole {program} {text} {named = named} {colon} {told} empty first second third fourth short fits =
    let has_name : named ≡ program = put_whole first short (rw empty (omega arith)) ∙ rw empty refl in
    let has_colon : colon ≡ program ++ codes ": " = put_whole second (omega arith) (rw has_name (omega arith)) ∙ rw has_name refl in
    let colon_long : length colon ≡ length program + 2 = rw has_colon (length-append program (codes ": ")) in
    let has_text : told ≡ (program ++ codes ": ") ++ text = put_whole third fits (omega arith) ∙ rw has_colon refl in
    let text_long : length told ≡ length program + 2 + length text = rw has_text (length-append (program ++ codes ": ") text ∙ ap (λ (n : ℕ). n + length text) (length-append program (codes ": "))) in
    put_whole fourth (omega arith) (omega arith) ∙ rw has_text refl

before_in_one_line : (text : List ℕ) → IsInOneLine (before_first (λ b. b == 10) text)
before_in_one_line text k d within = let none = fails_before_first (λ b. b == 10) text k d (grind (arith, common_steps)) in grind (arith, common_steps)

-- the text before the first line feed has none, and is no longer
pub in_one_line : (text : List ℕ) {line : List ℕ} → line ≡ before_first (λ b. b == 10) text → IsInOneLine line
in_one_line text is = subst IsInOneLine (sym is) (before_in_one_line text)

pub short_line : (text : List ℕ) {line : List ℕ} → line ≡ before_first (λ b. b == 10) text → length text ≤ 96 → length line ≤ 96
short_line text is short = rw is (grind (arith, common_steps))
