-- The bytes after FF 06 and after FF 07.
use Rattle.std.proofs.Common.{cond, ◌&&◌, ◌≡◌, ◌≢◌, ◌<◌, ◌≤◌, ◌+◌, ◌^◌, ◌⊎◌, ℕ, true, false, List, [], ◌∷◌, ◌++◌, length, Some, None, nat_lt, nat_le, nat_eq, ◌∙◌, length-append, arith}
use Rattle.std.proofs.lemmas.Bool.Decides.{nat_tests}
use Rattle.byteorder.specs.Endian.{big_bytes, big_number}
use Rattle.byteorder.specs.Numbers.{big_number-reads_back}
use Rattle.t85_core.specs.Header.{Fields, is_variable}
use Rattle.t85_core.specs.Grammar.{is_valid_length}
use Rattle.t85_core.specs.declared.fault.Fault.TheVariants.{Truncated, MoveRefused, Changed}
use Rattle.t85_core.specs.Refusal.{Spot, length_fault, move_fault, comment_fault, is_legal_move}

pub row_of : (row : ℕ) (more : List ℕ) → row < 2 ^ 32 → big_number 4 (big_bytes 4 row ++ more) ≡ row
row_of row more h = big_number-reads_back 4 row more h

-- whether a move is legal, by its parts
is_legal_move-parts : (h : Fields) (row offset last : ℕ) (more : List ℕ) → row < 2 ^ 32 →
    is_legal_move h (big_bytes 4 row ++ offset ∷ last ∷ more) ≡ (nat_lt row h.l0 && nat_le offset h.mx && nat_eq last 0)
is_legal_move-parts h row offset last more small = rw (row_of row (offset ∷ last ∷ more) small)

illegal : (h : Fields) (row offset last : ℕ) → (h.l0 ≤ row) ⊎ (h.mx < offset) ⊎ (last ≢ 0) → (nat_lt row h.l0 && nat_le offset h.mx && nat_eq last 0) ≡ false
illegal h row offset last a = grind (arith, nat_tests)

pub move_refused : (h : Fields) (row offset last : ℕ) → row < 2 ^ 32 → (h.l0 ≤ row) ⊎ (h.mx < offset) ⊎ (last ≢ 0) →
    move_fault h 0 (big_bytes 4 row ++ offset ∷ last ∷ []) ≡ Some MoveRefused
move_refused h row offset last small a = rw (row_of row (offset ∷ last ∷ []) small, illegal h row offset last a)

-- less text than the length says
pub comment_cut : (n : ℕ) (passed : List ℕ) → n < 2 ^ 32 → length passed < n → comment_fault (big_bytes 4 n ++ passed) ≡ Some Truncated
comment_cut n passed small short =
    let numbered : nat_lt (length (big_bytes 4 n ++ passed)) 4 ≡ false = grind (arith, nat_tests) in
    let cut : nat_lt (length (big_bytes 4 n ++ passed)) (4 + n) ≡ true = grind (arith, nat_tests) in
    rw (numbered, row_of n passed small, cut)

-- a whole legal move has no fault
pub move_whole : (h : Fields) (row offset : ℕ) (more : List ℕ) → row < 2 ^ 32 → row < h.l0 → offset ≤ h.mx → move_fault h 0 (big_bytes 4 row ++ offset ∷ 0 ∷ more) ≡ None
move_whole h row offset more small low near =
    let long : nat_lt (length (big_bytes 4 row ++ offset ∷ 0 ∷ more)) 6 ≡ false = grind (arith, nat_tests) in
    let legal : (nat_lt row h.l0 && nat_le offset h.mx && nat_eq 0 0) ≡ true = grind (arith, nat_tests) in
    rw (long, row_of row (offset ∷ 0 ∷ more) small, legal)

-- a whole comment has no fault
pub comment_whole : (text more : List ℕ) → length text < 2 ^ 32 → comment_fault (big_bytes 4 (length text) ++ (text ++ more)) ≡ None
comment_whole text more small =
    let bytes : List ℕ = big_bytes 4 (length text) ++ (text ++ more) in
    let sum = length-append text more in
    let numbered : nat_lt (length bytes) 4 ≡ false = grind (arith, nat_tests) in
    let whole : nat_lt (length bytes) (4 + length text) ≡ false = grind (arith, nat_tests) in
    rw (numbered, row_of (length text) (text ++ more) small, whole)

-- after so many entities, and no height
abbrev pub unnamed_spot : ℕ → ℕ → Spot
unnamed_spot height k = record { height = height; entities = k; heights = 0 }

module _ (h : Fields) (height k : ℕ) (variable : is_variable h ≡ true) where
  -- what a whole valid height has, by whether it is the one in use
  length_by : (n : ℕ) (more : List ℕ) → n < 2 ^ 32 → is_valid_length h k n ≡ true → length_fault h (unnamed_spot height k) (big_bytes 4 n ++ more) ≡ cond (nat_eq n height) None (Some Changed)
  length_by n more small ok =
      let long : nat_lt (length (big_bytes 4 n ++ more)) 4 ≡ false = grind (arith, nat_tests) in
      rw (variable, long, row_of n more small, ok)

  -- the one in use has no fault
  pub length_whole : (more : List ℕ) → height < 2 ^ 32 → is_valid_length h k height ≡ true → length_fault h (unnamed_spot height k) (big_bytes 4 height ++ more) ≡ None
  length_whole more small ok = let same : nat_eq height height ≡ true = grind (arith, nat_tests) in length_by height more small ok ∙ rw same

  -- another has one
  pub length_changed : (n : ℕ) (more : List ℕ) → n < 2 ^ 32 → is_valid_length h k n ≡ true → n ≢ height → length_fault h (unnamed_spot height k) (big_bytes 4 n ++ more) ≡ Some Changed
  length_changed n more small ok other = let t : nat_eq n height ≡ false = grind (arith, nat_tests) in length_by n more small ok ∙ rw t
