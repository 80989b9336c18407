-- Known contents over several writes.
use Rattle.std.proofs.Common.{ℕ, List, ◌++◌, Option, Some, ap, ◌∙◌, append_assoc, rules}
use Rattle.std.specs.Io.KnownBytes.{Appends, Keeps}

pub Appends-more : (a b c : Option (List ℕ)) (xs ys : List ℕ) → Appends a b xs → Appends b c ys → Appends a c (xs ++ ys)
Appends-more (Some a) (Some b) (Some c) xs ys p q = q ∙ ap (λ z. z ++ ys) p ∙ append_assoc a xs ys
Appends-more a b c xs ys p q = search rules

pub Appends-keeps : (a b c : Option (List ℕ)) (xs : List ℕ) → Appends a b xs → Keeps b c → Appends a c xs
Appends-keeps (Some a) (Some b) (Some c) xs p q = q ∙ p
Appends-keeps a b c xs p q = search rules
