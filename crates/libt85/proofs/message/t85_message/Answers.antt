use Rattle.std.proofs.Common.{◌≡◌, ◌++◌, ℕ, List, length, take, drop, min, ap, ◌∙◌, arith, subst}
use Rattle.std.proofs.lemmas.Grind.{common_steps}
use Rattle.libt85.proofs.message.t85_message.Goals as goal

put_over : (message text front : List ℕ) (count : ℕ) → front ≡ take count message → count ≡ min (length message) (length text) →
    front ++ drop count text ≡ take (length text) message ++ drop (length message) text
put_over message text front count f n =
    let a : take count message ≡ take (length text) message = grind (arith, common_steps) in
    let b : drop count text ≡ drop (length message) text = grind (arith, common_steps) in
    ap (λ l. l ++ drop count text) (f ∙ a) ∙ ap (λ l. take (length text) message ++ l) b

pub returns-clause-written : goal.returns-clause-written
returns-clause-written c =
    let text = c.args.text.now in
    subst (λ m. c.copy_from_slice.new.self ++ drop c.min-count.result text ≡ take (length text) m ++ drop (length m) text) c.message_of-message.ensures
    (put_over c.message_of-message.result.now text c.copy_from_slice.new.self c.min-count.result c.copy_from_slice.ensures.after c.min-count.ensures)
