use Rattle.qm_core.proofs.WritesJoin.{stuffed-append}
use Rattle.qm_core.proofs.OutputIsFront.{encoder_front}
use Rattle.std.proofs.Common.{ap, sym, ◌∙◌, ◌++◌}
use Rattle.qm_core.specs.Code.{stuffed}
use Rattle.qm_core.proofs.NoCodeIsShorter.{code-Lies}
use Rattle.qm_core.proofs.FrontBeginsCode.{front_begins}
use Rattle.qm_core.proofs.laws.stuffing.Goals as goal

pub returns-clause-stuffed_append : goal.returns-clause-stuffed_append
returns-clause-stuffed_append c = stuffed-append

pub returns-clause-pushed_is_front : goal.returns-clause-pushed_is_front
returns-clause-pushed_is_front c = λ e p pushed. encoder_front e

pub returns-clause-stuffed_code_begins : goal.returns-clause-stuffed_code_begins
returns-clause-stuffed_code_begins c = λ p bytes code f is.
    let r = front_begins p code f.front is.bytes (code-Lies p code is) f.begins in
    (stuffed r.0, ap stuffed r.1 ∙ (stuffed-append f.front r.0 ∙ ap (λ l. l ++ stuffed r.0) (sym f.is)))
