use Rattle.std.proofs.Common.{◌≡◌, refl, ap}
use Rattle.t85_core.proofs.ImagesEncode.NumbersFixEncoder.{one_view}
use Rattle.t85_core.proofs.encoding.by_row.RowEncoder.resume.Goals as goal

pub returns-in_err-encoder-clause-resumes : goal.returns-in_err-encoder-clause-resumes
returns-in_err-encoder-clause-resumes c e low plan ready same =
    let at = ready.able.somewhere in
    let found = c.in_err-encoder.ensures.same e.encoder at.0 at.1 at.2 ready.able.going (ap (λ n. n.encoder) same) in
    absurd (let bot : ⊥ = cc in bot)

pub returns-clause-resumes : goal.returns-clause-resumes
returns-clause-resumes c e low plan ready same l =
    let at = ready.able.somewhere in
    let found = c.in_ok-encoder.ensures.same e.encoder at.0 at.1 at.2 ready.able.going (ap (λ n. n.encoder) same) in
    let encoder : c.in_ok-encoder.encoder ≡ e.encoder = cc in
    one_view c.new-resumed.ensures.plan plan (ap (λ n. n.offset) same, ap (λ n. n.is_previous_typical) same) refl refl encoder
    (ap (λ n. n.rows) same) (ap (λ n. n.in_stripe) same) (ap (λ n. n.is_counted) same) (ap (λ n. n.named) same)
