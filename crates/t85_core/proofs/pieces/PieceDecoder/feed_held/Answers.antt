use Rattle.std.proofs.Common.{◌≡◌, ◌≤◌, ◌++◌, ◌+◌, ◌-◌, length, length-append, drop, sym, subst, ap, ◌∙◌, rules, arith}
use Rattle.t85_core.specs.Feeds.{held_bytes, IsFeed}
use Rattle.t85_core.specs.Private.Feeds.{Settles}
use Rattle.t85_core.specs.Pieces.{call_of}
use Rattle.t85_core.specs.Lent.{decoder_lent}
use Rattle.t85_core.proofs.BodiesDecode.PieceStands.{split_is}
use Rattle.t85_core.proofs.BodiesDecode.DecoderHoldsRest.{feeds, feeds_on}
use Rattle.t85_core.proofs.pieces.PieceDecoder.feed_held.Goals as goal

pub returns-then-not-goes_on-clause-feed : goal.returns-then-not-goes_on-clause-feed
returns-then-not-goes_on-clause-feed c =
    let piece_is = split_is c.args.piece.now c.split_at.result.0.now c.split_at.result.1.now c.min.result c.split_at.ensures.front c.split_at.ensures.back in
    let joined : c.split_at-2.result.0.now ≡ held_bytes c.args.held.now ++ c.split_at.result.0.now = c.split_at-2.ensures.front ∙ c.join-len.ensures.joined in
    subst (λ z. IsFeed (decoder_lent c.args.self.now c.args.lent.now) (held_bytes c.args.held.now) (held_bytes c.settle.new.self)
    (call_of z c.args.is_all c.settle.result (decoder_lent c.take-call.new.self c.take-call.new.lent))) (sym piece_is)
    (feeds (decoder_lent c.args.self.now c.args.lent.now) (decoder_lent c.take-call.new.self c.take-call.new.lent) (held_bytes c.args.held.now)
    (held_bytes c.settle.new.self) c.split_at.result.0.now c.split_at.result.1.now c.split_at-2.result.0.now c.ends_there.result c.args.is_all c.take-call.result c.settle.result joined
    c.take-call.ensures.call
    (subst (λ n. Settles c.split_at-2.result.0.now n c.take-call.result c.settle.result (held_bytes c.settle.new.self)) c.count-count.ensures.count c.settle.ensures)
    c.ends_there.ensures.yes c.ends_there.ensures.no (c.goes_on.ensures.no (search rules)))

pub returns-clause-feed : goal.returns-clause-feed
returns-clause-feed c =
    let piece_is = split_is c.args.piece.now c.split_at.result.0.now c.split_at.result.1.now c.min.result c.split_at.ensures.front c.split_at.ensures.back in
    let joined : c.split_at-2.result.0.now ≡ held_bytes c.args.held.now ++ c.split_at.result.0.now = c.split_at-2.ensures.front ∙ c.join-len.ensures.joined in
    let wants = c.goes_on.ensures.yes (search rules) in
    let few = c.take-call.ensures.call.few_left wants.0 in
    let long : length c.split_at-2.result.0.now ≡ length (held_bytes c.args.held.now ++ c.split_at.result.0.now) = ap length joined in
    let sum = length-append (held_bytes c.args.held.now) c.split_at.result.0.now in
    let over : length (held_bytes c.args.held.now) ≤ c.take-call.result.taken = omega (arith, few, long, sum, wants.1, c.min.ensures, c.split_at.ensures.front_len, c.split_at.ensures.back_len) in
    let rest : c.split_at-3.result.1.now ≡ drop (c.take-call.result.taken - length (held_bytes c.args.held.now)) (c.split_at.result.0.now ++ c.split_at.result.1.now) =
    c.split_at-3.ensures.back ∙ ap (λ n. drop n c.args.piece.now) (ap (λ n. c.take-call.result.taken - n) c.count-count.ensures.count)
    ∙ ap (drop (c.take-call.result.taken - length (held_bytes c.args.held.now))) piece_is in
    subst (λ z. IsFeed (decoder_lent c.args.self.now c.args.lent.now) (held_bytes c.args.held.now) (held_bytes c.feed_piece-last.new.held)
    (call_of z c.args.is_all (record { outcome = c.feed_piece-last.result.outcome; taken = length z - length c.split_at-3.result.1.now + c.feed_piece-last.result.taken })
    (decoder_lent c.feed_piece-last.new.self c.feed_piece-last.new.lent))) (sym piece_is)
    (feeds_on (decoder_lent c.args.self.now c.args.lent.now) (decoder_lent c.take-call.new.self c.take-call.new.lent) (decoder_lent c.feed_piece-last.new.self c.feed_piece-last.new.lent)
    (held_bytes c.args.held.now) (held_bytes c.feed_piece-last.new.held) c.split_at.result.0.now c.split_at.result.1.now c.split_at-2.result.0.now c.split_at-3.result.1.now c.ends_there.result
    c.args.is_all c.take-call.result c.feed_piece-last.result joined c.take-call.ensures.call wants.0 over rest c.feed_piece-last.ensures.feed)
