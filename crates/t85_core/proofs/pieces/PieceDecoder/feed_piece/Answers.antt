use Rattle.std.proofs.Common.{[], append-nil, refl, subst}
use Rattle.t85_core.specs.Feeds.{held_bytes, IsFeed}
use Rattle.t85_core.specs.Pieces.{call_of}
use Rattle.t85_core.specs.Lent.{decoder_lent}
use Rattle.t85_core.proofs.BodiesDecode.DecoderHoldsRest.{feeds}
use Rattle.t85_core.proofs.pieces.PieceDecoder.feed_piece.Goals as goal

pub returns-clause-feed : goal.returns-clause-feed
returns-clause-feed c =
    subst (λ z. IsFeed (decoder_lent c.args.self.now c.args.lent.now) [] (held_bytes c.settle.new.self)
    (call_of z c.args.is_all c.settle.result (decoder_lent c.take-call.new.self c.take-call.new.lent))) (append-nil c.args.piece.now)
    (feeds (decoder_lent c.args.self.now c.args.lent.now) (decoder_lent c.take-call.new.self c.take-call.new.lent) []
    (held_bytes c.settle.new.self) c.args.piece.now [] c.args.piece.now c.args.is_all c.args.is_all c.take-call.result c.settle.result refl c.take-call.ensures.call c.settle.ensures
    (λ e. (e, refl)) (λ e all _. (let bot : ⊥ = cc in bot)) (λ _. refl))
