-- The effect of `feed` on a decoder: it consumes all bytes, and stores those that it cannot decode yet.
use Rattle.std.specs.Prelude.{⊤, ℕ, ◌≡◌, ◌≢◌, ◌≤◌, ◌⊎◌, List, [], ◌∷◌, ◌++◌, length, take, flat_map, IfSome}
use Rattle.t85_core.specs.Lent.{PieceView}
use Rattle.t85_core.specs.Pieces.{HasDecoded, Call, IsCallBy, StreamGoesOn, bytes_taken, row_given}
use Rattle.t85_core.specs.declared.pieces.Outcome.TheVariants as outcome
use Rattle.t85_core.specs.declared.pieces.held.HeldBytes.{HeldBytes}

-- the stored bytes
abbrev pub held_bytes : HeldBytes → List ℕ
held_bytes h = take h.len h.bytes

-- The state of a decoder that was fed these bytes: it has decoded all of them but the last ones, which are stored, and has
-- returned these rows, packed.
pub record HasFed (d : PieceView) (held text out : List ℕ) : Type 0 where
  pub decoded : List ℕ
  pub text_is : text ≡ decoded ++ held
  pub has : HasDecoded d decoded out

-- the effect of a call of `feed`: that of a call with a piece, for all bytes so far
pub record IsFeed (old : PieceView) (held held' : List ℕ) (call : Call) : Type 0 where
  pub fed : IsCallBy (HasFed old held) (HasFed call.new held') held' old call
  -- if more bytes are needed, all are consumed and stored
  pub all : call.answer ≡ outcome.More → call.taken ≡ length call.piece
  -- otherwise only bytes of earlier calls are stored, and then none of this call is consumed
  pub earlier : call.answer ≢ outcome.More → (held' ≡ []) ⊎ ((call.taken ≡ 0) × (length held' ≤ length held))
  -- after an end nothing changes
  pub stays : IfSome old.end (λ _. held' ≡ held)

-- a call of `feed`, and the bytes stored after it
pub record Feed : Type 0 where
  pub call : Call
  pub held : List ℕ

-- successive calls, with any pieces, up to the end
abbrev pub AreFeeds : PieceView → List ℕ → List Feed → Type 0
AreFeeds d held [] = ⊤
AreFeeds d held (feed ∷ feeds) = IsFeed d held feed.held feed.call × StreamGoesOn feed.call.answer × AreFeeds feed.call.new feed.held feeds

-- the decoder after them, and the stored bytes
abbrev pub decoder_fed : PieceView → List Feed → PieceView
decoder_fed d [] = d
decoder_fed d (feed ∷ feeds) = decoder_fed feed.call.new feeds

abbrev pub held_after : List ℕ → List Feed → List ℕ
held_after held [] = held
held_after held (feed ∷ feeds) = held_after feed.held feeds

-- However a stream is cut: after any calls, a new decoder was fed all bytes that they consumed, and has returned their rows.
abbrev pub FeedsTaken : Type 0
FeedsTaken =
    (d : PieceView) (feeds : List Feed) → HasDecoded d [] [] → AreFeeds d [] feeds →
    HasFed (decoder_fed d feeds) (held_after [] feeds) (flat_map (λ feed. bytes_taken feed.call) feeds) (flat_map (λ feed. row_given feed.call) feeds)
