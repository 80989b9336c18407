-- A call of a decoder of which nothing but numbers is kept.
use Rattle.std.proofs.Common.{◌≡◌, ℕ, Bool, List, [], ◌++◌, take, refl, sym, ap, ◌∙◌, append-nil}
use Rattle.qm_core.specs.Place.{Estimate}
use Rattle.raster_core.specs.Packed.{Held, rows_at}
use Rattle.raster_core.specs.Window.{current_place, held, width_of}
use Rattle.raster_core.specs.declared.window.Window.{Window}
use Rattle.t85_core.specs.declared.pieces.Outcome.{Outcome}
use Rattle.t85_core.specs.declared.pieces.Outcome.TheVariants as outcome
use Rattle.t85_core.specs.declared.pieces.PieceDecoder.{PieceDecoder}
use Rattle.t85_core.specs.declared.pieces.Progress.{Progress}
use Rattle.t85_core.specs.Lent.{decoder_over, decoder_view}
use Rattle.t85_core.specs.Numbers.{ArePieceNumbers}
use Rattle.t85_core.specs.Options.{fields_of}
use Rattle.t85_core.specs.Feeds.{HasFed, IsFeed, held_bytes}
use Rattle.t85_core.specs.Pieces.{HasDecoded, StreamGoesOn, call_of, given_with}
use Rattle.examples.specs.Kept.{Between, IsKept, KeptOn, row_kept}

-- the rows that the memory has
abbrev pub rows_in : Between → Held
rows_in b = rows_at b.kept.place b.header.xd b.memory

-- the numbers and the memory are those of a decoder and its window
pub record IsStored (b : Between) (d : PieceDecoder) (window : Window) : Type 0 where
  pub numbers : ArePieceNumbers b.kept.numbers d
  pub place : b.kept.place ≡ current_place window
  pub wide : width_of window ≡ b.header.xd
  pub memory : b.memory ≡ window.rows.now

stored_rows : {b : Between} {d : PieceDecoder} {window : Window} → IsStored b d window → held window ≡ rows_in b
stored_rows {b} {window = window} s =
    ap (λ p. rows_at p window.width window.rows.now) (sym s.place) ∙ ap (λ n. rows_at b.kept.place n window.rows.now) s.wide ∙ ap (λ m. rows_at b.kept.place b.header.xd m) (sym s.memory)

-- whatever decoder had these numbers, this one has taken and given the same, with this window
pub record IsResumed (b : Between) (d : PieceDecoder) (window : Window) : Type 0 where
  pub header_is : d.image.header ≡ b.header
  pub rows_are : held window ≡ rows_in b
  pub resumes : (e : PieceDecoder) (rows : Held) (learned : List Estimate) (text out : List ℕ) → HasDecoded (decoder_view e rows learned) text out → fields_of e.image.header ≡ fields_of b.header →
      ArePieceNumbers b.kept.numbers e → HasDecoded (decoder_view d rows learned) text out

module _ {old new : Between} {d d' : PieceDecoder} {window window' : Window} {piece : List ℕ} {is_all : Bool} {progress : Progress} (resumed : IsResumed old d window)
    (stored : IsStored new d' window') (header_is : new.header ≡ old.header)
    (called : IsFeed (decoder_over d window old.learned) (held_bytes old.kept.held) (held_bytes new.kept.held) (call_of piece is_all progress (decoder_over d' window' new.learned))) where
  stream_is : fields_of d.image.header ≡ fields_of old.header
  stream_is = ap fields_of resumed.header_is

  call : IsFeed (decoder_view d (rows_in old) old.learned) (held_bytes old.kept.held) (held_bytes new.kept.held) (call_of piece is_all progress (decoder_view d' (rows_in new) new.learned))
  call = rw (resumed.rows_are, stored_rows stored) at called

  has : {text out : List ℕ} → IsKept old text out → HasFed (decoder_view d (rows_in old) old.learned) (held_bytes old.kept.held) text out
  has {text} {out} k = record { decoded = k.has.decoded; text_is = k.has.text_is; has = resumed.resumes k.decoder _ _ k.has.decoded out k.has.has k.stream_is k.numbers_are }

  kept_of : {text out : List ℕ} → HasFed (decoder_view d' (rows_in new) new.learned) (held_bytes new.kept.held) text out → IsKept new text out
  kept_of h = record { decoder = d'; stream_is = call.fed.same ∙ stream_is ∙ ap fields_of (sym header_is); numbers_are = stored.numbers; has = h }

  goes_on : (o : Outcome) → progress.outcome ≡ o → StreamGoesOn o → (text out : List ℕ) → IsKept old text out → IsKept new (text ++ take progress.taken piece) (out ++ given_with o (row_kept new))
  goes_on outcome.Row e goes text out k = kept_of (call.fed.row e text out (has k))
  goes_on outcome.More e goes text out k = rw append-nil (kept_of (call.fed.more e text out (has k)).0)
  goes_on (outcome.Done height) e goes text out k = absurd goes
  goes_on (outcome.Broken fault) e goes text out k = absurd goes

  -- a call with a window over the memory
  pub kept_call : KeptOn old new piece is_all progress
  kept_call = record {
    bound = call.fed.bound;
    all = call.all;
    goes_on = goes_on progress.outcome refl;
    done = λ height e text out rest k follows. rw (← stream_is) ((call.fed.done height e).1 text out rest (has k) follows);
    broken = λ fault e text out rest k follows.
        rw stored.numbers.height_is
        (rw (← stream_is) (call.fed.broken fault e text out rest (has k) follows));
  }

-- before the first byte
pub kept_first : {b : Between} {d : PieceDecoder} {window : Window} → IsStored b d window → d.image.header ≡ b.header → held_bytes b.kept.held ≡ [] →
    HasDecoded (decoder_over d window b.learned) [] [] → IsKept b [] []
kept_first {d = d} stored header_is none has =
    record { decoder = d; stream_is = ap fields_of header_is; numbers_are = stored.numbers; has = record { decoded = []; text_is = sym none; has = rw (stored_rows stored) at has } }
