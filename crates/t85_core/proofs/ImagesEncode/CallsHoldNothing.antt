-- The calls of a row encoder, which hold nothing back.
use Rattle.std.proofs.Common.{◌≡◌, ◌≤◌, ◌<◌, ◌*◌, inl, inr, ℕ, Bool, List, ◌++◌, ap, ◌∙◌, append_assoc, Option}
use Rattle.std.specs.Io.KnownBytes.{Keeps, append_known}
use Rattle.raster_core.specs.Packed.{Held}
use Rattle.t85_core.specs.RowSink.{known_length}
use Rattle.t85_core.specs.States.Sent.{Origin, Sends, behind}
use Rattle.t85_core.specs.States.RowStream.{StreamCut, StreamFront}
use Rattle.t85_core.specs.States.ByRow.{RowView, Stands, Waits, IsStart, IsLined, move_bytes}
use Rattle.t85_core.specs.RowImage.{Image}
use Rattle.t85_core.proofs.BytesJoin.BytesAreSent.{Sends-keeps, sends_grows, sends_handed, sent_behind, appends_none}

-- if no stripe is in progress, with another window or other destinations of the bytes
waits_at : {image : Image} {rows : List (List Bool)} {v : RowView} {window window' : Held} {origin origin' : Origin} {text text' : Option (List ℕ)} (w : Waits image rows v window origin text) →
    (w.i * image.settings.stripe_rows < image.limit → IsStart image.settings image.width w.at v window') → Sends origin' text' w.front → Waits image rows v window' origin' text'
waits_at w on_course sent = record {
  plan_is = w.plan_is;
  come = w.come;
  i = w.i;
  at = w.at;
  front = w.front;
  stripes = w.stripes;
  in_stripe = w.in_stripe;
  codes = w.codes;
  names_to = w.names_to;
  on_course = on_course;
  sent = sent;
}

module _ (image : Image) (rows : List (List Bool)) (v : RowView) (window : Held) (origin : Origin) (text : Option (List ℕ)) where
  -- the bytes so far
  bytes_of : Stands image rows v window origin text → List ℕ
  bytes_of (inl w) = w.front
  bytes_of (inr r) = r.0.front ++ (move_bytes image.settings image.width r.0.at ++ r.0.pushed)

  sends_of : (so : Stands image rows v window origin text) → Sends origin text (bytes_of so)
  unfolding bytes_of
  sends_of (inl w) = w.sent
  sends_of (inr r) = r.0.sent

  -- where they went elsewhere
  resent : {origin' : Origin} {text' : Option (List ℕ)} (so : Stands image rows v window origin text) → Sends origin' text' (bytes_of so) → Stands image rows v window origin' text'
  unfolding bytes_of
  resent (inl w) sent = inl (waits_at w w.on_course sent)
  resent (inr (r, some, few)) sent = inr (
    record {
      plan_is = r.plan_is;
      come = r.come;
      i = r.i;
      whole = r.whole;
      part = r.part;
      all = r.all;
      at = r.at;
      front = r.front;
      stripes = r.stripes;
      in_stripe = r.in_stripe;
      few = r.few;
      pushed = r.pushed;
      running = r.running;
      names_to = r.names_to;
      none_named = r.none_named;
      counts = r.counts;
      sent = sent;
    },
    some,
    few,
  )

  -- what was held back was written
  pub stands_kept : (text' : Option (List ℕ)) → Keeps text text' → Stands image rows v window origin text → Stands image rows v window origin text'
  stands_kept text' k so = resent so (Sends-keeps (sends_of so) k)

  -- no byte was taken away
  pub stands_grown : Stands image rows v window origin text → known_length origin.text ≤ known_length text
  stands_grown so = sends_grows (sends_of so)

  -- the state also holds behind the bytes sent
  pub stands_elsewhere : Stands image rows v window origin text → (bytes : List ℕ) × Sends origin text bytes
      × ((text' : Option (List ℕ)) → Stands image rows v window (behind bytes text') text')
  stands_elsewhere so = (bytes_of so, sends_of so, λ text'. resent so (sent_behind (bytes_of so) (appends_none text')))

module _ (image : Image) (rows : List (List Bool)) (origin : Origin) (mid text' : Option (List ℕ)) where
  pub front_cut : Keeps mid text' → StreamFront image rows origin mid → StreamCut image rows origin text'
  front_cut k f = record { bytes = f.bytes; sent = Sends-keeps f.sent k; begins = λ raster b. (f.begun raster b).begins }

module _ (image : Image) (rows : List (List Bool)) (v : RowView) (old new : Held) (origin : Origin) (text : Option (List ℕ)) (stays : IsLined old → new ≡ old) where
  -- the padding of a window that has lines is 0
  pub stands_cleared : Stands image rows v old origin text → Stands image rows v new origin text
  stands_cleared (inl w) = inl (waits_at w (λ within. (let on = w.on_course within in rw (stays (_, on.is_held.lines_are)) on)) w.sent)
  stands_cleared (inr r) = rw (stays (_, r.0.running.is_held.lines_are)) (inr r)

-- what was written of a beginning is a beginning
pub cut_written : {image : Image} {rows : List (List Bool)} {origin : Origin} {out : Option (List ℕ)} (held : List ℕ) → known_length origin.text ≤ known_length out →
    StreamCut image rows origin (append_known out held) → StreamCut image rows origin out
cut_written held grows c =
    let p = sends_handed held grows c.sent in
    record {
      bytes = p.front;
      sent = p.sends;
      begins = λ raster b. (let q = c.begins raster b in record { rest = p.rest ++ q.rest; bytes_are = q.bytes_are ∙ ap (λ z. z ++ q.rest) p.text_is ∙ append_assoc p.front p.rest q.rest });
    }

-- the same output
pub moved : {W : Type 0} {o o' : W} (contents : W → Option (List ℕ)) (P : Option (List ℕ) → Type 0) → o ≡ o' → P (contents o) → P (contents o')
moved contents P same p = rw (← same) p
