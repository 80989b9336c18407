-- The bytes of a stream that were sent, over several calls.
use Rattle.std.proofs.Common.{◌≤◌, ℕ, List, [], ◌++◌, Option, None, Some, refl, sym, ap, ◌∙◌, append_assoc, append-nil}
use Rattle.std.specs.Io.KnownBytes.{Appends, Keeps, append_known}
use Rattle.devices.specs.Device.{AppendsBeginning}
use Rattle.t85_core.specs.RowSink.{known_length}
use Rattle.t85_core.specs.States.Sent.{Origin, Sends, SendsBeginning, here, behind}
use Rattle.t85_core.proofs.BytesJoin.OutputHoldsBytes.{grows_with, beginning_handed}
use Rattle.t85_core.proofs.BytesJoin.CallsJoin.{Appends-more, Appends-keeps, beginning_all}

pub Sends-more : {o : Origin} {b c : Option (List ℕ)} {xs : List ℕ} (ys : List ℕ) → Sends o b xs → Appends b c ys → Sends o c (xs ++ ys)
Sends-more {o} {b} {c} ys p q = record {
  more = p.more ++ ys;
  appended = Appends-more o.text b c p.more ys p.appended q;
  all = rw p.all (append_assoc o.gone p.more ys);
}

pub Sends-keeps : {o : Origin} {b c : Option (List ℕ)} {xs : List ℕ} → Sends o b xs → Keeps b c → Sends o c xs
Sends-keeps {o} {b} {c} p k = record { more = p.more; appended = Appends-keeps o.text b c p.more p.appended k; all = p.all }

-- a beginning of what is after a whole
pub sends_after : {o : Origin} {b c : Option (List ℕ)} {xs ys : List ℕ} → Sends o b xs → AppendsBeginning b c ys → SendsBeginning o c (xs ++ ys)
sends_after {xs = xs} p q = record {
  front = xs ++ q.front;
  rest = q.rest;
  text_is = rw (q.text_is, ← append_assoc);
  sends = Sends-more q.front p q.appends;
}

-- of a longer text, too
pub sends_longer : {o : Origin} {b : Option (List ℕ)} {xs : List ℕ} (ys : List ℕ) → SendsBeginning o b xs → SendsBeginning o b (xs ++ ys)
sends_longer ys q = record { front = q.front; rest = q.rest ++ ys; text_is = rw q.text_is (append_assoc q.front q.rest ys); sends = q.sends }

-- all of it
pub sends_all : {o : Origin} {b : Option (List ℕ)} {xs : List ℕ} → Sends o b xs → SendsBeginning o b xs
sends_all {xs = xs} p = record { front = xs; rest = []; text_is = sym (append-nil xs); sends = p }

-- no byte is lost
pub sends_grows : {o : Origin} {b : Option (List ℕ)} {xs : List ℕ} → Sends o b xs → known_length o.text ≤ known_length b
sends_grows {o} {b} p = grows_with o.text b p.more p.appended

-- what was written of what was sent
pub sends_handed : {o : Origin} {out : Option (List ℕ)} {xs : List ℕ} (held : List ℕ) → known_length o.text ≤ known_length out → Sends o (append_known out held) xs →
    SendsBeginning o out xs
sends_handed {o} {out} held grows p =
    let q = beginning_handed out held grows (beginning_all p.appended) in
    record {
      front = o.gone ++ q.front;
      rest = q.rest;
      text_is = p.all ∙ ap (λ z. o.gone ++ z) q.text_is ∙ sym (append_assoc o.gone q.front q.rest);
      sends = record { more = q.front; appended = q.appends; all = refl };
    }

pub beginning_sent : {o : Origin} {out : Option (List ℕ)} {xs : List ℕ} (held : List ℕ) → known_length o.text ≤ known_length out → SendsBeginning o (append_known out held) xs →
    SendsBeginning o out xs
beginning_sent held grows p =
    let q = sends_handed held grows p.sends in
    record { front = q.front; rest = q.rest ++ p.rest; text_is = p.text_is ∙ ap (λ z. z ++ p.rest) q.text_is ∙ append_assoc q.front q.rest p.rest; sends = q.sends }

-- from the first byte on
pub sent_here : {a b : Option (List ℕ)} {xs : List ℕ} → Appends a b xs → Sends (here a) b xs
sent_here {xs = xs} p = record { more = xs; appended = p; all = refl }

pub here_sent : {a b : Option (List ℕ)} {xs : List ℕ} → Sends (here a) b xs → Appends a b xs
here_sent {a} {b} p = rw p.all p.appended

-- nothing more than what went elsewhere
pub sent_behind : {a : Option (List ℕ)} (xs : List ℕ) → Appends a a [] → Sends (behind xs a) a xs
sent_behind xs none = record { more = []; appended = none; all = sym (append-nil xs) }

pub appends_none : (a : Option (List ℕ)) → Appends a a []
appends_none None = tt
appends_none (Some a) = sym (append-nil a)
