-- The buffered bytes are written.
use Rattle.std.proofs.Common.{◌≡◌, inl, ℕ, List, [], ◌++◌, Option, None, Some, refl, sym, ap, ◌∙◌, subst, append-nil}
use Rattle.std.specs.Io.KnownBytes.{Consumes, Keeps, append_known}
use Rattle.t85_core.specs.declared.fault.Fault.{Fault}
use Rattle.t85_core.specs.declared.fault.Fault.TheVariants.{Write}
use Rattle.t85_core.specs.Header.{Fields}
use Rattle.t85_core.specs.RowSink.{held_of}
use Rattle.t85_core.specs.Failures.{reads_after, CountsFault}
use Rattle.t85_core.specs.States.DecodeStripes.{ImageRead, ImageCut}
use Rattle.t85_core.specs.Private.DecodeStripes.{ImageUnwritten}
use Rattle.t85_core.specs.Laws.{IsInUse}
use Rattle.t85_core.specs.Private.CoderLaws.{CoderLaws}
use Rattle.t85_core.specs.States.Passage.{passage}
use Rattle.t85_core.proofs.BytesJoin.InputHoldsBytes.{none_held}
use Rattle.t85_core.proofs.BodiesDecode.BytesDecideFirstRows.{whole_first}
use Rattle.t85_core.proofs.BytesJoin.CallsJoin.{Appends-keeps, beginning_all}

append_nothing : (a : Option (List ℕ)) → Keeps (append_known a []) a
append_nothing None = tt
append_nothing (Some a) = sym (append-nil a)

keeps_then : (a b c : Option (List ℕ)) → Keeps a b → Keeps b c → Keeps a c
keeps_then None b c p q = tt
keeps_then (Some a) None c p q = absurd p
keeps_then (Some a) (Some b) None p q = absurd q
keeps_then (Some a) (Some b) (Some c) p q = q ∙ p

-- nothing is held after that
pub all_handed : (old new : Option (List ℕ)) (bytes : List ℕ) (at end : ℕ) → at ≡ 0 → end ≡ 0 → Keeps old (append_known new (held_of bytes at end)) → Keeps old new
all_handed old new bytes at end a e k =
    keeps_then old (append_known new []) new
    (subst (λ z. Keeps old (append_known new z)) (none_held bytes (a ∙ sym e)) k) (append_nothing new)

pub image_handed : (h : Fields) (height : ℕ) (known known' text old new : Option (List ℕ)) → ImageRead h height (passage known known' text old) → Keeps old new →
    ImageRead h height (passage known known' text new)
image_handed h height known known' text old new i k = record {
  given = i.given;
  taken = i.taken;
  parts = i.parts;
  only = i.only;
  rows = i.rows;
  denotes = i.denotes;
  appended =
      Appends-keeps text old new _ i.appended k;
}

pub cut_handed : (h : Fields) (height : ℕ) (known known' text old new : Option (List ℕ)) (fault : Fault) → ImageCut h height (passage known known' text old) fault → Keeps old new →
    ImageCut h height (passage known known' text new) fault
cut_handed h height known known' text old new fault i k = record { rows = i.rows; ends = i.ends; appended = Appends-keeps text old new _ i.appended k }

pub begun_handed : (h : Fields) (height : ℕ) (known known' text old new : Option (List ℕ)) → ImageUnwritten h height (passage known known' text old) → Keeps old new →
    ImageUnwritten h height (passage known known' text new)
begun_handed h height known known' text old new i k = record {
  given = i.given;
  ahead = i.ahead;
  taken = i.taken;
  rows = i.rows;
  first = i.first;
  appended = record { front = i.appended.front; rest = i.appended.rest; text_is = i.appended.text_is; appends = Appends-keeps text old new _ i.appended.appends k };
}

-- an image that was written begins with all of its rows
pub image_begun : CoderLaws → (h : Fields) (height : ℕ) → IsInUse h height → (known known' text text' : Option (List ℕ)) → ImageRead h height (passage known known' text text') →
    ImageUnwritten h height (passage known known' text text')
image_begun q h height use_ known known' text text' i = record {
  given = i.given;
  ahead = [];
  taken = subst (Consumes known known') (sym (append-nil i.given)) i.taken;
  rows = i.rows;
  first = whole_first q h height use_ i.given i.rows i.denotes;
  appended = beginning_all i.appended;
}

-- ---- failed reads

pub counts_any : (old new : ℕ) (fault : Fault) → new ≡ reads_after fault old → CountsFault old new fault
counts_any old new Write e = inl e
counts_any old new f e = e

-- a buffer that is empty
pub text_unheld : (bytes : List ℕ) (at end : ℕ) (a : Option (List ℕ)) → at ≡ end → append_known a (held_of bytes at end) ≡ a
text_unheld bytes at end None e = refl
text_unheld bytes at end (Some a) e = ap (λ z. Some (a ++ z)) (none_held bytes e) ∙ ap Some (append-nil a)
