-- An end marker that is read after the rows that the bytes before it fix.
use Rattle.std.proofs.Common.{◌≡◌, ◌++◌, ◌∙◌, inl, inr, ℕ, Bool, List, [], Option, None, Some, refl, sym, ap, subst, append_assoc, append-nil, arith}
use Rattle.std.specs.Prelude.{flat_map}
use Rattle.qm_core.specs.Code.{stuffed}
use Rattle.qm_core.specs.declared.decoder.Decoder.{Decoder}
use Rattle.t85_core.specs.declared.fault.Fault.TheVariants.{Truncated}
use Rattle.t85_core.specs.declared.segments.Code as code_type
use Rattle.t85_core.specs.declared.segments.Code.TheVariants as code
use Rattle.t85_core.specs.declared.segments.atmove.Move as move
use Rattle.t85_core.specs.Header.{Fields}
use Rattle.t85_core.specs.Grammar.{Stripe, marker_bytes, stripe_bytes}
use Rattle.t85_core.specs.Laws.{IsInUse}
use Rattle.t85_core.specs.Lent.{Carried}
use Rattle.t85_core.specs.Pieces.{HandsOut, HoldsFixedRows}
use Rattle.t85_core.specs.Private.CoderLaws.{CoderLaws}
use Rattle.t85_core.specs.Private.Cut.{BegunRun}
use Rattle.t85_core.specs.States.Cut.{open_stripe}
use Rattle.raster_core.specs.declared.place.RowPlace.{RowPlace}
use Rattle.t85_core.specs.Private.PieceCode.{RowAtMarker, RowState, handed, MarkerFound}
use Rattle.t85_core.specs.States.PieceCode.{CodeOpen, CodeText, MarkerRead}
use Rattle.t85_core.specs.States.PieceStands.{MarkerAfterRows}
use Rattle.t85_core.specs.States.Pieces.{CutOff, HeadStands, CodeStands, InRowStands, rows_in, head_place, code_place}
use Rattle.t85_core.specs.States.Segments.{code_bytes}
use Rattle.t85_core.specs.States.SizedImage.{SizedImage, sized}
use Rattle.t85_core.proofs.BodiesDecode.PiecesGiveResults.{cut_hands_first}
use Rattle.t85_core.proofs.BodiesDecode.HeadComesInPieces.{head_cut}
use Rattle.t85_core.proofs.BodiesDecode.MarkerIsFound.{ahead_none, found_some}
use Rattle.t85_core.proofs.BodiesDecode.WalkTakesRows.{code_off, row_off, with_more}
use Rattle.t85_core.proofs.BodiesDecode.RowsFillStripe.{rows_full}

-- one row more
pub in_time_more : {image : SizedImage} {text out : List ℕ} (row : List ℕ) → MarkerAfterRows image text out → MarkerAfterRows image text (out ++ row)
in_time_more row k = record {
  front = k.front;
  reset = k.reset;
  text_is = k.text_is;
  first = k.first;
  more = k.more ++ row;
  out_is = ap (λ z. z ++ row) k.out_is ∙ append_assoc k.first k.more row;
  cut = k.cut;
}

-- no end marker was read
pub none_read : {first : Option code_type.Code} {marker : Option Bool} → first ≡ None → marker ≡ None → MarkerRead marker first → ⊥
none_read none unmarked (reset, inl e) = let k : None ≡ Some reset = sym unmarked ∙ e in let bot : ⊥ = cc in absurd bot
none_read none unmarked (reset, inr e) = let k : None ≡ Some (code.Marker reset) = sym none ∙ e in let bot : ⊥ = cc in absurd bot

pub unread : (first : Option code_type.Code) (marker : Option Bool) → (MarkerRead marker first → ⊥) → marker ≡ None
unread first None none = refl
unread first (Some reset) none = absurd (none (reset, inl refl))

-- it is read where the bytes before it fix just these rows
pub in_time_here : {image : SizedImage} {text out : List ℕ} (reset : Bool) → CutOff image text out Truncated → MarkerAfterRows image (text ++ marker_bytes reset) (out ++ [])
in_time_here {image} {text} {out} reset cut = record {
  front = text;
  reset = reset;
  text_is = refl;
  first = out;
  more = [];
  out_is = refl;
  cut = cut;
}

-- a stripe whose code is empty
pub in_time_empty : {h : Fields} {entities : ℕ} {given : Bool} {at : Option move.Move} {carried : Carried} {text out : List ℕ} → CoderLaws → IsInUse h h.yd →
    HeadStands (sized h h.yd) (head_place entities given at carried) text out → (c : code_type.Code) → MarkerRead None (Some c) →
    MarkerAfterRows (sized h h.yd) (text ++ code_bytes c) (out ++ [])
in_time_empty q use_ s (code.Byte b) (reset, inl e) = absurd (let bot : ⊥ = cc in bot)
in_time_empty q use_ s (code.Byte b) (reset, inr e) = absurd (let bot : ⊥ = cc in bot)
in_time_empty {h} {text = text} {out = out} q use_ s (code.Marker reset) marked =
    in_time_here reset
    (subst (λ z. CutOff (sized h h.yd) z out Truncated) (append-nil text)
    (head_cut s q use_ [] [] Truncated refl (record { given = []; taken = refl; has_fault = λ height. refl; at_end = λ _. refl })))

-- after the last row of a stripe
pub in_time_found : {h : Fields} {height entities : ℕ} {given : Bool} {at : Option move.Move} {row : ℕ} {first : Option code_type.Code} {marker : Option Bool} {carried : Carried} {d : Decoder}
    {text out : List ℕ}
    (s : CodeStands (sized h height) (head_place entities given at carried) (code_place row first marker d) text out) → CoderLaws → IsInUse h height → row ≡ rows_in h height entities →
    (MarkerRead marker first → ⊥) → (p p' : List ℕ) (reset : Bool) →
    (m : MarkerFound s.read.answers s.code p p' reset) → MarkerAfterRows (sized h height) (text ++ m.given) out
in_time_found {h} {height} {entities} {row = row} {first = first} {marker = marker} {d = d} {text = text} {out = out} s q use_ all none p p' reset m = record {
  front = s.before ++ stuffed m.code;
  reset = reset;
  text_is = sym (with_more s m.given) ∙ ap (λ z. s.before ++ z) m.text_is ∙ sym (append_assoc s.before (stuffed m.code) (marker_bytes reset));
  first = out;
  more = [];
  out_is = sym (append-nil out);
  cut = subst (λ z. CutOff (sized h height) z out Truncated) (append-nil (s.before ++ stuffed m.code))
      (code_off s.head (stuffed m.code) (s.before ++ stuffed m.code) out refl q use_ [] m.code Truncated s.read.rows s.read.flags (record {
        some = found_some first (ahead_none first marker none) s.read.answers s.extra s.code was_open p p' reset m;
        small = m.small;
        rest = [];
        unread = [];
        text_is = sym (append-nil (stuffed m.code ++ []));
        broken = λ h spot moves. refl;
        counted = refl;
        at_end = λ _. refl;
      }) begun s.read.appended);
} where
  was_open : CodeOpen first s.read.answers s.extra s.code
  was_open = subst (λ z. CodeText first z s.read.answers s.extra s.code) (unread first marker none) s.code_is

  begun : BegunRun (open_stripe h s.head.stripes.next s.head.passed.segments) (rows_in h height entities) m.code s.read.rows s.read.flags
  begun = subst (λ z. BegunRun (open_stripe h s.head.stripes.next s.head.passed.segments) (rows_in h height entities) z s.read.rows s.read.flags) (sym m.agrees.is)
      (rows_full h s.head.stripes.next s.head.passed.segments s.read.answers s.read.rows s.read.flags s.read.last s.read.so_far q (rows_in h height entities) m.agrees.rest d
      (s.read.many ∙ all) s.read.stands was_open.going m.agrees.bytes)

-- in a row that waits at the end marker
pub in_time_row : {h : Fields} {height entities : ℕ} {given : Bool} {at : Option move.Move} {row : ℕ} {first : Option code_type.Code} {marker : Option Bool} {carried : Carried} {d : Decoder}
    {place : RowPlace} {text out : List ℕ}
    (s : InRowStands (sized h height) (head_place entities given at carried) (code_place row first marker d) place text out) → CoderLaws → IsInUse h height → {left : RowState} {p : List ℕ} →
    (m : RowAtMarker (open_stripe h s.head.stripes.next s.head.passed.segments) s.shape row left (handed s.began out s.code) p) → MarkerAfterRows (sized h height) (text ++ m.waits.given) out
in_time_row {h} {height} {entities} {text = text} {out = out} s q use_ m = record {
  front = text ++ m.front;
  reset = m.reset;
  text_is = ap (λ z. text ++ z) m.given_is ∙ sym (append_assoc text m.front (marker_bytes m.reset));
  first = out;
  more = [];
  out_is = sym (append-nil out);
  cut = row_off s q use_ m.front Truncated (m.cut (rows_in h height entities) (let few = s.few in omega (arith, few)));
}

-- ---- the rows that were returned

pub fixed_rows : {h : Fields} {text out : List ℕ} {stripes : List Stripe} → IsInUse h h.yd → text ≡ flat_map stripe_bytes stripes → MarkerAfterRows (sized h h.yd) text out →
    HoldsFixedRows h stripes out
fixed_rows {h} {text} {out} {stripes} use_ text_is k = record {
  front = k.front;
  reset = k.reset;
  bytes_are = sym text_is ∙ k.text_is;
  first = k.first;
  more = k.more;
  out_is = k.out_is;
  hands_out = subst (λ z. HandsOut h z h.yd Truncated k.first) (append-nil k.front) (cut_hands_first h k.front k.first [] Truncated use_ (λ e. let bot : ⊥ = cc in bot) (λ _. refl) k.cut);
}
