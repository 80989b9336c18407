-- A decoder that holds what it can't decode yet.
use Rattle.std.proofs.Common.{◌≡◌, ◌≢◌, ◌⊎◌, inl, inr, ◌<◌, ◌≤◌, min, ◌+◌, ◌-◌, ℕ, Bool, true, false, List, [], ◌++◌, length, take, drop, Option, None, Some, refl, sym, ap, ◌∙◌, subst, append_assoc, append-nil, length-append, arith}
use Rattle.std.specs.Prelude.{IfSome}
use Rattle.std.proofs.lemmas.Bool.{cases_lt}
use Rattle.std.proofs.lemmas.List.{append_cancel_right, drop-append-le, drop_all, take-append-drop, take-append-le, length-take-le, length-drop}
use Rattle.std.proofs.Math.Seq.{take-append_seam, drop-append_seam, take-append-add, drop-append-add}
use Rattle.t85_core.specs.declared.fault.Fault.TheVariants.{Truncated}
use Rattle.t85_core.specs.declared.pieces.End.{End}
use Rattle.t85_core.specs.declared.pieces.End.TheVariants as end_type
use Rattle.t85_core.specs.declared.pieces.Outcome.TheVariants as outcome
use Rattle.t85_core.specs.declared.pieces.Progress.{Progress}
use Rattle.t85_core.specs.Height.{IsHeight}
use Rattle.t85_core.specs.Lent.{PieceView, waits_behind}
use Rattle.t85_core.specs.Outcomes.{end_in, end_told}
use Rattle.t85_core.specs.Pieces.{AwaitsHeight, HasDecoded, HandsOut, HoldsImage, IsCall, MayFollow, call_of, row_held, stream_of, stripes_ended}
use Rattle.t85_core.specs.Consumed.{ConsumesImage}
use Rattle.t85_core.specs.Feeds.{HasFed, IsFeed}
use Rattle.t85_core.specs.Private.Feeds.{Settles}
use Rattle.t85_core.proofs.BodiesDecode.WalkGoesOn.{nil_of}

-- what is held is written, and bytes behind it
pub joined_is : (n : ℕ) (a b x y held front : List ℕ) → length a ≡ n → a ≡ held → b ≡ front → take (n + length front) (take n (a ++ x) ++ (b ++ y)) ≡ held ++ front
joined_is n a b x y held front long same back =
    ap (λ k. take (n + length front) (take k (a ++ x) ++ (b ++ y))) (sym long)
    ∙ ap (λ z. take (n + length front) (z ++ (b ++ y))) (take-append_seam a x)
    ∙ ap (λ k. take (k + length front) (a ++ (b ++ y))) (sym long)
    ∙ take-append-add a (b ++ y) (length front)
    ∙ ap (λ z. a ++ take (length front) (z ++ y)) back
    ∙ ap (λ z. a ++ z) (take-append_seam front y)
    ∙ ap (λ z. z ++ front) same

-- all that a call left is held
pub settled_all : (bytes left : List ℕ) (count taken : ℕ) → left ≡ drop taken bytes → left ++ drop (length bytes - count) (drop count bytes) ≡ drop taken bytes
settled_all bytes left count taken e = ap (λ z. left ++ z) (drop_all (length bytes - count) (drop count bytes) (let long = length-drop count bytes in omega (arith, long))) ∙ append-nil left ∙ e

-- of the first bytes what it left is held
pub settled_first : (bytes left : List ℕ) (count taken : ℕ) → count ≤ length bytes → left ≡ drop (min taken count) (take count bytes) → left ++ drop (taken - count) (drop count bytes) ≡
    drop taken bytes
settled_first bytes left count taken within e = went (cases_lt taken count) where
  long : length (take count bytes) ≡ count
  long = length-take-le count bytes within

  went : (taken < count) ⊎ (count ≤ taken) → left ++ drop (taken - count) (drop count bytes) ≡ drop taken bytes
  went (inl fewer) =
      let low : min taken count ≡ taken = omega (arith, fewer) in
      let none : taken - count ≡ 0 = omega (arith, fewer) in
      ap (λ n. left ++ drop n (drop count bytes)) none
      ∙ ap (λ z. z ++ drop count bytes) (e ∙ ap (λ n. drop n (take count bytes)) low)
      ∙ sym (drop-append-le taken (take count bytes) (drop count bytes) (omega (arith, fewer, long)))
      ∙ ap (drop taken) (take-append-drop count bytes)
  went (inr all) =
      let low : min taken count ≡ count = omega (arith, all) in
      let sum : length (take count bytes) + (taken - count) ≡ taken = omega (arith, all, long) in
      ap (λ z. z ++ drop (taken - count) (drop count bytes)) (e ∙ ap (λ n. drop n (take count bytes)) low ∙ drop_all count (take count bytes) (omega (arith, long)))
      ∙ sym (drop-append-add (take count bytes) (drop count bytes) (taken - count))
      ∙ ap (λ z. drop (length (take count bytes) + (taken - count)) z) (take-append-drop count bytes)
      ∙ ap (λ n. drop n bytes) sum

-- of the first bytes nothing is held if a byte behind them was taken
pub settled_earlier : (bytes left : List ℕ) (count taken told : ℕ) → count ≤ length bytes → left ≡ drop (min taken count) (take count bytes) → told ≡ taken - count → (left ≡ []) ⊎
    ((told ≡ 0) × (length left ≤ count))
settled_earlier bytes left count taken told within e minus = went (cases_lt taken count) where
  long : length (take count bytes) ≡ count
  long = length-take-le count bytes within

  went : (taken < count) ⊎ (count ≤ taken) → (left ≡ []) ⊎ ((told ≡ 0) × (length left ≤ count))
  went (inl fewer) =
      let some : length left ≡ length (take count bytes) - min taken count = ap length e ∙ length-drop (min taken count) (take count bytes) in
      inr (omega (arith, fewer, minus), omega (arith, long, some))
  went (inr all) = let low : min taken count ≡ count = omega (arith, all) in inl (e ∙ ap (λ n. drop n (take count bytes)) low ∙ drop_all count (take count bytes) (omega (arith, long)))

-- an end needs no more bytes
told_no_more : (end : End) (n : ℕ) → end_told end n ≢ outcome.More
told_no_more end_type.Done n e = cc
told_no_more (end_type.Broken fault) n e = cc

-- what was held, and what was taken of a piece, is what was decoded, and what is held
cut_same : (held front left : List ℕ) (read taken : ℕ) → left ++ drop taken front ≡ drop read (held ++ front) → held ++ take taken front ≡ take read (held ++ front) ++ left
cut_same held front left read taken e =
    append_cancel_right (held ++ take taken front) (take read (held ++ front) ++ left) (drop taken front)
    (append_assoc held (take taken front) (drop taken front)
    ∙ ap (λ z. held ++ z) (take-append-drop taken front)
    ∙ sym (take-append-drop read (held ++ front))
    ∙ ap (λ z. take read (held ++ front) ++ z) (sym e)
    ∙ sym (append_assoc (take read (held ++ front)) left (drop taken front)))

-- A call with the stored bytes, and the front of a piece behind them: all of the piece, if more is needed.
module _ (old new : PieceView) (held left front back joined : List ℕ) (is_end is_all : Bool) (call told : Progress) (joined_is : joined ≡ held ++ front)
    (is : IsCall old (call_of joined is_end call new)) (settled : Settles joined (length held) call told left)
    (only : is_end ≡ true → (is_all ≡ true) × (back ≡ [])) (no : is_end ≡ false → is_all ≡ true → back ≡ [] → ⊥) (whole : call.outcome ≡ outcome.More → back ≡ []) where
  long : length joined ≡ length held + length front
  long = ap length joined_is ∙ length-append held front

  within : told.taken ≤ length front
  within = let bound = settled.bound in omega (arith, bound, long)

  behind : drop (length held) joined ≡ front
  behind = ap (drop (length held)) joined_is ∙ drop-append_seam held front

  rest : left ++ drop told.taken front ≡ drop call.taken (held ++ front)
  rest = ap (λ z. left ++ drop told.taken z) (sym behind) ∙ settled.rest ∙ ap (drop call.taken) joined_is

  text_same : (read : List ℕ) → (read ++ held) ++ take told.taken (front ++ back) ≡ (read ++ take call.taken joined) ++ left
  text_same read =
      append_assoc read held (take told.taken (front ++ back))
      ∙ ap (λ z. read ++ (held ++ z)) (take-append-le told.taken front back within)
      ∙ ap (λ z. read ++ z) (cut_same held front left call.taken told.taken rest)
      ∙ ap (λ z. read ++ (take call.taken z ++ left)) (sym joined_is)
      ∙ sym (append_assoc read (take call.taken joined) left)

  fed : {text out out' : List ℕ} (k : HasFed old held text out) → HasDecoded new (k.decoded ++ take call.taken joined) out' → HasFed new left (text ++ take told.taken (front ++ back)) out'
  fed {text} k has = record { decoded = k.decoded ++ take call.taken joined; text_is = ap (λ z. z ++ take told.taken (front ++ back)) k.text_is ∙ text_same k.decoded; has = has }

  part : {text out : List ℕ} (k : HasFed old held text out) → k.decoded ++ joined ≡ text ++ front
  part k = ap (λ z. k.decoded ++ z) joined_is ∙ sym (append_assoc k.decoded held front) ∙ ap (λ z. z ++ front) (sym k.text_is)

  all_text : {text out : List ℕ} (k : HasFed old held text out) (more : List ℕ) → (k.decoded ++ joined) ++ (back ++ more) ≡ (text ++ (front ++ back)) ++ more
  all_text {text} k more =
      ap (λ z. z ++ (back ++ more)) (part k)
      ∙ append_assoc text front (back ++ more)
      ∙ ap (λ z. text ++ z) (sym (append_assoc front back more))
      ∙ sym (append_assoc text (front ++ back) more)

  follows : {more : List ℕ} → MayFollow is_all more → MayFollow is_end (back ++ more)
  follows {more} f e = let k = only e in ap (λ z. z ++ more) k.1 ∙ f k.0

  told_by : {o : _} → told.outcome ≡ o → call.outcome ≡ o
  told_by e = sym settled.outcome_is ∙ e

  none : (end : End) → old.end ≡ Some end → (left ≡ held) × (told.taken ≡ 0)
  none end at =
      let a = is.again end at in
      let k = settled.none a.1 (λ e. told_no_more end old.height (sym a.0 ∙ e)) in (k.0 ∙ ap (take (length held)) joined_is ∙ take-append_seam held front, k.1)

  stays : (o : Option End) → old.end ≡ o → IfSome o (λ _. left ≡ held)
  stays None e = tt
  stays (Some end) e = (none end e).0

  all : told.outcome ≡ outcome.More → told.taken ≡ length (front ++ back)
  all e =
      let k = settled.all (told_by e) in
      let same : length (front ++ back) ≡ length front = ap length (ap (λ z. front ++ z) (whole (told_by e)) ∙ append-nil front) in
      omega (arith, k, long, same)

  ends : (b : Bool) → is_end ≡ b → is_all ≡ true → told.outcome ≢ outcome.More
  ends true e last more = is.ends e (told_by more)
  ends false e last more = no e last (whole (told_by more))

  pub feeds : IsFeed old held left (call_of (front ++ back) is_all told new)
  feeds = record {
    fed = record {
      same = is.same;
      bound = (let sum = length-append front back in omega (arith, within, sum));
      ends = ends is_end refl;
      few_left = λ e. (let k = all e in omega (arith, k));
      ended = is.ended ∙ ap end_in (sym settled.outcome_is);
      again = λ end at. let a = is.again end at in (settled.outcome_is ∙ a.0, (none end at).1, a.2);
      row = λ e text out k. fed k (is.row (told_by e) k.decoded out k.has);
      waits = λ e open_ marked text out more n k f i. is.waits (told_by e) open_ marked k.decoded out (back ++ more) n k.has (follows f)
          (subst (λ z. IsHeight (stream_of old) z n) (sym (all_text k more)) i);
      more = λ e text out k.
          let m = is.more (told_by e) k.decoded out k.has in (
            fed k m.0,
            (λ w. subst (λ z. HandsOut (stream_of old) z new.height Truncated out) (part k ∙ ap (λ z. text ++ z) (sym (ap (λ z. front ++ z) (whole (told_by e)) ∙ append-nil front))) (m.1 w)),
            (λ w. subst (λ z. AwaitsHeight (stream_of old) z (stripes_ended new) out) (part k ∙ ap (λ z. text ++ z) (sym (ap (λ z. front ++ z) (whole (told_by e)) ∙ append-nil front))) (m.2 w)),
          );
      done = λ n e. let w = is.done n (told_by e) in (
        w.0,
        (λ text out more k f. subst (λ z. HoldsImage (stream_of old) z n out) (all_text k more)
            (w.1 k.decoded out (back ++ more) k.has (follows f))),
      );
      consumed = λ n e text out more k f.
          let w = is.consumed n (told_by e) k.decoded out (back ++ more) k.has (follows f) in (
            w.0,
            ap (λ z. z ++ take told.taken (front ++ back)) k.text_is ∙ text_same k.decoded ∙ ap (λ z. z ++ left) (w.1 ∙ append-nil w.0),
            subst (ConsumesImage (stream_of old) (waits_behind new) n w.0) (all_text k more) w.2,
          );
      broken = λ fault e text out more k f. subst (λ z. HandsOut (stream_of old) z new.height fault out) (all_text k more) (is.broken fault (told_by e) k.decoded out (back ++ more) k.has (follows f));
    };
    all = all;
    earlier = λ e. settled.earlier (λ z. e (settled.outcome_is ∙ z));
    stays = stays old.end refl;
  }

-- A call with the stored bytes, and the front of a piece behind them, which needed more, and then one with the rest.
module _ (old mid new : PieceView) (held left front back joined rest : List ℕ) (is_end is_all : Bool) (call last : Progress) (joined_is : joined ≡ held ++ front)
    (is : IsCall old (call_of joined is_end call mid)) (wants : call.outcome ≡ outcome.More) (over : length held ≤ call.taken)
    (rest_is : rest ≡ drop (call.taken - length held) (front ++ back)) (next : IsFeed mid [] left (call_of rest is_all last new)) where
  abbrev piece : List ℕ
  piece = front ++ back

  abbrev count : ℕ
  count = call.taken - length held

  few : count ≤ length front
  few =
      let bound = is.bound in
      let long : length joined ≡ length held + length front = ap length joined_is ∙ length-append held front in
      omega (arith, bound, long)

  sum : length piece ≡ length front + length back
  sum = length-append front back

  left_long : length rest ≡ length piece - count
  left_long = ap length rest_is ∙ length-drop count piece

  taken_is : length piece - length rest + last.taken ≡ count + last.taken
  taken_is = omega (arith, few, sum, left_long)

  take_all : take (length piece - length rest + last.taken) piece ≡ take count piece ++ take last.taken rest
  take_all =
      let long : length (take count piece) ≡ count = length-take-le count piece (omega (arith, few, sum)) in
      ap (λ n. take n piece) (taken_is ∙ ap (λ n. n + last.taken) (sym long))
      ∙ ap (take (length (take count piece) + last.taken)) (sym (take-append-drop count piece))
      ∙ take-append-add (take count piece) (drop count piece) last.taken
      ∙ ap (λ z. take count piece ++ take last.taken z) (sym rest_is)

  taken_joined : take call.taken joined ≡ held ++ take count piece
  taken_joined =
      let same : call.taken ≡ length held + count = omega (arith, over) in
      ap (take call.taken) joined_is
      ∙ ap (λ n. take n (held ++ front)) same
      ∙ take-append-add held front count
      ∙ ap (λ z. held ++ z) (sym (take-append-le count front back few))

  module _ {text out : List ℕ} (k : HasFed old held text out) where
    abbrev decoded : List ℕ
    decoded = k.decoded ++ take call.taken joined

    mid_fed : HasFed mid [] decoded out
    mid_fed = record { decoded = decoded; text_is = sym (append-nil decoded); has = (is.more wants k.decoded out k.has).0 }

    begun : decoded ≡ text ++ take count piece
    begun = ap (λ z. k.decoded ++ z) taken_joined ∙ sym (append_assoc k.decoded held (take count piece)) ∙ ap (λ z. z ++ take count piece) (sym k.text_is)

    taken_text : decoded ++ take last.taken rest ≡ text ++ take (length piece - length rest + last.taken) piece
    taken_text = ap (λ z. z ++ take last.taken rest) begun ∙ append_assoc text (take count piece) (take last.taken rest) ∙ ap (λ z. text ++ z) (sym take_all)

    whole_text : decoded ++ rest ≡ text ++ piece
    whole_text = ap (λ z. decoded ++ z) rest_is ∙ ap (λ z. z ++ drop count piece) begun ∙ append_assoc text (take count piece) (drop count piece) ∙ ap (λ z. text ++ z) (take-append-drop count piece)

  never : (end : End) → old.end ≡ Some end → ⊥
  never end at = told_no_more end old.height (sym (is.again end at).0 ∙ wants)

  unended : (o : Option End) → old.end ≡ o → IfSome o (λ _. left ≡ held)
  unended None e = tt
  unended (Some end) e = absurd (never end e)

  emptied : (left ≡ []) ⊎ ((last.taken ≡ 0) × (length left ≤ 0)) → left ≡ []
  emptied (inl e) = e
  emptied (inr k) = nil_of left (let few = k.1 in omega (arith, few))

  pub feeds_on : IsFeed old held left (call_of (front ++ back) is_all (record { outcome = last.outcome; taken = length (front ++ back) - length rest + last.taken }) new)
  feeds_on = record {
    fed = record {
      same = next.fed.same ∙ is.same;
      bound = (let bound = next.fed.bound in omega (arith, few, sum, left_long, bound));
      ends = next.fed.ends;
      few_left = λ e. (let all = next.all e in omega (arith, few, sum, left_long, all));
      ended = next.fed.ended;
      again = λ end at. absurd (never end at);
      row = λ e text out k. subst (λ z. HasFed new left z (out ++ row_held new)) (taken_text k) (next.fed.row e (decoded k) out (mid_fed k));
      waits = λ e open_ marked text out more n k f i.
          next.fed.waits e open_ marked (decoded k) out more n (mid_fed k) f
          (subst (λ h. IsHeight h ((decoded k ++ rest) ++ more) n) (sym is.same) (subst (λ z. IsHeight (stream_of old) (z ++ more) n) (sym (whole_text k)) i));
      more = λ e text out k.
          let m = next.fed.more e (decoded k) out (mid_fed k) in (
            subst (λ z. HasFed new left z out) (taken_text k) m.0,
            (λ w. subst (λ h. HandsOut h (text ++ piece) new.height Truncated out) is.same (subst (λ z. HandsOut (stream_of mid) z new.height Truncated out) (whole_text k) (m.1 w))),
            (λ w. subst (λ h. AwaitsHeight h (text ++ piece) (stripes_ended new) out) is.same (subst (λ z. AwaitsHeight (stream_of mid) z (stripes_ended new) out) (whole_text k) (m.2 w))),
          );
      done = λ n e. let w = next.fed.done n e in (
        w.0,
        (λ text out more k f. subst (λ h. HoldsImage h ((text ++ piece) ++ more) n out) is.same
            (subst (λ z. HoldsImage (stream_of mid) (z ++ more) n out) (whole_text k) (w.1 (decoded k) out more (mid_fed k) f))),
      );
      consumed = λ n e text out more k f.
          let w = next.fed.consumed n e (decoded k) out more (mid_fed k) f in (
            w.0,
            sym (taken_text k) ∙ w.1,
            subst (λ h. ConsumesImage h (waits_behind new) n w.0 ((text ++ piece) ++ more)) is.same
                (subst (λ z. ConsumesImage (stream_of mid) (waits_behind new) n w.0 (z ++ more)) (whole_text k) w.2),
          );
      broken = λ fault e text out more k f. subst (λ h. HandsOut h ((text ++ piece) ++ more) new.height fault out) is.same
          (subst (λ z. HandsOut (stream_of mid) (z ++ more) new.height fault out) (whole_text k) (next.fed.broken fault e (decoded k) out more (mid_fed k) f));
    };
    all = λ e. (let all = next.all e in omega (arith, few, sum, left_long, all));
    earlier = λ e. inl (emptied (next.earlier e));
    stays = unended old.end refl;
  }
