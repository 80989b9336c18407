-- The code of a stripe that comes in pieces.
use Rattle.std.proofs.Common.{◌≡◌, ◌≤◌, ◌⊎◌, inl, inr, ℕ, Bool, true, false, List, [], ◌∷◌, ◌++◌, length, Option, None, Some, refl, sym, ap, ◌∙◌, subst, append_assoc, append-nil, length-append, arith}
use Rattle.std.specs.Prelude.{IfSome}
use Rattle.std.proofs.lemmas.List.{append_cancel_left}
use Rattle.qm_core.specs.Code.{stuffed, IsBytes}
use Rattle.qm_core.specs.Source.{bytes_of, heard_of, IsClosed, Gives, before_fault}
use Rattle.qm_core.specs.declared.source.Pulled.{Pulled}
use Rattle.qm_core.specs.declared.source.Pulled.TheVariants.{Byte, End, Fault}
use Rattle.qm_core.specs.declared.source.Heard.{Heard}
use Rattle.qm_core.specs.declared.source.Heard.TheVariants.{More, Ended, Stopped}
use Rattle.t85_core.specs.declared.fault.Fault as fault
use Rattle.t85_core.specs.declared.fault.Fault.TheVariants.{Truncated}
use Rattle.t85_core.specs.declared.segments.Code.{Code}
use Rattle.t85_core.specs.declared.segments.Code.TheVariants as code
use Rattle.t85_core.specs.Grammar.{marker_bytes}
use Rattle.t85_core.specs.Failures.{counted_as}
use Rattle.t85_core.specs.States.Segments.{code_bytes, IsByteOrMarker}
use Rattle.t85_core.specs.Private.Segments.{RestFault}
use Rattle.t85_core.specs.Private.Entity.{EntityView, GivesEnd, GivesFault, StopsAtMarker}
use Rattle.t85_core.specs.States.PieceCode.{ahead_bytes, CodeOpen, EntityEnded, CodeText, MarkerRead}
use Rattle.t85_core.specs.Private.PieceCode.{CodeBreaks}
use Rattle.t85_core.proofs.BytesJoin.CodesAreStuffed.{stuff, stuffed_cons, stuffed_append, one_stuff, second}
use Rattle.t85_core.proofs.BodiesParse.BodyHasOneReading.{marker_no_code}
use Rattle.t85_core.proofs.BodiesDecode.EntityIsPulled.{Pull, LastIs, Parted, pulls_part}
use Rattle.t85_core.proofs.BodiesDecode.RowsFillStripe.{bytes_append}

-- ---- what was read ahead

-- a byte alone
one_stuffed : (b : ℕ) (x : List ℕ) → stuffed (b ∷ []) ++ x ≡ stuff b ++ x
one_stuffed b x = stuffed_cons b [] x

-- of bytes of the code, what was read ahead is the first
first_taken : (c : Code) (b : ℕ) (bs p p1 : List ℕ) → code_bytes c ++ p ≡ stuffed (b ∷ bs) ++ p1 → (p ≡ stuffed bs ++ p1) × (code_bytes c ++ stuffed bs ≡ stuffed (b ∷ bs))
first_taken (code.Byte a) b bs p p1 e =
    let k = one_stuff a b p (stuffed bs ++ p1) (sym (one_stuffed a p) ∙ e ∙ stuffed_cons b bs p1) in (
      k.1,
      one_stuffed a (stuffed bs) ∙ ap (λ z. stuff z ++ stuffed bs) k.0 ∙ go b bs,
    ) where
      go : (b : ℕ) (bs : List ℕ) → stuff b ++ stuffed bs ≡ stuffed (b ∷ bs)
      go b bs = ap (λ z. stuff b ++ z) (sym (append-nil (stuffed bs))) ∙ sym (stuffed_cons b bs []) ∙ append-nil (stuffed (b ∷ bs))
first_taken (code.Marker reset) b bs p p1 e = absurd (marker_no_code reset p b (stuffed bs ++ p1) (e ∙ stuffed_cons b bs p1))

-- of an end marker, what was read ahead is all
marker_taken : (c : Code) (reset : Bool) (p p1 : List ℕ) → code_bytes c ++ p ≡ marker_bytes reset ++ p1 → (p ≡ p1) × (code_bytes c ≡ marker_bytes reset)
marker_taken (code.Byte a) reset p p1 e = absurd (marker_no_code reset p1 a p (sym e ∙ one_stuffed a p))
marker_taken (code.Marker true) true p p1 e = ((cc), refl)
marker_taken (code.Marker false) false p p1 e = ((cc), refl)
marker_taken (code.Marker true) false p p1 e = absurd (let k : 3 ≡ 2 = second e in omega (arith, k))
marker_taken (code.Marker false) true p p1 e = absurd (let k : 2 ≡ 3 = second e in omega (arith, k))

-- what of a piece is taken with bytes of the code, and with what comes after them
pub record Taken (first : Option Code) (p p1 all : List ℕ) : Type 0 where
  pub given : List ℕ
  pub taken : p ≡ given ++ p1
  pub same : ahead_bytes first ++ given ≡ all

taken_bytes : (first : Option Code) (bs tail p p1 : List ℕ) → (first ≡ None) ⊎ (1 ≤ length bs) → ahead_bytes first ++ p ≡ stuffed bs ++ (tail ++ p1) → Taken first p p1 (stuffed bs ++ tail)
taken_bytes None bs tail p p1 some e = record { given = stuffed bs ++ tail; taken = e ∙ sym (append_assoc (stuffed bs) tail p1); same = refl }
taken_bytes (Some c) [] tail p p1 (inl none) e = absurd (let bot : ⊥ = cc in bot)
taken_bytes (Some c) [] tail p p1 (inr some) e = absurd (omega (arith, some))
taken_bytes (Some c) (b ∷ bs) tail p p1 some e =
    let k = first_taken c b bs p (tail ++ p1) e in record {
      given = stuffed bs ++ tail;
      taken = k.0 ∙ sym (append_assoc (stuffed bs) tail p1);
      same = sym (append_assoc (code_bytes c) (stuffed bs) tail) ∙ ap (λ z. z ++ tail) k.1;
    }

taken_marker : (first : Option Code) (bs : List ℕ) (reset : Bool) (p p1 : List ℕ) → ahead_bytes first ++ p ≡ stuffed bs ++ (marker_bytes reset ++ p1) →
    Taken first p p1 (stuffed bs ++ marker_bytes reset)
taken_marker None bs reset p p1 e = taken_bytes None bs (marker_bytes reset) p p1 (inl refl) e
taken_marker (Some c) [] reset p p1 e = let k = marker_taken c reset p p1 e in record { given = []; taken = k.0; same = append-nil (code_bytes c) ∙ k.1 }
taken_marker (Some c) (b ∷ bs) reset p p1 e = taken_bytes (Some c) (b ∷ bs) (marker_bytes reset) p p1 (inr (omega arith)) e

-- ---- answers one after another

closed_right : (xs ys : List Pulled) → heard_of xs ≡ More → IsClosed (xs ++ ys) → IsClosed ys
closed_right [] ys h c = c
closed_right (Byte b ∷ xs) ys h c = closed_right xs ys h c
closed_right xs ys h c = absurd (let bot : ⊥ = cc in bot)

-- nothing is asked after an end
pub nothing_after : (xs ys : List Pulled) → heard_of xs ≡ Ended → IsClosed (xs ++ ys) → ys ≡ []
nothing_after (Byte b ∷ xs) ys h c = nothing_after xs ys h c
nothing_after (End ∷ []) ys h c = c
nothing_after xs ys h c = absurd (let bot : ⊥ = cc in bot)

heard_right : (xs ys : List Pulled) → heard_of xs ≡ More → heard_of (xs ++ ys) ≡ heard_of ys
heard_right [] ys h = refl
heard_right (Byte b ∷ xs) ys h = heard_right xs ys h
heard_right xs ys h = absurd (let bot : ⊥ = cc in bot)

-- without the fault
bytes_again : (xs : List Pulled) → IsClosed xs → bytes_of (before_fault xs) ≡ bytes_of xs
bytes_again [] c = refl
bytes_again (Byte b ∷ xs) c = ap (λ z. b ∷ z) (bytes_again xs c)
bytes_again (End ∷ xs) c = subst (λ z. bytes_of (before_fault z) ≡ bytes_of z) (sym c) refl
bytes_again (Fault ∷ xs) c = sym (ap bytes_of c)

heard_again : (xs : List Pulled) → heard_of xs ≡ Stopped → heard_of (before_fault xs) ≡ More
heard_again [] h = refl
heard_again (Byte b ∷ xs) h = heard_again xs h
heard_again (End ∷ xs) h = absurd (let bot : ⊥ = cc in bot)
heard_again (Fault ∷ xs) h = refl

pub again_right : (xs ys : List Pulled) → heard_of xs ≡ More → before_fault (xs ++ ys) ≡ xs ++ before_fault ys
again_right [] ys h = refl
again_right (Byte b ∷ xs) ys h = ap (λ z. Byte b ∷ z) (again_right xs ys h)
again_right xs ys h = absurd (let bot : ⊥ = cc in bot)

-- ---- a call

module _ {T : Type 0} (standing : T → EntityView) (failed : T → ℕ) (s t : T) (first first1 : Option Code) (marker marker1 : Option Bool) (p p1 : List ℕ)
    (left_s : (standing s).left ≡ ahead_bytes first ++ p) (left_t : (standing t).left ≡ ahead_bytes first1 ++ p1)
    (first_s : (standing s).first ≡ first) (first_t : (standing t).first ≡ first1) (marker_s : (standing s).marker ≡ marker) (marker_t : (standing t).marker ≡ marker1)
    (fault_s : (standing s).fault ≡ None)
    (answers more : List Pulled) (text : List ℕ) (closed : IsClosed (answers ++ more)) (small : IsBytes (bytes_of (answers ++ more))) (gives : Gives (Pull standing failed) s more t) where
  abbrev A : List ℕ
  A = bytes_of answers

  abbrev B : List ℕ
  B = bytes_of more

  both_are : bytes_of (answers ++ more) ≡ A ++ B
  both_are = bytes_append answers more

  no_extra : bytes_of (answers ++ more) ++ [] ≡ A ++ B
  no_extra = append-nil (bytes_of (answers ++ more)) ∙ both_are

  -- the text so far, with what is taken now
  grown : (given all : List ℕ) → text ≡ stuffed (A ++ []) ++ ahead_bytes first → ahead_bytes first ++ given ≡ stuffed B ++ all → text ++ given ≡ stuffed (bytes_of (answers ++ more)) ++ all
  grown given all text_is same =
      ap (λ z. z ++ given) text_is
      ∙ append_assoc (stuffed (A ++ [])) (ahead_bytes first) given
      ∙ ap (λ z. stuffed z ++ (ahead_bytes first ++ given)) (append-nil A)
      ∙ ap (λ z. stuffed A ++ z) same
      ∙ sym (append_assoc (stuffed A) (stuffed B) all)
      ∙ ap (λ z. z ++ all) (sym (stuffed_append A B) ∙ ap stuffed (sym both_are))

  -- the code goes on
  abbrev pub Went : Type 0
  Went = (given : List ℕ) × (p ≡ given ++ p1) × CodeText first1 marker1 (answers ++ more) [] (text ++ given)

  -- The code waits for what follows: all that is not taken begins an escape.
  abbrev pub Waits : Type 0
  Waits = (given : List ℕ) × (p ≡ given ++ p1) × CodeOpen first1 (before_fault (answers ++ more)) [] (text ++ given)

  -- The code waits at its end marker, before which these bytes are.
  pub record WaitsAtMarker : Type 0 where
    pub waits : Waits
    pub reset : Bool
    pub ahead : first1 ≡ Some (code.Marker reset)
    pub unanswered : marker1 ≡ None
    pub front : List ℕ
    pub given_is : waits.0 ≡ front ++ marker_bytes reset
    pub breaks : CodeBreaks text front (bytes_of (answers ++ more)) Truncated

  module _ (o : CodeOpen first answers [] text) (none : marker ≡ None) where
    part : Parted standing s more t
    part = pulls_part standing failed more s t (closed_right answers more o.going closed) (marker_s ∙ none) fault_s gives

    going : heard_of (answers ++ more) ≡ heard_of more
    going = heard_right answers more o.going

    -- what was taken of bytes
    taken_mid : ahead_bytes first ++ p ≡ stuffed B ++ (standing part.mid).left
    taken_mid = sym left_s ∙ part.went.taken

    -- what was read ahead at the last byte
    mid_ahead : ((1 ≤ length B) × ((standing part.mid).first ≡ None)) ⊎ ((B ≡ []) × ((standing part.mid).first ≡ first))
    mid_ahead = by part.went.begun where
      by : ((1 ≤ length B) × ((standing part.mid).first ≡ None)) ⊎ ((B ≡ []) × ((standing part.mid).first ≡ (standing s).first)) → ((1 ≤ length B) × ((standing part.mid).first ≡ None)) ⊎
          ((B ≡ []) × ((standing part.mid).first ≡ first))
      by (inl b) = inl b
      by (inr b) = inr (b.0, b.1 ∙ first_s)

    -- there are bytes, if nothing is ahead
    some_bytes : (standing part.mid).first ≡ None → 1 ≤ length (A ++ B)
    some_bytes none_ahead = by mid_ahead where
      by : ((1 ≤ length B) × ((standing part.mid).first ≡ None)) ⊎ ((B ≡ []) × ((standing part.mid).first ≡ first)) → 1 ≤ length (A ++ B)
      by (inl b) = let long = length-append A B in omega (arith, long, b.0)
      by (inr b) = let old = o.begun (sym b.1 ∙ none_ahead) in let long = length-append A B in let long' = length-append A [] in omega (arith, old, long, long')

    -- bytes came first, or nothing was ahead
    none_or_some : (standing part.mid).first ≡ None → (first ≡ None) ⊎ (1 ≤ length B)
    none_or_some none_ahead = by mid_ahead where
      by : ((1 ≤ length B) × ((standing part.mid).first ≡ None)) ⊎ ((B ≡ []) × ((standing part.mid).first ≡ first)) → (first ≡ None) ⊎ (1 ≤ length B)
      by (inl b) = inr b.0
      by (inr b) = inl (sym b.1 ∙ none_ahead)

    went_more : heard_of more ≡ More → part.mid ≡ t → Went
    went_more e last = by_begun mid_ahead where
      open_ : marker1 ≡ None
      open_ = sym marker_t ∙ ap (λ z. (standing z).marker) (sym last) ∙ part.went.marker

      mid_first : (standing part.mid).first ≡ first1
      mid_first = ap (λ z. (standing z).first) last ∙ first_t

      taken : ahead_bytes first ++ p ≡ stuffed B ++ (ahead_bytes first1 ++ p1)
      taken = taken_mid ∙ ap (λ z. stuffed B ++ z) (ap (λ z. (standing z).left) last ∙ left_t)

      made : (given : List ℕ) → p ≡ given ++ p1 → ahead_bytes first ++ given ≡ stuffed B ++ ahead_bytes first1 → (IfSome first1 IsByteOrMarker) → (first1 ≡ None → 1 ≤ length (A ++ B)) → Went
      made given at same ahead begun = (
        given,
        at,
        subst (λ m. CodeText first1 m (answers ++ more) [] (text ++ given)) (sym open_) (record {
          going = going ∙ e;
          bytes = small;
          small = tt;
          ahead = ahead;
          begun = λ n. subst (λ z. 1 ≤ length z) (sym no_extra) (begun n);
          text_is = grown given (ahead_bytes first1) o.text_is same ∙ ap (λ z. stuffed z ++ ahead_bytes first1) (sym (append-nil (bytes_of (answers ++ more))));
        }),
      )

      by_begun : ((1 ≤ length B) × ((standing part.mid).first ≡ None)) ⊎ ((B ≡ []) × ((standing part.mid).first ≡ first)) → Went
      by_begun (inl b) =
          let none1 : first1 ≡ None = sym mid_first ∙ b.1 in
          let k = taken_bytes first B [] p p1 (inr b.0) (taken ∙ ap (λ z. stuffed B ++ (ahead_bytes z ++ p1)) none1) in
          made k.given k.taken (k.same ∙ ap (λ z. stuffed B ++ ahead_bytes z) (sym none1)) (subst (λ z. IfSome z IsByteOrMarker) (sym none1) tt) (λ n. some_bytes b.1)
      by_begun (inr b) =
          let same : first1 ≡ first = sym mid_first ∙ b.1 in
          let all : ahead_bytes first ++ p ≡ ahead_bytes first ++ p1 = taken ∙ ap (λ z. stuffed z ++ (ahead_bytes first1 ++ p1)) b.0 ∙ ap (λ z. ahead_bytes z ++ p1) same in
          made [] (append_cancel_left (ahead_bytes first) p p1 all) (append-nil (ahead_bytes first) ∙ ap ahead_bytes (sym same) ∙ ap (λ z. stuffed z ++ ahead_bytes first1) (sym b.0))
          (subst (λ z. IfSome z IsByteOrMarker) (sym same) o.ahead)
          (λ n. some_bytes (mid_first ∙ n))

    went_end : heard_of more ≡ Ended → GivesEnd (standing part.mid) (standing t) → Went
    went_end e g =
        let ended : marker1 ≡ Some g.reset = sym marker_t ∙ g.marker in
        let behind : first1 ≡ None = sym first_t ∙ g.behind in
        let left : (standing t).left ≡ p1 = left_t ∙ ap (λ z. ahead_bytes z ++ p1) behind in
        let k = taken_marker first B g.reset p p1 (taken_mid ∙ ap (λ z. stuffed B ++ z) (g.taken ∙ ap (λ z. marker_bytes g.reset ++ z) left)) in (
          k.given,
          k.taken,
          subst (λ m. CodeText first1 m (answers ++ more) [] (text ++ k.given)) (sym ended) (record {
            ended = going ∙ e;
            bytes = small;
            none = refl;
            behind = behind;
            text_is = grown k.given (marker_bytes g.reset) o.text_is k.same;
          }),
        )

    went_open : (heard_of (answers ++ more) ≡ Stopped → ⊥) → Went
    went_open unstopped = by_last (heard_of more) refl part.last where
      by_last : (k : Heard) → heard_of more ≡ k → LastIs standing part.mid k t → Went
      by_last More e last = went_more e last
      by_last Ended e last = went_end e last
      by_last Stopped e last = absurd (unstopped (going ∙ e))

    -- a code that waits at its end marker does not read it
    unread_open : (heard_of (answers ++ more) ≡ Stopped → ⊥) → (standing s).waits ≡ true → (MarkerRead marker first → ⊥) → MarkerRead marker1 first1 → ⊥
    unread_open unstopped waits unread = by_last (heard_of more) refl part.last where
      by_begun : marker1 ≡ None → ((1 ≤ length B) × (first1 ≡ None)) ⊎ ((B ≡ []) × (first1 ≡ first)) → MarkerRead marker1 first1 → ⊥
      by_begun open_ b (reset, inl e) = let z : None ≡ Some reset = sym open_ ∙ e in let bot : ⊥ = cc in bot
      by_begun open_ (inl b) (reset, inr e) = let z : None ≡ Some (code.Marker reset) = sym b.1 ∙ e in let bot : ⊥ = cc in bot
      by_begun open_ (inr b) (reset, inr e) = unread (reset, inr (sym b.1 ∙ e))

      by_last : (k : Heard) → heard_of more ≡ k → LastIs standing part.mid k t → MarkerRead marker1 first1 → ⊥
      by_last More e last =
          let same : (standing part.mid).first ≡ first1 = ap (λ z. (standing z).first) last ∙ first_t in
          by_begun (sym marker_t ∙ ap (λ z. (standing z).marker) (sym last) ∙ part.went.marker) (subst (λ z. ((1 ≤ length B) × (z ≡ None)) ⊎ ((B ≡ []) × (z ≡ first))) same mid_ahead)
      by_last Ended e g = λ _. let z : true ≡ false = sym (part.went.waits ∙ waits) ∙ g.goes_on in let bot : ⊥ = cc in bot
      by_last Stopped e last = absurd (unstopped (going ∙ e))

    last_stopped : heard_of (answers ++ more) ≡ Stopped → GivesFault (standing part.mid) (standing t) ⊎ StopsAtMarker (standing part.mid) (standing t)
    last_stopped stopped = subst (λ k. LastIs standing part.mid k t) (sym going ∙ stopped) part.last

    fault_open : heard_of (answers ++ more) ≡ Stopped → (f : fault.Fault) → (standing t).fault ≡ Some f → GivesFault (standing part.mid) (standing t) ×
        ((g : GivesFault (standing part.mid) (standing t)) → g.why ≡ f)
    fault_open stopped f is = (by (last_stopped stopped), λ g. some_is g.why f (sym g.fault ∙ is)) where
      some_is : (a b : fault.Fault) → Some a ≡ Some b → a ≡ b
      some_is a b e = cc

      by : GivesFault (standing part.mid) (standing t) ⊎ StopsAtMarker (standing part.mid) (standing t) → GivesFault (standing part.mid) (standing t)
      by (inl g) = g
      by (inr m) = absurd (let z : None ≡ Some f = sym m.fault ∙ is in let bot : ⊥ = cc in bot)

    -- it breaks
    broke_open : heard_of (answers ++ more) ≡ Stopped → (f : fault.Fault) → (standing t).fault ≡ Some f → CodeBreaks text p (bytes_of (answers ++ more)) f
    broke_open stopped f is =
        let k = fault_open stopped f is in
        let g = k.0 in
        let why : g.why ≡ f = k.1 g in record {
          some = subst (λ z. 1 ≤ length z) (sym both_are) (some_bytes g.begun);
          small = small;
          rest = g.ends.rest;
          unread = g.ends.unread;
          text_is =
              ap (λ z. z ++ p) o.text_is ∙ append_assoc (stuffed (A ++ [])) (ahead_bytes first) p ∙ ap (λ z. stuffed z ++ (ahead_bytes first ++ p)) (append-nil A)
              ∙ ap (λ z. stuffed A ++ z) (taken_mid ∙ ap (λ z. stuffed B ++ z) g.ends.bytes_are)
              ∙ sym (append_assoc (stuffed A) (stuffed B) (g.ends.rest ++ g.ends.unread))
              ∙ ap (λ z. z ++ (g.ends.rest ++ g.ends.unread)) (sym (stuffed_append A B) ∙ ap stuffed (sym both_are))
              ∙ sym (append_assoc (stuffed (bytes_of (answers ++ more))) g.ends.rest g.ends.unread);
          broken = subst (RestFault g.ends.rest) why g.ends.broken;
          counted = subst (λ z. counted_as Truncated z ≡ z) why g.ends.counted;
          at_end = λ e. g.ends.at_end (why ∙ e);
        }

    same_bytes : bytes_of (before_fault (answers ++ more)) ≡ bytes_of (answers ++ more)
    same_bytes = bytes_again (answers ++ more) closed

    -- it waits for what follows
    waits_open : heard_of (answers ++ more) ≡ Stopped → (standing t).fault ≡ Some Truncated → (first1 ≡ None) × (marker1 ≡ None) × Waits
    waits_open stopped is =
        let g = (fault_open stopped Truncated is).0 in
        let behind : first1 ≡ None = sym first_t ∙ g.behind in
        let left : (standing part.mid).left ≡ p1 = sym g.stays ∙ left_t ∙ ap (λ z. ahead_bytes z ++ p1) behind in
        let k = taken_bytes first B [] p p1 (none_or_some g.begun) (taken_mid ∙ ap (λ z. stuffed B ++ z) left) in (
          behind,
          sym marker_t ∙ g.marker,
          (
            k.given,
            k.taken,
            record {
              going = heard_again (answers ++ more) stopped;
              bytes = subst IsBytes (sym same_bytes) small;
              small = tt;
              ahead = subst (λ z. IfSome z IsByteOrMarker) (sym behind) tt;
              begun = λ _. subst (λ z. 1 ≤ length z) (sym (append-nil (bytes_of (before_fault (answers ++ more))) ∙ same_bytes ∙ both_are)) (some_bytes g.begun);
              text_is = grown k.given [] o.text_is k.same ∙ ap (λ z. stuffed z ++ []) (sym same_bytes ∙ sym (append-nil (bytes_of (before_fault (answers ++ more)))))
                  ∙ ap (λ z. stuffed (bytes_of (before_fault (answers ++ more)) ++ []) ++ ahead_bytes z) (sym behind);
            },
          ),
        )

    -- it waits at its end marker
    marker_open : heard_of (answers ++ more) ≡ Stopped → (standing t).fault ≡ None → ((standing s).waits ≡ true) × ((MarkerRead marker first → ⊥) → WaitsAtMarker)
    marker_open stopped is = (sym part.went.waits ∙ m.waits, made) where
      at_marker : GivesFault (standing part.mid) (standing t) ⊎ StopsAtMarker (standing part.mid) (standing t) → StopsAtMarker (standing part.mid) (standing t)
      at_marker (inl g) = absurd (let z : None ≡ Some g.why = sym is ∙ g.fault in let bot : ⊥ = cc in bot)
      at_marker (inr m) = m

      m : StopsAtMarker (standing part.mid) (standing t)
      m = at_marker (last_stopped stopped)

      ahead : first1 ≡ Some (code.Marker m.reset)
      ahead = sym first_t ∙ m.ahead

      made : (MarkerRead marker first → ⊥) → WaitsAtMarker
      made unread = record {
        waits = (
          k.given ++ marker_bytes m.reset,
          k.taken ∙ sym (append_assoc k.given (marker_bytes m.reset) p1),
          record {
            going = heard_again (answers ++ more) stopped;
            bytes = subst IsBytes (sym same_bytes) small;
            small = tt;
            ahead = subst (λ z. IfSome z IsByteOrMarker) (sym ahead) tt;
            begun = λ e. absurd (let z : None ≡ Some (code.Marker m.reset) = sym e ∙ ahead in let bot : ⊥ = cc in bot);
            text_is = sym (append_assoc text k.given (marker_bytes m.reset)) ∙ ap (λ z. z ++ marker_bytes m.reset) front_is
                ∙ ap (λ z. stuffed z ++ marker_bytes m.reset) (sym same_bytes ∙ sym (append-nil (bytes_of (before_fault (answers ++ more)))))
                ∙ ap (λ z. stuffed (bytes_of (before_fault (answers ++ more)) ++ []) ++ ahead_bytes z) (sym ahead);
          },
        );
        reset = m.reset;
        ahead = ahead;
        unanswered = sym marker_t ∙ m.marker;
        front = k.given;
        given_is = refl;
        breaks = record {
          some = subst (λ z. 1 ≤ length z) (sym both_are) (some_bytes nothing);
          small = small;
          rest = [];
          unread = [];
          text_is = front_is ∙ sym (append-nil (stuffed (bytes_of (answers ++ more)))) ∙ sym (append-nil (stuffed (bytes_of (answers ++ more)) ++ []));
          broken = λ h spot moves. refl;
          counted = refl;
          at_end = λ _. refl;
        };
      } where
        nothing : (standing part.mid).first ≡ None
        nothing = none_of m.begun mid_ahead where
          none_of : ((standing part.mid).first ≡ None) ⊎ ((standing part.mid).first ≡ Some (code.Marker m.reset)) → ((1 ≤ length B) × ((standing part.mid).first ≡ None)) ⊎
              ((B ≡ []) × ((standing part.mid).first ≡ first)) → (standing part.mid).first ≡ None
          none_of (inl e) b = e
          none_of (inr e) (inl b) = b.1
          none_of (inr e) (inr b) = absurd (unread (m.reset, inr (sym b.1 ∙ e)))

        left : (standing part.mid).left ≡ marker_bytes m.reset ++ p1
        left = sym m.stays ∙ left_t ∙ ap (λ z. ahead_bytes z ++ p1) ahead ∙ marker_is m.reset where
          marker_is : (r : Bool) → code_bytes (code.Marker r) ++ p1 ≡ marker_bytes r ++ p1
          marker_is r = refl

        k : Taken first p (marker_bytes m.reset ++ p1) (stuffed B ++ [])
        k = taken_bytes first B [] p (marker_bytes m.reset ++ p1) (none_or_some nothing) (taken_mid ∙ ap (λ z. stuffed B ++ z) left)

        front_is : text ++ k.given ≡ stuffed (bytes_of (answers ++ more))
        front_is = grown k.given [] o.text_is k.same ∙ append-nil (stuffed (bytes_of (answers ++ more)))

  -- it had ended
  ended_before : (reset : Bool) → EntityEnded first reset answers [] text → marker ≡ Some reset → more ≡ []
  ended_before reset o is = nothing_after answers more o.ended closed

  went_ended : (reset : Bool) → EntityEnded first reset answers [] text → marker ≡ Some reset → Went
  went_ended reset o is =
      let none = ended_before reset o is in
      let same : s ≡ t = subst (λ z. Gives (Pull standing failed) s z t) none gives in
      let first_is : first1 ≡ None = sym first_t ∙ ap (λ z. (standing z).first) (sym same) ∙ first_s ∙ o.behind in
      let marker_is : marker1 ≡ Some reset = sym marker_t ∙ ap (λ z. (standing z).marker) (sym same) ∙ marker_s ∙ is in
      let p_is : p ≡ p1 = ap (λ z. ahead_bytes z ++ p) (sym o.behind) ∙ sym left_s ∙ ap (λ z. (standing z).left) same ∙ left_t ∙ ap (λ z. ahead_bytes z ++ p1) first_is in (
        [],
        p_is,
        subst (λ m. CodeText first1 m (answers ++ more) [] (text ++ [])) (sym marker_is) (record {
          ended = ap (λ z. heard_of (answers ++ z)) none ∙ ap heard_of (append-nil answers) ∙ o.ended;
          bytes = small;
          none = refl;
          behind = first_is;
          text_is = append-nil text ∙ o.text_is ∙ ap (λ z. stuffed (bytes_of z) ++ marker_bytes reset) (sym (append-nil answers) ∙ ap (λ z. answers ++ z) (sym none));
        }),
      )

  unstopped_ended : {Leaves : Type 0} (reset : Bool) → EntityEnded first reset answers [] text → marker ≡ Some reset → heard_of (answers ++ more) ≡ Stopped → Leaves
  unstopped_ended reset o e stopped =
      let none = ended_before reset o e in
      absurd (let both : Stopped ≡ Ended = sym stopped ∙ ap (λ z. heard_of (answers ++ z)) none ∙ ap heard_of (append-nil answers) ∙ o.ended in let bot : ⊥ = cc in bot)

  -- one that has not ended, or one that has
  by_marker : {Leaves : Type 0} → CodeText first marker answers [] text → (CodeOpen first answers [] text → marker ≡ None → Leaves) →
      ((reset : Bool) → EntityEnded first reset answers [] text → marker ≡ Some reset → Leaves) → Leaves
  by_marker {Leaves} o going_ ended = by marker refl o where
    by : (m : Option Bool) → marker ≡ m → CodeText first m answers [] text → Leaves
    by None e o = going_ o e
    by (Some reset) e o = ended reset o e

  pub code_went : CodeText first marker answers [] text → (heard_of (answers ++ more) ≡ Stopped → ⊥) → Went
  code_went o unstopped = by_marker o (λ o e. went_open o e unstopped) (λ reset o e. went_ended reset o e)

  pub code_unread : CodeText first marker answers [] text → (heard_of (answers ++ more) ≡ Stopped → ⊥) → (standing s).waits ≡ true → (MarkerRead marker first → ⊥) → MarkerRead marker1 first1 → ⊥
  code_unread o unstopped waits unread = by_marker o (λ o e. unread_open o e unstopped waits unread) (λ reset o e. absurd (unread (reset, inl e)))

  pub code_broke : CodeText first marker answers [] text → heard_of (answers ++ more) ≡ Stopped → (f : fault.Fault) → (standing t).fault ≡ Some f → CodeBreaks text p (bytes_of (answers ++ more)) f
  code_broke o stopped f is = by_marker o (λ o e. broke_open o e stopped f is) (λ reset o e. unstopped_ended reset o e stopped)

  pub code_waits : CodeText first marker answers [] text → heard_of (answers ++ more) ≡ Stopped → (standing t).fault ≡ Some Truncated → (first1 ≡ None) × (marker1 ≡ None) × Waits
  code_waits o stopped is = by_marker o (λ o e. waits_open o e stopped is) (λ reset o e. unstopped_ended reset o e stopped)

  pub code_at_marker : CodeText first marker answers [] text → heard_of (answers ++ more) ≡ Stopped → (standing t).fault ≡ None → ((standing s).waits ≡ true) ×
      ((MarkerRead marker first → ⊥) → WaitsAtMarker)
  code_at_marker o stopped is = by_marker o (λ o e. marker_open o e stopped is) (λ reset o e. unstopped_ended reset o e stopped)
