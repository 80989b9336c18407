-- A walk over what is held, and over what is read behind it.
use Rattle.std.proofs.Common.{cond, ◌≡◌, ◌≢◌, ◌<◌, ◌≤◌, ◌+◌, ◌*◌, ◌⊎◌, inl, inr, ℕ, suc, Bool, true, false, List, [], ◌++◌, length, Option, Some, Result, Ok, Err, refl, sym, ap, ◌∙◌, subst, append_assoc, append-nil, length-append, arith}
use Rattle.std.specs.Prelude.{flat_map, IfErr}
use Rattle.std.specs.Io.KnownBytes.{Appends, Consumes, Keeps}
use Rattle.raster_core.specs.Packed.{packed_row, row_bytes}
use Rattle.t85_core.specs.declared.fault.Fault.{Fault}
use Rattle.t85_core.specs.declared.fault.Fault.TheVariants.{Truncated, Read}
use Rattle.t85_core.specs.Lent.{WalkView}
use Rattle.t85_core.specs.Header.{Fields}
use Rattle.t85_core.specs.Fixed.{Fixes}
use Rattle.t85_core.specs.Failures.{CountsRead, Ends, counted_as, reads_after, writes_after}
use Rattle.t85_core.specs.Private.Buffers.{SourceView, ReadsOn, reading}
use Rattle.t85_core.specs.RowSink.{copies}
use Rattle.t85_core.specs.States.Pieces.{CutOff, WalkStands, CodeStands, head_place, code_place}
use Rattle.t85_core.specs.Private.Pieces.{SomeStands, StepsOff, StepsOn, Turn}
use Rattle.t85_core.specs.States.SizedImage.{sized}
use Rattle.t85_core.specs.Private.Reading.{KeepsLast, ReadsWalk, BreaksWalk, WaitsWalk, HeldTurn, RowsTurn, ImageSoFar}
use Rattle.std.specs.Result.{IsErrAnd}
use Rattle.std.proofs.lemmas.Bool.{cases_lt}
use Rattle.std.proofs.lemmas.Grind.{div_ceil_times}
use Rattle.std.proofs.Math.Nat.{mul-le-mul_right}
use Rattle.devices.specs.Device.{AppendsBeginning}
use Rattle.t85_core.specs.Stages as stage
use Rattle.t85_core.specs.Laws.{IsInUse}
use Rattle.t85_core.specs.Private.CoderLaws.{CoderLaws}
use Rattle.t85_core.specs.States.DecodeStripes.{ImageRead, ImageCut}
use Rattle.t85_core.specs.Private.DecodeStripes.{ImageUnwritten}
use Rattle.t85_core.specs.States.Passage.{passage}
use Rattle.t85_core.proofs.BytesJoin.CallsJoin.{Appends-more, Consumes-more, Consumes-keeps, beginning_after, beginning_all, longer_or_all}
use Rattle.t85_core.proofs.StreamsAreWalked.StripeIsPassed.{Consumes-none}
use Rattle.t85_core.proofs.BodiesDecode.WalkGoesOn.{at_stage}
use Rattle.t85_core.proofs.BodiesDecode.RowIsPut.{appends_nothing}
use Rattle.t85_core.proofs.BodiesDecode.WalkDecodesImage.{code_unset, code_many, code_wide, copies_long, none_unset, unset_there}
use Rattle.t85_core.proofs.StreamsAreWalked.WalkLooksBehind.{no_failed_read}
use Rattle.t85_core.proofs.BodiesParse.FaultsAreLimited.{body_faults, uncounted_body, walk_fault, unwritten}
use Rattle.t85_core.proofs.BodiesDecode.BodyIsDecoded.{fixes_more}

-- what came fixes what was handed out
pub cut_all : (h : Fields) (height : ℕ) (text out : List ℕ) (f : Fault) → CutOff (sized h height) text out f → (rows : List (List Bool)) × Fixes h height text f rows × (out ≡ flat_map packed_row rows)
cut_all h height text out f c = (
  c.cut.rows,
  subst (λ z. Fixes h height z f c.cut.rows) (sym c.cut.ends.taken)
      (longer_or_all (λ z. Fixes h height z f c.cut.rows) c.cut.ends.given c.unread has c.cut.ends.at_end (fixes_more h height c.cut.ends.given c.unread f c.cut.rows has)),
  c.cut.appended,
) where
  has : Fixes h height c.cut.ends.given f c.cut.rows
  has = subst (λ z. Fixes h height c.cut.ends.given z c.cut.rows) c.counted c.cut.ends.has_fault

-- a fault that is counted as itself is no failed read
counted_never : (f : Fault) → counted_as Truncated f ≡ f → f ≢ Read
counted_never f e is = let both : counted_as Truncated Read ≡ Read = subst (λ z. counted_as Truncated z ≡ z) is e in let bot : ⊥ = cc in bot

cut_unread : (h : Fields) (height : ℕ) (text out : List ℕ) (f : Fault) → CutOff (sized h height) text out f → (n : ℕ) → reads_after f n ≡ n
cut_unread h height text out f c = no_failed_read f (walk_fault f (body_faults (cut_all h height text out f c).1.broken)) (counted_never f c.counted)

-- ---- a turn over what is held

module _ (h : Fields) (height : ℕ) (w w' : WalkView) (old new : SourceView) (held held' piece' : List ℕ) (left : ℕ) (k : KeepsLast old held new held' left) where
  held_on : length piece' ≡ left → (row : List ℕ) → StepsOn (sized h height) w w' held piece' row → ReadsWalk (sized h height) w w' old.known new.known row
  held_on e row on text out s = let a = on text out s in (a.0, (k.taken a.0 piece' a.1 e).1, a.2)

  held_waits : length piece' ≡ left → StepsOn (sized h height) w w' held piece' [] → StepsOff (sized h height) w held Truncated → WaitsWalk (sized h height) w w' old.known new.known held'
  held_waits e on off text out s =
      let a = on text out s in
      let t = k.taken a.0 piece' a.1 e in (
        a.0,
        t.1,
        subst (WalkStands (sized h height) w' (text ++ a.0)) (append-nil out) a.2,
        subst (λ z. CutOff (sized h height) z out Truncated) (ap (λ z. text ++ z) (a.1 ∙ ap (λ z. a.0 ++ z) (sym t.0)) ∙ sym (append_assoc text a.0 held')) (off text out s),
      )

  held_breaks : 0 ≡ left → (f : Fault) → f ≢ Truncated → StepsOff (sized h height) w held f → BreaksWalk (sized h height) w old.known new.known f
  held_breaks e f other off text out s =
      let cut = off text out s in
      let all = cut_all h height (text ++ held) out f cut in
      record {
        given = held;
        taken = (k.taken held [] (sym (append-nil held)) e).1;
        rows = all.0;
        fixes = subst (λ z. Fixes h height (text ++ held) z all.0) (sym cut.counted) all.1;
        out_is = all.2;
        at_end = λ is. absurd (other is);
      }

pub held_turn : (h : Fields) (height : ℕ) (w w' : WalkView) (old new : SourceView) (held held' piece' : List ℕ) (left : ℕ) → KeepsLast old held new held' left →
    (answer : Result Bool Fault) → Turn (sized h height) w w' held piece' answer →
    (IfErr answer (λ f. f ≡ Truncated) → left ≡ length piece') → ((f : Fault) → answer ≡ Err f → f ≢ Truncated → left ≡ 0) → HeldTurn (sized h height) w w' (reading old.known new.known) held' answer
held_turn h height w w' old new held held' piece' left k (Ok b) t kept none = record {
  row = λ e. held_on h height w w' old new held held' piece' left k (sym (kept tt)) w'.carried.held.current (t.row e);
  done = λ e. (held_on h height w w' old new held held' piece' left k (sym (kept tt)) [] (t.done e).0, (t.done e).1);
  waits = λ e. absurd (let bot : ⊥ = cc in bot);
  few = λ e. absurd (let bot : ⊥ = cc in bot);
  err = tt;
  unread = tt;
}
held_turn h height w w' old new held held' piece' left k (Err f) t kept none = record {
  row = λ e. absurd (let bot : ⊥ = cc in bot);
  done = λ e. absurd (let bot : ⊥ = cc in bot);
  waits = λ e. let is : f ≡ Truncated = cc in held_waits h height w w' old new held held' piece' left k (sym (kept is)) (t.more e).0 (subst (StepsOff (sized h height) w held) is t.err);
  few = λ e. let is : f ≡ Truncated = cc in let short = (t.more e).1 in let all = kept is in let within = k.within in omega (arith, short, all, within);
  err = λ other. held_breaks h height w w' old new held held' piece' left k (sym (none f refl other)) f other t.err;
  unread = λ some. cut_unread h height _ _ f (t.err some.0 some.1 some.2);
}

-- ---- turns one after another

module _ (h : Fields) (height : ℕ) (w w1 : WalkView) (a b : Option (List ℕ)) (on : ReadsWalk (sized h height) w w1 a b []) where
  pub reads_then : (w2 : WalkView) (c : Option (List ℕ)) (row : List ℕ) → ReadsWalk (sized h height) w1 w2 b c row → ReadsWalk (sized h height) w w2 a c row
  reads_then w2 c row next text out s =
      let x = on text out s in
      let y = next (text ++ x.0) (out ++ []) x.2 in (
        x.0 ++ y.0,
        Consumes-more a b c x.0 y.0 x.1 y.1,
        subst (λ z. WalkStands (sized h height) w2 z (out ++ row)) (append_assoc text x.0 y.0) (subst (λ z. WalkStands (sized h height) w2 ((text ++ x.0) ++ y.0) (z ++ row)) (append-nil out) y.2),
      )

  pub breaks_then : (c : Option (List ℕ)) (f : Fault) → BreaksWalk (sized h height) w1 b c f → BreaksWalk (sized h height) w a c f
  breaks_then c f next text out s =
      let x = on text out s in
      let y = next (text ++ x.0) (out ++ []) x.2 in
      record {
        given = x.0 ++ y.given;
        taken = Consumes-more a b c x.0 y.given x.1 y.taken;
        rows = y.rows;
        fixes = subst (λ z. Fixes h height z (counted_as Truncated f) y.rows) (append_assoc text x.0 y.given) y.fixes;
        out_is = sym (append-nil out) ∙ y.out_is;
        at_end = y.at_end;
      }

  pub some_then : SomeStands (sized h height) w → SomeStands (sized h height) w1
  some_then some = let x = on some.0 some.1 some.2 in (some.0 ++ x.0, some.1 ++ [], x.2)

-- a walk that waits goes on
pub waits_on : (h : Fields) (height : ℕ) (w w' : WalkView) (a b c : Option (List ℕ)) (held' : List ℕ) → WaitsWalk (sized h height) w w' a b held' → Keeps b c → ReadsWalk (sized h height) w w' a c []
waits_on h height w w' a b c held' waits keeps text out s =
    let x = waits text out s in
    (x.0, Consumes-keeps a b c x.0 x.1 keeps, subst (WalkStands (sized h height) w' (text ++ x.0)) (sym (append-nil out)) x.2)

-- or nothing comes
pub waits_off : (h : Fields) (height : ℕ) (w w' : WalkView) (a b c : Option (List ℕ)) (held' : List ℕ) (f : Fault) → WaitsWalk (sized h height) w w' a b held' →
    Ends Truncated b c (λ given fault. (given ≡ held') × (fault ≡ Truncated)) f → BreaksWalk (sized h height) w a c f
waits_off h height w w' a b c held' f waits e text out s =
    let x = waits text out s in
    let all = cut_all h height ((text ++ x.0) ++ held') out Truncated x.3 in
    record {
      given = x.0 ++ held';
      taken = Consumes-more a b c x.0 held' x.1 (subst (Consumes b c) e.has_fault.0 e.taken);
      rows = all.0;
      fixes = subst (λ z. Fixes h height z (counted_as Truncated f) all.0) (append_assoc text x.0 held') (subst (λ z. Fixes h height ((text ++ x.0) ++ held') z all.0) (sym e.has_fault.1) all.1);
      out_is = all.2;
      at_end = e.at_end;
    }

-- ---- rows, and what is read for them

pub reads_nothing : (h : Fields) (height : ℕ) (w : WalkView) (known : Option (List ℕ)) → ReadsWalk (sized h height) w w known known []
reads_nothing h height w known text out s = (
  [],
  Consumes-none known,
  subst (λ z. WalkStands (sized h height) w z (out ++ [])) (sym (append-nil text))
      (subst (WalkStands (sized h height) w text) (sym (append-nil out)) s),
)

-- rows were handed out, and no byte was taken
pub reads_none : (h : Fields) (height : ℕ) (w w' : WalkView) (known : Option (List ℕ)) (row : List ℕ) →
    ((text out : List ℕ) → WalkStands (sized h height) w text out → WalkStands (sized h height) w' text (out ++ row)) → ReadsWalk (sized h height) w w' known known row
reads_none h height w w' known row on text out s = ([], Consumes-none known, subst (λ z. WalkStands (sized h height) w' z (out ++ row)) (sym (append-nil text)) (on text out s))

-- none of those
pub reads_no_rows : (h : Fields) (height : ℕ) (w w' : WalkView) (known : Option (List ℕ)) (n : ℕ) → n ≡ 0 →
    ((text out : List ℕ) → WalkStands (sized h height) w text out → WalkStands (sized h height) w' text (out ++ copies n w'.carried.held.current)) → ReadsWalk (sized h height) w w' known known []
reads_no_rows h height w w' known n none on = reads_none h height w w' known []
    (λ text out s. subst (λ z. WalkStands (sized h height) w' text (out ++ copies z w'.carried.held.current)) none (on text out s))

-- rows that equal the one before
pub rows_same : (h : Fields) (height : ℕ) (w w1 w2 : WalkView) (old new : SourceView) → ReadsWalk (sized h height) w w1 old.known new.known [] → (n : ℕ) → 0 < n →
    ((text out : List ℕ) → WalkStands (sized h height) w1 text out → WalkStands (sized h height) w2 text (out ++ copies n w2.carried.held.current)) → (0 < n → w2.stage ≡ stage.Code) →
    new.failures ≡ old.failures → new.source ≡ old.source → RowsTurn (sized h height) w w2 old new (Ok n)
rows_same h height w w1 w2 old new on n some same code unfailed source = record {
  some = λ _. (
    reads_then h height w w1 old.known new.known on w2 new.known (copies n w2.carried.held.current) (reads_none h height w1 w2 new.known (copies n w2.carried.held.current) same),
    λ _. code some,
  );
  none = λ none. absurd (omega (arith, some, none));
  err = tt;
  reads = λ _. record { drained = λ e. absurd (let bot : ⊥ = cc in bot); counts = unfailed; same_source = source };
}

module _ (h : Fields) (height : ℕ) (w w1 w2 : WalkView) (old mid new : SourceView) (on : ReadsWalk (sized h height) w w1 old.known mid.known []) where
  -- one row, or the end
  pub rows_one : (held' : List ℕ) (b : Bool) (n : ℕ) → n ≡ cond b 1 0 → HeldTurn (sized h height) w1 w2 (reading mid.known new.known) held' (Ok b) →
      (SomeStands (sized h height) w1 → ◌≡◌ {A = Result Bool Fault} (Ok b) (Ok true) → w2.stage ≡ stage.Code) → new.failures ≡ old.failures → new.source ≡ old.source →
      RowsTurn (sized h height) w w2 old new (Ok n)
  rows_one held' true n is t code unfailed same = record {
    some = λ _. (
      reads_then h height w w1 old.known mid.known on w2 new.known (copies n w2.carried.held.current)
          (subst (λ z. ReadsWalk (sized h height) w1 w2 mid.known new.known z) (sym (append-nil w2.carried.held.current) ∙ ap (λ z. copies z w2.carried.held.current) (sym is)) (t.row refl)),
      λ some. code (some_then h height w w1 old.known mid.known on some) refl,
    );
    none = λ none. absurd (omega (arith, is, none));
    err = tt;
    reads = λ _. record { drained = λ e. absurd (let bot : ⊥ = cc in bot); counts = unfailed; same_source = same };
  }
  rows_one held' false n is t code unfailed same = record {
    some = λ more. absurd (omega (arith, is, more));
    none = λ _. (reads_then h height w w1 old.known mid.known on w2 new.known [] (t.done refl).0, (t.done refl).1);
    err = tt;
    reads = λ _. record { drained = λ e. absurd (let bot : ⊥ = cc in bot); counts = unfailed; same_source = same };
  }

  -- a fault in what is held
  pub rows_off : (held' : List ℕ) (f : Fault) → HeldTurn (sized h height) w1 w2 (reading mid.known new.known) held' (Err f) → f ≢ Truncated → new.failures ≡ old.failures → new.source ≡ old.source →
      RowsTurn (sized h height) w w2 old new (Err f)
  rows_off held' f t other unfailed same = record {
    some = tt;
    none = tt;
    err = breaks_then h height w w1 old.known mid.known on new.known f (t.err other);
    reads = λ some.
        let none = t.unread (some_then h height w w1 old.known mid.known on some) in
        record {
          drained = λ e. let is : f ≡ Read = cc in let zero : reads_after Read 0 ≡ 0 = subst (λ z. reads_after z 0 ≡ 0) is (none 0) in absurd (let bot : ⊥ = cc in bot);
          counts = unfailed ∙ sym (none old.failures);
          same_source = same;
        };
  }

  -- nothing is read behind it
  pub rows_unread : (last : SourceView) (held' : List ℕ) (r : Result ℕ Fault) (e : Fault) (t : Result (Unit {0}) Fault) → IsErrAnd r (λ y. y ≡ e) → t ≡ Err e →
      WaitsWalk (sized h height) w1 w2 mid.known new.known held' →
      IfErr t (Ends Truncated new.known last.known (λ given fault. (given ≡ held') × (fault ≡ Truncated))) → ReadsOn new last t → new.failures ≡ old.failures → new.source ≡ old.source →
      RowsTurn (sized h height) w w2 old last r
  rows_unread last held' (Ok x) e t a is waits ends reads unfailed same = absurd a
  rows_unread last held' (Err y) e t a is waits ends reads unfailed same =
      let there : Ends Truncated new.known last.known (λ given fault. (given ≡ held') × (fault ≡ Truncated)) y =
      subst (Ends Truncated new.known last.known (λ given fault. (given ≡ held') × (fault ≡ Truncated))) (sym a)
      (subst (λ z. IfErr z (Ends Truncated new.known last.known (λ given fault. (given ≡ held') × (fault ≡ Truncated)))) is ends) in
      let counts : last.failures ≡ reads_after y new.failures = subst (λ z. last.failures ≡ reads_after z new.failures) (sym a)
      (subst (λ z. CountsRead new.failures last.failures z) is reads.counts) in
      record {
        some = tt;
        none = tt;
        err = breaks_then h height w w1 old.known mid.known on last.known y (waits_off h height w1 w2 mid.known new.known last.known held' y waits there);
        reads = λ _. record {
          drained = λ k. let read : y ≡ Read = cc in reads.drained (is ∙ ap Err (sym a ∙ read));
          counts = counts ∙ ap (reads_after y) unfailed;
          same_source = reads.same_source ∙ same;
        };
      }

-- ---- the image

module _ (h : Fields) (height : ℕ) (w w' : WalkView) (known known' known'' text text' : Option (List ℕ)) (row : ℕ) (so : ImageSoFar (sized h height) w (passage known known' text text') row) where
  -- it breaks
  pub image_off : (f : Fault) → BreaksWalk (sized h height) w known' known'' f → ImageCut h height (passage known known'' text text') f
  image_off f off =
      let b = off so.bytes so.out so.stands in
      record {
        rows = b.rows;
        ends = record { given = so.bytes ++ b.given; taken = Consumes-more known known' known'' so.bytes b.given so.taken b.taken; has_fault = b.fixes; at_end = b.at_end };
        appended = subst (Appends text text') b.out_is so.put;
      }

  pub image_off_begun : (f : Fault) → BreaksWalk (sized h height) w known' known'' f → ImageUnwritten h height (passage known known'' text text')
  image_off_begun f off = let b = off so.bytes so.out so.stands in unset_there h height so.bytes so.out b.given known known' known'' text text' so.begun so.taken b.taken (beginning_all so.put)

  pub image_off_unwritten : (f : Fault) → BreaksWalk (sized h height) w known' known'' f → (n : ℕ) → writes_after f n ≡ n
  image_off_unwritten f off = let b = off so.bytes so.out so.stands in unwritten f (walk_fault f (uncounted_body Truncated f (body_faults b.fixes.broken)))

  -- it is whole
  pub image_whole : ReadsWalk (sized h height) w w' known' known'' [] → w'.stage ≡ stage.Done → ImageRead h height (passage known known'' text text')
  image_whole on is =
      let x = on so.bytes so.out so.stands in
      let done : ImageRead h height (passage (Some (so.bytes ++ x.0)) (Some []) (Some []) (Some (so.out ++ []))) = at_stage is x.2 in
      record {
        given = done.given;
        taken = subst (Consumes known known'') (done.taken ∙ append-nil done.given) (Consumes-more known known' known'' so.bytes x.0 so.taken x.1);
        parts = done.parts;
        only = done.only;
        rows = done.rows;
        denotes = done.denotes;
        appended = subst (Appends text text') (sym (append-nil so.out) ∙ done.appended) so.put;
      }

  -- rows more
  module _ (n : ℕ) (some : 0 < n) (use_ : IsInUse h height) (q : CoderLaws)
      (on : ReadsWalk (sized h height) w w' known' known'' (copies n w'.carried.held.current) × (SomeStands (sized h height) w → w'.stage ≡ stage.Code)) where
    abbrev next : (given : List ℕ) × Consumes known' known'' given × WalkStands (sized h height) w' (so.bytes ++ given) (so.out ++ copies n w'.carried.held.current)
    next = on.0 so.bytes so.out so.stands

    abbrev here : CodeStands (sized h height) (head_place w'.entities w'.given w'.at w'.carried) (code_place w'.row w'.first w'.marker w'.decoder) (so.bytes ++ next.0)
        (so.out ++ copies n w'.carried.held.current)
    here = at_stage (on.1 (so.bytes, so.out, so.stands)) next.2

    long : length (so.out ++ copies n w'.carried.held.current) ≡ (row + n) * row_bytes h.xd
    long =
        let sum = length-append so.out (copies n w'.carried.held.current) in
        let more = copies_long n w'.carried.held.current in
        let wide : n * length w'.carried.held.current ≡ n * row_bytes h.xd = ap (λ z. n * z) (code_wide here next.2.width_is) in
        let times : (row + n) * row_bytes h.xd ≡ row * row_bytes h.xd + n * row_bytes h.xd = omega arith in
        omega (arith, sum, more, wide, times, so.many)

    some_bytes : 1 ≤ row_bytes h.xd
    some_bytes = let t = (div_ceil_times h.xd 8 (omega arith)).0 in let w = use_.accepted.width_from in omega (arith, t, w)

    pub row_long : length w'.carried.held.current ≡ row_bytes h.xd
    row_long = code_wide here next.2.width_is

    pub rows_few : row + n ≤ height
    rows_few = went (cases_lt height (row + n)) where
      went : (height < row + n) ⊎ (row + n ≤ height) → row + n ≤ height
      went (inr few) = few
      went (inl more) =
          let m = code_many here in
          let most : m.0 * row_bytes h.xd ≤ height * row_bytes h.xd = mul-le-mul_right (row_bytes h.xd) m.1 in
          let above : suc height * row_bytes h.xd ≤ (row + n) * row_bytes h.xd = mul-le-mul_right (row_bytes h.xd) (omega (arith, more)) in
          let one : suc height * row_bytes h.xd ≡ row_bytes h.xd + height * row_bytes h.xd = omega arith in
          absurd (let bytes = some_bytes in let is = long in omega (arith, most, above, one, m.2, bytes, is))

    begun_here : ImageUnwritten h height (passage (Some (so.bytes ++ next.0)) (Some []) (Some []) (Some (so.out ++ copies n w'.carried.held.current)))
    begun_here = code_unset here q use_

    taken_here : Consumes known known'' (so.bytes ++ next.0)
    taken_here = Consumes-more known known' known'' so.bytes next.0 so.taken next.1

    pub so_far_next : (text'' : Option (List ℕ)) → Appends text' text'' (copies n w'.carried.held.current) → ImageSoFar (sized h height) w' (passage known known'' text text'') (row + n)
    so_far_next text'' put = record {
      bytes = so.bytes ++ next.0;
      out = so.out ++ copies n w'.carried.held.current;
      stands = next.2;
      taken = taken_here;
      put = Appends-more text text' text'' so.out (copies n w'.carried.held.current) so.put put;
      many = long;
      few = rows_few;
      begun = begun_here;
    }

    -- the target takes no more
    pub image_rows_unset : (text'' : Option (List ℕ)) → AppendsBeginning text' text'' (copies n w'.carried.held.current) → ImageUnwritten h height (passage known known'' text text'')
    image_rows_unset text'' put =
        unset_there h height (so.bytes ++ next.0) (so.out ++ copies n w'.carried.held.current) [] known known'' known'' text text'' begun_here taken_here (Consumes-none known'')
        (beginning_after so.out so.put put)

-- before the first row
pub so_far_first : (h : Fields) (height : ℕ) (w : WalkView) (known text : Option (List ℕ)) → WalkStands (sized h height) w [] [] → ImageSoFar (sized h height) w (passage known known text text) 0
so_far_first h height w known text s = record {
  bytes = [];
  out = [];
  stands = s;
  taken = Consumes-none known;
  put = appends_nothing text;
  many = let none : 0 * row_bytes h.xd ≡ 0 = omega arith in sym none;
  few = omega arith;
  begun = none_unset h height;
}
