-- Rows of a stream that comes in pieces.
use Rattle.std.proofs.Common.{◌≡◌, ◌≢◌, ℕ, ◌+◌, ◌≤◌, Bool, true, false, Result, Ok, Err, List, [], ◌∷◌, ◌++◌, length, take, drop, refl, sym, ap, ◌∙◌, subst, append_assoc, append-nil, length-drop, arith}
use Rattle.std.specs.Prelude.{flat_map, OnErr}
use Rattle.std.proofs.Math.Seq.{take-add}
use Rattle.std.proofs.lemmas.Grind.{flat_map-append}
use Rattle.std.proofs.lemmas.List.{take-append-drop}
use Rattle.std.proofs.lemmas.List.Sums.{sum_by-append, sum_by-cons}
use Rattle.t85_core.specs.Lent.{PieceView}
use Rattle.t85_core.specs.declared.pieces.Outcome.{Outcome}
use Rattle.t85_core.specs.declared.pieces.Outcome.TheVariants as outcome
use Rattle.t85_core.specs.Header.{Fields}
use Rattle.t85_core.specs.Pieces.{stream_of, row_held, HasDecoded, StreamGoesOn, Call, IsCall, bytes_taken, given_with, row_given, decoder_after}
use Rattle.examples.specs.Pieces.{rows_told, rows_counted, WereMade, SaysOfRows, PieceRead, TextRead, SomeRead, Gathered, gathered}

pub on_err : {T E : Type 0} (r : Result T E) {P : Type 0} → P → OnErr r P
on_err (Ok x) p = tt
on_err (Err e) p = p

-- ---- calls one after another

made_append : (d : PieceView) (xs ys : List Call) → WereMade d xs → WereMade (decoder_after d xs) ys → WereMade d (xs ++ ys)
made_append d [] ys first more = more
made_append d (x ∷ xs) ys first more = (first.0, made_append x.new xs ys first.1 more)

after_append : (d : PieceView) (xs ys : List Call) → decoder_after d (xs ++ ys) ≡ decoder_after (decoder_after d xs) ys
after_append d [] ys = refl
after_append d (x ∷ xs) ys = after_append x.new xs ys

rows_append : (front : List ℕ) (xs ys : List Call) → (front ++ flat_map row_given xs) ++ flat_map row_given ys ≡ front ++ flat_map row_given (xs ++ ys)
rows_append front xs ys = append_assoc front (flat_map row_given xs) (flat_map row_given ys) ∙ ap (λ z. front ++ z) (sym (flat_map-append row_given xs ys))

count_append : (xs ys : List Call) → rows_counted (xs ++ ys) ≡ rows_counted xs + rows_counted ys
count_append xs ys = sum_by-append (λ call. rows_told call.answer) xs ys

-- ---- a call more

-- what a call leaves that gives no row
call_tells : (d : PieceView) (call : Call) → IsCall d call → (o : Outcome) → call.answer ≡ o → o ≢ outcome.Row → (text out : List ℕ) → HasDecoded d text out →
    (StreamGoesOn o → HasDecoded call.new (text ++ bytes_taken call) out) × SaysOfRows (stream_of d) call.is_all call.new o (text ++ call.piece) out
call_tells d call is outcome.Row e other text out has = absurd (other refl)
call_tells d call is outcome.More e other text out has = let k = is.more e text out has in ((λ _. k.0), k.1)
call_tells d call is (outcome.Done height) e other text out has = ((λ goes. absurd goes), (λ rest follows. (is.done height e).1 text out rest has follows))
call_tells d call is (outcome.Broken fault) e other text out has = ((λ goes. absurd goes), (λ rest follows. is.broken fault e text out rest has follows))

none_given : (o : Outcome) (row : List ℕ) → o ≢ outcome.Row → given_with o row ≡ []
none_given outcome.Row row other = absurd (other refl)
none_given outcome.More row other = refl
none_given (outcome.Done height) row other = refl
none_given (outcome.Broken fault) row other = refl

-- a call with a piece, from its report
abbrev pub call_told : List ℕ → Bool → ℕ → Outcome → PieceView → Call
call_told piece is_all taken answer new = record { piece = piece; is_all = is_all; taken = taken; answer = answer; new = new }

-- Rows of a piece so far: this many, and so many bytes were taken.
pub record RowsSoFar (old now : PieceView) (piece : List ℕ) (taken : ℕ) (held held' : List ℕ) (count : ℕ) : Type 0 where
  pub calls : List Call
  pub made : WereMade old calls
  pub after : now ≡ decoder_after old calls
  pub appended : held' ≡ held ++ flat_map row_given calls
  pub many : rows_counted calls ≡ count
  pub within : taken ≤ length piece
  pub same : stream_of now ≡ stream_of old
  pub goes_on : (text out : List ℕ) → HasDecoded old text out → HasDecoded now (text ++ take taken piece) (out ++ flat_map row_given calls)

pub none_so_far : (d : PieceView) (piece held : List ℕ) → RowsSoFar d d piece 0 held held 0
none_so_far d piece held = record {
  calls = [];
  made = tt;
  after = refl;
  appended = sym (append-nil held);
  many = refl;
  within = omega arith;
  same = refl;
  goes_on = λ text out has. simp append-nil has;
}

module _ {old now : PieceView} {piece : List ℕ} {taken : ℕ} {held held' : List ℕ} {count : ℕ} (so_far : RowsSoFar old now piece taken held held' count) where
  pub some_came : SomeRead old (gathered held held')
  some_came = record { calls = so_far.calls; made = so_far.made; appended = so_far.appended }

  -- as many came as were asked for
  pub all_came : (is_all : Bool) → PieceRead old (call_told piece is_all taken outcome.Row now) count (gathered held held')
  all_came is_all = record {
    calls = so_far.calls;
    made = so_far.made;
    after = so_far.after;
    appended = so_far.appended;
    full = λ _. so_far.many;
    ends = λ _ e. cc;
    within = so_far.within;
    goes_on = λ _. so_far.goes_on;
    tells = λ text out has. tt;
  }

  module _ (call : Call) (is : IsCall now call) (at : call.piece ≡ drop taken piece) (few : call.taken ≤ length call.piece) where
    abbrev longer : List Call
    longer = so_far.calls ++ call ∷ []

    made : WereMade old longer
    made = made_append old so_far.calls (call ∷ []) so_far.made (rw (← so_far.after) is, tt)

    after : call.new ≡ decoder_after old longer
    after = sym (after_append old so_far.calls (call ∷ []))

    within : taken + call.taken ≤ length piece
    within = (let all = so_far.within in let e : length call.piece ≡ length (drop taken piece) = ap (λ l. length l) at in omega (arith, few, all, e, length-drop taken piece))

    taken_more : (text : List ℕ) → (text ++ take taken piece) ++ bytes_taken call ≡ text ++ take (taken + call.taken) piece
    taken_more text = rw (append_assoc, at, ← take-add taken call.taken piece)

    all_come : (text : List ℕ) → (text ++ take taken piece) ++ call.piece ≡ text ++ piece
    all_come text = rw (append_assoc, at, take-append-drop taken piece)

    -- the rows with that of the call
    rows_with : (row : List ℕ) → row_given call ≡ row → (front : List ℕ) → (front ++ flat_map row_given so_far.calls) ++ row ≡ front ++ flat_map row_given longer
    rows_with row e front =
        ap (λ z. (front ++ flat_map row_given so_far.calls) ++ z) (sym (append-nil (row_given call) ∙ e))
        ∙ rows_append front so_far.calls (call ∷ [])

    pub row_more : call.answer ≡ outcome.Row → RowsSoFar old call.new piece (taken + call.taken) held (held' ++ row_held call.new) (count + 1)
    row_more e = record {
      calls = longer;
      made = made;
      after = after;
      appended = ap (λ z. z ++ row_held call.new) so_far.appended ∙ rows held;
      many = (
          let so_many = so_far.many in
          let one : rows_told call.answer ≡ 1 = ap rows_told e in
          let this : rows_counted (call ∷ []) ≡ rows_told call.answer + 0 = sum_by-cons (λ k. rows_told k.answer) call [] in
          omega (arith, so_many, one, this, count_append so_far.calls (call ∷ []))
          );
      within = within;
      same = is.same ∙ so_far.same;
      goes_on = λ text out has.
          rw (← (taken_more text))
          (subst (HasDecoded call.new ((text ++ take taken piece) ++ bytes_taken call)) (rows out)
          (is.row e (text ++ take taken piece) (out ++ flat_map row_given so_far.calls) (so_far.goes_on text out has)));
    } where
      rows : (front : List ℕ) → (front ++ flat_map row_given so_far.calls) ++ row_held call.new ≡ front ++ flat_map row_given longer
      rows = rows_with (row_held call.new) (ap (λ o. given_with o (row_held call.new)) e)

    pub last_came : (limit : ℕ) → call.answer ≢ outcome.Row → (call.is_all ≡ true → call.answer ≢ outcome.More) →
        PieceRead old (call_told piece call.is_all (taken + call.taken) call.answer call.new) limit (gathered held held')
    last_came limit other ends = record {
      calls = longer;
      made = made;
      after = after;
      appended = so_far.appended ∙ sym (append-nil (held ++ flat_map row_given so_far.calls)) ∙ none held;
      full = λ e. absurd (other e);
      ends = ends;
      within = within;
      goes_on = λ goes text out has.
          rw (← (taken_more text))
          (subst (HasDecoded call.new ((text ++ take taken piece) ++ bytes_taken call)) (rows out) ((told text out has).0 goes));
      tells = λ text out has.
          subst (λ (z : Fields). SaysOfRows z call.is_all call.new call.answer (text ++ piece) (out ++ flat_map row_given longer)) so_far.same
          (rw (← (all_come text))
          (subst (SaysOfRows (stream_of now) call.is_all call.new call.answer ((text ++ take taken piece) ++ call.piece)) (rows out) (told text out has).1));
    } where
      none : (front : List ℕ) → (front ++ flat_map row_given so_far.calls) ++ [] ≡ front ++ flat_map row_given longer
      none = rows_with [] (none_given call.answer (row_held call.new) other)

      rows : (front : List ℕ) → front ++ flat_map row_given so_far.calls ≡ front ++ flat_map row_given longer
      rows front = sym (append-nil (front ++ flat_map row_given so_far.calls)) ∙ none front

      told : (text out : List ℕ) → HasDecoded old text out →
          (StreamGoesOn call.answer → HasDecoded call.new ((text ++ take taken piece) ++ bytes_taken call) (out ++ flat_map row_given so_far.calls))
          × SaysOfRows (stream_of now) call.is_all call.new call.answer ((text ++ take taken piece) ++ call.piece) (out ++ flat_map row_given so_far.calls)
      told text out has = call_tells now call is call.answer refl other (text ++ take taken piece) (out ++ flat_map row_given so_far.calls) (so_far.goes_on text out has)

-- ---- a text

-- an end describes more bytes than were passed
tells_on : (h : Fields) (new : PieceView) (o : Outcome) (come more out : List ℕ) → SaysOfRows h false new o come out → o ≢ outcome.More → SaysOfRows h true new o (come ++ more) out
tells_on h new outcome.Row come more out t other = tt
tells_on h new outcome.More come more out t other = absurd (other refl)
tells_on h new (outcome.Done height) come more out t other = λ rest _. rw (append_assoc come more rest) (t (more ++ rest) (λ e. cc))
tells_on h new (outcome.Broken fault) come more out t other = λ rest _. rw (append_assoc come more rest) (t (more ++ rest) (λ e. cc))

-- the first piece was enough
pub first_told : {old mid : PieceView} {first : List ℕ} {taken limit : ℕ} {answer : Outcome} {rows : Gathered} (second : List ℕ) →
    PieceRead old (call_told first false taken answer mid) limit rows → answer ≢ outcome.More →
    TextRead old mid (first ++ second) limit answer rows
first_told {old} {mid} {first} {answer = answer} second p other = record {
  calls = p.calls;
  made = p.made;
  appended = p.appended;
  full = λ e. (let all = p.full e in omega (arith, all));
  ends = other;
  tells = λ text out has.
      rw (← (append_assoc text first second))
      (tells_on (stream_of old) mid answer (text ++ first) second (out ++ flat_map row_given p.calls) (p.tells text out has) other);
}

-- two pieces, one after the other
abbrev joined : {old : PieceView} {whole : Call} {limit : ℕ} {held held' held'' : List ℕ} → PieceRead old whole limit (gathered held held') →
    SomeRead whole.new (gathered held' held'') → SomeRead old (gathered held held'')
joined {old} {held = held} p q = record {
  calls = p.calls ++ q.calls;
  made = made_append old p.calls q.calls p.made (rw (← p.after) q.made);
  appended = q.appended ∙ ap (λ z. z ++ flat_map row_given q.calls) p.appended ∙ rows_append held p.calls q.calls;
}

-- memory ran out in the second piece
pub second_short : {old mid : PieceView} {first : List ℕ} {taken limit : ℕ} {answer : Outcome} {held held' held'' : List ℕ} →
    PieceRead old (call_told first false taken answer mid) limit (gathered held held') → SomeRead mid (gathered held' held'') →
    SomeRead old (gathered held held'')
second_short p q = joined p q

-- the first needed more, and the second was enough
pub second_told : {old mid new : PieceView} {first rest : List ℕ} {taken limit more : ℕ} {answer : Outcome} {held held' held'' : List ℕ} (second : List ℕ) →
    PieceRead old (call_told first false taken outcome.More mid) limit (gathered held held') →
    stream_of mid ≡ stream_of old → rest ≡ drop taken first ++ second → PieceRead mid (call_told rest true more answer new) limit (gathered held' held'') →
    TextRead old new (first ++ second) limit answer (gathered held held'')
second_told {old} {mid} {new} {first} {rest} {taken} {answer = answer} second p same rest_is q =
    let both = joined p (record { calls = q.calls; made = q.made; appended = q.appended }) in
    record {
      calls = both.calls;
      made = both.made;
      appended = both.appended;
      full = λ e. (let all = q.full e in omega (arith, all, count_append p.calls q.calls));
      ends = q.ends refl;
      tells = λ text out has.
          subst (λ (z : Fields). SaysOfRows z true new answer (text ++ (first ++ second)) (out ++ flat_map row_given (p.calls ++ q.calls))) same
          (rw (← (whole text))
          (subst (SaysOfRows (stream_of mid) true new answer ((text ++ take taken first) ++ rest)) (rows_append out p.calls q.calls)
          (q.tells (text ++ take taken first) (out ++ flat_map row_given p.calls) (p.goes_on tt text out has))));
    }
  where
    split : take taken first ++ (drop taken first ++ second) ≡ first ++ second
    split = sym (append_assoc (take taken first) (drop taken first) second) ∙ ap (λ z. z ++ second) (take-append-drop taken first)

    whole : (text : List ℕ) → (text ++ take taken first) ++ rest ≡ text ++ (first ++ second)
    whole text = append_assoc text (take taken first) rest ∙ ap (λ z. text ++ (take taken first ++ z)) rest_is ∙ ap (λ z. text ++ z) split
