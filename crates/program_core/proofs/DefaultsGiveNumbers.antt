-- A parse gives each option with a default a number.
use Rattle.std.proofs.Common.{◌≡◌, ◌∙◌, ◌<◌, ◌≤◌, ◌&&◌, ap, arith, ℕ, zero, suc, Bool, true, false, not, List, [], ◌∷◌, length, Option, Some, None, is_some, refl, sym, subst, inl, inr, true≢false, codes, option_and_then}
use Rattle.std.specs.Prelude.{option_map, slice_get, find, pos}
use Rattle.std.specs.Borrow.{Bor}
use Rattle.std.specs.List.{All, list_all, slice_index_or}
use Rattle.std.specs.Str.{bytes_eq}
use Rattle.std.specs.Str.Parse.{ParsesUnsigned}
use Rattle.std.proofs.lemmas.Bool.{eqb-true}
use Rattle.std.proofs.lemmas.List.{get_or-map, length-map}
use Rattle.std.proofs.lemmas.List.Folds.{list_all_at}
use Rattle.std.proofs.lemmas.Slice.Eq.{bytes_eq-Decides}
use Rattle.clap.specs.Facts.{Entry, EntryPasses, PassesArg, ValuesPass, args_of, groups_of, least_values, parser_of, parser_of_value, unwrap_or_range}
use Rattle.clap.specs.Built.{IsAuto, IsParsedFrom, NamesNoGroup, SameRules}
use Rattle.clap.specs.Matches.{matched_of}
use Rattle.clap.specs.Texts.{items_of}
use Rattle.clap.specs.Walk.{Rule, Text, is_empty, is_simple_arg, rule_of, texts}
use Rattle.clap.specs.Words.{Accepts, App, app_of, found_of, one_text, read_as, reading_of, without_minus}
use Rattle.clap.specs.declared.builder.ArgAction.TheVariants.{Count, Set}
use Rattle.clap.specs.declared.builder.arg.Arg.{Arg}
use Rattle.clap.specs.declared.builder.command.Command.{Command}
use Rattle.clap.specs.declared.builder.command.Command.TheViews.{out-Command}
use Rattle.clap.specs.declared.builder.range.ValueRange.{ValueRange}
use Rattle.clap.specs.declared.builder.value_parser.ValueParser.{ValueParser}
use Rattle.clap.specs.declared.builder.value_parser.ValueParser.TheVariants as parser
use Rattle.clap.specs.declared.parser.matches.ArgMatches.{ArgMatches}
use Rattle.clap.specs.declared.parser.matches.Found.{Found}
use Rattle.clap.specs.declared.parser.matches.MatchedArg.{MatchedArg}
use Rattle.clap.proofs.CallerLemmas.{default_present, entry_by_id, same_rules_by_id}
use Rattle.clap.proofs.CallerReads.{signed_reads}
use Rattle.clap.proofs.WalkLemmas.{both}
use Rattle.program_core.specs.Options.{decimal, number_rule}
use Rattle.program_core.specs.Pbmtojbg85.{encode_command}
use Rattle.program_core.proofs.GetterReadsNumber.{decimal_reads}

is_nil : {X : Type 0} (xs : List X) → is_empty xs ≡ true → xs ≡ []
is_nil [] e = refl
is_nil (x ∷ xs) e =
    let bad : length (x ∷ xs) ≡ 0 = eqb-true _ _ e in
    absurd (omega arith)

is_false : (b : Bool) → not b ≡ true → b ≡ false
is_false true e = absurd (true≢false (sym e))
is_false false e = refl

is_none : {X : Type 0} (o : Option X) → not (is_some o) ≡ true → o ≡ None
is_none None e = refl
is_none (Some x) e = absurd (true≢false (sym e))

abbrev after_delim : Arg → Bool
after_delim a = not (is_some a.terminator) && (not a.allow_hyphen_values && (not a.allow_negative_numbers
    && (not a.require_equals && (not a.last && not a.global))))

abbrev from_delim : Arg → Bool
from_delim a = not (is_some a.val_delim) && after_delim a

abbrev from_groups : Arg → Bool
from_groups a = is_empty a.groups.items && from_delim a

abbrev from_ifs : Arg → Bool
from_ifs a = is_empty a.default_vals_ifs.items && from_groups a

no_delim : (a : Arg) → is_simple_arg a ≡ true → a.val_delim ≡ None
no_delim a h =
    let h1 = (both (is_empty a.overrides.items) (from_ifs a) h).1 in
    let h2 = (both (is_empty a.default_vals_ifs.items) (from_groups a) h1).1 in
    let h3 = (both (is_empty a.groups.items) (from_delim a) h2).1 in
    is_none a.val_delim (both (not (is_some a.val_delim)) (after_delim a) h3).0

passes_at : {X : Type 0} (p : X → Bool) (xs : List X) (i : ℕ) (d : X) → i < length xs → list_all p xs ≡ true → p (slice_index_or xs i d) ≡ true
passes_at p xs i d lt all = go (p (slice_index_or xs i d)) refl
  where
    go : (b : Bool) → p (slice_index_or xs i d) ≡ b → p (slice_index_or xs i d) ≡ true
    go true e = e
    go false e = absurd (true≢false (sym all ∙ list_all_at p xs i d lt e))

-- only the element at k passes
unfoldable pub lone_at : {X : Type 0} → (X → Bool) → List X → ℕ → Bool
lone_at p [] k = true
lone_at p (x ∷ xs) zero = list_all (λ y. not (p y)) xs
lone_at p (x ∷ xs) (suc k) = not (p x) && lone_at p xs k

lone_is : {X : Type 0} (p : X → Bool) (xs : List X) (k : ℕ) → lone_at p xs k ≡ true
    → (j : ℕ) (d : X) → j < length xs → p (slice_index_or xs j d) ≡ true → j ≡ k
unfolding lone_at
lone_is p [] k h j d lt e = absurd (omega arith)
lone_is p (x ∷ xs) zero h zero d lt e = refl
lone_is p (x ∷ xs) zero h (suc j) d lt e =
    let no = is_false _ (passes_at (λ y. not (p y)) xs j d (omega arith) h) in
    absurd (true≢false (sym e ∙ no))
lone_is p (x ∷ xs) (suc k) h zero d lt e =
    let no = is_false _ (both _ _ h).0 in
    absurd (true≢false (sym e ∙ no))
lone_is p (x ∷ xs) (suc k) h (suc j) d lt e = ap suc (lone_is p xs k (both _ _ h).1 j d (omega arith) e)

found_some : (xs : List Entry) (id : Text) (i : ℕ) → i < length xs → ((d : Entry) → bytes_eq (slice_index_or xs i d).0.now id ≡ true)
    → is_some (option_map (λ e. e.1) (find (λ e. bytes_eq e.0.now id) xs)) ≡ true
found_some [] id i lt at = absurd (omega arith)
found_some (x ∷ xs) id zero lt at = rw (at x) refl
found_some (x ∷ xs) id (suc i) lt at = go (bytes_eq x.0.now id) refl (found_some xs id i (omega arith) at)
  where
    go : (b : Bool) → bytes_eq x.0.now id ≡ b → is_some (option_map (λ e. e.1) (find (λ e. bytes_eq e.0.now id) xs)) ≡ true
        → is_some (option_map (λ e. e.1) (find (λ e. bytes_eq e.0.now id) (x ∷ xs))) ≡ true
    go true e rest = rw e refl
    go false e rest = rw e rest

abbrev q : ValueParser
q = parser.Signed (pos 0) (pos 4294967295)

-- a text that passed the parser is a number
decimal_given : (b : Bool) (t : Text) → Accepts b q t → is_some (decimal (without_minus t)) ≡ true
decimal_given b t accepted =
    let got = signed_reads (Unit {0}) (λ u r. ParsesUnsigned 32 10 u r) 32 0 4294967295 t (decimal (without_minus t)) (decimal_reads (without_minus t)) (λ u x g. g) (omega arith) accepted in
    rw got.1 refl

-- the first of some values that are read without a minus
first_given : (x : MatchedArg) (vs : List (Bor Text)) → x.vals.items ≡ vs → 0 < length vs → x.reading ≡ reading_of q
    → All (λ v. is_some (decimal (without_minus v.now)) ≡ true) vs
    → is_some (option_and_then decimal (option_map (λ s. read_as x.reading s.now) (slice_get x.vals.items 0))) ≡ true
first_given x [] e lt reads all = absurd (omega arith)
first_given x (v ∷ vs) e lt reads all = rw (e, reads) (all 0 v (omega arith))

-- the entry of an option that takes a value and is no group
module _ (built : Command) (a : Arg) (no_groups : groups_of built ≡ []) (named : a.id.now ≡ [] → ⊥) (by : a.value_parser ≡ Some q)
    (same : (j : ℕ) (x : Arg) → j < length (args_of built) → slice_index_or (args_of built) j x ≡ x → bytes_eq x.id.now a.id.now ≡ true → SameRules a x) where
  no_group : (e : Entry) → e.0.now ≡ a.id.now → EntryPasses built e → e.1.is_group ≡ true → ⊥
  no_group e key pass g = elim (pass.3 g) [
    | inl empty ↦ named (sym key ∙ empty)
    | inr has ↦
        let bad : 0 < 0 = rw no_groups at has in
        absurd (omega arith)
  ]

  filled : a.action ≡ Some Set → a.val_delim ≡ None → 1 ≤ least_values a → (e : Entry) → e.0.now ≡ a.id.now → EntryPasses built e → 0 < length e.1.vals.items
  filled set delim least e key pass = elim pass.1 [
    | inl h ↦ absurd (no_group e key pass h.0)
    | inr (inl v) ↦ v
    | inr (inr (inl h)) ↦
        let any = h.1 in
        let s = same any.0 any.1 any.2 any.3 (rw key at any.4.0) in
        let is_set : any.1.action ≡ Some Set = s.action Set set in
        let bad : Set ≡ Count = rw is_set at any.4.1 in
        cc
    | inr (inr (inr h)) ↦
        let s = same h.0 h.1 h.2 h.3 (rw key at h.4.0) in
        elim h.4.1 [
          | inl none ↦
              let one = s.least set least in
              absurd (omega arith)
          | inr has ↦
              let bad : false ≡ true = rw (s.val_delim, delim) at has in
              cc
        ]
  ]

  reads : (e : Entry) → e.0.now ≡ a.id.now → EntryPasses built e → e.1.reading ≡ reading_of q
  reads e key pass = elim pass.4 [
    | inl g ↦ absurd (no_group e key pass g)
    | inr any ↦
        let s = same any.0 any.1 any.2 any.3 (rw key at any.4.0) in
        let is_q : parser_of any.1 ≡ q = ap parser_of_value (s.parser q by) in
        sym any.4.1 ∙ ap reading_of is_q
  ]

  number_at : (v : Bor Text) → PassesArg built a.id.now v.now → is_some (decimal (without_minus v.now)) ≡ true
  number_at v any =
      let s = same any.0 any.1 any.2 any.3 any.4.0 in
      let is_q : parser_of any.1 ≡ q = ap parser_of_value (s.parser q by) in
      decimal_given any.1.ignore_case v.now (rw is_q at any.4.1)

  numbers : (e : Entry) → e.0.now ≡ a.id.now → EntryPasses built e → All (λ v. is_some (decimal (without_minus v.now)) ≡ true) e.1.vals.items
  numbers e key pass = elim pass.0 [
    | inl g ↦ absurd (no_group e key pass g)
    | inr all ↦ λ i v lt. number_at (slice_index_or e.1.vals.items i v) (rw key at (all i v lt))
  ]

  entry_given : a.action ≡ Some Set → a.val_delim ≡ None → 1 ≤ least_values a → (x : MatchedArg)
      → ((e : Entry) × (e.1 ≡ x) × (bytes_eq e.0.now a.id.now ≡ true) × EntryPasses built e)
      → is_some (option_and_then decimal (option_map (λ s. read_as x.reading s.now) (slice_get x.vals.items 0))) ≡ true
  entry_given set delim least x got =
      let e = got.0 in
      let key : e.0.now ≡ a.id.now = (bytes_eq-Decides e.0.now a.id.now).0 got.2 in
      rw (← got.1)
      (first_given e.1 e.1.vals.items refl (filled set delim least e key got.3) (reads e key got.3) (numbers e key got.3))

  found_given : a.action ≡ Some Set → a.val_delim ≡ None → 1 ≤ least_values a → (f : Found) → ValuesPass built f
      → (o : Option MatchedArg) → matched_of f a.id.now ≡ o → is_some o ≡ true
      → is_some (option_and_then decimal (option_and_then (λ x. option_map (λ s. read_as x.reading s.now) (slice_get x.vals.items 0)) o)) ≡ true
  found_given set delim least f values None e some = absurd (true≢false (sym some))
  found_given set delim least f values (Some x) e some =
      entry_given set delim least x (entry_by_id (EntryPasses built) f.entries.items a.id.now x values e)

some_arg : (xs : List Arg) → 0 < length xs → Arg
some_arg [] h = absurd (omega arith)
some_arg (x ∷ xs) h = x

abbrev pub rules : List Rule
rules = encode_command.top.rules

differ : (a b : Text) → bytes_eq a b ≡ false → a ≡ b → ⊥
differ a b off e = true≢false (sym ((bytes_eq-Decides a b).1 e) ∙ off)

module _ (c : Command) (m : ArgMatches) (p : IsParsedFrom c m) (is : app_of c ≡ encode_command) (k : ℕ) (id : Text) (letter : ℕ) (t : Text) where
  here : (d : Arg) (j : ℕ) → j < length (args_of c) → rule_of (slice_index_or (args_of c) j d) ≡ slice_index_or rules j (rule_of d)
  here d j lt = sym (get_or-map rule_of (args_of c) j d (rule_of d) lt) ∙ ap (λ (a : App). slice_index_or a.top.rules j (rule_of d)) is

  count : length (args_of c) ≡ length rules
  count = sym (length-map (args_of c) rule_of) ∙ ap (λ (a : App). length a.top.rules) is

  simple : (d : Arg) (j : ℕ) → j < length (args_of c) → is_simple_arg (slice_index_or (args_of c) j d) ≡ true
  simple d j lt =
      let low : j < length rules = subst (λ n. j < n) count lt in
      ap (λ (r : Rule). r.is_simple) (here d j lt) ∙ passes_at (λ (r : Rule). r.is_simple) rules j (rule_of d) low refl

  plain : (out-Command c).has_globals ≡ false
  plain =
      let h = ap (λ (a : App). a.top.is_plain) is in
      is_false _ (both _ _ (both _ _ (both _ _ h).1).1).0

  no_groups : groups_of p.built ≡ []
  no_groups =
      let h = ap (λ (a : App). a.top.is_plain) is in
      let none : NamesNoGroup c = λ j d lt. is_nil _ (both _ _ (both _ _ (both _ _ (simple d j lt)).1).1).0 in
      (p.from.same_groups none).1 ∙ is_nil _ (both _ _ h).0

  -- an option of the command with a default has a number
  pub default_given : k < length rules → ((d : Rule) → slice_index_or rules k d ≡ number_rule id letter (t ∷ []))
      → lone_at (λ (r : Rule). bytes_eq r.id id) rules k ≡ true → bytes_eq id [] ≡ false → bytes_eq id (codes "help") ≡ false → bytes_eq id (codes "version") ≡ false
      → is_some (option_and_then decimal (one_text (found_of m) id)) ≡ true
  default_given lt one lone some no_help no_version =
      let low : k < length (args_of c) = subst (λ n. k < n) (sym count) lt in
      let d = some_arg (args_of c) (omega arith) in
      let a = slice_index_or (args_of c) k d in
      let r : rule_of a ≡ number_rule id letter (t ∷ []) = here d k low ∙ one (rule_of d) in
      let id_is : a.id.now ≡ id = ap (λ (x : Rule). x.id) r in
      let has_defaults : 0 < length (items_of a.default_vals) = one_long _ (ap (λ (x : Rule). length x.defaults) r) in
      let plain_arg = simple d k low in
      let ifs : a.default_vals_ifs.items ≡ [] = is_nil _ (both _ _ (both _ _ plain_arg).1).0 in
      let delim : a.val_delim ≡ None = no_delim a plain_arg in
      let set : a.action ≡ Some Set = ap (λ (x : Rule). x.action) r in
      let least : 1 ≤ least_values a = subst (λ (o : Option ValueRange). 1 ≤ (unwrap_or_range o).start_inclusive) (sym (ap (λ (x : Rule). x.range) r)) (omega arith) in
      let by : a.value_parser ≡ Some q = ap (λ (x : Rule). x.parser) r in
      let unique : (j : ℕ) (e : Arg) → j < length (args_of c) → bytes_eq (slice_index_or (args_of c) j e).id.now a.id.now ≡ true → j ≡ k =
      λ j e below same. lone_is (λ (x : Rule). bytes_eq x.id id) rules k lone j (rule_of e) (subst (λ n. j < n) count below)
      (rw (ap (λ (x : Rule). x.id) (here e j below), id_is) at same) in
      let not_auto : IsAuto a → ⊥ = λ auto. elim auto [ inl h ↦ differ id (codes "help") no_help (sym id_is ∙ h) | inr h ↦ differ id (codes "version") no_version (sym id_is ∙ h) ] in
      let same = same_rules_by_id c m p k d low unique not_auto in
      let present = default_present c m p plain k d low (ifs, has_defaults) in
      let parsed = p.parsed (p.from.globals ∙ plain) in
      rw (← id_is)
      (found_given p.built a no_groups (λ empty. differ id [] some (sym id_is ∙ empty)) by same set delim least (found_of m) parsed.values
      (matched_of (found_of m) a.id.now) refl
      (found_some (found_of m).entries.items a.id.now present.0 present.1 present.2))
    where
      one_long : (xs : List (Bor Text)) → length (texts xs) ≡ 1 → 0 < length xs
      one_long [] e = absurd (omega arith)
      one_long (x ∷ xs) e = omega arith
