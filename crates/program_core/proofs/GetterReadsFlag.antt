-- The result of the typed getter of a flag, as a function of the text.
use Rattle.std.proofs.Common.{◌≡◌, Bool, Option, Some, None, true, false, refl, ap, sym, codes}
use Rattle.std.specs.Prelude.{Result, Ok, Err}
use Rattle.std.proofs.lemmas.Slice.Eq.{bytes_eq-Decides}
use Rattle.std.specs.Option.{option_map_or, unwrap_or}
use Rattle.std.specs.Str.{bytes_eq}
use Rattle.std.specs.Str.Parse.{ParsesBool, true_text}
use Rattle.clap.specs.Words.{ReadsOne, Text, one_text, rows_of}
use Rattle.clap.proofs.WalkLemmas.{one_text-rows}
use Rattle.clap.specs.declared.parser.matches.Found.{Found}
use Rattle.program_core.specs.Line.{flag_in}

-- `get_one::<bool>`, and false where that is `None`
pub flag_read : {E : Type 0} (G : Text → Result Bool E → Type 0) → ((t : Text) (x : Result Bool E) → G t x → ParsesBool t x)
    → (o : Option Text) (r : Option Bool) → (o ≡ None → r ≡ None) → ((t : Text) → o ≡ Some t → ReadsOne G t r)
    → unwrap_or r false ≡ option_map_or (λ t. bytes_eq t (codes "true")) o false
flag_read G only None r none value = rw (none refl) refl
flag_read G only (Some t) (Some true) none value =
    let is : t ≡ true_text = only t (Ok true) (value t refl) in
    rw is refl
flag_read G only (Some t) (Some false) none value = rw (only t (Ok false) (value t refl)) refl
flag_read G only (Some t) None none value = go (bytes_eq t (codes "true")) refl
  where
    go : (b : Bool) → bytes_eq t (codes "true") ≡ b → false ≡ bytes_eq t (codes "true")
    go false e = sym e
    go true e =
        let got = value t refl in
        absurd ((only t (Err got.0) got.1).0 ((bytes_eq-Decides t (codes "true")).0 e))

-- a flag as the matches give it
pub flag_of_rows : (f : Found) (id : Text) → option_map_or (λ t. bytes_eq t (codes "true")) (one_text f id) false ≡ flag_in id (rows_of f)
flag_of_rows f id = ap (λ (o : Option Text). option_map_or (λ t. bytes_eq t (codes "true")) o false) (one_text-rows f id)
