-- Bytes in which pixels are looked for.
use Rattle.std.proofs.Common.{◌≡◌, ◌≤◌, inl, ℕ, Bool, List, [], ◌∷◌, ◌++◌, length, take, Option, None, Some, IfSome, Ok, refl, sym, ap, ◌∙◌, append-nil, append_assoc}
use Rattle.std.specs.List.{AllByRecursion}
use Rattle.pbm_core.specs.Pbm.{IsWhite}
use Rattle.pbm_core.specs.Image.{digit_of, ArePixels}
use Rattle.devices.specs.Device.{InputView}
use Rattle.pbm_core.specs.Reading.{Reads}
use Rattle.pbm_core.specs.Private.{MakeByte, FindsPixels, TakesPixels}
use Rattle.pbm_core.specs.declared.fault.PbmFault.{PbmFault}
use Rattle.pbm_core.proofs.ListsGrow.{All-push}
use Rattle.pbm_core.proofs.RowIsJudged.{pixels-append}

-- pixels, and then white space
pub record Scans (given : List ℕ) (pixels : List Bool) : Type 0 where
  pub digits : List ℕ
  pub space : List ℕ
  pub given_are : given ≡ digits ++ space
  pub are_pixels : ArePixels digits pixels
  pub is_space : AllByRecursion IsWhite space

pub scans-all : (given : List ℕ) (pixels : List Bool) → ArePixels given pixels → Scans given pixels
scans-all given pixels are = record { digits = given; space = []; given_are = sym (append-nil given); are_pixels = are; is_space = tt }

pub scans-white : (given : List ℕ) (pixels : List Bool) (b : ℕ) → Scans given pixels → IsWhite b → Scans (given ++ b ∷ []) pixels
scans-white given pixels b s white = record {
  digits = s.digits;
  space = s.space ++ b ∷ [];
  given_are = ap (λ z. z ++ b ∷ []) s.given_are ∙ append_assoc s.digits s.space (b ∷ []);
  are_pixels = s.are_pixels;
  is_space = All-push IsWhite s.space b s.is_space white;
}

pub scans-digit : (given : List ℕ) (pixels : List Bool) (b : ℕ) (black : Bool) → Scans given pixels → b ≡ digit_of black → ArePixels (given ++ b ∷ []) (pixels ++ black ∷ [])
scans-digit given pixels b black s is =
    rw (ap (λ z. z ++ b ∷ []) s.given_are ∙ append_assoc s.digits s.space (b ∷ []))
    (pixels-append s.digits (s.space ++ b ∷ []) pixels (black ∷ []) s.are_pixels (s.space, [], ap (λ n. s.space ++ n ∷ []) is, s.is_space, refl))

-- eight digits at the beginning
pub finds_eight : (bytes digits : List ℕ) (count : ℕ) → count ≡ 8 → 8 ≤ length bytes → digits ≡ take 8 bytes → (r : Option ℕ) → IfSome r (MakeByte 8 digits) →
    IfSome r (λ byte. FindsPixels count bytes (record { end = 8; byte = byte }))
finds_eight bytes digits count is long same None make = tt
finds_eight bytes digits count is long same (Some byte) make = record {
  within = long;
  make = rw is (rw (← same) make);
}

pub reads_pixels : {old new : InputView} {count byte : ℕ} {F : List ℕ → PbmFault → Type 0} → TakesPixels count old new byte → Reads old new (Ok byte) (MakeByte count) F
reads_pixels t = record {
  given = t.given;
  taken = t.taken;
  left = t.left;
  value = t.make;
  fault = tt;
  at_end = tt;
  failures = t.failures;
  same_input = record
      { same_source = t.same_source; drained = inl t.failures };
}
