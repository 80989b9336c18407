-- A stream with its head, from its stripes.
use Rattle.std.proofs.Common.{◌≡◌, ℕ, Bool, List, [], ◌++◌, arith, map, Option, None, Some, option_to_list, sym, ap, ◌∙◌, subst, append_assoc, append-nil}
use Rattle.std.specs.Prelude.{flat_map, Result}
use Rattle.std.specs.Io.KnownBytes.{Appends}
use Rattle.pbm_core.specs.declared.form.Form.{Form}
use Rattle.raster_core.specs.Raster.{Raster, height}
use Rattle.t85_core.specs.declared.fault.Fault.{Fault}
use Rattle.t85_core.specs.Failures.{CountsWrite}
use Rattle.t85_core.specs.Encode.{BeginsWith, layout_of}
use Rattle.t85_core.specs.Private.EncodeStripes.{ImageRefused}
use Rattle.devices.specs.Device.{AppendsBeginning}
use Rattle.t85_core.specs.Grammar.{Comment, segment_bytes}
use Rattle.t85_core.specs.Header.{header_bytes}
use Rattle.t85_core.specs.Jbg.{Settings, header_of, head_of, stripes_of, jbg, ending}
use Rattle.t85_core.proofs.ImagesEncode.RowsJoin.{reads_none}
use Rattle.t85_core.proofs.BytesJoin.CallsJoin.{Appends-more, beginning_longer, beginning_after}
use Rattle.t85_core.specs.States.Passage.{passage}

-- no write failed before
pub counts_on : {T : Type 0} {old mid : ℕ} (new : ℕ) (r : Result T Fault) → mid ≡ old → CountsWrite mid new r → CountsWrite old new r
counts_on new r same counts = rw (← same) counts

abbrev comment_of : Option (List ℕ) → List ℕ
comment_of comment = flat_map segment_bytes (map Comment (option_to_list comment))

-- the header was written, and there is no comment
pub head_plain : {bytes : List ℕ} (s : Settings) (width height' : ℕ) (a b : Option (List ℕ)) → bytes ≡ header_bytes (header_of s width height') → s.comment ≡ None →
    Appends a b bytes →
    Appends a b (head_of s width height')
head_plain s width height' a b is none put =
    rw (none, append-nil (header_bytes (header_of s width height')), ← is) put

-- the header was written, and the comment after it
pub head_commented : {bytes text : List ℕ} (s : Settings) (width height' : ℕ) (a b c : Option (List ℕ)) → bytes ≡ header_bytes (header_of s width height') →
    s.comment ≡ Some text → Appends a b bytes →
    Appends b c (segment_bytes (Comment text)) → Appends a c (head_of s width height')
head_commented {bytes} {text} s width height' a b c is some put more =
    subst (λ z. Appends a c (z ++ comment_of s.comment)) is
    (Appends-more a b c bytes (comment_of s.comment) put
    (subst (λ z. Appends b c z) (sym (append-nil (segment_bytes (Comment text))) ∙ ap comment_of (sym some)) more))

-- the head of each image that is meant
same_head : {width height' : ℕ} {rows : List (List Bool)} {raster : Raster} (s : Settings) → BeginsWith width height' rows raster →
    head_of s width height' ≡ head_of s raster.width (height raster)
same_head {height'} {raster} s b = ap (λ n. head_of s n height') (sym b.width_is) ∙ ap (head_of s raster.width) (sym b.height_is)

-- the target took no more of the head
pub head_refused : {form : Form} {text text' : Option (List ℕ)} (s : Settings) (width height' : ℕ) (known : Option (List ℕ)) → AppendsBeginning text text' (head_of s width height') →
    ImageRefused (layout_of form width height') (λ raster. jbg s raster) (passage known known text text')
head_refused s width height' known p = record {
  rows = [];
  few = omega arith;
  read = reads_none;
  bytes = p.front;
  begins = λ raster b. record {
    rest = p.rest ++ (stripes_of s raster ++ ending s (height raster));
    bytes_are = append_assoc (head_of s raster.width (height raster)) (stripes_of s raster) (ending s (height raster))
        ∙ ap (λ z. z ++ (stripes_of s raster ++ ending s (height raster))) (sym (same_head s b) ∙ p.text_is) ∙ append_assoc p.front p.rest (stripes_of s raster ++ ending s (height raster));
  };
  appended = p.appends;
}

-- of the header
pub header_cut : {a b : Option (List ℕ)} {bytes : List ℕ} (s : Settings) (width height' : ℕ) → bytes ≡ header_bytes (header_of s width height') → AppendsBeginning a b bytes →
    AppendsBeginning a b (head_of s width height')
header_cut {a} {b} s width height' is p =
    subst (λ z. AppendsBeginning a b (z ++ comment_of s.comment)) is (beginning_longer (comment_of s.comment) p)

-- of the comment
pub comment_cut : {a b c : Option (List ℕ)} {bytes text : List ℕ} (s : Settings) (width height' : ℕ) → bytes ≡ header_bytes (header_of s width height') → s.comment ≡ Some text →
    Appends a b bytes →
    AppendsBeginning b c (segment_bytes (Comment text)) → AppendsBeginning a c (head_of s width height')
comment_cut {a} {b} {c} {bytes} {text} s width height' is some put more =
    subst (λ z. AppendsBeginning a c (z ++ comment_of s.comment)) is
    (beginning_after bytes put
    (subst (λ z. AppendsBeginning b c z) (sym (append-nil (segment_bytes (Comment text))) ∙ ap comment_of (sym some)) more))
