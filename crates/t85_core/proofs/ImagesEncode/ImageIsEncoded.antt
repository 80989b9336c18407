-- From a header and the rows after it to what is said of a whole image that is encoded.
use Rattle.std.proofs.Common.{◌≡◌, ◌≢◌, ◌≤◌, ◌⊎◌, inl, inr, ℕ, Bool, true, false, List, [], ◌++◌, Option, None, Some, Err, refl, subst, append-nil, arith}
use Rattle.std.specs.Prelude.{IfSome}
use Rattle.std.specs.Io.KnownBytes.{Consumes}
use Rattle.t85_core.specs.Change.{between}
use Rattle.pbm_core.specs.Outcome.{HasHeader, HasFault, LeavesRest, WrittenIsRead}
use Rattle.pbm_core.specs.Pbm.{letters_of}
use Rattle.pbm_core.specs.Refusal.{HeaderFault}
use Rattle.pbm_core.specs.Reading.{fault_of_given, CountsPbmRead as CountsPbm}
use Rattle.pbm_core.specs.declared.fault.PbmFault.{PbmFault}
use Rattle.pbm_core.specs.declared.fault.PbmFault.TheVariants as pbm
use Rattle.pbm_core.specs.declared.form.Form.{Form}
use Rattle.pbm_core.specs.declared.form.Form.TheVariants.{Raw}
use Rattle.pbm_core.specs.declared.size.Size.{Size}
use Rattle.t85_core.specs.declared.fault.Fault.{Fault}
use Rattle.t85_core.specs.declared.fault.Fault.TheVariants.{AnnouncedLow, Write, OutOfMemory, Pbm}
use Rattle.t85_core.specs.Encode.{IsEncodeFault, layout_of}
use Rattle.t85_core.specs.ToJbg.{HasSize, RefusesPbm, ToJbg}
use Rattle.t85_core.specs.Jbg.{Settings, is_low}
use Rattle.t85_core.specs.Failures.{reads_after}
use Rattle.t85_core.proofs.BytesJoin.InputHoldsBytes.{Keeps-same}
use Rattle.t85_core.proofs.ImagesEncode.SinkTakes.{which}
use Rattle.t85_core.proofs.BodiesDecode.ImageLeavesBuffer.{counts_any}

pub not_no_memory : IsEncodeFault OutOfMemory → ⊥
not_no_memory p = p

pub among_faults : {f : Fault} → IsEncodeFault f → f ≢ OutOfMemory → f ≢ Write → (fault : PbmFault) × (f ≡ Pbm fault)
among_faults {f} p no_memory written = went (which f p) where
  went : (f ≡ Write) ⊎ ((fault : PbmFault) × (f ≡ Pbm fault)) → (fault : PbmFault) × (f ≡ Pbm fault)
  went (inl e) = absurd (written e)
  went (inr told) = told

-- the count of failed reads, as it was reported of the header
pub counts_told : {new : ℕ} (old : ℕ) (fault : PbmFault) → CountsPbm {T = Size × Form} old new (Err fault) → new ≡ reads_after (Pbm fault) old
counts_told old pbm.Read e = e
counts_told old f e = e

-- A header was taken, and nothing after it.
pub record TakesHeader (old new : Option (List ℕ)) (form : Form) (width height' : ℕ) : Type 0 where
  pub front : List ℕ
  pub taken : Consumes old new front
  pub header : (body : List ℕ) → HasHeader (front ++ body) form width height' body

-- the same header in a form
header_as : {bytes rest : List ℕ} {width height' : ℕ} {form : Form} {old new : Option (List ℕ)} → ((front : List ℕ) → Consumes old new front) → HasHeader bytes Raw width height' rest →
    TakesHeader old new form width height'
header_as {form} taken h = record {
  front = letters_of form ++ behind;
  taken = taken (letters_of form ++ behind);
  header = λ body. record {
    front = letters_of form ++ behind;
    bytes_are = refl;
    header = record {
      gap = h.header.gap;
      first = h.header.first;
      between = h.header.between;
      second = h.header.second;
      space = h.header.space;
      bytes_are = refl;
      is_gap = h.header.is_gap;
      is_width = h.header.is_width;
      is_between = h.header.is_between;
      is_height = h.header.is_height;
      is_space = h.header.is_space;
    };
    some_width = h.some_width;
    not_too_wide = h.not_too_wide;
    some_height = h.some_height;
    not_too_tall = h.not_too_tall;
  };
} where
  behind : List ℕ
  behind = h.header.gap ++ (h.header.first ++ (h.header.between ++ (h.header.second ++ h.header.space)))

-- where the bytes aren't known they may have been the header that would be written
pub takes_header : {old new : Option (List ℕ)} {form : Form} (size : Size) → WrittenIsRead → size.height ≤ 4294967295 →
    LeavesRest old new (λ bytes rest. HasHeader bytes form size.width size.height rest) →
    TakesHeader old new form size.width size.height
takes_header {old = None} size law fits leaves =
    header_as (λ front. tt) (law size.width size.height [] size.some_width size.not_too_wide size.some_height fits)
takes_header {old = (Some bytes)} {new = None} size law fits leaves = absurd leaves
takes_header {old = (Some bytes)} {new = (Some rest)} size law fits leaves = record {
  front = leaves.front;
  taken = leaves.bytes_are;
  header = λ body. record {
    front = leaves.front;
    bytes_are = refl;
    header = leaves.header;
    some_width = leaves.some_width;
    not_too_wide = leaves.not_too_wide;
    some_height = leaves.some_height;
    not_too_tall = leaves.not_too_tall;
  };
}

module _ (s : Settings) (in_old in_new : Option (List ℕ)) (reads_old reads_new : ℕ) (out : Option (List ℕ)) (writes : ℕ) (flushed : Bool) where
  -- the header was refused
  pub refused_header : (fault : PbmFault) → (fault ≢ pbm.Read → IfSome in_old (λ bytes. HasFault bytes fault)) → (given : List ℕ) → Consumes in_old in_new given →
      HeaderFault given (fault_of_given fault) → CountsPbm {T = Size × Form} reads_old reads_new (Err fault) →
      ToJbg s (between in_old in_new reads_old reads_new) (between out out writes writes) flushed (Err (Pbm fault))
  refused_header fault has given taken shows counted = record {
    whole = tt;
    taken = tt;
    flushed_last = tt;
    refused = λ other read is. (let same : fault ≡ other = cc in refused in_old other (subst (λ x. x ≢ pbm.Read → IfSome in_old (λ bytes. HasFault bytes x)) same has read));
    low = λ e. absurd (let bot : ⊥ = cc in bot);
    no_memory = λ e. absurd (let bot : ⊥ = cc in bot);
    unread = λ is. (let same : fault ≡ pbm.Read = cc in (given, taken, inl (subst (λ x. HeaderFault given (fault_of_given x)) same shows, Keeps-same out)));
    cut = λ e. absurd (let bot : ⊥ = cc in bot);
    among = λ _ _ _. (fault, refl);
    reads = counts_any reads_old reads_new (Pbm fault) (counts_told reads_old fault counted);
    writes = omega arith;
  } where
    refused : (old : Option (List ℕ)) (other : PbmFault) → IfSome old (λ bytes. HasFault bytes other) → IfSome old (λ bytes. RefusesPbm s bytes other out out)
    refused None other h = tt
    refused (Some bytes) other h = inl (h, Keeps-same out)

  module _ (form : Form) (width height' : ℕ) (t : TakesHeader in_old in_new form width height') where
    size_alone : (low : Bool) → is_low s height' ≡ low → (given : List ℕ) × Consumes in_old in_new given × HasSize s low given
    size_alone low is = (t.front, t.taken, record { layout = layout_of form width height'; header = rw (← append-nil t.front) (t.header []); low_is = is })

    -- the announced height is too low
    pub too_low : is_low s height' ≡ true → reads_new ≡ reads_old → ToJbg s (between in_old in_new reads_old reads_new) (between out out writes writes) flushed (Err AnnouncedLow)
    too_low is counted = record {
      whole = tt;
      taken = tt;
      flushed_last = tt;
      refused = λ fault _ e. absurd (let bot : ⊥ = cc in bot);
      low = λ _. (Keeps-same out, (size_alone true is).0, (size_alone true is).1, (size_alone true is).2);
      no_memory = λ e. absurd (let bot : ⊥ = cc in bot);
      unread = λ e. absurd (let bot : ⊥ = cc in bot);
      cut = λ e. absurd (let bot : ⊥ = cc in bot);
      among = λ n _ _. absurd (n refl);
      reads = omega arith;
      writes = omega arith;
    }

    -- the window's memory was refused
    pub no_room : is_low s height' ≡ false → reads_new ≡ reads_old → ToJbg s (between in_old in_new reads_old reads_new) (between out out writes writes) flushed (Err OutOfMemory)
    no_room is counted = record {
      whole = tt;
      taken = tt;
      flushed_last = tt;
      refused = λ fault _ e. absurd (let bot : ⊥ = cc in bot);
      low = λ e. absurd (let bot : ⊥ = cc in bot);
      no_memory = λ _. (Keeps-same out, (size_alone false is).0, (size_alone false is).1, (size_alone false is).2);
      unread = λ e. absurd (let bot : ⊥ = cc in bot);
      cut = λ e. absurd (let bot : ⊥ = cc in bot);
      among = λ _ n _. absurd (n refl);
      reads = omega arith;
      writes = omega arith;
    }
