-- The buffered bytes of a stream are written.
use Rattle.std.proofs.Common.{◌≡◌, ◌≤◌, ◌⊎◌, inl, inr, ℕ, List, [], take, Option, Result, Ok, Err, refl, sym, ap, ◌∙◌, append-nil, arith}
use Rattle.std.specs.Prelude.{IfErr, IsErrOf, OnOk}
use Rattle.std.proofs.lemmas.Grind.{div_ceil_times}
use Rattle.std.proofs.Math.Seq.{take-length}
use Rattle.pbm_core.specs.Image.{RowFault}
use Rattle.pbm_core.specs.Reading.{fault_of_given}
use Rattle.std.specs.Io.KnownBytes.{Keeps}
use Rattle.pbm_core.specs.declared.fault.PbmFault.{PbmFault}
use Rattle.pbm_core.specs.declared.fault.PbmFault.TheVariants as pbm
use Rattle.pbm_core.specs.declared.form.Form.TheVariants.{Raw, Plain}
use Rattle.pbm_core.specs.declared.form.Form.{Form}
use Rattle.raster_core.specs.Raster.{Raster}
use Rattle.t85_core.specs.Private.EncodeStripes.{ImageCoded, ImageShort, ImageRefused, ImageFront}
use Rattle.t85_core.specs.declared.fault.Fault.{Fault}
use Rattle.t85_core.specs.declared.fault.Fault.TheVariants.{Write, Pbm}
use Rattle.t85_core.specs.Encode.{raster_of, IsEncodeFault, layout_of}
use Rattle.t85_core.proofs.ImagesEncode.SinkTakes.{which, is_of}
use Rattle.t85_core.proofs.StreamsAreWalked.StripeIsPassed.{Consumes-none}
use Rattle.t85_core.specs.Jbg.{Settings}
use Rattle.t85_core.proofs.BytesJoin.CallsJoin.{Appends-keeps}
use Rattle.t85_core.specs.States.Passage.{passage}

module _ {form : Form} (width height' : ℕ) (whole : Raster → List ℕ) (known known' text old new : Option (List ℕ)) where
  pub coded_handed : ImageCoded (layout_of form width height') whole (passage known known' text old) → Keeps old new →
      ImageCoded (layout_of form width height') whole (passage known known' text new)
  coded_handed i k = record { rows = i.rows; many = i.many; read = i.read; appended = Appends-keeps text old new _ i.appended k }

  pub short_handed : {s : Settings} {up_to : Raster → ℕ → List ℕ} {fault : PbmFault} →
      ImageShort s (layout_of form width height') up_to whole (passage known known' text old) fault → Keeps old new →
      ImageShort s (layout_of form width height') up_to whole (passage known known' text new) fault
  short_handed i k = record {
    rows = i.rows;
    few = i.few;
    mid = i.mid;
    read = i.read;
    part = i.part;
    bytes = i.bytes;
    holds = i.holds;
    begins = i.begins;
    appended = Appends-keeps text old new _ i.appended k;
  }

  pub front_handed : ImageFront (layout_of form width height') whole (passage known known' text old) → Keeps old new →
      ImageFront (layout_of form width height') whole (passage known known' text new)
  front_handed i k = record {
    rows = i.rows;
    few = i.few;
    mid = i.mid;
    read = i.read;
    part = i.part;
    part_taken = i.part_taken;
    fault = i.fault;
    short = i.short;
    bytes = i.bytes;
    begins = i.begins;
    appended = Appends-keeps text old new _ i.appended k;
  }

-- no byte at all ends within a row
pub nothing_short : (form : Form) (width : ℕ) → 1 ≤ width → RowFault form width [] pbm.Truncated
nothing_short Raw width some = (let enough = (div_ceil_times width 8 (omega arith)).0 in omega arith, refl)
nothing_short Plain width some = record { pixels = []; digits = []; space = []; following = []; bytes_are = refl; few = omega arith; are_pixels = refl; is_space = tt; has_fault = refl }

module _ {form : Form} (width height' : ℕ) (whole : Raster → List ℕ) (known known' text text' : Option (List ℕ)) where
  -- some were, and nothing more
  pub refused_front : 1 ≤ width → ImageRefused (layout_of form width height') whole (passage known known' text text') →
      ImageFront (layout_of form width height') whole (passage known known' text text')
  refused_front some i = record {
    rows = i.rows;
    few = i.few;
    mid = known';
    read = i.read;
    part = [];
    part_taken = Consumes-none known';
    fault = pbm.Truncated;
    short = nothing_short form width some;
    bytes = i.bytes;
    begins = i.begins;
    appended = i.appended;
  }

  -- all rows were read
  pub coded_front : 1 ≤ width → ImageCoded (layout_of form width height') whole (passage known known' text text') →
      ImageFront (layout_of form width height') whole (passage known known' text text')
  coded_front some i = refused_front some (record {
    rows = i.rows;
    few = (let many = i.many in omega arith);
    read = i.read;
    bytes = whole (raster_of width i.rows);
    begins = λ raster b. record {
      rest = [];
      bytes_are =
          ap (λ w. whole (raster_of w raster.rows)) b.width_is
          ∙ ap (λ rows. whole (raster_of width rows)) (sym (take-length raster.rows) ∙ ap (λ n. take n raster.rows) (b.height_is ∙ sym i.many) ∙ b.first)
          ∙ sym (append-nil (whole (raster_of width i.rows)));
    };
    appended = i.appended;
  })

  -- some were, and a row of which less came
  pub short_front : {s : Settings} {up_to : Raster → ℕ → List ℕ} {fault : PbmFault} → ImageShort s (layout_of form width height') up_to whole (passage known known' text text') fault →
      ImageFront (layout_of form width height') whole (passage known known' text text')
  short_front {fault} i = record {
    rows = i.rows;
    few = (let less = i.few in omega arith);
    mid = i.mid;
    read = i.read;
    part = i.part.given;
    part_taken = i.part.taken;
    fault = fault_of_given fault;
    short = i.part.has_fault;
    bytes = i.bytes;
    begins = i.begins;
    appended = i.appended;
  }

  -- whatever the outcome is
  pub front_of : {s : Settings} {up_to : Raster → ℕ → List ℕ} → 1 ≤ width → (r : Result (Unit {0}) Fault) → OnOk r (ImageCoded (layout_of form width height') whole (passage known known' text text')) →
      (IsErrOf r Write → ImageRefused (layout_of form width height') whole (passage known known' text text')) → IfErr r IsEncodeFault →
      ((why : PbmFault) → IsErrOf r (Pbm why) → ImageShort s (layout_of form width height') up_to whole (passage known known' text text') why) →
      ImageFront (layout_of form width height') whole (passage known known' text text')
  front_of some (Ok x) coded refused among short = coded_front some coded
  front_of some (Err fault) coded refused among short = went (which fault among) where
    went : (fault ≡ Write) ⊎ ((why : PbmFault) × (fault ≡ Pbm why)) → ImageFront (layout_of form width height') whole (passage known known' text text')
    went (inl is) = refused_front some (refused (ap Err is))
    went (inr (why, is)) = short_front (short why (is_of is))
