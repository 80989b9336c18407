-- From a header and the rows after it to what is said of a whole image that was written, or begun.
use Rattle.std.proofs.Common.{◌≡◌, inl, inr, ℕ, Bool, true, false, ap, List, ◌++◌, Option, Ok, Err, refl, sym, ◌∙◌, subst, append-nil}
use Rattle.std.specs.Io.KnownBytes.{Consumes, Keeps}
use Rattle.devices.specs.Device.{one_more}
use Rattle.t85_core.specs.Change.{between}
use Rattle.pbm_core.specs.declared.fault.PbmFault.{PbmFault}
use Rattle.pbm_core.specs.declared.fault.PbmFault.TheVariants as pbm
use Rattle.pbm_core.specs.declared.form.Form.{Form}
use Rattle.t85_core.specs.declared.fault.Fault.{Fault}
use Rattle.t85_core.specs.declared.fault.Fault.TheVariants.{Write, OutOfMemory}
use Rattle.t85_core.specs.Encode.{raster_of, IsEncodeFault, WritesCode, WritesCodeBegun, WritesCodeFront, AreAllRows, Encode, layout_of}
use Rattle.t85_core.specs.ToJbg.{IsImage, WritesStreamFront, WritesStream, WritesStreamBegun, RefusesPbm, ToJbg}
use Rattle.t85_core.specs.Jbg.{Settings, is_low, jbg}
use Rattle.t85_core.proofs.ImagesEncode.ImageIsEncoded.{TakesHeader, among_faults, not_no_memory}
use Rattle.t85_core.proofs.BytesJoin.InputHoldsBytes.{Keeps-same}
use Rattle.t85_core.proofs.BytesJoin.CallsJoin.{Appends-keeps, Consumes-more, known_behind}

module _ {in_old mid : Option (List ℕ)} {reads_old reads_mid width height' : ℕ} {form : Form} (s : Settings) (in_new : Option (List ℕ)) (reads_new : ℕ) (out_old out_new : Option (List ℕ))
    (writes_old writes_new : ℕ) (t : TakesHeader in_old mid form width height') (counted : reads_mid ≡ reads_old) where
  -- a write failed, or the flush after all that was written
  cut_at : {given : List ℕ} {out_last : Option (List ℕ)} → is_low s height' ≡ false → Keeps out_new out_last → Consumes mid in_new given →
      WritesCodeFront s (layout_of form width height') given out_old out_new → (all : List ℕ) × Consumes in_old in_new all × WritesStreamFront s all out_old out_last
  cut_at {given} {out_last} fits keeps taken w = (
    t.front ++ given,
    Consumes-more in_old mid in_new t.front given t.taken taken,
    record {
      layout = layout_of form width height';
      body = given;
      header = t.header given;
      fits = fits;
      writes = record {
        rows = w.rows;
        rest = w.rest;
        holds = w.holds;
        few = w.few;
        fault = w.fault;
        part = w.part;
        text = w.text;
        begins = w.begins;
        appends = Appends-keeps out_old out_new out_last w.text w.appends keeps;
      };
    },
  )

  pub image_unflushed : {writes_last : ℕ} {flushed : Bool} (out_last : Option (List ℕ)) →
      Encode s (layout_of form width height') (between mid in_new reads_mid reads_new) (between out_old out_new writes_old writes_new) (Ok tt) → Keeps out_new out_last →
      writes_last ≡ one_more writes_new → ToJbg s (between in_old in_new reads_old reads_new) (between out_old out_last writes_old writes_last) flushed (Err Write)
  image_unflushed out_last e keeps more = record {
    whole = tt;
    taken = tt;
    flushed_last = tt;
    refused = λ fault _ is. absurd (let bot : ⊥ = cc in bot);
    low = λ is. absurd (let bot : ⊥ = cc in bot);
    no_memory = λ is. absurd (let bot : ⊥ = cc in bot);
    unread = λ is. absurd (let bot : ⊥ = cc in bot);
    cut = λ _. cut_at e.not_low keeps e.front.1 e.front.2;
    among = λ _ _ n. absurd (n refl);
    reads = inl (e.reads ∙ counted);
    writes = rw (more, e.writes);
  }

  -- rows are missing, or a device failed
  pub image_broken : {f : Fault} {flushed : Bool} → is_low s height' ≡ false →
      Encode s (layout_of form width height') (between mid in_new reads_mid reads_new) (between out_old out_new writes_old writes_new) (Err f) →
      ToJbg s (between in_old in_new reads_old reads_new) (between out_old out_new writes_old writes_new) flushed (Err f)
  image_broken {f} fits e = record {
    whole = tt;
    taken = tt;
    flushed_last = tt;
    refused = λ fault read is.
        known_behind (λ bytes. RefusesPbm s bytes fault out_old out_new) (λ body. WritesCodeBegun s (layout_of form width height') body fault out_old out_new) in_old mid t.front t.taken
        (e.short fault read is) (λ body w. inr (some fault body w));
    low = λ is. absurd (not_low_told (e.low is).0);
    no_memory = λ is. absurd (not_no_memory (subst IsEncodeFault (let same : f ≡ OutOfMemory = cc in same) may));
    unread = λ is. (let u = e.unread is in (t.front ++ u.0, Consumes-more in_old mid in_new t.front u.0 t.taken u.1, inr (some pbm.Truncated u.0 u.2)));
    cut = λ _. cut_at fits (Keeps-same out_new) e.front.1 e.front.2;
    among = λ _. among_faults may;
    reads = rw (← counted) e.reads;
    writes = e.writes;
  } where
    not_low_told : is_low s height' ≡ true → ⊥
    not_low_told is = let both = sym is ∙ fits in let bot : ⊥ = cc in bot

    may : IsEncodeFault f
    may = e.among (λ is. not_low_told (e.low (ap Err is)).0)

    some : (fault : PbmFault) (body : List ℕ) → WritesCodeBegun s (layout_of form width height') body fault out_old out_new → WritesStreamBegun s (t.front ++ body) fault out_old out_new
    some fault body w = record { layout = layout_of form width height'; body = body; header = t.header body; fits = fits; writes = w }

  -- the stream was written, and flushed
  pub image_whole : {flushed : Bool} {writes_last : ℕ} (out_last : Option (List ℕ)) →
      Encode s (layout_of form width height') (between mid in_new reads_mid reads_new) (between out_old out_new writes_old writes_new) (Ok tt) → Keeps out_new out_last → flushed ≡ true →
      writes_last ≡ writes_new → ToJbg s (between in_old in_new reads_old reads_new) (between out_old out_last writes_old writes_last) flushed (Ok tt)
  image_whole out_last e keeps last same = record {
    whole = known_behind (λ bytes. WritesStream s bytes out_old out_last) (λ body. WritesCode s (layout_of form width height') body out_old out_new) in_old mid t.front t.taken e.whole whole;
    taken = (t.front ++ e.taken.0, Consumes-more in_old mid in_new t.front e.taken.0 t.taken e.taken.1, image e.taken.0 e.taken.2);
    flushed_last = last;
    refused = λ fault _ is. absurd (let bot : ⊥ = cc in bot);
    low = λ is. absurd (let bot : ⊥ = cc in bot);
    no_memory = λ is. absurd (let bot : ⊥ = cc in bot);
    unread = λ is. absurd (let bot : ⊥ = cc in bot);
    cut = λ is. absurd (let bot : ⊥ = cc in bot);
    among = tt;
    reads = e.reads ∙ counted;
    writes = same ∙ e.writes;
  } where
    image : (given : List ℕ) → AreAllRows form width height' given → IsImage (t.front ++ given)
    image given all = record {
      width = width;
      rows = all.rows;
      is = record {
        form = form;
        body = given;
        header = rw all.many (t.header given);
        holds = record { front = given; bytes_are = sym (append-nil given); are_rows = all.are_rows };
      };
    }

    whole : (body : List ℕ) → WritesCode s (layout_of form width height') body out_old out_new → WritesStream s (t.front ++ body) out_old out_last
    whole body w = record {
      raster = raster_of width w.rows;
      rest = w.rest;
      is = record {
        form = form;
        body = body;
        header = rw w.many (t.header body);
        holds = w.holds;
      };
      proper = w.denotes.denotes.proper;
      appends = Appends-keeps out_old out_new out_last (jbg s (raster_of width w.rows)) w.appends keeps;
      denotes = w.denotes;
    }
