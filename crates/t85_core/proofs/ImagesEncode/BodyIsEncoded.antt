-- From what encoding took and wrote to what is said of the whole body.
use Rattle.std.proofs.Common.{◌≡◌, ◌≤◌, ◌<◌, ◌^◌, true, ℕ, List, [], ◌++◌, length, Option, None, Some, Result, refl, sym, ap, ◌∙◌, append_assoc, append-nil, subst, arith, Bor, option_map, ◌≢◌, nat_lt, false, Ok, Err}
use Rattle.std.proofs.lemmas.Bool.Decides.{nat_tests}
use Rattle.std.specs.Prelude.{IfSome, OnOk, IfErr, IsErrOf, unwrap_or}
use Rattle.std.specs.Option.{option_map_or}
use Rattle.std.specs.Io.KnownBytes.{Consumes, IsAtEnd, append_known}
use Rattle.t85_core.specs.Change.{Change, between}
use Rattle.pbm_core.specs.declared.fault.PbmFault.{PbmFault}
use Rattle.pbm_core.specs.declared.fault.PbmFault.TheVariants as pbm
use Rattle.pbm_core.specs.declared.form.Form.{Form}
use Rattle.pbm_core.specs.Reading.{fault_of_given}
use Rattle.raster_core.specs.Raster.{IsRaster}
use Rattle.t85_core.specs.declared.fault.Fault.{Fault}
use Rattle.t85_core.specs.declared.fault.Fault.TheVariants.{AnnouncedLow, Pbm}
use Rattle.t85_core.specs.declared.options.Options.{Options}
use Rattle.t85_core.specs.Encode.{raster_of, IsEncodeFault, WritesCode, WritesCodeBegun, WritesCodeFront, Encode, Layout, layout_of}
use Rattle.t85_core.specs.Private.EncodeStripes.{ImageCoded, ImageShort, ImageFront}
use Rattle.t85_core.specs.RowSink.{known_length}
use Rattle.t85_core.specs.Jbg.{Settings, AreSettings, jbg, jbg_up_to, is_low}
use Rattle.t85_core.specs.Options.{settings_of}
use Rattle.t85_core.specs.Laws.{CodeDenotes}
use Rattle.t85_core.specs.Failures.{CountsBoth, CountsWrite}
use Rattle.t85_core.proofs.StreamsDenote.StripesMakeBody.{none_named}
use Rattle.t85_core.proofs.BytesJoin.WalkEnds.{on_ok, map_ok, always}
use Rattle.t85_core.proofs.BytesJoin.InputHoldsBytes.{Keeps-same}
use Rattle.t85_core.proofs.ImagesEncode.StreamLeavesBuffer.{nothing_short}
use Rattle.t85_core.proofs.StreamsAreWalked.StripeIsPassed.{Consumes-none}
use Rattle.t85_core.proofs.BodiesDecode.RowIsPut.{appends_nothing}
use Rattle.t85_core.proofs.ImagesEncode.BytesHoldRows.{rows_hold, rows_wide}
use Rattle.t85_core.proofs.BytesJoin.CallsJoin.{Consumes-more, beginning_all, known_all}
use Rattle.t85_core.proofs.BytesJoin.OutputHoldsBytes.{beginning_handed}
use Rattle.t85_core.specs.States.Passage.{passage}

comment_fits : (comment : Option (Bor (List ℕ))) → option_map_or (λ c. length c.now) comment 0 < 2 ^ 32 → length (unwrap_or (option_map (λ c. c.now) comment) []) < 2 ^ 32
comment_fits None fits = fits
comment_fits (Some text) fits = fits

announced_small : (o : Option ℕ) → option_map_or (λ n. n) o 0 < 2 ^ 32 → unwrap_or o 0 < 2 ^ 32
announced_small None fits = fits
announced_small (Some n) fits = fits

-- what options say is in its ranges
pub are_settings : (o : Options) → AreSettings (settings_of o)
are_settings o = record {
  options_to = o.no_reserved_bit;
  no_low_bit = o.no_low_bit;
  no_layer_bit = rw o.no_layer_bit;
  stripe_from = o.some_rows;
  stripe_to = o.not_too_many;
  offset_to = o.in_range;
  announced_to = announced_small o.announced o.announced_fits;
  comment_to = comment_fits o.comment o.comment_fits;
  named_to = none_named (settings_of o) o.most_offset refl;
}

not_low : (a b : ℕ) → nat_lt a b ≡ false → b ≤ a
not_low a b e = grind (arith, nat_tests)

none_low : (r : Result (Unit {0}) Fault) → IfErr r IsEncodeFault → IsErrOf r AnnouncedLow → ⊥
none_low (Ok u) a e = let bot : ⊥ = cc in bot
none_low (Err f) a e = let same : f ≡ AnnouncedLow = cc in subst IsEncodeFault same a

always_err : (r : Result (Unit {0}) Fault) {P : Type 0} → P → IfErr r (λ f. f ≢ AnnouncedLow → P)
always_err (Ok u) p = tt
always_err (Err f) p = λ _. p

among_else : (r : Result (Unit {0}) Fault) → IfErr r IsEncodeFault → IfErr r (λ f. f ≢ AnnouncedLow → IsEncodeFault f)
among_else (Ok u) a = tt
among_else (Err f) a = λ _. a

-- a width and a height within the limits of a raster
pub record IsSize (width height' : ℕ) : Type 0 where
  pub width_from : 1 ≤ width
  pub width_to : width ≤ 2 ^ 20
  pub height_from : 1 ≤ height'
  pub height_to : height' < 2 ^ 32

-- a fault that is no failed read is the one of what came
fault_stays : (fault : PbmFault) → fault ≢ pbm.Read → fault_of_given fault ≡ fault
fault_stays pbm.Read other = absurd (other refl)
fault_stays fault other = refl

module _ (s : Settings) (form : Form) (width height' : ℕ) (in_old in_new out_old out_new : Option (List ℕ)) where
  -- all rows were read and written
  code_whole : CodeDenotes → AreSettings s → is_low s height' ≡ false → IsSize width height' →
      ImageCoded (layout_of form width height') (λ raster. jbg s raster) (passage in_old in_new out_old out_new) →
      IfSome in_old (λ body. WritesCode s (layout_of form width height') body out_old out_new)
  code_whole law are low size i = known_all (λ body. WritesCode s (layout_of form width height') body out_old out_new) in_old in_new i.read.given i.read.taken whole where
    proper : IsRaster (raster_of width i.rows)
    proper = record {
      width_from = size.width_from;
      width_to = size.width_to;
      height_from = omega arith;
      height_to = omega arith;
      rows = rows_wide form width i.read.given i.rows i.read.are_rows;
    }

    whole : (rest : List ℕ) → WritesCode s (layout_of form width height') (i.read.given ++ rest) out_old out_new
    whole rest = record {
      rows = i.rows;
      rest = rest;
      holds = rows_hold i.read.given i.read.are_rows;
      many = i.many;
      appends = i.appended;
      denotes = law s (raster_of width i.rows) are proper (rw i.many (not_low (unwrap_or s.announced height') height' low));
    }

  module _ (fault : PbmFault) (i : ImageShort s (layout_of form width height') (λ raster n. jbg_up_to s raster n) (λ raster. jbg s raster) (passage in_old in_new out_old out_new) fault) where
    -- what was taken
    abbrev given : List ℕ
    given = i.read.given ++ i.part.given

    taken : Consumes in_old in_new given
    taken = Consumes-more in_old i.mid in_new i.read.given i.part.given i.read.taken i.part.taken

    -- whatever is left
    begun : (left : List ℕ) → (fault_of_given fault ≡ pbm.Truncated → left ≡ []) → WritesCodeBegun s (layout_of form width height') (given ++ left) (fault_of_given fault) out_old out_new
    begun left at_end = record {
      rows = i.rows;
      rest = i.part.given ++ left;
      holds = rw (append_assoc i.read.given i.part.given left) (rows_hold i.read.given i.read.are_rows);
      few = i.few;
      part = record { front = i.part.given; rest = left; bytes_are = refl; shows = i.part.has_fault; at_end = at_end };
      text = i.bytes;
      begun = λ raster b. record { holds = i.holds raster b; begins = i.begins raster b };
      appends = i.appended;
    }

    -- the rows have a fault
    code_short : fault ≢ pbm.Read → IfSome in_old (λ body. WritesCodeBegun s (layout_of form width height') body fault out_old out_new)
    code_short other = went in_old in_new taken i.part.at_end where
      went : (old new : Option (List ℕ)) → Consumes old new given → (fault ≡ pbm.Truncated → IsAtEnd new) →
          IfSome old (λ body. WritesCodeBegun s (layout_of form width height') body fault out_old out_new)
      went None new took end = tt
      went (Some body) None took end = absurd took
      went (Some body) (Some left) took end =
          rw (took, ← fault_stays fault other) (begun left (λ is. end (sym (fault_stays fault other) ∙ is)))

  -- a read failed within the rows
  code_unread : ImageShort s (layout_of form width height') (λ raster n. jbg_up_to s raster n) (λ raster. jbg s raster) (passage in_old in_new out_old out_new) pbm.Read →
      (all : List ℕ) × Consumes in_old in_new all × WritesCodeBegun s (layout_of form width height') all pbm.Truncated out_old out_new
  code_unread i = (
    given pbm.Read i,
    taken pbm.Read i,
    rw (← append-nil (given pbm.Read i)) (begun pbm.Read i [] (λ _. refl)),
  )

  -- what is written is a beginning of what was written
  front_written : (held : List ℕ) → known_length out_old ≤ known_length out_new →
      ImageFront (layout_of form width height') (λ raster. jbg s raster) (passage in_old in_new out_old (append_known out_new held)) →
      (given : List ℕ) × Consumes in_old in_new given × WritesCodeFront s (layout_of form width height') given out_old out_new
  front_written held grows i =
      let p = beginning_handed out_new held grows (beginning_all i.appended) in (
        i.read.given ++ i.part,
        Consumes-more in_old i.mid in_new i.read.given i.part i.read.taken i.part_taken,
        record {
          rows = i.rows;
          rest = i.part;
          holds = rows_hold i.read.given i.read.are_rows;
          few = i.few;
          fault = i.fault;
          part = i.short;
          text = p.front;
          begins = λ raster b. (let q = i.begins raster b in record { rest = p.rest ++ q.rest; bytes_are = q.bytes_are ∙ ap (λ z. z ++ q.rest) p.text_is ∙ append_assoc p.front p.rest q.rest });
          appends = p.appends;
        },
      )

  pub encoded : {r : Result (Unit {0}) Fault} {reads_old reads_new writes_old writes_new : ℕ} (held : List ℕ) → CodeDenotes → AreSettings s → is_low s height' ≡ false → IsSize width height' →
      OnOk r (ImageCoded (layout_of form width height') (λ raster. jbg s raster) (passage in_old in_new out_old out_new)) →
      ((fault : PbmFault) → IsErrOf r (Pbm fault) → ImageShort s (layout_of form width height') (λ raster n. jbg_up_to s raster n) (λ raster. jbg s raster)
      (passage in_old in_new out_old out_new) fault) →
      IfErr r IsEncodeFault → CountsBoth reads_old reads_new r × CountsWrite writes_old writes_new r →
      (known_length out_old ≤ known_length out_new) × ImageFront (layout_of form width height') (λ raster. jbg s raster) (passage in_old in_new out_old (append_known out_new held)) →
      Encode s (layout_of form width height') (between in_old in_new reads_old reads_new) (between out_old out_new writes_old writes_new) r
  encoded {r} held law are low size ok short among counts reached = record {
    low = λ e. absurd (none_low r among e);
    not_low = always r low;
    told_if_low = always_err r low;
    whole = on_ok r (λ is i. code_whole law are low is i) (always r size) ok;
    taken = map_ok r (λ i. (i.read.given, i.read.taken, record { rows = i.rows; are_rows = i.read.are_rows; many = i.many })) ok;
    short = λ fault other e. code_short fault (short fault e) other;
    unread = λ e. code_unread (short pbm.Read e);
    front = front_written held reached.0 reached.1;
    among = among_else r among;
    reads = counts.0;
    writes = counts.1;
  }

-- the output before its loan, and at the loan's end
pub encodes_at : {W : Type 0} {s : Settings} {before : Option (List ℕ)} {count : ℕ} {output output' : W} {r : Result (Unit {0}) Fault} {layout : Layout} {input : Change}
    (contents : W → Option (List ℕ)) (failures : W → ℕ) (start : W) → before ≡ contents start → count ≡ failures start → output ≡ output' →
    Encode s layout input (between before (contents output) count (failures output)) r → Encode s layout input (between (contents start) (contents output') (failures start) (failures output')) r
encodes_at {s} {before} {output} {r} contents failures start text n same e =
    rw (← same, ← text, ← n) e

-- an announced height that is too low is reported at once
pub told_low : {s : Settings} (form : Form) (width height' : ℕ) (known text : Option (List ℕ)) (reads writes : ℕ) → 1 ≤ width → is_low s height' ≡ true →
    Encode s (layout_of form width height') (between known known reads reads) (between text text writes writes) (Err AnnouncedLow)
told_low {s} form width height' known text reads writes some is = record {
  low = λ _. (is, Keeps-same known, Keeps-same text);
  not_low = tt;
  told_if_low = λ n. absurd (n refl);
  whole = tt;
  taken = tt;
  short = λ fault _ e. absurd (let bot : ⊥ = cc in bot);
  unread = λ e. absurd (let bot : ⊥ = cc in bot);
  front = (
    [],
    Consumes-none known,
    record {
      rows = [];
      rest = [];
      holds = rows_hold [] refl;
      few = omega arith;
      fault = pbm.Truncated;
      part = nothing_short form width some;
      text = [];
      begins = λ raster _. record { rest = jbg s raster; bytes_are = refl };
      appends = appends_nothing text;
    },
  );
  among = λ n. absurd (n refl);
  reads = omega arith;
  writes = omega arith;
}
