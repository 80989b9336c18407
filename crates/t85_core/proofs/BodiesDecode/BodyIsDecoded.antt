-- From what decoding took and wrote to what is said of the whole body.
use Rattle.std.proofs.Common.{◌≡◌, ◌≢◌, ◌<◌, ◌^◌, ◌≤◌, ◌⊎◌, inl, inr, ℕ, Bool, List, [], ◌++◌, not, count_by, Option, None, Some, Result, Ok, Err, refl, sym, ap, ◌∙◌, subst, append_assoc, arith}
use Rattle.std.specs.Prelude.{IfSome, OnOk, IfErr, IsErrOf, flat_map}
use Rattle.std.specs.Io.KnownBytes.{Appends, Consumes, prepend_known, append_known}
use Rattle.devices.specs.Device.{AppendsBeginning, one_more}
use Rattle.t85_core.specs.Change.{between}
use Rattle.pbm_core.specs.Pbm.{header_text}
use Rattle.qm_core.specs.Code.{stuffed}
use Rattle.raster_core.specs.Raster.{Raster}
use Rattle.raster_core.specs.Packed.{packed_row}
use Rattle.t85_core.specs.declared.fault.Fault.{Fault}
use Rattle.t85_core.specs.declared.fault.Fault.TheVariants.{Truncated, Read, Write}
use Rattle.t85_core.specs.Header.{Fields}
use Rattle.t85_core.specs.Grammar.{segment_bytes, stripe_bytes, is_move, is_nil}
use Rattle.t85_core.specs.Refusal.{spot_behind, spot_after, rest_fault}
use Rattle.t85_core.specs.Denotes.{DenotesAt}
use Rattle.t85_core.specs.Fixed.{Fixes}
use Rattle.t85_core.specs.Outcome.{IsOutcome, pbm_rows}
use Rattle.t85_core.specs.RowSink.{known_length}
use Rattle.t85_core.specs.Private.DecodeStripes.{ImageUnwritten}
use Rattle.t85_core.specs.States.DecodeStripes.{ImageRead, ImageCut}
use Rattle.t85_core.specs.Info.{IsBodyFault}
use Rattle.t85_core.specs.Failures.{CountsBoth, CountsWrite, counted_as}
use Rattle.t85_core.specs.Laws.{IsInUse}
use Rattle.t85_core.specs.Decode.{WritesRaster, WritesRows, WritesImageFront, Decode}
use Rattle.t85_core.specs.Private.CoderLaws.{CoderLaws}
use Rattle.t85_core.specs.States.Passage.{passage}
use Rattle.t85_core.proofs.BodiesParse.FaultsAreLimited.{body_faults, uncounted_body}
use Rattle.t85_core.proofs.StreamsDenote.BodyFixesRows.{one_fixed_at}
use Rattle.t85_core.proofs.BytesJoin.BytesAreKnown.{stable_rest, counted-other}
use Rattle.t85_core.proofs.StreamsDenote.RasterIsUnique.{one_raster_at}
use Rattle.t85_core.proofs.BodiesDecode.BytesDecideFirstRows.{pbm_of}
use Rattle.t85_core.proofs.BytesJoin.OutputHoldsBytes.{beginning_handed}
use Rattle.t85_core.proofs.StreamsAreWalked.StripeIsPassed.{Consumes-none}
use Rattle.t85_core.proofs.BytesJoin.CallsJoin.{Appends-more, Consumes-more, beginning_after, beginning_longer, longer_or_all}

consumes_front : (known : Option (List ℕ)) (front : List ℕ) → Consumes (prepend_known front known) known front
consumes_front None front = tt
consumes_front (Some known) front = refl

-- fixed rows stay so, whatever bytes follow, unless the end is the error
pub fixes_more : (h : Fields) (height : ℕ) (given more : List ℕ) (fault : Fault) (rows : List (List Bool)) → Fixes h height given fault rows → (fault ≡ Truncated) ⊎
    Fixes h height (given ++ more) fault rows
fixes_more h height given more fault rows f = went (stable_rest h _ _ _ f.broken.tail_has.rest more fault f.broken.tail_has.rest_has) where
  went : (fault ≡ Truncated) ⊎ (rest_fault h (spot_behind (spot_after height f.broken.stripes) f.broken.tail_has.segments) (count_by is_move f.broken.tail_has.segments)
      (not (is_nil f.broken.tail_has.code)) (f.broken.tail_has.rest ++ more) ≡ Some fault) → (fault ≡ Truncated) ⊎ Fixes h height (given ++ more) fault rows
  went (inl e) = inl e
  went (inr e) = inr (record {
    broken = record {
      stripes = f.broken.stripes;
      tail = f.broken.tail ++ more;
      bytes_are = ap (λ z. z ++ more) f.broken.bytes_are ∙ append_assoc (flat_map stripe_bytes f.broken.stripes) f.broken.tail more;
      fewer = f.broken.fewer;
      each = f.broken.each;
      gives = f.broken.gives;
      tail_has = record {
        segments = f.broken.tail_has.segments;
        code = f.broken.tail_has.code;
        rest = f.broken.tail_has.rest ++ more;
        bytes_are = ap (λ z. z ++ more) f.broken.tail_has.bytes_are ∙ append_assoc (flat_map segment_bytes f.broken.tail_has.segments) (stuffed f.broken.tail_has.code ++ f.broken.tail_has.rest) more
            ∙ ap (λ z. flat_map segment_bytes f.broken.tail_has.segments ++ z) (append_assoc (stuffed f.broken.tail_has.code) f.broken.tail_has.rest more);
        begun = f.broken.tail_has.begun;
        gives = f.broken.tail_has.gives;
        rest_has = e;
      };
    };
    fixed = f.fixed;
  })

module _ (q : CoderLaws) (h : Fields) (height : ℕ) (use_ : IsInUse h height) (in_old out_old out_mid out_new : Option (List ℕ)) (header : Appends out_old out_mid (header_text h.xd height)) where
  small : height < 2 ^ 32
  small = omega (arith, use_.to, use_.accepted.height_to)

  written : (rows : List (List Bool)) → Appends out_mid out_new (flat_map packed_row rows) → Appends out_old out_new (pbm_rows h.xd height rows)
  written rows out = Appends-more out_old out_mid out_new (header_text h.xd height) (flat_map packed_row rows) header out

  rows_written : (body : List ℕ) (fault : Fault) (rows : List (List Bool)) → Fixes h height body fault rows → Appends out_mid out_new (flat_map packed_row rows) →
      WritesRows h height body fault out_old out_new
  rows_written body fault rows fixes out = record {
    rows = rows;
    fixes = fixes;
    only = λ other others o. one_fixed_at q use_ o fixes;
    appends = written rows out;
  }

  raster_known : (bytes known : Option (List ℕ)) → ImageRead h height (passage bytes known out_mid out_new) → IfSome bytes (λ body. WritesRaster h height body out_old out_new)
  raster_known None known i = tt
  raster_known (Some body) None i = absurd i.taken
  raster_known (Some body) (Some rest) i = record {
    raster = raster;
    denotes = denotes;
    only = λ other o. one_raster_at q use_.accepted small denotes o;
    appends = subst (λ n. Appends out_old out_new (pbm_rows h.xd n i.rows)) (sym denotes.height) (written i.rows i.appended);
  } where
    raster : Raster
    raster = record { width = h.xd; rows = i.rows }

    denotes : DenotesAt h height body raster
    denotes = subst (λ z. DenotesAt h height z raster) (sym i.taken) (i.denotes rest)

  rows_known : (bytes known : Option (List ℕ)) (fault : Fault) → ImageCut h height (passage bytes known out_mid out_new) fault → fault ≢ Read →
      IfSome bytes (λ body. WritesRows h height body fault out_old out_new)
  rows_known None known fault i other = tt
  rows_known (Some body) None fault i other = absurd i.ends.taken
  rows_known (Some body) (Some rest) fault i other = rows_written body fault i.rows
      (subst (λ z. Fixes h height z fault i.rows) (sym i.ends.taken) (longer_or_all (λ z. Fixes h height z fault i.rows) i.ends.given rest has i.ends.at_end
      (fixes_more h height i.ends.given rest fault i.rows has))) i.appended where
        has : Fixes h height i.ends.given fault i.rows
        has = subst (λ f. Fixes h height i.ends.given f i.rows) (counted-other Truncated fault other) i.ends.has_fault

  rows_unread : (bytes known in_new : Option (List ℕ)) (fault : Fault) → ImageCut h height (passage bytes known out_mid out_new) fault → fault ≡ Read → known ≡ in_new →
      (given : List ℕ) × Consumes bytes in_new given × WritesRows h height given Truncated out_old out_new
  rows_unread bytes known in_new fault i read drained = (
    i.ends.given,
    subst (λ k. Consumes bytes k i.ends.given) drained i.ends.taken,
    rows_written i.ends.given Truncated i.rows (subst (λ f. Fixes h height i.ends.given (counted_as Truncated f) i.rows) read i.ends.has_fault) i.appended,
  )

  cut_among : (bytes known : Option (List ℕ)) (fault : Fault) → ImageCut h height (passage bytes known out_mid out_new) fault → IsBodyFault fault
  cut_among bytes known fault i = uncounted_body Truncated fault (body_faults i.ends.has_fault.broken)

  -- what is written is a beginning of what was written
  front_written : (in_new : Option (List ℕ)) (in_held out_held : List ℕ) → known_length out_mid ≤ known_length out_new →
      ImageUnwritten h height (passage in_old (prepend_known in_held in_new) out_mid (append_known out_new out_held)) →
      WritesImageFront h height in_old in_new out_old out_new
  front_written in_new in_held out_held grows i = record {
    given = (i.given ++ i.ahead) ++ in_held;
    taken = Consumes-more in_old (prepend_known in_held in_new) in_new (i.given ++ i.ahead) in_held i.taken (consumes_front in_new in_held);
    appends = λ rest fault text o.
        let first = i.first (i.ahead ++ (in_held ++ rest)) fault text (subst (λ z. IsOutcome h height z fault text)
        (append_assoc (i.given ++ i.ahead) in_held rest ∙ append_assoc i.given i.ahead (in_held ++ rest)) o) in
        subst (AppendsBeginning out_old out_new) (sym first.1)
        (beginning_longer first.0
        (beginning_after (header_text h.xd height) header (beginning_handed out_new out_held grows i.appended)));
  }

  pub decoded : (in_held out_held : List ℕ) (known in_new : Option (List ℕ)) (reads_old reads_new writes_old writes_new : ℕ) (r : Result (Unit {0}) Fault) →
      OnOk r (ImageRead h height (passage in_old known out_mid out_new)) → IfErr r (λ f. f ≢ Write → ImageCut h height (passage in_old known out_mid out_new) f) → (IsErrOf r Read → known ≡ in_new) →
      CountsBoth reads_old reads_new r → CountsWrite writes_old writes_new r →
      known_length out_mid ≤ known_length out_new → ImageUnwritten h height (passage in_old (prepend_known in_held in_new) out_mid (append_known out_new out_held)) →
      Decode h height (between in_old in_new reads_old reads_new) (between out_old out_new writes_old writes_new) r
  decoded in_held out_held known in_new reads_old reads_new writes_old writes_new (Ok u) ok err drained reads writes grows begun = record {
    whole = raster_known in_old known ok;
    broken = tt;
    unread = λ e. absurd (let bot : ⊥ = cc in bot);
    front = front_written in_new in_held out_held grows begun;
    among = tt;
    reads = reads;
    writes = writes;
  }
  decoded in_held out_held known in_new reads_old reads_new writes_old writes_new (Err f) ok err drained reads writes grows begun = record {
    whole = tt;
    broken = λ read write. rows_known in_old known f (err write) read;
    unread = λ e. unread (let is : f ≡ Read = cc in is) e;
    front = front_written in_new in_held out_held grows begun;
    among = λ write. cut_among in_old known f (err write);
    reads = reads;
    writes = writes;
  } where
    unread : f ≡ Read → IsErrOf {T = Unit {0}} {E = Fault} (Err f) Read → (given : List ℕ) × Consumes in_old in_new given × WritesRows h height given Truncated out_old out_new
    unread is e = rows_unread in_old known in_new f (err (λ w. let both : Read ≡ Write = sym is ∙ w in let bot : ⊥ = cc in bot)) is (drained e)

-- a beginning of the header is a beginning of whatever is to be written
pub front_of_header : (h : Fields) (height : ℕ) (known out_old out_new : Option (List ℕ)) → AppendsBeginning out_old out_new (header_text h.xd height) →
    WritesImageFront h height known known out_old out_new
front_of_header h height known out_old out_new p = record {
  given = [];
  taken = Consumes-none known;
  appends = λ rest fault text o. all rest fault text o;
} where
  all : (rest : List ℕ) (fault : Option Fault) (text : List ℕ) → IsOutcome h height ([] ++ rest) fault text → AppendsBeginning out_old out_new text
  all rest None text o = subst (AppendsBeginning out_old out_new) (sym (o.2 ∙ pbm_of h height o.0 rest o.1)) (beginning_longer (flat_map packed_row o.0.rows) p)
  all rest (Some fault) text o = subst (AppendsBeginning out_old out_new) (sym o.2) (beginning_longer (flat_map packed_row o.0) p)

pub decodes_unheaded : (h : Fields) (height : ℕ) (known : Option (List ℕ)) (reads writes writes_new : ℕ) (out_old out_new : Option (List ℕ)) →
    AppendsBeginning out_old out_new (header_text h.xd height) → writes_new ≡ one_more writes →
    Decode h height (between known known reads reads) (between out_old out_new writes writes_new) (Err Write)
decodes_unheaded h height known reads writes writes_new out_old out_new p counted = record {
  whole = tt;
  broken = λ _ n. absurd (n refl);
  unread = λ e. absurd (let bot : ⊥ = cc in bot);
  front = front_of_header h height known out_old out_new p;
  among = λ n. absurd (n refl);
  reads = inl refl;
  writes = counted;
}

-- the devices as they are when their loans end
pub decodes_at : {R W : Type 0} (remaining : R → Option (List ℕ)) (reads : R → ℕ) (contents : W → Option (List ℕ)) (writes : W → ℕ) (h : Fields) (height : ℕ) (first : R) (start : W) (input input' : R)
    (output output' : W) (r : Result (Unit {0}) Fault) →
    input ≡ input' → output ≡ output' →
    Decode h height (between (remaining first) (remaining input) (reads first) (reads input)) (between (contents start) (contents output) (writes start) (writes output)) r →
    Decode h height (between (remaining first) (remaining input') (reads first) (reads input')) (between (contents start) (contents output') (writes start) (writes output')) r
decodes_at remaining reads contents writes h height first start input input' output output' r i o d =
    subst (λ x. Decode h height (between (remaining first) (remaining x) (reads first) (reads x)) (between (contents start) (contents output') (writes start) (writes output')) r) i
    (subst (λ x. Decode h height (between (remaining first) (remaining input) (reads first) (reads input)) (between (contents start) (contents x) (writes start) (writes x)) r) o d)
