-- What `summarize` and `info` leave, whichever way they end.
use Rattle.std.proofs.Common.{◌≡◌, ◌≢◌, inl, inr, ◌≤◌, ◌++◌, ℕ, Bool, true, List, Option, None, Some, Result, Ok, Err, length, sym, ap, subst}
use Rattle.std.specs.Prelude.{IfSome, OnOk, IfOk, IfErr, IsErrOf}
use Rattle.std.specs.Io.KnownBytes.{Consumes, Appends}
use Rattle.std.specs.Result.{IsErrAnd}
use Rattle.devices.specs.Device.{AppendsBeginning}
use Rattle.t85_core.specs.Change.{Change, between}
use Rattle.t85_core.specs.declared.fault.Fault.{Fault}
use Rattle.t85_core.specs.declared.fault.Fault.TheVariants.{ShortHeader, Read, Write}
use Rattle.t85_core.specs.declared.summary.Summary.{Summary}
use Rattle.t85_core.specs.Header.{Fields, HeaderOf, header_fault}
use Rattle.t85_core.specs.Height.{StreamFault}
use Rattle.t85_core.specs.Private.HeightWalk.{BodyNumbers, BodyRefused, BodyUnfinished}
use Rattle.t85_core.specs.Failures.{Ends, CountsRead, CountsWrite, reads_after}
use Rattle.t85_core.specs.Info.{Info, Summarize, HasNumbers, HasLine, numbers_in, line_text, IsUnfinished, IsWalkFault}
use Rattle.t85_core.proofs.BodiesParse.FaultsAreLimited.{header_faults, uncounted, no_write, unwritten}
use Rattle.t85_core.proofs.BytesJoin.InputHoldsBytes.{Keeps-same}
use Rattle.t85_core.proofs.BytesJoin.BytesAreKnown.{HeaderOf-append, behind, refused_header}
use Rattle.t85_core.proofs.BytesJoin.CallsJoin.{Consumes-more, known_behind}

-- the exit of a `?`, for what is said of the whole answer
pub exit_all : {T : Type 0} (Q : Result T Fault → Type 0) (r : Result T Fault) {e : Fault} → IsErrAnd r (λ y. y ≡ e) → Q (Err e) → Q r
exit_all Q (Ok x) a p = absurd a
exit_all Q (Err y) a p = subst (λ z. Q (Err z)) (sym a) p

module _ {given : List ℕ} {h : Fields} (long : length given ≡ 20) (is : HeaderOf given h) where
  refused_behind : (body : List ℕ) {f : Fault} → BodyRefused h f body → StreamFault (given ++ body) f
  refused_behind body r = inr (record { header = h; header_of = HeaderOf-append body is; height = r.height; height_is = rw behind r.height_is; broken = rw behind r.broken })

  unread_stream : (body : List ℕ) → BodyUnfinished h body → IsUnfinished (given ++ body)
  unread_stream body (inl r) = inr (inl (refused_behind body r))
  unread_stream body (inr o) = inr (inr (record { header = h; header_of = HeaderOf-append body is; open_still = rw behind o }))

  -- the numbers of the body are those of the stream
  stream_numbers : (body : List ℕ) {numbers : List ℕ} → BodyNumbers h numbers body → HasNumbers (given ++ body) numbers
  stream_numbers body n = record {
    header = h;
    header_of = HeaderOf-append body is;
    height = n.height;
    height_is = rw behind n.height_is;
    parts = record { stripes = n.parts.stripes; rest = n.parts.rest; body_is = rw behind n.parts.body_is; count = n.parts.count; each = n.parts.each; gives = n.parts.gives };
    numbers_are = n.numbers_are;
  }

module _ {input : Change} where
  -- the header was refused
  pub told_header : (f : Fault) → Ends ShortHeader input.old.bytes input.new.bytes (λ given fault. (length given ≤ 20) × (header_fault given ≡ Some fault)) f →
      input.new.failures ≡ reads_after f input.old.failures → Summarize input (Err f)
  told_header f e counted = record {
    numbers = tt;
    refused = λ read. refused_header e read;
    among = uncounted ShortHeader f (header_faults e.given e.has_fault.1);
    unread = λ is. (let same : f ≡ Read = cc in (e.given, e.taken, inl (inl (rw same at e.has_fault.1))));
    reads = counted;
  }

  -- the header was accepted, and the body walked
  pub told_body : {h : Fields} (mid known : Option (List ℕ)) (r : Result Summary Fault) → (given : List ℕ) × (length given ≡ 20) × Consumes input.old.bytes mid given × HeaderOf given h →
      IfOk r (λ s. IfSome mid (BodyNumbers h (numbers_in s))) → IfErr r (λ f. f ≢ Read → IfSome mid (BodyRefused h f)) →
      (IsErrOf r Read → (body : List ℕ) × Consumes mid known body × BodyUnfinished h body) → IfErr r IsWalkFault → (IsErrOf r Read → known ≡ input.new.bytes) →
      CountsRead input.old.failures input.new.failures r → Summarize input r
  told_body {h} mid known (Ok s) (given, long, taken, is) found refused unread may drained reads = record {
    numbers = known_behind (λ bytes. HasNumbers bytes (numbers_in s)) (BodyNumbers h (numbers_in s)) input.old.bytes mid given taken found (λ body n. stream_numbers long is body n);
    refused = tt;
    among = tt;
    unread = λ e. absurd (let bot : ⊥ = cc in bot);
    reads = reads;
  }
  told_body {h} mid known (Err f) (given, long, taken, is) found refused unread may drained reads = record {
    numbers = tt;
    refused = λ read. known_behind (λ bytes. StreamFault bytes f) (BodyRefused h f) input.old.bytes mid given taken (refused read) (λ body q. refused_behind long is body q);
    among = may;
    unread = λ e. (let u = unread e in
        (given ++ u.0, Consumes-more input.old.bytes mid input.new.bytes given u.0 taken (subst (λ k. Consumes mid k u.0) (drained e) u.1), unread_stream long is u.0 u.2));
    reads = reads;
  }

  -- a stream that has no line, or was not read to its end
  pub told_none : (out : Option (List ℕ)) (writes : ℕ) (flushed : Bool) (f : Fault) → Summarize input (Err f) → Info input (between out out writes writes) flushed (Err f)
  told_none out writes flushed f s = record {
    line = tt;
    flushed_last = tt;
    refused = λ read _. s.refused read;
    unwritten = λ _. Keeps-same out;
    among = λ _. s.among;
    unread = λ is. s.unread (let same : f ≡ Read = cc in ap Err same);
    cut = λ is. absurd (no_write f s.among (let same : f ≡ Write = cc in same));
    reads = s.reads;
    writes = sym (unwritten f s.among _);
  }

has_line : (bytes numbers : List ℕ) → HasNumbers bytes numbers → HasLine bytes (line_text numbers)
has_line bytes numbers n = record { header = n.header; header_of = n.header_of; height = n.height; height_is = n.height_is; parts = n.parts; text_is = ap line_text n.numbers_are }

shown : (numbers : List ℕ) {text : List ℕ} (P : List ℕ → Type 0) (known : Option (List ℕ)) → text ≡ line_text numbers → P text → IfSome known (λ bytes. HasNumbers bytes numbers) →
    IfSome known (λ bytes. (x : List ℕ) × HasLine bytes x × P x)
shown numbers P None is p h = tt
shown numbers P (Some bytes) is p h = (line_text numbers, has_line bytes numbers h, subst P is p)

-- the line was to be written
pub told_line : {input output : Change} {flushed : Bool} {s : Summary} {text : List ℕ} (r : Result (Unit {0}) Fault) → Summarize input (Ok s) → text ≡ line_text (numbers_in s) →
    OnOk r (Appends output.old.bytes output.new.bytes text) → IfErr r (λ f. f ≡ Write) → IfErr r (λ _. AppendsBeginning output.old.bytes output.new.bytes text) → OnOk r (flushed ≡ true) →
    CountsWrite output.old.failures output.new.failures r → Info input output flushed r
told_line {input} {output} {s = s} (Ok u) found text_is ok err cut last writes = record {
  line = shown (numbers_in s) (λ x. Appends output.old.bytes output.new.bytes x) input.old.bytes text_is ok found.numbers;
  flushed_last = last;
  refused = tt;
  unwritten = tt;
  among = tt;
  unread = λ is. absurd (let bot : ⊥ = cc in bot);
  cut = λ is. absurd (let bot : ⊥ = cc in bot);
  reads = found.reads;
  writes = writes;
}
told_line {input} {output} {s = s} (Err f) found text_is ok err cut last writes = record {
  line = tt;
  flushed_last = tt;
  refused = λ _ write. absurd (write err);
  unwritten = λ write. absurd (write err);
  among = λ write. absurd (write err);
  unread = λ is. absurd (let bot : ⊥ = cc in bot);
  cut = λ _. shown (numbers_in s) (λ x. AppendsBeginning output.old.bytes output.new.bytes x) input.old.bytes text_is cut found.numbers;
  reads = rw err found.reads;
  writes = writes;
}
