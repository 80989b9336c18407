-- From a header and a body to what is said of the whole stream.
use Rattle.std.proofs.Common.{◌++◌, ◌≡◌, ◌≢◌, ◌≤◌, ◌<◌, inl, inr, ◌⊎◌, ℕ, Bool, true, false, List, [], drop, nat_eq, Option, None, Some, IfSome, Result, Ok, Err, refl, sym, ap, ◌∙◌, subst, arith, true≢false}
use Rattle.std.specs.Prelude.{OnOk, is_some}
use Rattle.std.specs.Io.KnownBytes.{Consumes, Keeps}
use Rattle.std.proofs.lemmas.Bool.Decides.{nat_tests}
use Rattle.devices.specs.Device.{one_more}
use Rattle.t85_core.specs.Change.{between}
use Rattle.t85_core.specs.declared.fault.Fault.{Fault}
use Rattle.t85_core.specs.declared.fault.Fault.TheVariants.{Write, OutOfMemory, TooManyRows}
use Rattle.t85_core.specs.Header.{Fields, HeaderOf, is_variable}
use Rattle.t85_core.specs.Height.{IsHeight}
use Rattle.t85_core.specs.Outcome.{pbm_text}
use Rattle.t85_core.specs.Denotes.{Denotes, DenotesAt}
use Rattle.t85_core.specs.Info.{IsBodyFault}
use Rattle.t85_core.specs.Decode.{WritesRaster, WritesImageFront, Decode, FindHeight}
use Rattle.t85_core.specs.ToPbm.{TakesHeader, ToPbmAt, ToPbmOnce, ToPbmBehind, ToPbm, again_known, again_failures, is_same_header, AgainConverts, WritesDenoted, IsFixed, delivery, second_reading}
use Rattle.t85_core.specs.Private.CoderLaws.{CoderLaws}
use Rattle.t85_core.proofs.BytesJoin.InputHoldsBytes.{Keeps-same}
use Rattle.t85_core.proofs.BytesJoin.BytesAreKnown.{HeaderOf-append, behind}
use Rattle.t85_core.proofs.StreamsDenote.RasterIsUnique.{one_raster_of}
use Rattle.t85_core.proofs.BodiesParse.StreamHasOneReading.{header_is}
use Rattle.t85_core.proofs.StreamsAreWalked.StripeIsPassed.{Consumes-none}
use Rattle.t85_core.proofs.BodiesDecode.RowIsPut.{appends_nothing}
use Rattle.t85_core.proofs.BytesJoin.CallsJoin.{Appends-keeps, known_behind}

no_body_fault : (f : Fault) → f ≡ OutOfMemory → IsBodyFault f → ⊥
no_body_fault f e p = subst IsBodyFault e p

no_high : (f : Fault) → f ≡ TooManyRows → IsBodyFault f → ⊥
no_high f e p = subst IsBodyFault e p

module _ (h : Fields) (height limit : ℕ) (known : Option (List ℕ)) (reads : ℕ) (out : Option (List ℕ)) (writes : ℕ) (flushed : Bool) where
  front_none : WritesImageFront h height known known out out
  front_none = record { given = []; taken = Consumes-none known; appends = λ rest fault text o. record { front = []; rest = text; text_is = refl; appends = appends_nothing out } }

  -- the image has too many rows
  pub at_high : limit < height → ToPbmAt h height limit (between known known reads reads) (delivery (between out out writes writes) flushed) (Err TooManyRows)
  at_high high = record {
    whole = tt;
    flushed_last = tt;
    within = tt;
    not_high = λ n. absurd (n refl);
    too_high = λ _. (high, Keeps-same known, Keeps-same out);
    no_memory = λ e. absurd (let bot : ⊥ = cc in bot);
    broken = λ _ _ n _. absurd (n refl);
    unread = λ e. absurd (let bot : ⊥ = cc in bot);
    front = front_none;
    among = λ _ n _. absurd (n refl);
    reads = omega arith;
    writes = omega arith;
  }

module _ (h : Fields) (height limit : ℕ) (in_old in_new : Option (List ℕ)) (reads_old reads_new : ℕ) (out_old out_new : Option (List ℕ)) (writes_old writes_new : ℕ) (flushed : Bool)
    (fits : height ≤ limit) where
  -- the body breaks, or a device fails
  pub at_broken : (f : Fault) → Decode h height (between in_old in_new reads_old reads_new) (between out_old out_new writes_old writes_new) (Err f) →
      ToPbmAt h height limit (between in_old in_new reads_old reads_new) (delivery (between out_old out_new writes_old writes_new) flushed) (Err f)
  at_broken f d = record {
    whole = tt;
    flushed_last = tt;
    within = tt;
    not_high = λ _. fits;
    too_high = λ e. absurd (let same : f ≡ TooManyRows = cc in no_high f same (d.among (λ w. let both : TooManyRows ≡ Write = sym same ∙ w in let bot : ⊥ = cc in bot)));
    no_memory = λ e. absurd (let same : f ≡ OutOfMemory = cc in no_body_fault f same (d.among (λ w. let both : OutOfMemory ≡ Write = sym same ∙ w in let bot : ⊥ = cc in bot)));
    broken = λ read write _ _. d.broken read write;
    unread = d.unread;
    front = d.front;
    among = λ write _ _. d.among write;
    reads = d.reads;
    writes = d.writes;
  }

  front_kept : (out_last : Option (List ℕ)) → Keeps out_new out_last → WritesImageFront h height in_old in_new out_old out_new → WritesImageFront h height in_old in_new out_old out_last
  front_kept out_last keeps w = record {
    given = w.given;
    taken = w.taken;
    appends = λ rest fault text o. (let p = w.appends rest fault text o in
        record { front = p.front; rest = p.rest; text_is = p.text_is; appends = Appends-keeps out_old out_new out_last p.front p.appends keeps });
  }

  -- the flush failed after all that was written
  pub at_unflushed : (out_last : Option (List ℕ)) (writes_last : ℕ) → Decode h height (between in_old in_new reads_old reads_new) (between out_old out_new writes_old writes_new) (Ok tt) →
      Keeps out_new out_last → writes_last ≡ one_more writes_new →
      ToPbmAt h height limit (between in_old in_new reads_old reads_new) (delivery (between out_old out_last writes_old writes_last) flushed) (Err Write)
  at_unflushed out_last writes_last d keeps more = record {
    whole = tt;
    flushed_last = tt;
    within = tt;
    not_high = λ _. fits;
    too_high = λ e. absurd (let bot : ⊥ = cc in bot);
    no_memory = λ e. absurd (let bot : ⊥ = cc in bot);
    broken = λ _ n _ _. absurd (n refl);
    unread = λ e. absurd (let bot : ⊥ = cc in bot);
    front = front_kept out_last keeps d.front;
    among = λ n _ _. absurd (n refl);
    reads = inl d.reads;
    writes = more ∙ ap one_more d.writes;
  }

  -- the image was written, and flushed
  pub at_whole : (out_last : Option (List ℕ)) (writes_last : ℕ) → Decode h height (between in_old in_new reads_old reads_new) (between out_old out_new writes_old writes_new) (Ok tt) →
      Keeps out_new out_last → flushed ≡ true → writes_last ≡ writes_new →
      ToPbmAt h height limit (between in_old in_new reads_old reads_new) (delivery (between out_old out_last writes_old writes_last) flushed) (Ok tt)
  at_whole out_last writes_last d keeps last same = record {
    whole = whole in_old d.whole;
    flushed_last = last;
    within = fits;
    not_high = tt;
    too_high = λ e. absurd (let bot : ⊥ = cc in bot);
    no_memory = λ e. absurd (let bot : ⊥ = cc in bot);
    broken = tt;
    unread = λ e. absurd (let bot : ⊥ = cc in bot);
    front = front_kept out_last keeps d.front;
    among = tt;
    reads = d.reads;
    writes = same ∙ d.writes;
  } where
    whole : (old : Option (List ℕ)) → IfSome old (λ body. WritesRaster h height body out_old out_new) → IfSome old (λ body. WritesRaster h height body out_old out_last)
    whole None w = tt
    whole (Some body) w = record { raster = w.raster; denotes = w.denotes; only = w.only; appends = Appends-keeps out_old out_new out_last (pbm_text w.raster) w.appends keeps }

-- ---- headers

same_true : (a b : Fields) → is_same_header a b ≡ true → a ≡ b
same_true a b e =
    let xd : a.xd ≡ b.xd = grind (arith, nat_tests) in
    let yd : a.yd ≡ b.yd = grind (arith, nat_tests) in
    let l0 : a.l0 ≡ b.l0 = grind (arith, nat_tests) in
    let mx : a.mx ≡ b.mx = grind (arith, nat_tests) in
    let options : a.options ≡ b.options = grind (arith, nat_tests) in
    ap (λ z. record a { xd = z }) xd ∙ ap (λ z. record b { yd = z; l0 = a.l0; mx = a.mx; options = a.options }) yd ∙ ap (λ z. record b { l0 = z; mx = a.mx; options = a.options }) l0
    ∙ ap (λ z. record b { mx = z; options = a.options }) mx ∙ ap (λ z. record b { options = z }) options

pub same_fields : (a b : Fields) (t : Bool) → t ≡ is_same_header a b → t ≡ true → a ≡ b
same_fields a b t is so = same_true a b (sym is ∙ so)

self_same : (a : Fields) → is_same_header a a ≡ true
self_same a =
    let xd : nat_eq a.xd a.xd ≡ true = grind (arith, nat_tests) in
    let yd : nat_eq a.yd a.yd ≡ true = grind (arith, nat_tests) in
    let l0 : nat_eq a.l0 a.l0 ≡ true = grind (arith, nat_tests) in
    let mx : nat_eq a.mx a.mx ≡ true = grind (arith, nat_tests) in
    let options : nat_eq a.options a.options ≡ true = grind (arith, nat_tests) in
    rw (xd, yd, l0, mx, options) refl

pub other_fields : (a b : Fields) (t : Bool) → t ≡ is_same_header a b → t ≡ false → a ≢ b
other_fields a b t is so same = true≢false (sym (self_same a) ∙ ap (is_same_header a) same ∙ sym is ∙ so)

-- ---- what the stream denotes

-- the raster that is written is the one of this stream
denoted : CoderLaws → (h : Fields) (height : ℕ) (bytes body : List ℕ) (out_old out_new : Option (List ℕ)) → HeaderOf bytes h → IsHeight h (drop 20 bytes) height → drop 20 bytes ≡ body →
    WritesRaster h height body out_old out_new → WritesDenoted bytes out_old out_new
denoted q h height bytes body out_old out_new header_of height_is same w = record {
  raster = w.raster;
  denotes = denotes;
  only = λ other o. one_raster_of q denotes o;
  appends = w.appends;
} where
  denotes : Denotes bytes w.raster
  denotes = record { header = h; header_of = header_of; height = height; height_is = height_is; denotes = subst (λ z. DenotesAt h height z w.raster) (sym same) w.denotes }

-- nothing is written whole
none_on : (P : Type 0) {f : Fault} (r : Result (Unit {0}) Fault) → r ≡ Err f → OnOk r P
none_on P (Ok u) is = absurd (let bot : ⊥ = cc in bot)
none_on P (Err f) is = tt

module _ (q : CoderLaws) (in_old : Option (List ℕ)) (again_old : Option (List ℕ)) (out_old out_new : Option (List ℕ)) where
  pub denoted_once : (limit : ℕ) (in_new : Option (List ℕ)) (reads_old reads_new writes_old writes_new : ℕ) (flushed : Bool) (r : Result (Unit {0}) Fault) →
      ToPbmOnce limit (between in_old in_new reads_old reads_new) (delivery (between out_old out_new writes_old writes_new) flushed) r →
      OnOk r (IfSome in_old (λ first. IsFixed first ⊎ (again_old ≡ Some first) → WritesDenoted first out_old out_new))
  denoted_once limit in_new reads_old reads_new writes_old writes_new flushed (Err f) p = tt
  denoted_once limit in_new reads_old reads_new writes_old writes_new flushed (Ok u) p =
      known_behind (λ first. IsFixed first ⊎ (again_old ≡ Some first) → WritesDenoted first out_old out_new)
      (λ b. WritesRaster p.header p.header.yd b out_old out_new) in_old p.body p.taken.given p.taken.taken p.converts.whole (λ body w _.
      denoted q p.header p.header.yd (p.taken.given ++ body) body out_old out_new (HeaderOf-append body p.taken.header_of) (inr (refl, λ n g. true≢false (sym g.variable ∙ p.fixed)))
      (behind p.taken.given body p.taken.long) w)

  -- after the same bytes
  pub denoted_twice : (h : Fields) (height limit : ℕ) (mid in_new again_new : Option (List ℕ)) (first_old first_new reads_old reads_new writes_old writes_new : ℕ) (flushed : Bool)
      (r : Result (Unit {0}) Fault) → is_variable h ≡ true → TakesHeader h in_old mid →
      FindHeight h (between mid in_new first_old first_new) (Ok height) →
      AgainConverts h height limit (between again_old again_new reads_old reads_new) (delivery (between out_old out_new writes_old writes_new) flushed) r →
      OnOk r (IfSome in_old (λ first. IsFixed first ⊎ (again_old ≡ Some first) → WritesDenoted first out_old out_new))
  denoted_twice h height limit mid in_new again_new first_old first_new reads_old reads_new writes_old writes_new flushed (Err f) variable t found p = tt
  denoted_twice h height limit mid in_new again_new first_old first_new reads_old reads_new writes_old writes_new flushed (Ok u) variable t found p = went in_old mid t.taken found.found where
    second : (bytes : List ℕ) (again body : Option (List ℕ)) → again ≡ Some bytes → Consumes again body p.taken.given → IfSome body (λ b. WritesRaster h height b out_old out_new) → HeaderOf bytes h →
        IsHeight h (drop 20 bytes) height → WritesDenoted bytes out_old out_new
    second bytes None body e taken w of is = absurd (let bot : ⊥ = cc in bot)
    second bytes (Some again) None e taken w of is = absurd taken
    second bytes (Some again) (Some body) e taken w of is =
        let same : again ≡ bytes = cc in
        denoted q h height bytes body out_old out_new of is (ap (drop 20) (sym same ∙ taken) ∙ behind p.taken.given body p.taken.long) w

    went : (old body : Option (List ℕ)) → Consumes old body t.given → IfSome body (λ b. IsHeight h b height) →
        IfSome old (λ first. IsFixed first ⊎ (again_old ≡ Some first) → WritesDenoted first out_old out_new)
    went None body taken is = tt
    went (Some bytes) None taken is = absurd taken
    went (Some bytes) (Some body) taken is = by where
      of : HeaderOf bytes h
      of = subst (λ z. HeaderOf z h) (sym taken) (HeaderOf-append body t.header_of)

      by : IsFixed bytes ⊎ (again_old ≡ Some bytes) → WritesDenoted bytes out_old out_new
      by (inl f) = absurd (true≢false (sym variable ∙ ap is_variable (header_is of f.header_of) ∙ f.height_is_fixed))
      by (inr e) = second bytes again_old p.body e p.taken.taken p.converts.whole of (subst (λ z. IsHeight h z height) (sym (ap (drop 20) taken ∙ behind t.given body t.long)) is)

  -- whichever way the second reading goes
  pub denoted_behind : (h : Fields) (limit : ℕ) (mid in_new again_new : Option (List ℕ)) (first_old first_new reads_old reads_new writes_old writes_new : ℕ) (untouched : Type 0) (flushed : Bool)
      (r : Result (Unit {0}) Fault) → is_variable h ≡ true → TakesHeader h in_old mid →
      ToPbmBehind h limit (between mid in_new first_old first_new) (second_reading true untouched (between again_old again_new reads_old reads_new))
      (delivery (between out_old out_new writes_old writes_new) flushed) r →
      OnOk r (IfSome in_old (λ first. IsFixed first ⊎ (again_old ≡ Some first) → WritesDenoted first out_old out_new))
  denoted_behind h limit mid in_new again_new first_old first_new reads_old reads_new writes_old writes_new untouched flushed r variable t (inl p) = none_on _ r p.answer_is
  denoted_behind h limit mid in_new again_new first_old first_new reads_old reads_new writes_old writes_new untouched flushed r variable t (inr (height, found, inl p)) = none_on _ r p.answer_is
  denoted_behind h limit mid in_new again_new first_old first_new reads_old reads_new writes_old writes_new untouched flushed r variable t (inr (height, found, inr (inl p))) = none_on _ r p.answer_is
  denoted_behind h limit mid in_new again_new first_old first_new reads_old reads_new writes_old writes_new untouched flushed r variable t (inr (height, found, inr (inr p))) =
      denoted_twice h height limit mid in_new again_new first_old first_new reads_old reads_new writes_old writes_new flushed r variable t found p

-- ---- the height is fixed

pub goes_once : CoderLaws → (h : Fields) (limit : ℕ) (in_old mid in_new : Option (List ℕ)) (first_old first_new : ℕ) (twice : Bool) (untouched : Type 0) (again_old : Option (List ℕ)) (again_reads : ℕ)
    (out_old out_new : Option (List ℕ)) (writes_old writes_new : ℕ) (flushed : Bool) (r : Result (Unit {0}) Fault) →
    TakesHeader h in_old mid → is_variable h ≡ false → ToPbmAt h h.yd limit (between mid in_new first_old first_new) (delivery (between out_old out_new writes_old writes_new) flushed) r → untouched →
    ToPbm limit (between in_old in_new first_old first_new) (second_reading twice untouched (between again_old again_old again_reads again_reads))
    (delivery (between out_old out_new writes_old writes_new) flushed) r
goes_once q h limit in_old mid in_new first_old first_new twice untouched again_old again_reads out_old out_new writes_old writes_new flushed r taken fixed converts same = record {
  went = inr (inl (once, same));
  denoted = denoted_once q in_old again_old out_old out_new limit in_new first_old first_new writes_old writes_new flushed r once;
} where
  once : ToPbmOnce limit (between in_old in_new first_old first_new) (delivery (between out_old out_new writes_old writes_new) flushed) r
  once = record { header = h; body = mid; taken = taken; fixed = fixed; converts = converts }

-- ---- the second reading is there

untouched_some : {T : Type 0} (h : Fields) (limit : ℕ) (mid in_new : Option (List ℕ)) (first_old first_new : ℕ) (old new : T) (again_old again_new : Option (List ℕ)) (reads_old reads_new : ℕ)
    (out_old out_new : Option (List ℕ)) (writes_old writes_new : ℕ) (flushed : Bool) (r : Result (Unit {0}) Fault) →
    ToPbmBehind h limit (between mid in_new first_old first_new) (second_reading true (new ≡ old) (between again_old again_new reads_old reads_new))
    (delivery (between out_old out_new writes_old writes_new) flushed) r →
    ToPbmBehind h limit (between mid in_new first_old first_new) (second_reading true (Some new ≡ Some old) (between again_old again_new reads_old reads_new))
    (delivery (between out_old out_new writes_old writes_new) flushed) r
untouched_some h limit mid in_new first_old first_new old new again_old again_new reads_old reads_new out_old out_new writes_old writes_new flushed r (inl p) =
    inl (record { finds = p.finds; answer_is = p.answer_is; again = ap Some p.again; nothing = p.nothing })
untouched_some h limit mid in_new first_old first_new old new again_old again_new reads_old reads_new out_old out_new writes_old writes_new flushed r (inr p) = inr p

pub goes_twice : {T : Type 0} (q : CoderLaws) (remaining : T → Option (List ℕ)) (failures : T → ℕ) (h : Fields) (limit : ℕ) (in_old mid in_new : Option (List ℕ)) (first_old first_new : ℕ)
    (old new : T) (out_old out_new : Option (List ℕ)) (writes_old writes_new : ℕ) (flushed : Bool) (r : Result (Unit {0}) Fault) →
    TakesHeader h in_old mid → is_variable h ≡ true →
    ToPbmBehind h limit (between mid in_new first_old first_new) (second_reading true (new ≡ old) (between (remaining old) (remaining new) (failures old) (failures new)))
    (delivery (between out_old out_new writes_old writes_new) flushed) r → (o : Option T) → o ≡ Some old →
    ToPbm limit (between in_old in_new first_old first_new) (second_reading (is_some o) (Some new ≡ o) (between (again_known remaining o) (remaining new) (again_failures failures o) (failures new)))
    (delivery (between out_old out_new writes_old writes_new) flushed) r
goes_twice {T} q remaining failures h limit in_old mid in_new first_old first_new old new out_old out_new writes_old writes_new flushed r taken variable went o is =
    subst (λ (z : Option T). ToPbm limit (between in_old in_new first_old first_new)
    (second_reading (is_some z) (Some new ≡ z) (between (again_known remaining z) (remaining new) (again_failures failures z) (failures new)))
    (delivery (between out_old out_new writes_old writes_new) flushed) r) (sym is)
    (record {
      went = inr (inr (inr (record {
        header = h;
        body = mid;
        taken = taken;
        variable = variable;
        second = refl;
        went = untouched_some h limit mid in_new first_old first_new old new (remaining old) (remaining new) (failures old) (failures new) out_old out_new writes_old writes_new flushed r went;
      })));
      denoted = denoted_behind q in_old (remaining old) out_old out_new h limit mid in_new (remaining new) first_old first_new (failures old) (failures new) writes_old writes_new
          (new ≡ old) flushed r variable taken went;
    })
