-- The output for a prefix of a stream.
use Rattle.std.proofs.Common.{◌≡◌, ◌≢◌, ◌⊎◌, inl, inr, ℕ, Bool, false, List, [], ◌∷◌, ◌++◌, length, drop, take, Option, Some, None, Result, Ok, Err, refl, sym, ap, ◌∙◌, subst, append-nil, append_assoc, true≢false, ◌≤◌, ◌<◌, ◌+◌, ◌^◌, nat_lt, arith, true}
use Rattle.std.specs.Prelude.{flat_map}
use Rattle.std.specs.List.{AllByRecursion}
use Rattle.std.specs.Io.KnownBytes.{Appends, Keeps}
use Rattle.std.proofs.Math.Seq.{take-append_seam, drop-append_seam}
use Rattle.std.proofs.lemmas.List.{append_cancel_left, length-map, drop-append-le, take_all}
use Rattle.std.proofs.lemmas.Bool.Decides.{nat_tests}
use Rattle.devices.specs.Device.{AppendsBeginning}
use Rattle.t85_core.specs.Change.{Change, between}
use Rattle.pbm_core.specs.Pbm.{header_text}
use Rattle.raster_core.specs.Packed.{packed_row, row_bytes}
use Rattle.raster_core.specs.Lines.{numbers_from}
use Rattle.raster_core.specs.Raster.{Raster, height}
use Rattle.t85_core.specs.declared.fault.Fault.{Fault}
use Rattle.t85_core.specs.declared.fault.Fault.TheVariants.{ShortHeader, Read, Write, OutOfMemory, TooManyRows}
use Rattle.t85_core.specs.Decode.{WritesImageFront, WritesRaster, WritesRows}
use Rattle.t85_core.specs.Denotes.{Denotes, DenotesAt}
use Rattle.t85_core.specs.Header.{Fields, HeaderOf, header_fault, is_variable}
use Rattle.t85_core.specs.Height.{IsHeight}
use Rattle.t85_core.specs.Outcome.{pbm_rows, pbm_text}
use Rattle.t85_core.specs.Jbg.{jbg}
use Rattle.t85_core.specs.ToPbm.{ToPbmAt, ToPbmOnce, ToPbm, HeaderEnds, IsFixed, Delivery, second_reading}
use Rattle.t85_core.specs.Failures.{counted_as}
use Rattle.t85_core.specs.Laws.{CodeDenotes, HeaderLaws}
use Rattle.examples.specs.Cut.{Begins, WritesFirst, WritesFirstRows}
use Rattle.examples.proofs.StreamSplits.{splits}
use Rattle.examples.proofs.StreamIsAccepted.{LineOrFault, no_fault, some_same}

-- ---- rows that begin as others do

pub record SameParts (p q a b : List ℕ) : Type 0 where
  pub fronts : p ≡ q
  pub rests : a ≡ b

same_parts : (p q a b : List ℕ) → length p ≡ length q → p ++ a ≡ q ++ b → SameParts p q a b
same_parts p q a b long same = record {
  fronts = sym (take-append_seam p a) ∙ ap (λ l. take (length p) l) same ∙ ap (λ n. take n (q ++ b)) long ∙ take-append_seam q b;
  rests = sym (drop-append_seam p a) ∙ ap (λ l. drop (length p) l) same ∙ ap (λ n. drop n (q ++ b)) long ∙ drop-append_seam q b;
}

-- rows of one width take as many bytes
as_long : (row other : List Bool) → length row ≡ length other → length (packed_row row) ≡ length (packed_row other)
as_long row other same = simp length-map (ap (λ n. length (numbers_from 0 (row_bytes n))) same)

none : (xs ys : List ℕ) → [] ≡ xs ++ ys → xs ≡ []
none [] ys e = refl
none (x ∷ xs) ys e = absurd (let bot : ⊥ = cc in bot)

first_rows : (width : ℕ) (rows all : List (List Bool)) (rest : List ℕ) → AllByRecursion (λ row. length row ≡ width) rows → AllByRecursion (λ row. length row ≡ width) all →
    flat_map packed_row all ≡ flat_map packed_row rows ++ rest → flat_map packed_row rows ≡ flat_map packed_row (take (length rows) all)
first_rows width [] all rest wide all_wide same = refl
first_rows width (row ∷ rows) [] rest wide all_wide same = none (flat_map packed_row (row ∷ rows)) rest same
first_rows width (row ∷ rows) (first ∷ all) rest wide all_wide same =
    let parts = same_parts (packed_row first) (packed_row row) (flat_map packed_row all) (flat_map packed_row rows ++ rest) (as_long first row (all_wide.0 ∙ sym wide.0))
    (same ∙ append_assoc (packed_row row) (flat_map packed_row rows) rest) in
    let more = first_rows width rows all rest wide.1 all_wide.1 parts.rests in
    ap (λ l. l ++ flat_map packed_row rows) (sym parts.fronts) ∙ ap (λ l. packed_row first ++ l) more

-- ---- on an output

begins_none : (old new : Option (List ℕ)) (text : List ℕ) → Keeps old new → AppendsBeginning old new text
begins_none None new text keeps = record { front = []; rest = text; text_is = refl; appends = tt }
begins_none (Some xs) None text keeps = absurd keeps
begins_none (Some xs) (Some ys) text keeps = record { front = []; rest = text; text_is = refl; appends = keeps ∙ sym (append-nil xs) }

module _ (width height' : ℕ) (rows all : List (List Bool)) (wide : AllByRecursion (λ row. length row ≡ width) rows) (all_wide : AllByRecursion (λ row. length row ≡ width) all) where
  -- rows were written, and they are a beginning of an image
  are_first : (old new : Option (List ℕ)) → Appends old new (pbm_rows width height' rows) → AppendsBeginning old new (pbm_rows width height' all) →
      Appends old new (pbm_rows width height' (take (length rows) all))
  are_first None new appends begins = tt
  are_first (Some xs) None appends begins = absurd appends
  are_first (Some xs) (Some ys) appends begins = appends ∙ ap (λ l. xs ++ (header_text width height' ++ l)) same where
    front_is : begins.front ≡ pbm_rows width height' rows
    front_is = append_cancel_left xs begins.front (pbm_rows width height' rows) (sym begins.appends ∙ appends)

    split : header_text width height' ++ flat_map packed_row all ≡ header_text width height' ++ (flat_map packed_row rows ++ begins.rest)
    split = begins.text_is ∙ ap (λ l. l ++ begins.rest) front_is ∙ append_assoc (header_text width height') (flat_map packed_row rows) begins.rest

    same : flat_map packed_row rows ≡ flat_map packed_row (take (length rows) all)
    same = first_rows width rows all begins.rest wide all_wide (append_cancel_left (header_text width height') (flat_map packed_row all) (flat_map packed_row rows ++ begins.rest) split)

-- ---- of a stream

untold : (f : Fault) → f ≢ Read → counted_as ShortHeader f ≡ f
untold Read other = absurd (other refl)
untold f other = refl

module _ (law : CodeDenotes) (line_law : LineOrFault) (headers : HeaderLaws) (raster : Raster) (bytes : List ℕ) (cut : Begins raster bytes) where
  d : Denotes (jbg cut.chosen raster) raster
  d = law cut.chosen raster cut.accepted cut.proper cut.announced

  -- the whole body denotes the raster at the height of the header
  body_denotes : (h : Fields) → HeaderOf bytes h → is_variable h ≡ false → DenotesAt h h.yd (drop 20 bytes ++ cut.more) raster
  body_denotes h header_of fixed =
      subst (λ (k : Fields). DenotesAt k k.yd (drop 20 bytes ++ cut.more) raster) same (rw (body_is, height_is d.height_is) at d.denotes) where
        same : d.header ≡ h
        same = headers.one (bytes ++ cut.more) d.header h (subst (λ l. HeaderOf l d.header) cut.stream_is d.header_of) (headers.stands bytes cut.more h header_of)

        body_is : drop 20 (jbg cut.chosen raster) ≡ drop 20 bytes ++ cut.more
        body_is = ap (λ l. drop 20 l) cut.stream_is ∙ drop-append-le 20 bytes cut.more header_of.whole

        height_is : IsHeight d.header (drop 20 (jbg cut.chosen raster)) d.height → d.height ≡ d.header.yd
        height_is (inl gives) = absurd (true≢false (sym gives.variable ∙ ap (λ (k : Fields). is_variable k) same ∙ fixed))
        height_is (inr own) = own.0

  -- a header that came isn't refused
  stands : {left : Option (List ℕ)} {reads reads' : ℕ} (f : Fault) → IsFixed bytes → f ≢ Read → HeaderEnds (between (Some bytes) left reads reads') f → ⊥
  stands {left = None} f fixed other h = h.ends.taken
  stands {left = Some rest} f fixed other h = went (nat_lt (length given) 20) refl where
    given : List ℕ
    given = h.ends.given

    is : header_fault given ≡ Some f
    is = h.ends.has_fault.1 ∙ ap Some (untold f other)

    long : 20 ≤ length bytes
    long = fixed.header_of.whole

    went : (test : Bool) → nat_lt (length given) 20 ≡ test → ⊥
    went true short =
        let few : length given < 20 = grind (arith, nat_tests) in
        let f_is : f ≡ ShortHeader = (let e : header_fault given ≡ Some ShortHeader = rw short in some_same f ShortHeader (sym is ∙ e)) in
        let all : bytes ≡ given = h.ends.taken ∙ ap (λ l. given ++ l) (h.ends.at_end f_is) ∙ append-nil given in
        omega (arith, few, long, ap (λ l. length l) all)
    went false test =
        let enough : 20 ≤ length given = grind (arith, nat_tests) in
        let same : header_fault bytes ≡ Some f = ap (λ l. header_fault l) h.ends.taken ∙ headers.refusal_stands given rest enough ∙ is in
        no_fault line_law (jbg cut.chosen raster) raster d f (inl (ap (λ l. header_fault l) cut.stream_is ∙ headers.refusal_stands bytes cut.more long ∙ same))

  unwritten : {old new : Option (List ℕ)} {answer : Result (Unit {0}) Fault} {f : Fault} → answer ≡ Err f → (IsFixed bytes → f ≢ Read → ⊥) → Keeps old new → WritesFirst raster bytes old new answer
  unwritten {old} {new} is cant keeps =
      rw is (record { begins = begins_none old new (pbm_text raster) keeps; whole = tt; rows = λ other. inl keeps; some = λ fixed read write memory. absurd (cant fixed read) })

  module _ {h : Fields} {old new : Option (List ℕ)} (whole : DenotesAt h h.yd (drop 20 bytes ++ cut.more) raster) where
    -- of whatever was taken, the image may still come
    front_begins : {left : Option (List ℕ)} → WritesImageFront h h.yd (Some (drop 20 bytes)) left old new → AppendsBeginning old new (pbm_text raster)
    front_begins {left = None} front = absurd front.taken
    front_begins {left = Some left} front =
        let all : drop 20 bytes ++ cut.more ≡ front.given ++ (left ++ cut.more) = ap (λ l. l ++ cut.more) front.taken ∙ append_assoc front.given left cut.more in
        front.appends (left ++ cut.more) None (pbm_text raster) (raster, rw all at whole, refl)

    first_of : (rows : List (List Bool)) → AllByRecursion (λ row. length row ≡ h.xd) rows → Appends old new (pbm_rows h.xd h.yd rows) → AppendsBeginning old new (pbm_text raster) →
        Appends old new (pbm_rows raster.width (height raster) (take (length rows) raster.rows))
    first_of rows wide appends begins =
        are_first raster.width (height raster) rows raster.rows (subst (λ n. AllByRecursion (λ row. length row ≡ n) rows) (sym whole.width) wide) cut.proper.rows old new
        (subst (λ w. Appends old new (pbm_rows w (height raster) rows)) (sym whole.width) (subst (λ n. Appends old new (pbm_rows h.xd n rows)) (sym whole.height) appends)) begins

    of_rows : {body : List ℕ} {f : Fault} → WritesRows h h.yd body f old new → AppendsBeginning old new (pbm_text raster) → WritesFirstRows raster old new
    of_rows w begins = (length w.rows, first_of w.rows w.fixes.fixed.decided.wide w.appends begins)

    of_raster : {body : List ℕ} → WritesRaster h h.yd body old new → AppendsBeginning old new (pbm_text raster) → Appends old new (pbm_text raster)
    of_raster w begins =
        let many : length raster.rows ≤ length w.raster.rows = (let a = whole.height in let b = w.denotes.height in omega (arith, a, b)) in
        subst (λ rows. Appends old new (pbm_rows raster.width (height raster) rows)) (take_all (length w.raster.rows) raster.rows many)
        (first_of w.raster.rows (subst (λ n. AllByRecursion (λ row. length row ≡ n) w.raster.rows) w.denotes.width w.denotes.proper.rows)
        (subst (λ n. Appends old new (pbm_rows h.xd n w.raster.rows)) w.denotes.height (subst (λ n. Appends old new (pbm_rows n (height w.raster) w.raster.rows)) w.denotes.width w.appends)) begins)

  module _ {h : Fields} {limit reads reads' : ℕ} {left : Option (List ℕ)} {out : Delivery} (whole : DenotesAt h h.yd (drop 20 bytes ++ cut.more) raster) (large : h.yd ≤ limit) where
    rows_of : (f : Fault) → ToPbmAt h h.yd limit (between (Some (drop 20 bytes)) left reads reads') out (Err f) → AppendsBeginning out.change.old.bytes out.change.new.bytes (pbm_text raster) →
        f ≢ Write → f ≢ OutOfMemory → WritesFirstRows raster out.change.old.bytes out.change.new.bytes
    rows_of Write c begins write memory = absurd (write refl)
    rows_of OutOfMemory c begins write memory = absurd (memory refl)
    rows_of TooManyRows c begins write memory = absurd (let high = c.too_high refl in omega (arith, high.0, large))
    rows_of Read c begins write memory = (let unread = c.unread refl in of_rows whole unread.2 begins)
    rows_of f c begins write memory = of_rows whole (c.broken (λ e. cc) write (λ e. cc) memory) begins

    rows_any : (f : Fault) → ToPbmAt h h.yd limit (between (Some (drop 20 bytes)) left reads reads') out (Err f) → AppendsBeginning out.change.old.bytes out.change.new.bytes (pbm_text raster) →
        f ≢ Write → Keeps out.change.old.bytes out.change.new.bytes ⊎ WritesFirstRows raster out.change.old.bytes out.change.new.bytes
    rows_any OutOfMemory c begins write = inl (let memory = c.no_memory refl in memory.1)
    rows_any f c begins write = inr (rows_of f c begins write (λ e. cc))

    at_body : (answer : Result (Unit {0}) Fault) → ToPbmAt h h.yd limit (between (Some (drop 20 bytes)) left reads reads') out answer →
        WritesFirst raster bytes out.change.old.bytes out.change.new.bytes answer
    at_body (Ok u) c =
        let begins = front_begins whole c.front in
        let all = of_raster whole c.whole begins in
        record {
          begins = begins;
          whole = all;
          rows = λ other. inr (length raster.rows, rw (take_all (length raster.rows) raster.rows (omega arith)) all);
          some = λ fixed. tt;
        }
    at_body (Err f) c =
        let begins = front_begins whole c.front in
        record {
          begins = begins;
          whole = tt;
          rows = λ other. rows_any f c begins (λ e. other (ap (λ (g : Fault). Err g) e));
          some = λ fixed read write memory. rows_of f c begins write memory;
        }

  module _ {limit reads reads' : ℕ} {left : Option (List ℕ)} {out : Delivery} {answer : Result (Unit {0}) Fault} (large : 2 ^ 32 ≤ limit + 1) where
    once : ToPbmOnce limit (between (Some bytes) left reads reads') out answer → WritesFirst raster bytes out.change.old.bytes out.change.new.bytes answer
    once o =
        let split = splits headers bytes o.header o.body o.taken in
        let tall = split.header_of.accepted.height_to in
        at_body (body_denotes o.header split.header_of o.fixed) (omega arith) answer (rw split.body_is at o.converts)

    -- without a second reading
    pub written : {untouched : Type 0} {again : Change} → ToPbm limit (between (Some bytes) left reads reads') (second_reading false untouched again) out answer →
        WritesFirst raster bytes out.change.old.bytes out.change.new.bytes answer
    written c = elim c.went [
      | inl refused ↦ unwritten refused.0.answer_is (λ fixed other. stands refused.0.fault fixed other refused.0.header) refused.0.nothing.kept
      | inr (inl o) ↦ once o.0
      | inr (inr (inl wants)) ↦
          -- the height may change after all
          let w = wants.0 in
          unwritten w.answer_is (λ fixed other.
          let same = headers.one bytes w.header fixed.header (splits headers bytes w.header left w.taken).header_of fixed.header_of in
          true≢false (sym w.variable ∙ ap (λ (k : Fields). is_variable k) same ∙ fixed.height_is_fixed)) w.nothing.kept
      | inr (inr (inr twice)) ↦ absurd (true≢false (sym twice.second))
    ]
