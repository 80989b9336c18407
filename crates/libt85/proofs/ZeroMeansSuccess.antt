-- The meaning of the result 0 of a call.
use Rattle.std.proofs.Common.{◌≡◌, ◌≤◌, ◌<◌, ◌*◌, ◌/◌, inl, inr, ℕ, Bool, List, ◌++◌, length, take, drop, flat_map, true, false, Option, Some, None, refl, sym, ap, ◌∙◌, subst, arith}
use Rattle.std.specs.Int.{div_ceil}
use Rattle.std.specs.Prelude.{option_map}
use Rattle.std.proofs.lemmas.List.{append_cancel_left}
use Rattle.std.proofs.Math.Nat.{mul-div_cancel}
use Rattle.std.specs.List.{AllByRecursion}
use Rattle.pbm_core.specs.Pbm.{header_text}
use Rattle.raster_core.specs.Packed.{packed_row}
use Rattle.raster_core.specs.Raster.{Raster, height}
use Rattle.t85_core.specs.declared.fault.Fault.{Fault}
use Rattle.t85_core.specs.declared.fault.Fault.TheVariants.{Pbm}
use Rattle.t85_core.specs.Denotes.{Denotes, DenotesAt}
use Rattle.t85_core.specs.Encode.{raster_of}
use Rattle.t85_core.specs.Fault.{fault_number}
use Rattle.t85_core.specs.Laws.{OneRasterOfStream, HasOutcome}
use Rattle.t85_core.specs.Outcome.{IsOutcome, pbm_rows}
use Rattle.libt85.specs.Decoded.{Opens}
use Rattle.libt85.specs.declared.options.T85Options.{T85Options}
use Rattle.libt85.specs.DecodedRows.{DeliversRows}
use Rattle.libt85.specs.Delivered.{fault_status, lined, lending}
use Rattle.libt85.specs.Encoded.{DeliversCode, DeliversAll, or_else, status_if, settings_chosen, Asked, EncodingCall, asked, refusal_told}
use Rattle.libt85.specs.Laws.{IsOnly, IsStreamOf, DecodedIsImage, DecodedAreRows, EncodedIsStream}
use Rattle.libt85.proofs.RowsAreDelivered.{length_rows}

-- no error has the status 0
some_status : (f : Fault) → 0 ≡ fault_number f → ⊥
some_status (Pbm fault) is = omega arith
some_status fault is = omega arith

whole : (fault : Option Fault) → 0 ≡ fault_status fault → fault ≡ None
whole None is = refl
whole (Some f) is = absurd (some_status f is)

-- ---- decoding

module _ (one : OneRasterOfStream) (stream : List ℕ) (o : Opens stream) where
  only_one : (raster : Raster) → DenotesAt o.header o.height (drop 20 stream) raster → IsOnly stream raster
  only_one raster d =
      let denotes : Denotes stream raster = record { header = o.header; header_of = o.header_of; height = o.height; height_is = o.height_is; denotes = d } in
      record { denotes = denotes; only = λ other also. one stream raster other denotes also }

  denoted : (r : HasOutcome o.header o.height (drop 20 stream)) → 0 ≡ fault_status r.fault → IsOutcome o.header o.height (drop 20 stream) None r.text
  denoted r is = subst (λ f. IsOutcome o.header o.height (drop 20 stream) f r.text) (whole r.fault is) r.is

pub decoded_image : OneRasterOfStream → DecodedIsImage
decoded_image one stream limit window old new written d = elim d [
  | inl refused ↦ absurd (some_status refused.fault refused.refuses.answer_is)
  | inr (inl high) ↦ absurd (omega (arith, high.refuses.answer_is))
  | inr (inr (inl short)) ↦ absurd (omega (arith, short.refuses.answer_is))
  | inr (inr (inr w)) ↦
      elim w.writes.delivers [
        | inl fits ↦
            let is = denoted one stream w.opens w.writes.outcome fits.answer_is in
            (is.0, only_one one stream w.opens is.0 is.1, fits.stands ∙ is.2)
        | inr full ↦ absurd (omega (arith, full.answer_is))
      ]
]

-- rows that give the same bytes are as many
rows_same : {stream old new : List ℕ} {stride written : ℕ} (one : OneRasterOfStream) (o : Opens stream) (w : DeliversRows o.header o.height (drop 20 stream) stride (lending old new written 0)) →
    written ≡ length w.rows → lined (length w.rows) (div_ceil o.header.xd 8) stride new ≡ flat_map packed_row w.rows → 0 ≡ fault_status w.outcome.fault →
    (raster : Raster) × IsOnly stream raster × (written ≡ height raster) ×
    (lined (height raster) (div_ceil raster.width 8) stride new ≡ flat_map packed_row raster.rows)
rows_same {stream} {new = new} {stride} one o w count stood is =
    let found = denoted one stream o w.outcome is in
    let raster = found.0 in
    let d = found.1 in
    let xd = o.header.xd in
    let same : header_text xd o.height ++ flat_map packed_row w.rows ≡ header_text xd o.height ++ flat_map packed_row raster.rows =
    sym w.rows_are ∙ found.2 ∙ ap (λ width. pbm_rows width (length raster.rows) raster.rows) d.width ∙ ap (λ n. pbm_rows xd n raster.rows) d.height in
    let packed = append_cancel_left (header_text xd o.height) (flat_map packed_row w.rows) (flat_map packed_row raster.rows) same in
    let wide : AllByRecursion (λ r. length r ≡ xd) raster.rows = subst (λ width. AllByRecursion (λ r. length r ≡ width) raster.rows) d.width d.proper.rows in
    let long : length w.rows * div_ceil xd 8 ≡ length raster.rows * div_ceil xd 8 = sym (length_rows xd w.rows w.wide) ∙ ap length packed ∙ length_rows xd raster.rows wide in
    let some : 1 ≤ xd = o.header_of.accepted.width_from in
    let some_bytes : 0 < div_ceil xd 8 = omega arith in
    let many : length w.rows ≡ length raster.rows = sym (mul-div_cancel (length w.rows) some_bytes) ∙ ap (λ n. n / div_ceil xd 8) long ∙ mul-div_cancel (length raster.rows) some_bytes in (
      raster,
      only_one one stream o raster d,
      count ∙ many,
      ap (λ width. lined (length raster.rows) (div_ceil width 8) stride new) d.width ∙ ap (λ n. lined n (div_ceil xd 8) stride new) (sym many) ∙ stood ∙ packed,
    )

pub decoded_rows : OneRasterOfStream → DecodedAreRows
decoded_rows one stream limit stride window old new written d = elim d [
  | inl refused ↦ absurd (some_status refused.fault refused.refuses.answer_is)
  | inr (inl high) ↦ absurd (omega (arith, high.refuses.answer_is))
  | inr (inr (inl close)) ↦ absurd (omega (arith, close.refuses.answer_is))
  | inr (inr (inr (inl short))) ↦ absurd (omega (arith, short.refuses.answer_is))
  | inr (inr (inr (inr w))) ↦
      elim w.writes.delivers [
        | inl fits ↦ rows_same one w.opens w.writes fits.written_is fits.stands fits.answer_is
        | inr full ↦ absurd (omega (arith, full.answer_is))
      ]
]

-- ---- encoding

pub zero_else : (a b : Option ℕ) → (a ≡ Some 0 → ⊥) → (b ≡ Some 0 → ⊥) → or_else a b ≡ Some 0 → ⊥
zero_else (Some n) b f g e = f e
zero_else None b f g e = g e

pub zero_if : (test : Bool) (n : ℕ) → 1 ≤ n → status_if test n ≡ Some 0 → ⊥
zero_if true n some e = (let same : n ≡ 0 = cc in omega arith)
zero_if false n some e = (let bot : ⊥ = cc in bot)

zero_fault : (o : Option Fault) → option_map fault_number o ≡ Some 0 → ⊥
zero_fault None e = (let bot : ⊥ = cc in bot)
zero_fault (Some f) e = some_status f (let same : 0 ≡ fault_number f = cc in same)

-- no refusal has the status 0
pub none_zero : (choice : T85Options) (comment : List ℕ) (width height stride window : ℕ) → refusal_told choice comment width height stride window ≡ Some 0 → ⊥
none_zero choice comment width height stride window =
    zero_else _ _ (zero_if _ 50 (omega arith))
    (zero_else _ _ (zero_fault _)
    (zero_else _ _ (zero_if _ 33 (omega arith))
    (zero_else _ _ (zero_if _ 34 (omega arith))
    (zero_else _ _ (zero_if _ 51 (omega arith))
    (zero_else _ _ (zero_if _ 23 (omega arith)) (zero_if _ 19 (omega arith)))))))

module _ (one : OneRasterOfStream) (call : EncodingCall) (rows new : List ℕ) (written : ℕ) where
  abbrev body : List ℕ
  body = lined call.height (div_ceil call.width 8) call.stride rows

  abbrev asked_for : Asked
  asked_for = asked (settings_chosen call.choice call.comment) call.width call.height

  all_written : DeliversAll asked_for body new written 0 → IsStreamOf call rows (take written new)
  all_written w = elim w.delivers [
    | inl fits ↦
        let raster : Raster = raster_of call.width w.rows in
        let denotes : Denotes (take written new) raster = subst (λ l. Denotes l raster) (sym fits.stands) w.denotes in
        record {
          raster = raster;
          rest = w.rest;
          holds = w.holds;
          width_is = refl;
          height_is = w.many;
          stream_is = fits.stands;
          is_only = record { denotes = denotes; only = λ other also. one (take written new) raster other denotes also };
        }
    | inr full ↦ absurd (omega (arith, full.answer_is))
  ]

  code_written : DeliversCode asked_for body new written 0 → IsStreamOf call rows (take written new)
  code_written (inl w) = all_written w
  code_written (inr w) = elim w.writes [ inl begun ↦ absurd (omega (arith, begun.fits.answer_is)) | inr full ↦ absurd (omega (arith, full.answer_is)) ]

pub encoded_stream : OneRasterOfStream → EncodedIsStream
encoded_stream one call rows old new written e = elim e [
  | inl refused ↦ absurd (none_zero call.choice call.comment call.width call.height call.stride call.window (refused.is ∙ ap Some (sym refused.refuses.answer_is)))
  | inr w ↦ code_written one call rows new written w.writes
]
