-- Bytes of one colour, many decoded in one step.
use Rattle.std.proofs.Common.{◌≡◌, ℕ, ◌+◌, ◌-◌, ◌*◌, ◌<◌, ◌≤◌, Bool, false, inl, inr, List, ◌++◌, length, sym, ◌∙◌, ap, arith, subst, replicate, refl}
use Rattle.std.specs.Prelude.{slice_index}
use Rattle.std.proofs.lemmas.Bool.{cases_lt}
use Rattle.std.proofs.lemmas.List.{length-append, length-replicate}
use Rattle.qm_core.specs.Place.{State, Estimate, after}
use Rattle.qm_core.specs.Skipping.{IsRun}
use Rattle.qm_core.specs.Decoder.{DecoderState, has_stopped, decoder_state}
use Rattle.qm_core.specs.declared.source.Pulled.{Pulled}
use Rattle.qm_core.specs.declared.decoder.Decoder.{Decoder}
use Rattle.raster_core.specs.Machine.Registers.{bit, before, past_bits}
use Rattle.raster_core.specs.Machine.Decoded.{RowAround, RowPart, BytesAt, BytesAlong, SkipsFilledAlong, filled_run, bytes_at}
use Rattle.raster_core.specs.Machine.Uniform.{filled, uniform_event}
use Rattle.raster_core.proofs.ContextsLookBack.{before_front}
use Rattle.raster_core.proofs.RegistersTakeBytes.{packed_in}
use Rattle.raster_core.proofs.RunsAreSkipped.{run_pixels, run_before, decoded_run}
use Rattle.raster_core.proofs.BytesAreFilled.{filled_join, is_filled, run_join, after_more, filled_uniform, past_filled, register_filled}

pub along_join : {colour : Bool} {above second : List ℕ} {i at count : ℕ} {d d' d'' : Decoder} {learned : List Estimate} (n : ℕ) → at ≡ i + n → count ≡ n + 8 →
    SkipsFilledAlong (filled_run colour i n) above second d learned d' → SkipsFilledAlong (filled_run colour at 8) above second d' learned d'' →
    SkipsFilledAlong (filled_run colour i count) above second d learned d''
along_join {colour} {above} {second} {i} {at} {d = d} {d'} {d''} {learned} n at_is count_is a b =
    let behind : at + 1 ≡ (i + 1) + n = omega arith in
    subst (λ z. SkipsFilledAlong (filled_run colour i z) above second d learned d'') (sym count_is)
    (record {
      above_filled = filled_join colour above (i + 1) n 8 a.above_filled (rw (← behind) b.above_filled);
      second_filled = filled_join colour second (i + 1) n 8 a.second_filled (rw (← behind) b.second_filled);
      none = λ e. absurd (omega arith);
      decoded = λ p answers h.
          let s : State = record { place = p; learned = learned } in
          let event = uniform_event colour in
          let one = a.decoded p answers h in
          let t = after s (replicate (8 * n) event) in
          let two = b.decoded t.place answers one.1 in
          let same : record { place = t.place; learned = learned } ≡ t = ap (λ l. record { place = t.place; learned = l }) (sym one.0.taught) in
          let size : 8 * n + 64 ≡ 8 * (n + 8) = omega arith in
          let last : after t (replicate 64 event) ≡ after s (replicate (8 * (n + 8)) event) =
          rw (← after_more, size) refl in
          let still = one.0.quiet (8 * n) (omega arith) in (
            rw (← size) (run_join s event (8 * n) 64 one.0 (subst (λ u. IsRun u event 64) same two.0)),
            rw (← ap (λ u. after u (replicate 64 event)) same ∙ last) two.1,
            λ _ more. rw (← still) (two.2 (omega arith) more),
          );
    })

-- the bytes of a row that goes on in a colour
run_filled : (colour : Bool) (done : List Bool) (i n : ℕ) → length done ≡ 8 * i → (j : ℕ) → j < n → before (done ++ replicate (8 * n) colour) (8 * (i + j) + 8) 8 ≡ bit colour * 255
run_filled colour done i n long j few =
    run_before (done ++ replicate (8 * n) colour) (8 * (i + j)) 8 colour (λ k less.
    let e : length done + (8 * j + k) ≡ 8 * (i + j) + k = omega arith in
    rw (← e) (run_pixels done (8 * n) colour (8 * j + k) (omega arith)))

-- the registers at a byte contain only pixels of a colour
pub record AreOfColour (colour : Bool) (offset : ℕ) (b : BytesAt) : Type 0 where
  pub second_is : b.second ≡ filled colour 24
  pub above_is : b.above ≡ filled colour 24
  pub past_is : b.past ≡ filled colour (past_bits offset)

-- n bytes from byte i on have a colour now, and those before them are unchanged
pub record ArePainted (colour : Bool) (i n : ℕ) (old new : List ℕ) : Type 0 where
  pub filled : (k : ℕ) → i ≤ k → k < i + n → slice_index new k ≡ bit colour * 255
  pub kept : (k : ℕ) → k < i → slice_index new k ≡ slice_index old k

pub bytes_skipped : {S : Type 0} {pull : S → Pulled → S → Type 0} {a : RowAround} {part : RowPart S} {width left : ℕ} {b : BytesAt} {current : List ℕ} {mid : DecoderState S}
    {d' : Decoder} {colour : Bool} (n : ℕ) →
    a.offset ≤ 127 → b.left ≡ width - 8 * b.i → left + 8 * n ≡ b.left → 1 ≤ n → AreOfColour colour a.offset b → ArePainted colour b.i n b.current current → has_stopped mid.decoder ≡ false →
    SkipsFilledAlong (filled_run colour b.i n) a.above a.second mid.decoder mid.learned d' → BytesAlong pull a part width b mid →
    BytesAlong pull a part width (bytes_at left (b.i + n) b.second b.above b.past current) (decoder_state mid.source d' mid.learned)
bytes_skipped {a = a} {b = b} {colour = colour} n high left_is left_to some registers painted going skips along = record {
  any = λ from first s answers lines done₀ had so_far a_is s_is.
      let f = along.any _ _ _ _ _ _ had so_far a_is s_is in
      let i = b.i in
      let rest = f.rest in
      let wide : length f.done ≡ 8 * i = omega arith in
      let row = f.done ++ replicate (8 * n) colour in
      let long : length row ≡ 8 * i + 8 * n = rw (length-append, wide, length-replicate) refl in
      let near : before row (8 * i) (past_bits a.offset) ≡ filled colour (past_bits a.offset) =
      rw (before_front f.done (replicate (8 * n) colour) (8 * i) (past_bits a.offset) (omega arith), ← wide, ← f.so_far.past_is) registers.past_is in
      let above_filled = is_filled (packed_in a_is) skips.above_filled in
      let second_filled = is_filled (packed_in s_is) skips.second_filled in
      let stays = filled_uniform a.mode high (record { row_is = near; above_is = sym f.above_is ∙ registers.above_is; second_is = sym f.second_is ∙ registers.second_is }) above_filled second_filled in
      let behind : b.past ≡ before row (length row) (past_bits a.offset) =
      rw (registers.past_is, ← past_filled (past_bits a.offset) (record { byte = run_filled colour f.done i n wide }) near, ← long) refl in
      record {
        done = row;
        rest = omega arith;
        so_far = decoded_run (8 * n) colour f.so_far (rw wide stays) behind going
            (λ p given h. let k = skips.decoded p given h in (k.0, k.1, k.2 some));
        bytes = λ k few. elim (cases_lt k i) [
          | inl near' ↦ painted.kept k near' ∙ (f.bytes k near' ∙ sym (before_front f.done (replicate (8 * n) colour) (8 * k + 8) 8 (omega arith)))
          | inr far ↦
              let e : i + (k - i) ≡ k = omega arith in
              rw (painted.filled k far few, ← run_filled colour f.done i n wide (k - i) (omega arith), e) refl
        ];
        second_is = register_filled i second_filled f.second_is registers.second_is;
        above_is = register_filled i above_filled f.above_is registers.above_is;
      };
}

-- the same bytes, and the same decoder
pub kept_along : {S : Type 0} {pull : S → Pulled → S → Type 0} {a : RowAround} {part : RowPart S} {width : ℕ} {b : BytesAt} {current : List ℕ} {mid : DecoderState S} {d' : Decoder} →
    d' ≡ mid.decoder → ((k : ℕ) → k < b.i → slice_index current k ≡ slice_index b.current k) →
    BytesAlong pull a part width b mid →
    BytesAlong pull a part width (bytes_at b.left b.i b.second b.above b.past current) (decoder_state mid.source d' mid.learned)
kept_along same kept along = record {
  any = λ from first s answers lines done₀ had so_far a_is s_is.
      let f = along.any _ _ _ _ _ _ had so_far a_is s_is in
      record {
        done = f.done;
        rest = f.rest;
        so_far = rw same f.so_far;
        bytes = λ k few. kept k few ∙ f.bytes k few;
        second_is = f.second_is;
        above_is = f.above_is;
      };
}
