-- The output of an encoder is a front of the place.
use Rattle.std.proofs.Common.{◌≡◌, ◌≢◌, ℕ, zero, suc, ◌+◌, ◌*◌, ◌^◌, ◌<◌, ◌≤◌, Option, Some, None, List, [], ◌∷◌, ◌++◌, length, replicate, arith, refl, ap, ◌∙◌, sym, append_assoc, append-nil, length-append}
use Rattle.std.proofs.lemmas.Int.Digits.{number_lt}
use Rattle.std.proofs.lemmas.Nat.{pow-add}
use Rattle.std.proofs.Math.Nat.{pow-suc, mul-le-mul_right, one-le-pow, pow-le-pow_right}
use Rattle.qm_core.specs.Place.{Place}
use Rattle.qm_core.specs.Code.{IsBytes, IsTrimmed, number, stuffed}
use Rattle.qm_core.specs.Machine.{run_bytes, option_bytes, Digits}
use Rattle.qm_core.specs.Encoder.{HeldBack, RegistersAreAt, EncoderIsAt, IsStuffedFront, held_by}
use Rattle.qm_core.specs.declared.batch.Batch.{Batch}
use Rattle.qm_core.specs.declared.encoder.Encoder.{Encoder}
use Rattle.qm_core.proofs.CodesLieInside.{number-append, pow-256}
use Rattle.qm_core.proofs.FirstBytesSuffice.{number-cons}
use Rattle.qm_core.proofs.TailTakesByte.{number-run, batch_bytes}
use Rattle.qm_core.proofs.WritesJoin.{stuffed-append}
use Rattle.std.proofs.lemmas.List.{length-replicate}

-- ---- trimmed lists of bytes
IsTrimmed-end : (xs : List ℕ) (y : ℕ) → y ≢ 0 → IsTrimmed (xs ++ y ∷ [])
IsTrimmed-end [] y h = h
IsTrimmed-end (x ∷ []) y h = h
IsTrimmed-end (x ∷ z ∷ xs) y h = IsTrimmed-end (z ∷ xs) y h

run-end : (o x : ℕ) → replicate (suc o) x ≡ replicate o x ++ x ∷ []
run-end zero x = refl
run-end (suc o) x = ap (λ l. x ∷ l) (run-end o x)

trimmed_run : (front : List ℕ) (z : ℕ) (b : Option ℕ) (o : ℕ) → IsTrimmed front → b ≢ Some 0 → (b ≡ None → o ≡ 0 → z ≡ 0) → IsTrimmed (front ++ run_bytes z b o)
trimmed_run front z None zero t n h = rw (h refl refl, append-nil) t
trimmed_run front z (Some x) zero t n h =
    let ne : x ≢ 0 = λ e. n (ap Some e) in
    rw (sym (append_assoc front (replicate z 0) (x ∷ []))) (IsTrimmed-end (front ++ replicate z 0) x ne)
trimmed_run front z b (suc o) t n h =
    let ne : 255 ≢ 0 = omega arith in
    let e : front ++ run_bytes z b (suc o) ≡ (front ++ (replicate z 0 ++ (option_bytes b ++ replicate o 255))) ++ 255 ∷ [] = rw (run-end o 255) (simp append_assoc) in
    rw e (IsTrimmed-end (front ++ (replicate z 0 ++ (option_bytes b ++ replicate o 255))) 255 ne)

bytes-append : (xs ys : List ℕ) → IsBytes xs → IsBytes ys → IsBytes (xs ++ ys)
bytes-append [] ys h k = k
bytes-append (x ∷ xs) ys h k = (h.0, bytes-append xs ys h.1 k)

bytes_run : (n x : ℕ) → x < 256 → IsBytes (replicate n x)
bytes_run zero x h = tt
bytes_run (suc n) x h = (h, bytes_run n x h)

bytes_option : (b : Option ℕ) → ((x : ℕ) → b ≡ Some x → x < 256) → IsBytes (option_bytes b)
bytes_option None h = tt
bytes_option (Some x) h = (h x refl, tt)

bytes_of_run : (z : ℕ) (b : Option ℕ) (o : ℕ) → ((x : ℕ) → b ≡ Some x → x < 256) → IsBytes (run_bytes z b o)
bytes_of_run z b o h = bytes-append (replicate z 0) (option_bytes b ++ replicate o 255) (bytes_run z 0 (omega arith))
    (bytes-append (option_bytes b) (replicate o 255) (bytes_option b h) (bytes_run o 255 (omega arith)))

-- ---- batches

-- whole bytes, of which the last is not 0
pub record IsWhole (xs : List ℕ) : Type 0 where
  pub bytes : IsBytes xs
  pub trimmed : IsTrimmed xs

pub whole_batch : {front : List ℕ} (b : Batch) → IsWhole front → IsWhole (front ++ batch_bytes b)
whole_batch {front} b w = record {
  bytes = bytes-append front (batch_bytes b) w.bytes (bytes_of_run b.zeros b.byte b.ones b.small);
  trimmed = trimmed_run front b.zeros b.byte b.ones w.trimmed b.nonzero b.trimmed;
}

-- ---- all numbers of the place begin with the front
number-zeros_before : (z : ℕ) (xs : List ℕ) → number (replicate z 0 ++ xs) ≡ number xs
number-zeros_before zero xs = refl
number-zeros_before (suc z) xs = number-zeros_before z xs

-- a held byte below 255 leaves room for a carry
raisable : (z h o : ℕ) → h < 255 → number (run_bytes z (Some h) o) + 2 ≤ 256 ^ length (run_bytes z (Some h) o)
raisable z h o l =
    let n : number (run_bytes z (Some h) o) ≡ h * 256 ^ o + number (replicate o 255) = number-zeros_before z (h ∷ replicate o 255)
    ∙ (number-cons h (replicate o 255) ∙ ap (λ k. h * 256 ^ k + number (replicate o 255)) (length-replicate {A = ℕ} o 255)) in
    let s : length (run_bytes z (Some h) o) ≡ z + suc o = length-append (replicate z 0) (h ∷ replicate o 255)
    ∙ (ap (λ k. k + length (h ∷ replicate o 255)) (length-replicate {A = ℕ} z 0) ∙ ap (λ k. z + suc k) (length-replicate {A = ℕ} o 255)) in
    let m : 256 ^ suc o ≤ 256 ^ (z + suc o) = (let e : suc o ≤ z + suc o = omega arith in let pos : 0 < 256 = omega arith in pow-le-pow_right pos e) in
    let r = number-run o in
    let p = pow-suc 256 o in
    let q : 1 ≤ 256 ^ o = one-le-pow o 256 (omega arith) in
    let t : h * 256 ^ o ≤ 254 * 256 ^ o = (let e : h ≤ 254 = omega arith in mul-le-mul_right (256 ^ o) e) in
    rw s (omega (arith, n))

-- the place after a front of the value F with K = 256^k, and bytes held back of the value R with M = 256^m; B = 2^bits
record AreSplit (F K M B P L N R low : ℕ) : Type 0 where
  pub power : P ≡ (K * M) * B
  pub number_is : N ≡ F * M + R
  pub value : 128 * L ≡ N * (128 * B) + low

front_from : {F K M B P L N R low : ℕ} → AreSplit F K M B P L N R low → F * P ≤ L * K
front_from {F} {K} {M} {B} {P} {L} {N} {R} {low} s =
    let a = ap (λ z. F * z) s.power in
    let c = ap (λ z. z * K) s.value in
    let d = ap (λ z. (z * (128 * B)) * K) s.number_is in
    omega arith

front_up_to : {F K M B P L N R low : ℕ} (A room : ℕ) → AreSplit F K M B P L N R low → low + 128 * A ≤ room * (128 * B) → R + room ≤ M → (L + A) * K ≤ (F + 1) * P
front_up_to {F} {K} {M} {B} {P} {L} {N} {R} {low} A room s l r =
    let a = ap (λ z. (F + 1) * z) s.power in
    let b = ap (λ z. (z * (128 * B)) * K) s.number_is in
    let c = ap (λ z. z * K) s.value in
    let d = mul-le-mul_right K l in
    let e = mul-le-mul_right ((128 * B) * K) r in
    omega arith

eighths : (bits : ℕ) → (2 ^ (bits + 7) ≡ 128 * 2 ^ bits) × (2 ^ (bits + 8) ≡ 256 * 2 ^ bits)
eighths bits =
    let a : bits + 7 ≡ 7 + bits = omega arith in
    let b : bits + 8 ≡ 8 + bits = omega arith in
    (rw a (pow-add 2 7 bits), rw b (pow-add 2 8 bits))

room_of : (tail : HeldBack) (low span bits : ℕ) → ((x : ℕ) → tail.held ≡ Some x → x < 255) → low + span ≤ 2 ^ (bits + 8) → (tail.held ≡ None → low + span ≤ 2 ^ (bits + 7)) →
    (room : ℕ) × (low + span ≤ room * (128 * 2 ^ bits)) × (number (run_bytes tail.zeros tail.held tail.ones) + room ≤ 256 ^ length (run_bytes tail.zeros tail.held tail.ones))
room_of tail low span bits raise wide fixed = went tail.held refl where
  went : (h : Option ℕ) → tail.held ≡ h → (room : ℕ) × (low + span ≤ room * (128 * 2 ^ bits))
      × (number (run_bytes tail.zeros tail.held tail.ones) + room ≤ 256 ^ length (run_bytes tail.zeros tail.held tail.ones))
  went None is =
      let e = eighths bits in
      let n = number_lt 256 (run_bytes tail.zeros tail.held tail.ones) (bytes_of_run tail.zeros tail.held tail.ones (λ x f. cc)) in
      let f = fixed is in
      (1, omega (arith, e.0), omega arith)
  went (Some x) is = let e = eighths bits in (2, omega (arith, e.1), rw is (raisable tail.zeros x tail.ones (raise x is)))

-- what an encoder has pushed is a stuffed front of its place
pub encoder_front : (e : Encoder) {p : Place} {pushed : List ℕ} → EncoderIsAt e p pushed → IsStuffedFront pushed p
encoder_front e {p} c =
    let run = run_bytes e.tail.zeros e.tail.held e.tail.ones in
    let d = c.digits in
    let l = length-append c.front (run_bytes e.tail.zeros e.tail.held e.tail.ones) in
    let b = eighths e.bits in
    let m : 16 + p.doublings ≡ 8 * (length c.front + length run) + e.bits = omega (arith, d.count, l) in
    let power : 2 ^ (16 + p.doublings) ≡ (256 ^ length c.front * 256 ^ length run) * 2 ^ e.bits =
    ap (λ k. 2 ^ k) m ∙ (pow-add 2 (8 * (length c.front + length run)) e.bits
    ∙ ap (λ k. k * 2 ^ e.bits) (sym (pow-256 (length c.front + length run)) ∙ pow-add 256 (length c.front) (length run))) in
    let s : AreSplit (number c.front) (256 ^ length c.front) (256 ^ length run) (2 ^ e.bits) (2 ^ (16 + p.doublings)) p.low (number (c.front ++ run)) (number run) e.low = record {
      power = power;
      number_is = number-append c.front run;
      value = d.value ∙ ap (λ k. number (c.front ++ run) * k + e.low) b.0;
    } in
    let r = room_of (held_by e) e.low e.span e.bits e.tail.raisable e.room e.fixed in
    record {
      front = c.front;
      is = c.is;
      begins = record {
        bytes = c.bytes;
        trimmed = c.trimmed;
        from = front_from s;
        up_to = front_up_to p.size r.0 s (omega (arith, r.1, d.size)) r.2;
      };
    }

-- two batches after the front
pub codes_batches : {low low' span span' bits bits' : ℕ} {old tail : HeldBack} {p : Place} {pushed : List ℕ} (s : RegistersAreAt low span bits old p pushed) (a b : Batch) →
    Digits low' span' bits' p (((s.front ++ batch_bytes a) ++ batch_bytes b) ++ run_bytes tail.zeros tail.held tail.ones) →
    RegistersAreAt low' span' bits' tail p (pushed ++ stuffed (batch_bytes a ++ batch_bytes b))
codes_batches s a b d =
    let whole = whole_batch b (whole_batch a (record { bytes = s.bytes; trimmed = s.trimmed })) in
    record {
      front = (s.front ++ batch_bytes a) ++ batch_bytes b;
      is = rw (s.is, append_assoc s.front (batch_bytes a) (batch_bytes b)) (sym (stuffed-append s.front (batch_bytes a ++ batch_bytes b)));
      bytes = whole.bytes;
      trimmed = whole.trimmed;
      digits = d;
    }
