-- An encoder that a C caller holds.
use Rattle.std.proofs.Common.{◌≡◌, ◌≤◌, ◌<◌, ◌-◌, ◌⊎◌, inl, inr, ℕ, ◌==◌, Bool, false, not, ◌||◌, nat_lt, nat_le, List, [], ◌++◌, length, take, Option, None, Some, refl, sym, ap, subst, ◌∙◌, arith, append-nil, length-take, take_all}
use Rattle.std.specs.Prelude.{IfSome, IsSomeAnd, MatchOption, unwrap_or, if◌then◌else◌, ◌%◌}
use Rattle.std.specs.Int.{div_ceil}
use Rattle.std.proofs.lemmas.Bool.Decides.{nat_tests}
use Rattle.std.proofs.lemmas.List.{take-append-le}
use Rattle.pbm_core.specs.declared.size.Size.{Size}
use Rattle.raster_core.specs.Packed.{rows_at}
use Rattle.t85_core.specs.Jbg.{AreSettings, Settings, is_low}
use Rattle.t85_core.specs.Options.{refusal_of}
use Rattle.t85_core.specs.RowImage.{Image, image_of}
use Rattle.t85_core.specs.RowNumbers.{row_numbers}
use Rattle.t85_core.specs.States.ByRow.{IsPlan, MayGoOn, RowPlan, Stands, plan_of, view_of}
use Rattle.t85_core.specs.States.RowLaws.{RowFronts}
use Rattle.t85_core.specs.States.RowSteps.{IsGoing}
use Rattle.t85_core.specs.States.Sent.{behind}
use Rattle.t85_core.specs.declared.encoding.by_row.RowEncoder.{RowEncoder}
use Rattle.t85_core.specs.declared.encoding.by_row.numbers.RowNumbers.{RowNumbers}
use Rattle.t85_core.specs.declared.encoding.learning.Learning.{Learning}
use Rattle.t85_core.specs.declared.fault.Fault.{Fault}
use Rattle.t85_core.specs.declared.fault.Fault.TheVariants.{MoveLarge, OptionBits, StripeZero}
use Rattle.libt85.specs.Decoded.{window_bytes}
use Rattle.libt85.specs.Delivered.{lending}
use Rattle.libt85.specs.Encoded.{settings_chosen}
use Rattle.libt85.specs.Encoder.{BeginsStream, EndsStream, HasBeenEnded, HasCome, EncoderIsNotBegun, PutsEnd, PutsRow, StartCall, StartsStream, TakesOne, TellsLeft, encoder_hold, end_refusal, numbers_of_encoder, row_refusal, settings_kept, start_refusal, without_comment}
use Rattle.libt85.specs.EncoderSteps.{GoesOnFrom, IsIdle, IsOfNone, AwaitsCall, RefusesCall}
use Rattle.libt85.specs.Laws.{SentIsFront}
use Rattle.libt85.specs.declared.encoder.T85Encoder.{T85Encoder}
use Rattle.libt85.proofs.DecoderReadsHeader.{not_some}
use Rattle.libt85.proofs.EncoderTakesRows.{come_in, plan_in}
use Rattle.libt85.proofs.ZeroMeansSuccess.{none_zero, zero_else, zero_if}

-- ---- the choices that the struct has

-- a plan doesn't look at the comment
plan_bare : {image : Image} {p : RowPlan} → IsPlan image p → IsPlan (image_of (without_comment image.settings) image.width image.limit) p
plan_bare is = record {
  width_is = is.width_is;
  limit_is = is.limit_is;
  shape_is = record { width_is = is.shape_is.width_is; mode_is = is.shape_is.mode_is };
  stripe_rows_is = is.stripe_rows_is;
  some = is.some;
  announced_is = is.announced_is;
  may_end_is = is.may_end_is;
  candidates_are = is.candidates_are;
  reset_is = is.reset_is;
  most_is = is.most_is;
  width_from = is.width_from;
  width_to = is.width_to;
  limit_to = is.limit_to;
}

accepted : (p s m : ℕ) (layer : Bool) → p < 128 → p % 8 ≡ 0 → layer ≡ false → 1 ≤ s → m ≤ 127 →
    (if not (p % 8 == 0) || layer || nat_le 128 p then Some OptionBits else if s == 0 then Some StripeZero else if nat_lt 127 m then Some MoveLarge else None) ≡ None
accepted p s m layer small low none some within = grind (arith, nat_tests)

-- so the choices of an image that is encoded are not refused
unrefused : {s : Settings} {fault : Fault} (d : T85Encoder) → AreSettings s → settings_kept d ≡ without_comment s → refusal_of d.options d.stripe_rows d.most_offset None ≡ Some fault → ⊥
unrefused {s} {fault} d proper same refused =
    not_some fault (sym (accepted s.options s.stripe_rows s.most_offset _ proper.options_to proper.no_low_bit proper.no_layer_bit proper.stripe_from proper.offset_to)
    ∙ subst (λ z. refusal_of z.options z.stripe_rows z.most_offset None ≡ Some fault) same refused)

-- no image is encoded by a struct with choices that are refused
pub none_refused : {fault : Fault} (d : T85Encoder) → refusal_of d.options d.stripe_rows d.most_offset None ≡ Some fault → IsOfNone d
none_refused d refused = λ window image rows sent k. unrefused d k.proper k.settings_are refused

-- or with a size that none has
pub none_sized : (d : T85Encoder) → (d.width ≡ 0) ⊎ (1048576 < d.width) ⊎ (d.height ≡ 0) → IsOfNone d
none_sized d (inl e) = λ window image rows sent k. (let plan = plan_in (k.stands None) in let from = plan.width_from in omega (arith, e, from, k.width_is))
none_sized d (inr (inl e)) = λ window image rows sent k. (let plan = plan_in (k.stands None) in let to = plan.width_to in omega (arith, e, to, k.width_is))
none_sized d (inr (inr e)) = λ window image rows sent k. (let from = k.some in omega (arith, e, from, k.limit_is))

-- ---- the engine's encoder

-- the engine's answer to the settings, the size and the numbers of a struct
pub record IsResumed (d : T85Encoder) (o : Settings) (size : Size) (numbers : RowNumbers) (result : Option RowEncoder) : Type 0 where
  pub sized : IfSome result (λ r. r.size ≡ size)
  pub has_numbers : IfSome result (λ r. row_numbers r ≡ numbers)
  pub settings_are : o ≡ settings_kept d
  pub numbers_are : numbers ≡ numbers_of_encoder d
  pub width_is : size.width ≡ d.width
  pub height_is : size.height ≡ d.height
  pub ready : IfSome result MayGoOn
  pub going : IfSome result IsGoing
  pub plan : IfSome result (λ r. IsPlan (image_of o size.width size.height) (plan_of r))
  pub resumes : (e : RowEncoder) → is_low o size.height ≡ false → IsPlan (image_of o size.width size.height) (plan_of e) → MayGoOn e → numbers ≡ row_numbers e →
      IsSomeAnd result (λ r. (l : Learning) → view_of r l ≡ view_of e l)

module _ {d : T85Encoder} {o : Settings} {size : Size} {numbers : RowNumbers} {result : Option RowEncoder} (is : IsResumed d o size numbers result) where
  -- it is the encoder of each image
  found : (window : List ℕ) (image : Image) (rows : List (List Bool)) (sent : List ℕ) (k : HasCome image (encoder_hold d window) rows sent) →
      IsSomeAnd result (λ r. (l : Learning) → view_of r l ≡ view_of k.engine l)
  found window image rows sent k =
      let same = is.settings_are ∙ k.settings_are in
      let wide = is.width_is ∙ k.width_is in
      let high = is.height_is ∙ k.limit_is in
      is.resumes k.engine (rw (same, high) k.not_low) (rw (same, wide, high) (plan_bare (plan_in (k.stands None)))) k.ready (is.numbers_are ∙ k.numbers_are)

pub resumed : {d : T85Encoder} {o : Settings} {size : Size} {numbers : RowNumbers} {result : Option RowEncoder} → IsResumed d o size numbers result →
    MatchOption result (IsOfNone d) (λ r. GoesOnFrom d r)
resumed {result = None} is = found is
resumed {result = Some r} is = record {
  ready = is.ready;
  going = is.going;
  width_is = ap (λ z. z.width) is.sized ∙ is.width_is;
  limit_is = ap (λ z. z.height) is.sized ∙ is.height_is;
  plan_is = rw (is.settings_are, is.width_is, is.height_is) at is.plan;
  numbers_are = is.has_numbers ∙ is.numbers_are;
  resumes = found is;
}

-- it isn't there
pub idle_none : {d : T85Encoder} → IsOfNone d → d.version ≡ 1 → d.next ≡ 1 → IsIdle d 53
idle_none none version next = record {
  some = λ e. omega (arith, e);
  none = none;
  ended = λ h. absurd (let is = h.next_is in omega (arith, is, next));
  not_begun = λ h. refl;
}

pub idle_refuses : {d : T85Encoder} {refusal : Option ℕ} {status : ℕ} → IsIdle d status → RefusesCall d refusal status
idle_refuses i = record {
  some = i.some;
  first = λ window image rows sent k. absurd (i.none window image rows sent k);
  ended = i.ended;
  not_begun = i.not_begun;
}

-- ---- how many rows may come

pub left_told : {left : ℕ} (d : T85Encoder) → left ≡ d.height - d.rows → TellsLeft d left
left_told d is = λ window image rows sent k. (let come = come_in (k.stands None) in let few = come.few in omega (arith, is, few, k.limit_is, k.rows_are))

-- ---- the calls

-- another window with the same three rows
other_window : {image : Image} {d : T85Encoder} {window window' : List ℕ} {rows : List (List Bool)} {sent : List ℕ} → take (window_bytes image.width) window ≡ take (window_bytes image.width) window' →
    HasCome image (encoder_hold d window) rows sent → HasCome image (encoder_hold d window') rows sent
other_window {image} {d} {rows = rows} {sent} same k = record {
  version_is = k.version_is;
  next_is = k.next_is;
  width_is = k.width_is;
  limit_is = k.limit_is;
  rows_are = k.rows_are;
  settings_are = k.settings_are;
  proper = k.proper;
  not_low = k.not_low;
  some = k.some;
  place_is = k.place_is;
  engine = k.engine;
  ready = k.ready;
  numbers_are = k.numbers_are;
  stands = λ text. subst (λ m. Stands image rows (view_of k.engine d.learning) (rows_at d.place image.width m) (behind sent text) text) same (k.stands text);
}

take_twice : {m : ℕ} (n : ℕ) (xs : List ℕ) → n ≡ m → take n (take m xs) ≡ take n xs
take_twice n xs same = rw (← same) (take_all n (take n xs) (omega (arith, length-take n xs)))

-- the window alone
pub window_alone : {image : Image} {d : T85Encoder} {window : List ℕ} {needed : ℕ} {rows : List (List Bool)} {sent : List ℕ} → needed ≡ window_bytes d.width →
    HasCome image (encoder_hold d window) rows sent → HasCome image (encoder_hold d (take needed window)) rows sent
window_alone {image} {window = window} needed_is k = other_window (sym (take_twice (window_bytes image.width) window (ap window_bytes (sym k.width_is) ∙ sym needed_is))) k

-- and with the bytes behind it
window_whole : {image : Image} {d : T85Encoder} {window : List ℕ} {rows : List (List Bool)} {sent : List ℕ} (rest : List ℕ) → length window ≡ window_bytes image.width →
    HasCome image (encoder_hold d window) rows sent → HasCome image (encoder_hold d (window ++ rest)) rows sent
window_whole {image} {window = window} rest long k = other_window (sym (take-append-le (window_bytes image.width) window rest (omega (arith, long)))) k

pub ready_begun : {d : T85Encoder} {e : RowEncoder} → AwaitsCall d e → EncoderIsNotBegun d → ⊥
ready_begun r (inl other) = other r.version_is
ready_begun r (inr other) = other.0 r.next_is

pub ready_ended : {d : T85Encoder} {e : RowEncoder} → AwaitsCall d e → HasBeenEnded d → ⊥
ready_ended r h = (let next = h.next_is in let was = r.next_is in omega (arith, next, was))

pub row_refused : {d : T85Encoder} {window stream row : List ℕ} {status : ℕ} → RefusesCall d (row_refusal d (length row) (length window) (length stream)) status →
    PutsRow (encoder_hold d window) (encoder_hold d window) row (lending stream stream 0 status)
row_refused {window = window} r = record {
  status_is = λ window image rows sent k. sym (ap (λ o. unwrap_or o 0) (r.first window image rows sent k));
  ended = r.ended;
  not_begun = r.not_begun;
  refused = λ other. record { same = refl; nothing = refl; stream = refl };
  taken = λ e. absurd (r.some e);
  within = omega arith;
}

pub row_put : {d d' : T85Encoder} {e : RowEncoder} {window memory' row stream stream' : List ℕ} {n needed long : ℕ} (rest : List ℕ) → AwaitsCall d e →
    row_refusal d (length row) (length window) (length stream) ≡ None →
    needed ≡ window_bytes d.width → length memory' ≡ needed → long ≡ div_ceil d.width 8 → n ≤ length stream' →
    TakesOne (encoder_hold d (take needed window)) (encoder_hold d' memory') (take long row) (take n stream') →
    PutsRow (encoder_hold d window) (encoder_hold d' (memory' ++ rest)) row (lending stream stream' n 0)
row_put {d} {row = row} rest ready none needed_is long' long_is within takes = record {
  status_is = λ window image rows sent k. sym (ap (λ o. unwrap_or o 0) none);
  ended = λ h. absurd (ready_ended ready h);
  not_begun = λ h. absurd (ready_begun ready h);
  refused = λ other. absurd (other refl);
  taken = λ zero_is image rows sent k.
      let pixels = take_twice (div_ceil image.width 8) row (ap (λ w. div_ceil w 8) (sym k.width_is) ∙ sym long_is) in
      rw pixels at (window_whole rest (long' ∙ needed_is ∙ ap window_bytes k.width_is) (takes image rows sent (window_alone needed_is k)));
  within = within;
}

pub end_refused : {d : T85Encoder} {window stream : List ℕ} {status : ℕ} → RefusesCall d (end_refusal d (length window) (length stream)) status →
    PutsEnd (encoder_hold d window) (encoder_hold d window) (lending stream stream 0 status)
end_refused {window = window} r = record {
  status_is = λ window image rows sent k. sym (ap (λ o. unwrap_or o 0) (r.first window image rows sent k));
  was_ended = r.ended;
  not_begun = r.not_begun;
  refused = λ other. record { same = refl; nothing = refl; stream = refl };
  ends = λ e. absurd (r.some e);
  ended = λ e. absurd (r.some e);
  within = omega arith;
}

pub end_put : {d d' : T85Encoder} {e : RowEncoder} {window window' stream stream' : List ℕ} {n needed : ℕ} → AwaitsCall d e → end_refusal d (length window) (length stream) ≡ None →
    needed ≡ window_bytes d.width → n ≤ length stream' → HasBeenEnded d' → EndsStream (encoder_hold d (take needed window)) (take n stream') →
    PutsEnd (encoder_hold d window) (encoder_hold d' window') (lending stream stream' n 0)
end_put ready none needed_is within ended ends = record {
  status_is = λ window image rows sent k. sym (ap (λ o. unwrap_or o 0) none);
  was_ended = λ h. absurd (ready_ended ready h);
  not_begun = λ h. absurd (ready_begun ready h);
  refused = λ other. absurd (other refl);
  ends = λ zero_is image rows sent k. ends image rows sent (window_alone needed_is k);
  ended = λ zero_is. ended;
  within = within;
}

start_some : (call : StartCall) (window room : ℕ) → start_refusal call window room ≡ Some 0 → ⊥
start_some call window room =
    zero_else _ _ (zero_if _ 50 (omega arith))
    (zero_else _ _ (none_zero call.choice call.comment call.width call.height (div_ceil call.width 8) window) (zero_if _ 18 (omega arith)))

pub start_refused : {call : StartCall} {d : T85Encoder} {window stream : List ℕ} {status : ℕ} → start_refusal call (length window) (length stream) ≡ Some status →
    StartsStream call (encoder_hold d window) (encoder_hold d window) (lending stream stream 0 status)
start_refused {call} {window = window} {stream} told = record {
  status_is = sym (ap (λ o. unwrap_or o 0) told);
  refused = λ other. record { same = refl; nothing = refl; stream = refl };
  begun = λ e. absurd (start_some call (length window) (length stream) (told ∙ ap Some e));
  within = omega arith;
}

pub start_done : {call : StartCall} {d d' : T85Encoder} {window memory' stream stream' : List ℕ} {n width height : ℕ} {s : Settings} (rest : List ℕ) →
    start_refusal call (length window) (length stream) ≡ None →
    s ≡ settings_chosen call.choice call.comment → width ≡ call.width → height ≡ call.height → length memory' ≡ window_bytes call.width → n ≤ length stream' →
    BeginsStream (image_of s width height) (encoder_hold d' memory') (take n stream') →
    StartsStream call (encoder_hold d window) (encoder_hold d' (memory' ++ rest)) (lending stream stream' n 0)
start_done rest none same wide high long within begins =
    let begun = rw (same, wide, high) at begins in
    record {
      status_is = sym (ap (λ o. unwrap_or o 0) none);
      refused = λ other. absurd (other refl);
      begun = λ zero_is. record { head = begun.head; come = window_whole rest long begun.come };
      within = within;
    }

-- ---- what was sent so far

pub sent_is_front : RowFronts → SentIsFront
sent_is_front law = λ image hold rows sent raster k may.
    let front = law image rows _ _ (behind sent (Some [])) (Some []) (k.stands (Some [])) in
    let sends = front.sent in
    let is : front.bytes ≡ sent = sends.all ∙ ap (λ m. sent ++ m) (sym sends.appended) ∙ append-nil sent in
    rw is at (front.begun raster may)
