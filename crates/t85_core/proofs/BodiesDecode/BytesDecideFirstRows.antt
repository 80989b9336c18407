-- The bytes so far decide the first rows of every raster or outcome of the body.
use Rattle.std.proofs.Common.{◌≡◌, ◌<◌, ◌≤◌, ◌-◌, ◌*◌, ◌⊎◌, inl, inr, ℕ, Bool, List, [], ◌∷◌, ◌++◌, length, min, take, drop, None, Some, refl, sym, ap, ◌∙◌, subst, append_assoc, append-nil, take-append-drop, arith}
use Rattle.std.specs.Prelude.{flat_map}
use Rattle.std.proofs.lemmas.Grind.{flat_map-append}
use Rattle.pbm_core.specs.Pbm.{header_text}
use Rattle.qm_core.specs.Code.{IsBytes, stuffed}
use Rattle.raster_core.specs.Raster.{Raster}
use Rattle.raster_core.specs.Packed.{packed_row}
use Rattle.t85_core.specs.declared.fault.Fault.{Fault}
use Rattle.t85_core.specs.Header.{Fields}
use Rattle.t85_core.specs.Grammar.{Segment, Stripe, segment_bytes, lengths, all_segments, stripe_bytes, stripe_count, IsBegun, AreStripes, GiveOnly}
use Rattle.t85_core.specs.Refusal.{spot_after}
use Rattle.t85_core.specs.Coding.{flagged}
use Rattle.t85_core.specs.Denotes.{DenotesAt}
use Rattle.t85_core.specs.Fixed.{Fixes, AreDecided, begun_stripes}
use Rattle.t85_core.specs.Outcome.{pbm_rows, pbm_text}
use Rattle.t85_core.specs.States.State.{RowStart, StripeStart, first_row_start, image_start, lines_with, offset_at, Run, StripesRun, stripe_coding, RowCoding}
use Rattle.t85_core.specs.Private.Cut.{FrontRun}
use Rattle.t85_core.specs.States.Cut.{RunEnough, open_stripe}
use Rattle.t85_core.specs.Laws.{IsInUse}
use Rattle.t85_core.specs.Private.CoderLaws.{CoderLaws}
use Rattle.t85_core.specs.Private.DecodeStripes.{StripeDecides, AreFirst, stripe_place}
use Rattle.t85_core.proofs.StreamsDenote.RowsAreBuilt.{bytes_in_start}
use Rattle.t85_core.proofs.BytesJoin.ListsKeepElements.{all_right}
use Rattle.t85_core.proofs.BodiesParse.BodyHasOneReading.{first_parts, begun_in_stripe, begun_in_fault, stripe_in_fault, one_stripe}
use Rattle.t85_core.proofs.BodiesParse.BodyHasOneHeight.{suits_in_use, whole_or_broken_at}
use Rattle.t85_core.proofs.StreamsDenote.BodyFixesRows.{AreLying, begun_length}
use Rattle.t85_core.proofs.StreamsDenote.LongestListIsDecided.{decided_in_longest}
use Rattle.t85_core.proofs.StreamsDenote.DecidedRowsStay.{Continued, long_lying, lying_in_raster, lying_in_rows, decided_longer}
use Rattle.t85_core.proofs.BodiesDecode.StripesDenoteRaster.{stripes_whole}
use Rattle.t85_core.proofs.BodiesDecode.StripesFixRows.{carried_few, carried_lying, carried_decided}
use Rattle.t85_core.proofs.StreamsDenote.RasterIsUnique.{one_raster_at}
use Rattle.t85_core.proofs.BodiesDecode.RunsGrow.{short_code}

-- rows that are first make a text that is first
pub text_first : (width height : ℕ) (rows all : List (List Bool)) → take (length rows) all ≡ rows → (behind : List ℕ) × (pbm_rows width height all ≡ pbm_rows width height rows ++ behind)
text_first width height rows all is = (
  flat_map packed_row (drop (length rows) all),
  ap (pbm_rows width height) (sym (take-append-drop (length rows) all) ∙ ap (λ z. z ++ drop (length rows) all) is)
      ∙ ap (λ z. header_text width height ++ z) (flat_map-append packed_row rows (drop (length rows) all))
      ∙ sym (append_assoc (header_text width height) (flat_map packed_row rows) (flat_map packed_row (drop (length rows) all))),
)

abbrev made : List Segment → List ℕ → Bool → Stripe
made segments code reset = record { segments = segments; code = code; reset = reset }

-- no byte decides no row
none_enough : (coding : RowCoding) (r : ℕ) (b : RowStart) (rows : List (List Bool)) (flags : List Bool) (last : RowStart) → 1 ≤ coding.width → Run coding r b rows flags last →
    RunEnough 0 coding r b rows flags → rows ≡ []
none_enough coding r b [] flags last some run enough = refl
none_enough coding r b (row ∷ rows) [] last some run enough = absurd run
none_enough coding r b (row ∷ rows) (flag ∷ flags) last some run enough =
    absurd (short_code coding.mode.two_line coding.mode.typical (lines_with b row) (offset_at coding.move r b.offset) b.previous flag b.state 0 (let wide = run.0.wide in omega (arith, some, wide))
    (omega arith) run.0.legal enough.0)

-- the image of a raster of this width and height
pub pbm_of : (h : Fields) (height : ℕ) (raster : Raster) (body : List ℕ) → DenotesAt h height body raster → pbm_text raster ≡ pbm_rows h.xd height raster.rows
pbm_of h height raster body p = ap (λ w. pbm_rows w (length raster.rows) raster.rows) p.width ∙ ap (λ n. pbm_rows h.xd n raster.rows) p.height

module _ (q : CoderLaws) (h : Fields) (height : ℕ) (u : IsInUse h height) (stripes : List Stripe) (first : List (List Bool)) (first_flags : List Bool) (mid : StripeStart)
    (fewer : length stripes < stripe_count height h.l0) (gives : GiveOnly height 0 (all_segments stripes)) (run : StripesRun h height (image_start h.xd) stripes (flagged first first_flags) mid) where
  each : AreStripes h stripes
  each = stripes_whole h height (image_start h.xd) stripes first first_flags mid run

  -- a stripe after them, of which such segments and code came, whatever decides its rows
  module _ (segments : List Segment) (code more : List ℕ) (rows : List (List Bool)) (flags : List Bool) (bytes : IsBytes code) (others : IsBytes more)
      (front : FrontRun (open_stripe h mid segments) (min (height - length stripes * h.l0) h.l0) code rows flags)
      (decides : (RunEnough (length code) (stripe_coding h segments) 0 (first_row_start mid) rows flags) ⊎ (more ≡ [])) where
    abbrev here : Continued
    here = record { stripes = stripes; segments = segments; code = code; more = more; bytes = bytes; others = others }

    lying : AreLying h (begun_stripes stripes segments (code ++ more)) (length stripes) (flagged (first ++ rows) (first_flags ++ flags))
    lying = went decides where
      went : (RunEnough (length code) (stripe_coding h segments) 0 (first_row_start mid) rows flags) ⊎ (more ≡ []) →
          AreLying h (begun_stripes stripes segments (code ++ more)) (length stripes) (flagged (first ++ rows) (first_flags ++ flags))
      went (inl enough) = long_lying q u.accepted here (carried_decided h height u.accepted stripes segments code first rows first_flags flags mid fewer run front enough)
      went (inr none) =
          subst (λ z. AreLying h (begun_stripes stripes segments z) (length stripes) (flagged (first ++ rows) (first_flags ++ flags))) (sym (append-nil code) ∙ ap (λ z. code ++ z) (sym none))
          (carried_lying h height u.accepted stripes segments code first rows first_flags flags mid fewer run front)

    few : length (first ++ rows) ≤ height
    few = carried_few h height u.accepted stripes segments code first rows first_flags flags mid fewer run front

    in_raster : (reset : Bool) (later : List Stripe) (body : List ℕ) (raster : Raster) (p : DenotesAt h height body raster) →
        p.parts.stripes ≡ stripes ++ record { segments = segments; code = code ++ more; reset = reset } ∷ later → take (length (first ++ rows)) raster.rows ≡ first ++ rows
    in_raster reset later body raster p e = lying_in_raster q u.accepted here reset later lying few p e

    in_rows : (reset : Bool) (later : List Stripe) (body : List ℕ) (fault : Fault) (all : List (List Bool)) (x : Fixes h height body fault all) →
        x.broken.stripes ≡ stripes ++ record { segments = segments; code = code ++ more; reset = reset } ∷ later → take (length (first ++ rows)) all ≡ first ++ rows
    in_rows reset later body fault all x e = lying_in_rows q u.accepted here reset later lying x.fixed e

  -- the stripe is the one that isn't whole
  in_broken : (segments : List Segment) (code more : List ℕ) (rows : List (List Bool)) (flags : List Bool) → IsBytes code → IsBytes more →
      FrontRun (open_stripe h mid segments) (min (height - length stripes * h.l0) h.l0) code rows flags → RunEnough (length code) (stripe_coding h segments) 0 (first_row_start mid) rows flags →
      (body : List ℕ) (fault : Fault) (all : List (List Bool)) (x : Fixes h height body fault all) → x.broken.stripes ≡ stripes → segments ≡ x.broken.tail_has.segments → x.broken.tail_has.code ≡ code
      ++ more →
      take (length (first ++ rows)) all ≡ first ++ rows
  in_broken segments code more rows flags bytes others front enough body fault all x s_is segments_is code_is =
      let d = carried_decided h height u.accepted stripes segments code first rows first_flags flags mid fewer run front enough in
      let l = decided_longer q u.accepted (record { stripes = stripes; segments = segments; code = code; more = more; bytes = bytes; others = others }) d in
      let there = subst (λ (z : List Stripe × List Segment × List ℕ). AreDecided h height (begun_stripes z.0 z.1 z.2) (length z.0) z.2 (flagged (first ++ rows) (first_flags ++ flags)))
      (λ i. (sym s_is i, segments_is i, sym code_is i)) l in
      decided_in_longest q u.accepted (begun_length x.broken.stripes x.broken.tail_has.segments x.broken.tail_has.code) there x.fixed.decided x.fixed.longest

  -- the stripe of another reading at this place
  record Matched (rows : List (List Bool)) (t : Stripe) : Type 0 where
    pub segments : List Segment
    pub code : List ℕ
    pub more : List ℕ
    pub flags : List Bool
    pub bytes : IsBytes code
    pub others : IsBytes more
    pub front : FrontRun (open_stripe h mid segments) (min (height - length stripes * h.l0) h.l0) code rows flags
    pub decides : (RunEnough (length code) (stripe_coding h segments) 0 (first_row_start mid) rows flags) ⊎ (more ≡ [])
    pub is : t ≡ record { segments = segments; code = code ++ more; reset = t.reset }

  -- before the code no row is decided
  no_rows : (segments : List Segment) (rows : List (List Bool)) (flags : List Bool) → FrontRun (open_stripe h mid segments) (min (height - length stripes * h.l0) h.l0) [] rows flags →
      RunEnough 0 (stripe_coding h segments) 0 (first_row_start mid) rows flags → rows ≡ []
  no_rows segments rows flags f enough = none_enough (stripe_coding h segments) 0 (first_row_start mid) rows flags f.last u.accepted.width_from f.run enough

  no_front : (segments : List Segment) (rows : List (List Bool)) → rows ≡ [] → FrontRun (open_stripe h mid segments) (min (height - length stripes * h.l0) h.l0) [] rows []
  no_front segments rows none = subst (λ z. FrontRun (open_stripe h mid segments) (min (height - length stripes * h.l0) h.l0) [] z []) (sym none)
      (record { last = first_row_start mid; run = refl; few = omega arith; lies = bytes_in_start [] tt })

  nothing_enough : (segments : List Segment) (rows : List (List Bool)) → rows ≡ [] → RunEnough 0 (stripe_coding h segments) 0 (first_row_start mid) rows []
  nothing_enough segments rows none = subst (λ z. RunEnough 0 (stripe_coding h segments) 0 (first_row_start mid) z []) (sym none) tt

  module _ (given rest : List ℕ) (rows : List (List Bool)) (flags : List Bool)
      (d : StripeDecides h (stripe_place (spot_after height stripes) mid (min (height - length stripes * h.l0) h.l0)) given (flagged rows flags)) where
    matched : (t : Stripe) (y : List ℕ) → IsBegun h t.segments t.code → given ++ rest ≡ stripe_bytes t ++ y → Matched rows t
    matched t y legal e = went d.code refl d.decides where
      went : (code : List ℕ) → d.code ≡ code →
          ((given ≡ flat_map segment_bytes d.segments ++ stuffed d.code) × RunEnough (length d.code) (stripe_coding h d.segments) 0 (first_row_start mid) rows flags)
          ⊎ ((reset : Bool) × (given ≡ stripe_bytes (record { segments = d.segments; code = d.code; reset = reset }))) → Matched rows t
      went code is (inr whole) =
          let same = one_stripe u.accepted (record { segments = d.segments; code = d.code; reset = whole.0 }) t rest y d.begun legal (ap (λ z. z ++ rest) (sym whole.1) ∙ e) in
          record {
            segments = d.segments;
            code = d.code;
            more = [];
            flags = flags;
            bytes = d.begun.bytes;
            others = tt;
            front = d.front;
            decides = inr refl;
            is = sym same.0 ∙ ap (λ (z : List ℕ). made d.segments z whole.0) (sym (append-nil d.code)) ∙ ap (made d.segments (d.code ++ [])) (ap (λ (s : Stripe). s.reset) same.0);
          }
      went [] is (inl part) =
          let none : rows ≡ [] = no_rows d.segments rows flags (subst (λ z. FrontRun (open_stripe h mid d.segments) (min (height - length stripes * h.l0) h.l0) z rows flags) is d.front)
          (subst (λ z. RunEnough (length z) (stripe_coding h d.segments) 0 (first_row_start mid) rows flags) is part.1) in
          record {
            segments = t.segments;
            code = [];
            more = t.code;
            flags = [];
            bytes = tt;
            others = legal.bytes;
            front = no_front t.segments rows none;
            decides = inl (nothing_enough t.segments rows none);
            is = refl;
          }
      went (b ∷ code) is (inl part) =
          let begun : IsBegun h d.segments (b ∷ code) = subst (IsBegun h d.segments) is d.begun in
          let at : flat_map segment_bytes d.segments ++ (stuffed (b ∷ code) ++ rest) ≡ stripe_bytes t ++ y =
          sym (append_assoc (flat_map segment_bytes d.segments) (stuffed (b ∷ code)) rest) ∙ ap (λ z. (flat_map segment_bytes d.segments ++ stuffed z) ++ rest) (sym is)
          ∙ ap (λ z. z ++ rest) (sym part.0) ∙ e in
          let cut = begun_in_stripe u.accepted rest t y begun legal at in
          record {
            segments = d.segments;
            code = b ∷ code;
            more = cut.1;
            flags = flags;
            bytes = begun.bytes;
            others = all_right (λ x. x < 256) (b ∷ code) cut.1 (subst IsBytes cut.2 legal.bytes);
            front = subst (λ z. FrontRun (open_stripe h mid d.segments) (min (height - length stripes * h.l0) h.l0) z rows flags) is d.front;
            decides = inl (subst (λ z. RunEnough (length z) (stripe_coding h d.segments) 0 (first_row_start mid) rows flags) is part.1);
            is = ap (λ (z : List ℕ). made t.segments z t.reset) cut.2 ∙ ap (λ (z : List Segment). made z ((b ∷ code) ++ cut.1) t.reset) (sym cut.0);
          }

    gives_there : (ss : List Stripe) → ss ≡ stripes → GiveOnly height (length (lengths (all_segments ss))) d.segments
    gives_there ss same = subst (λ (z : List Stripe). GiveOnly height (length (lengths (all_segments z))) d.segments) (sym same) d.gives

    -- the stripe that isn't whole in another reading
    matched_fault : (body tail : List ℕ) (fault : Fault) (all : List (List Bool)) (x : Fixes h height body fault all) → x.broken.stripes ≡ stripes → given ++ rest ≡ x.broken.tail →
        take (length (first ++ rows)) all ≡ first ++ rows
    matched_fault body tail fault all x s_is e = went d.code refl d.decides where
      went : (code : List ℕ) → d.code ≡ code →
          ((given ≡ flat_map segment_bytes d.segments ++ stuffed d.code) × RunEnough (length d.code) (stripe_coding h d.segments) 0 (first_row_start mid) rows flags)
          ⊎ ((reset : Bool) × (given ≡ stripe_bytes (record { segments = d.segments; code = d.code; reset = reset }))) → take (length (first ++ rows)) all ≡ first ++ rows
      went code is (inr whole) =
          absurd (stripe_in_fault u.accepted (length x.broken.stripes) (suits_in_use u (length x.broken.stripes) (omega (arith, x.broken.fewer)))
          (record { segments = d.segments; code = d.code; reset = whole.0 }) rest d.begun (gives_there x.broken.stripes s_is) x.broken.tail_has (ap (λ z. z ++ rest) (sym whole.1) ∙ e))
      went [] is (inl part) =
          let none : rows ≡ [] = no_rows d.segments rows flags (subst (λ z. FrontRun (open_stripe h mid d.segments) (min (height - length stripes * h.l0) h.l0) z rows flags) is d.front)
          (subst (λ z. RunEnough (length z) (stripe_coding h d.segments) 0 (first_row_start mid) rows flags) is part.1) in
          in_broken x.broken.tail_has.segments [] x.broken.tail_has.code rows [] tt x.broken.tail_has.begun.bytes (no_front x.broken.tail_has.segments rows none)
          (nothing_enough x.broken.tail_has.segments rows none) body fault all x s_is refl refl
      went (b ∷ code) is (inl part) =
          let begun : IsBegun h d.segments (b ∷ code) = subst (IsBegun h d.segments) is d.begun in
          let at : flat_map segment_bytes d.segments ++ (stuffed (b ∷ code) ++ rest) ≡ x.broken.tail =
          sym (append_assoc (flat_map segment_bytes d.segments) (stuffed (b ∷ code)) rest) ∙ ap (λ z. (flat_map segment_bytes d.segments ++ stuffed z) ++ rest) (sym is)
          ∙ ap (λ z. z ++ rest) (sym part.0) ∙ e in
          let cut = begun_in_fault u.accepted (length x.broken.stripes) (suits_in_use u (length x.broken.stripes) (omega (arith, x.broken.fewer)))
          rest begun (gives_there x.broken.stripes s_is) x.broken.tail_has at in
          in_broken d.segments (b ∷ code) cut.1 rows flags begun.bytes (all_right (λ z. z < 256) (b ∷ code) cut.1 (subst IsBytes cut.2 x.broken.tail_has.begun.bytes))
          (subst (λ z. FrontRun (open_stripe h mid d.segments) (min (height - length stripes * h.l0) h.l0) z rows flags) is d.front)
          (subst (λ z. RunEnough (length z) (stripe_coding h d.segments) 0 (first_row_start mid) rows flags) is part.1) body fault all x s_is cut.0 cut.2

    abbrev body : List ℕ
    body = (flat_map stripe_bytes stripes ++ given) ++ rest

    body_is : (flat_map stripe_bytes stripes ++ given) ++ rest ≡ flat_map stripe_bytes stripes ++ (given ++ rest)
    body_is = append_assoc (flat_map stripe_bytes stripes) given rest

    stripe_at : (t : Stripe) (later : List Stripe) (m : Matched rows t) (ss : List Stripe) → ss ≡ stripes ++ t ∷ later → ss ≡ stripes
        ++ record { segments = m.segments; code = m.code ++ m.more; reset = t.reset } ∷ later
    stripe_at t later m ss e = e ∙ ap (λ (z : Stripe). stripes ++ z ∷ later) m.is

    raster_first : (raster : Raster) → DenotesAt h height ((flat_map stripe_bytes stripes ++ given) ++ rest) raster → take (length (first ++ rows)) raster.rows ≡ first ++ rows
    raster_first raster p = went k.0 k.1 k.2 (subst (AreStripes h) k.1 p.parts.each) where
      k : (later : List Stripe) × (p.parts.stripes ≡ stripes ++ later) × (given ++ rest ≡ flat_map stripe_bytes later ++ p.parts.rest)
      k = first_parts u.accepted height (stripe_count height h.l0) (suits_in_use u) stripes p.parts.stripes (given ++ rest) p.parts.rest each p.parts.each gives (omega (arith, p.parts.count))
          (inl (omega (arith, fewer, p.parts.count))) (sym body_is ∙ p.parts.body_is)

      went : (later : List Stripe) → p.parts.stripes ≡ stripes ++ later → given ++ rest ≡ flat_map stripe_bytes later ++ p.parts.rest → AreStripes h (stripes ++ later) →
          take (length (first ++ rows)) raster.rows ≡ first ++ rows
      went [] e at legal = absurd (let n = ap length (e ∙ append-nil stripes) in omega (arith, n, fewer, p.parts.count))
      went (t ∷ later) e at legal =
          let m = matched t (flat_map stripe_bytes later ++ p.parts.rest) (all_right (λ (s : Stripe). IsBegun h s.segments s.code) stripes (t ∷ later) legal).0
          (at ∙ append_assoc (stripe_bytes t) (flat_map stripe_bytes later) p.parts.rest) in
          in_raster m.segments m.code m.more rows m.flags m.bytes m.others m.front m.decides t.reset later body raster p (stripe_at t later m p.parts.stripes e)

    rows_first : (fault : Fault) (all : List (List Bool)) → Fixes h height ((flat_map stripe_bytes stripes ++ given) ++ rest) fault all → take (length (first ++ rows)) all ≡ first ++ rows
    rows_first fault all x = went k.0 k.1 k.2 (subst (AreStripes h) k.1 x.broken.each) where
      k : (later : List Stripe) × (x.broken.stripes ≡ stripes ++ later) × (given ++ rest ≡ flat_map stripe_bytes later ++ x.broken.tail)
      k = first_parts u.accepted height (stripe_count height h.l0) (suits_in_use u) stripes x.broken.stripes (given ++ rest) x.broken.tail each x.broken.each gives (omega (arith, x.broken.fewer))
          (inr (fault, x.broken.tail_has)) (sym body_is ∙ x.broken.bytes_are)

      went : (later : List Stripe) → x.broken.stripes ≡ stripes ++ later → given ++ rest ≡ flat_map stripe_bytes later ++ x.broken.tail → AreStripes h (stripes ++ later) →
          take (length (first ++ rows)) all ≡ first ++ rows
      went [] e at legal = matched_fault body x.broken.tail fault all x (e ∙ append-nil stripes) at
      went (t ∷ later) e at legal =
          let m = matched t (flat_map stripe_bytes later ++ x.broken.tail) (all_right (λ (s : Stripe). IsBegun h s.segments s.code) stripes (t ∷ later) legal).0
          (at ∙ append_assoc (stripe_bytes t) (flat_map stripe_bytes later) x.broken.tail) in
          in_rows m.segments m.code m.more rows m.flags m.bytes m.others m.front m.decides t.reset later body fault all x (stripe_at t later m x.broken.stripes e)

  -- The bytes of the next stripe decide the first rows of the body's outcome.
  pub are_first : (given : List ℕ) (rows : List (List Bool)) (flags : List Bool) →
      StripeDecides h (stripe_place (spot_after height stripes) mid (min (height - length stripes * h.l0) h.l0)) given (flagged rows flags) →
      AreFirst h height (flat_map stripe_bytes stripes ++ given) (first ++ rows)
  are_first given rows flags d rest None text o =
      let t = text_first h.xd height (first ++ rows) o.0.rows (raster_first given rest rows flags d o.0 o.1) in
      (t.0, o.2 ∙ pbm_of h height o.0 _ o.1 ∙ t.1)
  are_first given rows flags d rest (Some fault) text o =
      let t = text_first h.xd height (first ++ rows) o.0 (rows_first given rest rows flags d fault o.0 o.1) in
      (t.0, o.2 ∙ t.1)

-- A raster that the body denotes, whatever stands after it, is first.
pub whole_first : (q : CoderLaws) (h : Fields) (height : ℕ) → IsInUse h height → (given : List ℕ) (rows : List (List Bool)) →
    ((rest : List ℕ) → DenotesAt h height (given ++ rest) (record { width = h.xd; rows = rows })) → AreFirst h height given rows
whole_first q h height u given rows denotes rest None text o =
    let d = denotes rest in
    let same = one_raster_at q u.accepted (let to = u.to in let top = u.accepted.height_to in omega (arith, to, top)) d o.1 in
    ([], o.2 ∙ ap pbm_text same ∙ ap (λ n. pbm_rows h.xd n rows) d.height ∙ sym (append-nil (pbm_rows h.xd height rows)))
whole_first q h height u given rows denotes rest (Some fault) text o = absurd (whole_or_broken_at h height (given ++ rest) fault u (denotes rest).parts o.1.broken)
