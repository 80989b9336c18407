-- Stripes one after another are an image, or the rows that what came fixes.
use Rattle.std.proofs.Common.{◌≡◌, ◌<◌, ◌+◌, ◌-◌, ◌*◌, ◌^◌, ℕ, List, [], ◌∷◌, ◌++◌, length, min, Option, refl, sym, ap, ◌∙◌, subst, arith, append_assoc, append-nil, length-append, Bool}
use Rattle.std.specs.Prelude.{flat_map}
use Rattle.std.specs.Io.KnownBytes.{Appends, Consumes}
use Rattle.std.proofs.lemmas.Grind.{flat_map-append}
use Rattle.raster_core.specs.Packed.{packed_row}
use Rattle.t85_core.specs.declared.fault.Fault.{Fault}
use Rattle.t85_core.specs.Lent.{Carried}
use Rattle.t85_core.specs.declared.header.Header.{Header}
use Rattle.t85_core.specs.declared.header.SizedImage.{SizedImage}
use Rattle.t85_core.specs.Header.{Fields}
use Rattle.t85_core.specs.Options.{fields_of}
use Rattle.t85_core.specs.Laws.{IsInUse}
use Rattle.t85_core.specs.Grammar.{stripe_bytes, stripe_count, lengths, all_segments, GiveOnly}
use Rattle.t85_core.specs.Refusal.{Spot, spot_after, StripeFault}
use Rattle.t85_core.specs.Fixed.{Fixes}
use Rattle.t85_core.specs.States.State.{first_row_start, image_start, StripeRun}
use Rattle.t85_core.specs.Private.Cut.{BegunRun}
use Rattle.t85_core.specs.States.Cut.{open_stripe}
use Rattle.t85_core.specs.Private.DecodeStripes.{StripeRead, StripeCut, DecidesRows, StripeDecides, StripeUnwritten, ImageUnwritten, stripe_place}
use Rattle.t85_core.specs.States.DecodeStripes.{StripesRead, ImageRead, ImageCut}
use Rattle.t85_core.specs.States.DecodeRows.{IsCarried}
use Rattle.devices.specs.Device.{AppendsBeginning}
use Rattle.t85_core.specs.Private.CoderLaws.{CoderLaws}
use Rattle.t85_core.specs.Coding.{flagged}
use Rattle.t85_core.specs.Height.{MayBeHeight}
use Rattle.t85_core.specs.States.Passage.{passage}
use Rattle.t85_core.proofs.BodiesDecode.StripesDenoteRaster.{carried_denotes, stripes_whole}
use Rattle.t85_core.proofs.BodiesDecode.StripesFixRows.{carried_fixes}
use Rattle.t85_core.proofs.StreamsAreWalked.HeightIsFound.{accepted}
use Rattle.t85_core.proofs.BytesJoin.WalkEnds.{Ends-after}
use Rattle.t85_core.proofs.BytesJoin.ListsGrow.{flat_map_push}
use Rattle.t85_core.proofs.BytesJoin.SegmentsGiveHeights.{many_lengths, gives_both, gives_none}
use Rattle.t85_core.proofs.BodiesDecode.RowIsPut.{appends_nothing}
use Rattle.t85_core.proofs.StreamsAreWalked.StripeIsPassed.{segments_push, Consumes-none}
use Rattle.t85_core.proofs.BodiesDecode.RunsGrow.{stripes_push}
use Rattle.t85_core.proofs.BodiesDecode.BytesDecideFirstRows.{are_first}
use Rattle.t85_core.proofs.BytesJoin.CallsJoin.{Consumes-more, Appends-more, beginning_after}

module _ (h : Fields) (height : ℕ) (known known' known'' : Option (List ℕ)) (count heights rows : ℕ) (carried carried' : Carried) (text text' text'' : Option (List ℕ))
    (r : StripesRead h height (passage known known' text text') count heights carried) (rows_are : rows ≡ min (height - count * h.l0) h.l0) where
  rows_is : rows ≡ min (height - length r.stripes * h.l0) h.l0
  rows_is = rows_are ∙ ap (λ n. min (height - n * h.l0) h.l0) (sym r.many)

  heights_is : heights ≡ length (lengths (all_segments r.stripes))
  heights_is = omega (arith, r.gives_in.heights_are)

  -- a stripe more
  pub stripes_next : (more : ℕ) → StripeRead h (stripe_place (record { height = height; entities = count; heights = heights }) r.next rows) more (passage known' known'' text' text'') carried' →
      StripesRead h height (passage known known'' text text'') (count + 1) more carried'
  stripes_next more s = record {
    stripes = r.stripes ++ s.stripe ∷ [];
    many = (let long = length-append r.stripes (s.stripe ∷ []) in omega (arith, long, r.many));
    gives_in = record {
      gives = subst (GiveOnly height 0) (sym (segments_push r.stripes s.stripe)) (gives_both height 0 s.stripe.segments r.gives_in.gives
          (subst (λ n. GiveOnly height n s.stripe.segments) r.gives_in.heights_are s.gives_in.gives));
      heights_are = (let n = many_lengths (all_segments r.stripes) s.stripe.segments in let e = ap (λ z. length (lengths z)) (segments_push r.stripes s.stripe) in
          omega (arith, s.gives_in.heights_are, r.gives_in.heights_are, n, e));
    };
    taken = subst (Consumes known known'') (sym (flat_map_push stripe_bytes r.stripes s.stripe))
        (Consumes-more known known' known'' (flat_map stripe_bytes r.stripes) (stripe_bytes s.stripe) r.taken s.taken);
    rows = r.rows ++ s.rows;
    flags = r.flags ++ s.flags;
    next = s.next;
    run = stripes_push h height (image_start h.xd) r.stripes r.rows r.flags r.next s.stripe s.rows s.flags s.next r.run
        (subst (λ n. StripeRun h n r.next s.stripe (flagged s.rows s.flags) s.next) rows_is s.run);
    is_carried = s.is_carried;
    appended = subst (Appends text text'') (sym (flat_map-append packed_row r.rows s.rows))
        (Appends-more text text' text'' (flat_map packed_row r.rows) (flat_map packed_row s.rows) r.appended s.appended);
  }

  abbrev spot_with : ℕ → ℕ → Spot
  spot_with k n = record { height = height; entities = k; heights = n }

  here : spot_with count heights ≡ spot_after height r.stripes
  here = ap (λ k. spot_with k heights) (sym r.many) ∙ ap (spot_with (length r.stripes)) heights_is

  -- what is said of the stripe that breaks, where it stands
  fixed : CoderLaws → IsInUse h height → count < stripe_count height h.l0 → (given : List ℕ) (why : Fault) (rows' : List (List Bool)) (flags' : List Bool) (at : Spot) → spot_with count heights ≡ at →
      DecidesRows h (stripe_place (spot_with count heights) r.next rows) (flagged rows' flags') given why →
      ((e : StripeFault h at given why) → BegunRun (open_stripe h r.next e.segments) (min (height - length r.stripes * h.l0) h.l0) e.code rows' flags' →
      Fixes h height (flat_map stripe_bytes r.stripes ++ given) why (r.rows ++ rows')) → Fixes h height (flat_map stripe_bytes r.stripes ++ given) why (r.rows ++ rows')
  fixed q use_ fewer given why rows' flags' at same d k =
      let both : DecidesRows h (stripe_place at r.next rows) (flagged rows' flags') given why = subst (λ u. DecidesRows h (stripe_place u r.next rows) (flagged rows' flags') given why) same d in
      k both.0 (subst (λ n. BegunRun (open_stripe h r.next both.0.segments) n both.0.code rows' flags') rows_is both.1)

  -- a stripe that breaks
  pub image_cut : CoderLaws → IsInUse h height → count < stripe_count height h.l0 → (fault : Fault) →
      StripeCut h (stripe_place (record { height = height; entities = count; heights = heights }) r.next rows) (passage known' known'' text' text'') fault →
      ImageCut h height (passage known known'' text text'') fault
  image_cut q use_ fewer fault s = record {
    rows = r.rows ++ s.rows;
    ends = Ends-after (flat_map stripe_bytes r.stripes) r.taken (λ given why d. fixed q use_ fewer given why s.rows s.flags (spot_after height r.stripes) here d (λ e b.
        carried_fixes q h height (flat_map stripe_bytes r.stripes ++ given) given why r.stripes e r.rows s.rows r.flags s.flags r.next use_.accepted refl
        (subst (λ n. n < stripe_count height h.l0) (sym r.many) fewer) r.gives_in.gives r.run b)) s.ends;
    appended = subst (Appends text text'') (sym (flat_map-append packed_row r.rows s.rows))
        (Appends-more text text' text'' (flat_map packed_row r.rows) (flat_map packed_row s.rows) r.appended s.appended);
  }

  -- a stripe of which not all was written
  pub image_unset : CoderLaws → IsInUse h height → count < stripe_count height h.l0 →
      StripeUnwritten h (stripe_place (record { height = height; entities = count; heights = heights }) r.next rows) (passage known' known'' text' text'') →
      ImageUnwritten h height (passage known known'' text text'')
  image_unset q use_ fewer s = record {
    given = flat_map stripe_bytes r.stripes ++ s.given;
    ahead = s.ahead;
    taken = subst (Consumes known known'') (sym (append_assoc (flat_map stripe_bytes r.stripes) s.given s.ahead))
        (Consumes-more known known' known'' (flat_map stripe_bytes r.stripes) (s.given ++ s.ahead) r.taken s.taken);
    rows = r.rows ++ s.rows;
    first = are_first q h height use_ r.stripes r.rows r.flags r.next (subst (λ n. n < stripe_count height h.l0) (sym r.many) fewer) r.gives_in.gives r.run s.given s.rows s.flags
        (subst (λ (z : Spot). StripeDecides h (stripe_place z r.next (min (height - length r.stripes * h.l0) h.l0)) s.given (flagged s.rows s.flags)) here
        (subst (λ n. StripeDecides h (stripe_place (record { height = height; entities = count; heights = heights }) r.next n) s.given (flagged s.rows s.flags)) rows_is s.decides));
    appended = subst (AppendsBeginning text text'') (sym (flat_map-append packed_row r.rows s.rows)) (beginning_after (flat_map packed_row r.rows) r.appended s.appended);
  }

-- no stripe
pub stripes_start : (h : Fields) (height width : ℕ) (known text : Option (List ℕ)) (carried : Carried) → width ≡ h.xd → IsCarried (first_row_start (image_start width)) carried →
    StripesRead h height (passage known known text text) 0 0 carried
stripes_start h height width known text carried wide first = record {
  stripes = [];
  many = refl;
  gives_in = record { gives = gives_none height 0 [] (omega arith) refl; heights_are = refl };
  taken = Consumes-none known;
  rows = [];
  flags = [];
  next = image_start h.xd;
  run = (refl, refl, refl);
  is_carried = subst (λ w. IsCarried (first_row_start (image_start w)) carried) wide first;
  appended = appends_nothing text;
}

-- all stripes
pub image_read : (h : Fields) (height : ℕ) (known known' : Option (List ℕ)) (count heights : ℕ) (carried : Carried) (text text' : Option (List ℕ)) →
    StripesRead h height (passage known known' text text') count heights carried → IsInUse h height → count ≡ stripe_count height h.l0 → ImageRead h height (passage known known' text text')
image_read h height known known' count heights carried text text' r use_ all = record {
  given = flat_map stripe_bytes r.stripes;
  taken = r.taken;
  parts = record {
    stripes = r.stripes;
    rest = [];
    body_is = sym (append-nil (flat_map stripe_bytes r.stripes));
    count = r.many ∙ all;
    each = stripes_whole h height (image_start h.xd) r.stripes r.rows r.flags r.next r.run;
    gives = r.gives_in.gives;
  };
  only = refl;
  rows = r.rows;
  denotes = λ rest. carried_denotes h height (flat_map stripe_bytes r.stripes ++ rest) rest r.stripes r.rows r.flags r.next use_.accepted use_.from use_.to refl (r.many ∙ all) r.gives_in.gives r.run;
  appended = r.appended;
}

-- a header, and a height from 1 to its own
pub header_in_use : (header : Header) (height : ℕ) → MayBeHeight header.yd height → IsInUse (fields_of header) height
header_in_use header height within = record { accepted = accepted header; from = within.0; to = within.1 }

pub in_use : (image : SizedImage) → IsInUse (fields_of image.header) image.height
in_use image = header_in_use image.header image.height (image.from, image.to)

pub few_rows : (image : SizedImage) → image.height < 2 ^ 32
few_rows image = let to = image.to in let few = image.header.not_too_tall in omega (arith, to, few)
