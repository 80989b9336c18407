-- The height that a walk from the first stripe on found.
use Rattle.std.proofs.Common.{cond, ◌≡◌, ◌≢◌, inl, inr, ◌<◌, ◌+◌, ◌-◌, ℕ, true, false, not, List, [], ◌∷◌, ◌++◌, Option, None, Some, IfSome, count_by, length, refl, sym, ap, ◌∙◌, subst, arith, true≢false}
use Rattle.std.specs.Prelude.{flat_map}
use Rattle.std.specs.Io.KnownBytes.{Consumes, IsAtEnd}
use Rattle.t85_core.specs.declared.fault.Fault.{Fault}
use Rattle.t85_core.specs.declared.fault.Fault.TheVariants.{Truncated, Read}
use Rattle.t85_core.specs.declared.header.Header.{Header}
use Rattle.t85_core.specs.Options.{fields_of}
use Rattle.t85_core.specs.Header.{Fields, IsAccepted, is_variable}
use Rattle.t85_core.specs.Grammar.{NewLength, segment_bytes, is_move, is_nil, lengths, all_segments, Stripe, stripe_bytes, stripe_count, is_valid_length}
use Rattle.t85_core.specs.Refusal.{Spot, spot_behind, spot_after, rest_fault, StripesFault}
use Rattle.t85_core.specs.Height.{GivesHeight, IsHeight, IsOpen}
use Rattle.t85_core.specs.Failures.{Ends}
use Rattle.t85_core.specs.Private.HeightWalk.{moved_behind, SearchPlace, SearchEnd, SkipsStripes, SkipsStripesTo, SkipsFault, LooksTo, LookEnds, LookOpen, FindsGiven, FindsNone, Finds, FindsOpen, BodyRefused, BodyUnfinished, search_place}
use Rattle.t85_core.specs.Private.Buffers.{reading}
use Rattle.t85_core.proofs.BytesJoin.WalkEnds.{map_if_some}
use Rattle.t85_core.proofs.BytesJoin.CallsJoin.{Consumes-more, known_behind, longer_or_all}
use Rattle.t85_core.proofs.BytesJoin.SegmentsGiveHeights.{lengths_append, gives_none, valid_parts}
use Rattle.t85_core.proofs.StreamsAreWalked.SegmentsAreChecked.{unnamed_spot, length_whole}
use Rattle.t85_core.proofs.BytesJoin.BytesAreKnown.{counted-other}
use Rattle.t85_core.proofs.BodiesParse.BodyHasOneHeight.{given_where_broken}
use Rattle.t85_core.proofs.BodiesParse.HeightExists.{height_of_ended, comments_give_none, comments_make_none, no_moves}
use Rattle.t85_core.proofs.StreamsAreWalked.SkippedPartsJoin.{same_rest, skips_longer}

pub none_moved : (ss : List Stripe) → cond {A = ℕ} (moved_behind false ss) 1 0 ≡ 0
none_moved [] = refl
none_moved (s ∷ ss) = refl

none_some : {f : Fault} → None ≡ Some f → ⊥
none_some e = cc

-- the search from the first stripe on breaks
abbrev pub Breaks : Fields → List ℕ → Fault → Type 0
Breaks h = SkipsFault h (search_place 0 false false) (stripe_count h.yd h.l0)

-- at each height the body has this fault
abbrev pub broken_at : {h : Fields} {count : ℕ} {body : List ℕ} {f : Fault} (height : ℕ) → SkipsFault h (search_place 0 false false) count body f → StripesFault h height count body f
broken_at height q =
    let t = q.tail_has in
    let zero = ap length q.none in
    let tail_zero = ap length t.none in
    let moves = none_moved q.stripes in
    record {
      stripes = q.stripes;
      tail = q.tail;
      bytes_are = q.bytes_are;
      fewer = omega arith;
      each = q.each;
      gives = gives_none height 0 (all_segments q.stripes) (omega arith) q.none;
      tail_has = record {
        segments = t.segments;
        code = t.code;
        rest = t.rest;
        bytes_are = t.bytes_are;
        begun = t.begun;
        gives = gives_none height (length (lengths (all_segments q.stripes))) t.segments (omega arith) t.none;
        rest_has = same_rest t (spot_behind (spot_after height q.stripes) t.segments) (count_by is_move t.segments) (omega arith) (omega arith) (omega arith);
      };
    }

-- what is after the bytes that came belongs to the body, too
pub skipped_whole : {h : Fields} {at : SearchPlace} {count : ℕ} (old : Option (List ℕ)) {new : Option (List ℕ)} {f : Fault} → Ends Truncated old new (SkipsFault h at count) f → f ≢ Read →
    IfSome old (λ body. SkipsFault h at count body f)
skipped_whole {h} {at} {count} old {new} {f} e other = went old new e.taken e.at_end where
  went : (old new : Option (List ℕ)) → Consumes old new e.given → (f ≡ Truncated → IsAtEnd new) → IfSome old (λ body. SkipsFault h at count body f)
  went None new taken end = tt
  went (Some body) None taken end = absurd taken
  went (Some body) (Some left) taken end = rw taken (longer_or_all (λ z. SkipsFault h at count z f) e.given left has end (skips_longer left has)) where
    has : SkipsFault h at count e.given f
    has = rw counted-other at e.has_fault

-- a header's fields are accepted
pub accepted : (header : Header) → IsAccepted (fields_of header)
accepted header = record {
  width_from = header.some_width;
  width_to = header.not_too_wide;
  height_from = header.some_height;
  height_to = header.not_too_tall;
  stripe_from = header.some_rows;
  stripe_to = header.not_too_long;
  offset_to = header.in_range;
  options_to = header.no_reserved_bit;
  no_table = header.no_private_table;
}

module _ {h : Fields} (ok : IsAccepted h) where
  -- and gives no height
  pub height_of_skipped : {body : List ℕ} {f : Fault} → Breaks h body f → IsHeight h body h.yd
  height_of_skipped {body} {f} q = inr (refl, never) where
    b : StripesFault h 0 (stripe_count h.yd h.l0) body f
    b = broken_at 0 q

    never : (n : ℕ) → GivesHeight h body n → ⊥
    never n g = none_some (sym whole ∙ has) where
      cut : (q.stripes ≡ g.stripes) × (q.tail_has.code ≡ []) × (q.tail_has.rest ≡ segment_bytes (NewLength n) ++ g.rest)
      cut =
          let c = given_where_broken ok body b g in
          (c.stripes, c.broken.code, c.broken.rest)

      at : length g.stripes ≡ 0 + length q.stripes
      at = let z = ap length cut.0 in omega arith

      spot : Spot
      spot = unnamed_spot n (0 + length q.stripes)

      moves : ℕ
      moves = cond (moved_behind false q.stripes) 1 0 + count_by is_move q.tail_has.segments

      whole : rest_fault h spot moves false (segment_bytes (NewLength n) ++ g.rest) ≡ None
      whole =
          let w = valid_parts h (length g.stripes) n g.valid in
          length_whole h n (0 + length q.stripes) g.variable g.rest (omega (arith, w.1, ok.height_to)) (subst (λ k. is_valid_length h k n ≡ true) at g.valid)

      has : rest_fault h spot moves false (segment_bytes (NewLength n) ++ g.rest) ≡ Some f
      has = subst (λ (z : List ℕ × List ℕ). rest_fault h spot moves (not (is_nil z.0)) z.1 ≡ Some f) (λ i. (cut.1 i, cut.2 i)) (q.tail_has.rest_has n)

  -- the body is refused at the header's height
  pub skipped_refused : (old : Option (List ℕ)) {new : Option (List ℕ)} {f : Fault} → Ends Truncated old new (Breaks h) f → f ≢ Read → IfSome old (BodyRefused h f)
  skipped_refused old e other = map_if_some old (λ body q. record { height = h.yd; height_is = height_of_skipped q; broken = broken_at h.yd q }) (skipped_whole old e other)

  pub skipped_height : (old : Option (List ℕ)) {new : Option (List ℕ)} {f : Fault} → Ends Truncated old new (Breaks h) f → f ≢ Read → IfSome old (λ body. IsHeight h body h.yd)
  skipped_height old e other = map_if_some old (λ body q. height_of_skipped q) (skipped_whole old e other)

  pub open_unfinished : {given : List ℕ} → FindsOpen h given → BodyUnfinished h given
  open_unfinished (inl q) = inl (record { height = h.yd; height_is = height_of_skipped q; broken = broken_at h.yd q })
  open_unfinished (inr o) = inr o

  -- where the height may change, it isn't known yet
  pub open_of_skipped : {given : List ℕ} → is_variable h ≡ true → FindsOpen h given → IsOpen h given
  open_of_skipped variable (inr o) = o
  open_of_skipped variable (inl q) =
      let t = q.tail_has in
      let less : length q.stripes < stripe_count h.yd h.l0 = omega arith in
      let moves = none_moved q.stripes in
      record {
        variable = variable;
        stripes = q.stripes;
        segments = t.segments;
        code = t.code;
        rest = t.rest;
        body_is = rw (q.bytes_are, t.bytes_are);
        each = q.each;
        begun = t.begun;
        none = rw (lengths_append, q.none, t.none);
        within = omega arith;
        behind = λ many. absurd (omega arith);
        moves = count_by is_move t.segments;
        moves_are = inl (less, refl);
        cut = same_rest t (unnamed_spot h.yd (length q.stripes)) (count_by is_move t.segments) (omega arith) refl (omega arith);
      }

  -- ---- what was found

  pub found_given : {old new : Option (List ℕ)} {count : ℕ} {to : SearchEnd} {n : ℕ} → count ≡ stripe_count h.yd h.l0 →
      (to.entities < count) × SkipsStripesTo h (search_place 0 false false) (reading old new) to n → FindsGiven h (reading old new) to n
  found_given {old} {to = to} all (few, s) =
      let same : s.count ≡ to.entities = omega (arith, s.entities_are) in
      record {
        mid = s.mid;
        before = subst (λ k. SkipsStripes h false k (reading old s.mid) to.passed) same s.before;
        segments = s.part.segments;
        begun = s.part.begun;
        none = s.part.none;
        legal = s.part.legal;
        valid = s.part.valid;
        within = omega arith;
        behind = λ e. absurd (omega arith);
        part_moves_are = s.part.moves_are;
        part_comments_are = λ _. s.part.comments_are;
        taken = s.part.taken;
      }

  module _ {old mid : Option (List ℕ)} {count : ℕ} (to : SearchEnd) (all : count ≡ stripe_count h.yd h.l0)
      (s : (to.entities ≡ count) × (to.part.moves ≡ 0) × SkipsStripes h false (count - 0) (reading old mid) to.passed) where
    many : to.entities ≡ stripe_count h.yd h.l0
    many = s.0 ∙ all

    before : SkipsStripes h false to.entities (reading old mid) to.passed
    before = let e : count - 0 ≡ to.entities = omega (arith, s.0) in subst (λ k. SkipsStripes h false k (reading old mid) to.passed) e s.2

    -- the header's height is fixed
    pub found_fixed : is_variable h ≡ false → FindsNone h (reading old mid) to.entities to.passed
    found_fixed fixed = record { mid = mid; before = before; all = many; height_is = went old } where
      went : (old : Option (List ℕ)) → IfSome old (λ body. IsHeight h body h.yd)
      went None = tt
      went (Some body) = inr (refl, λ n g. true≢false (sym g.variable ∙ fixed))

    -- no height is after the stripes
    none_behind : IfSome mid (LookEnds h to.entities) → IfSome old (λ body. IsHeight h body h.yd)
    none_behind looked = known_behind (λ body. IsHeight h body h.yd) (LookEnds h to.entities) old mid (flat_map stripe_bytes before.stripes) before.taken looked height where
      height : (rest : List ℕ) → LookEnds h to.entities rest → IsHeight h (flat_map stripe_bytes before.stripes ++ rest) h.yd
      height rest l =
          height_of_ended ok before.stripes (before.count_is ∙ many) before.each (gives_none 0 0 (all_segments before.stripes) (omega arith) before.none) refl
          (subst (λ k. LookEnds h k rest) (sym before.count_is) l)

    -- the look answered
    pub found_looking : (new : Option (List ℕ)) (height : Option ℕ) → IfSome height (LooksTo h to.entities mid new) → (height ≡ None → IfSome mid (LookEnds h to.entities)) →
        Finds h (reading old new) to height
    found_looking new None found none = record { mid = mid; before = before; all = many; height_is = none_behind (none refl) }
    found_looking new (Some n) l none = record {
      mid = mid;
      before = before;
      segments = l.segments;
      begun = record { legal = l.are.legal; one_move = comments_make_none ok l.segments l.are.comments; bytes = tt };
      none = comments_give_none ok l.segments l.are.comments;
      legal = l.legal;
      valid = l.valid;
      within = omega (arith, many);
      behind = λ _. l.are.comments;
      part_moves_are = s.1 ∙ sym (no_moves ok l.segments l.are.comments);
      part_comments_are = λ less. absurd (omega (arith, many));
      taken = l.taken;
    }

    -- a read failed in the look
    pub open_looking : is_variable h ≡ true → (new : Option (List ℕ)) → (given : List ℕ) × Consumes mid new given × LookOpen h to.entities given →
        (given : List ℕ) × Consumes old new given × FindsOpen h given
    open_looking variable new (given, taken, l) = (
      flat_map stripe_bytes before.stripes ++ given,
      Consumes-more old mid new (flat_map stripe_bytes before.stripes) given before.taken taken,
      inr (record {
        variable = variable;
        stripes = before.stripes;
        segments = l.segments;
        code = [];
        rest = l.rest;
        body_is = rw l.given_is;
        each = before.each;
        begun = record { legal = l.are.legal; one_move = comments_make_none ok l.segments l.are.comments; bytes = tt };
        none = rw (lengths_append, before.none) (comments_give_none ok l.segments l.are.comments);
        within = omega (arith, before.count_is, many);
        behind = λ _. (l.are.comments, refl);
        moves = 1;
        moves_are = inr (before.count_is ∙ many, refl);
        cut = subst (λ k. rest_fault h (unnamed_spot h.yd k) 1 false l.rest ≡ Some Truncated) (sym before.count_is) (l.cut h.yd);
      }),
    )
