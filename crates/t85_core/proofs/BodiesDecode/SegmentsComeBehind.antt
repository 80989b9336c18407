-- Segments behind an end marker that come in pieces.
use Rattle.std.proofs.Common.{◌≡◌, ◌<◌, ◌+◌, ◌-◌, ◌^◌, ◌||◌, ℕ, Bool, true, false, List, [], ◌∷◌, ◌++◌, length, min, replicate, inl, inr, Option, None, Some, refl, sym, ap, ◌∙◌, subst, append_assoc, append-nil, length-append, arith}
use Rattle.std.specs.Prelude.{IsTrue, flat_map, is_some}
use Rattle.std.specs.List.{AllByRecursion}
use Rattle.std.proofs.lemmas.List.{length-replicate}
use Rattle.byteorder.specs.Endian.{big_bytes}
use Rattle.t85_core.specs.declared.pieces.head.Head.{Head}
use Rattle.t85_core.specs.declared.segments.atmove.Move as move
use Rattle.t85_core.specs.declared.segments.Place.{Place}
use Rattle.t85_core.specs.Header.{Fields}
use Rattle.t85_core.specs.Consumed.{AreComments}
use Rattle.t85_core.specs.Grammar.{Move, Comment, ESC, COMMENT, is_comment, segment_bytes, IsLegal}
use Rattle.t85_core.specs.States.Segments.{HasPassed, segments_so_far}
use Rattle.t85_core.specs.States.Behind.{BehindPlace, BehindStands, CommentBegun, move_came, behind_at, place_at_head}
use Rattle.t85_core.specs.Private.Behind.{BehindOn}
use Rattle.t85_core.proofs.StreamsAreWalked.StripeIsPassed.{passed_none, passed_move, passed_comment}
use Rattle.t85_core.proofs.BodiesDecode.HeadComesInPieces.{passed_ext, whole_segment}

or_true : (last : Bool) → (last || true) ≡ true
or_true true = refl
or_true false = refl

or_false : (last : Bool) → (last || false) ≡ last
or_false true = refl
or_false false = refl

-- nothing came yet
pub behind_first : (h : Fields) (place : Place) (last : Bool) (b : Head) → b.at ≡ None → b.comment ≡ None → BehindStands h (behind_at place last) b []
behind_first h place last b at comment = record {
  front = [];
  comments = 0;
  passed = subst (λ z. HasPassed h place last (Some []) (Some []) (segments_so_far z (move_came last z) place.given 0)) (sym at)
      (subst (λ m. HasPassed h place last (Some []) (Some []) (segments_so_far None m place.given 0)) (sym (or_false last)) (passed_none h place last (Some [])));
  begun = subst (λ z. CommentBegun z [] []) (sym comment) refl;
}

-- nothing was taken
pub behind_stays : (h : Fields) (here : BehindPlace) (b : Head) (p : List ℕ) → BehindOn h here b b p p
behind_stays h here b p back s = ([], refl, subst (BehindStands h here b) (sym (append-nil back)) s)

pub behind_then : {h : Fields} {here : BehindPlace} {b b1 b2 : Head} {p p1 : List ℕ} (p2 : List ℕ) → BehindOn h here b b1 p p1 → BehindOn h here b1 b2 p1 p2 → BehindOn h here b b2 p p2
behind_then {h} {here} {b2 = b2} p2 on next back s =
    let a = on back s in
    let k = next (back ++ a.0) a.2 in (a.0 ++ k.0, a.1 ∙ ap (λ z. a.0 ++ z) k.1 ∙ sym (append_assoc a.0 k.0 p2), subst (BehindStands h here b2) (append_assoc back a.0 k.0) k.2)

module _ {h : Fields} {here : BehindPlace} {b : Head} {back : List ℕ} (s : BehindStands h here b back) where
  -- ---- a comment

  abbrev pub Part : ℕ → Type 0
  Part left = (part : List ℕ) × (length part + left < 2 ^ 32) × (back ≡ s.front ++ (ESC ∷ COMMENT ∷ (big_bytes 4 (length part + left) ++ part)))

  pub part_of : (left : ℕ) → b.comment ≡ Some left → Part left
  part_of left is = subst (λ z. CommentBegun z s.front back) is s.begun

  -- only comments, if the segments are
  pub comments_so_far : AllByRecursion (λ s. IsTrue (is_comment s)) s.passed.segments → AreComments back
  comments_so_far are = by b.comment s.begun where
    front_is : s.front ≡ flat_map segment_bytes s.passed.segments
    front_is = s.passed.taken ∙ append-nil (flat_map segment_bytes s.passed.segments)

    same : (part : List ℕ) (left : ℕ) → length (part ++ replicate left 0) ≡ length part + left
    same part left = length-append part (replicate left 0) ∙ ap (λ n. length part + n) (length-replicate left 0)

    by : (c : Option ℕ) → CommentBegun c s.front back → AreComments back
    by None e = record { comments = s.passed.segments; are = are; part = []; begun = inl refl; bytes_are = e ∙ front_is ∙ sym (append-nil (flat_map segment_bytes s.passed.segments)) }
    by (Some left) (part, few, e) = record {
      comments = s.passed.segments;
      are = are;
      part = ESC ∷ COMMENT ∷ (big_bytes 4 (length part + left) ++ part);
      begun = inr (
        part ++ replicate left 0,
        replicate left 0,
        (let long = same part left in omega (arith, long, few)),
        ap (λ z. ESC ∷ COMMENT ∷ z) (append_assoc (big_bytes 4 (length part + left)) part (replicate left 0) ∙ ap (λ n. big_bytes 4 n ++ (part ++ replicate left 0)) (sym (same part left))),
      );
      bytes_are = e ∙ ap (λ z. z ++ (ESC ∷ COMMENT ∷ (big_bytes 4 (length part + left) ++ part))) front_is;
    }

  part_more : (left : ℕ) (k : Part left) (more : List ℕ) → back ++ more ≡ s.front ++ (ESC ∷ COMMENT ∷ (big_bytes 4 (length k.0 + left) ++ (k.0 ++ more)))
  part_more left k more =
      ap (λ z. z ++ more) k.2 ∙ append_assoc s.front (ESC ∷ COMMENT ∷ (big_bytes 4 (length k.0 + left) ++ k.0)) more
      ∙ ap (λ z. s.front ++ (ESC ∷ COMMENT ∷ z)) (append_assoc (big_bytes 4 (length k.0 + left)) k.0 more)

  -- more of it came
  pub behind_more : (left : ℕ) → b.comment ≡ Some left → (more : List ℕ) (left' : ℕ) → length more + left' ≡ left → BehindStands h here (record { at = b.at; comment = Some left' }) (back ++ more)
  behind_more left is more left' e =
      let k = part_of left is in
      let long = length-append k.0 more in
      let same : length k.0 + left ≡ length (k.0 ++ more) + left' = omega (arith, e, long) in
      record {
        front = s.front;
        comments = s.comments;
        passed = s.passed;
        begun = (k.0 ++ more, omega (arith, k.1, same), part_more left k more ∙ ap (λ n. s.front ++ (ESC ∷ COMMENT ∷ (big_bytes 4 n ++ (k.0 ++ more)))) same);
      }

  -- its rest came
  pub behind_ends : (left : ℕ) → b.comment ≡ Some left → (more : List ℕ) → length more ≡ left → BehindStands h here (record { at = b.at; comment = None }) (back ++ more)
  behind_ends left is more e =
      let k = part_of left is in
      let long = length-append k.0 more in
      let same : length k.0 + left ≡ length (k.0 ++ more) = omega (arith, e, long) in
      record {
        front = s.front ++ segment_bytes (Comment (k.0 ++ more));
        comments = min (s.comments + 1) (2 ^ 64 - 1);
        passed = passed_comment (passed_ext s.passed (segment_bytes (Comment (k.0 ++ more)))) (min (s.comments + 1) (2 ^ 64 - 1)) (k.0 ++ more)
            (whole_segment (Comment (k.0 ++ more)) (omega (arith, k.1, same))) refl;
        begun = part_more left k more ∙ ap (λ n. s.front ++ (ESC ∷ COMMENT ∷ (big_bytes 4 n ++ (k.0 ++ more)))) same;
      }

  -- ---- between comments

  module _ (between : b.comment ≡ None) where
    pub front_is : back ≡ s.front
    front_is = subst (λ z. CommentBegun z s.front back) between s.begun

    -- the length of a comment was read
    pub behind_enters : (n : ℕ) → n < 2 ^ 32 → BehindStands h here (record { at = b.at; comment = Some n }) (back ++ (ESC ∷ COMMENT ∷ big_bytes 4 n))
    behind_enters n small = record {
      front = s.front;
      comments = s.comments;
      passed = s.passed;
      begun = (
        [],
        (let z : length {A = ℕ} [] ≡ 0 = refl in omega (arith, small, z)),
        ap (λ z. z ++ (ESC ∷ COMMENT ∷ big_bytes 4 n)) front_is ∙ (let z : 0 + n ≡ n = omega arith in
            ap (λ z. s.front ++ (ESC ∷ COMMENT ∷ z)) (sym (append-nil (big_bytes 4 n)) ∙ ap (λ m. big_bytes 4 m ++ []) (sym z))),
      );
    }

    -- a move
    pub behind_move : (to : move.Move) → move_came here.last b.at ≡ false → IsLegal h (Move to.row to.offset) →
        BehindStands h here (record { at = Some to; comment = b.comment }) (back ++ segment_bytes (Move to.row to.offset))
    behind_move to none legal = record {
      front = s.front ++ segment_bytes (Move to.row to.offset);
      comments = s.comments;
      passed = subst (λ m. HasPassed h (place_at_head here) here.last (Some (s.front ++ segment_bytes (Move to.row to.offset))) (Some []) (segments_so_far (Some to) m here.place.given s.comments))
          (sym (or_true here.last))
          (passed_move (passed_ext s.passed (segment_bytes (Move to.row to.offset))) to none (whole_segment (Move to.row to.offset) legal));
      begun = subst (λ z. CommentBegun z (s.front ++ segment_bytes (Move to.row to.offset)) (back ++ segment_bytes (Move to.row to.offset))) (sym between)
          (ap (λ z. z ++ segment_bytes (Move to.row to.offset)) front_is);
    }

    -- a comment
    pub behind_comment : (x : List ℕ) → length x < 2 ^ 32 → BehindStands h here b (back ++ segment_bytes (Comment x))
    behind_comment x legal = record {
      front = s.front ++ segment_bytes (Comment x);
      comments = min (s.comments + 1) (2 ^ 64 - 1);
      passed = passed_comment (passed_ext s.passed (segment_bytes (Comment x))) (min (s.comments + 1) (2 ^ 64 - 1)) x (whole_segment (Comment x) legal) refl;
      begun = subst (λ z. CommentBegun z (s.front ++ segment_bytes (Comment x)) (back ++ segment_bytes (Comment x))) (sym between) (ap (λ z. z ++ segment_bytes (Comment x)) front_is);
    }

-- an option that has a value
pub some_of : (o : Option Bool) → is_some o ≡ true → (x : Bool) × (o ≡ Some x)
some_of (Some x) e = (x, refl)
some_of None e = absurd (let bot : ⊥ = cc in bot)
