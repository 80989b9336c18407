-- The marker segments of a stripe that arrive in pieces: those before its code, and those behind an end marker, while a height may
use Rattle.std.specs.Prelude.{ℕ, ◌+◌, ◌^◌, ◌≡◌, ◌<◌, Bool, ◌||◌, List, [], ◌∷◌, ◌++◌, length, Option, Some, None, is_some}
use Rattle.byteorder.specs.Endian.{big_bytes}
use Rattle.t85_core.specs.declared.pieces.head.Head.{Head}
use Rattle.t85_core.specs.declared.segments.atmove.Move as move
use Rattle.t85_core.specs.declared.segments.Place.{Place}
use Rattle.t85_core.specs.Header.{Fields}
use Rattle.t85_core.specs.Grammar.{ESC, COMMENT}
use Rattle.t85_core.specs.States.Segments.{HasPassed, segments_so_far}

-- The position behind marker segments, whether the last stripe is over, and whether there was a height before them.
pub record BehindPlace : Type 0 where
  pub place : Place
  pub last : Bool
  pub before : Bool

abbrev pub head_at : Place → (last before : Bool) → BehindPlace
head_at place last before = record { place = place; last = last; before = before }

-- no height is among them
abbrev pub behind_at : Place → Bool → BehindPlace
behind_at place last = head_at place last place.given

-- whether a move may not follow
abbrev pub move_came : Bool → Option move.Move → Bool
move_came last at = last || is_some at

-- these segments, and bytes of an unfinished comment
abbrev pub CommentBegun : Option ℕ → List ℕ → List ℕ → Type 0
CommentBegun None front back = back ≡ front
CommentBegun (Some left) front back = (part : List ℕ) × (length part + left < 2 ^ 32) × (back ≡ front ++ (ESC ∷ COMMENT ∷ (big_bytes 4 (length part + left) ++ part)))

-- the position before them
abbrev pub place_at_head : BehindPlace → Place
place_at_head here = record { height = here.place.height; entities = here.place.entities; given = here.before }

-- These bytes came: whole segments, and the start of a comment.
pub record BehindStands (h : Fields) (here : BehindPlace) (b : Head) (back : List ℕ) : Type 0 where
  pub front : List ℕ
  pub comments : ℕ
  pub passed : HasPassed h (place_at_head here) here.last (Some front) (Some []) (segments_so_far b.at (move_came here.last b.at) here.place.given comments)
  pub begun : CommentBegun b.comment front back
