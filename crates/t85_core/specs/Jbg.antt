-- The stream of a raster.
use Rattle.std.specs.Prelude.{ℕ, zero, suc, ◌+◌, ◌≡◌, ◌%◌, ◌≤◌, ◌<◌, ◌^◌, Bool, false, not, ◌&&◌, nat_lt, List, [], ◌++◌, length, map, replicate, if◌then◌else◌, Option, None, is_some, option_map, option_to_list, unwrap_or, flat_map, slice_index_or, Some, ◌==◌, IfSome}
use Rattle.qm_core.specs.Code.{code_of}
use Rattle.raster_core.specs.Raster.{Raster, height}
use Rattle.raster_core.specs.Lines.{numbers_from, may_be_typical}
use Rattle.raster_core.specs.Offset.{chosen_offset}
use Rattle.t85_core.specs.Header.{Fields, header_bytes}
use Rattle.t85_core.specs.Grammar.{Segment, NewLength, Move, Comment, Stripe, segment_bytes, marker_bytes, stripe_bytes, stripe_count}
use Rattle.t85_core.specs.Coding.{Coding, has_bit, mode_of, rows_of, lines_of, place_of}

-- the caller's settings for a stream: the options byte, the rows per stripe, the greatest offset of the adaptive pixel, a
-- height to announce, whether each stripe ends in a reset, a comment, and the chosen offsets: for each stripe the offset to
-- which the pixel is moved at its top, or none, and then the rule chooses
pub record Settings : Type 0 where
  pub options : ℕ
  pub stripe_rows : ℕ
  pub most_offset : ℕ
  pub announced : Option ℕ
  pub reset : Bool
  pub comment : Option (List ℕ)
  pub named : List (Option ℕ)

abbrev pub settings : ℕ → ℕ → ℕ → Option ℕ → Bool → Option (List ℕ) → Settings
settings p s m announced reset comment = record { options = p; stripe_rows = s; most_offset = m; announced = announced; reset = reset; comment = comment; named = [] }

-- the offset that the caller chose for stripe i
abbrev pub named_for : Settings → ℕ → Option ℕ
named_for s i = slice_index_or s.named i None

-- in their ranges
pub record AreSettings (s : Settings) : Type 0 where
  pub options_to : s.options < 128
  pub no_low_bit : s.options % 8 ≡ 0
  pub no_layer_bit : has_bit s.options 4 ≡ false
  pub stripe_from : 1 ≤ s.stripe_rows
  pub stripe_to : s.stripe_rows < 2 ^ 32
  pub offset_to : s.most_offset ≤ 127
  pub announced_to : unwrap_or s.announced 0 < 2 ^ 32
  pub comment_to : length (unwrap_or s.comment []) < 2 ^ 32
  pub named_to : (i : ℕ) → IfSome (named_for s i) (λ t. t ≤ s.most_offset)

-- the options byte in the header: with an announced height, VLENGTH is set
abbrev pub written_options : Settings → ℕ
written_options s = if is_some s.announced && not (has_bit s.options 5) then s.options + 32 else s.options

-- the header for an image of this width and height
abbrev pub header_of : Settings → ℕ → ℕ → Fields
header_of s width height' = record {
  xd = width;
  yd = unwrap_or s.announced height';
  l0 = s.stripe_rows;
  mx = s.most_offset;
  options = written_options s;
}

-- an announced height is not below the image's
abbrev pub IsAnnounced : Settings → ℕ → Type 0
IsAnnounced s height' = height' ≤ unwrap_or s.announced height'

-- whether it is
abbrev pub is_low : Settings → ℕ → Bool
is_low s height' = nat_lt (unwrap_or s.announced height') height'

-- the raster in its stripes, which all end alike, before moves and flags are chosen
abbrev pub cut : Settings → Raster → Coding
cut s raster = record {
  raster = raster;
  mode = mode_of s.options;
  stripe_rows = s.stripe_rows;
  moves = [];
  resets = replicate (stripe_count (height raster) s.stripe_rows) s.reset;
  flags = [];
}

-- each row is typical if it may be
abbrev pub canonical_flags : Coding → List Bool
canonical_flags c = map (λ y. may_be_typical c.mode (lines_of c y)) (numbers_from 0 (height c.raster))

-- the offset to which the adaptive pixel moves from the current one: the caller's, unless that is the current one; or, without
-- a choice of the caller, the rule's
abbrev pub moved_to : Option ℕ → ℕ → Option ℕ → Option ℕ
moved_to None current chosen = chosen
moved_to (Some t) current chosen = if t == current then None else Some t

-- the offset to which the pixel moves before the first stripe: only the caller may choose one, since no rows precede it
abbrev pub first_choice : Settings → Option ℕ
first_choice s = moved_to (named_for s 0) 0 None

-- the offset for the stripe after stripe i: the caller's, or the rule's for the rows of stripe i, compared with this one
abbrev pub choice_after : Settings → Coding → ℕ → ℕ → Option ℕ
choice_after s c i current = moved_to (named_for s (suc i)) current (chosen_offset c.mode.two_line s.most_offset c.raster.width (map (lines_of c) (rows_of c i)) current)

-- The offset with which that of stripe i+1 is compared: the nominal one if each stripe ends in a reset, otherwise that of
-- stripe i.
abbrev pub current_offset : Settings → Coding → ℕ → ℕ
current_offset s c zero = if s.reset then 0 else unwrap_or (first_choice s) 0
current_offset s c (suc i) = if s.reset then 0 else unwrap_or (choice_after s c i (current_offset s c i)) (current_offset s c i)

-- the move before stripe i, at its row 0
abbrev pub move_before : Settings → Coding → ℕ → Option (ℕ × ℕ)
move_before s c zero = option_map (λ t. (0, t)) (first_choice s)
move_before s c (suc i) = option_map (λ t. (0, t)) (choice_after s c i (current_offset s c i))

-- how a raster is coded
abbrev pub coding_of : Settings → Raster → Coding
coding_of s raster =
    let c = cut s raster in
    record c { moves = map (move_before s c) (numbers_from 0 (stripe_count (height raster) s.stripe_rows)); flags = canonical_flags c }

-- the move of a stripe as a segment
abbrev pub move_segments : Option (ℕ × ℕ) → List Segment
move_segments move = map (λ to. Move to.0 to.1) (option_to_list move)

-- stripe i in the stream
abbrev pub coded_stripe : Coding → ℕ → Stripe
coded_stripe c i = record {
  segments = move_segments (slice_index_or c.moves i None);
  code = code_of (place_of c i);
  reset = slice_index_or c.resets i false;
}

-- the bytes before the first stripe
abbrev pub head_of : Settings → ℕ → ℕ → List ℕ
head_of s width height' = header_bytes (header_of s width height') ++ flat_map segment_bytes (map Comment (option_to_list s.comment))

-- the first n stripes
abbrev pub stripes_up_to : Settings → Raster → ℕ → List ℕ
stripes_up_to s raster n = flat_map (λ i. stripe_bytes (coded_stripe (coding_of s raster) i)) (numbers_from 0 n)

-- all of them
abbrev pub stripes_of : Settings → Raster → List ℕ
stripes_of s raster = stripes_up_to s raster (stripe_count (height raster) s.stripe_rows)

-- the stream before stripe n
abbrev pub jbg_up_to : Settings → Raster → ℕ → List ℕ
jbg_up_to s raster n = head_of s raster.width (height raster) ++ stripes_up_to s raster n

-- the bytes after the last stripe: with a greater announced height, the height and an empty stripe data entity
abbrev pub ending : Settings → ℕ → List ℕ
ending s height' = if nat_lt height' (unwrap_or s.announced height') then segment_bytes (NewLength height') ++ marker_bytes s.reset else []

-- the whole stream
abbrev pub jbg : Settings → Raster → List ℕ
jbg s raster = jbg_up_to s raster (stripe_count (height raster) s.stripe_rows) ++ ending s (height raster)
