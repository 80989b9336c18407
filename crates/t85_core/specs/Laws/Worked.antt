-- Streams that were worked out by hand.
use Rattle.std.specs.Prelude.{ℕ, ◌≡◌, Bool, true, false, List, [], ◌∷◌, ◌++◌, Some, None}
use Rattle.raster_core.specs.Raster.{Raster}
use Rattle.t85_core.specs.declared.fault.Fault.TheVariants.{LengthRefused, SecondLength, Changed}
use Rattle.t85_core.specs.Header.{Fields}
use Rattle.t85_core.specs.Refusal.{BodyFault}
use Rattle.t85_core.specs.Height.{IsHeight}
use Rattle.t85_core.specs.Info.{HasLine, line_text}
use Rattle.t85_core.specs.Jbg.{settings, jbg}

abbrev pub rows_as : ℕ → List (List Bool) → Raster
rows_as width rows = record { width = width; rows = rows }

pub record WorkedStreams : Type 0 where
  -- a white row of eight pixels
  pub white_row : jbg (settings 0 128 0 None false None) (rows_as 8 ((false ∷ false ∷ false ∷ false ∷ false ∷ false ∷ false ∷ false ∷ []) ∷ []))
      ≡ 0 ∷ 0 ∷ 1 ∷ 0 ∷ 0 ∷ 0 ∷ 0 ∷ 8 ∷ 0 ∷ 0 ∷ 0 ∷ 1 ∷ 0 ∷ 0 ∷ 0 ∷ 128 ∷ 0 ∷ 0 ∷ 0 ∷ 0 ∷ 96 ∷ 255 ∷ 2 ∷ []
  -- a black pixel
  pub black_pixel : jbg (settings 0 128 0 None false None) (rows_as 1 ((true ∷ []) ∷ []))
      ≡ 0 ∷ 0 ∷ 1 ∷ 0 ∷ 0 ∷ 0 ∷ 0 ∷ 1 ∷ 0 ∷ 0 ∷ 0 ∷ 1 ∷ 0 ∷ 0 ∷ 0 ∷ 128 ∷ 0 ∷ 0 ∷ 0 ∷ 0 ∷ 192 ∷ 255 ∷ 2 ∷ []
  -- three black rows of two pixels, by the template of two lines
  pub two_lines : jbg (settings 64 128 0 None false None) (rows_as 2 ((true ∷ true ∷ []) ∷ (true ∷ true ∷ []) ∷ (true ∷ true ∷ []) ∷ []))
      ≡ 0 ∷ 0 ∷ 1 ∷ 0 ∷ 0 ∷ 0 ∷ 0 ∷ 2 ∷ 0 ∷ 0 ∷ 0 ∷ 3 ∷ 0 ∷ 0 ∷ 0 ∷ 128 ∷ 0 ∷ 0 ∷ 0 ∷ 64 ∷ 248 ∷ 255 ∷ 2 ∷ []
  -- a second stripe that is one typical row
  pub typical_row : jbg (settings 8 1 0 None false None) (rows_as 1 ((true ∷ []) ∷ (true ∷ []) ∷ []))
      ≡ 0 ∷ 0 ∷ 1 ∷ 0 ∷ 0 ∷ 0 ∷ 0 ∷ 1 ∷ 0 ∷ 0 ∷ 0 ∷ 2 ∷ 0 ∷ 0 ∷ 0 ∷ 1 ∷ 0 ∷ 0 ∷ 0 ∷ 8 ∷ 224 ∷ 255 ∷ 2 ∷ 224 ∷ 255 ∷ 2 ∷ []
  -- the same, where each stripe ends in a reset
  pub reset : jbg (settings 8 1 0 None true None) (rows_as 1 ((true ∷ []) ∷ (true ∷ []) ∷ []))
      ≡ 0 ∷ 0 ∷ 1 ∷ 0 ∷ 0 ∷ 0 ∷ 0 ∷ 1 ∷ 0 ∷ 0 ∷ 0 ∷ 2 ∷ 0 ∷ 0 ∷ 0 ∷ 1 ∷ 0 ∷ 0 ∷ 0 ∷ 8 ∷ 224 ∷ 255 ∷ 3 ∷ 224 ∷ 255 ∷ 3 ∷ []
  -- a comment before a white row that is typical
  pub comment : jbg (settings 8 128 0 None false (Some (104 ∷ 105 ∷ []))) (rows_as 8 ((false ∷ false ∷ false ∷ false ∷ false ∷ false ∷ false ∷ false ∷ []) ∷ []))
      ≡ 0 ∷ 0 ∷ 1 ∷ 0 ∷ 0 ∷ 0 ∷ 0 ∷ 8 ∷ 0 ∷ 0 ∷ 0 ∷ 1 ∷ 0 ∷ 0 ∷ 0 ∷ 128 ∷ 0 ∷ 0 ∷ 0 ∷ 8 ∷ 255 ∷ 7 ∷ 0 ∷ 0 ∷ 0 ∷ 2 ∷ 104 ∷ 105 ∷ 255 ∷ 2 ∷ []
  -- black rows, of which the first moves the adaptive pixel of the second
  pub moved : jbg (settings 0 1 3 None false None) (rows_as 8 ((true ∷ true ∷ true ∷ true ∷ true ∷ true ∷ true ∷ true ∷ []) ∷ (true ∷ true ∷ true ∷ true ∷ true ∷ true ∷ true ∷ true ∷ []) ∷ []))
      ≡ 0 ∷ 0 ∷ 1 ∷ 0 ∷ 0 ∷ 0 ∷ 0 ∷ 8 ∷ 0 ∷ 0 ∷ 0 ∷ 2 ∷ 0 ∷ 0 ∷ 0 ∷ 1 ∷ 3 ∷ 0 ∷ 0 ∷ 0 ∷ 240 ∷ 255 ∷ 2 ∷ 255 ∷ 6 ∷ 0 ∷ 0 ∷ 0 ∷ 0 ∷ 3 ∷ 0 ∷ 248 ∷ 255 ∷ 2 ∷ []
  -- three of them, where each stripe ends in a reset
  pub moved_anew : jbg (settings 0 1 3 None true None) (rows_as 8 ((true ∷ true ∷ true ∷ true ∷ true ∷ true ∷ true ∷ true ∷ []) ∷ (true ∷ true ∷ true ∷ true ∷ true ∷ true ∷ true ∷ true ∷ []) ∷
      (true ∷ true ∷ true ∷ true ∷ true ∷ true ∷ true ∷ true ∷ []) ∷ []))
      ≡ 0 ∷ 0 ∷ 1 ∷ 0 ∷ 0 ∷ 0 ∷ 0 ∷ 8 ∷ 0 ∷ 0 ∷ 0 ∷ 3 ∷ 0 ∷ 0 ∷ 0 ∷ 1 ∷ 3 ∷ 0 ∷ 0 ∷ 0 ∷ 240 ∷ 255 ∷ 3 ∷ 255 ∷ 6 ∷ 0 ∷ 0 ∷ 0 ∷ 0 ∷ 3 ∷ 0 ∷ 248 ∷ 255 ∷ 3 ∷ 255 ∷ 6 ∷ 0 ∷ 0 ∷ 0 ∷ 0 ∷ 3 ∷ 0 ∷ 248 ∷ 255 ∷
      3 ∷ []
  -- no offset to choose from
  pub no_candidate : jbg (settings 0 1 2 None true None) (rows_as 8 ((true ∷ true ∷ true ∷ true ∷ true ∷ true ∷ true ∷ true ∷ []) ∷ (true ∷ true ∷ true ∷ true ∷ true ∷ true ∷ true ∷ true ∷ []) ∷ []))
      ≡ 0 ∷ 0 ∷ 1 ∷ 0 ∷ 0 ∷ 0 ∷ 0 ∷ 8 ∷ 0 ∷ 0 ∷ 0 ∷ 2 ∷ 0 ∷ 0 ∷ 0 ∷ 1 ∷ 2 ∷ 0 ∷ 0 ∷ 0 ∷ 240 ∷ 255 ∷ 3 ∷ 240 ∷ 255 ∷ 3 ∷ []
  -- a black pixel, where a greater height was announced: the height comes after it
  pub announced : jbg (settings 0 128 0 (Some 5) false None) (rows_as 1 ((true ∷ []) ∷ []))
      ≡ 0 ∷ 0 ∷ 1 ∷ 0 ∷ 0 ∷ 0 ∷ 0 ∷ 1 ∷ 0 ∷ 0 ∷ 0 ∷ 5 ∷ 0 ∷ 0 ∷ 0 ∷ 128 ∷ 0 ∷ 0 ∷ 0 ∷ 32 ∷ 192 ∷ 255 ∷ 2 ∷ 255 ∷ 5 ∷ 0 ∷ 0 ∷ 0 ∷ 1 ∷ 255 ∷ 2 ∷ []
  -- the same, where the stripe ends in a reset
  pub announced_reset : jbg (settings 0 128 0 (Some 5) true None) (rows_as 1 ((true ∷ []) ∷ []))
      ≡ 0 ∷ 0 ∷ 1 ∷ 0 ∷ 0 ∷ 0 ∷ 0 ∷ 1 ∷ 0 ∷ 0 ∷ 0 ∷ 5 ∷ 0 ∷ 0 ∷ 0 ∷ 128 ∷ 0 ∷ 0 ∷ 0 ∷ 32 ∷ 192 ∷ 255 ∷ 3 ∷ 255 ∷ 5 ∷ 0 ∷ 0 ∷ 0 ∷ 1 ∷ 255 ∷ 3 ∷ []
  -- the height itself was announced
  pub announced_exactly : jbg (settings 0 128 0 (Some 1) false None) (rows_as 1 ((true ∷ []) ∷ []))
      ≡ 0 ∷ 0 ∷ 1 ∷ 0 ∷ 0 ∷ 0 ∷ 0 ∷ 1 ∷ 0 ∷ 0 ∷ 0 ∷ 1 ∷ 0 ∷ 0 ∷ 0 ∷ 128 ∷ 0 ∷ 0 ∷ 0 ∷ 32 ∷ 192 ∷ 255 ∷ 2 ∷ []
  -- two stripes, and a greater height announced
  pub announced_twice : jbg (settings 0 1 0 (Some 9) false None) (rows_as 1 ((true ∷ []) ∷ (true ∷ []) ∷ []))
      ≡ 0 ∷ 0 ∷ 1 ∷ 0 ∷ 0 ∷ 0 ∷ 0 ∷ 1 ∷ 0 ∷ 0 ∷ 0 ∷ 9 ∷ 0 ∷ 0 ∷ 0 ∷ 1 ∷ 0 ∷ 0 ∷ 0 ∷ 32 ∷ 192 ∷ 255 ∷ 2 ∷ 192 ∷ 255 ∷ 2 ∷ 255 ∷ 5 ∷ 0 ∷ 0 ∷ 0 ∷ 2 ∷ 255 ∷ 2 ∷ []
  -- the height may change, and none was announced
  pub variable : jbg (settings 32 128 0 None false None) (rows_as 1 ((true ∷ []) ∷ []))
      ≡ 0 ∷ 0 ∷ 1 ∷ 0 ∷ 0 ∷ 0 ∷ 0 ∷ 1 ∷ 0 ∷ 0 ∷ 0 ∷ 1 ∷ 0 ∷ 0 ∷ 0 ∷ 128 ∷ 0 ∷ 0 ∷ 0 ∷ 32 ∷ 192 ∷ 255 ∷ 2 ∷ []

-- a white or black image one pixel wide, in stripes of this many rows, whose height may change
abbrev pub narrow : ℕ → ℕ → Fields
narrow height l0 = record { xd = 1; yd = height; l0 = l0; mx = 0; options = 32 }

-- a stripe of one black row, and a height
abbrev pub black : List ℕ
black = 192 ∷ 255 ∷ 2 ∷ []

abbrev pub length_to : ℕ → List ℕ
length_to n = 255 ∷ 5 ∷ 0 ∷ 0 ∷ 0 ∷ n ∷ []

pub record WorkedHeights : Type 0 where
  -- a height of a row after the stripe
  pub given_behind : IsHeight (narrow 5 128) (black ++ length_to 1 ++ 255 ∷ 2 ∷ []) 1
  -- one above the header's ends the look
  pub above : IsHeight (narrow 5 128) (black ++ length_to 9 ++ 255 ∷ 2 ∷ []) 5
  -- one after the first of two stripes
  pub given_between : IsHeight (narrow 9 1) (black ++ length_to 2 ++ black) 2
  -- a second one is refused where it begins
  pub given_first : IsHeight (narrow 9 1) (length_to 2 ++ black ++ 255 ∷ 5 ∷ []) 2
  pub second : BodyFault (narrow 9 1) 2 (length_to 2 ++ black ++ 255 ∷ 5 ∷ []) SecondLength
  -- one that the stripes already exceed
  pub too_low : IsHeight (narrow 9 1) (black ++ black ++ length_to 1 ++ 255 ∷ 2 ∷ []) 9
  pub low_refused : BodyFault (narrow 9 1) 9 (black ++ black ++ length_to 1 ++ 255 ∷ 2 ∷ []) LengthRefused
  -- one of no row
  pub no_row : IsHeight (narrow 9 1) (black ++ black ++ length_to 0 ++ 255 ∷ 2 ∷ []) 9
  pub zero_refused : BodyFault (narrow 9 1) 9 (black ++ black ++ length_to 0 ++ 255 ∷ 2 ∷ []) LengthRefused
  -- another than that in use
  pub changed : BodyFault (narrow 5 128) 5 (length_to 3) Changed

pub record WorkedLines : Type 0 where
  -- two stripes of a fixed height
  pub two_stripes : HasLine (0 ∷ 0 ∷ 1 ∷ 0 ∷ 0 ∷ 0 ∷ 0 ∷ 1 ∷ 0 ∷ 0 ∷ 0 ∷ 2 ∷ 0 ∷ 0 ∷ 0 ∷ 1 ∷ 0 ∷ 0 ∷ 0 ∷ 8 ∷ 224 ∷ 255 ∷ 2 ∷ 224 ∷ 255 ∷ 2 ∷ []) (line_text (1 ∷ 2 ∷ 1 ∷ 0 ∷ 8 ∷ 2 ∷ 2 ∷ 0 ∷ 0 ∷ []))
  -- the second of them moves the adaptive pixel
  pub moved : HasLine (0 ∷ 0 ∷ 1 ∷ 0 ∷ 0 ∷ 0 ∷ 0 ∷ 8 ∷ 0 ∷ 0 ∷ 0 ∷ 2 ∷ 0 ∷ 0 ∷ 0 ∷ 1 ∷ 3 ∷ 0 ∷ 0 ∷ 0 ∷ 240 ∷ 255 ∷ 2 ∷ 255 ∷ 6 ∷ 0 ∷ 0 ∷ 0 ∷ 0 ∷ 3 ∷ 0 ∷ 248 ∷ 255 ∷ 2 ∷ [])
      (line_text (8 ∷ 2 ∷ 1 ∷ 3 ∷ 0 ∷ 2 ∷ 2 ∷ 1 ∷ 0 ∷ []))
  -- a height after the only stripe
  pub given_behind : HasLine (0 ∷ 0 ∷ 1 ∷ 0 ∷ 0 ∷ 0 ∷ 0 ∷ 1 ∷ 0 ∷ 0 ∷ 0 ∷ 5 ∷ 0 ∷ 0 ∷ 0 ∷ 128 ∷ 0 ∷ 0 ∷ 0 ∷ 32 ∷ 192 ∷ 255 ∷ 2 ∷ 255 ∷ 5 ∷ 0 ∷ 0 ∷ 0 ∷ 1 ∷ 255 ∷ 2 ∷ [])
      (line_text (1 ∷ 5 ∷ 128 ∷ 0 ∷ 32 ∷ 1 ∷ 1 ∷ 0 ∷ 0 ∷ []))
  -- a height between two stripes
  pub given_between : HasLine (0 ∷ 0 ∷ 1 ∷ 0 ∷ 0 ∷ 0 ∷ 0 ∷ 1 ∷ 0 ∷ 0 ∷ 0 ∷ 9 ∷ 0 ∷ 0 ∷ 0 ∷ 1 ∷ 0 ∷ 0 ∷ 0 ∷ 32 ∷ 192 ∷ 255 ∷ 2 ∷ 255 ∷ 5 ∷ 0 ∷ 0 ∷ 0 ∷ 2 ∷ 192 ∷ 255 ∷ 2 ∷ [])
      (line_text (1 ∷ 9 ∷ 1 ∷ 0 ∷ 32 ∷ 2 ∷ 2 ∷ 0 ∷ 0 ∷ []))
  -- a comment after the last stripe isn't counted
  pub comment_behind : HasLine (0 ∷ 0 ∷ 1 ∷ 0 ∷ 0 ∷ 0 ∷ 0 ∷ 1 ∷ 0 ∷ 0 ∷ 0 ∷ 9 ∷ 0 ∷ 0 ∷ 0 ∷ 1 ∷ 0 ∷ 0 ∷ 0 ∷ 32 ∷ 192 ∷ 255 ∷ 2 ∷ 192 ∷ 255 ∷ 2 ∷ 255 ∷ 7 ∷ 0 ∷ 0 ∷ 0 ∷ 0 ∷ 255 ∷ 5 ∷ 0 ∷ 0 ∷ 0 ∷ 2 ∷ 255
      ∷ 2 ∷ []) (line_text (1 ∷ 9 ∷ 1 ∷ 0 ∷ 32 ∷ 2 ∷ 2 ∷ 0 ∷ 0 ∷ []))
