-- Heights, faults and lines that were worked out by hand.
use Rattle.std.proofs.Common.{◌≡◌, ◌≢◌, inl, inr, ◌≤◌, ◌<◌, ◌%◌, ◌^◌, ℕ, true, false, List, [], ◌∷◌, ◌++◌, length, drop, refl, sym, ap, ◌∙◌, arith, lit≤, lit<, true≢false}
use Rattle.byteorder.specs.Endian.{big_number}
use Rattle.t85_core.specs.declared.fault.Fault.TheVariants.{LengthRefused, Changed}
use Rattle.t85_core.specs.Header.{Fields, IsAccepted, is_variable}
use Rattle.t85_core.specs.Grammar.{IsBegun, Segment, NewLength, Move, Comment, Stripe, GiveOnly, segment_bytes, is_valid_length}
use Rattle.t85_core.specs.Refusal.{StripeFault, StripesFault}
use Rattle.t85_core.specs.Height.{GivesHeight, IsHeight}
use Rattle.t85_core.specs.Laws.Worked.{narrow, black, length_to, WorkedHeights, WorkedLines}
use Rattle.t85_core.proofs.StreamsAreWalked.SegmentsAreChecked.{row_of}
use Rattle.t85_core.proofs.StreamsDenote.HeaderIsWritten.{header_begins}
use Rattle.t85_core.proofs.BytesJoin.SegmentsGiveHeights.{valid_parts}
use Rattle.t85_core.proofs.BytesJoin.CodesAreStuffed.{second}
use Rattle.t85_core.proofs.BodiesParse.HeightExists.{height_of_ended, height_of_broken}

-- a header with these numbers is accepted
abbrev narrow_is : (height l0 : ℕ) → 1 ≤ height → height < 2 ^ 32 → 1 ≤ l0 → l0 < 2 ^ 32 → IsAccepted (narrow height l0)
narrow_is height l0 a b c d = record {
  width_from = lit≤ tt;
  width_to = lit≤ tt;
  height_from = a;
  height_to = b;
  stripe_from = c;
  stripe_to = d;
  offset_to = lit≤ tt;
  options_to = lit< tt;
  no_table = λ e. cc;
}

abbrev stripe_of : List Segment → ℕ → Stripe
stripe_of segments code = record { segments = segments; code = code ∷ []; reset = false }

begun_none : {h : Fields} → IsBegun h [] []
begun_none = record { legal = tt; one_move = lit≤ tt; bytes = tt }

begun_code : {h : Fields} (b : ℕ) → b < 256 → IsBegun h [] (b ∷ [])
begun_code b small = record { legal = tt; one_move = lit≤ tt; bytes = (small, tt) }

-- a stripe whose code is this byte
begun_192 : {h : Fields} → IsBegun h [] (192 ∷ [])
begun_192 = begun_code 192 (lit< tt)

none_given : (height n : ℕ) → n ≤ 1 → GiveOnly height n []
none_given height n once = record { one = omega arith; this = tt }

given_behind : GivesHeight (narrow 5 128) (black ++ length_to 1 ++ 255 ∷ 2 ∷ []) 1
given_behind = record {
  variable = refl;
  stripes = stripe_of [] 192 ∷ [];
  segments = [];
  rest = 255 ∷ 2 ∷ [];
  body_is = refl;
  each = (begun_192, tt);
  begun = begun_none;
  first = refl;
  within = lit≤ tt;
  behind = λ _. tt;
  valid = refl;
}

given_between : GivesHeight (narrow 9 1) (black ++ length_to 2 ++ black) 2
given_between = record {
  variable = refl;
  stripes = stripe_of [] 192 ∷ [];
  segments = [];
  rest = black;
  body_is = refl;
  each = (begun_192, tt);
  begun = begun_none;
  first = refl;
  within = lit≤ tt;
  behind = λ _. tt;
  valid = refl;
}

given_first : GivesHeight (narrow 9 1) (length_to 2 ++ black ++ 255 ∷ 5 ∷ []) 2
given_first = record {
  variable = refl;
  stripes = [];
  segments = [];
  rest = black ++ 255 ∷ 5 ∷ [];
  body_is = refl;
  each = tt;
  begun = begun_none;
  first = refl;
  within = lit≤ tt;
  behind = λ _. tt;
  valid = refl;
}

comment_behind : GivesHeight (narrow 9 1) (black ++ black ++ 255 ∷ 7 ∷ 0 ∷ 0 ∷ 0 ∷ 0 ∷ length_to 2 ++ 255 ∷ 2 ∷ []) 2
comment_behind = record {
  variable = refl;
  stripes = stripe_of [] 192 ∷ stripe_of [] 192 ∷ [];
  segments = Comment [] ∷ [];
  rest = 255 ∷ 2 ∷ [];
  body_is = refl;
  each = (begun_192, (begun_192, tt));
  begun = record { legal = (lit< tt, tt); one_move = lit≤ tt; bytes = tt };
  first = refl;
  within = lit≤ tt;
  behind = λ _. (refl, tt);
  valid = refl;
}

-- two stripes, and then a height that is refused, whatever is in use
refused_behind : (height n : ℕ) → is_valid_length (narrow 9 1) 2 n ≡ false →
    StripeFault (narrow 9 1) (record { height = height; entities = 2; heights = 0 }) (length_to n ++ 255 ∷ 2 ∷ []) LengthRefused →
    StripesFault (narrow 9 1) height 9 (black ++ black ++ length_to n ++ 255 ∷ 2 ∷ []) LengthRefused
refused_behind height n bad b = record {
  stripes = stripe_of [] 192 ∷ stripe_of [] 192 ∷ [];
  tail = length_to n ++ 255 ∷ 2 ∷ [];
  bytes_are = refl;
  fewer = lit< tt;
  each = (begun_192, (begun_192, tt));
  gives = none_given height 0 (lit≤ tt);
  tail_has = b;
}

refused_low : (height : ℕ) → StripeFault (narrow 9 1) (record { height = height; entities = 2; heights = 0 }) (length_to 1 ++ 255 ∷ 2 ∷ []) LengthRefused
refused_low height = record { segments = []; code = []; rest = length_to 1 ++ 255 ∷ 2 ∷ []; bytes_are = refl; begun = begun_none; gives = none_given height 0 (lit≤ tt); rest_has = refl }

refused_zero : (height : ℕ) → StripeFault (narrow 9 1) (record { height = height; entities = 2; heights = 0 }) (length_to 0 ++ 255 ∷ 2 ∷ []) LengthRefused
refused_zero height = record { segments = []; code = []; rest = length_to 0 ++ 255 ∷ 2 ∷ []; bytes_are = refl; begun = begun_none; gives = none_given height 0 (lit≤ tt); rest_has = refl }

not_changed : LengthRefused ≡ Changed → ⊥
not_changed e = cc

nine : IsAccepted (narrow 9 1)
nine = narrow_is 9 1 (lit≤ tt) (lit< tt) (lit≤ tt) (lit< tt)

five : IsAccepted (narrow 5 128)
five = narrow_is 5 128 (lit≤ tt) (lit< tt) (lit≤ tt) (lit< tt)

above : IsHeight (narrow 5 128) (black ++ length_to 9 ++ 255 ∷ 2 ∷ []) 5
above = height_of_ended five {rest = length_to 9 ++ 255 ∷ 2 ∷ []} (stripe_of [] 192 ∷ []) refl (begun_192, tt) (none_given 0 0 (lit≤ tt)) refl
    (record { segments = []; last = length_to 9 ++ 255 ∷ 2 ∷ []; are = record { comments = tt; legal = tt }; no_height = too_high; no_comment = no_comment; rest_is = refl })
  where
    too_high : (n : ℕ) (more : List ℕ) → is_valid_length (narrow 5 128) 1 n ≡ true → length_to 9 ++ 255 ∷ 2 ∷ [] ≡ segment_bytes (NewLength n) ++ more → ⊥
    too_high n more valid e =
        let same : 9 ≡ n = ap (λ u. big_number 4 (drop 2 u)) e ∙ row_of n more (let v = valid_parts (narrow 5 128) 1 n valid in omega arith) in
        let v = valid_parts (narrow 5 128) 1 n valid in
        omega arith

    no_comment : (text more : List ℕ) → length text < 2 ^ 32 → length_to 9 ++ 255 ∷ 2 ∷ [] ≡ segment_bytes (Comment text) ++ more → ⊥
    no_comment text more small e = let k : 5 ≡ 7 = second e in omega (arith, k)

pub worked_heights : WorkedHeights
worked_heights = record {
  given_behind = inl given_behind;
  above = above;
  given_between = inl given_between;
  given_first = inl given_first;
  second = record {
    stripes = record { segments = NewLength 2 ∷ []; code = 192 ∷ []; reset = false } ∷ [];
    tail = 255 ∷ 5 ∷ [];
    bytes_are = refl;
    fewer = lit< tt;
    each = (record { legal = ((refl, lit≤ tt, lit≤ tt), tt); one_move = lit≤ tt; bytes = (lit< tt, tt) }, tt);
    gives = record { one = lit≤ tt; this = (refl, tt) };
    tail_has = record { segments = []; code = []; rest = 255 ∷ 5 ∷ []; bytes_are = refl; begun = begun_none; gives = none_given 2 1 (lit≤ tt); rest_has = refl };
  };
  too_low = height_of_broken nine (refused_behind 0 1 refl (refused_low 0)) not_changed;
  low_refused = refused_behind 9 1 refl (refused_low 9);
  no_row = height_of_broken nine (refused_behind 0 0 refl (refused_zero 0)) not_changed;
  zero_refused = refused_behind 9 0 refl (refused_zero 9);
  changed = record {
    stripes = [];
    tail = length_to 3;
    bytes_are = refl;
    fewer = lit< tt;
    each = tt;
    gives = none_given 5 0 (lit≤ tt);
    tail_has = record { segments = []; code = []; rest = length_to 3; bytes_are = refl; begun = begun_none; gives = none_given 5 0 (lit≤ tt); rest_has = refl };
  };
}

-- ---- lines

-- the header of two stripes of one row
abbrev two_rows : ℕ → ℕ → ℕ → Fields
two_rows width mx options = record { xd = width; yd = 2; l0 = 1; mx = mx; options = options }

two_rows_is : {width mx options : ℕ} → 1 ≤ width → width ≤ 2 ^ 20 → mx ≤ 127 → options < 128 → options % 8 ≢ 6 → IsAccepted (two_rows width mx options)
two_rows_is a b c d e = record {
  width_from = a;
  width_to = b;
  height_from = lit≤ tt;
  height_to = lit< tt;
  stripe_from = lit≤ tt;
  stripe_to = lit< tt;
  offset_to = c;
  options_to = d;
  no_table = e;
}

fixed : (h : Fields) (body : List ℕ) → is_variable h ≡ false → IsHeight h body h.yd
fixed h body e = inr (refl, λ n g. true≢false (sym g.variable ∙ e))

pub worked_lines : WorkedLines
worked_lines = record {
  two_stripes = record {
    header = two_rows 1 0 8;
    header_of = header_begins (two_rows 1 0 8) _ (two_rows_is (lit≤ tt) (lit≤ tt) (lit≤ tt) (lit< tt) (λ e. cc));
    height = 2;
    height_is = fixed (two_rows 1 0 8) _ refl;
    parts = record {
      stripes = stripe_of [] 224 ∷ stripe_of [] 224 ∷ [];
      rest = [];
      body_is = refl;
      count = refl;
      each = (begun_code 224 (lit< tt), (begun_code 224 (lit< tt), tt));
      gives = none_given 2 0 (lit≤ tt);
    };
    text_is = refl;
  };
  moved = record {
    header = two_rows 8 3 0;
    header_of = header_begins (two_rows 8 3 0) _ (two_rows_is (lit≤ tt) (lit≤ tt) (lit≤ tt) (lit< tt) (λ e. cc));
    height = 2;
    height_is = fixed (two_rows 8 3 0) _ refl;
    parts = record {
      stripes = stripe_of [] 240 ∷ stripe_of (Move 0 3 ∷ []) 248 ∷ [];
      rest = [];
      body_is = refl;
      count = refl;
      each = (begun_code 240 (lit< tt), (record { legal = ((lit< tt, lit≤ tt), tt); one_move = lit≤ tt; bytes = (lit< tt, tt) }, tt));
      gives = record { one = lit≤ tt; this = tt };
    };
    text_is = refl;
  };
  given_behind = record {
    header = narrow 5 128;
    header_of = header_begins (narrow 5 128) _ five;
    height = 1;
    height_is = inl given_behind;
    parts = record { stripes = stripe_of [] 192 ∷ []; rest = length_to 1 ++ 255 ∷ 2 ∷ []; body_is = refl; count = refl; each = (begun_192, tt); gives = none_given 1 0 (lit≤ tt) };
    text_is = refl;
  };
  given_between = record {
    header = narrow 9 1;
    header_of = header_begins (narrow 9 1) _ nine;
    height = 2;
    height_is = inl given_between;
    parts = record {
      stripes = stripe_of [] 192 ∷ stripe_of (NewLength 2 ∷ []) 192 ∷ [];
      rest = [];
      body_is = refl;
      count = refl;
      each = (begun_192, (record { legal = ((refl, lit≤ tt, lit≤ tt), tt); one_move = lit≤ tt; bytes = (lit< tt, tt) }, tt));
      gives = record { one = lit≤ tt; this = (refl, tt) };
    };
    text_is = refl;
  };
  comment_behind = record {
    header = narrow 9 1;
    header_of = header_begins (narrow 9 1) _ nine;
    height = 2;
    height_is = inl comment_behind;
    parts = record {
      stripes = stripe_of [] 192 ∷ stripe_of [] 192 ∷ [];
      rest = 255 ∷ 7 ∷ 0 ∷ 0 ∷ 0 ∷ 0 ∷ length_to 2 ++ 255 ∷ 2 ∷ [];
      body_is = refl;
      count = refl;
      each = (begun_192, (begun_192, tt));
      gives = none_given 2 0 (lit≤ tt);
    };
    text_is = refl;
  };
}
