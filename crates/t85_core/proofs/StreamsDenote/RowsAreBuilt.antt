-- Rows are built one after another, so that each code lies where the rows of its stripe lead.
use Rattle.std.proofs.Common.{◌≡◌, ℕ, zero, suc, ◌+◌, ◌-◌, ◌*◌, ◌/◌, ◌<◌, ◌≤◌, ◌⊎◌, inl, inr, Bool, false, List, [], ◌∷◌, ◌++◌, length, map, arith, refl, ap, ◌∙◌, sym, subst}
use Rattle.std.proofs.lemmas.List.{length-map}
use Rattle.std.specs.Prelude.{slice_index_or, min, flat_map}
use Rattle.std.specs.List.{AllByRecursion}
use Rattle.std.proofs.lemmas.Bool.{cases_lt}
use Rattle.std.proofs.lemmas.Int.Digits.{number_lt}
use Rattle.std.proofs.Math.Nat.{div-mul-le_self, lt_of_mul-lt-mul_right, mul-le-mul_right}
use Rattle.raster_core.specs.Raster.{row_above, white_row}
use Rattle.raster_core.specs.Lines.{Lines, row_events, numbers_from, IsLegalFlag}
use Rattle.t85_core.specs.Coding.{Coding, FlaggedRows, flagged, top_of, lines_of, offset_of, flag_of, events_of_row, learned_at, place_of, begun, HasLegalFlags, mode_of}
use Rattle.t85_core.specs.Header.{Fields}
use Rattle.t85_core.specs.Grammar.{Stripe}
use Rattle.t85_core.specs.Denotes.{EachLies}
use Rattle.t85_core.proofs.StreamsDenote.StateIsCarried.{top_le, row_here, above_long}
use Rattle.t85_core.proofs.StreamsDenote.CodingsAgree.{coding, Agree, all_same, same_lines, same_events_in, same_stripe_events}
use Rattle.qm_core.specs.Place.{after, start}
use Rattle.qm_core.specs.Code.{Lies, IsBytes}
use Rattle.t85_core.specs.Private.CoderLaws.{CoderLaws}
use Rattle.t85_core.proofs.BytesJoin.ListsGrow.{All-push}
use Rattle.t85_core.proofs.BytesJoin.ListsKeepElements.{all_at, length-push, get_left, get_here}
use Rattle.t85_core.proofs.StreamsDenote.CodeDecidesRow.{RowIn, coded, lines_in}
use Rattle.t85_core.proofs.StreamsDenote.CodeHasRow.{SomeRow, some_row}
use Rattle.t85_core.proofs.StreamsDenote.CodesDecideStripes.{Lying, code_at, around, state_at, state_IsPlace, to_row, learned_agrees, above_agrees, previous_agrees}

pub bytes_in_start : (b : List ℕ) → IsBytes b → Lies b start
bytes_in_start b h = record { from = omega arith; below = omega (arith, number_lt 256 b h) }

-- every code lies where a stripe without rows leads
pub in_no_rows : {code : List ℕ} (c : Coding) (i : ℕ) → IsBytes code → length c.raster.rows ≤ i * c.stripe_rows → Lies code (place_of c i)
in_no_rows {code} c i bytes none =
    let no_rows : 0 ≡ min c.stripe_rows (length c.raster.rows - i * c.stripe_rows) = omega arith in
    subst (λ m. Lies code (after (begun (learned_at c i)) (flat_map (events_of_row c) (numbers_from (i * c.stripe_rows) m))).place) no_rows (bytes_in_start code bytes)

-- these rows, with a flag for each
pub record Built (h : Fields) (stripes : List Stripe) (x : FlaggedRows) : Type 0 where
  pub lying : Lying h stripes x
  pub as_many : length x.flags ≡ length x.rows

abbrev pub push : FlaggedRows → List Bool → Bool → FlaggedRows
push x row flag = flagged (x.rows ++ row ∷ []) (x.flags ++ flag ∷ [])

pub record OneMore (h : Fields) (stripes : List Stripe) (x : FlaggedRows) : Type 0 where
  pub row : List Bool
  pub flag : Bool
  pub built : Built h stripes (push x row flag)

-- so many rows
pub record Rows (h : Fields) (stripes : List Stripe) (m : ℕ) : Type 0 where
  pub coded : FlaggedRows
  pub many : length coded.rows ≡ m
  pub built : Built h stripes coded

module _ {h : Fields} {stripes : List Stripe} (some : 0 < h.l0) (bytes : AllByRecursion IsBytes (map (λ s. s.code) stripes)) where
  -- no rows
  built_none : Built h stripes (flagged [] [])
  built_none = record {
    lying = record {
      wide = tt;
      legal = λ y lt. absurd (omega arith);
      lies = λ i lt. in_no_rows (coding h stripes (flagged [] [])) i (all_at IsBytes (map (λ s. s.code) stripes) i [] bytes lt) (omega arith);
    };
    as_many = refl;
  }

  module _ (q : CoderLaws) {x : FlaggedRows} (b : Built h stripes x) (room : length x.rows < length stripes * h.l0) where
    abbrev n : ℕ
    n = length x.rows

    abbrev i : ℕ
    i = length x.rows / h.l0

    abbrev c : Coding
    c = coding h stripes x

    from : i * h.l0 ≤ n
    from = div-mul-le_self (length x.rows) h.l0

    to : n < i * h.l0 + h.l0
    to = omega arith

    in_codes : i < length (map (λ s. s.code) stripes)
    in_codes =
        let lt : length x.rows / h.l0 * h.l0 < length stripes * h.l0 = omega (arith, from) in
        let below = lt_of_mul-lt-mul_right h.l0 lt in
        omega (arith, length-map stripes (λ s. s.code))

    s_lies : Lies (code_at stripes i) (state_at c n).place
    s_lies =
        let here : min h.l0 (length x.rows - i * h.l0) ≡ length x.rows - i * h.l0 = omega (arith, from, to) in
        subst (λ m. Lies (code_at stripes i) (after (begun (learned_at c i)) (flat_map (events_of_row c) (numbers_from (i * h.l0) m))).place) here (b.lying.lies i in_codes)

    next : SomeRow (around c n) h.xd (state_at c n) (code_at stripes i)
    next = some_row q (around c n) (above_long c.raster b.lying.wide (top_of c n) n 1) (state_IsPlace q c n) s_lies

    -- a row that may follow does follow
    module _ {row : List Bool} {flag : Bool} (r : RowIn (around c n) h.xd (state_at c n) (code_at stripes i) [] row flag) where
      abbrev longer : FlaggedRows
      longer = push x row flag

      abbrev d : Coding
      d = coding h stripes (push x row flag)

      alike : Agree h x longer n
      alike = record {
        rows_are = λ y lt. sym (get_left x.rows (row ∷ []) y (white_row h.xd) lt);
        flags_are = λ y lt. sym (get_left x.flags (flag ∷ []) y false (omega arith));
      }

      many : length (x.rows ++ row ∷ []) ≡ suc (length x.rows)
      many = length-push x.rows row

      row_is : row_above d.raster (top_of d n) n 0 ≡ row
      row_is = row_here d.raster (top_of c n) n (top_le c n) ∙ get_here x.rows row [] (white_row h.xd)

      lines_are : lines_of d n ≡ lines_in (around c n) row
      lines_are =
          let above = above_agrees stripes alike (top_of c n) 1 (omega arith) in
          let second = above_agrees stripes alike (top_of c n) 2 (omega arith) in
          λ j. record { row = row_is j; above = sym above j; second = sym second j }

      flag_is : flag_of d n ≡ flag
      flag_is = ap (λ m. slice_index_or (x.flags ++ flag ∷ []) m false) (sym b.as_many) ∙ get_here x.flags flag [] false

      legal : HasLegalFlags d
      legal y lt = went (cases_lt y n) where
        went : (y < n) ⊎ (n ≤ y) → IsLegalFlag (mode_of h.options) (lines_of d y) (flag_of d y)
        went (inl less) =
            let lines = same_lines (all_same stripes) alike y less in
            subst (λ (u : Lines × Bool). IsLegalFlag (mode_of h.options) u.0 u.1) (λ j. (lines j, alike.flags_are y less j)) (b.lying.legal y less)
        went (inr more) =
            let here : n ≡ y = omega (arith, many) in
            subst (λ z. IsLegalFlag (mode_of h.options) (lines_of d z) (flag_of d z)) here
            (subst (λ (u : Lines × Bool). IsLegalFlag (mode_of h.options) u.0 u.1) (λ j. (sym lines_are j, sym flag_is j)) r.legal)

      events_are : events_of_row d n ≡ coded (around c n) row flag
      events_are =
          let previous = sym (previous_agrees stripes alike (top_of c n) (top_le c n)) in
          λ j. row_events (mode_of h.options) (lines_are j) (offset_of c n) (previous j) (flag_is j)

      learned_are : (k : ℕ) → k * h.l0 ≤ n → learned_at c k ≡ learned_at d k
      learned_are = learned_agrees stripes alike (omega arith) (omega (arith, many))

      here_lies : Lies (code_at stripes i) (place_of d i)
      here_lies =
          let rows : min h.l0 (length (x.rows ++ row ∷ []) - i * h.l0) ≡ (n - i * h.l0) + suc 0 = omega (arith, from, to, many) in
          let at : i * h.l0 + (n - i * h.l0) ≡ n = omega (arith, from) in
          let learned = learned_are i from in
          let events = same_events_in (all_same stripes) alike (i * h.l0) (n - i * h.l0) (omega arith) in
          let first : after (state_at c n) (coded (around c n) row flag ++ []) ≡ after (state_at d n) (events_of_row d n ++ []) =
          λ j. after (after (begun (learned j)) (events j)) (sym events_are j ++ []) in
          let path = ap (λ m. after (begun (learned_at d i)) (flat_map (events_of_row d) (numbers_from (i * h.l0) m))) rows ∙ to_row d (begun (learned_at d i)) (i * h.l0) (n - i * h.l0) 0
          ∙ ap (λ z. after (state_at d n) (events_of_row d z ++ [])) at in
          subst (λ u. Lies (code_at stripes i) u.place) (first ∙ sym path) r.lies

      lies : EachLies d (map (λ s. s.code) stripes)
      lies j lt = went (cases_lt j i) (cases_lt i j) where
        went : (j < i) ⊎ (i ≤ j) → (i < j) ⊎ (j ≤ i) → Lies (code_at stripes j) (place_of d j)
        went (inl less) q =
            let up : suc j * h.l0 ≤ i * h.l0 = mul-le-mul_right h.l0 less in
            let learned = learned_are j (omega (arith, from)) in
            let events = same_stripe_events (all_same stripes) alike (omega arith) (omega (arith, many)) j (omega (arith, from)) in
            subst (Lies (code_at stripes j)) (λ k. (after (begun (learned k)) (events k)).place) (b.lying.lies j lt)
        went (inr ge) (inl more) =
            let up : suc i * h.l0 ≤ j * h.l0 = mul-le-mul_right h.l0 more in
            in_no_rows d j (all_at IsBytes (map (λ s. s.code) stripes) j [] bytes lt) (omega (arith, to, many))
        went (inr ge) (inr le) =
            let here : i ≡ j = omega arith in
            subst (λ z. Lies (code_at stripes z) (place_of d z)) here here_lies

      append_row : Built h stripes longer
      append_row = record {
        lying = record { wide = All-push (λ row. length row ≡ h.xd) x.rows row b.lying.wide r.wide; legal = legal; lies = lies };
        as_many = length-push x.flags flag ∙ ap suc b.as_many ∙ sym many;
      }

    pub one_more : OneMore h stripes x
    one_more = record { row = next.row; flag = next.flag; built = append_row next.is }

  pub some_rows : (q : CoderLaws) (m : ℕ) → m ≤ length stripes * h.l0 → Rows h stripes m
  some_rows q zero le = record { coded = flagged [] []; many = refl; built = built_none }
  some_rows q (suc m) le =
      let b = some_rows q m (omega arith) in
      let o = one_more q b.built (omega arith) in
      record { coded = push b.coded o.row o.flag; many = length-push b.coded.rows o.row ∙ ap suc b.many; built = o.built }
