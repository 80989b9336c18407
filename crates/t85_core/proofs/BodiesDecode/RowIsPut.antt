-- A row of a stripe is decoded and written.
use Rattle.std.proofs.Common.{◌≡◌, ℕ, ◌+◌, List, [], ◌∷◌, ◌++◌, length, refl, sym, ◌∙◌, ap, subst, arith, Option, None, Some, Ok, append-nil, length-append}
use Rattle.std.specs.Prelude.{flat_map, IsErr}
use Rattle.std.specs.Io.KnownBytes.{Appends}
use Rattle.qm_core.specs.Place.{start}
use Rattle.qm_core.specs.Source.{Gives, source_at}
use Rattle.qm_core.specs.Decoder.{DecoderIsAt, decoder_state}
use Rattle.qm_core.specs.declared.source.Pulled.{Pulled}
use Rattle.qm_core.specs.declared.decoder.Decoder.{Decoder}
use Rattle.qm_core.specs.declared.decoder.Stop.{Stop}
use Rattle.raster_core.specs.Lines.{Lines}
use Rattle.raster_core.specs.Packed.{packed_row}
use Rattle.raster_core.specs.Row.{RowDecoded, RowIs, row_task, row_left}
use Rattle.raster_core.specs.declared.shape.Shape.{Shape}
use Rattle.raster_core.specs.declared.shape.Kept.{Kept}
use Rattle.t85_core.specs.Lent.{Carried}
use Rattle.t85_core.specs.Header.{Fields}
use Rattle.t85_core.specs.Grammar.{Segment}
use Rattle.t85_core.specs.Coding.{mode_of, move_of}
use Rattle.t85_core.specs.States.State.{RowStart, StripeStart, first_row_start, after_row, offset_at, stripe_coding}
use Rattle.t85_core.specs.Private.Cut.{IsReady}
use Rattle.t85_core.specs.States.Cut.{open_stripe}
use Rattle.t85_core.specs.States.DecodeRows.{IsShapeOf, IsCarried, RowsRead, Leads, rows_done}
use Rattle.t85_core.proofs.BytesJoin.ListsGrow.{flat_map_push}
use Rattle.t85_core.proofs.BodiesDecode.RunsGrow.{row_stands, row_taught}
use Rattle.t85_core.proofs.BodiesDecode.RowsFillStripe.{rows_none, rows_step, kept_step}
use Rattle.t85_core.proofs.BytesJoin.CallsJoin.{Appends-more}

not_err : (x : Unit {0}) → IsErr {T = Unit {0}} {E = Stop} (Ok x) → ⊥
not_err x e = cc

module _ {S F : Type 0} (pull : S → Pulled → S → Type 0) (joined : F → Pulled → F → Type 0) (old new : S) (from at to : F) (h : Fields) (shape : Shape) (c : StripeStart) (segments : List Segment)
    (row : ℕ)
    (carried carried' : Carried) (d d' : Decoder) (began text : Option (List ℕ)) (r : RowsRead (Leads joined from at) (open_stripe h c segments) shape (rows_done row carried d) began text)
    (kept : Kept) (offset_is : kept.offset ≡ offset_at (move_of segments) row carried.kept.offset) (previous_is : kept.previous_typical ≡ carried.kept.previous_typical) where
  -- the rows above the next one
  abbrev below : Lines
  below = record { row = r.is_carried.third; above = r.last.above; second = r.last.second }

  pub ready : IsReady (stripe_coding h segments) shape kept below (length r.rows) r.last
  ready = record {
    width_is = r.shape_is.width_is;
    mode_is = r.shape_is.mode_is;
    offset_is = offset_is ∙ ap (λ z. offset_at (move_of segments) row z) r.is_carried.offset_is ∙ ap (λ n. offset_at (move_of segments) n r.last.offset) (sym r.many);
    previous_is = previous_is ∙ r.is_carried.previous_is;
    above_is = refl;
    second_is = refl;
  }

  -- the answers of the call come after those before
  abbrev pub Join : Type 0
  Join = (more : List Pulled) → Gives pull old more new → Gives joined from (r.answers ++ more) to

  -- it was decoded
  pub row_done : Join → (text' : Option (List ℕ)) → RowDecoded (source_at pull old r.answers) (row_task shape kept r.last.state below) (row_left carried'.kept carried'.held)
      (decoder_state new d' carried'.learned) (Ok tt) →
      Appends text text' carried'.held.current → RowsRead (Leads joined from to) (open_stripe h c segments) shape (rows_done (row + 1) carried' d') began text'
  row_done join text' done' put =
      let k : RowIs (row_task shape kept r.last.state below) (r.answers ++ done'.more) (row_left carried'.kept carried'.held) carried'.learned d' = done'.ok in
      let after : RowStart = after_row (mode_of h.options) (move_of segments) (length r.rows) r.last k.row k.flag in
      let kept_is = kept_step h c segments r.answers r.rows r.flags r.last r.so_far shape kept carried'.kept below carried'.held carried'.learned d' done'.more ready k in
      record {
        answers = r.answers ++ done'.more;
        gives = join done'.more done'.gives;
        rows = r.rows ++ k.row ∷ [];
        flags = r.flags ++ k.flag ∷ [];
        last = after;
        so_far = rows_step h c segments r.answers r.rows r.flags r.last r.so_far shape kept carried'.kept below carried'.held carried'.learned d' done'.more ready k;
        many = (let long = length-append r.rows (k.row ∷ []) in omega (arith, long, r.many));
        stands = row_stands shape kept r.last.state below (mode_of h.options) (move_of segments) (length r.rows) r.last ready.mode_is ready.offset_is ready.previous_is refl refl refl carried'.kept
            (r.answers ++ done'.more) carried'.held carried'.learned d' k;
        unstopped = λ s. not_err tt (done'.stop.1 s);
        shape_is = r.shape_is;
        is_carried = record {
          offset_is = kept_is.0;
          previous_is = kept_is.1;
          learned_is = row_taught shape kept r.last.state below (mode_of h.options) (move_of segments)
              (length r.rows) r.last ready.mode_is ready.offset_is ready.previous_is refl refl refl carried'.kept (r.answers ++ done'.more) carried'.held carried'.learned d' k;
          third = r.last.second;
          lines_are = k.lines_are;
        };
        appended = subst (Appends began text') (sym (flat_map_push packed_row r.rows k.row))
            (Appends-more began text text' (flat_map packed_row r.rows) (packed_row k.row) r.appended (subst (Appends text text') k.lines_are.row_is put));
      }

  -- the answers up to its end
  pub row_done_answers : (join : Join) (text' : Option (List ℕ)) (done' : RowDecoded (source_at pull old r.answers) (row_task shape kept r.last.state below) (row_left carried'.kept carried'.held)
      (decoder_state new d' carried'.learned) (Ok tt)) (put : Appends text text' carried'.held.current) →
      (row_done join text' done' put).answers ≡ r.answers ++ done'.more
  unfolding row_done
  row_done_answers join text' done' put = refl

pub appends_nothing : (a : Option (List ℕ)) → Appends a a []
appends_nothing None = tt
appends_nothing (Some xs) = sym (append-nil xs)

-- before the first row
abbrev pub rows_begin : {S : Type 0} (pull : S → Pulled → S → Type 0) (from : S) (h : Fields) (shape : Shape) (c : StripeStart) (segments : List Segment) (carried : Carried) (d : Decoder)
    (text : Option (List ℕ)) →
    DecoderIsAt d start [] → IsShapeOf h shape → IsCarried (first_row_start c) carried → RowsRead (Leads pull from from) (open_stripe h c segments) shape (rows_done 0 carried d) text text
rows_begin pull from h shape c segments carried d text stands shape_is is = record {
  answers = [];
  gives = refl;
  rows = [];
  flags = [];
  last = first_row_start c;
  so_far = rows_none h c segments [];
  many = refl;
  stands = stands;
  unstopped = λ e. cc;
  shape_is = shape_is;
  is_carried = is;
  appended = appends_nothing text;
}
