use Rattle.std.proofs.Common.{ℕ, Bool, List, Option, ◌≡◌, ◌++◌, ◌∷◌, [], ◌∙◌, refl, subst, ap, arith, length-append}
use Rattle.pbm_core.specs.declared.fault.PbmFault.{PbmFault}
use Rattle.pbm_core.specs.declared.form.Form.{Form}
use Rattle.raster_core.specs.Packed.{HasLines, Held, white_lines}
use Rattle.raster_core.specs.Window.{held}
use Rattle.t85_core.specs.declared.fault.Fault.{Fault}
use Rattle.t85_core.specs.declared.fault.Fault.TheVariants.{Pbm}
use Rattle.t85_core.specs.Options.{settings_of}
use Rattle.t85_core.specs.States.ByRow.{view_of}
use Rattle.t85_core.specs.Private.EncodeRows.{EndsInRow, ReadsRows, RowTaken}
use Rattle.t85_core.specs.RowImage.{image_of}
use Rattle.t85_core.proofs.BytesJoin.WalkEnds.{map_ok, exit_of, err_of}
use Rattle.t85_core.proofs.BytesJoin.BytesAreSent.{here_sent}
use Rattle.t85_core.proofs.ImagesEncode.HeadIsPut.{head_refused}
use Rattle.t85_core.proofs.ImagesEncode.RowsJoin.{reads_none, reads_join}
use Rattle.t85_core.proofs.ImagesEncode.RowsMakeImage.{front_short, cut_refused, end_refused, many_come, taken_lined}
use Rattle.t85_core.proofs.encoding.encode_image.Goals as goal

pub returns-in_err-write_head-clause-unwritten : goal.returns-in_err-write_head-clause-unwritten
returns-in_err-write_head-clause-unwritten g c is = head_refused (settings_of c.args.options.now) c.args.size.width c.args.size.height _ c.in_err-write_head.ensures.cut

pub rows-init : goal.rows-init
rows-init g c =
    let white = subst (λ w. HasLines (held c.clear.new.self) (white_lines w)) c.requires.width c.clear.ensures.white in
    let put = c.in_ok-write_head.ensures in
    record {
      come = ([], reads_none, c.new-encoder.ensures.first _ c.first-learning.ensures (held c.clear.new.self) _ _ white put.ok);
      going = c.new-encoder.ensures.begins.1;
      ready = c.new-encoder.ensures.begins.0;
      size_is = c.new-encoder.ensures.begins.3;
      width = c.clear.ensures.width ∙ c.requires.width;
      lined = (white_lines c.args.size.width, white);
      reads = refl;
      same_origin = refl;
      same_source = refl;
      writes = put.counts;
      grows = put.grows;
      same_writer = put.same_writer;
    }

row_in : {a b : Form} {width : ℕ} {known known' : Option (List ℕ)} {old new : Held} → a ≡ b → RowTaken a width known known' old new → RowTaken b width known known' old new
row_in {width = width} {known = known} {known' = known'} {old = old} {new = new} is taken = subst (λ form. RowTaken form width known known' old new) is taken

reads_in : {a b : Form} {width : ℕ} {known known' : Option (List ℕ)} {rows : List (List Bool)} → a ≡ b → ReadsRows a width known known' rows → ReadsRows b width known known' rows
reads_in {width = width} {known = known} {known' = known'} {rows = rows} is read = subst (λ form. ReadsRows form width known known' rows) is read

ends_in : {a b : Form} {width : ℕ} {known known' : Option (List ℕ)} {one other : PbmFault} → a ≡ b → one ≡ other → EndsInRow a width known known' one → EndsInRow b width known known' other
ends_in {b = b} {width = width} {known = known} {known' = known'} {one = one} form is ends =
    subst (λ fault. EndsInRow b width known known' fault) is (subst (λ f. EndsInRow f width known known' one) form ends)

same_fault : (a b : PbmFault) (e : Fault) → e ≡ Pbm a → e ≡ Pbm b → a ≡ b
same_fault a b e p q = cc

pub returns-in_err-read_next_row-clause-short : goal.returns-in_err-read_next_row-clause-short
returns-in_err-read_next_row-clause-short g c fault is =
    let s = settings_of c.args.options.now in
    let so = c.rows.invariant.come in
    let many = many_come so in
    let short = c.in_err-read_next_row.ensures.short in
    exit_of c.from_residual-in_err-read_next_row.result c.from_residual-in_err-read_next_row.ensures.1 (λ told.
    front_short s c.args.size.height _ _ _ so.1 (omega arith)
    (ends_in (ap (λ o. o.form) c.rows.invariant.same_origin) (same_fault short.0 fault _ short.1 told) short.2)
    (c.fronts.ensures (image_of s c.args.size.width c.args.size.height) so.0 (view_of c.rows.encoder c.rows.learning) (held c.rows.window) _ _ so.2)) is

pub put_taken-requires-clause-lined : goal.put_taken-requires-clause-lined
put_taken-requires-clause-lined g c _ = taken_lined c.in_ok-read_next_row.ensures.ok c.rows.invariant.lined

pub returns-in_err-put_taken-clause-unwritten : goal.returns-in_err-put_taken-clause-unwritten
returns-in_err-put_taken-clause-unwritten g c is =
    let s = settings_of c.args.options.now in
    let so = c.rows.invariant.come in
    let many = many_come so in
    let taken = row_in (ap (λ o. o.form) c.rows.invariant.same_origin) c.in_ok-read_next_row.ensures.ok in
    cut_refused s c.args.size.height (g.S.RowSource.view c.args.source.now).remaining _ _ (reads_join so.1 taken.read)
    (let sum = length-append so.0 (taken.row ∷ []) in omega arith)
    (c.in_err-put_taken.ensures.cut c.rows.invariant.going taken.row (held c.rows.window) taken.below (image_of s c.args.size.width c.args.size.height) so.0 _ so.2)

pub returns-in_err-put_equal-clause-unwritten : goal.returns-in_err-put_equal-clause-unwritten
returns-in_err-put_equal-clause-unwritten g c is =
    let s = settings_of c.args.options.now in
    let came = c.rows.invariant.come in
    let taken = row_in (ap (λ o. o.form) c.rows.invariant.same_origin) c.in_ok-read_next_row.ensures.ok in
    let put = c.in_ok-put_taken.ensures.ok taken.row (held c.rows.window) taken.below (image_of s c.args.size.width c.args.size.height) came.0 _ came.2 in
    let origin = c.in_ok-read_next_row.ensures.same_origin ∙ c.rows.invariant.same_origin in
    let more = c.in_err-put_equal.ensures.cut (image_of s c.args.size.width c.args.size.height) (came.0 ++ taken.row ∷ []) _ put in
    cut_refused s c.args.size.height (g.S.RowSource.view c.args.source.now).remaining _ _ (reads_join (reads_join came.1 taken.read) (reads_in (ap (λ o. o.form) origin) more.1)) more.2 more.3

pub rows-preserved : goal.rows-preserved
rows-preserved g c =
    let s = settings_of c.args.options.now in
    let came = c.rows.invariant.come in
    let taken = row_in (ap (λ o. o.form) c.rows.invariant.same_origin) c.in_ok-read_next_row.ensures.ok in
    let put = c.in_ok-put_taken.ensures.ok taken.row (held c.rows.window) taken.below (image_of s c.args.size.width c.args.size.height) came.0 _ came.2 in
    let origin = c.in_ok-read_next_row.ensures.same_origin ∙ c.rows.invariant.same_origin in
    let more = c.in_ok-put_equal.ensures.ok (image_of s c.args.size.width c.args.size.height) (came.0 ++ taken.row ∷ []) _ put in
    let first = c.in_ok-put_taken.ensures.writes c.rows.invariant.going in
    record {
      come = ((came.0 ++ taken.row ∷ []) ++ more.0, reads_join (reads_join came.1 taken.read) (reads_in (ap (λ o. o.form) origin) more.1), more.2);
      going = c.in_ok-put_equal.ensures.goes_on.0;
      ready = c.in_ok-put_equal.ensures.goes_on.1;
      size_is = c.in_ok-put_equal.ensures.goes_on.3 ∙ c.in_ok-put_taken.ensures.goes_on.3 ∙ c.rows.invariant.size_is;
      width = c.put_equal.ensures.window.0 ∙ c.in_ok-put_taken.ensures.window.0.0 ∙ c.in_ok-read_next_row.ensures.width ∙ c.rows.invariant.width;
      lined = c.in_ok-put_equal.ensures.lined;
      reads = c.put_equal.ensures.reads ∙ c.in_ok-read_next_row.ensures.reads ∙ c.rows.invariant.reads;
      same_origin = c.put_equal.ensures.same_origin ∙ origin;
      same_source = c.put_equal.ensures.same_input.same_source ∙ c.in_ok-read_next_row.ensures.same_input.same_source ∙ c.rows.invariant.same_source;
      writes = c.in_ok-put_equal.ensures.writes.counts ∙ first.counts ∙ c.rows.invariant.writes;
      grows = (let more = c.in_ok-put_equal.ensures.writes.grows in let put = first.grows in let before = c.rows.invariant.grows in omega arith);
      same_writer = c.in_ok-put_equal.ensures.writes.same_writer ∙ first.same_writer ∙ c.rows.invariant.same_writer;
    }

pub returns-clause-ok : goal.returns-clause-ok
returns-clause-ok g c =
    let s = settings_of c.args.options.now in
    let so = c.rows.invariant.come in
    let many = many_come so in
    map_ok c.end.result (λ all. record { rows = so.0; many = omega arith; read = so.1; appended = here_sent (all (image_of s c.args.size.width c.args.size.height) so.0 _ so.2) }) c.end.ensures.ok

pub returns-clause-unwritten : goal.returns-clause-unwritten
returns-clause-unwritten g c is =
    let s = settings_of c.args.options.now in
    let so = c.rows.invariant.come in
    let many = many_come so in
    end_refused s c.args.size.height (g.S.RowSource.view c.args.source.now).remaining _ _ so.1 (omega arith)
    (err_of c.end.result is (c.end.ensures.cut c.rows.invariant.going) (image_of s c.args.size.width c.args.size.height) so.0 _ so.2)
