use Rattle.std.proofs.Common.{◌∙◌, refl, true≢false}
use Rattle.t85_core.specs.Options.{fields_of}
use Rattle.t85_core.proofs.StreamsAreWalked.WalkLooksBehind.{looked_none, looked_comment, looked_to, looked_open, looked_code, looked_fault, piece_faults, no_failed_read}
use Rattle.t85_core.proofs.height.look.Goals as goal

pub comments-init : goal.comments-init
comments-init g c = record { looked = looked_none (fields_of c.args.header.now) _; same_source = refl; unfailed = refl }

pub comments-preserved : goal.comments-preserved
comments-preserved g c =
    let h = rw c.in-Comment.is at c.in-Ok.ensures.ok in
    record {
      looked = looked_comment c.comments.invariant.looked h.0 h.1;
      same_source = c.in-Ok.ensures.reads.same_source ∙ c.comments.invariant.same_source;
      unfailed = c.in-Ok.ensures.reads.counts ∙ c.comments.invariant.unfailed;
    }

pub returns-in-NewLength-clause-found : goal.returns-in-NewLength-clause-found
returns-in-NewLength-clause-found g c =
    let h = rw c.in-NewLength.is at c.in-Ok.ensures.ok in
    looked_to c.comments.invariant.looked c.args.entities _ h.1 h.2

pub returns-in-Move-clause-none : goal.returns-in-Move-clause-none
returns-in-Move-clause-none g c =
    let h = rw c.in-Move.is at c.in-Ok.ensures.ok in
    absurd (true≢false h.0)

pub returns-in-Code-clause-none : goal.returns-in-Code-clause-none
returns-in-Code-clause-none g c = λ _.
    let h = rw c.in-Code.is at c.in-Ok.ensures.ok in
    looked_code c.comments.invariant.looked _ c.args.entities c.in-Code.field-0 h.1

pub returns-in-Read-clause-unread : goal.returns-in-Read-clause-unread
returns-in-Read-clause-unread g c = λ _. looked_open c.comments.invariant.looked c.args.entities (rw c.in-Read.is at c.in-Err.ensures.err)

pub returns-in_default : goal.returns-in_default
returns-in_default g c = record {
  found = tt;
  none = λ _. looked_fault c.comments.invariant.looked c.args.entities _ c.args.header.now.not_too_tall c.requires.variable c.in_default.not-Read c.in-Err.ensures.err;
  among = tt;
  unread = λ e. absurd (let bot : ⊥ = cc in bot);
  reads = record {
    drained = λ e. absurd (let bot : ⊥ = cc in bot);
    counts = (let none = no_failed_read c.in-Err.fault (piece_faults (fields_of c.args.header.now) c.args.entities c.in-Err.ensures.err) c.in_default.not-Read in
        c.in-Err.ensures.reads.counts ∙ none _ ∙ c.comments.invariant.unfailed);
    same_source = c.in-Err.ensures.reads.same_source ∙ c.comments.invariant.same_source;
  };
}
