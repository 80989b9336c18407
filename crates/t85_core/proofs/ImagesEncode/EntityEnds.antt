-- A code and its end marker.
use Rattle.std.proofs.Common.{ℕ, Bool, List, ◌++◌, Option, Result, Ok, Err, append_assoc}
use Rattle.std.specs.Prelude.{OnOk, OnErr}
use Rattle.std.specs.Io.KnownBytes.{Appends}
use Rattle.devices.specs.Device.{AppendsBeginning}
use Rattle.qm_core.specs.Place.{Place}
use Rattle.t85_core.specs.declared.fault.Fault.{Fault}
use Rattle.t85_core.specs.Grammar.{marker_bytes}
use Rattle.t85_core.specs.Private.RowSteps.{CodeFinished, CodeEnded}
use Rattle.t85_core.proofs.BytesJoin.CallsJoin.{Appends-more, beginning_after, beginning_longer}

module _ (p : Place) (reset : Bool) (pushed : List ℕ) (text mid text' : Option (List ℕ)) where
  -- no more than a beginning of the code was written
  pub code_cut : {f : Fault} → CodeFinished {E = Fault} p pushed text text' (Err f) → CodeEnded {E = Fault} p reset pushed text text' (Err f)
  code_cut c = record {
    code = c.code;
    is = c.is;
    more = c.more ++ marker_bytes reset;
    all = rw (← append_assoc, c.all);
    ok = tt;
    cut = beginning_longer (marker_bytes reset) c.cut;
  }

  -- the code was, and then the marker or a beginning of it
  pub entity_ended : {u : Unit {0}} {answer : Result (Unit {0}) Fault} → CodeFinished {E = Fault} p pushed text mid (Ok u) → OnOk answer (Appends mid text' (marker_bytes reset)) →
      OnErr answer (AppendsBeginning mid text' (marker_bytes reset)) → CodeEnded p reset pushed text text' answer
  entity_ended {answer = (Ok v)} c ok cut = record {
    code = c.code;
    is = c.is;
    more = c.more ++ marker_bytes reset;
    all = rw (← append_assoc, c.all);
    ok = Appends-more text mid text' c.more (marker_bytes reset) c.ok ok;
    cut = tt;
  }
  entity_ended {answer = (Err f)} c ok cut = record {
    code = c.code;
    is = c.is;
    more = c.more ++ marker_bytes reset;
    all = rw (← append_assoc, c.all);
    ok = tt;
    cut = beginning_after c.more c.ok cut;
  }
