-- First rows of a run: a code that lies where its rows lead lies where fewer of them lead.
use Rattle.std.proofs.Common.{ℕ, zero, suc, ◌+◌, Bool, List, [], ◌∷◌, take, refl, sym, subst, Option}
use Rattle.qm_core.specs.Place.{IsPlace}
use Rattle.qm_core.specs.Code.{Lies}
use Rattle.raster_core.specs.Lines.{Mode}
use Rattle.t85_core.specs.Private.CoderLaws.{CoderLaws}
use Rattle.t85_core.specs.States.State.{RowStart, after_row, Run, row_coding}
use Rattle.t85_core.specs.States.Cut.{events_with}

-- a code that lies where rows lead lies where they begin
run_inside : CoderLaws → (w : ℕ) (mode : Mode) (move : Option (ℕ × ℕ)) (r : ℕ) (b : RowStart) (rows : List (List Bool)) (flags : List Bool) (last : RowStart) (code : List ℕ) →
    IsPlace b.state.place → Run (row_coding w mode move) r b rows flags last → Lies code last.state.place → Lies code b.state.place
run_inside q w mode move r b [] [] last code p run lies = subst (λ z. Lies code z.state.place) (sym run) lies
run_inside q w mode move r b (row ∷ rows) (f ∷ flags) last code p run lies =
    q.events_stay_inside (events_with mode move r b row f) b.state code p
    (run_inside q w mode move (r + 1) (after_row mode move r b row f) rows flags last code (q.events_keep_place (events_with mode move r b row f) b.state p) run.1 lies)
run_inside q w mode move r b rows flags last code p run lies = absurd run

-- the first rows of a run
pub record Front (w : ℕ) (mode : Mode) (move : Option (ℕ × ℕ)) (r : ℕ) (b : RowStart) (rows : List (List Bool)) (code : List ℕ) (k : ℕ) : Type 0 where
  pub flags : List Bool
  pub last : RowStart
  pub run : Run (row_coding w mode move) r b (take k rows) flags last
  pub lies : Lies code last.state.place

pub run_front : CoderLaws → (w : ℕ) (mode : Mode) (move : Option (ℕ × ℕ)) (r : ℕ) (b : RowStart) (rows : List (List Bool)) (flags : List Bool) (last : RowStart) (code : List ℕ) (k : ℕ) →
    IsPlace b.state.place → Run (row_coding w mode move) r b rows flags last → Lies code last.state.place → Front w mode move r b rows code k
run_front q w mode move r b rows flags last code zero p run lies = record { flags = []; last = b; run = refl; lies = run_inside q w mode move r b rows flags last code p run lies }
run_front q w mode move r b [] [] last code (suc k) p run lies = record { flags = []; last = last; run = run; lies = lies }
run_front q w mode move r b (row ∷ rows) (f ∷ flags) last code (suc k) p run lies =
    let rest = run_front q w mode move (r + 1) (after_row mode move r b row f) rows flags last code k (q.events_keep_place (events_with mode move r b row f) b.state p) run.1 lies in
    record { flags = f ∷ rest.flags; last = rest.last; run = (run.0, rest.run); lies = rest.lies }
run_front q w mode move r b rows flags last code (suc k) p run lies = absurd run
