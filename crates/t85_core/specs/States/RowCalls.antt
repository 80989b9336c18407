-- The preconditions of a row encoder's calls, and their effects on its numbers.
use Rattle.std.specs.Prelude.{ℕ, ◌+◌, ◌≡◌, ◌<◌, Result, OnOk, IfErr, is_err, true, false, not, ◌&&◌, ◌==◌, Bool}
use Rattle.t85_core.specs.RowImage.{may_name}
use Rattle.pbm_core.specs.declared.size.Size.{Size}
use Rattle.t85_core.specs.declared.fault.Fault.{Fault}
use Rattle.t85_core.specs.declared.fault.Fault.TheVariants.{Write}
use Rattle.t85_core.specs.declared.encoding.by_row.RowEncoder.{RowEncoder}
use Rattle.t85_core.specs.States.ByRow.{MayGoOn}

-- The encoder accepts another row.
abbrev pub MayTakeRow : RowEncoder → Type 0
MayTakeRow e = (e.rows < e.size.height) × MayGoOn e

-- The image may end here.
abbrev pub MayEnd : RowEncoder → Type 0
MayEnd e = (0 < e.rows) × (e.may_end ≡ false → e.rows ≡ e.size.height)

-- The encoder accepts this offset as a name now.
abbrev pub takes_name : RowEncoder → ℕ → Bool
takes_name e t = not e.is_closed && ((e.in_stripe == 0) && may_name e.shape.two_line e.most_offset t)

-- No row of an image of this size has been encoded.
abbrev pub HasNoRows : Size → RowEncoder → Type 0
HasNoRows size e = MayGoOn e × (e.is_closed ≡ false) × (e.rows ≡ 0) × (e.size ≡ size)

-- The parameters of the image do not change, nor does it change whether the encoder is closed.
abbrev pub KeepsPlan : RowEncoder → RowEncoder → Type 0
KeepsPlan e e' = (e'.size ≡ e.size) × (e'.stripe_rows ≡ e.stripe_rows) × (e'.is_closed ≡ e.is_closed)

-- Nor does the number of rows.
abbrev pub KeepsRows : RowEncoder → RowEncoder → Type 0
KeepsRows e e' = KeepsPlan e e' × (e'.rows ≡ e.rows)

-- Nor do the rows of the current stripe and the coder.
abbrev pub CodesNothing : RowEncoder → RowEncoder → Type 0
CodesNothing e e' = KeepsRows e e' × (e'.in_stripe ≡ e.in_stripe) × (e'.encoder ≡ e.encoder)

-- Either the row was encoded and the encoder continues, or a write failed and the encoder is closed.
abbrev pub TakesRow : {T : Type 0} → RowEncoder → RowEncoder → Result T Fault → Type 0
TakesRow e e' result = (e'.is_closed ≡ is_err result) × OnOk result (MayGoOn e') × OnOk result (e'.rows ≡ e.rows + 1) × (e'.size ≡ e.size) × IfErr result (λ f. f ≡ Write)

-- The encoder is closed: its stream was ended, or a write failed.
abbrev pub LeavesClosed : {T : Type 0} → RowEncoder → RowEncoder → Result T Fault → Type 0
LeavesClosed e e' result = (e'.is_closed ≡ true) × (e'.size ≡ e.size) × IfErr result (λ f. f ≡ Write)
