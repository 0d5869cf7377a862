-- `set_sums::table_sums` meets its contract: the tables stand one behind the other, and the sums over them are the set's.
-- Assumes nothing.
use Prim.Native.Nat.{ℕ, ◌≤◌}
use mathlib.Core.Path.{◌≡◌, refl, sym}
use native.Mathlib.Omega.{arith}
use lib.Seq.{length-take-le}
use Rattle.set_sums.proofs.Tables.{last-long, both_read}
use Rattle.set_sums.proofs.table_sums.Goals as goal

at_least : {m n : ℕ} → 106496 ≤ n → m ≡ n → 106496 ≤ m
at_least h e = omega arith

pub slice_bounds-read_records-end-2 : goal.slice_bounds-read_records-end-2
slice_bounds-read_records-end-2 c = sym (length-take-le 32768 c.args.work.now (omega arith))

pub sums_read-requires : goal.sums_read-requires
sums_read-requires c = at_least c.requires (last-long c.args.bundle.now c.args.work.now c.requires c.read_records-u_records.ensures.cells_after refl c.read_records-records.ensures.cells_after refl)

pub shape_of-work : goal.shape_of-work
shape_of-work c = last-long c.args.bundle.now c.args.work.now c.requires c.read_records-u_records.ensures.cells_after refl c.read_records-records.ensures.cells_after refl

pub returns : goal.returns
returns c = let whole = both_read c.args.bundle.now c.args.work.now c.requires c.read_records-u_records.ensures.cells_after refl c.read_records-records.ensures.cells_after refl c.read_records-u_records.ensures.value c.read_records-records.ensures.value c.sums_read.ensures in record { value = whole.0; work_after = whole.1 }
