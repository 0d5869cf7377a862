-- `table_probe::cell_count` meets its contract: 4,096 records of 23 fields have 188,416 cells.
use Prim.Native.Nat.{ℕ, ◌*◌, ◌≤◌}
use native.Mathlib.Nat.{mul-le-mul}
use native.Mathlib.Omega.{arith}
use Rattle.table_probe.proofs.cell_count.Goals as goal

few : (records count : ℕ) → records ≤ 4096 → count ≤ 23 → records * (2 * count) ≤ 188416
few records count p q = mul-le-mul {m₂ = 46} p (omega arith)

pub overflow_mul-n-2 : goal.overflow_mul-n-2
overflow_mul-n-2 c = omega (arith, few _ _ c.if-records-gt4096.false c.if-count-gt23.false)

pub returns-else-most-n : goal.returns-else-most-n
returns-else-most-n c = omega (arith, few _ _ c.if-records-gt4096.false c.if-count-gt23.false)
