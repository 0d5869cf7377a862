-- What a set adds: it counts exactly if it is accepted and every amount of its assignments fits; then it adds, for each element
-- and column, the sum over the records themselves, and else nothing.
-- Assumes nothing.
use Prim.Native.Nat.{ℕ, ◌+◌, ◌*◌, ◌/◌, ◌%◌, ◌≤◌, ◌<◌}
use mathlib.Core.Path.{◌≡◌, refl, sym, ap, ◌∙◌}
use mathlib.Core.Bool.{Bool, true, false, cond, ◌&&◌}
use mathlib.Core.List.{List}
use native.Mathlib.Omega.{arith}
use borrow.Author.Tests.{le-leb}
use lib.IntN.{pos}
use Rattle.exact_sums.specs.Sums.{sum_to, wholes}
use Rattle.exact_sums.proofs.Lists.{whole-at}
use Rattle.table_file.proofs.Kept.{file-records}
use Rattle.element_sums.specs.declared.Sums.{Sums}
use Rattle.element_sums.specs.Sums.{adds, element_sum, all_fit, can_sum, sum_at, no_sums, sums_in}
use Rattle.bundle_layout.specs.Bundle.{file_at}
use Rattle.gate_marks.specs.Work.{room_of, zeros, read_of}
use Rattle.gate_marks.specs.Marks.{table_of}
use Rattle.schedule.specs.Schedule.{schedule}
use Rattle.set_sums.specs.Set.{assignments_of, resources_of, set_accepted, set_sums, is_counted, set_adds}

-- ---- no table has more records than that
few-assigned : (s : List ℕ) → (assignments_of s).records ≤ 4096
unfolding assignments_of table_of read_of
few-assigned s = file-records (schedule.expected 19) (file_at s 19) (zeros (room_of (schedule.expected 19).form))

few-resources : (s : List ℕ) → (resources_of s).records ≤ 4096
unfolding resources_of table_of read_of
few-resources s = file-records (schedule.expected 16) (file_at s 16) (zeros (room_of (schedule.expected 16).form))

can-sum : (s : List ℕ) → can_sum (assignments_of s) (resources_of s) ≡ all_fit (assignments_of s) (assignments_of s).records
unfolding can_sum
can-sum s = rw (le-leb (assignments_of s).records 4096 (few-assigned s), le-leb (resources_of s).records 4096 (few-resources s))

-- ---- "refused or not accepted", or "with any other amount"
pub counted-exactly : (s : List ℕ) → is_counted s ≡ (set_accepted s && all_fit (assignments_of s) (assignments_of s).records)
unfolding is_counted set_sums sums_in
counted-exactly s = rw (← can-sum s) (go (set_accepted s) (can_sum (assignments_of s) (resources_of s)))
  where
    given : Bool → Sums
    given b = cond b (record { fits = true; sums = wholes (sum_at (assignments_of s) (resources_of s)) 24 }) no_sums

    go : (a b : Bool) → (cond a (given b) no_sums).fits ≡ (a && b)
    go true true = refl
    go true false = refl
    go false b = refl

-- ---- the sum over the records themselves
sums_by : (s : List ℕ) → set_sums s ≡ cond (set_accepted s && can_sum (assignments_of s) (resources_of s)) (record { fits = true; sums = wholes (sum_at (assignments_of s) (resources_of s)) 24 }) no_sums
unfolding set_sums sums_in
sums_by s = go (set_accepted s) (can_sum (assignments_of s) (resources_of s))
  where
    given : Bool → Sums
    given b = cond b (record { fits = true; sums = wholes (sum_at (assignments_of s) (resources_of s)) 24 }) no_sums

    go : (a b : Bool) → cond a (given b) no_sums ≡ given (a && b)
    go true b = refl
    go false b = refl

pub adds-records : (s : List ℕ) (e c : ℕ) → e < 4 → c < 6 → is_counted s ≡ true → set_adds s (6 * e + c) ≡ sum_to (adds (assignments_of s) (resources_of s) (resources_of s).records e c) (assignments_of s).records
unfolding set_adds sum_at element_sum
adds-records s e c h k counted =
    let both : (set_accepted s && can_sum (assignments_of s) (resources_of s)) ≡ true = ap (λ b. set_accepted s && b) (can-sum s) ∙ sym (counted-exactly s) ∙ counted in
    let row : (6 * e + c) / 6 ≡ e = omega arith in
    let column : (6 * e + c) % 6 ≡ c = omega arith in
    rw (sums_by s, both, whole-at (sum_at (assignments_of s) (resources_of s)) 24 (6 * e + c) (omega arith), row, column)

pub adds-nothing : (s : List ℕ) (i : ℕ) → i < 24 → is_counted s ≡ false → set_adds s i ≡ pos 0
unfolding set_adds
adds-nothing s i l out =
    let both : (set_accepted s && can_sum (assignments_of s) (resources_of s)) ≡ false = ap (λ b. set_accepted s && b) (can-sum s) ∙ sym (counted-exactly s) ∙ out in
    rw (sums_by s, both, whole-at (λ j. pos 0) 24 i l)
