-- What the rule over two Dates means, mark 83 of document 02, order 8.
-- Assumes nothing.
use Prim.Native.Nat.{ℕ}
use mathlib.Core.Path.{◌≡◌, refl}
use mathlib.Core.Bool.{Bool, true, false, cond}
use mathlib.Core.Logic.{◌↔◌}
use native.Mathlib.Omega.{arith}
use borrow.Author.Tests.{eq-eqb, ne_eqb, lt-ltb, eqb-true, ltb-true}
use lib.Dec.{ltb, eqb}
use Rattle.std.specs.Prelude.{Some, None}
use Rattle.json_date.specs.Date.{Date, day_in}
use Rattle.rule_cells.specs.Cells.{Table, table, is_given, date_in, text_of}
use Rattle.rule_dates.specs.Dates.{is_later, is_after, breaks_order, dates_in_order_rule}
use Rattle.rule_meaning.specs.Keeps.{Answers, After, LaterYear, LaterMonth, LaterDay, DatesInOrder}
use Rattle.rule_meaning.proofs.Answers.{answers, not-true-false, never_both}
use Rattle.rule_meaning.proofs.Values.{and-and}

-- ---- The test for "after" tells what it says
after-passes : {a b : Date} → After a b → is_after a b ≡ true
unfolding is_after is_later
after-passes (LaterYear {y} {m} {d} {z} {n} {e} l) = rw (ne_eqb y z (λ q. omega arith), lt-ltb z y l)
after-passes (LaterMonth {y} {m} {d} {n} {e} l) = rw (eq-eqb y y refl, ne_eqb m n (λ q. omega arith), lt-ltb n m l)
after-passes (LaterDay {y} {m} {d} {e} l) = rw (eq-eqb y y refl, eq-eqb m m refl, lt-ltb e d l)

later-shows : (y m d z n e : ℕ) → is_later y m d z n e ≡ true → After (Some (day_in y m d)) (Some (day_in z n e))
unfolding is_later
later-shows y m d z n e = go (eqb y z) refl (eqb m n) refl
  where
    go : (p : Bool) → eqb y z ≡ p → (q : Bool) → eqb m n ≡ q → cond p (cond q (ltb e d) (ltb n m)) (ltb z y) ≡ true → After (Some (day_in y m d)) (Some (day_in z n e))
    go true f true g h = rw (← (eqb-true y z f), ← (eqb-true m n g)) (LaterDay (ltb-true e d h))
    go true f false g h = rw (← (eqb-true y z f)) (LaterMonth (ltb-true n m h))
    go false f q g h = LaterYear (ltb-true z y h)

after-shows : (a b : Date) → is_after a b ≡ true → After a b
unfolding is_after
after-shows (Some a) (Some b) h = later-shows a.year a.month a.day b.year b.month b.day h
after-shows (Some a) None h = absurd (never_both h refl)
after-shows None b h = absurd (never_both h refl)

-- ---- Mark 83 holds exactly if no record gives both Dates with the first after the second, and else names the first that does
pub in-order-means : (t : Table) (first second : ℕ) → Answers (DatesInOrder t first second) t.records (dates_in_order_rule t first second)
unfolding dates_in_order_rule breaks_order date_in text_of
in-order-means t first second = answers _ (DatesInOrder t first second) told t.records
  where
    told : (r : ℕ) → (breaks_order (table t.bytes t.cells t.width 0) first second r ≡ false) ↔ DatesInOrder t first second r
    told r =
        let b = and-and (is_given t.cells t.width r first) (is_given t.cells t.width r second) (is_after (date_in t r first) (date_in t r second)) in (
          λ e g h after. never_both (after-passes after) (b.0 e g h),
          λ keeps. b.1 (λ g h. not-true-false (is_after (date_in t r first) (date_in t r second)) (λ after. keeps g h (after-shows (date_in t r first) (date_in t r second) after))),
        )
