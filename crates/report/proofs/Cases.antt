-- What the judging program prints, by examples: the one of document 01, an accepted set, large numbers, 19 marks, and refused
-- bundles; and what is written at both sides of each limit.
-- Assumes nothing.
use Prim.Native.Nat.{ℕ}
use mathlib.Core.Path.{◌≡◌, refl}
use mathlib.Core.Bool.{Bool, false, cond, ◌||◌}
use mathlib.Core.List.{List, [], ◌∷◌, map}
use lib.ListN.{replicate}
use lib.Dec.{eqb}
use Rattle.json_bytes.specs.Ascii.{codes}
use Rattle.mark_numbers.specs.Marks.{Marks, marks_in, marks_from, holds, not_judged, fresh_marks}
use Rattle.mark_numbers.specs.declared.Mark.{Mark}
use Rattle.output.specs.Decimal.{decimal}
use Rattle.report.specs.Report.{report_of, text_room, text_in}
use Rattle.report.proofs.Opens.{open-report}

abbrev mark : ℕ → ℕ → ℕ → Mark
mark kind place companion = record { kind = kind; place = place; companion = companion }

abbrev is_in : ℕ → List ℕ → Bool
is_in m [] = false
is_in m (k ∷ ks) = eqb m k || is_in m ks

-- "The bundle with all 20 files omitted": files 0, 1 and 3 are demanded, and four rules read 1 or 3 alone
abbrev all_omitted : Marks
all_omitted = marks_from 81 (λ m. cond (is_in m (0 ∷ 1 ∷ 3 ∷ [])) (mark 21 0 0) (cond (is_in m (36 ∷ 37 ∷ 65 ∷ 66 ∷ [])) not_judged holds))

-- the last byte of the largest bundle, and the last two records
abbrev far_places : Marks
far_places = marks_from 81 (λ m. cond (eqb m 19) (mark 11 1048575 0) (cond (eqb m 80) (mark 1 4096 4095) holds))

abbrev nineteen : Marks
nineteen = marks_from 19 (λ m. cond (eqb m 18) (mark 1 7 3) holds)

pub boards : map (report_of 0) (all_omitted ∷ marks_from 81 (λ m. holds) ∷ far_places ∷ nineteen ∷ [])
    ≡ map codes
    ("marks 81\n0 21 0 0\n1 21 0 0\n3 21 0 0\n36 2 0 0\n37 2 0 0\n65 2 0 0\n66 2 0 0\nrefused 7\n" ∷
    "marks 81\naccepted\n" ∷
    "marks 81\n19 11 1048575 0\n80 1 4096 4095\nrefused 2\n" ∷
    "marks 19\n18 1 7 3\nrefused 1\n" ∷
    [])
unfolding open-report
boards = refl

pub refusals : map (λ refusal. report_of refusal (fresh_marks 81)) (1 ∷ 2 ∷ 3 ∷ []) ≡ map codes ("bundle 1\n" ∷ "bundle 2\n" ∷ "bundle 3\n" ∷ [])
unfolding open-report
refusals = refl

pub rooms : map text_room (19 ∷ 81 ∷ 85 ∷ 999 ∷ []) ≡ 2176 ∷ 6144 ∷ 6400 ∷ 64896 ∷ []
rooms = refl

-- the room that is asked and one byte less, the most marks and one more, and lists that don't agree
abbrev unjudged : ℕ → ℕ → ℕ → Marks
unjudged kinds places companions = marks_in (replicate kinds 2) (replicate places 0) (replicate companions 0)

pub limits : text_in 1 (unjudged 81 81 81) 6144 ∷ text_in 1 (unjudged 81 81 81) 6143 ∷ text_in 1 (unjudged 999 999 999) 64896 ∷ text_in 1 (unjudged 1000 1000 1000) 64960 ∷ text_in 1 (unjudged 81 80 81) 6144 ∷ text_in 1 (unjudged 81 81 80) 6144 ∷ []
    ≡ map codes ("bundle 1\n" ∷ "" ∷ "bundle 1\n" ∷ "" ∷ "" ∷ "" ∷ [])
unfolding open-report
limits = refl

pub numbers : map decimal (0 ∷ 9 ∷ 10 ∷ 99 ∷ 100 ∷ 4294967295 ∷ 18446744073709551615 ∷ []) ≡ map codes ("0" ∷ "9" ∷ "10" ∷ "99" ∷ "100" ∷ "4294967295" ∷ "18446744073709551615" ∷ [])
unfolding open-report
numbers = refl
