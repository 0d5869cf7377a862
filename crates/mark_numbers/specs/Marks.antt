-- The marks of a set, however many: document 01 has them as a board of 81, "each a kind and a place", and document 02,
-- order 5, gives each a companion, the record that goes with it.
use Rattle.std.specs.Prelude.{ℕ, zero, suc, ◌+◌, Bool, cond, ◌&&◌, List, [], ◌∷◌, ◌++◌, length, get_or, set, eqb}
use Rattle.mark_numbers.specs.declared.Mark.{Mark}

-- a list by what stands at each of its first n places
unfoldable pub list_of : (ℕ → ℕ) → ℕ → List ℕ
list_of f zero = []
list_of f (suc n) = list_of f n ++ (f n ∷ [])

-- ---- Marks as lists, one for each number of a mark. Nothing outside this crate is said of one list without the others,
-- but for the kinds, by which alone it is decided whether a mark holds.
pub record Marks : Type 0 where
  pub kinds : List ℕ
  pub places : List ℕ
  pub companions : List ℕ

abbrev pub marks_in : List ℕ → List ℕ → List ℕ → Marks
marks_in kinds places companions = record { kinds = kinds; places = places; companions = companions }

-- the marks by their numbers, a mark by its number, and the marks with another at that number
unfoldable pub marks_from : ℕ → (ℕ → Mark) → Marks
marks_from n mark =
    marks_in (list_of (λ m. (mark m).kind) n) (list_of (λ m. (mark m).place) n) (list_of (λ m. (mark m).companion) n)

unfoldable pub mark_in : Marks → ℕ → Mark
mark_in marks m =
    record { kind = get_or marks.kinds m 0; place = get_or marks.places m 0; companion = get_or marks.companions m 0 }

unfoldable pub with_mark : Marks → ℕ → Mark → Marks
with_mark marks m x =
    marks_in (set marks.kinds m x.kind) (set marks.places m x.place) (set marks.companions m x.companion)

-- each list is of n marks
unfoldable pub have_length : ℕ → Marks → Bool
have_length n marks =
    eqb (length marks.kinds) n && (eqb (length marks.places) n && eqb (length marks.companions) n)

-- "Kind 0 place 0: holds." "Kind 2 place 0: not judged"; a mark of either kind has no companion
abbrev pub holds : Mark
holds = record { kind = 0; place = 0; companion = 0 }

abbrev pub not_judged : Mark
not_judged = record { kind = 2; place = 0; companion = 0 }

unfoldable pub fresh_marks : ℕ → Marks
fresh_marks n = marks_from n (λ m. not_judged)

-- the same over lists, where they are of one length; others as they were
unfoldable pub fresh_over : Marks → Marks
fresh_over marks = cond (have_length (length marks.kinds) marks) (fresh_marks (length marks.kinds)) marks

-- how many of the first m marks don't hold; "The set is accepted if all .. hold."
unfoldable pub faults_up_to : List ℕ → ℕ → ℕ
faults_up_to kinds zero = 0
faults_up_to kinds (suc m) = cond (eqb (get_or kinds m 0) 0) (faults_up_to kinds m) (faults_up_to kinds m + 1)

unfoldable pub faults_in : List ℕ → ℕ
faults_in kinds = faults_up_to kinds (length kinds)
