-- What is shown and told, as the code finds it: one law for each way through a function.
-- Assumes nothing.
use Prim.Native.Nat.{ℕ, ◌+◌, ◌-◌, ◌*◌, ◌≤◌, ◌<◌}
use mathlib.Core.Path.{◌≡◌, ◌∙◌}
use mathlib.Core.Bool.{Bool, true, false, cond, ◌&&◌}
use mathlib.Core.List.{List, []}
use native.Mathlib.Omega.{arith}
use borrow.Author.Tests.{lt-ltb, le-ltb, le-leb, lt-leb, eq-eqb, ne_eqb}
use lib.ListN.{length, get_or}
use lib.Dec.{ltb, leb, eqb}
use Rattle.json_bytes.proofs.Laws.{either}
use Rattle.parts.specs.Files.{File, bytes_of}
use Rattle.mark_numbers.specs.declared.Mark.{Mark}
use Rattle.table_rows.specs.Rows.{cell_at}
use Rattle.rule_cells.specs.Cells.{Table, table, cell_of, start_of, is_given}
use Rattle.rule_shape.specs.declared.Rule.{Rule}
use Rattle.rule_shape.specs.Rule.{first_file_of, second_file_of}
use Rattle.rule_reason.specs.declared.Searched.{Searched}
use Rattle.rule_reason.specs.declared.Searched.TheVariants.{In, Nowhere}
use Rattle.rule_reason.specs.Reason.{deciding_field, searched_in}
use Rattle.reason_answer.specs.declared.Shown.{Shown}
use Rattle.reason_answer.specs.declared.Reason.{Reason}
use Rattle.reason_answer.specs.declared.Reason.TheVariants.{Holds, NotJudged, OwnMark, Broken, Missing}
use Rattle.reason_answer.specs.Reason.{shown_at}
use Rattle.found_marks.specs.Found.{count_in}
use Rattle.gate_marks.specs.Gate.{expected_in}
use Rattle.gate_marks.specs.Work.{cells_in}
use Rattle.reason.specs.Reason.{value_start, value_length, shown_of, broken_by, is_readable, lowest_of, unread_of, told_of}
use Rattle.reason.specs.Code.{kinds_in, table_found}

-- ---- a value's two cells
module _ (cells : List ℕ) (width r k : ℕ) where
  pub end-past-records : 4096 < r → 0 ≡ cell_of cells width r (2 * k + 1)
  unfolding cell_of
  end-past-records l = rw (lt-leb r 4096 l)

  module _ (few : r ≤ 4096) where
    pub end-too-wide : 128 < width → 0 ≡ cell_of cells width r (2 * k + 1)
    unfolding cell_of
    end-too-wide l = rw (le-leb r 4096 few, lt-leb width 128 l)

    module _ (narrow : width ≤ 128) where
      pub end-past-fields : 64 ≤ k → 0 ≡ cell_of cells width r (2 * k + 1)
      unfolding cell_of
      end-past-fields l = rw (le-leb r 4096 few, le-leb width 128 narrow, lt-leb (2 * k + 1) 128 (omega arith))

      pub end-there : k < 64 → {x : ℕ} → x ≡ cell_at cells width r (2 * k + 1) → x ≡ cell_of cells width r (2 * k + 1)
      unfolding cell_of cell_at
      end-there l e = rw (le-leb r 4096 few, le-leb width 128 narrow, le-leb (2 * k + 1) 128 (omega arith)) e

  -- a start is one of the cells
  pub start_small : (limit : ℕ) → 0 < limit → ((i : ℕ) → get_or cells i 0 < limit) → start_of cells width r k < limit
  unfolding start_of cell_of
  start_small limit l each =
      either (λ x. x < limit) (leb r 4096 && (leb width 128 && leb (2 * k) 128)) (get_or cells (r * width + 2 * k) 0) 0 (each (r * width + 2 * k)) l

  module _ {given : Bool} (given_is : given ≡ is_given cells width r k) where
    pub start-given : (offset : ℕ) {start : ℕ} → start ≡ start_of cells width r k → given ≡ true → offset + start ≡ value_start offset cells width r k
    unfolding value_start
    start-given offset start_is e = rw (← given_is, e, start_is)

    pub start-null : (offset : ℕ) → given ≡ false → 0 ≡ value_start offset cells width r k
    unfolding value_start
    start-null offset e = rw (← given_is, e)

    pub length-given : {end start length : ℕ} → end ≡ cell_of cells width r (2 * k + 1) → start ≡ start_of cells width r k → length ≡ end - start → given ≡ true → length ≡ value_length cells width r k
    unfolding value_length
    length-given end_is start_is length-is e = length-is ∙ rw (← given_is, e, end_is, start_is)

    pub length-null : given ≡ false → 0 ≡ value_length cells width r k
    unfolding value_length
    length-null e = rw (← given_is, e)

-- ---- what is shown of a broken rule
module _ (rule : Rule) (x : Mark) (offset : ℕ) (s cells : List ℕ) (width : ℕ) where
  pub shown-is : {r field start length file : ℕ} → r ≡ x.place - 1 → field ≡ deciding_field rule (table s cells width 0) r → start ≡ value_start offset cells width r field → length ≡ value_length cells width r field → file ≡ first_file_of rule
      → shown_at file x.place x.companion field start length ≡ shown_of rule offset (table s cells width 0) x
  unfolding shown_of
  shown-is r-is field_is start_is length-is file-is = rw (start_is, length-is, field_is, r-is, file-is)

module _ (forms fields work : List ℕ) (files : ℕ → File) (starts : ℕ → ℕ) (rule : Rule) (x : Mark) where
  pub shown-found : {file offset width : ℕ} {s cells : List ℕ} {shown : Shown} → file ≡ first_file_of rule → offset ≡ starts file → s ≡ bytes_of (files file) → cells ≡ cond (ltb file 32) (cells_in (expected_in forms fields [] []) work file) [] → width ≡ 2 * count_in forms fields file
      → shown ≡ shown_of rule offset (table s cells width 0) x → shown ≡ shown_of rule (starts (first_file_of rule)) (table_found forms fields files work (first_file_of rule)) x
  unfolding table_found
  shown-found file-is offset-is s-is cells_are width_is is = is ∙ rw (offset-is, s-is, cells_are, width_is, file-is)

module _ (rule : Rule) (shown : Shown) {searched : Searched} (searched-is : searched ≡ searched_in rule) where
  pub missing-is : (file : ℕ) → searched ≡ In file → Missing shown file ≡ broken_by (searched_in rule) shown
  unfolding broken_by
  missing-is file e = rw (← searched-is, e)

  pub broken-is : searched ≡ Nowhere → Broken shown ≡ broken_by (searched_in rule) shown
  unfolding broken_by
  broken-is e = rw (← searched-is, e)

-- ---- the file that can't be read
module _ (n : ℕ) (kinds : List ℕ) (k : ℕ) where
  pub no-file : n ≤ k → false ≡ is_readable n (kinds_in kinds) k
  unfolding is_readable
  no-file l = rw (le-ltb k n l)

  pub file-kind : k < n → {kind : ℕ} → kind ≡ get_or kinds k 0 → eqb kind 0 ≡ is_readable n (kinds_in kinds) k
  unfolding is_readable
  file-kind l e = rw (lt-ltb k n l, e)

module _ (readable : ℕ → Bool) (low high : ℕ) {t : Bool} (t-is : t ≡ readable low) where
  pub lowest-read : t ≡ true → high ≡ lowest_of readable low high
  unfolding lowest_of
  lowest-read e = rw (← t-is, e)

  pub lowest-unread : t ≡ false → low ≡ lowest_of readable low high
  unfolding lowest_of
  lowest-unread e = rw (← t-is, e)

module _ (n : ℕ) (kinds : List ℕ) (rule : Rule) {first second : ℕ} (first-is : first ≡ first_file_of rule) (second_is : second ≡ second_file_of rule) {file : ℕ} where
  pub unread-turned : second < first → file ≡ lowest_of (is_readable n (kinds_in kinds)) second first → file ≡ unread_of n (kinds_in kinds) rule
  unfolding unread_of
  unread-turned l e = rw (← first-is, ← second_is, lt-ltb second first l) e

  pub unread-order : first ≤ second → file ≡ lowest_of (is_readable n (kinds_in kinds)) first second → file ≡ unread_of n (kinds_in kinds) rule
  unfolding unread_of
  unread-order l e = rw (← first-is, ← second_is, le-ltb second first l) e

-- ---- what is told of a mark, by its kind
module _ (n m : ℕ) (rule : Rule) (offset : ℕ) (kind : ℕ → ℕ) (t : Table) (x : Mark) {found : Mark} (found-is : found ≡ x) where
  pub told-holds : found.kind ≡ 0 → Holds ≡ told_of n m rule offset kind t x
  unfolding told_of
  told-holds e = rw (← found-is, eq-eqb found.kind 0 e)

  module _ (some : found.kind ≡ 0 → ⊥) where
    pub told-own : m < n → OwnMark found.kind found.place found.companion ≡ told_of n m rule offset kind t x
    unfolding told_of
    told-own l = rw (← found-is, ne_eqb found.kind 0 some, lt-ltb m n l)

    module _ (l : n ≤ m) where
      pub told-unjudged : found.kind ≡ 2 → {file : ℕ} → file ≡ unread_of n kind rule → NotJudged file ≡ told_of n m rule offset kind t x
      unfolding told_of
      told-unjudged e file-is = rw (← found-is, ne_eqb found.kind 0 some, le-ltb m n l, eq-eqb found.kind 2 e, file-is)

      pub told-broken : (found.kind ≡ 2 → ⊥) → {shown : Shown} {told : Reason} → shown ≡ shown_of rule offset t found → told ≡ broken_by (searched_in rule) shown → told ≡ told_of n m rule offset kind t x
      unfolding told_of
      told-broken other shown-is is =
          is ∙ rw (← found-is, ne_eqb found.kind 0 some, le-ltb m n l, ne_eqb found.kind 2 other, shown-is)
