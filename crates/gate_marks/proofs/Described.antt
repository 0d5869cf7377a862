-- Lent tables describe a gate: what each of its files has to be and each of its rules are read back from them.
-- Assumes nothing.
use Prim.Native.Nat.{ℕ, ◌*◌, ◌/◌, ◌≤◌, ◌<◌}
use native.Mathlib.Nat.{mul-div_cancel}
use mathlib.Core.Path.{◌≡◌, refl, sym, ap, ◌∙◌, fun_ext}
use mathlib.Core.Bool.{Bool, true, false}
use mathlib.Core.List.{List, [], map}
use native.Mathlib.Omega.{arith}
use borrow.Author.Tests.{ltb-true, ltb-false}
use lib.ListN.{length, get_or, get_or-eq_default}
use lib.Dec.{ltb, eqb}
use Rattle.table_rows.specs.Rows.{Field, cell_at, fields_in}
use Rattle.table_rows.proofs.Laws.{up_from, each}
use Rattle.table_file.specs.File.{Expected, form_from, expected_from}
use Rattle.rule_shape.specs.declared.Rule.{Rule}
use Rattle.rule_shape.specs.Rule.{rule_from, rules_in}
use Rattle.rule_shape.proofs.Laws.{rule-at}
use Rattle.gate_marks.specs.Gate.{Gate, gate_of, expected_in, gate_from}

below_or_not : (P : ℕ → Type 0) (n : ℕ) → ((k : ℕ) → k < n → P k) → ((k : ℕ) → n ≤ k → P k) → (k : ℕ) → P k
below_or_not P n below past k = go (ltb k n) refl
  where
    go : (t : Bool) → ltb k n ≡ t → P k
    go true e = below k (ltb-true k n e)
    go false e = past k (ltb-false k n e)

abbrev pub none : Expected
none = expected_from 0 false [] []

-- ---- the files, by two numbers each and the fields of each
module _ (forms fixed : List ℕ) (fields_of : ℕ → List Field) where
  unfoldable pub filed : ℕ → Expected
  filed k = expected_from (cell_at forms 2 k 0) (eqb (cell_at forms 2 k 1) 1) fixed (fields_of k)

-- what is known of them: how many there are, their fields, and that the first n are as they have to be
pub record Files (files : List Expected) (forms fields names fixed : List ℕ) (fields_of : ℕ → List Field) (n : ℕ) : Type 0 where
  pub files-long : length files ≡ n
  pub forms-long : length forms ≡ n * 2
  pub fields_back : (k : ℕ) → fields_in fields names k ≡ fields_of k
  pub no_fields : (k : ℕ) → n ≤ k → fields_of k ≡ []
  pub below : map (filed forms fixed fields_of) (up_from 0 n) ≡ map (λ k. get_or files k none) (up_from 0 n)

module _ {files : List Expected} {forms fields names fixed : List ℕ} {fields_of : ℕ → List Field} {n : ℕ} (known : Files files forms fields names fixed fields_of n) where
  no-form : (k j : ℕ) → n ≤ k → cell_at forms 2 k j ≡ 0
  unfolding cell_at
  no-form k j l = get_or-eq_default forms 0 (omega (arith, known.forms-long))

  files-past : (k : ℕ) → n ≤ k → filed forms fixed fields_of k ≡ get_or files k none
  unfolding filed form_from
  files-past k l =
      rw (no-form k 0 l, no-form k 1 l, known.no_fields k l) (sym (get_or-eq_default files none (omega (arith, known.files-long))))

  file-is : (k : ℕ) → expected_in forms fields names fixed k ≡ get_or files k none
  unfolding expected_in filed
  file-is k =
      rw (known.fields_back k)
      (below_or_not (λ k. filed forms fixed fields_of k ≡ get_or files k none) n (each (filed forms fixed fields_of) (λ k. get_or files k none) n known.below) files-past k)

  forms-count : length forms / 2 ≡ n
  forms-count = rw (known.forms-long, mul-div_cancel n {n = 2} (omega arith))

  -- ---- rules that rows of nine numbers decode to
  module _ (rules : List Rule) (rows : List ℕ) (m : ℕ) (rules-long : length rules ≡ m) (rows_long : length rows ≡ m * 9) (decode : rules_in rows ≡ rules) where
    rows-count : length rows / 9 ≡ m
    rows-count = rw (rows_long, mul-div_cancel m {n = 9} (omega arith))

    no_row : (i j : ℕ) → m ≤ i → cell_at rows 9 i j ≡ 0
    unfolding cell_at
    no_row i j l = get_or-eq_default rows 0 (omega (arith, rows_long))

    rules-past : (i : ℕ) → m ≤ i → rule_from rows i ≡ get_or rules i (rule_from [] 0)
    unfolding rule_from cell_at
    rules-past i l =
        rw (no_row i 0 l, no_row i 1 l, no_row i 2 l, no_row i 3 l, no_row i 4 l, no_row i 5 l, no_row i 6 l, no_row i 7 l, no_row i 8 l)
        (sym (get_or-eq_default rules (rule_from [] 0) (omega (arith, rules-long))))

    rule-is : (i : ℕ) → rule_from rows i ≡ get_or rules i (rule_from [] 0)
    rule-is =
        below_or_not (λ i. rule_from rows i ≡ get_or rules i (rule_from [] 0)) m
        (λ i l. sym (rule-at rows (rule_from [] 0) i (rw rows-count l)) ∙ ap (λ r. get_or r i (rule_from [] 0)) decode)
        rules-past

    -- ---- the gate of those files by those rules
    pub described : (values texts : List ℕ) → gate_from forms fields names fixed rows values texts ≡ gate_of files rules values texts
    unfolding gate_from gate_of
    described values texts =
        rw (forms-count, known.files-long, rows-count, rules-long)
        (ap (λ (e : ℕ → Expected). made e (rule_from rows)) (fun_ext file-is) ∙ ap (λ (r : ℕ → Rule). made (λ k. get_or files k none) r) (fun_ext rule-is))
      where
        made : (ℕ → Expected) → (ℕ → Rule) → Gate
        made e r = record { files = n; expected = e; rules = m; rule = r; values = values; texts = texts }
