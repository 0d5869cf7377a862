-- A gate as one value: the files of a set, what each has to be, and the rules in the order of their marks. Every definition
-- above takes it as a parameter. Document 01's gate is one such value, and so is that of another document.
use Rattle.std.specs.Prelude.{ℕ, ◌+◌, ◌-◌, ◌/◌, Bool, false, cond, List, [], length, get_or, ltb, eqb}
use Rattle.table_rows.specs.Rows.{cell_at, fields_in}
use Rattle.table_file.specs.File.{Expected, expected_from}
use Rattle.rule_shape.specs.declared.Rule.{Rule}
use Rattle.rule_shape.specs.Rule.{reads, rule_from}

pub record Gate : Type 0 where
  -- how many files a set has, and what each has to be
  pub files : ℕ
  pub expected : ℕ → Expected
  -- how many rules there are, and each
  pub rules : ℕ
  pub rule : ℕ → Rule
  -- the enumeration values that rules name: where each stands, and the texts
  pub values : List ℕ
  pub texts : List ℕ

-- a gate by its lists; what stands past them is never looked at
unfoldable pub gate_of : List Expected → List Rule → List ℕ → List ℕ → Gate
gate_of files rules values texts =
    record {
      files = length files;
      expected = λ k. get_or files k (expected_from 0 false [] []);
      rules = length rules;
      rule = λ i. get_or rules i (rule_from [] 0);
      values = values;
      texts = texts;
    }

-- ---- "A board is .. marks": those of the files, in the order of their numbers, and behind them those of the rules
unfoldable pub marks_of : Gate → ℕ
marks_of g = g.files + g.rules

abbrev pub rule_of_mark : Gate → ℕ → Rule
rule_of_mark g m = g.rule (m - g.files)

-- "A rule reads only the files named in its line.", the one whose records it judges and the one that it looks into; a
-- file's own mark reads that file. Of n files' marks and those of the rules:
unfoldable pub mark_reads : ℕ → (ℕ → Rule) → ℕ → ℕ → Bool
mark_reads n rule m k = cond (ltb m n) (eqb m k) (reads (rule (m - n)) k)

abbrev pub reads_file : Gate → ℕ → ℕ → Bool
reads_file g m k = mark_reads g.files g.rule m k

-- ---- The gate that lent tables describe, as the code has them: two numbers a file, its form and whether it must be there;
-- the fields of all files with their names; the text of a file that is a fixed one; nine numbers a rule; and the values
unfoldable pub expected_in : List ℕ → List ℕ → List ℕ → List ℕ → ℕ → Expected
expected_in forms fields names fixed k =
    expected_from (cell_at forms 2 k 0) (eqb (cell_at forms 2 k 1) 1) fixed (fields_in fields names k)

unfoldable pub gate_from : List ℕ → List ℕ → List ℕ → List ℕ → List ℕ → List ℕ → List ℕ → Gate
gate_from forms fields names fixed rules values texts =
    record {
      files = length forms / 2;
      expected = expected_in forms fields names fixed;
      rules = length rules / 9;
      rule = rule_from rules;
      values = values;
      texts = texts;
    }
