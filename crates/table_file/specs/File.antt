-- The mark of a file by what is expected of it, document 01, "Marks 0 to 19: the file itself". A file that may be left out
-- is judged with the others.
use Rattle.std.specs.Prelude.{ℕ, Bool, true, false, cond, List, eqb}
use Rattle.parts.specs.Files.{File, Left, Given}
use Rattle.json_same.specs.Same.{same_list}
use Rattle.table_rows.specs.Rows.{Field}
use Rattle.table_file.specs.declared.FileRead.{FileRead}
use Rattle.table_file.specs.Table.{TableRead, table_read, file_holds, fault, read_table}

-- what a file is to be: exactly these bytes, an object with these fields, or an array of such objects
pub data Form : Type 0 where
  Fixed : List ℕ → Form
  Single : List Field → Form
  Records : List Field → Form

pub record Expected : Type 0 where
  pub form : Form
  pub required : Bool

-- 21: a required file omitted; "Any other omitted file holds and has no records."
unfoldable pub omitted : Bool → FileRead
omitted required = cond required (fault 21 0 0) (file_holds 0)

-- 22: the file "isn't exactly" the text; only 21 and 22 concern such a file
unfoldable pub fixed_read : List ℕ → List ℕ → FileRead
fixed_read text s = cond (same_list s text) (file_holds 0) (fault 22 0 0)

unfoldable pub read_as : Form → List ℕ → List ℕ → TableRead
read_as (Fixed text) s cells = table_read cells (fixed_read text s)
read_as (Single fields) s cells = read_table true fields s cells
read_as (Records fields) s cells = read_table false fields s cells

unfoldable pub file_of : Expected → File → List ℕ → TableRead
file_of e Left cells = table_read cells (omitted e.required)
file_of e (Given s) cells = read_as e.form s cells

-- ---- How code is told what is expected: the form is 0 for records, 1 for a single object, and any other number for the
-- fixed text
unfoldable pub form_from : ℕ → List ℕ → List Field → Form
form_from form text fields = cond (eqb form 0) (Records fields) (cond (eqb form 1) (Single fields) (Fixed text))

abbrev pub expected_from : ℕ → Bool → List ℕ → List Field → Expected
expected_from form required text fields = record { form = form_from form text fields; required = required }
