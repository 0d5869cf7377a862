-- The quarter's totals as a text: "four elements by six columns", each element a line, and below them a line of "each column's grand
-- total". The elements and the columns have their names of document 002. The same lines are a table, with columns of one width,
-- and comma-separated values, with none.
use Rattle.std.specs.Prelude.{ℕ, zero, suc, ◌+◌, ◌-◌, cond, List, ◌++◌, length, replicate, ltb, ℤ}
use Rattle.exact_sums.specs.Sums.{whole_at}
use Rattle.json_bytes.specs.Ascii.{codes}
use Rattle.bundle_bytes.specs.Pieces.{joined}
use Rattle.quarter_text.specs.Figure.{figure}

unfoldable pub spaces : ℕ → List ℕ
spaces n = replicate n 32

-- ---- Lines
-- behind a separator, to the right of so many places
unfoldable pub cell : List ℕ → ℕ → List ℕ → List ℕ
cell between wide text = between ++ spaces (wide - length text) ++ text

-- the figures of a line: six from a place of a list on
unfoldable pub cell_text : List ℕ → ℕ → List ℤ → ℕ → ℕ → List ℕ
cell_text between wide list from c = cell between wide (figure (whole_at list (from + c)))

unfoldable pub cells : List ℕ → ℕ → List ℤ → ℕ → ℕ → List ℕ
cells between wide list from n = joined (cell_text between wide list from) n

-- behind a name, to the left of so many places
unfoldable pub table_line : ℕ → List ℕ → ℕ → List ℕ → List ℤ → ℕ → List ℕ
table_line names between wide name list from =
    name ++ spaces (names - length name) ++ cells between wide list from 6 ++ codes "\n"

unfoldable pub lines : ℕ → List ℕ → ℕ → List ℤ → List ℤ → List ℕ
lines names between wide totals grand =
    table_line names between wide (codes "LABOR") totals 0 ++
    table_line names between wide (codes "MATERIAL") totals 6 ++
    table_line names between wide (codes "OTHER_DIRECT_COSTS") totals 12 ++
    table_line names between wide (codes "SUBCONTRACT") totals 18 ++
    table_line names between wide (codes "all") grand 0

-- ---- Comma-separated values
unfoldable pub column_names : List ℕ
column_names =
    codes "Element,Budget_AtCompletion_Dollars,Budget_AtCompletion_Hours,Estimate_ToComplete_Dollars,Estimate_ToComplete_Hours,Actual_ToDate_Dollars,Actual_ToDate_Hours\n"

unfoldable pub comma_text : List ℤ → List ℤ → List ℕ
comma_text totals grand = column_names ++ lines 0 (codes ",") 0 totals grand

-- ---- A table
-- as wide as the longest figure, and as the longest word above it
unfoldable pub larger : ℕ → ℕ → ℕ
larger a b = cond (ltb a b) b a

unfoldable pub longest_to : List ℤ → ℕ → ℕ
longest_to list zero = 12
longest_to list (suc n) = larger (longest_to list n) (length (figure (whole_at list n)))

unfoldable pub longest : List ℤ → ℕ
longest list = longest_to list (length list)

unfoldable pub width : List ℤ → List ℤ → ℕ
width totals grand = larger (longest totals) (longest grand)

-- the names of the columns, a part on each of three lines; 18 places are left for those of the elements
unfoldable pub pair : ℕ → List ℕ → List ℕ → List ℕ
pair wide a b = cell (codes "  ") wide a ++ cell (codes "  ") wide b

unfoldable pub heading : ℕ → List ℕ → List ℕ → List ℕ → List ℕ → List ℕ → List ℕ → List ℕ
heading wide a b c d e f = spaces 18 ++ pair wide a b ++ pair wide c d ++ pair wide e f ++ codes "\n"

unfoldable pub headings : ℕ → List ℕ
headings wide =
    heading wide (codes "Budget") (codes "Budget") (codes "Estimate") (codes "Estimate") (codes "Actual") (codes "Actual") ++
    heading wide (codes "AtCompletion") (codes "AtCompletion") (codes "ToComplete") (codes "ToComplete") (codes "ToDate") (codes "ToDate") ++
    heading wide (codes "Dollars") (codes "Hours") (codes "Dollars") (codes "Hours") (codes "Dollars") (codes "Hours")

unfoldable pub table_text : List ℤ → List ℤ → List ℕ
table_text totals grand =
    headings (width totals grand) ++ lines 18 (codes "  ") (width totals grand) totals grand
