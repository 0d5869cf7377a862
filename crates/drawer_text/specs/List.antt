-- A drawer as a text: a line for each file that it holds, in the order of their numbers; a line for each gap, in the order of
-- their places; and how many bytes are free. Every line ends in a line feed.
use Rattle.std.specs.Prelude.{ℕ, zero, suc, ◌+◌, ◌-◌, Bool, cond, not, ◌||◌, List, [], ◌++◌, length, eqb}
use Rattle.json_bytes.specs.Ascii.{codes}
use Rattle.bundle_bytes.specs.Pieces.{joined}
use Rattle.bundle_layout.specs.Bundle.{header_size, offset_at, length_at, is_omitted}
use Rattle.drawer_layout.specs.Places.{is_free, all_lengths}
use Rattle.drawer_held.specs.Drawer.{offsets_of, lengths_of, drawer_fault}
use Rattle.file_names.specs.Names.{file_name}
use Rattle.output.specs.Decimal.{decimal}
use Rattle.report.specs.Report.{refusal_text}

-- ---- Files
-- a file's number, name, offset and length; nothing for an omitted one
unfoldable pub held_line : List ℕ → ℕ → List ℕ
held_line d k =
    cond (is_omitted d k) []
    (decimal k ++ codes " " ++ file_name k ++ codes " " ++ decimal (offset_at d k) ++ codes " " ++ decimal (length_at d k) ++ codes "\n")

-- ---- Gaps, over the offsets and the lengths of n files
-- how many bytes from p on are in no file, one behind the other, of the m that there are
unfoldable pub free_run : ℕ → List ℕ → List ℕ → ℕ → ℕ → ℕ
free_run n offs lens zero p = 0
free_run n offs lens (suc m) p = cond (is_free offs lens p 1 n) (suc (free_run n offs lens m (suc p))) 0

-- whether no gap goes on at p: the byte before it is the header's last, or a file has it
unfoldable pub opens_gap : ℕ → List ℕ → List ℕ → ℕ → Bool
opens_gap n offs lens p = eqb p (header_size n) || not (is_free offs lens (p - 1) 1 n)

-- a gap's offset and length; one of length 0 is none
unfoldable pub gap_line : ℕ → ℕ → List ℕ
gap_line p zero = []
gap_line p (suc n) = codes "gap " ++ decimal p ++ codes " " ++ decimal (suc n) ++ codes "\n"

-- the gaps in the m bytes from p on
unfoldable pub gap_lines : ℕ → List ℕ → List ℕ → ℕ → ℕ → List ℕ
gap_lines n offs lens zero p = []
gap_lines n offs lens (suc m) p =
    cond (opens_gap n offs lens p) (gap_line p (free_run n offs lens (suc m) p)) [] ++ gap_lines n offs lens m (suc p)

-- ---- The whole text
-- what is left of a drawer's bytes without the header and all files
unfoldable pub free_bytes : List ℕ → ℕ
free_bytes d = length d - (header_size 20 + all_lengths 20 (lengths_of 20 d))

unfoldable pub free_line : List ℕ → List ℕ
free_line d = codes "free " ++ decimal (free_bytes d) ++ codes " of " ++ decimal (length d) ++ codes "\n"

unfoldable pub drawer_text : List ℕ → List ℕ
drawer_text d =
    joined (held_line d) 20 ++
    gap_lines 20 (offsets_of 20 d) (lengths_of 20 d) (length d - header_size 20) (header_size 20) ++
    free_line d

-- of a drawer that is refused, its refusal
unfoldable pub list_text : List ℕ → List ℕ
list_text d = cond (eqb (drawer_fault 20 d) 0) (drawer_text d) (refusal_text (drawer_fault 20 d))

-- what is told of a change of file k: where it stands now, unless it was withdrawn, and how many bytes are free
unfoldable pub change_text : List ℕ → ℕ → List ℕ
change_text d k = held_line d k ++ free_line d
