-- Which kinds a mark of this gate can be. Document 02, order 9: "all four files are arrays, kinds 21 and 22 aren't given".
-- Assumes nothing.
use Prim.Native.Nat.{ℕ, ◌<◌}
use mathlib.Core.Path.{◌≡◌, refl}
use mathlib.Core.Bool.{false}
use mathlib.Core.List.{List, [], ◌∷◌, map, flat_map}
use lib.ListN.{get_or}
use Rattle.json_bytes.specs.Reads.{within}
use Rattle.json_bytes.proofs.FaultKinds.{is_in, In, below}
use Rattle.parts.specs.Files.{File}
use Rattle.table_rows.specs.Rows.{Field}
use Rattle.table_rows.proofs.Laws.{up_from, each}
use Rattle.table_value.specs.Value.{text_type}
use Rattle.contract_fields.specs.Fields.{contract_fields_of}
use Rattle.gate_marks.specs.Gate.{gate_of}
use Rattle.gate_marks.specs.Marks.{mark_at}
use Rattle.gate_marks.proofs.MarkKinds.{Small, array_kinds, free_array, array-mark-kinds}
use Rattle.gate_marks.proofs.Described.{none}
use Rattle.schedule.specs.Schedule.{free}
use Rattle.contract.specs.Contract.{contract_files, contract}
use Rattle.contract.proofs.Laws.{files-are}

-- each file is an array that may be left out
arrays-below : map (λ k. get_or contract_files k none) (up_from 0 4) ≡ map (λ k. free_array (contract_fields_of k)) (up_from 0 4)
unfolding up_from contract_files free
arrays-below = refl

are-arrays : (k : ℕ) → k < contract.files → (fields : List Field) × (contract.expected k ≡ free_array fields)
unfolding contract gate_of
are-arrays k l =
    (contract_fields_of k, each (λ k. get_or contract_files k none) (λ k. free_array (contract_fields_of k)) 4 arrays-below k (rw files-are at l))

pub kinds-are : (files : ℕ → File) → Small contract files → (m : ℕ) → In array_kinds (mark_at contract m files).kind
kinds-are files small m = array-mark-kinds contract files small are-arrays m

-- 21 and 22 are none of them
pub never-given : map (is_in array_kinds) (21 ∷ 22 ∷ []) ≡ false ∷ false ∷ []
unfolding below flat_map within text_type
never-given = refl
