-- The cases of order 9's readings as one statement over their list: the definitions answer what is stated, by computation. What a
-- changed file touches, 9.10, is computed in contract_rules.
-- Assumes nothing.
use mathlib.Core.Path.{◌≡◌, refl}
use mathlib.Core.List.{[], ◌∷◌, map}
use Rattle.table_file.proofs.Opens.{open-files}
use Rattle.rules.proofs.Opens.{open-rules}
use Rattle.contract_rules.proofs.Opens.{open-contract-rows}
use Rattle.bundle_bytes.specs.Words.{word_at}
use Rattle.bundle_layout.specs.Bundle.{header_size, offset_at, length_at, is_omitted, end_of, stands_right, laid_out_from, laid_out, bundle_fault}
use Rattle.parts.specs.Files.{bytes_of}
use Rattle.gate_marks.specs.Gate.{gate_of}
use Rattle.gate_marks.specs.Marks.{mark_read}
use Rattle.schedule.specs.Schedule.{free}
use Rattle.contract.specs.Contract.{contract_files, contract}
use Rattle.reason_meaning.specs.Cases.{file_in}
use Rattle.contract_meaning.specs.Cases.{reading, table_here, mark_here, lines_from, lines_of, element, under, one, two_records, three_records, account, Case, cases, headers}

pub contract-cases : map (λ (c : Case). lines_of c.files) cases ≡ map (λ (c : Case). c.stated) cases
unfolding open-files open-rules open-contract-rows gate_of free contract_files contract bytes_of mark_read file_in reading table_here mark_here lines_from lines_of element under one two_records three_records account cases
contract-cases = refl

-- "1 reads 36 in place of 164, 2 reads 4"
pub contract-refusals : map (bundle_fault contract.files) headers ≡ 1 ∷ 2 ∷ 3 ∷ 0 ∷ []
unfolding gate_of contract_files contract word_at header_size offset_at length_at is_omitted end_of stands_right laid_out_from laid_out bundle_fault headers
contract-refusals = refl
