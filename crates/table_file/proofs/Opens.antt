-- One name opens every definition of this crate and of those below it, for tests that compute: a definition that is
-- added here asks nothing of those above.
use mathlib.Core.Bool.{Bool, true}
use Rattle.table_record.proofs.Opens.{open-records}
use Rattle.table_file.specs.File.{omitted, fixed_read, read_as, file_of, form_from}
use Rattle.table_file.specs.Table.{names_record, companion_of, end_of_file, single_read, single_of, single_at, element_at, elements_from, elements_of, array_at, read_table}

unfoldable pub open-files : Bool
unfolding open-records omitted fixed_read read_as file_of form_from names_record companion_of end_of_file single_read single_of single_at element_at elements_from elements_of array_at read_table
open-files = true
