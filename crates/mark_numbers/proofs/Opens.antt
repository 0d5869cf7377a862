-- One name opens every definition of this crate, for tests that compute: a definition that is
-- added here asks nothing of those above.
use mathlib.Core.Bool.{Bool, true}
use Rattle.mark_numbers.specs.Marks.{list_of, marks_from, mark_in, with_mark, have_length, fresh_marks, faults_up_to, faults_in}

unfoldable pub open-marks : Bool
unfolding list_of marks_from mark_in with_mark have_length fresh_marks faults_up_to faults_in
open-marks = true
