-- Demands 1 to 3 of this gate: the theorems of any gate, with its numbers. Document 02, order 9: "Refusals: 1 reads 36 in place of 164,
-- 2 reads 4, 4 reads over 3."
-- Assumes nothing.
use Prim.Native.Nat.{ℕ, ◌<◌}
use mathlib.Core.Path.{◌≡◌}
use mathlib.Core.Logic.{◌⊎◌}
use mathlib.Core.Bool.{true, false}
use mathlib.Core.List.{List}
use lib.ListN.{length}
use Rattle.bundle_bytes.specs.Words.{word_at}
use Rattle.parts.specs.Files.{File}
use Rattle.mark_numbers.specs.Marks.{Marks, mark_in}
use Rattle.bundle_layout.specs.Bundle.{header_size, laid_out, bundle_fault, bundle_of}
use Rattle.bundle_layout.specs.Change.{files_after, try_fault, make_fault}
use Rattle.gate_marks.specs.Gate.{reads_file}
use Rattle.gate_marks.specs.Marks.{mark_at}
use Rattle.gate_calls.specs.Calls.{answer, changed_marks, judgement, tried, change_made}
use Rattle.gate_calls.specs.Sequence.{Step, after}
use Rattle.gate_calls.proofs.Refusals as any
use Rattle.gate_calls.proofs.Demand3 as any3
use Rattle.contract.specs.Contract.{contract}
use Rattle.contract.proofs.Laws.{files-are, marks-are}

-- ---- the refusals, each only in its case
pub header_is : header_size contract.files ≡ 36
unfolding header_size
header_is = rw files-are

module _ (s : List ℕ) (k : ℕ) (f : File) (room : ℕ) where
  pub refused-1 : make_fault contract.files s k f room ≡ 1 → (length s < 36) ⊎ (1048576 < length s)
  refused-1 e = rw header_is at (any.refused-1 contract.files s k f room e)

  pub refused-2 : make_fault contract.files s k f room ≡ 2 → word_at s 0 ≡ 4 → ⊥
  refused-2 e = rw files-are at (any.refused-2 contract.files s k f room e)

  pub refused-3 : make_fault contract.files s k f room ≡ 3 → laid_out 4 s ≡ false
  refused-3 e = rw files-are at (any.refused-3 contract.files s k f room e)

  -- "4 reads over 3"
  pub refused-4 : make_fault contract.files s k f room ≡ 4 → 3 < k
  refused-4 e = rw files-are at (any.refused-4 contract.files s k f room e)

-- ---- after a change the marks that read its file are those of the files as they now stand, and the others come back
module _ (k : ℕ) (files : ℕ → File) (handed : Marks) (m : ℕ) (l : m < 19) where
  pub judged-again : reads_file contract m k ≡ true → mark_in (changed_marks contract k files handed) m ≡ mark_at contract m files
  judged-again = any3.judged-again contract k files handed m (rw marks-are l)

  pub handed-back : reads_file contract m k ≡ false → mark_in (changed_marks contract k files handed) m ≡ mark_in handed m
  handed-back = any3.handed-back contract k files handed m (rw marks-are l)

-- ---- a change of the right marks answers as a full judgement of the new bundle
module _ (s : List ℕ) (k : ℕ) (f : File) where
  pub try-is-judgement : try_fault contract.files s k f ≡ 0 → tried contract s k f (judgement contract s).marks ≡ judgement contract (bundle_of contract.files (files_after s k f))
  try-is-judgement = any3.try-is-judgement contract s k f

  pub make-is-judgement : (room : ℕ) → make_fault contract.files s k f room ≡ 0 → change_made contract s k f (judgement contract s).marks room ≡ judgement contract (bundle_of contract.files (files_after s k f))
  make-is-judgement = any3.make-is-judgement contract s k f

-- ---- and so after any number of changes, accepted and refused
pub always-judged : (s : List ℕ) → bundle_fault contract.files s ≡ 0 → (cs : List Step) (t : List ℕ) (marks : Marks) → after contract cs (record { bundle = s; marks = (judgement contract s).marks }) ≡ record { bundle = t; marks = marks } → judgement contract t ≡ answer 0 (length t) marks
always-judged = any3.always-judged contract
