-- What the mark of a table or singleton says of its bytes as JSON, for any fields, any bytes and any cells. Kind 99, no room
-- for a record's cells, is no mark of a set: it stands where the other kinds from 12 on stand, and is one of them here.
-- Assumes nothing.
use Prim.Native.Nat.{ℕ, ◌≤◌}
use mathlib.Core.Path.{◌≡◌}
use mathlib.Core.Logic.{⊎_elim}
use mathlib.Core.Bool.{Bool}
use mathlib.Core.List.{List}
use native.Mathlib.Omega.{arith}
use lib.ListN.{length, take}
use lib.Seq.{take-length}
use Rattle.table_rows.specs.Rows.{Field}
use Rattle.table_file.specs.declared.FileRead.{FileRead}
use Rattle.table_file.specs.Table.{read_table}
use Rattle.grammar.specs.Grammar.{Bytes, Text, Begins}
use Rattle.grammar.specs.Claims.{StopsAt, BrokenAt}
use Rattle.grammar_machine.proofs.Machine.{a_text}
use Rattle.grammar_machine.proofs.Places.{through}
use Rattle.grammar_machine.proofs.Tokens.{Told}
use Rattle.grammar_machine.proofs.Facts.{text-reads, told-broken, told-stops, told-begins, told-kind, told-place}
use Rattle.grammar_files.proofs.Files.{table-marked}

module _ (single : Bool) (fields : List Field) (s : Bytes) (cells : List ℕ) where
  abbrev mark : FileRead
  mark = (read_table single fields s cells).read

  told : (mark.kind ≡ 0 → ⊥) → Told a_text 0 s mark.kind mark.place
  told n = ⊎_elim (λ h. absurd (n h.0)) (λ t. t) (table-marked s fields single cells)

  -- mark 0: the whole file is a JSON text
  pub holds_text : mark.kind ≡ 0 → Text s
  holds_text e =
      ⊎_elim (λ h. rw (take-length s) at (through text-reads h.1.done)) (λ t. absurd (omega (arith, told-kind t)))
      (table-marked s fields single cells)

  -- kind 11: the bytes before the place begin some JSON text, with the byte there none does, and the file is none
  pub stops-there : mark.kind ≡ 11 → StopsAt Text s 0 mark.place
  stops-there e = told-stops text-reads (told (omega arith)) e

  -- kind 10: a place inside a string, where no character begins
  pub broken-there : mark.kind ≡ 10 → BrokenAt Text s 0 mark.place
  broken-there e = told-broken text-reads (told (omega arith)) e

  -- every kind from 12 on: the bytes before the place begin some JSON text
  pub begins-there : 12 ≤ mark.kind → Begins Text (take mark.place s)
  begins-there h = told-begins text-reads (told (omega arith)) h

  -- a JSON text has neither kind 10 nor kind 11
  pub text-passes : Text s → (mark.kind ≡ 10 → ⊥) × (mark.kind ≡ 11 → ⊥)
  text-passes t = (λ e. (broken-there e).not_whole t, λ e. (stops-there e).not_whole t)

  -- every place is within the file or its length
  pub place-within : mark.place ≤ length s
  place-within = ⊎_elim (λ h. omega (arith, h.1.nowhere)) (λ t. told-place t) (table-marked s fields single cells)
