-- What holds of every end that the reading of a table can come to holds of the table: one induction over its elements, for
-- all that is said of a table's reading whatever its bytes.
-- Assumes nothing.
use Rattle.std.specs.Prelude.{Ok, Err}
use Prim.Native.Nat.{ℕ, zero, suc, ◌+◌, ◌*◌, ◌≤◌, ◌<◌}
use mathlib.Core.Path.{◌≡◌, refl, ◌∙◌}
use mathlib.Core.Bool.{Bool, cond}
use mathlib.Core.List.{List}
use native.Mathlib.Nat.{zero-mul}
use native.Mathlib.Omega.{arith}
use borrow.Author.Tests.{ltb-true}
use lib.ListN.{length}
use lib.Dec.{ltb, eqb}
use Rattle.json_bytes.specs.Reads.{byte_at, spaces_end, Reading, fault_at}
use Rattle.json_bytes.proofs.Laws.{by-test, either}
use Rattle.json_bytes.proofs.Bounds.{Within, spaces-within}
use Rattle.table_rows.specs.Rows.{Field}
use Rattle.table_value.specs.Value.{opens, token_at, not_object_of, not_object_at}
use Rattle.table_name.specs.Name.{first_in, next_after}
use Rattle.table_name.specs.declared.Next.{Next}
use Rattle.table_name.specs.declared.Next.TheVariants.{More, Ends, Neither}
use Rattle.table_record.specs.Record.{Filled, cells_filled, record_at}
use Rattle.table_record.proofs.Bounds.{NextIn, next-in, first-in, record-in}
use Rattle.table_file.specs.Table.{
  fault,
  TableRead,
  table_read,
  end_of_file,
  single_read,
  single_of,
  single_at,
  element_at,
  elements_from,
  elements_of,
  array_at,
  read_table,
}
use Rattle.table_file.proofs.Laws.{element-in}

-- ---- an element: one that is read whole stands behind fewer than 4,096 records
abbrev pub Below : ℕ → Reading → Type 0
Below r (Ok end) = r < 4096
Below r (Err e) = Unit {0}

below_all : (r : ℕ) (o : Reading) → r < 4096 → Below r o
below_all r (Ok end) l = l
below_all r (Err e) l = tt

-- where no object stands nothing is read whole
pub below_other : (s : List ℕ) (at r : ℕ) → Below r (not_object_at s at)
unfolding not_object_at not_object_of
below_other s at r = either (Below r) (opens (byte_at s at)) _ _ tt (go (token_at s at))
  where
    go : (t : Reading) → Below r (not_object_of at t)
    go (Ok end) = tt
    go (Err e) = tt

-- ---- The ends, with cells as many as these: a fault, of which Q holds if it holds of what each element answers, or the end
-- of the file; no more than `most` records are read.
pub record Ways (most : ℕ) (fields : List Field) (s cells : List ℕ) (Q : Reading → Type 0) (P : TableRead → Type 0) : Type 0 where
  pub of-record : (at : ℕ) (now : List ℕ) (r : ℕ) → length now ≡ length cells → r < most → Q (record_at fields s at now (r * (2 * length fields))).outcome
  pub of_other : (at : ℕ) → Q (not_object_at s at)
  pub of-many : (at : ℕ) → Q (fault_at 20 at)
  pub of-stop : (at : ℕ) → Q (fault_at 11 at)
  pub of-fault : (then : List ℕ) (kind place r : ℕ) → length then ≡ length cells → Q (fault_at kind place) → P (table_read then (fault kind place r))
  pub of_end : (then : List ℕ) (at records : ℕ) → length then ≡ length cells → records ≤ 4096 → P (table_read then (end_of_file s at records))

-- an element, with these cells before
record Element (cells : List ℕ) (Q : Reading → Type 0) (r : ℕ) (f : Filled) : Type 0 where
  same : length f.cells ≡ length cells
  below : Below r f.outcome
  answers : Q f.outcome

module _ (most : ℕ) (fields : List Field) (s cells : List ℕ) (Q : Reading → Type 0) (P : TableRead → Type 0) (ways : Ways most fields s cells Q P) where
  single-holds : (f : Filled) → length f.cells ≡ length cells → Q f.outcome → P (single_of s f)
  unfolding single_of single_read
  single-holds f e = go f.outcome
    where
      go : (r : Reading) → Q r → P (table_read f.cells (single_read s r))
      go (Ok end) h = ways.of_end f.cells end 1 e (omega arith)
      go (Err x) h = ways.of-fault f.cells x.kind x.place 1 e h

  module _ (table : 4096 ≤ most) where
    element-is : (at : ℕ) (now : List ℕ) (r : ℕ) → at ≤ length s → length now ≡ length cells → Element cells Q r (element_at fields s at now r)
    unfolding element_at
    element-is at now r l e =
        either (Element cells Q r) (eqb (byte_at s at) 123) _ _
        (by-test (Element cells Q r) (ltb r 4096) _ _
        (λ few. record {
          same = (record-in fields s (r * (2 * length fields)) now at l).kept.length-same ∙ e;
          below = below_all r (record_at fields s at now (r * (2 * length fields))).outcome (ltb-true r 4096 few);
          answers = ways.of-record at now r e (omega (arith, ltb-true r 4096 few));
        })
        (λ _. record { same = e; below = tt; answers = ways.of-many at }))
        (record { same = e; below = below_other s at r; answers = ways.of_other at })

    -- what follows an element, by what stands behind it
    module _ (n : ℕ) (then : List ℕ) (r : ℕ) (same : length then ≡ length cells) (rest : (next : ℕ) → next ≤ length s → P (elements_from n fields s next then (r + 1))) where
      next-holds : (end : ℕ) → r < 4096 → (x : Next) → NextIn s end x → P (elim x [ More next ↦ elements_from n fields s next then (r + 1) | Ends last ↦ table_read then (end_of_file s (last + 1) (r + 1)) | Neither place ↦ table_read then (fault 11 place 0) ])
      next-holds end l (More next) h = rest next h.1
      next-holds end l (Ends last) h = ways.of_end then (last + 1) (r + 1) same (omega arith)
      next-holds end l (Neither place) h = ways.of-fault then 11 place 0 same (ways.of-stop place)

      turn_holds : (at : ℕ) (o : Reading) → Below r o → Q o → Within s at o → P (elim o [
        | Ok end ↦
            elim (next_after s end 93) [
              | More next ↦ elements_from n fields s next then (r + 1)
              | Ends last ↦ table_read then (end_of_file s (last + 1) (r + 1))
              | Neither place ↦ table_read then (fault 11 place 0)
            ]
        | Err e ↦ table_read then (fault e.kind e.place (r + 1))
      ])
      turn_holds at (Ok end) b q w =
          next-holds end b (next_after s end 93) (next-in s end w.1 93 (omega arith))
      turn_holds at (Err e) b q w = ways.of-fault then e.kind e.place (r + 1) same q

    elements-hold : (n at : ℕ) (now : List ℕ) (r : ℕ) → at ≤ length s → length now ≡ length cells → P (elements_from n fields s at now r)
    unfolding elements_from
    elements-hold zero at now r l e = ways.of-fault now 11 at 0 e (ways.of-stop at)
    elements-hold (suc n) at now r l e =
        let element = element_at fields s at now r in
        let is = element-is at now r l e in
        turn_holds n element.cells r is.same (λ next m. elements-hold n next element.cells (r + 1) m is.same)
        at element.outcome is.below is.answers (element-in fields s at now r l)

    array-holds : (at : ℕ) (x : Next) → NextIn s at x → P (elements_of fields s cells x)
    unfolding elements_of
    array-holds at (More next) h = elements-hold (length s) next cells 0 h.1 refl
    array-holds at (Ends last) h = ways.of_end cells (last + 1) 0 refl (omega arith)
    array-holds at (Neither place) h = ways.of-fault cells 11 place 0 refl (ways.of-stop place)

  other-holds : (at : ℕ) → P (single_of s (cells_filled cells (not_object_at s at)))
  other-holds at = single-holds (cells_filled cells (not_object_at s at)) refl (ways.of_other at)

  pub table-holds : (single : Bool) → cond single 1 4096 ≤ most → P (read_table single fields s cells)
  unfolding read_table single_at array_at
  table-holds single room =
      let at = spaces_end s 0 in
      by-test P single _ _
      (λ e. either P (eqb (byte_at s at) 123) _ _
      (single-holds (record_at fields s at cells 0) (record-in fields s 0 cells at (spaces-within s 0 (omega arith)).1).kept.length-same
      (rw zero-mul at (ways.of-record at cells 0 refl (rw e at room))))
      (other-holds at))
      (λ e. either P (eqb (byte_at s at) 91) _ _
      (array-holds (rw e at room) at (first_in s at 93) (first-in s at 93 (omega arith))) (other-holds at))
