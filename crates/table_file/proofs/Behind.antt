-- Reading a file leaves the cells behind its records as they were: of a file that holds, every cell that stands behind those
-- of its records is as it was lent. Of a file with a fault nothing is said: what was read of a record stays in its cells.
-- Assumes nothing.
use Rattle.std.specs.Prelude.{Ok, Err}
use Prim.Native.Nat.{ℕ, zero, suc, ◌+◌, ◌*◌, ◌≤◌}
use mathlib.Core.Path.{◌≡◌, refl, sym, ◌∙◌}
use mathlib.Core.Bool.{Bool, true, false, false≢true}
use mathlib.Core.List.{List, flat_map}
use native.Mathlib.Nat.{zero-mul, add-mul}
use native.Mathlib.Omega.{arith}
use lib.ListN.{length, get_or}
use lib.Dec.{ltb, eqb}
use Rattle.parts.specs.Files.{File, Left, Given}
use Rattle.json_same.specs.Same.{same_list}
use Rattle.json_bytes.specs.Reads.{byte_at, within, spaces_end, Reading, fault_at}
use Rattle.json_bytes.proofs.Laws.{either}
use Rattle.json_bytes.proofs.Bounds.{Within, spaces-within}
use Rattle.json_bytes.proofs.FaultKinds.{is_in, Faults, below}
use Rattle.table_rows.specs.Rows.{Field}
use Rattle.table_value.specs.Value.{text_type, not_object_at}
use Rattle.table_value.proofs.FaultKinds.{other_kinds, not-object-kinds}
use Rattle.table_name.specs.Name.{first_in, next_after}
use Rattle.table_name.specs.declared.Next.{Next}
use Rattle.table_name.specs.declared.Next.TheVariants.{More, Ends, Neither}
use Rattle.table_record.specs.Record.{Filled, cells_filled, record_has_room, record_at}
use Rattle.table_record.proofs.Bounds.{NextIn, next-in, first-in, record-in}
use Rattle.table_record.proofs.FaultKinds.{record_kinds, record-kinds, no-room-99}
use Rattle.table_file.specs.declared.FileRead.{FileRead}
use Rattle.table_file.specs.Table.{
  fault,
  file_holds,
  TableRead,
  table_read,
  end_of_file,
  single_read,
  single_of,
  single_at,
  element_at,
  elements_from,
  elements_of,
  array_at,
  read_table,
}
use Rattle.table_file.specs.File.{Form, Fixed, Single, Records, Expected, omitted, fixed_read, read_as, file_of}
use Rattle.table_file.proofs.Laws.{element-in}
use Rattle.table_file.proofs.FaultKinds.{count_of}

-- ---- No fault of an element has the kind of a file that holds
abbrev FaultNamed : Reading → Type 0
FaultNamed (Ok end) = Unit {0}
FaultNamed (Err e) = e.kind ≡ 0 → ⊥

named_in : (ks : List ℕ) → is_in ks 0 ≡ false → (o : Reading) → Faults ks o → FaultNamed o
named_in ks none (Ok end) h = tt
named_in ks none (Err x) h = λ e. false≢true (sym none ∙ rw e at h)

other-named : (s : List ℕ) (at : ℕ) → FaultNamed (not_object_at s at)
unfolding below flat_map within text_type
other-named s at = named_in other_kinds refl (not_object_at s at) (not-object-kinds s at)

record-named : (fields : List Field) (s : List ℕ) (base at : ℕ) (cells : List ℕ) → FaultNamed (record_at fields s at cells base).outcome
unfolding below flat_map within text_type
record-named fields s base at cells = go (record_has_room s cells base (length fields)) refl
  where
    go : (has : Bool) → record_has_room s cells base (length fields) ≡ has → FaultNamed (record_at fields s at cells base).outcome
    go true e = named_in record_kinds refl (record_at fields s at cells base).outcome (record-kinds fields s base at cells e)
    go false e = rw (no-room-99 fields s base at cells e) (λ z. omega (arith, z))

-- ---- Cells that are as they were from one of them on
pub record SameFrom (from : ℕ) (old now : List ℕ) : Type 0 where
  pub same_at : (i : ℕ) → from ≤ i → get_or now i 0 ≡ get_or old i 0

all_same : (from : ℕ) (old : List ℕ) → SameFrom from old old
all_same from old = record { same_at = λ i l. refl }

later_same : {from : ℕ} {old now : List ℕ} → SameFrom from old now → (later : ℕ) → from ≤ later → SameFrom later old now
later_same h later m = record { same_at = λ i l. h.same_at i (omega arith) }

-- ---- A reading of a table whose records have so many cells each
pub record TableBehind (width : ℕ) (old : List ℕ) (f : TableRead) : Type 0 where
  pub where-holds : f.read.kind ≡ 0 → SameFrom (f.read.records * width) old f.cells

module _ (width : ℕ) (old : List ℕ) where
  fault-behind : (now : List ℕ) (kind place r : ℕ) → (kind ≡ 0 → ⊥) → TableBehind width old (table_read now (fault kind place r))
  fault-behind now kind place r named = record { where-holds = λ e. absurd (named e) }

  holds-behind : (now : List ℕ) (records : ℕ) → SameFrom (records * width) old now → TableBehind width old (table_read now (file_holds records))
  holds-behind now records h = record { where-holds = λ _. h }

  end-behind : (s : List ℕ) (at records : ℕ) (now : List ℕ) → SameFrom (records * width) old now → TableBehind width old (table_read now (end_of_file s at records))
  unfolding end_of_file
  end-behind s at records now h =
      either (λ (read : FileRead). TableBehind width old (table_read now read)) (ltb (spaces_end s at) (length s)) _ _
      (fault-behind now 11 (spaces_end s at) 0 (λ e. omega (arith, e))) (holds-behind now records h)

-- ---- An element behind r records: it touches none of the cells behind its own, whether it is read whole or not
record ElementBehind (width : ℕ) (old : List ℕ) (r : ℕ) (f : Filled) : Type 0 where
  next-same : SameFrom ((r + 1) * width) old f.cells
  named : FaultNamed f.outcome

module _ (fields : List Field) (s old : List ℕ) where
  unread-behind : (now : List ℕ) (r : ℕ) → SameFrom (r * (2 * length fields)) old now → (o : Reading) → FaultNamed o → ElementBehind (2 * length fields) old r (cells_filled now o)
  unread-behind now r h o named =
      record { next-same = later_same h ((r + 1) * (2 * length fields)) (omega (arith, add-mul r 1 (2 * length fields))); named = named }

  record_same : (now : List ℕ) (r : ℕ) → SameFrom (r * (2 * length fields)) old now → (at : ℕ) → at ≤ length s → SameFrom ((r + 1) * (2 * length fields)) old (record_at fields s at now (r * (2 * length fields))).cells
  record_same now r h at l =
      record {
        same_at = λ i m.
            (record-in fields s (r * (2 * length fields)) now at l).kept.outside i (λ _ inner. omega (arith, m, inner, add-mul r 1 (2 * length fields)))
            ∙ h.same_at i (omega (arith, m, add-mul r 1 (2 * length fields)));
      }

  object-behind : (now : List ℕ) (r : ℕ) → SameFrom (r * (2 * length fields)) old now → (at : ℕ) → at ≤ length s → ElementBehind (2 * length fields) old r (record_at fields s at now (r * (2 * length fields)))
  object-behind now r h at l =
      record { next-same = record_same now r h at l; named = record-named fields s (r * (2 * length fields)) at now }

  element-behind : (now : List ℕ) (r : ℕ) → SameFrom (r * (2 * length fields)) old now → (at : ℕ) → at ≤ length s → ElementBehind (2 * length fields) old r (element_at fields s at now r)
  unfolding element_at
  element-behind now r h at l =
      either (ElementBehind (2 * length fields) old r) (eqb (byte_at s at) 123) _ _
      (either (ElementBehind (2 * length fields) old r) (ltb r 4096) _ _ (object-behind now r h at l)
      (unread-behind now r h (fault_at 20 at) (λ e. omega (arith, e))))
      (unread-behind now r h (not_object_at s at) (other-named s at))

  -- what follows an element, by what stands behind it
  module _ (n : ℕ) (now : List ℕ) (r : ℕ) (h : SameFrom ((r + 1) * (2 * length fields)) old now) (rest : (next : ℕ) → next ≤ length s → TableBehind (2 * length fields) old (elements_from n fields s next now (r + 1))) where
    next-behind : (end : ℕ) (x : Next) → NextIn s end x → TableBehind (2 * length fields) old (elim x [ More next ↦ elements_from n fields s next now (r + 1) | Ends last ↦ table_read now (end_of_file s (last + 1) (r + 1)) | Neither place ↦ table_read now (fault 11 place 0) ])
    next-behind end (More next) l = rest next l.1
    next-behind end (Ends last) l = end-behind (2 * length fields) old s (last + 1) (r + 1) now h
    next-behind end (Neither place) l = fault-behind (2 * length fields) old now 11 place 0 (λ e. omega (arith, e))

    after-behind : (at : ℕ) (o : Reading) → Within s at o → FaultNamed o → TableBehind (2 * length fields) old (elim o [
      | Ok end ↦
          elim (next_after s end 93) [
            | More next ↦ elements_from n fields s next now (r + 1)
            | Ends last ↦ table_read now (end_of_file s (last + 1) (r + 1))
            | Neither place ↦ table_read now (fault 11 place 0)
          ]
      | Err e ↦ table_read now (fault e.kind e.place (r + 1))
    ])
    after-behind at (Ok end) l named = next-behind end (next_after s end 93) (next-in s end l.1 93 (omega arith))
    after-behind at (Err e) l named = fault-behind (2 * length fields) old now e.kind e.place (r + 1) named

  elements-behind : (n : ℕ) (now : List ℕ) (r : ℕ) → SameFrom (r * (2 * length fields)) old now → (at : ℕ) → at ≤ length s → TableBehind (2 * length fields) old (elements_from n fields s at now r)
  unfolding elements_from
  elements-behind zero now r h at l = fault-behind (2 * length fields) old now 11 at 0 (λ e. omega (arith, e))
  elements-behind (suc n) now r h at l =
      let element = element_at fields s at now r in
      let is = element-behind now r h at l in
      after-behind n element.cells r is.next-same (λ next m. elements-behind n element.cells (r + 1) is.next-same next m)
      at element.outcome (element-in fields s at now r l) is.named

-- ---- A table, with the lent cells
module _ (fields : List Field) (s old : List ℕ) where
  listed-behind : (at : ℕ) (x : Next) → NextIn s at x → TableBehind (2 * length fields) old (elements_of fields s old x)
  unfolding elements_of
  listed-behind at (More next) l = elements-behind fields s old (length s) old 0 (all_same (0 * (2 * length fields)) old) next l.1
  listed-behind at (Ends last) l = end-behind (2 * length fields) old s (last + 1) 0 old (all_same (0 * (2 * length fields)) old)
  listed-behind at (Neither place) l = fault-behind (2 * length fields) old old 11 place 0 (λ e. omega (arith, e))

  -- the file's one value
  value-behind : (f : Filled) → ElementBehind (2 * length fields) old 0 f → TableBehind (2 * length fields) old (single_of s f)
  unfolding single_of single_read
  value-behind f h = go f.outcome h.named
    where
      go : (o : Reading) → FaultNamed o → TableBehind (2 * length fields) old (table_read f.cells (single_read s o))
      go (Ok end) named = end-behind (2 * length fields) old s end 1 f.cells h.next-same
      go (Err e) named = fault-behind (2 * length fields) old f.cells e.kind e.place 1 named

  other-behind : (at : ℕ) → TableBehind (2 * length fields) old (single_of s (cells_filled old (not_object_at s at)))
  other-behind at =
      value-behind (cells_filled old (not_object_at s at))
      (unread-behind fields s old old 0 (all_same (0 * (2 * length fields)) old) (not_object_at s at) (other-named s at))

  single-behind : (at : ℕ) → at ≤ length s → TableBehind (2 * length fields) old (single_at fields s old at)
  unfolding single_at
  single-behind at l =
      either (TableBehind (2 * length fields) old) (eqb (byte_at s at) 123) _ _
      (value-behind _ (rw (zero-mul (2 * length fields)) at (object-behind fields s old old 0 (all_same (0 * (2 * length fields)) old) at l)))
      (other-behind at)

  array_behind : (at : ℕ) → at ≤ length s → TableBehind (2 * length fields) old (array_at fields s old at)
  unfolding array_at
  array_behind at l =
      either (TableBehind (2 * length fields) old) (eqb (byte_at s at) 91) _ _
      (listed-behind at (first_in s at 93) (first-in s at 93 (omega arith))) (other-behind at)

-- ---- A file, by its form
form-behind : (form : Form) (s old : List ℕ) → TableBehind (2 * count_of form) old (read_as form s old)
unfolding read_as read_table fixed_read
form-behind (Fixed text) s old =
    either (λ (read : FileRead). TableBehind 0 old (table_read old read)) (same_list s text) _ _
    (holds-behind 0 old old 0 (all_same 0 old)) (fault-behind 0 old old 22 0 0 (λ e. omega (arith, e)))
form-behind (Single fields) s old = single-behind fields s old (spaces_end s 0) (spaces-within s 0 (omega arith)).1
form-behind (Records fields) s old = array_behind fields s old (spaces_end s 0) (spaces-within s 0 (omega arith)).1

pub file-behind : (e : Expected) (f : File) (old : List ℕ) → TableBehind (2 * count_of e.form) old (file_of e f old)
unfolding file_of omitted
file-behind e Left old =
    either (λ (read : FileRead). TableBehind (2 * count_of e.form) old (table_read old read)) e.required _ _
    (fault-behind (2 * count_of e.form) old old 21 0 0 (λ z. omega (arith, z)))
    (holds-behind (2 * count_of e.form) old old 0 (all_same (0 * (2 * count_of e.form)) old))
file-behind e (Given s) old = form-behind e.form s old

pub behind-kept : (e : Expected) (f : File) (a : List ℕ) → (file_of e f a).read.kind ≡ 0 → (i : ℕ) → (file_of e f a).read.records * (2 * count_of e.form) ≤ i → get_or (file_of e f a).cells i 0 ≡ get_or a i 0
behind-kept e f a holds = ((file-behind e f a).where-holds holds).same_at
