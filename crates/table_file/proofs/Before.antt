-- What a file's reading gives does not hang on what the lent cells held before: its mark, the number of its records and the cells of these are
-- the same over any cells of one length. Assumes nothing.
use Rattle.std.specs.Prelude.{Ok, Err}
use Prim.Native.Nat.{ℕ, zero, suc, ◌+◌, ◌*◌, ◌≤◌}
use mathlib.Core.Path.{◌≡◌, refl, sym, ◌∙◌}
use mathlib.Core.Bool.{Bool, true, false, cond}
use mathlib.Core.List.{List}
use native.Mathlib.Nat.{zero-mul, add-mul}
use native.Mathlib.Omega.{arith}
use lib.ListN.{length}
use lib.Dec.{ltb, eqb}
use Rattle.parts.specs.Files.{File, Left, Given}
use Rattle.json_same.specs.Same.{same_list}
use Rattle.json_bytes.specs.Reads.{byte_at, spaces_end, Reading}
use Rattle.json_bytes.proofs.Laws.{either}
use Rattle.json_bytes.proofs.Bounds.{Within, spaces-within}
use Rattle.table_rows.specs.Rows.{Field}
use Rattle.table_value.specs.Value.{not_object_at}
use Rattle.table_name.specs.Name.{first_in, next_after}
use Rattle.table_name.specs.declared.Next.{Next}
use Rattle.table_name.specs.declared.Next.TheVariants.{More, Ends, Neither}
use Rattle.table_record.specs.Record.{Filled, cells_filled, record_has_room, record_at}
use Rattle.table_record.proofs.Bounds.{NextIn, next-in, first-in}
use Rattle.table_record.proofs.Before.{Alike, record-alike, record-unread, room-alike}
use Rattle.table_file.specs.declared.FileRead.{FileRead}
use Rattle.table_file.specs.Table.{
  fault,
  file_holds,
  TableRead,
  table_read,
  end_of_file,
  single_read,
  single_of,
  single_at,
  element_at,
  elements_from,
  elements_of,
  array_at,
  read_table,
}
use Rattle.table_file.specs.File.{Form, Fixed, Single, Records, Expected, omitted, fixed_read, read_as, file_of}
use Rattle.table_file.proofs.Laws.{element-in}
use Rattle.table_file.proofs.Elements.{Below, below_other}
use Rattle.table_file.proofs.FaultKinds.{count_of}

fewer-alike : {m : ℕ} {a b : List ℕ} → Alike m a b → (n : ℕ) → n ≤ m → Alike n a b
fewer-alike h n l = record { same_length = h.same_length; front = λ i k. h.front i (omega arith) }

none_alike : (a b : List ℕ) → length a ≡ length b → Alike 0 a b
none_alike a b long = record { same_length = long; front = λ i k. absurd (omega arith) }

-- two ends by one test
by_tests : {A B : Type 0} (P : A → B → Type 0) (t : Bool) (a b : A) (c d : B) → (t ≡ true → P a c) → (t ≡ false → P b d) → P (cond t a b) (cond t c d)
by_tests P true a b c d p q = p refl
by_tests P false a b c d p q = q refl

-- ---- Two readings of a table whose records have so many cells each
pub record TableAlike (width : ℕ) (f g : TableRead) : Type 0 where
  pub same_read : f.read ≡ g.read
  pub same-cells : Alike (f.read.records * width) f.cells g.cells

module _ (width : ℕ) where
  -- where there is no record
  empty-alike : (a b : List ℕ) → length a ≡ length b → (read : FileRead) → read.records ≡ 0 → TableAlike width (table_read a read) (table_read b read)
  empty-alike a b long read none =
      record { same_read = refl; same-cells = rw (none, zero-mul width) (none_alike a b long) }

  end-alike : (s : List ℕ) (at records : ℕ) (a b : List ℕ) → Alike (records * width) a b → TableAlike width (table_read a (end_of_file s at records)) (table_read b (end_of_file s at records))
  unfolding end_of_file
  end-alike s at records a b h =
      either (λ (read : FileRead). TableAlike width (table_read a read) (table_read b read)) (ltb (spaces_end s at) (length s)) _ _
      (empty-alike a b h.same_length (fault 11 (spaces_end s at) 0) refl) (record { same_read = refl; same-cells = h })

-- ---- An element: what is read whole is one record more
abbrev Upto : ℕ → ℕ → Reading → ℕ
Upto width r (Ok end) = (r + 1) * width
Upto width r (Err e) = 0

record ElementAlike (width r : ℕ) (f g : Filled) : Type 0 where
  same_outcome : f.outcome ≡ g.outcome
  same-cells : Alike (Upto width r f.outcome) f.cells g.cells

upto-record : (width r : ℕ) (o : Reading) {a b : List ℕ} → Alike (r * width + width) a b → Alike (Upto width r o) a b
upto-record width r (Ok end) h = fewer-alike h ((r + 1) * width) (omega (arith, add-mul r 1 width))
upto-record width r (Err e) h = fewer-alike h 0 (omega arith)

upto-other : (width r : ℕ) (o : Reading) {a b : List ℕ} → Below 4096 o → length a ≡ length b → Alike (Upto width r o) a b
upto-other width r (Ok end) l long = absurd (omega (arith, l))
upto-other width r (Err e) l long = none_alike _ _ long

module _ (fields : List Field) (s : List ℕ) where
  -- a record, or where it has no room the fault that says so
  object-alike : (a b : List ℕ) (r : ℕ) → Alike (r * (2 * length fields)) a b → (at : ℕ) → at ≤ length s → ElementAlike (2 * length fields) r (record_at fields s at a (r * (2 * length fields))) (record_at fields s at b (r * (2 * length fields)))
  object-alike a b r h at l = go (record_has_room s a base (length fields)) refl where
    base : ℕ
    base = r * (2 * length fields)

    go : (has : Bool) → record_has_room s a base (length fields) ≡ has → ElementAlike (2 * length fields) r (record_at fields s at a base) (record_at fields s at b base)
    go true e =
        let read = record-alike fields s base a b h e at l in
        record { same_outcome = read.same_outcome; same-cells = upto-record (2 * length fields) r (record_at fields s at a base).outcome read.same-cells }
    go false e =
        rw (record-unread fields s base a e at, record-unread fields s base b (sym (room-alike fields s base a b h.same_length) ∙ e) at)
        (record { same_outcome = refl; same-cells = none_alike a b h.same_length })

  element-alike : (a b : List ℕ) (r : ℕ) → Alike (r * (2 * length fields)) a b → (at : ℕ) → at ≤ length s → ElementAlike (2 * length fields) r (element_at fields s at a r) (element_at fields s at b r)
  unfolding element_at
  element-alike a b r h at l =
      by_tests (ElementAlike (2 * length fields) r) (eqb (byte_at s at) 123) _ _ _ _
      (λ _. by_tests (ElementAlike (2 * length fields) r) (ltb r 4096) _ _ _ _
      (λ _. object-alike a b r h at l)
      (λ _. record { same_outcome = refl; same-cells = none_alike a b h.same_length }))
      (λ _. record { same_outcome = refl; same-cells = upto-other (2 * length fields) r (not_object_at s at) (below_other s at 4096) h.same_length })

  -- what follows an element, by what stands behind it
  next-alike : (n : ℕ) (a b : List ℕ) (r end : ℕ) → Alike ((r + 1) * (2 * length fields)) a b → ((next : ℕ) → next ≤ length s → TableAlike (2 * length fields) (elements_from n fields s next a (r + 1)) (elements_from n fields s next b (r + 1))) → (x : Next) → NextIn s end x → TableAlike (2 * length fields) (elim x [ More next ↦ elements_from n fields s next a (r + 1) | Ends last ↦ table_read a (end_of_file s (last + 1) (r + 1)) | Neither place ↦ table_read a (fault 11 place 0) ]) (elim x [ More next ↦ elements_from n fields s next b (r + 1) | Ends last ↦ table_read b (end_of_file s (last + 1) (r + 1)) | Neither place ↦ table_read b (fault 11 place 0) ])
  next-alike n a b r end h rest (More next) l = rest next l.1
  next-alike n a b r end h rest (Ends last) l = end-alike (2 * length fields) s (last + 1) (r + 1) a b h
  next-alike n a b r end h rest (Neither place) l = empty-alike (2 * length fields) a b h.same_length (fault 11 place 0) refl

  after-alike : (n : ℕ) (a b : List ℕ) (r at : ℕ) (o q : Reading) → o ≡ q → Within s at o → Alike (Upto (2 * length fields) r o) a b → (Alike ((r + 1) * (2 * length fields)) a b → (next : ℕ) → next ≤ length s → TableAlike (2 * length fields) (elements_from n fields s next a (r + 1)) (elements_from n fields s next b (r + 1))) → TableAlike (2 * length fields) (elim o [
    | Ok end ↦
        elim (next_after s end 93) [
          | More next ↦ elements_from n fields s next a (r + 1)
          | Ends last ↦ table_read a (end_of_file s (last + 1) (r + 1))
          | Neither place ↦ table_read a (fault 11 place 0)
        ]
    | Err e ↦ table_read a (fault e.kind e.place (r + 1))
  ]) (elim q [
    | Ok end ↦
        elim (next_after s end 93) [
          | More next ↦ elements_from n fields s next b (r + 1)
          | Ends last ↦ table_read b (end_of_file s (last + 1) (r + 1))
          | Neither place ↦ table_read b (fault 11 place 0)
        ]
    | Err e ↦ table_read b (fault e.kind e.place (r + 1))
  ])
  after-alike n a b r at (Ok end) q e l h rest = rw (← e) (next-alike n a b r end h (rest h) (next_after s end 93) (next-in s end l.1 93 (omega arith)))
  after-alike n a b r at (Err x) q e l h rest = rw (← e) (empty-alike (2 * length fields) a b h.same_length (fault x.kind x.place (r + 1)) refl)

  elements-alike : (n : ℕ) (a b : List ℕ) (r : ℕ) → Alike (r * (2 * length fields)) a b → (at : ℕ) → at ≤ length s → TableAlike (2 * length fields) (elements_from n fields s at a r) (elements_from n fields s at b r)
  unfolding elements_from
  elements-alike zero a b r h at l = empty-alike (2 * length fields) a b h.same_length (fault 11 at 0) refl
  elements-alike (suc n) a b r h at l =
      let p = element_at fields s at a r in
      let q = element_at fields s at b r in
      let element = element-alike a b r h at l in
      after-alike n p.cells q.cells r at p.outcome q.outcome element.same_outcome (element-in fields s at a r l) element.same-cells
      (λ more next m. elements-alike n p.cells q.cells (r + 1) more next m)

  listed-alike : (a b : List ℕ) → length a ≡ length b → (at : ℕ) (x : Next) → NextIn s at x → TableAlike (2 * length fields) (elements_of fields s a x) (elements_of fields s b x)
  unfolding elements_of
  listed-alike a b long at (More next) l =
      elements-alike (length s) a b 0 (rw (zero-mul (2 * length fields)) (none_alike a b long)) next l.1
  listed-alike a b long at (Ends last) l =
      end-alike (2 * length fields) s (last + 1) 0 a b (rw (zero-mul (2 * length fields)) (none_alike a b long))
  listed-alike a b long at (Neither place) l = empty-alike (2 * length fields) a b long (fault 11 place 0) refl

-- ---- A value that is read whole is the table's one record; where no object stands there is none
module _ (fields : List Field) (s : List ℕ) where
  one_alike : (f g : Filled) → ElementAlike (2 * length fields) 0 f g → TableAlike (2 * length fields) (single_of s f) (single_of s g)
  unfolding single_of single_read
  one_alike f g h = go f.outcome g.outcome h.same_outcome h.same-cells
    where
      go : (o q : Reading) → o ≡ q → Alike (Upto (2 * length fields) 0 o) f.cells g.cells → TableAlike (2 * length fields) (table_read f.cells (single_read s o)) (table_read g.cells (single_read s q))
      go (Ok end) q e k =
          rw (← e) (end-alike (2 * length fields) s end 1 f.cells g.cells (fewer-alike k (1 * (2 * length fields)) (omega arith)))
      go (Err x) q e k = rw (← e) (empty-alike (2 * length fields) f.cells g.cells k.same_length (fault x.kind x.place 1) refl)

  none_read : (a b : List ℕ) → length a ≡ length b → (o : Reading) → Below 4096 o → TableAlike (2 * length fields) (single_of s (cells_filled a o)) (single_of s (cells_filled b o))
  unfolding single_of single_read
  none_read a b long (Ok end) l = absurd (omega (arith, l))
  none_read a b long (Err e) l = empty-alike (2 * length fields) a b long (fault e.kind e.place 1) refl

  single-alike : (a b : List ℕ) → length a ≡ length b → (at : ℕ) → at ≤ length s → TableAlike (2 * length fields) (single_at fields s a at) (single_at fields s b at)
  unfolding single_at
  single-alike a b long at l =
      by_tests (TableAlike (2 * length fields)) (eqb (byte_at s at) 123) _ _ _ _
      (λ _. one_alike _ _ (rw (zero-mul (2 * length fields)) at (object-alike fields s a b 0 (rw (zero-mul (2 * length fields)) (none_alike a b long)) at l)))
      (λ _. none_read a b long (not_object_at s at) (below_other s at 4096))

  array-alike : (a b : List ℕ) → length a ≡ length b → (at : ℕ) → at ≤ length s → TableAlike (2 * length fields) (array_at fields s a at) (array_at fields s b at)
  unfolding array_at
  array-alike a b long at l =
      by_tests (TableAlike (2 * length fields)) (eqb (byte_at s at) 91) _ _ _ _
      (λ _. listed-alike fields s a b long at (first_in s at 93) (first-in s at 93 (omega arith)))
      (λ _. none_read a b long (not_object_at s at) (below_other s at 4096))

-- ---- A file, by its form
form-alike : (form : Form) (s a b : List ℕ) → length a ≡ length b → TableAlike (2 * count_of form) (read_as form s a) (read_as form s b)
unfolding read_as read_table fixed_read
form-alike (Fixed text) s a b long =
    either (λ (read : FileRead). TableAlike 0 (table_read a read) (table_read b read)) (same_list s text) _ _
    (empty-alike 0 a b long (file_holds 0) refl) (empty-alike 0 a b long (fault 22 0 0) refl)
form-alike (Single fields) s a b long = single-alike fields s a b long (spaces_end s 0) (spaces-within s 0 (omega arith)).1
form-alike (Records fields) s a b long = array-alike fields s a b long (spaces_end s 0) (spaces-within s 0 (omega arith)).1

pub file-alike : (e : Expected) (f : File) (a b : List ℕ) → length a ≡ length b → TableAlike (2 * count_of e.form) (file_of e f a) (file_of e f b)
unfolding file_of omitted
file-alike e Left a b long =
    either (λ (read : FileRead). TableAlike (2 * count_of e.form) (table_read a read) (table_read b read)) e.required _ _
    (empty-alike (2 * count_of e.form) a b long (fault 21 0 0) refl) (empty-alike (2 * count_of e.form) a b long (file_holds 0) refl)
file-alike e (Given s) a b long = form-alike e.form s a b long
