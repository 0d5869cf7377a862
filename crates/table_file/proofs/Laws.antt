-- Where an element stands, one turn of each loop of a file's reading, and each way through the code as an equation.
-- Assumes nothing.
use Rattle.std.specs.Prelude.{Ok}
use Prim.Native.Nat.{ℕ, zero, suc, ◌+◌, ◌*◌, ◌≤◌, ◌<◌}
use mathlib.Core.Path.{◌≡◌, refl, sym, ap, ◌∙◌}
use mathlib.Core.Bool.{Bool, true, false, true≢false, cond, ◌&&◌}
use mathlib.Core.List.{List}
use native.Mathlib.Nat.{mul-le-mul, zero-mul}
use native.Mathlib.Omega.{arith}
use borrow.Author.Tests.{eq-eqb, ne_eqb, lt-ltb, le-ltb, lt-leb}
use lib.ListN.{length}
use lib.Dec.{ltb, eqb}
use Rattle.json_bytes.specs.Reads.{byte_at, spaces_end, Reading, fault_at}
use Rattle.json_bytes.proofs.Laws.{by-test}
use Rattle.json_bytes.proofs.Bounds.{Within}
use Rattle.parts.specs.Files.{new_file}
use Rattle.table_rows.specs.Rows.{Field, fields_from}
use Rattle.table_rows.proofs.Laws.{fields-length}
use Rattle.table_value.specs.Value.{not_object_at}
use Rattle.table_value.proofs.Bounds.{not-object-in}
use Rattle.table_name.specs.Name.{first_in, next_after}
use Rattle.table_name.specs.declared.Next.{Next}
use Rattle.table_name.specs.declared.Next.TheVariants.{More, Ends, Neither}
use Rattle.table_record.specs.Record.{Filled, cells_filled, record_has_room, record_at}
use Rattle.table_record.proofs.Bounds.{NextIn, next-in, first-in, record-in}
use Rattle.table_record.proofs.Laws.{record-none}
use Rattle.table_file.specs.declared.FileRead.{FileRead}
use Rattle.table_file.specs.Table.{
  companion_of,
  fault,
  TableRead,
  table_read,
  end_of_file,
  single_read,
  single_of,
  single_at,
  element_at,
  elements_from,
  elements_of,
  array_at,
  read_table,
}
use Rattle.table_file.specs.File.{omitted, fixed_read, read_as, file_of, form_from, expected_from}

-- ---- an element
neither-is : (a : Bool) → (a && false) ≡ false
neither-is true = refl
neither-is false = refl

-- a record of more than 64 fields has no room
room-wide : (s cells : List ℕ) (base count : ℕ) → 64 < count → record_has_room s cells base count ≡ false
unfolding record_has_room
room-wide s cells base count l = rw (lt-leb count 64 l) (neither-is (ltb (length s) 4294967296))

-- where a record's cells start is a small number
pub base-fits : (r count : ℕ) → r < 4096 → count ≤ 64 → r * (2 * count) ≤ 4096 * 128
base-fits r count l m = mul-le-mul {n₂ = 4096} {m₂ = 128} (omega arith) (omega arith)

module _ (rows names : List ℕ) (count : ℕ) (s : List ℕ) (at : ℕ) (cells : List ℕ) (r b : ℕ) (is_byte : b ≡ byte_at s at) where
  abbrev fields : List Field
  fields = fields_from rows names count 0

  pub element-other : (b ≡ 123 → ⊥) → (x : Reading) → x ≡ not_object_at s at → cells_filled cells x ≡ element_at fields s at cells r
  unfolding element_at
  element-other e x is_other = rw (← is_byte, ne_eqb b 123 e, is_other)

  module _ (brace : b ≡ 123) where
    pub element-many : 4096 ≤ r → cells_filled cells (fault_at 20 at) ≡ element_at fields s at cells r
    unfolding element_at
    element-many l = rw (← is_byte, eq-eqb b 123 brace, le-ltb r 4096 l)

    element-record : r < 4096 → record_at fields s at cells (r * (2 * count)) ≡ element_at fields s at cells r
    unfolding element_at
    element-record l = rw (← is_byte, eq-eqb b 123 brace, lt-ltb r 4096 l, fields-length rows names count 0)

    pub element-wide : r < 4096 → 64 < count → cells_filled cells (fault_at 99 at) ≡ element_at fields s at cells r
    element-wide l m =
        record-none rows names count s at cells (r * (2 * count)) false (sym (room-wide s cells (r * (2 * count)) count m)) refl
        ∙ element-record l

    pub element-object : r < 4096 → (then : List ℕ) (x : Reading) → x ≡ (record_at fields s at cells (r * (2 * count))).outcome → then ≡ (record_at fields s at cells (r * (2 * count))).cells → cells_filled then x ≡ element_at fields s at cells r
    element-object l then x is_record is_then =
        let z : cells_filled then x ≡ record_at fields s at cells (r * (2 * count)) = rw (is_record, is_then) in
        z ∙ element-record l

-- ---- a singleton is read as the first element is
single-element : (fields : List Field) (s : List ℕ) (at : ℕ) (cells : List ℕ) → single_of s (element_at fields s at cells 0) ≡ single_at fields s cells at
unfolding single_at element_at
single-element fields s at cells = go (eqb (byte_at s at) 123)
  where
    go : (t : Bool) → single_of s (cond t (record_at fields s at cells (0 * (2 * length fields))) (cells_filled cells (not_object_at s at))) ≡ cond t (single_of s (record_at fields s at cells 0)) (single_of s (cells_filled cells (not_object_at s at)))
    go true = rw (zero-mul (2 * length fields))
    go false = refl

-- an element lies within the file
pub element-in : (fields : List Field) (s : List ℕ) (at : ℕ) (cells : List ℕ) (r : ℕ) → at ≤ length s → Within s at (element_at fields s at cells r).outcome
unfolding element_at
element-in fields s at cells r l =
    by-test (λ (f : Filled). Within s at f.outcome) (eqb (byte_at s at) 123) _ _
    (λ _. by-test (λ (f : Filled). Within s at f.outcome) (ltb r 4096) _ _
    (λ _. (record-in fields s (r * (2 * length fields)) cells at l).place) (λ _. l))
    (λ _. not-object-in s at l)

-- ---- the elements: what is left of the whole at a place, and one law for each way a turn goes
pub record Left (fields : List Field) (s : List ℕ) (whole : TableRead) (cells : List ℕ) (at r : ℕ) : Type 0 where
  pub fuel : ℕ
  pub inside : at ≤ length s
  pub behind : r ≤ at
  pub enough : length s < at + fuel
  pub reads : elements_from fuel fields s at cells r ≡ whole

pub left-all : (fields : List Field) (s cells : List ℕ) (at : ℕ) → 0 < at → at ≤ length s → Left fields s (elements_from (length s) fields s at cells 0) cells at 0
left-all fields s cells at p l =
    record { fuel = length s; inside = l; behind = omega arith; enough = omega arith; reads = refl }

module _ (fields : List Field) (s : List ℕ) (whole : TableRead) (cells : List ℕ) (at r : ℕ) (then : List ℕ) (o : Reading) (is_element : cells_filled then o ≡ element_at fields s at cells r) where
  outcome-told : (element_at fields s at cells r).outcome ≡ o
  outcome-told = sym (ap (λ (f : Filled). f.outcome) is_element)

  cells_told : (element_at fields s at cells r).cells ≡ then
  cells_told = sym (ap (λ (f : Filled). f.cells) is_element)

  fault-by : (f : ℕ) → length s < at + f → at ≤ length s → elements_from f fields s at cells r ≡ whole → (kind place : ℕ) → o ≡ fault_at kind place → (companion : ℕ) → companion ≡ companion_of kind (r + 1) → table_read then (record { kind = kind; place = place; records = 0; companion = companion }) ≡ whole
  unfolding elements_from
  fault-by zero m l q kind place e companion told = absurd (omega arith)
  fault-by (suc g) m l q kind place e companion told = rw told (rw (outcome-told ∙ e, elements_from, cells_told) at q)

  module _ (end : ℕ) (is_whole : o ≡ Ok end) (x : Next) (is_next : x ≡ next_after s end 93) where
    more_by : (f : ℕ) → length s < at + f → at ≤ length s → r ≤ at → elements_from f fields s at cells r ≡ whole → (next : ℕ) → at < next → next ≤ length s → x ≡ More next → Left fields s whole then next (r + 1)
    unfolding elements_from
    more_by zero m l p q next h k e = absurd (omega arith)
    more_by (suc g) m l p q next h k e =
        record {
          fuel = g;
          inside = k;
          behind = omega arith;
          enough = omega arith;
          reads = rw (outcome-told ∙ is_whole, elements_from, sym is_next ∙ e, elements_from, cells_told) at q;
        }

    ends_by : (f : ℕ) → length s < at + f → at ≤ length s → elements_from f fields s at cells r ≡ whole → (last : ℕ) (t : FileRead) → x ≡ Ends last → t ≡ end_of_file s (last + 1) (r + 1) → table_read then t ≡ whole
    unfolding elements_from
    ends_by zero m l q last t e is_end = absurd (omega arith)
    ends_by (suc g) m l q last t e is_end =
        rw is_end (rw (outcome-told ∙ is_whole, elements_from, sym is_next ∙ e, elements_from, cells_told) at q)

    neither-by : (f : ℕ) → length s < at + f → at ≤ length s → elements_from f fields s at cells r ≡ whole → (place : ℕ) → x ≡ Neither place → table_read then (fault 11 place 0) ≡ whole
    unfolding elements_from
    neither-by zero m l q place e = absurd (omega arith)
    neither-by (suc g) m l q place e =
        rw (outcome-told ∙ is_whole, elements_from, sym is_next ∙ e, elements_from, cells_told) at q

  module _ (left : Left fields s whole cells at r) where
    pub turn-fault : (kind place : ℕ) → o ≡ fault_at kind place → (companion : ℕ) → companion ≡ companion_of kind (r + 1) → table_read then (record { kind = kind; place = place; records = 0; companion = companion }) ≡ whole
    turn-fault = fault-by left.fuel left.enough left.inside left.reads

    module _ (end : ℕ) (is_whole : o ≡ Ok end) (x : Next) (is_next : x ≡ next_after s end 93) where
      -- the element ends behind its first byte, and what follows stands behind it
      next_place : (at < end) × ((end ≤ length s) × NextIn s end x)
      next_place =
          let h : Within s at (Ok end) = rw (outcome-told ∙ is_whole) at (element-in fields s at cells r left.inside) in
          (h.0, (h.1, rw is_next (next-in s end h.1 93 (omega arith))))

      pub more-place : (next : ℕ) → x ≡ More next → (at < next) × (next ≤ length s)
      more-place next e =
          let h : (end < next) × (next ≤ length s) = rw e at next_place.1.1 in
          (omega (arith, next_place.0, h.0), h.1)

      pub ends-place : (last : ℕ) → x ≡ Ends last → last < length s
      ends-place last e =
          let h : (end ≤ last) × (last < length s) = rw e at next_place.1.1 in
          h.1

      pub turn_more : (next : ℕ) → x ≡ More next → Left fields s whole then next (r + 1)
      turn_more next e =
          more_by end is_whole x is_next left.fuel left.enough left.inside left.behind left.reads next (more-place next e).0 (more-place next e).1 e

      pub turn-ends : (last : ℕ) (t : FileRead) → x ≡ Ends last → t ≡ end_of_file s (last + 1) (r + 1) → table_read then t ≡ whole
      turn-ends = ends_by end is_whole x is_next left.fuel left.enough left.inside left.reads

      pub turn-neither : (place : ℕ) → x ≡ Neither place → table_read then (fault 11 place 0) ≡ whole
      turn-neither = neither-by end is_whole x is_next left.fuel left.enough left.inside left.reads

-- ---- the one loop of both: an array's elements, or a singleton, whose loop never turns
module _ (fields : List Field) (s : List ℕ) (single : Bool) (from : ℕ) (before : List ℕ) where
  abbrev whole_of : TableRead
  whole_of = cond single (single_at fields s before from) (elements_from (length s) fields s from before 0)

  pub record Ahead (cells : List ℕ) (at r : ℕ) : Type 0 where
    pub few : r ≤ length s
    pub array : single ≡ false → Left fields s (elements_from (length s) fields s from before 0) cells at r
    pub alone : single ≡ true → (r ≡ 0) × (element_at fields s at cells r ≡ element_at fields s from before 0)

  pub ahead-all : (single ≡ false → (0 < from) × (from ≤ length s)) → Ahead before from 0
  ahead-all h = record { few = omega arith; array = λ e. left-all fields s before from (h e).0 (h e).1; alone = λ e. (refl, refl) }

  pub ahead_more : (cells : List ℕ) (at r : ℕ) → single ≡ false → Left fields s (elements_from (length s) fields s from before 0) cells at r → Ahead cells at r
  ahead_more cells at r e left = record { few = omega (arith, left.inside, left.behind); array = λ _. left; alone = λ f. absurd (true≢false (sym f ∙ e)) }

  pub array_told : (f : TableRead) → single ≡ false → f ≡ elements_from (length s) fields s from before 0 → f ≡ whole_of
  array_told f e is = rw e is

  module _ (cells : List ℕ) (at r : ℕ) (ahead : Ahead cells at r) (then : List ℕ) (o : Reading) (is_element : cells_filled then o ≡ element_at fields s at cells r) where
    alone-told : single ≡ true → table_read then (single_read s o) ≡ whole_of
    unfolding single_of
    alone-told e = rw e (ap (single_of s) (is_element ∙ (ahead.alone e).1) ∙ single-element fields s from before)

    pub alone-ends : single ≡ true → (end : ℕ) → o ≡ Ok end → (t : FileRead) → t ≡ end_of_file s end 1 → table_read then t ≡ whole_of
    unfolding single_read
    alone-ends e end is_whole t is_end = rw is_end (rw is_whole at (alone-told e))

    pub either-fault : (kind place : ℕ) → o ≡ fault_at kind place → (companion : ℕ) → companion ≡ companion_of kind (r + 1) → table_read then (record { kind = kind; place = place; records = 0; companion = companion }) ≡ whole_of
    unfolding single_read
    either-fault kind place is_fault companion told = go single refl
      where
        go : (t : Bool) → single ≡ t → table_read then (record { kind = kind; place = place; records = 0; companion = companion }) ≡ whole_of
        go true e = rw (told, (ahead.alone e).0) (rw is_fault at (alone-told e))
        go false e = array_told _ e (turn-fault fields s (elements_from (length s) fields s from before 0) cells at r then o is_element (ahead.array e) kind place is_fault companion told)

-- ---- an array
module _ (s : List ℕ) (at : ℕ) (x : Next) (is_first : x ≡ first_in s at 93) where
  pub first_more : (next : ℕ) → x ≡ More next → (at < next) × (next ≤ length s)
  first_more next e = rw (sym is_first ∙ e) at (first-in s at 93 (omega arith))

  pub first_ends : (last : ℕ) → x ≡ Ends last → last < length s
  first_ends last e =
      let h : (at ≤ last) × (last < length s) = rw (sym is_first ∙ e) at (first-in s at 93 (omega arith)) in
      h.1

module _ (fields : List Field) (s cells : List ℕ) (at b : ℕ) (is_byte : b ≡ byte_at s at) where
  pub array-other : (b ≡ 91 → ⊥) → (r : Reading) (x : FileRead) → r ≡ not_object_at s at → x ≡ single_read s r → table_read cells x ≡ array_at fields s cells at
  unfolding array_at single_of
  array-other e r x is_other is_read = rw (← is_byte, ne_eqb b 91 e, ← is_other, is_read)

  module _ (bracket : b ≡ 91) (x : Next) (is_first : x ≡ first_in s at 93) where
    array_whole : array_at fields s cells at ≡ elements_of fields s cells x
    unfolding array_at
    array_whole = rw (← is_byte, eq-eqb b 91 bracket, ← is_first)

    pub array-more : (next : ℕ) (f : TableRead) → x ≡ More next → f ≡ elements_from (length s) fields s next cells 0 → f ≡ array_at fields s cells at
    unfolding elements_of
    array-more next f e is_rest = rw (array_whole, e) is_rest

    pub array-ends : (last : ℕ) (t : FileRead) → x ≡ Ends last → t ≡ end_of_file s (last + 1) 0 → table_read cells t ≡ array_at fields s cells at
    unfolding elements_of
    array-ends last t e is_end = rw (array_whole, e, is_end)

    pub array-neither : (place : ℕ) → x ≡ Neither place → table_read cells (fault 11 place 0) ≡ array_at fields s cells at
    unfolding elements_of
    array-neither place e = rw (array_whole, e)

-- ---- a table
pub both : (f g : TableRead) → f ≡ g → (f.read ≡ g.read) × (f.cells ≡ g.cells)
both f g e = (ap (λ (x : TableRead). x.read) e, ap (λ (x : TableRead). x.cells) e)

module _ (fields : List Field) (s cells : List ℕ) (at : ℕ) (is_start : at ≡ spaces_end s 0) (single : Bool) (f : TableRead) where
  pub table-single : single ≡ true → f ≡ single_at fields s cells at → f ≡ read_table single fields s cells
  unfolding read_table
  table-single e is_single = rw (e, ← is_start) is_single

  pub table-array : single ≡ false → f ≡ array_at fields s cells at → f ≡ read_table single fields s cells
  unfolding read_table
  table-array e is_array = rw (e, ← is_start) is_array

-- ---- a file
module _ (form : ℕ) (required : Bool) (text : List ℕ) (fields : List Field) (s cells : List ℕ) (present : Bool) where
  pub file-omitted : present ≡ false → (x : FileRead) → x ≡ omitted required → table_read cells x ≡ file_of (expected_from form required text fields) (new_file present s) cells
  unfolding file_of new_file
  file-omitted e x is_read = rw (e, is_read)

  module _ (e : present ≡ true) where
    pub file-array : form ≡ 0 → (then : List ℕ) (x : FileRead) → x ≡ (read_table false fields s cells).read → then ≡ (read_table false fields s cells).cells → table_read then x ≡ file_of (expected_from form required text fields) (new_file present s) cells
    unfolding file_of new_file form_from read_as
    file-array z then x is_read is_then = rw (e, eq-eqb form 0 z, is_read, is_then)

    pub file-object : (form ≡ 0 → ⊥) → form ≡ 1 → (then : List ℕ) (x : FileRead) → x ≡ (read_table true fields s cells).read → then ≡ (read_table true fields s cells).cells → table_read then x ≡ file_of (expected_from form required text fields) (new_file present s) cells
    unfolding file_of new_file form_from read_as
    file-object n z then x is_read is_then = rw (e, ne_eqb form 0 n, eq-eqb form 1 z, is_read, is_then)

    pub file-text : (form ≡ 0 → ⊥) → (form ≡ 1 → ⊥) → (x : FileRead) → x ≡ fixed_read text s → table_read cells x ≡ file_of (expected_from form required text fields) (new_file present s) cells
    unfolding file_of new_file form_from read_as
    file-text n m x is_read = rw (e, ne_eqb form 0 n, ne_eqb form 1 m, is_read)
