-- The records of a file that holds are the objects of its JSON text, in order, and its cells are those of their members.
-- Assumes nothing.
use Rattle.std.specs.Prelude.{Ok, Err}
use Prim.Native.Nat.{ℕ, zero, suc, ◌+◌, ◌*◌, ◌≤◌, ◌<◌}
use mathlib.Core.Path.{◌≡◌, refl, ap, subst, ◌∙◌}
use mathlib.Core.Bool.{Bool, true, false}
use mathlib.Core.List.{List, [], ◌∷◌}
use native.Mathlib.Nat.{zero-mul, zero-add, add-zero}
use native.Mathlib.Omega.{arith}
use borrow.Author.Tests.{eqb-true, ltb-false}
use lib.Dec.{ltb, eqb}
use lib.ListN.{length, get_or, drop, drop_of_length-le}
use Rattle.json_bytes.specs.Reads.{byte_at, spaces_end, Reading}
use Rattle.json_bytes.proofs.Laws.{by-test, inside}
use Rattle.table_rows.specs.Rows.{Field}
use Rattle.table_value.specs.Value.{opens, token_at, not_object_of, not_object_at}
use Rattle.table_name.specs.Name.{first_in, next_after}
use Rattle.table_name.specs.declared.Next.{Next}
use Rattle.table_name.specs.declared.Next.TheVariants.{More, Ends, Neither}
use Rattle.table_record.specs.Record.{start_cell, end_cell, Filled}
use Rattle.table_record.proofs.Bounds.{record-in}
use Rattle.table_file.specs.declared.FileRead.{FileRead}
use Rattle.table_file.specs.Table.{fault, TableRead, table_read, end_of_file, single_read, single_of, single_at, element_at, elements_from, elements_of as read_elements, array_at, read_table}
use Rattle.grammar.specs.Grammar.{Bytes, Spaces, Value, Elements, Text}
use Rattle.grammar_machine.proofs.Machine.{spaces, value, in_array, after_element, a_text}
use Rattle.grammar_machine.proofs.Places.{drop-byte, At}
use Rattle.grammar_machine.proofs.Tokens.{Answered}
use Rattle.grammar_machine.proofs.Facts.{told-kind}
use Rattle.grammar_files.proofs.Records.{NextAnswered, record-at}
use Rattle.grammar_files.proofs.Values.{not-object-at}
use Rattle.grammar_files.proofs.Files.{After, element-at, element-next, array-first, value-first}
use Rattle.grammar_cells.specs.Objects.{Named, object_of, named_elements, named_array, named_records, RowIs, FileIs}
use Rattle.grammar_cells.proofs.Here.{spaces-here}
use Rattle.grammar_cells.proofs.Pairs.{never}
use Rattle.grammar_cells.proofs.Unique.{records-one}
use Rattle.grammar_cells.proofs.Records.{NextIs, Following, next-is, First, first-is, ObjectIs, record_is}

-- a fault is no mark 0
faulty : {A : Type 0} {kind : ℕ} → 10 ≤ kind → kind ≡ 0 → A
faulty h e = absurd (omega arith)

module _ (fields : List Field) (s : Bytes) where
  -- ---- The end of the file
  end_is : (at records : ℕ) → at ≤ length s → (end_of_file s at records).kind ≡ 0 → Spaces (drop at s) [] × ((end_of_file s at records).records ≡ records)
  unfolding end_of_file
  end_is at records l =
      by-test (λ (m : FileRead). m.kind ≡ 0 → Spaces (drop at s) [] × (m.records ≡ records)) (ltb (spaces_end s at) (length s)) _ _
      (λ _ q. faulty (omega arith) q)
      (λ t _. (rw (drop_of_length-le s (ltb-false (spaces_end s at) (length s) t)) at (spaces-here s at l), refl))

  -- ---- An element
  not-whole : (t : Reading) (at end : ℕ) → not_object_of at t ≡ Ok end → ⊥
  unfolding not_object_of
  not-whole (Ok stop) at end = λ q. never q
  not-whole (Err e) at end = λ q. never q

  no-object : (at end : ℕ) → not_object_at s at ≡ Ok end → ⊥
  unfolding not_object_at
  no-object at end =
      by-test (λ (r : Reading). r ≡ Ok end → ⊥) (opens (byte_at s at)) _ _ (λ _ q. never q) (λ _. not-whole (token_at s at) at end)

  -- read whole, it is an object, its cells are told, and those before it are kept
  pub record ElementIs (at r : ℕ) (cells : List ℕ) (end : ℕ) (then : List ℕ) : Type 0 where
    pub object : Value (drop at s) (drop end s)
    pub row : RowIs fields s then r (object_of object)
    pub kept : (j : ℕ) → j < r * (2 * length fields) → get_or then j 0 ≡ get_or cells j 0

  element-is : (at r : ℕ) (cells : List ℕ) → at ≤ length s → (end : ℕ) → (element_at fields s at cells r).outcome ≡ Ok end → ElementIs at r cells end (element_at fields s at cells r).cells
  unfolding element_at
  element-is at r cells l end =
      by-test (λ (f : Filled). f.outcome ≡ Ok end → ElementIs at r cells end f.cells) (eqb (byte_at s at) 123) _ _
      (λ e. by-test (λ (f : Filled). f.outcome ≡ Ok end → ElementIs at r cells end f.cells) (ltb r 4096) _ _
      (λ _ q.
      let o = record_is fields s (r * (2 * length fields)) at cells (eqb-true _ 123 e) end q in
      record {
        object = o.object;
        row = record { proper = o.proper; starts = o.starts; ends = o.ends };
        kept = λ j m. (record-in fields s (r * (2 * length fields)) cells at l).kept.outside j (λ x y. omega arith);
      })
      (λ _ q. never q))
      (λ _ q. absurd (no-object at end q))

  -- ---- The elements from a place on, behind r records
  pub record ElementsIs (at r : ℕ) (cells : List ℕ) (t : TableRead) : Type 0 where
    pub close : ℕ
    pub elements : Elements (drop at s) (drop close s)
    pub tail : Spaces (drop close s) []
    pub count : t.read.records ≡ r + length (named_elements elements)
    pub rows : (i : ℕ) → i < length (named_elements elements) → RowIs fields s t.cells (r + i) (get_or (named_elements elements) i [])
    pub kept : (j : ℕ) → j < r * (2 * length fields) → get_or t.cells j 0 ≡ get_or cells j 0

  -- the cells of a record stay where those behind it are read
  row_kept : (r : ℕ) (then final : List ℕ) (ns : List Named) → ((j : ℕ) → j < (r + 1) * (2 * length fields) → get_or final j 0 ≡ get_or then j 0) → RowIs fields s then r ns → RowIs fields s final r ns
  unfolding start_cell end_cell
  row_kept r then final ns kept row =
      record {
        proper = row.proper;
        starts = λ k l. kept (r * (2 * length fields) + 2 * k) (omega arith) ∙ row.starts k l;
        ends = λ k l. kept (r * (2 * length fields) + 2 * k + 1) (omega arith) ∙ row.ends k l;
      }

  module _ (at r : ℕ) (cells : List ℕ) (end : ℕ) (then : List ℕ) (e : ElementIs at r cells end then) where
    last-element : (last : ℕ) → Spaces (drop end s) (0x5D ∷ drop (last + 1) s) → (m : FileRead) → Spaces (drop (last + 1) s) [] × (m.records ≡ r + 1) → ElementsIs at r cells (table_read then m)
    unfolding named_elements
    last-element last h m f =
        record {
          close = last + 1;
          elements = Elements.last_element e.object h;
          tail = f.0;
          count = f.1;
          rows = only;
          kept = e.kept;
        }
      where
        only : (i : ℕ) → i < 1 → RowIs fields s then (r + i) (get_or (object_of e.object ∷ []) i [])
        only zero l = rw (add-zero r) e.row
        only (suc i) l = absurd (omega arith)

    more-elements : (next : ℕ) (t : TableRead) → NextIs s end next → ElementsIs next (r + 1) then t → ElementsIs at r cells t
    unfolding named_elements
    more-elements next t n m =
        record {
          close = m.close;
          elements = Elements.more_elements e.object n.before n.after m.elements;
          tail = m.tail;
          count = m.count ∙ omega arith;
          rows = all;
          kept = λ j l. m.kept j (omega arith) ∙ e.kept j l;
        }
      where
        all : (i : ℕ) → i < suc (length (named_elements m.elements)) → RowIs fields s t.cells (r + i) (get_or (object_of e.object ∷ named_elements m.elements) i [])
        all zero l = rw (add-zero r) (row_kept r then t.cells (object_of e.object) m.kept e.row)
        all (suc i) l =
            let same : r + 1 + i ≡ r + suc i = omega arith in
            rw same at (m.rows i (omega arith))

  -- ---- As the reader goes, with the machine beside it, which tells that a fault has a kind
  abbrev Beside : ℕ → Type 0
  Beside at = At a_text 0 s (value ∷ After) at

  abbrev Tabled : ℕ → ℕ → List ℕ → TableRead → Type 0
  Tabled at r cells t = t.read.kind ≡ 0 → ElementsIs at r cells t

  after-element : (n at r : ℕ) (cells : List ℕ) (end : ℕ) (then : List ℕ) → ElementIs at r cells end then → ((next : ℕ) → Beside next → Tabled next (r + 1) then (elements_from n fields s next then (r + 1))) → (x : Next) → Following s end 0x5D x → NextAnswered a_text 0 s after_element (value ∷ After) (spaces ∷ []) x → Tabled at r cells (elim x [ More next ↦ elements_from n fields s next then (r + 1) | Ends last ↦ table_read then (end_of_file s (last + 1) (r + 1)) | Neither place ↦ table_read then (fault 11 place 0) ])
  after-element n at r cells end then e rest (More next) h a = λ q. more-elements at r cells end then e next _ h (rest next a q)
  after-element n at r cells end then e rest (Ends last) h a = λ q. last-element at r cells end then e last h.0 _ (end_is (last + 1) (r + 1) (omega (arith, h.1)) q)
  after-element n at r cells end then e rest (Neither place) h a = λ q. faulty (omega arith) q

  element-turn : (n at r : ℕ) (cells then : List ℕ) (o : Reading) → Answered a_text 0 s After o → ((end : ℕ) → o ≡ Ok end → ElementIs at r cells end then) → ((next : ℕ) → Beside next → Tabled next (r + 1) then (elements_from n fields s next then (r + 1))) → Tabled at r cells (elim o [
    | Ok end ↦
        elim (next_after s end 93) [
          | More next ↦ elements_from n fields s next then (r + 1)
          | Ends last ↦ table_read then (end_of_file s (last + 1) (r + 1))
          | Neither place ↦ table_read then (fault 11 place 0)
        ]
    | Err e ↦ table_read then (fault e.kind e.place (r + 1))
  ])
  element-turn n at r cells then (Ok end) a e rest =
      after-element n at r cells end then (e end refl) rest (next_after s end 93) (next-is s end 93 a.inside (omega arith)) (element-next s fields end a)
  element-turn n at r cells then (Err x) a e rest = λ q. faulty (told-kind a) q

  elements-are : (n at r : ℕ) (cells : List ℕ) → Beside at → Tabled at r cells (elements_from n fields s at cells r)
  unfolding elements_from
  elements-are zero at r cells a = λ q. faulty (omega arith) q
  elements-are (suc n) at r cells a =
      let element = element_at fields s at cells r in
      element-turn n at r cells element.cells element.outcome (element-at s fields cells at r a) (element-is at r cells a.inside)
      (λ next b. elements-are n next (r + 1) element.cells b)

-- ---- A file that holds
module _ (fields : List Field) (s : Bytes) where
  -- the file's value begins behind its spaces
  abbrev at : ℕ
  at = spaces_end s 0

  before : Spaces s (drop at s)
  before = spaces-here s 0 (omega arith)

  first : At a_text 0 s (value ∷ spaces ∷ []) at
  first = value-first s fields

  abbrev Filed : Bool → TableRead → Type 0
  Filed single t = t.read.kind ≡ 0 → (text : Text s) × FileIs single fields s text t

  -- ---- What is no object and no array
  other-is : (single : Bool) (cells : List ℕ) (r : Reading) → Answered a_text 0 s (spaces ∷ []) r → ((end : ℕ) → r ≡ Ok end → ⊥) → Filed single (table_read cells (single_read s r))
  unfolding single_read
  other-is single cells (Ok end) a n = absurd (n end refl)
  other-is single cells (Err e) a n = λ q. faulty (told-kind a) q

  -- ---- A singleton
  one-row : (then : List ℕ) (end : ℕ) (o : ObjectIs fields s 0 (drop at s) end then) (r : ℕ) → r < 1 → RowIs fields s then r (get_or (object_of o.object ∷ []) r [])
  one-row then end o zero l =
      record {
        proper = o.proper;
        starts = λ k m. rw (zero-mul (2 * length fields)) (o.starts k m);
        ends = λ k m. rw (zero-mul (2 * length fields)) (o.ends k m);
      }
  one-row then end o (suc r) l = absurd (omega arith)

  object-is : (then : List ℕ) (r : Reading) → Answered a_text 0 s (spaces ∷ []) r → ((end : ℕ) → r ≡ Ok end → ObjectIs fields s 0 (drop at s) end then) → Filed true (table_read then (single_read s r))
  unfolding single_read named_records
  object-is then (Ok end) a o = λ q.
      let h = end_is fields s end 1 a.inside q in (
        Text.text before (o end refl).object h.0,
        record { count = h.1; rows = λ r l. one-row then end (o end refl) r (omega (arith, h.1)) },
      )
  object-is then (Err e) a o = λ q. faulty (told-kind a) q

  single-is : (cells : List ℕ) → Filed true (single_at fields s cells at)
  unfolding single_at single_of
  single-is cells =
      by-test (Filed true) (eqb (byte_at s at) 123) _ _
      (λ e. object-is _ _ (record-at a_text 0 s fields 0 (spaces ∷ []) cells at (eqb-true _ 123 e) first) (record_is fields s 0 at cells (eqb-true _ 123 e)))
      (λ _. other-is true cells (not_object_at s at) (not-object-at a_text 0 s (spaces ∷ []) at first) (no-object fields s at))

  -- ---- A table
  module _ (bracket : byte_at s at ≡ 0x5B) where
    opened : Spaces s (0x5B ∷ drop (at + 1) s)
    opened = rw (drop-byte s at 0x5B bracket (inside s at 0x5B bracket (omega arith))) at before

    no-elements : (cells : List ℕ) (last : ℕ) → Spaces (drop (at + 1) s) (0x5D ∷ drop (last + 1) s) → last < length s → Filed false (table_read cells (end_of_file s (last + 1) 0))
    unfolding named_records named_array
    no-elements cells last h l = λ q.
        let e = end_is fields s (last + 1) 0 (omega arith) q in
        (Text.text opened (Value.no_elements h) e.0, record { count = e.1; rows = λ r m. absurd (omega (arith, e.1)) })

    some-elements : (next : ℕ) (cells : List ℕ) (t : TableRead) → Spaces (drop (at + 1) s) (drop next s) → ElementsIs fields s next 0 cells t → (text : Text s) × FileIs false fields s text t
    unfolding named_records named_array
    some-elements next cells t h m = (
      Text.text opened (Value.array h m.elements) m.tail,
      record { count = m.count ∙ zero-add _; rows = λ r l. rw (zero-add r) at (m.rows r (omega (arith, m.count))) },
    )

    elements-is : (cells : List ℕ) (x : Next) → First s at 0x5D x → NextAnswered a_text 0 s in_array (value ∷ After) (spaces ∷ []) x → Filed false (read_elements fields s cells x)
    unfolding read_elements
    elements-is cells (More next) h a = λ q. some-elements next cells _ h.0 (elements-are fields s (length s) next 0 cells a q)
    elements-is cells (Ends last) h a = no-elements cells last h.0 h.1
    elements-is cells (Neither place) h a = λ q. faulty (omega arith) q

  array-is : (cells : List ℕ) → Filed false (array_at fields s cells at)
  unfolding array_at single_of
  array-is cells =
      by-test (Filed false) (eqb (byte_at s at) 91) _ _
      (λ e.
      let q : byte_at s at ≡ 0x5B = eqb-true _ 91 e in
      elements-is q cells (first_in s at 93) (first-is s at 93 (inside s at 0x5B q (omega arith)) (omega arith)) (array-first s fields at q first))
      (λ _. other-is false cells (not_object_at s at) (not-object-at a_text 0 s (spaces ∷ []) at first) (no-object fields s at))

  held : (single : Bool) (cells : List ℕ) → Filed single (read_table single fields s cells)
  unfolding read_table
  held true cells = single-is cells
  held false cells = array-is cells

  -- the records of a file that holds are the objects of its text, in order, and its cells those of their members
  pub file-is : (single : Bool) (cells : List ℕ) → (read_table single fields s cells).read.kind ≡ 0 → (text : Text s) → FileIs single fields s text (read_table single fields s cells)
  file-is single cells q root =
      let h = held single cells q in
      let same : named_records single h.0 ≡ named_records single root = records-one single h.0 root in
      record {
        count = h.1.count ∙ ap length same;
        rows = λ r l. subst (λ (rows : List (List Named)). RowIs fields s (read_table single fields s cells).cells r (get_or rows r [])) same (h.1.rows r l);
      }
