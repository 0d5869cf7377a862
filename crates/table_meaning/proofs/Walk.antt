-- One walk over the elements of an array: the records that are read whole stand one behind the other, each gives what its
-- own cells say, for what is read behind a record leaves its cells as they are, and then the array closes or a fault stands.
-- Assumes nothing.
use Rattle.std.specs.Prelude.{Ok, Err}
use Prim.Native.Nat.{ℕ, zero, suc, ◌+◌, ◌*◌, ◌≤◌, ◌<◌}
use mathlib.Core.Path.{◌≡◌, refl, ap, ◌∙◌}
use mathlib.Core.Logic.{◌⊎◌, inl, inr, ⊎_elim}
use mathlib.Core.List.Memᴰ
use mathlib.Core.List.{List, [], ◌∷◌}
use native.Mathlib.Nat.{add-zero, add-suc, suc-add, suc-mul}
use native.Mathlib.Numerals.{add-one}
use native.Mathlib.Omega.{arith}
use borrow.Author.Tests.{eqb-true, ltb-true}
use lib.ListN.{length, get_or}
use lib.Dec.{ltb, eqb}
use Rattle.json_bytes.proofs.FaultKinds.{kind_of}
use Rattle.json_bytes.specs.Reads.{byte_at, within, Reading, fault_at}
use Rattle.json_bytes.proofs.Laws.{by-test}
use Rattle.json_bytes.proofs.Bounds.{Within}
use Rattle.table_rows.specs.Rows.{Field}
use Rattle.table_value.specs.Value.{not_object_at}
use Rattle.table_name.specs.Name.{next_after}
use Rattle.table_name.specs.declared.Next.{Next}
use Rattle.table_name.specs.declared.Next.TheVariants.{More, Ends, Neither}
use Rattle.table_record.specs.Record.{Filled, cells_filled, start_cell, end_cell, record_at}
use Rattle.table_record.proofs.Bounds.{NextIn, next-in, record-in}
use Rattle.table_file.specs.Table.{names_record, fault, TableRead, table_read, end_of_file, element_at, elements_from, elements_of}
use Rattle.table_file.specs.declared.FileRead.{FileRead}
use Rattle.table_file.proofs.Laws.{element-in}
use Rattle.table_meaning.specs.Meaning.{◌∈◌, Span, span, Row, Gives, record_in, record_width}
use Rattle.table_meaning.specs.FaultRecord.{of_record}
use Rattle.table_meaning.proofs.Rows.{Proper}
use Rattle.table_meaning.proofs.Objects.{object-proper}
use Rattle.table_meaning.proofs.Record.{fault-not-whole, record-gives, record-narrow}
use Rattle.table_meaning.proofs.Faults.{Placed, record-kind, record-placed, Elsewhere, other-elsewhere}

-- a record gives the same where its cells are the same
gives-kept : (fields : List Field) (s : List ℕ) (x : Span) (old new : List ℕ) (base : ℕ) → ((i : ℕ) → base ≤ i → i < base + 2 * length fields → get_or new i 0 ≡ get_or old i 0) → Gives fields s x old base → Gives fields s x new base
unfolding start_cell end_cell
gives-kept fields s x old new base same gives =
    record {
      members = gives.members;
      object = gives.object;
      once = gives.once;
      within = gives.within;
      cell = λ k l. rw (same (base + 2 * k) (omega arith) (omega arith), same (base + 2 * k + 1) (omega arith) (omega arith)) (gives.cell k l);
      full = λ k l q. rw (same (base + 2 * k + 1) (omega arith) (omega arith)) (gives.full k l q);
    }

module _ (fields : List Field) (s : List ℕ) where
  -- ---- an element: a record, or a fault inside one or where none can stand
  pub record Inside (at r kind place : ℕ) : Type 0 where
    pub brace : byte_at s at ≡ 123
    pub then : List ℕ
    pub reads : (record_at fields s at then (r * record_width fields)).outcome ≡ fault_at kind place
    pub some : 10 ≤ kind
    pub placed : Placed at kind place
    pub ends : place ≤ length s

  pub inside_is : (at : ℕ) → at ≤ length s → byte_at s at ≡ 123 → (then : List ℕ) (r kind place : ℕ) → (record_at fields s at then (r * record_width fields)).outcome ≡ fault_at kind place → Inside at r kind place
  inside_is at l brace then r kind place w = record {
    brace = brace;
    then = then;
    reads = w;
    some = record-kind fields s (r * record_width fields) then at kind place w;
    placed = record-placed fields s (r * record_width fields) then at kind place w;
    ends = rw w at (record-in fields s (r * record_width fields) then at l).place;
  }

  abbrev pub Failed : ℕ → ℕ → ℕ → ℕ → Type 0
  Failed at r kind place = Inside at r kind place ⊎ Elsewhere (fault_at kind place)

  pub failed-kind : (at r kind place : ℕ) → Failed at r kind place → 10 ≤ kind
  failed-kind at r kind place (inl h) = h.some
  failed-kind at r kind place (inr h) = h.0

  record Element (at : ℕ) (cells : List ℕ) (r : ℕ) (f : Filled) : Type 0 where
    gives : (end : ℕ) → f.outcome ≡ Ok end → Gives fields s (span at end) f.cells (r * record_width fields)
    small : (end : ℕ) → f.outcome ≡ Ok end → (r < 4096) × (length fields ≤ 64)
    fails : (kind place : ℕ) → f.outcome ≡ fault_at kind place → Failed at r kind place
    kept : (i : ℕ) → i < r * record_width fields → get_or f.cells i 0 ≡ get_or cells i 0

  -- an answer that is no record's
  elsewhere : (at : ℕ) (cells : List ℕ) (r : ℕ) (o : Reading) → Elsewhere o → Element at cells r (cells_filled cells o)
  elsewhere at cells r (Ok end) h = absurd h
  elsewhere at cells r (Err e) h = record {
    gives = λ end w. fault-not-whole e.kind e.place end w;
    small = λ end w. fault-not-whole e.kind e.place end w;
    fails = λ k p w. inr (let a : e.kind ≡ k = ap kind_of w in rw (← a) h);
    kept = λ i l. refl;
  }

  element-is : (at : ℕ) → at ≤ length s → (cells : List ℕ) (r : ℕ) → Element at cells r (element_at fields s at cells r)
  unfolding element_at of_record names_record within
  element-is at l cells r =
      by-test (Element at cells r) (eqb (byte_at s at) 123) _ _
      (λ e. let brace = eqb-true (byte_at s at) 123 e in
      by-test (Element at cells r) (ltb r 4096) _ _
      (λ few. record {
        gives = record-gives fields s (r * record_width fields) at cells brace;
        small = λ end w. (ltb-true r 4096 few, record-narrow fields s (r * record_width fields) at cells end w);
        fails = λ kind place w. inl (inside_is at l brace cells r kind place w);
        kept = λ i m. (record-in fields s (r * record_width fields) cells at l).kept.outside i (λ n _. omega arith);
      })
      (λ _. elsewhere at cells r (fault_at 20 at) (omega arith, refl)))
      (λ _. elsewhere at cells r (not_object_at s at) (other-elsewhere s at))

  -- ---- the elements from a place on, behind r records
  -- how the walk ends, behind n records: the array closes, or there is a fault
  pub data Stop (rest : Next) (n : ℕ) (read : FileRead) : Type 0 where
    Closes : (last : ℕ) → rest ≡ Ends last → last < length s → read ≡ end_of_file s (last + 1) n → Stop rest n read
    Fails : (at kind place : ℕ) → rest ≡ More at → at ≤ length s → Failed at n kind place → read ≡ fault kind place (n + 1) → Stop rest n read
    Breaks : (place : ℕ) → read ≡ fault 11 place 0 → Stop rest n read

  pub record Walk (cells : List ℕ) (r : ℕ) (next : Next) (f : TableRead) : Type 0 where
    pub records : List Span
    pub n : ℕ
    pub count : n ≡ r + length records
    pub rest : Next
    pub row : Row s 93 next records rest
    pub proper : (x : Span) → x ∈ records → Proper s x
    pub gives : (i : ℕ) → i < length records → Gives fields s (record_in records i) f.cells ((r + i) * record_width fields)
    pub small : (i : ℕ) → i < length records → (r + i < 4096) × (length fields ≤ 64)
    pub kept : (i : ℕ) → i < r * record_width fields → get_or f.cells i 0 ≡ get_or cells i 0
    pub stop : Stop rest n f.read

  -- no record more
  stopped : (cells then : List ℕ) (r : ℕ) (next : Next) (read : FileRead) → ((i : ℕ) → i < r * record_width fields → get_or then i 0 ≡ get_or cells i 0) → Stop next r read → Walk cells r next (table_read then read)
  stopped cells then r next read kept stop = record {
    records = [];
    n = r;
    count = omega arith;
    rest = next;
    row = refl;
    proper = λ x i. absurd (Memᴰ.not-nil i);
    gives = λ i l. absurd (omega arith);
    small = λ i l. absurd (omega arith);
    kept = kept;
    stop = stop;
  }

  next-base : (r : ℕ) → (r + 1) * record_width fields ≡ r * record_width fields + record_width fields
  next-base r = rw add-one (suc-mul r (record_width fields))

  -- one record more, before the rest
  module _ (at : ℕ) (cells : List ℕ) (r : ℕ) (f : Filled) (element : Element at cells r f) (e : ℕ) (whole : f.outcome ≡ Ok e) (g : TableRead) (more : Walk f.cells (r + 1) (next_after s e 93) g) where
    first_gives : Gives fields s (span at e) g.cells (r * record_width fields)
    first_gives =
        gives-kept fields s (span at e) f.cells g.cells (r * record_width fields)
        (λ i l m. more.kept i (omega (arith, next-base r))) (element.gives e whole)

    one_more : Walk cells r (More at) g
    unfolding record_in
    one_more = record {
      records = span at e ∷ more.records;
      n = more.n;
      count = omega (arith, more.count);
      rest = more.rest;
      row = (refl, more.row);
      proper = λ x i. ⊎_elim (λ q. rw q (λ _. object-proper fields s (span at e) _ first_gives.object)) (more.proper x) (Memᴰ.cases_cons i);
      gives = gives;
      small = small;
      kept = λ i l. more.kept i (omega (arith, next-base r)) ∙ element.kept i l;
      stop = more.stop;
    }
      where
        gives : (i : ℕ) → i < suc (length more.records) → Gives fields s (record_in (span at e ∷ more.records) i) g.cells ((r + i) * record_width fields)
        gives zero l = rw add-zero first_gives
        gives (suc i) l = rw (add-suc, ← suc-add, ← add-one r) (more.gives i (omega arith))

        small : (i : ℕ) → i < suc (length more.records) → (r + i < 4096) × (length fields ≤ 64)
        small zero l = rw add-zero (element.small e whole)
        small (suc i) l = rw (add-suc, ← suc-add, ← add-one r) (more.small i (omega arith))

  -- what stands behind an element: the next, with those behind it, or the end
  next-walk : (n : ℕ) (cells : List ℕ) (r : ℕ) → ((next : ℕ) → next ≤ length s → Walk cells r (More next) (elements_from n fields s next cells r)) → (end : ℕ) (x : Next) → NextIn s end x → Walk cells r x (elim x [ More next ↦ elements_from n fields s next cells r | Ends last ↦ table_read cells (end_of_file s (last + 1) r) | Neither place ↦ table_read cells (fault 11 place 0) ])
  next-walk n cells r more end (More next) h = more next h.1
  next-walk n cells r more end (Ends last) h = stopped cells cells r (Ends last) _ (λ i l. refl) (Closes last refl h.1 refl)
  next-walk n cells r more end (Neither place) h = stopped cells cells r (Neither place) _ (λ i l. refl) (Breaks place refl)

  turn-walk : (n at : ℕ) → at ≤ length s → (cells then : List ℕ) (r : ℕ) → ((next : ℕ) → next ≤ length s → Walk then (r + 1) (More next) (elements_from n fields s next then (r + 1))) → (o : Reading) → Within s at o → Element at cells r (cells_filled then o) → Walk cells r (More at) (elim o [
    | Ok end ↦
        elim (next_after s end 93) [
          | More next ↦ elements_from n fields s next then (r + 1)
          | Ends last ↦ table_read then (end_of_file s (last + 1) (r + 1))
          | Neither place ↦ table_read then (fault 11 place 0)
        ]
    | Err e ↦ table_read then (fault e.kind e.place (r + 1))
  ])
  turn-walk n at l cells then r more (Ok e) h element =
      one_more at cells r (cells_filled then (Ok e)) element e refl _
      (next-walk n then (r + 1) more e (next_after s e 93) (next-in s e h.1 93 (omega arith)))
  turn-walk n at l cells then r more (Err e) h element =
      stopped cells then r (More at) _ element.kept (Fails at e.kind e.place refl l (element.fails e.kind e.place refl) refl)

  elements-walk : (n at : ℕ) → at ≤ length s → (cells : List ℕ) (r : ℕ) → Walk cells r (More at) (elements_from n fields s at cells r)
  unfolding elements_from
  elements-walk zero at l cells r = stopped cells cells r (More at) _ (λ i l. refl) (Breaks at refl)
  elements-walk (suc n) at l cells r =
      let element = element_at fields s at cells r in
      turn-walk n at l cells element.cells r (λ next m. elements-walk n next m element.cells (r + 1))
      element.outcome (element-in fields s at cells r l) (element-is at l cells r)

  pub array-walk : (cells : List ℕ) (at : ℕ) (x : Next) → NextIn s at x → Walk cells 0 x (elements_of fields s cells x)
  unfolding elements_of
  array-walk cells at (More next) h = elements-walk (length s) next h.1 cells 0
  array-walk cells at (Ends last) h = stopped cells cells 0 (Ends last) _ (λ i l. refl) (Closes last refl h.1 refl)
  array-walk cells at (Neither place) h = stopped cells cells 0 (Neither place) _ (λ i l. refl) (Breaks place refl)
