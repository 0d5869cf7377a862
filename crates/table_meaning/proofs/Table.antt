-- What a table that holds means, and in which record a fault stands: for every table or singleton, with any fields, any
-- bytes and any cells.
-- Assumes nothing.
use Rattle.std.specs.Prelude.{Ok, Err}
use Prim.Native.Nat.{ℕ, zero, suc, ◌+◌, ◌*◌, ◌≤◌, ◌<◌}
use mathlib.Core.Path.{◌≡◌, refl, sym, ap, ◌∙◌}
use mathlib.Core.Bool.{Bool, true, false, false≢true}
use mathlib.Core.Logic.{⊎_elim}
use mathlib.Core.List.{List, [], ◌∷◌}
use native.Mathlib.Nat.{zero-add, zero-mul}
use native.Mathlib.Omega.{arith}
use borrow.Author.Tests.{eqb-true, ltb-false}
use lib.ListN.{length}
use lib.Dec.{ltb, eqb}
use Rattle.json_bytes.specs.Reads.{byte_at, spaces_end, Reading, fault_at}
use Rattle.json_bytes.proofs.Laws.{by-test}
use Rattle.json_bytes.proofs.Bounds.{spaces-within}
use Rattle.table_rows.specs.Rows.{Field}
use Rattle.table_value.specs.Value.{not_object_at}
use Rattle.table_name.specs.Name.{first_in}
use Rattle.table_name.specs.declared.Next.TheVariants.{More, Ends}
use Rattle.table_record.specs.Record.{cells_filled, record_at}
use Rattle.table_record.proofs.Bounds.{first-in}
use Rattle.table_file.specs.Table.{names_record, companion_of, TableRead, table_read, end_of_file, single_read, single_of, single_at, array_at, read_table}
use Rattle.table_file.specs.declared.FileRead.{FileRead}
use Rattle.table_meaning.specs.Meaning.{Span, span, Gives, record_in, Means, record_width}
use Rattle.table_meaning.specs.FaultRecord.{of_record, FaultIn}
use Rattle.table_meaning.proofs.Rows.{row-order, row_before}
use Rattle.table_meaning.proofs.Objects.{object-proper}
use Rattle.table_meaning.proofs.Record.{record-gives, record-narrow}
use Rattle.table_meaning.proofs.Faults.{Elsewhere, record-kind, other-elsewhere, not-of-record}
use Rattle.table_meaning.proofs.Walk.{Inside, inside_is, failed-kind, Stop, Closes, Fails, Breaks, Walk, array-walk}

-- ---- what a kind says
-- a kind of 0 is no fault's
not-zero : {A : Type 0} (kind : ℕ) → 10 ≤ kind → kind ≡ 0 → A
not-zero kind some e = absurd (omega (arith, some, e))

-- a kind that is a record's own is no other fault's
not-other : {A : Type 0} (kind : ℕ) → of_record kind ≡ false → of_record kind ≡ true → A
not-other kind e h = absurd (false≢true (sym e ∙ h))

-- behind the value only spaces stand
end-holds : (s : List ℕ) (at n : ℕ) → at ≤ length s → (end_of_file s at n).kind ≡ 0 → ((end_of_file s at n).records ≡ n) × (spaces_end s at ≡ length s)
unfolding end_of_file
end-holds s at n l =
    by-test (λ (f : FileRead). f.kind ≡ 0 → (f.records ≡ n) × (spaces_end s at ≡ length s)) (ltb (spaces_end s at) (length s)) _ _
    (λ _. not-zero 11 (omega arith)) (λ e _. (refl, omega (arith, ltb-false (spaces_end s at) (length s) e, (spaces-within s at l).1)))

end-kind : (s : List ℕ) (at n : ℕ) → of_record (end_of_file s at n).kind ≡ false
unfolding end_of_file
end-kind s at n =
    by-test (λ (f : FileRead). of_record f.kind ≡ false) (ltb (spaces_end s at) (length s)) _ _
    (λ _. not-of-record 11 (omega arith)) (λ _. not-of-record 0 (omega arith))

-- a fault that only a record can have stands in a record, and the mark's third number is that record's if its kind names it
abbrev Named : Bool → List Field → List ℕ → TableRead → Type 0
Named single fields s f =
    of_record f.read.kind ≡ true → (r : ℕ) × (f.read.companion ≡ companion_of f.read.kind r) × FaultIn single fields s f.cells r f.read.kind f.read.place

module _ (fields : List Field) (s : List ℕ) where
  -- ---- an array
  module _ (bracket : byte_at s (spaces_end s 0) ≡ 91) (cells : List ℕ) (f : TableRead) (walk : Walk fields s cells 0 (first_in s (spaces_end s 0) 93) f) where
    abbrev n : ℕ
    n = walk.n

    all : length walk.records ≡ n
    all = omega (arith, walk.count)

    each : (r : ℕ) → r < n → Gives fields s (record_in walk.records r) f.cells (r * record_width fields)
    each r l = rw zero-add at (walk.gives r (omega (arith, all)))

    closed-means : (last : ℕ) → walk.rest ≡ Ends last → spaces_end s (last + 1) ≡ length s → Means false fields s f.cells n
    closed-means last e ends = record {
      records = walk.records;
      count = all;
      laid = record { bracket = bracket; last = last; row = rw e at walk.row; ends = ends };
      few = few n (λ r l. rw zero-add at (walk.small r (omega (arith, all))).0);
      order = λ r q l m. row-order s 93 (omega arith) walk.records _ (spaces_end s 0) _ walk.proper (first-in s (spaces_end s 0) 93 (omega arith)) walk.row r q l (omega (arith, all));
      inside = λ r l. object-proper fields s _ _ (each r l).object;
      narrow = λ r l. (walk.small r (omega (arith, all))).1;
      gives = each;
    }
      where
        few : (n : ℕ) → ((r : ℕ) → r < n → r < 4096) → n ≤ 4096
        few zero h = omega arith
        few (suc n) h = h n (omega arith)

    array-means : f.read.kind ≡ 0 → Means false fields s f.cells f.read.records
    array-means z = go walk.stop
      where
        go : Stop fields s walk.rest n f.read → Means false fields s f.cells f.read.records
        go (Closes last e l q) =
            let h = end-holds s (last + 1) n (omega arith) (sym (ap (λ (x : FileRead). x.kind) q) ∙ z) in
            rw (ap (λ (x : FileRead). x.records) q ∙ h.0) (closed-means last e h.1)
        go (Fails at kind place e l failed q) = not-zero kind (failed-kind fields s at n kind place failed) (sym (ap (λ (x : FileRead). x.kind) q) ∙ z)
        go (Breaks place q) = not-zero 11 (omega arith) (sym (ap (λ (x : FileRead). x.kind) q) ∙ z)

    array-fault : Named false fields s f
    array-fault z = go n all walk.stop
      where
        kind-is : (x : FileRead) → f.read ≡ x → of_record x.kind ≡ true
        kind-is x q = rw q at z

        of-inside : (m : ℕ) → length walk.records ≡ m → (at kind place : ℕ) → walk.rest ≡ More at → of_record kind ≡ true → Inside fields s at m kind place → FaultIn false fields s f.cells (m + 1) kind place
        of-inside m is at kind place e own inside = record {
          records = walk.records;
          number = omega (arith, is);
          gives = λ i l. each i (omega (arith, all));
          at = at;
          leads = (bracket, rw e at walk.row);
          before = row_before s 93 (omega arith) walk.records _ (spaces_end s 0) at walk.proper (first-in s (spaces_end s 0) 93 (omega arith)) (rw e at walk.row);
          brace = inside.brace;
          then = inside.then;
          reads = rw is inside.reads;
          behind = inside.placed own;
          inside = inside.ends;
        }

        go : (m : ℕ) → length walk.records ≡ m → Stop fields s walk.rest m f.read → (r : ℕ) × (f.read.companion ≡ companion_of f.read.kind r) × FaultIn false fields s f.cells r f.read.kind f.read.place
        go m is (Closes last e l q) = not-other _ (end-kind s (last + 1) m) (kind-is _ q)
        go m is (Fails at kind place e l failed q) =
            (m + 1, rw q, rw q (⊎_elim (of-inside m is at kind place e (kind-is _ q)) (λ h. not-other kind h.1 (kind-is _ q)) failed))
        go m is (Breaks place q) = not-other 11 (not-of-record 11 (omega arith)) (kind-is _ q)

  -- ---- a singleton
  one-means : (then : List ℕ) (end : ℕ) → length fields ≤ 64 → spaces_end s end ≡ length s → Gives fields s (span (spaces_end s 0) end) then 0 → Means true fields s then 1
  unfolding record_in
  one-means then end narrow ends gives = record {
    records = span (spaces_end s 0) end ∷ [];
    count = refl;
    laid = record { to = end; one = refl; ends = ends };
    few = omega arith;
    order = λ r q l m. absurd (omega arith);
    inside = λ r l. let e : r ≡ 0 = omega arith in rw e (object-proper fields s _ _ gives.object);
    narrow = λ r l. narrow;
    gives = λ r l. let e : r ≡ 0 = omega arith in rw (e, zero-mul) gives;
  }

  module _ (cells : List ℕ) where
    abbrev at : ℕ
    at = spaces_end s 0

    single-means : (then : List ℕ) (r : Reading) → ((kind place : ℕ) → r ≡ fault_at kind place → 10 ≤ kind) → ((end : ℕ) → r ≡ Ok end → (length fields ≤ 64) × Gives fields s (span at end) then 0) → (single_read s r).kind ≡ 0 → Means true fields s then (single_read s r).records
    unfolding single_read
    single-means then (Ok end) some gives z =
        let g = gives end refl in
        let h = end-holds s end 1 (object-proper fields s _ _ g.1.object).1 z in
        rw h.0 (one-means then end g.0 h.1 g.1)
    single-means then (Err e) some gives z = not-zero e.kind (some e.kind e.place refl) z

    single-fault : (then : List ℕ) (r : Reading) → ((kind place : ℕ) → r ≡ fault_at kind place → Inside fields s at 0 kind place) → Named true fields s (table_read then (single_read s r))
    unfolding single_read
    single-fault then (Ok end) inside z = not-other _ (end-kind s end 1) z
    single-fault then (Err e) inside z =
        let h = inside e.kind e.place refl in (
          1,
          refl,
          record {
            records = [];
            number = refl;
            gives = λ i l. absurd (omega arith);
            at = at;
            leads = (refl, refl);
            before = λ i l. absurd (omega arith);
            brace = h.brace;
            then = h.then;
            reads = h.reads;
            behind = h.placed z;
            inside = h.ends;
          },
        )

    -- where no object stands
    other-kind : Elsewhere (fault_at (single_of s (cells_filled cells (not_object_at s at))).read.kind 0)
    unfolding single_of single_read
    other-kind = go (not_object_at s at) (other-elsewhere s at)
      where
        go : (r : Reading) → Elsewhere r → Elsewhere (fault_at (single_read s r).kind 0)
        go (Ok end) h = absurd h
        go (Err e) h = h

    -- ---- the table
    pub table-cells : (single : Bool) → (read_table single fields s cells).read.kind ≡ 0 → Means single fields s (read_table single fields s cells).cells (read_table single fields s cells).read.records
    unfolding read_table single_at array_at single_of
    table-cells true =
        by-test (λ (f : TableRead). f.read.kind ≡ 0 → Means true fields s f.cells f.read.records) (eqb (byte_at s at) 123) _ _
        (λ e. single-means _ (record_at fields s at cells 0).outcome (record-kind fields s 0 cells at) (λ end w. (record-narrow fields s 0 at cells end w, record-gives fields s 0 at cells (eqb-true _ 123 e) end w)))
        (λ _. not-zero _ other-kind.0)
    table-cells false =
        by-test (λ (f : TableRead). f.read.kind ≡ 0 → Means false fields s f.cells f.read.records) (eqb (byte_at s at) 91) _ _
        (λ e. array-means (eqb-true _ 91 e) cells _ (array-walk fields s cells at (first_in s at 93) (first-in s at 93 (omega arith))))
        (λ _. not-zero _ other-kind.0)

    -- a singleton that holds has one record, between spaces
    pub single-cells : (read_table true fields s cells).read.kind ≡ 0 → ((read_table true fields s cells).read.records ≡ 1) × ((to : ℕ) × (spaces_end s to ≡ length s) × Gives fields s (span at to) (read_table true fields s cells).cells 0)
    unfolding record_in
    single-cells z =
        let t = table-cells true z in
        let one : (read_table true fields s cells).read.records ≡ 1 = sym t.count ∙ ap length t.laid.one in
        (one, (t.laid.to, t.laid.ends, rw (t.laid.one, zero-mul) at (t.gives 0 (omega arith))))

    -- a fault that only a record can have stands in one, which its mark names but for 19
    pub fault-record : (single : Bool) → Named single fields s (read_table single fields s cells)
    unfolding read_table single_at array_at single_of
    fault-record true =
        by-test (Named true fields s) (eqb (byte_at s at) 123) _ _
        (λ e. single-fault _ (record_at fields s at cells 0).outcome (λ kind place w. inside_is fields s at (spaces-within s 0 (omega arith)).1 (eqb-true _ 123 e) cells 0 kind place (rw zero-mul w)))
        (λ _. not-other _ other-kind.1)
    fault-record false =
        by-test (Named false fields s) (eqb (byte_at s at) 91) _ _
        (λ e. array-fault (eqb-true _ 91 e) cells _ (array-walk fields s cells at (first_in s at 93) (first-in s at 93 (omega arith))))
        (λ _. not-other _ other-kind.1)

    -- the record that a mark names is the one in which its fault stands
    pub companion-record : (single : Bool) → names_record (read_table single fields s cells).read.kind ≡ true → FaultIn single fields s (read_table single fields s cells).cells (read_table single fields s cells).read.companion (read_table single fields s cells).read.kind (read_table single fields s cells).read.place
    unfolding of_record companion_of
    companion-record single e =
        let h = fault-record single (rw e) in
        rw (h.1, e) h.2

    -- in a singleton it is 1
    pub companion-single : names_record (read_table true fields s cells).read.kind ≡ true → (read_table true fields s cells).read.companion ≡ 1
    companion-single e = let h = companion-record true e in h.number ∙ ap (λ (l : List Span). length l + 1) h.leads.0
