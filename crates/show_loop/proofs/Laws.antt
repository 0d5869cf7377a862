-- The links of a set by their classes, and each way through the call.
-- Assumes nothing.
use Prim.Native.Nat.{ℕ, ◌+◌, ◌-◌, ◌≤◌, ◌<◌}
use mathlib.Core.Path.{◌≡◌, refl, sym, ap, ◌∙◌}
use mathlib.Core.Bool.{Bool, true}
use mathlib.Core.List.{List, ◌++◌}
use native.Mathlib.Omega.{arith}
use borrow.Author.Tests.{eq-eqb, ne_eqb, le-leb, lt-leb}
use lib.ListN.{length, get_or, take, drop, length-append, length-drop}
use lib.Seq.{take_at, length-take-le}
use Rattle.parts.specs.Files.{bytes_of}
use Rattle.mark_numbers.specs.Marks.{list_of}
use Rattle.mark_numbers.proofs.Laws.{list_at, list_length}
use Rattle.rule_cells.specs.Cells.{Table, table, same_text, text_of}
use Rattle.table_fields.specs.Fields.{fields_of, tables}
use Rattle.table_file.specs.declared.FileRead.{FileRead}
use Rattle.table_file.proofs.Kept.{file-length, file-records}
use Rattle.bundle_layout.specs.Bundle.{bundle_fault, file_at}
use Rattle.gate_marks.specs.Gate.{gate_of}
use Rattle.gate_marks.specs.Work.{width_of, room_for, room_of, zeros, read_of}
use Rattle.gate_marks.specs.Marks.{mark_read, file_mark, table_of}
use Rattle.gate_marks.proofs.Rooms.{length-zeros}
use Rattle.schedule.specs.Schedule.{free, expected_files, schedule}
use Rattle.table_again.specs.Again.{as_records, file_read_again}
use Rattle.link_classes.specs.Classes.{predecessor_id, successor_id, class_of, are_columns, column_after}
use Rattle.link_classes.proofs.Laws.{class-below, leads-same}
use Rattle.link_loops.specs.Loop.{ShowsRing}
use Rattle.link_loops.specs.Links.{link_leads, all_below, are_links, ShowsLinks}
use Rattle.link_loops.proofs.Shown.{below_each, are-links, shows_same}
use Rattle.std.specs.Prelude.{Some, None, Ok, Err}
use Rattle.show_loop.specs.Show.{links, leads_to, loop_fault, Shown, ShowsLoop, workspace, ShowsLoopIn}

-- ---- columns filled with classes show what the links are
module _ (t : Table) (from to : List ℕ) (few : length from ≤ 4096) (same : length to ≡ length from) where
  are : are_columns from to ≡ true
  unfolding are_columns
  are = rw (le-leb (length from) 4096 few, eq-eqb (length to) (length from) same)

  module _ (from' to' : List ℕ) (from_is : from' ≡ column_after t predecessor_id (are_columns from to) from) (to_is : to' ≡ column_after t successor_id (are_columns from to) to) where
    from-are : from' ≡ list_of (class_of t (length from) predecessor_id) (length from)
    unfolding column_after
    from-are = from_is ∙ rw are

    to-are : to' ≡ list_of (class_of t (length from) successor_id) (length from)
    unfolding column_after
    to-are = to_is ∙ rw (are, same)

    from-long : length from' ≡ length from
    from-long = rw from-are (list_length (class_of t (length from) predecessor_id) (length from))

    to-long : length to' ≡ length from
    to-long = rw to-are (list_length (class_of t (length from) successor_id) (length from))

    from_at : (i : ℕ) → i < length from → get_or from' i 0 ≡ class_of t (length from) predecessor_id i
    from_at i h = rw from-are (list_at (class_of t (length from) predecessor_id) (length from) i h)

    to_at : (i : ℕ) → i < length from → get_or to' i 0 ≡ class_of t (length from) successor_id i
    to_at i h = rw to-are (list_at (class_of t (length from) successor_id) (length from) i h)

    below : all_below (length from') from' ≡ true
    below = below_each (length from') from' (λ i h. omega (arith, from-long, from_at i (omega (arith, from-long)), class-below t (length from) i (omega (arith, from-long))))

    links-lead : (x y : ℕ) → 0 < x → x ≤ length from → 0 < y → y ≤ length from → link_leads from' to' x y ≡ leads_to t x y
    unfolding link_leads leads_to
    links-lead x y a b c d =
        rw (to_at (x - 1) (omega arith), from_at (y - 1) (omega arith)) (leads-same t (length from) (x - 1) (y - 1) (omega arith))

    pub columns-show : (m : ℕ) (before after : List ℕ) → length from ≤ length before → ShowsLinks from' to' m before after → ShowsRing (leads_to t) (length from) m before after
    columns-show m before after room s =
        let l : are_links from' to' (length before) ≡ true = are-links from' to' (length before) (omega (arith, from-long)) (to-long ∙ sym from-long) (omega (arith, from-long)) ∙ below in
        let z : ShowsRing (link_leads from' to') (length from) m before after = rw from-long at (s.right l) in
        shows_same (link_leads from' to') (leads_to t) (length from) links-lead m before after z

-- how many records a table is said to have is no matter
pub leads_any : (s cells : List ℕ) (width records : ℕ) → leads_to (table s cells width 0) ≡ leads_to (table s cells width records)
unfolding leads_to same_text text_of
leads_any s cells width records = refl

-- ---- file 14 is an array of records
expected-14 : schedule.expected 14 ≡ as_records 14
unfolding schedule gate_of expected_files free as_records
expected-14 = refl

room-14 : room_of (as_records 14).form ≡ 40960
unfolding room_of room_for as_records fields_of tables
room-14 = refl

width-14 : width_of (as_records 14).form ≡ 10
unfolding width_of as_records fields_of tables
width-14 = refl

module _ (s : List ℕ) where
  pub links-are : links s ≡ table (bytes_of (file_at s 14)) (file_read_again s 14 40960).cells 10 (file_read_again s 14 40960).read.records
  unfolding links table_of read_of file_read_again
  links-are = rw (expected-14, room-14, width-14)

  mark-is : (file_mark (schedule.expected 14) (file_at s 14)).kind ≡ (file_read_again s 14 40960).read.kind
  unfolding file_mark mark_read read_of file_read_again
  mark-is = rw (expected-14, room-14)

  -- ---- the refusals
  module _ (room : ℕ) where
    pub layout-fault : (fault : ℕ) → fault ≡ bundle_fault 20 s → (fault ≡ 0 → ⊥) → fault ≡ loop_fault s room
    unfolding loop_fault
    layout-fault fault e d = e ∙ rw (ne_eqb (bundle_fault 20 s) 0 (λ z. d (e ∙ z)))

    module _ (laid : bundle_fault 20 s ≡ 0) (read : FileRead) (read_is : read ≡ (file_read_again s 14 40960).read) where
      kind-is : (file_mark (schedule.expected 14) (file_at s 14)).kind ≡ read.kind
      kind-is = mark-is ∙ rw read_is

      records-are : (links s).records ≡ read.records
      records-are = ap (λ (t : Table). t.records) links-are ∙ rw read_is

      pub unreadable : (read.kind ≡ 0 → ⊥) → 12 ≡ loop_fault s room
      unfolding loop_fault
      unreadable d = rw (eq-eqb (bundle_fault 20 s) 0 laid, kind-is, ne_eqb read.kind 0 d)

      pub too_short : read.kind ≡ 0 → room < read.records → 13 ≡ loop_fault s room
      unfolding loop_fault
      too_short z l = rw (eq-eqb (bundle_fault 20 s) 0 laid, kind-is, eq-eqb read.kind 0 z, records-are, lt-leb read.records room l)

      pub no-fault : read.kind ≡ 0 → read.records ≤ room → loop_fault s room ≡ 0
      unfolding loop_fault
      no-fault z l = rw (eq-eqb (bundle_fault 20 s) 0 laid, kind-is, eq-eqb read.kind 0 z, records-are, le-leb read.records room l)

-- ---- file 14 as it was read into the front of a workspace
module _ (s w : List ℕ) (lent : 40960 ≤ length w) where
  front : length (take 40960 w) ≡ 40960
  front = length-take-le 40960 w lent

  module _ (read : FileRead) (cells : List ℕ) (read_is : read ≡ (file_read_again s 14 (length (take 40960 w))).read) (cells_are : cells ≡ (file_read_again s 14 (length (take 40960 w))).cells) where
    pub read_right : read ≡ (file_read_again s 14 40960).read
    read_right = read_is ∙ ap (λ (n : ℕ). (file_read_again s 14 n).read) front

    cells_right : cells ≡ (file_read_again s 14 40960).cells
    cells_right = cells_are ∙ ap (λ (n : ℕ). (file_read_again s 14 n).cells) front

    cells-long : length cells ≡ 40960
    unfolding file_read_again
    cells-long = ap length cells_right ∙ file-length (as_records 14) (file_at s 14) (zeros 40960) ∙ length-zeros 40960

    pub front-cells : take 40960 (cells ++ drop 40960 w) ≡ (file_read_again s 14 40960).cells
    front-cells = take_at cells (drop 40960 w) 40960 cells-long ∙ cells_right

    pub front-again : 40960 ≡ length (take 40960 (cells ++ drop 40960 w))
    front-again = sym (ap length (take_at cells (drop 40960 w) 40960 cells-long) ∙ cells-long)

    pub work-long : length (cells ++ drop 40960 w) ≡ length w
    work-long = omega (arith, length-append cells (drop 40960 w), length-drop 40960 w, cells-long)

    pub few-records : read.records ≤ 4096
    unfolding file_read_again
    few-records = rw read_right (file-records (as_records 14) (file_at s 14) (zeros 40960))

    -- ---- what is shown of it
    module _ (part : List ℕ) (part-is : part ≡ bytes_of (file_at s 14)) where
      pub links-shown : (m : ℕ) (before after : List ℕ) → ShowsRing (leads_to (table part (take 40960 (cells ++ drop 40960 w)) 10 0)) read.records m before after → ShowsRing (leads_to (links s)) (links s).records m before after
      links-shown m before after x =
          rw (links-are s, ← leads_any (bytes_of (file_at s 14)) (file_read_again s 14 40960).cells 10 (file_read_again s 14 40960).read.records) (rw (part-is, front-cells, read_right) at x)

-- ---- each way out
module _ (s before : List ℕ) (lent : ℕ) where
  pub short-work : lent < 40960 → ShowsLoopIn lent s before before (Err 14)
  unfolding ShowsLoopIn workspace
  short-work h = rw (lt-leb 40960 lent h, ShowsLoopIn) (refl, refl)

  module _ (room : 40960 ≤ lent) where
    pub in-room : (after : List ℕ) (shown : Shown) → ShowsLoop s before after shown → ShowsLoopIn lent s before after shown
    unfolding ShowsLoopIn workspace
    in-room after shown x = rw (le-leb 40960 lent room, ShowsLoopIn) x

    pub refused : (k : ℕ) → k ≡ loop_fault s (length before) → (k ≡ 0 → ⊥) → ShowsLoopIn lent s before before (Err k)
    unfolding ShowsLoop
    refused k e d = in-room before (Err k) (e, omega arith, refl)

    pub nothing-shown : (m : ℕ) (after : List ℕ) → loop_fault s (length before) ≡ 0 → ShowsRing (leads_to (links s)) (links s).records m before after → m ≡ 0 → ShowsLoopIn lent s before after (Ok None)
    unfolding ShowsLoop
    nothing-shown m after f x z = in-room after (Ok None) (f, rw z at x)

    pub ring-shown : (m : ℕ) (after : List ℕ) → loop_fault s (length before) ≡ 0 → ShowsRing (leads_to (links s)) (links s).records m before after → (m ≡ 0 → ⊥) → ShowsLoopIn lent s before after (Ok (Some m))
    unfolding ShowsLoop
    ring-shown m after f x d = in-room after (Ok (Some m)) (f, omega arith, x)

-- ---- with a workspace of its own
pub own-work : (s before after : List ℕ) (lent : ℕ) (shown : Shown) → 40960 ≤ lent → ShowsLoopIn lent s before after shown → ShowsLoop s before after shown
unfolding ShowsLoopIn workspace
own-work s before after lent shown h x = rw (le-leb 40960 lent h, ShowsLoopIn) at x

-- ---- columns of so many links
pub columns-fit : (from to records room : ℕ) → records ≤ 4096 → records ≤ room → from ≡ records → to ≡ records → (from ≤ 4096) × (to ≡ from) × (from ≤ room)
columns-fit from to records room a b x y = (omega arith, y ∙ sym x, omega arith)

pub of-records : (f : ℕ → ℕ → Bool) (n records m : ℕ) (before after : List ℕ) → n ≡ records → ShowsRing f n m before after → ShowsRing f records m before after
of-records f n records m before after e x = rw e at x
