-- The tables of a set, read once more into one list of cells, are those that the rules see.
-- Assumes nothing.
use Prim.Native.Nat.{ℕ, ◌+◌, ◌≤◌}
use mathlib.Core.Path.{◌≡◌, refl, ap, ◌∙◌}
use mathlib.Core.List.{List, ◌++◌, append_assoc}
use native.Mathlib.Omega.{arith}
use lib.ListN.{length, take, drop, length-append, length-drop}
use lib.Seq.{take_at, drop_at, drop-drop, length-take-le}
use Rattle.parts.specs.Files.{bytes_of}
use Rattle.table_fields.specs.Fields.{tables, fields_of}
use Rattle.table_file.specs.File.{Expected}
use Rattle.table_file.proofs.Kept.{file-length}
use Rattle.rule_cells.specs.Cells.{table}
use Rattle.element_sums.specs.declared.Sums.{Sums}
use Rattle.element_sums.specs.Sums.{sums_in}
use Rattle.bundle_layout.specs.Bundle.{file_at}
use Rattle.gate_marks.specs.Gate.{gate_of}
use Rattle.gate_marks.specs.Work.{width_of, room_for, room_of, zeros, read_of}
use Rattle.gate_marks.specs.Marks.{table_of}
use Rattle.gate_marks.proofs.Rooms.{length-zeros}
use Rattle.schedule.specs.Schedule.{free, expected_files, schedule}
use Rattle.table_again.specs.Again.{as_records, file_read_again}
use Rattle.set_sums.specs.Set.{assignments_of, resources_of}
use Rattle.set_sums.specs.Work.{tables_left}

-- ---- files 16 and 19 are arrays of records
expected-16 : schedule.expected 16 ≡ as_records 16
unfolding schedule gate_of expected_files free as_records
expected-16 = refl

expected-19 : schedule.expected 19 ≡ as_records 19
unfolding schedule gate_of expected_files free as_records
expected-19 = refl

room-16 : room_of (as_records 16).form ≡ 32768
unfolding room_of room_for as_records fields_of tables
room-16 = refl

room-19 : room_of (as_records 19).form ≡ 73728
unfolding room_of room_for as_records fields_of tables
room-19 = refl

width-16 : width_of (as_records 16).form ≡ 8
unfolding width_of as_records fields_of tables
width-16 = refl

width-19 : width_of (as_records 19).form ≡ 18
unfolding width_of as_records fields_of tables
width-19 = refl

module _ (s : List ℕ) (k room width : ℕ) (e : Expected) (e-is : e ≡ as_records k) (room-is : room_of (as_records k).form ≡ room) (width_is : width_of (as_records k).form ≡ width) where
  table-again : table_of e (file_at s k) ≡ table (bytes_of (file_at s k)) (file_read_again s k room).cells width (file_read_again s k room).read.records
  unfolding table_of read_of file_read_again
  table-again = rw (e-is, room-is, width_is)

pub resources-are : (s : List ℕ) → resources_of s ≡ table (bytes_of (file_at s 16)) (file_read_again s 16 32768).cells 8 (file_read_again s 16 32768).read.records
unfolding resources_of
resources-are s = table-again s 16 32768 8 (schedule.expected 16) expected-16 room-16 width-16

pub assignments-are : (s : List ℕ) → assignments_of s ≡ table (bytes_of (file_at s 19)) (file_read_again s 19 73728).cells 18 (file_read_again s 19 73728).read.records
unfolding assignments_of
assignments-are s = table-again s 19 73728 18 (schedule.expected 19) expected-19 room-19 width-19

pub again-long : (s : List ℕ) (k room : ℕ) → length (file_read_again s k room).cells ≡ room
unfolding file_read_again
again-long s k room = file-length (as_records k) (file_at s k) (zeros room) ∙ length-zeros room

-- ---- two lists of cells, one behind the other at the front of a third
module _ (a b w : List ℕ) (m n : ℕ) (a-long : length a ≡ m) (b-long : length b ≡ n) where
  pub both-are : take m (a ++ drop m w) ++ (b ++ drop n (drop m (a ++ drop m w))) ≡ a ++ b ++ drop (m + n) w
  both-are = rw (take_at a (drop m w) m a-long, drop_at a (drop m w) m a-long, drop-drop n m w, append_assoc a b (drop (m + n) w))

  module _ {now : List ℕ} (is : now ≡ a ++ b ++ drop (m + n) w) where
    pub front-is : take m now ≡ a
    front-is = rw (is, append_assoc a b (drop (m + n) w)) (take_at a (b ++ drop (m + n) w) m a-long)

    pub behind-is : take n (drop m now) ≡ b
    behind-is = rw (is, append_assoc a b (drop (m + n) w), drop_at a (b ++ drop (m + n) w) m a-long) (take_at b (drop (m + n) w) n b-long)

-- ---- so the sums over them are the set's
module _ (s : List ℕ) {records u-records : ℕ} {part u-part cells u-cells : List ℕ}
    (part-is : part ≡ bytes_of (file_at s 19)) (u-part-is : u-part ≡ bytes_of (file_at s 16))
    (cells_are : cells ≡ (file_read_again s 19 73728).cells) (u-cells-are : u-cells ≡ (file_read_again s 16 32768).cells)
    (count-is : records ≡ (file_read_again s 19 73728).read.records) (u-count-is : u-records ≡ (file_read_again s 16 32768).read.records) where
  pub sums-are : {r : Sums} → r ≡ sums_in (table part cells 18 records) (table u-part u-cells 8 u-records) → r ≡ sums_in (assignments_of s) (resources_of s)
  sums-are e = e ∙ rw (part-is, u-part-is, cells_are, u-cells-are, count-is, u-count-is, ← resources-are s, ← assignments-are s)

-- ---- both tables, read one behind the other into the front of a workspace
module _ (s w : List ℕ) (room : 106496 ≤ length w) {a b first last : List ℕ}
    (a-is : a ≡ (file_read_again s 16 (length (take 32768 w))).cells) (first-is : first ≡ a ++ drop 32768 w)
    (b-is : b ≡ (file_read_again s 19 (length (take 73728 (drop 32768 first)))).cells) (last-is : last ≡ take 32768 first ++ (b ++ drop 73728 (drop 32768 first))) where
  first-room : length (take 32768 w) ≡ 32768
  first-room = length-take-le 32768 w (omega arith)

  a-cells : a ≡ (file_read_again s 16 32768).cells
  a-cells = a-is ∙ ap (λ n. (file_read_again s 16 n).cells) first-room

  a-long : length a ≡ 32768
  a-long = ap length a-cells ∙ again-long s 16 32768

  pub second-room : length (take 73728 (drop 32768 first)) ≡ 73728
  second-room =
      length-take-le 73728 (drop 32768 first) (rw (first-is, drop_at a (drop 32768 w) 32768 a-long) (omega (arith, length-drop 32768 w)))

  b-cells : b ≡ (file_read_again s 19 73728).cells
  b-cells = b-is ∙ ap (λ n. (file_read_again s 19 n).cells) second-room

  b-long : length b ≡ 73728
  b-long = ap length b-cells ∙ again-long s 19 73728

  last-are : last ≡ a ++ b ++ drop 106496 w
  last-are = last-is ∙ rw first-is (both-are a b w 32768 73728 a-long b-long)

  pub left_is : last ≡ tables_left s w
  unfolding tables_left
  left_is = last-are ∙ rw (a-cells, b-cells)

  pub last-long : length last ≡ length w
  last-long =
      ap length last-are ∙ omega (arith, length-append (a ++ b) (drop 106496 w), length-append a b, a-long, b-long, length-drop 106496 w)

  pub both_read : {ra rb : ℕ} → ra ≡ (file_read_again s 16 (length (take 32768 w))).read.records → rb ≡ (file_read_again s 19 (length (take 73728 (drop 32768 first)))).read.records
      → {r : Sums} → r ≡ sums_in (table (bytes_of (file_at s 19)) (take 73728 (drop 32768 last)) 18 rb) (table (bytes_of (file_at s 16)) (take 32768 last) 8 ra) → (r ≡ sums_in (assignments_of s) (resources_of s)) × (last ≡ tables_left s w)
  both_read ra-is rb-is r-is = (
    sums-are s refl refl (behind-is a b w 32768 73728 a-long b-long last-are ∙ b-cells) (front-is a b w 32768 73728 a-long b-long last-are ∙ a-cells)
        (rb-is ∙ ap (λ n. (file_read_again s 19 n).read.records) second-room) (ra-is ∙ ap (λ n. (file_read_again s 16 n).read.records) first-room) r-is,
    left_is,
  )
