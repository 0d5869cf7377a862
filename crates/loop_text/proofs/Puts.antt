-- The text of a loop put into an output piece by piece, and that what is told is what is shown.
-- Assumes nothing.
use Prim.Native.Nat.{ℕ, ◌+◌, ◌-◌, ◌<◌}
use mathlib.Core.Path.{◌≡◌, refl, ap, ◌∙◌}
use mathlib.Core.Bool.{Bool, true, false, cond}
use mathlib.Core.List.{List, [], append-nil}
use lib.ListN.{length, get_or, take}
use Rattle.json_bytes.specs.Ascii.{codes}
use Rattle.parts.specs.Part.{part_of}
use Rattle.parts.specs.Files.{bytes_of}
use Rattle.output.specs.Decimal.{decimal}
use Rattle.output.specs.Output.{Output, output_at, put, ended}
use Rattle.output.proofs.Puts.{put_then}
use Rattle.table_rows.specs.Rows.{cell_at}
use Rattle.rule_cells.specs.Cells.{Table, table}
use Rattle.bundle_bytes.specs.Pieces.{joined}
use Rattle.bundle_bytes.proofs.Laws.{joined-next}
use Rattle.bundle_layout.specs.Bundle.{file_at}
use Rattle.report.specs.Report.{counted, refusal_text}
use Rattle.wording.specs.Wording.{value_text}
use Rattle.table_again.specs.Again.{file_read_again}
use Rattle.std.specs.Prelude.{Some, None, Ok, Err}
use Rattle.show_loop.specs.Show.{links, Shown, ShowsLoopIn}
use Rattle.show_loop.proofs.Laws.{links-are, short-work}
use Rattle.loop_text.specs.Text.{is_last, number_text, numbers_line, id_text, waits_text, leads_text, link_line, link_lines, ring_text, loop_text, TellsLoop}

-- ---- pieces, one behind the other
module _ (o : Output) (piece : ℕ → List ℕ) where
  pub pieces-start : o ≡ put o (joined piece 0)
  unfolding joined put
  pieces-start = refl

  pub pieces-next : (i : ℕ) {p q : Output} → p ≡ put o (joined piece i) → q ≡ put p (piece i) → q ≡ put o (joined piece (i + 1))
  pieces-next i e h = rw (joined-next piece i) (put_then o (joined piece i) (piece i) e h)

  pub pieces_end : (i n : ℕ) {p : Output} → i ≡ n → p ≡ put o (joined piece i) → p ≡ put o (joined piece n)
  pieces_end i n e h = h ∙ ap (λ k. put o (joined piece k)) e

-- how many records a table is said to have is no matter
lines-any : (ring bytes cells : List ℕ) (n : ℕ) → link_lines (table bytes cells 10 0) ring ≡ link_lines (table bytes cells 10 n) ring
unfolding link_lines link_line waits_text id_text
lines-any ring bytes cells n = refl

-- ---- the byte behind a number
module _ (ring : List ℕ) (i : ℕ) {last : Bool} (e : last ≡ is_last ring i) where
  pub byte_last : last ≡ true → ◌≡◌ {A = ℕ} 10 (cond (is_last ring i) 10 32)
  byte_last t = rw (← e, t)

  pub byte-between : last ≡ false → ◌≡◌ {A = ℕ} 32 (cond (is_last ring i) 10 32)
  byte-between t = rw (← e, t)

module _ (o : Output) where
  -- ---- the numbers
  pub number_put : (ring : List ℕ) (i : ℕ) {x b : ℕ} {p : Output} → x ≡ get_or ring i 0 → b ≡ cond (is_last ring i) 10 32 → p ≡ put o (ended x b) → p ≡ put o (number_text ring i)
  unfolding number_text
  number_put ring i e f h = rw (← e, ← f) h

  pub numbers-put : (ring : List ℕ) (i : ℕ) {p : Output} → i ≡ length ring → p ≡ put o (joined (number_text ring) i) → p ≡ put o (numbers_line ring)
  unfolding numbers_line
  numbers-put ring i e h = pieces_end o (number_text ring) i (length ring) e h

  -- ---- a link
  pub id-put : (s cells : List ℕ) (r j : ℕ) {row start end : ℕ} {value : List ℕ} {p : Output} → row ≡ r - 1 → start ≡ cell_at cells 10 row j → end ≡ cell_at cells 10 row (j + 1) → value ≡ part_of s start end → p ≡ put o (value_text value) → p ≡ put o (id_text (table s cells 10 0) r j)
  unfolding id_text
  id-put s cells r j a b c d h = rw (← a, ← b, ← c, ← d) h

  pub waits-put : (t : Table) (r : ℕ) {p q u v : Output} → p ≡ put o (codes ": SuccessorTaskID ") → q ≡ put p (id_text t r 2) → u ≡ put q (codes " waits for PredecessorTaskID ") → v ≡ put u (id_text t r 0) → v ≡ put o (waits_text t r)
  unfolding waits_text
  waits-put t r e f g h = put_then o _ _ (put_then o _ _ (put_then o _ _ e f) g) h

  module _ (ring : List ℕ) (i : ℕ) {x : ℕ} {p q u : Output} where
    pub back-put : is_last ring i ≡ true → x ≡ get_or ring 0 0 → p ≡ put o (codes " and leads back to record ") → q ≡ put p (decimal x) → u ≡ put q (codes ". Take a link of the loop out.\n") → u ≡ put o (leads_text ring i)
    unfolding leads_text
    back-put l a e f g = rw (l, ← a) (put_then o _ _ (put_then o _ _ e f) g)

    pub on-put : is_last ring i ≡ false → x ≡ get_or ring (i + 1) 0 → p ≡ put o (codes " and leads to record ") → q ≡ put p (decimal x) → u ≡ put q (codes ".\n") → u ≡ put o (leads_text ring i)
    unfolding leads_text
    on-put l a e f g = rw (l, ← a) (put_then o _ _ (put_then o _ _ e f) g)

  module _ (t : Table) (ring : List ℕ) (i : ℕ) where
    pub link-put : {x : ℕ} {p q u v : Output} → x ≡ get_or ring i 0 → p ≡ put o (codes "TaskRelationships record ") → q ≡ put p (decimal x) → u ≡ put q (waits_text t x) → v ≡ put u (leads_text ring i) → v ≡ put o (link_line t ring i)
    unfolding link_line
    link-put a e f g h = rw (← a) (put_then o _ _ (put_then o _ _ (put_then o _ _ e f) g) h)

    pub links-put : {p : Output} → i ≡ length ring → p ≡ put o (joined (link_line t ring) i) → p ≡ put o (link_lines t ring)
    unfolding link_lines
    links-put e h = pieces_end o (link_line t ring) i (length ring) e h

  -- ---- of a bundle's links, from file 14 and its cells
  module _ (s ring : List ℕ) {p : Output} where
    pub explained-put : {bytes cells : List ℕ} → bytes ≡ bytes_of (file_at s 14) → cells ≡ (file_read_again s 14 40960).cells → p ≡ put o (link_lines (table bytes cells 10 0) ring) → p ≡ put o (link_lines (links s) ring)
    explained-put {bytes} {cells} a b h =
        h ∙ ap (put o) (lines-any ring bytes cells (file_read_again s 14 40960).read.records ∙ rw (a, b, links-are s))

    pub plain-ring : {explained : Bool} → explained ≡ false → p ≡ put o (numbers_line ring) → p ≡ put o (ring_text explained s ring)
    unfolding ring_text
    plain-ring e h = rw (e, append-nil (numbers_line ring)) h

    pub told-ring : {explained : Bool} {q : Output} → explained ≡ true → p ≡ put o (numbers_line ring) → q ≡ put p (link_lines (links s) ring) → q ≡ put o (ring_text explained s ring)
    unfolding ring_text
    told-ring e h k = rw e (put_then o _ _ h k)

  -- ---- what is shown, by its variant
  module _ (explained : Bool) (s list : List ℕ) {shown : Shown} {p : Output} where
    pub none_told : shown ≡ Ok None → p ≡ put o (codes "none\n") → p ≡ put o (loop_text explained s list shown)
    unfolding loop_text
    none_told e h = rw e h

    pub ring-told : {m : ℕ} {ring : List ℕ} → shown ≡ Ok (Some m) → ring ≡ take m list → p ≡ put o (ring_text explained s ring) → p ≡ put o (loop_text explained s list shown)
    unfolding loop_text
    ring-told e f h = rw (e, ← f) h

    pub refusal-told : {refusal : ℕ} → shown ≡ Err refusal → p ≡ put o (counted (codes "bundle ") refusal) → p ≡ put o (loop_text explained s list shown)
    unfolding loop_text refusal_text
    refusal-told e h = rw e h

-- ---- what is told is what is shown
module _ (explained : Bool) (lent : ℕ) (s before old : List ℕ) {new : List ℕ} {r : ℕ} where
  pub tells-short : lent < 40960 → output_at new r ≡ put (output_at old 0) (counted (codes "bundle ") 14) → TellsLoop explained lent s before before old new r
  tells-short l h =
      record { shown = Err 14; shows = short-work s before lent l; told = refusal-told (output_at old 0) explained s before refl h }

  pub tells : (after : List ℕ) (shown : Shown) → ShowsLoopIn lent s before after shown → output_at new r ≡ put (output_at old 0) (loop_text explained s after shown) → TellsLoop explained lent s before after old new r
  tells after shown x h = record { shown = shown; shows = x; told = h }
