-- The lines of a quarter's text put into an output one behind the other.
-- Assumes nothing.
use Prim.Native.Nat.{ℕ, ◌+◌, ◌-◌}
use mathlib.Core.Path.{◌≡◌, refl, ap, ◌∙◌}
use mathlib.Core.List.{List, [], ◌∷◌}
use lib.ListN.{length, replicate-append-replicate}
use lib.IntN.{ℤ}
use mir.Syntax.{w64}
use mir.Val.{SFits, to_z, of_z}
use mir.Facts.{to_z-of_z}
use Rattle.exact_sums.specs.Sums.{whole_at}
use Rattle.json_bytes.specs.Ascii.{codes}
use Rattle.bundle_bytes.specs.Pieces.{joined}
use Rattle.bundle_bytes.proofs.Laws.{joined-next}
use Rattle.output.specs.Output.{Output, put}
use Rattle.output.proofs.Puts.{put_then}
use Rattle.quarter_text.specs.Figure.{figure}
use Rattle.quarter_text.specs.Table.{spaces, cell, cell_text, cells, table_line, lines, column_names, comma_text, pair}

-- ---- spaces
module _ (o : Output) where
  pub spaces-start : o ≡ put o (spaces 0)
  unfolding spaces put
  spaces-start = refl

  pub spaces-next : (i : ℕ) {p q : Output} → p ≡ put o (spaces i) → q ≡ put p (32 ∷ []) → q ≡ put o (spaces (i + 1))
  unfolding spaces
  spaces-next i e h = rw (← replicate-append-replicate {A = ℕ} i 1 32) (put_then o (spaces i) (spaces 1) e h)

  -- ---- a cell, six of them, and a line
  pub cell-put : (between : List ℕ) (wide : ℕ) (text : List ℕ) {k l : ℕ} {p q r : Output} → l ≡ length text → k ≡ wide - l → p ≡ put o between → q ≡ put p (spaces k) → r ≡ put q text → r ≡ put o (cell between wide text)
  unfolding cell
  cell-put between wide text m n e f g = put_then o _ text (put_then o between _ e (rw (n, m) at f)) g

  -- a figure is handed on by its bits
  pub figure-cell-put : (between : List ℕ) (wide : ℕ) (z : ℤ) → SFits w64 z → {k l : ℕ} {p q r : Output} → l ≡ length (figure (to_z w64 (of_z w64 z))) → k ≡ wide - l → p ≡ put o between → q ≡ put p (spaces k) → r ≡ put q (figure (to_z w64 (of_z w64 z))) → r ≡ put o (cell between wide (figure z))
  figure-cell-put between wide z held m n e f g =
      cell-put between wide (figure (to_z w64 (of_z w64 z))) m n e f g ∙ ap (λ y. put o (cell between wide (figure y))) (to_z-of_z held)

  module _ (between : List ℕ) (wide : ℕ) (list : List ℤ) (from : ℕ) where
    pub cells-start : o ≡ put o (cells between wide list from 0)
    unfolding cells joined put
    cells-start = refl

    pub cells-next : (c : ℕ) {x : ℤ} {p q : Output} → SFits w64 x → x ≡ whole_at list (from + c) → p ≡ put o (cells between wide list from c) → q ≡ put p (cell between wide (figure (to_z w64 (of_z w64 x)))) → q ≡ put o (cells between wide list from (c + 1))
    unfolding cells cell_text
    cells-next c held at e h =
        rw (joined-next (cell_text between wide list from) c)
        (put_then o (joined (cell_text between wide list from) c) (cell_text between wide list from c) e (rw (to_z-of_z held, at) at h))

  -- ---- all lines
  module _ (names : ℕ) (between : List ℕ) (wide : ℕ) (totals grand : List ℤ) where
    pub lines-put : {p q r s t : Output} → p ≡ put o (table_line names between wide (codes "LABOR") totals 0) → q ≡ put p (table_line names between wide (codes "MATERIAL") totals 6) → r ≡ put q (table_line names between wide (codes "OTHER_DIRECT_COSTS") totals 12) → s ≡ put r (table_line names between wide (codes "SUBCONTRACT") totals 18) → t ≡ put s (table_line names between wide (codes "all") grand 0) → t ≡ put o (lines names between wide totals grand)
    unfolding lines
    lines-put e f g h k = put_then o _ _ (put_then o _ _ (put_then o _ _ (put_then o _ _ e f) g) h) k

  pub comma-put : (totals grand : List ℤ) {p q : Output} → p ≡ put o column_names → q ≡ put p (lines 0 (codes ",") 0 totals grand) → q ≡ put o (comma_text totals grand)
  unfolding comma_text
  comma-put totals grand e f = put_then o _ _ e f

  -- ---- headings, and the table
  pub pair_put : (wide : ℕ) (a b : List ℕ) {p q : Output} → p ≡ put o (cell (codes "  ") wide a) → q ≡ put p (cell (codes "  ") wide b) → q ≡ put o (pair wide a b)
  unfolding pair
  pair_put wide a b e f = put_then o _ _ e f
