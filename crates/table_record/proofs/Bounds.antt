-- Where the parts of a record stand: a name, the value behind its colon and what follows lie one behind the other and
-- within the file, so does a whole record, and a fault's place lies within the file or at its length.
-- Assumes nothing.
use Rattle.std.specs.Prelude.{Ok, Err}
use Prim.Native.Nat.{ℕ, zero, suc, ◌+◌, ◌*◌, ◌≤◌, ◌<◌}
use mathlib.Core.Path.{◌≡◌, refl, ◌∙◌}
use mathlib.Core.Bool.{cond}
use mathlib.Core.List.{List}
use native.Mathlib.Omega.{arith}
use borrow.Author.Tests.{eqb-true, ltb-true}
use lib.ListN.{length, get_or, set, length-set}
use lib.Seq.{get_or-set_other}
use lib.Dec.{ltb, eqb}
use Rattle.json_bytes.specs.Reads.{byte_at, spaces_end, Reading, fault_at}
use Rattle.json_bytes.proofs.Laws.{inside, by-test}
use Rattle.json_bytes.proofs.Bounds.{Within, spaces-within}
use Rattle.json_chars.specs.Chars.{chars_at}
use Rattle.json_text.specs.Text.{text_read_at}
use Rattle.json_text.proofs.Bounds.{text-within, earlier}
use Rattle.table_rows.specs.Rows.{Field}
use Rattle.table_name.specs.Name.{NameRead, index_of, named_at, name_at, colon_at, first_in, next_after}
use Rattle.table_name.specs.declared.Next.{Next}
use Rattle.table_name.specs.declared.Next.TheVariants.{More, Ends, Neither}
use Rattle.table_value.specs.Value.{value_at}
use Rattle.table_value.specs.declared.ValueRead.{ValueRead}
use Rattle.table_value.specs.declared.ValueRead.TheVariants.{Held, Null, Bad}
use Rattle.table_value.proofs.Bounds.{ValueIn, value_in}
use Rattle.table_record.specs.Record.{
  Filled,
  cells_filled,
  is_read,
  stored,
  stored_value,
  type_of,
  after_colon,
  after_name,
  pair_at,
  is_missing,
  record_closed_at,
  pairs_from,
  members_of,
  record_has_room,
  cleared,
  record_at,
}

-- ---- A name
abbrev pub NameIn : List Field → List ℕ → ℕ → NameRead → Type 0
NameIn fields s at (Ok n) = (n.index < length fields) × ((at < n.end) × (n.end ≤ length s))
NameIn fields s at (Err e) = e.place ≤ length s

module _ (fields : List Field) (s : List ℕ) (at : ℕ) (l : at ≤ length s) where
  name_of : (r : Reading) → Within s at r → NameIn fields s at (elim r [ Ok end ↦ named_at fields s at end | Err e ↦ Err e ])
  unfolding named_at
  name_of (Ok end) h =
      by-test (NameIn fields s at) (ltb (index_of (chars_at s at) fields) (length fields)) _ _
      (λ e. (ltb-true (index_of (chars_at s at) fields) (length fields) e, h)) (λ _. l)
  name_of (Err e) h = h

  pub name_in : NameIn fields s at (name_at fields s at)
  unfolding name_at
  name_in = name_of (text_read_at s at) (text-within s at l)

-- ---- What stands behind a name, and behind a member
abbrev pub NextIn : List ℕ → ℕ → Next → Type 0
NextIn s at (More next) = (at < next) × (next ≤ length s)
NextIn s at (Ends last) = (at ≤ last) × (last < length s)
NextIn s at (Neither place) = at ≤ length s → place ≤ length s

module _ (s : List ℕ) (end : ℕ) (l : end ≤ length s) where
  -- behind a byte other than 0, which stands behind spaces, the spaces go on within the file
  behind : (b : ℕ) → byte_at s (spaces_end s end) ≡ b → 0 < b → (end < spaces_end s (spaces_end s end + 1)) × (spaces_end s (spaces_end s end + 1) ≤ length s)
  behind b e p =
      let h = spaces-within s end l in
      let q : spaces_end s end < length s = inside s (spaces_end s end) b e p in
      let k = spaces-within s (spaces_end s end + 1) (omega arith) in
      (omega (arith, h.0, k.0), k.1)

  pub colon-in : Within s end (colon_at s end)
  unfolding colon_at
  colon-in =
      by-test (Within s end) (eqb (byte_at s (spaces_end s end)) 58) _ _
      (λ e. behind 58 (eqb-true _ 58 e) (omega arith)) (λ _. (spaces-within s end l).1)

  pub next-in : (closing : ℕ) → 0 < closing → NextIn s end (next_after s end closing)
  unfolding next_after
  next-in closing p =
      by-test (NextIn s end) (eqb (byte_at s (spaces_end s end)) 44) _ _
      (λ e. behind 44 (eqb-true _ 44 e) (omega arith))
      (λ _. by-test (NextIn s end) (eqb (byte_at s (spaces_end s end)) closing) _ _
      (λ e. ((spaces-within s end l).0, inside s (spaces_end s end) closing (eqb-true _ closing e) p))
      (λ _ _. (spaces-within s end l).1))

pub first-in : (s : List ℕ) (at closing : ℕ) → 0 < closing → NextIn s at (first_in s at closing)
unfolding first_in
first-in s at closing p =
    by-test (NextIn s at) (ltb at (length s)) _ _ (λ e. opened (ltb-true at (length s) e)) (λ _ l. l)
  where
    opened : at < length s → NextIn s at (cond (eqb (byte_at s (spaces_end s (at + 1))) closing) (Ends (spaces_end s (at + 1))) (More (spaces_end s (at + 1))))
    opened q =
        let h = spaces-within s (at + 1) (omega arith) in
        by-test (NextIn s at) (eqb (byte_at s (spaces_end s (at + 1))) closing) _ _
        (λ e. (omega (arith, h.0), inside s (spaces_end s (at + 1)) closing (eqb-true _ closing e) p))
        (λ _. (omega (arith, h.0), h.1))

-- ---- Which cells a record's reading touches: n of them, from a base on
pub record Kept (base n : ℕ) (old new : List ℕ) : Type 0 where
  pub length-same : length new ≡ length old
  pub outside : (i : ℕ) → (base ≤ i → i < base + n → ⊥) → get_or new i 0 ≡ get_or old i 0

module _ (base n : ℕ) where
  kept-all : (cells : List ℕ) → Kept base n cells cells
  kept-all cells = record { length-same = refl; outside = λ i out. refl }

  kept_then : (a b c : List ℕ) → Kept base n a b → Kept base n b c → Kept base n a c
  kept_then a b c p q =
      record {
        length-same = q.length-same ∙ p.length-same;
        outside = λ i out. q.outside i out ∙ p.outside i out;
      }

  kept_set : (cells : List ℕ) (j v : ℕ) → base ≤ j → j < base + n → Kept base n cells (set cells j v)
  kept_set cells j v l m =
      record {
        length-same = length-set cells j v;
        outside = λ i out. get_or-set_other cells j i v 0 (λ e. out (rw e l) (rw e m));
      }

  kept-stored : (cells : List ℕ) (k start end : ℕ) → 2 * k + 1 < n → Kept base n cells (stored cells base k start end)
  unfolding stored
  kept-stored cells k start end l =
      kept_then cells _ _ (kept_set cells (base + 2 * k) _ (omega arith) (omega arith))
      (kept_set (set cells (base + 2 * k) _) (base + 2 * k + 1) _ (omega arith) (omega arith))

  pub kept-cleared : (cells : List ℕ) (m : ℕ) → m ≤ n → Kept base n cells (cleared cells base m)
  unfolding cleared
  kept-cleared cells zero l = kept-all cells
  kept-cleared cells (suc m) l =
      kept_then cells _ _ (kept-cleared cells m (omega arith))
      (kept_set (cleared cells base m) (base + m) 0 (omega arith) (omega arith))

-- ---- A part of a record, read from a place on
pub record PartIn (fields : List Field) (s : List ℕ) (base : ℕ) (cells : List ℕ) (at : ℕ) (f : Filled) : Type 0 where
  pub place : Within s at f.outcome
  pub kept : Kept base (2 * length fields) cells f.cells

module _ (fields : List Field) (s : List ℕ) (base : ℕ) where
  part-fault : (cells : List ℕ) (at kind place : ℕ) → place ≤ length s → PartIn fields s base cells at (cells_filled cells (fault_at kind place))
  part-fault cells at kind place l = record { place = l; kept = kept-all base (2 * length fields) cells }

  -- a part behind another is one from where that one began
  part_then : (a b : List ℕ) (at next : ℕ) (f : Filled) → Kept base (2 * length fields) a b → at ≤ next → PartIn fields s base b next f → PartIn fields s base a at f
  part_then a b at next f k l p =
      record { place = earlier s at next l f.outcome p.place; kept = kept_then base (2 * length fields) a b f.cells k p.kept }

  part-behind : (cells : List ℕ) (at next : ℕ) (f : Filled) → at ≤ next → PartIn fields s base cells next f → PartIn fields s base cells at f
  part-behind cells at next f = part_then cells cells at next f (kept-all base (2 * length fields) cells)

  module _ (cells : List ℕ) where
    value-part : (k start : ℕ) → k < length fields → start ≤ length s → (v : ValueRead) → ValueIn s start v → PartIn fields s base cells start (stored_value cells base k start v)
    unfolding stored_value
    value-part k start m l (Held end) h =
        record { place = h; kept = kept-stored base (2 * length fields) cells k start end (omega arith) }
    value-part k start m l (Null end) h =
        record { place = h; kept = kept-stored base (2 * length fields) cells k start 0 (omega arith) }
    value-part k start m l (Bad kind place) h = part-fault cells start kind place h

    colon-part : (k end : ℕ) → k < length fields → (r : Reading) → Within s end r → PartIn fields s base cells end (after_colon fields s cells base k r)
    unfolding after_colon
    colon-part k end m (Ok start) h =
        part-behind cells end start _ (omega (arith, h.0))
        (value-part k start m h.1 (value_at s start (type_of fields k)) (value_in s start h.1 (type_of fields k)))
    colon-part k end m (Err e) h = part-fault cells end e.kind e.place h

    name-part : (at : ℕ) → at ≤ length s → (n : NameRead) → NameIn fields s at n → PartIn fields s base cells at (after_name fields s at cells base n)
    unfolding after_name
    name-part at l (Ok n) h =
        by-test (PartIn fields s base cells at) (is_read cells base n.index) _ _ (λ _. part-fault cells at 14 at l)
        (λ _. part-behind cells at n.end _ (omega (arith, h.1.0))
        (colon-part n.index n.end h.0 (colon_at s n.end) (colon-in s n.end h.1.1)))
    name-part at l (Err e) h = part-fault cells at e.kind e.place h

    pub pair-in : (at : ℕ) → at ≤ length s → PartIn fields s base cells at (pair_at fields s at cells base)
    unfolding pair_at
    pair-in at l = name-part at l (name_at fields s at) (name_in fields s at l)

    close-part : (at last : ℕ) → at ≤ last → last < length s → PartIn fields s base cells at (cells_filled cells (record_closed_at fields cells base last))
    unfolding record_closed_at
    close-part at last l m =
        record {
          place = by-test (Within s at) (is_missing fields cells base 0) _ _ (λ _. omega arith) (λ _. (omega arith, omega arith));
          kept = kept-all base (2 * length fields) cells;
        }

  -- what follows a pair, by what stands behind it
  next-part : (n : ℕ) (cells : List ℕ) (end : ℕ) → end ≤ length s → ((next : ℕ) → next ≤ length s → PartIn fields s base cells next (pairs_from n fields s next cells base)) → (x : Next) → NextIn s end x → PartIn fields s base cells end (elim x [ More next ↦ pairs_from n fields s next cells base | Ends last ↦ cells_filled cells (record_closed_at fields cells base last) | Neither place ↦ cells_filled cells (fault_at 11 place) ])
  next-part n cells end l rest (More next) h =
      part-behind cells end next _ (omega (arith, h.0)) (rest next h.1)
  next-part n cells end l rest (Ends last) h = close-part cells end last h.0 h.1
  next-part n cells end l rest (Neither place) h = part-fault cells end 11 place (h l)

  pair-part : (n : ℕ) (cells : List ℕ) (at : ℕ) → ((next : ℕ) → next ≤ length s → PartIn fields s base cells next (pairs_from n fields s next cells base)) → (r : Reading) → Within s at r → PartIn fields s base cells at (elim r [
    | Ok end ↦
        elim (next_after s end 125) [
          | More next ↦ pairs_from n fields s next cells base
          | Ends last ↦ cells_filled cells (record_closed_at fields cells base last)
          | Neither place ↦ cells_filled cells (fault_at 11 place)
        ]
    | Err e ↦ cells_filled cells (Err e)
  ])
  pair-part n cells at rest (Ok end) h =
      part-behind cells at end _ (omega (arith, h.0))
      (next-part n cells end h.1 rest (next_after s end 125) (next-in s end h.1 125 (omega arith)))
  pair-part n cells at rest (Err e) h = part-fault cells at e.kind e.place h

  pub pairs-in : (n : ℕ) (cells : List ℕ) (at : ℕ) → at ≤ length s → PartIn fields s base cells at (pairs_from n fields s at cells base)
  unfolding pairs_from
  pairs-in zero cells at l = part-fault cells at 11 at l
  pairs-in (suc n) cells at l =
      let pair = pair_at fields s at cells base in
      let p = pair-in cells at l in
      part_then cells pair.cells at at _ p.kept (omega arith)
      (pair-part n pair.cells at (λ next. pairs-in n pair.cells next) pair.outcome p.place)

  members-part : (cells : List ℕ) (at : ℕ) → at ≤ length s → (x : Next) → NextIn s at x → PartIn fields s base cells at (members_of fields s cells base x)
  unfolding members_of
  members-part cells at l (More next) h =
      part-behind cells at next _ (omega (arith, h.0)) (pairs-in (length s) cells next h.1)
  members-part cells at l (Ends last) h = close-part cells at last h.0 h.1
  members-part cells at l (Neither place) h = part-fault cells at 11 place (h l)

  -- what a caller needs of a record
  pub record-in : (cells : List ℕ) (at : ℕ) → at ≤ length s → PartIn fields s base cells at (record_at fields s at cells base)
  unfolding record_at
  record-in cells at l =
      by-test (PartIn fields s base cells at) (record_has_room s cells base (length fields)) _ _
      (λ _. part_then cells (cleared cells base (2 * length fields)) at at _ (kept-cleared base (2 * length fields) cells (2 * length fields) (omega arith)) (omega arith)
      (members-part (cleared cells base (2 * length fields)) at l (first_in s at 125) (first-in s at 125 (omega arith))))
      (λ _. part-fault cells at 99 at l)
