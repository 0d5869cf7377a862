-- What a record's reading gives does not hang on what its cells held before, nor on what stands behind them: lists that are alike up to the
-- record's cells are read alike, and are alike up to their end. Assumes nothing.
use Rattle.json_bytes.specs.Reads.{Reading, fault_at}
use Rattle.std.specs.Prelude.{Ok, Err}
use Prim.Native.Nat.{ℕ, zero, suc, ◌+◌, ◌*◌, ◌≤◌, ◌<◌}
use mathlib.Core.Path.{◌≡◌, refl, sym, ap, ◌∙◌}
use mathlib.Core.Bool.{Bool, true, false, cond, ◌||◌}
use mathlib.Core.List.{List, [], ◌∷◌}
use native.Mathlib.Omega.{arith}
use borrow.Author.Tests.{eqb-true, eqb-false}
use lib.ListN.{length, get_or, set, length-set}
use lib.Seq.{get_or-set_same, get_or-set_other}
use lib.Dec.{ltb, eqb}
use Rattle.json_bytes.proofs.Laws.{together}
use Rattle.json_bytes.proofs.Bounds.{Within}
use Rattle.table_rows.specs.Rows.{Field}
use Rattle.table_name.specs.Name.{NameRead, name_at, colon_at, first_in, next_after}
use Rattle.table_name.specs.declared.Next.{Next}
use Rattle.table_name.specs.declared.Next.TheVariants.{More, Ends, Neither}
use Rattle.table_value.specs.Value.{value_at}
use Rattle.table_value.specs.declared.ValueRead.{ValueRead}
use Rattle.table_value.specs.declared.ValueRead.TheVariants.{Held, Null, Bad}
use Rattle.table_record.specs.Record.{
  start_cell,
  end_cell,
  stored,
  cleared,
  Filled,
  cells_filled,
  type_of,
  stored_value,
  after_colon,
  is_read,
  after_name,
  pair_at,
  lacks,
  is_missing,
  record_closed_at,
  pairs_from,
  members_of,
  record_has_room,
  record_at,
}
use Rattle.table_record.proofs.Bounds.{NameIn, name_in, NextIn, next-in, first-in, kept-cleared, pair-in}
use Rattle.table_record.proofs.Laws.{room-all}

-- ---- Lists of one length that are the same up to a place
pub record Alike (m : ℕ) (a b : List ℕ) : Type 0 where
  pub same_length : length a ≡ length b
  pub front : (i : ℕ) → i < m → get_or a i 0 ≡ get_or b i 0

set-alike : (a b : List ℕ) (j v i : ℕ) → length a ≡ length b → j < length a → ((i ≡ j → ⊥) → get_or a i 0 ≡ get_or b i 0) → get_or (set a j v) i 0 ≡ get_or (set b j v) i 0
set-alike a b j v i long l other = go (eqb i j) refl where
  go : (t : Bool) → eqb i j ≡ t → get_or (set a j v) i 0 ≡ get_or (set b j v) i 0
  go true e = rw (eqb-true i j e) (get_or-set_same a j v 0 l ∙ sym (get_or-set_same b j v 0 (omega (arith, long))))
  go false e =
      let apart = eqb-false i j e in
      get_or-set_other a j i v 0 apart ∙ other apart ∙ sym (get_or-set_other b j i v 0 apart)

module _ {m : ℕ} {a b : List ℕ} (h : Alike m a b) where
  alike_set : (j v : ℕ) → j < length a → Alike m (set a j v) (set b j v)
  alike_set j v l =
      record {
        same_length = length-set a j v ∙ h.same_length ∙ sym (length-set b j v);
        front = λ i k. set-alike a b j v i h.same_length l (λ _. h.front i k);
      }

  -- one cell more
  alike-more : (v : ℕ) → m < length a → Alike (suc m) (set a m v) (set b m v)
  alike-more v l =
      record {
        same_length = length-set a m v ∙ h.same_length ∙ sym (length-set b m v);
        front = λ i k. set-alike a b m v i h.same_length l (λ apart. h.front i (omega (arith, apart)));
      }

-- cells that are made 0 are alike, whatever they were
alike-cleared : (base : ℕ) (a b : List ℕ) → Alike base a b → (n : ℕ) → base + n ≤ length a → Alike (base + n) (cleared a base n) (cleared b base n)
unfolding cleared
alike-cleared base a b h zero l = record { same_length = h.same_length; front = λ i k. h.front i (omega arith) }
alike-cleared base a b h (suc n) l =
    let before = alike-cleared base a b h n (omega arith) in
    let longer = alike-more before 0 (omega (arith, (kept-cleared base n a n (omega arith)).length-same)) in
    record { same_length = longer.same_length; front = λ i k. longer.front i (omega arith) }

-- ---- What is read of them
pub record ReadAlike (m : ℕ) (f g : Filled) : Type 0 where
  pub same_outcome : f.outcome ≡ g.outcome
  pub same-cells : Alike m f.cells g.cells

module _ (fields : List Field) (s : List ℕ) (base : ℕ) where
  module _ {a b : List ℕ} (h : Alike (base + 2 * length fields) a b) (room : base + 2 * length fields ≤ length a) where
    alike-with : (r : Reading) → ReadAlike (base + 2 * length fields) (cells_filled a r) (cells_filled b r)
    alike-with r = record { same_outcome = refl; same-cells = h }

    alike-stored : (k start end : ℕ) → k < length fields → Alike (base + 2 * length fields) (stored a base k start end) (stored b base k start end)
    unfolding stored
    alike-stored k start end l =
        alike_set (alike_set h (base + 2 * k) start (omega arith)) (base + 2 * k + 1) end (omega (arith, length-set a (base + 2 * k) start))

    alike-value : (k start : ℕ) → k < length fields → (v : ValueRead) → ReadAlike (base + 2 * length fields) (stored_value a base k start v) (stored_value b base k start v)
    unfolding stored_value
    alike-value k start l (Held end) = record { same_outcome = refl; same-cells = alike-stored k start end l }
    alike-value k start l (Null end) = record { same_outcome = refl; same-cells = alike-stored k start 0 l }
    alike-value k start l (Bad kind place) = alike-with (fault_at kind place)

    alike-colon : (k : ℕ) → k < length fields → (r : Reading) → ReadAlike (base + 2 * length fields) (after_colon fields s a base k r) (after_colon fields s b base k r)
    unfolding after_colon
    alike-colon k l (Ok start) = alike-value k start l (value_at s start (type_of fields k))
    alike-colon k l (Err e) = alike-with (Err e)

    read_alike : (k : ℕ) → k < length fields → is_read a base k ≡ is_read b base k
    unfolding is_read start_cell
    read_alike k l = ap (ltb 0) (h.front (base + 2 * k) (omega arith))

    alike-name : (at : ℕ) (n : NameRead) → NameIn fields s at n → ReadAlike (base + 2 * length fields) (after_name fields s at a base n) (after_name fields s at b base n)
    unfolding after_name
    alike-name at (Ok n) l =
        rw (read_alike n.index l.0) (together (ReadAlike (base + 2 * length fields)) (is_read b base n.index) _ _ _ _ (alike-with (fault_at 14 at)) (alike-colon n.index l.0 (colon_at s n.end)))
    alike-name at (Err e) l = alike-with (Err e)

    alike-pair : (at : ℕ) → at ≤ length s → ReadAlike (base + 2 * length fields) (pair_at fields s at a base) (pair_at fields s at b base)
    unfolding pair_at
    alike-pair at l = alike-name at (name_at fields s at) (name_in fields s at l)

    missing-alike : (fs : List Field) (k : ℕ) → k + length fs ≤ length fields → is_missing fs a base k ≡ is_missing fs b base k
    unfolding is_missing lacks end_cell
    missing-alike [] k l = refl
    missing-alike (f ∷ fs) k l =
        ap (λ e. cond f.nullable false (eqb e 0) || is_missing fs a base (suc k)) (h.front (base + 2 * k + 1) (omega arith))
        ∙ ap (λ t. cond f.nullable false (eqb (get_or b (base + 2 * k + 1) 0) 0) || t) (missing-alike fs (suc k) (omega arith))

    alike-closed : (at : ℕ) → ReadAlike (base + 2 * length fields) (cells_filled a (record_closed_at fields a base at)) (cells_filled b (record_closed_at fields b base at))
    unfolding record_closed_at
    alike-closed at =
        record { same_outcome = ap (λ t. cond t (fault_at 19 at) (Ok (at + 1))) (missing-alike fields 0 (omega arith)); same-cells = h }

  -- what follows a pair, by what stands behind it
  alike_next : (n : ℕ) {a b : List ℕ} (end : ℕ) → Alike (base + 2 * length fields) a b → base + 2 * length fields ≤ length a → ((next : ℕ) → next ≤ length s → ReadAlike (base + 2 * length fields) (pairs_from n fields s next a base) (pairs_from n fields s next b base)) → (x : Next) → NextIn s end x → ReadAlike (base + 2 * length fields) (elim x [ More next ↦ pairs_from n fields s next a base | Ends last ↦ cells_filled a (record_closed_at fields a base last) | Neither place ↦ cells_filled a (fault_at 11 place) ]) (elim x [ More next ↦ pairs_from n fields s next b base | Ends last ↦ cells_filled b (record_closed_at fields b base last) | Neither place ↦ cells_filled b (fault_at 11 place) ])
  alike_next n end h room rest (More next) l = rest next l.1
  alike_next n end h room rest (Ends last) l = alike-closed h room last
  alike_next n end h room rest (Neither place) l = alike-with h room (fault_at 11 place)

  alike-after : (n : ℕ) {a b : List ℕ} (at : ℕ) → Alike (base + 2 * length fields) a b → base + 2 * length fields ≤ length a → ((next : ℕ) → next ≤ length s → ReadAlike (base + 2 * length fields) (pairs_from n fields s next a base) (pairs_from n fields s next b base)) → (r q : Reading) → r ≡ q → Within s at r → ReadAlike (base + 2 * length fields) (elim r [
    | Ok end ↦
        elim (next_after s end 125) [
          | More next ↦ pairs_from n fields s next a base
          | Ends last ↦ cells_filled a (record_closed_at fields a base last)
          | Neither place ↦ cells_filled a (fault_at 11 place)
        ]
    | Err e ↦ cells_filled a (Err e)
  ]) (elim q [
    | Ok end ↦
        elim (next_after s end 125) [
          | More next ↦ pairs_from n fields s next b base
          | Ends last ↦ cells_filled b (record_closed_at fields b base last)
          | Neither place ↦ cells_filled b (fault_at 11 place)
        ]
    | Err e ↦ cells_filled b (Err e)
  ])
  alike-after n at h room rest (Ok end) q e l = rw (← e) (alike_next n end h room rest (next_after s end 125) (next-in s end l.1 125 (omega arith)))
  alike-after n at h room rest (Err x) q e l = rw (← e) (alike-with h room (Err x))

  alike-pairs : (n : ℕ) (a b : List ℕ) → Alike (base + 2 * length fields) a b → base + 2 * length fields ≤ length a → (at : ℕ) → at ≤ length s → ReadAlike (base + 2 * length fields) (pairs_from n fields s at a base) (pairs_from n fields s at b base)
  unfolding pairs_from
  alike-pairs zero a b h room at l = alike-with h room (fault_at 11 at)
  alike-pairs (suc n) a b h room at l =
      let p = pair_at fields s at a base in
      let q = pair_at fields s at b base in
      let pair = alike-pair h room at l in
      let read = pair-in fields s base a at l in
      let still : base + 2 * length fields ≤ length p.cells = omega (arith, read.kept.length-same) in
      alike-after n at pair.same-cells still (λ next. alike-pairs n p.cells q.cells pair.same-cells still next) p.outcome q.outcome pair.same_outcome
      read.place

  alike-members : (a b : List ℕ) → Alike (base + 2 * length fields) a b → base + 2 * length fields ≤ length a → (at : ℕ) → at ≤ length s → (x : Next) → NextIn s at x → ReadAlike (base + 2 * length fields) (members_of fields s a base x) (members_of fields s b base x)
  unfolding members_of
  alike-members a b h room at l (More next) e = alike-pairs (length s) a b h room next e.1
  alike-members a b h room at l (Ends last) e = alike-closed h room last
  alike-members a b h room at l (Neither place) e = alike-with h room (fault_at 11 place)

  pub room-alike : (a b : List ℕ) → length a ≡ length b → record_has_room s a base (length fields) ≡ record_has_room s b base (length fields)
  unfolding record_has_room
  room-alike a b long = rw long

  -- a record
  pub record-alike : (a b : List ℕ) → Alike base a b → record_has_room s a base (length fields) ≡ true → (at : ℕ) → at ≤ length s → ReadAlike (base + 2 * length fields) (record_at fields s at a base) (record_at fields s at b base)
  unfolding record_at
  record-alike a b h has at l =
      let room = (room-all s a base (length fields) has).1.1 in
      let clear = alike-cleared base a b h (2 * length fields) room in
      rw (has, sym (room-alike a b h.same_length) ∙ has)
      (alike-members (cleared a base (2 * length fields)) (cleared b base (2 * length fields)) clear
      (omega (arith, (kept-cleared base (2 * length fields) a (2 * length fields) (omega arith)).length-same)) at l (first_in s at 125) (first-in s at 125 (omega arith)))

  -- one that has no room is not read at all
  pub record-unread : (a : List ℕ) → record_has_room s a base (length fields) ≡ false → (at : ℕ) → record_at fields s at a base ≡ cells_filled a (fault_at 99 at)
  unfolding record_at
  record-unread a none at = rw none
