-- The cells after a store, one turn of each loop of a record's reading, and each way through the code as an equation.
-- Assumes nothing.
use Rattle.json_bytes.specs.Reads.{Reading, fault_at}
use Rattle.std.specs.Prelude.{Ok, Err}
use Rattle.json_bytes.specs.declared.Fault.{Fault}
use Prim.Native.Nat.{ℕ, zero, suc, ◌+◌, ◌*◌, ◌^◌, ◌≤◌, ◌<◌}
use mathlib.Core.Path.{◌≡◌, refl, sym, ap, ◌∙◌}
use mathlib.Core.Bool.{Bool, true, false}
use mathlib.Core.List.{List, []}
use native.Mathlib.Nat.{zero-add}
use native.Mathlib.Numerals.{add-one}
use native.Mathlib.Omega.{arith}
use borrow.Author.Tests.{lt-ltb, le-ltb, le-leb, lt-leb, leb-true, ltb-true}
use lib.ListN.{length, set, get_or, get_or-map}
use lib.Dec.{ltb, leb}
use Rattle.json_bytes.proofs.Laws.{both_left, both_right}
use Rattle.json_bytes.proofs.Bounds.{Within}
use Rattle.table_rows.specs.Rows.{Field, type_at, field_name_at, field_at, fields_from}
use Rattle.table_rows.proofs.Laws.{fields-length, fields_at}
use Rattle.table_name.specs.Name.{named, name_at, colon_at, first_in, next_after}
use Rattle.table_name.specs.declared.Named.{Named}
use Rattle.table_name.specs.declared.Next.{Next}
use Rattle.table_name.specs.declared.Next.TheVariants.{More, Ends, Neither}
use Rattle.table_name.specs.Guess.{names_apart, guess_end}
use Rattle.table_name.proofs.Guess.{own-some, apart-own, guess-right}
use Rattle.table_value.specs.Value.{value_at}
use Rattle.table_value.proofs.Bounds.{ValueIn, value_in}
use Rattle.table_record.proofs.Bounds.{NameIn, NextIn, name_in, colon-in, next-in, first-in, pair-in}
use Rattle.table_record.specs.Record.{Filled, cells_filled, start_cell, is_read, cleared, type_of, stored_value, after_colon, after_name, pair_at, is_missing, record_closed_at, pairs_from, members_of, record_has_room, record_at}

-- ---- the cells
module _ (cells : List ℕ) (base : ℕ) where
  pub cleared_none : cleared cells base 0 ≡ cells
  unfolding cleared
  cleared_none = refl

  pub cleared_more : (i : ℕ) → cleared cells base (i + 1) ≡ set (cleared cells base i) (base + i) 0
  unfolding cleared
  cleared_more i = rw (add-one i, cleared)

pub ruleset clearing = (cleared_none, cleared_more)

-- ---- the fields
module _ (rows names : List ℕ) (count k : ℕ) where
  no_field : Field
  no_field = record { name = []; type = 0; nullable = true }

  pub type-told : k < count → type_of (fields_from rows names count 0) k ≡ type_at rows k
  unfolding type_of no_field field_at
  type-told l =
      get_or-map (λ (f : Field). f.type) (fields_from rows names count 0) k no_field
      ∙ ap (λ (f : Field). f.type) (fields_at rows names no_field count 0 k l)
      ∙ rw (zero-add k)

-- ---- room for a record
module _ (s cells : List ℕ) (base count : ℕ) where
  pub room-is : length s < 2 ^ 32 → count ≤ 64 → base + 2 * count ≤ length cells → record_has_room s cells base count ≡ true
  unfolding record_has_room
  room-is a b c = rw (lt-ltb (length s) (2 ^ 32) a, le-leb count 64 b, le-leb (base + 2 * count) (length cells) c)

  pub room-long : 2 ^ 32 ≤ length s → record_has_room s cells base count ≡ false
  unfolding record_has_room
  room-long a = rw (le-ltb (length s) (2 ^ 32) a)

  pub room-many : length s < 2 ^ 32 → 64 < count → record_has_room s cells base count ≡ false
  unfolding record_has_room
  room-many a b = rw (lt-ltb (length s) (2 ^ 32) a, lt-leb count 64 b)

  pub room-short : length s < 2 ^ 32 → count ≤ 64 → length cells < base + 2 * count → record_has_room s cells base count ≡ false
  unfolding record_has_room
  room-short a b c = rw (lt-ltb (length s) (2 ^ 32) a, le-leb count 64 b, lt-leb (base + 2 * count) (length cells) c)

  pub room-all : record_has_room s cells base count ≡ true → (length s < 2 ^ 32) × ((count ≤ 64) × (base + 2 * count ≤ length cells))
  unfolding record_has_room
  room-all e =
      let h = both_right (ltb (length s) (2 ^ 32)) _ e in (
        ltb-true (length s) (2 ^ 32) (both_left (ltb (length s) (2 ^ 32)) _ e),
        (leb-true count 64 (both_left (leb count 64) _ h), leb-true (base + 2 * count) (length cells) (both_right (leb count 64) _ h)),
      )

pub ruleset rooms = (room-is, room-long, room-many, room-short)

-- ---- a value
pub value_inside : (s : List ℕ) (start ty : ℕ) → start ≤ length s → ValueIn s start (value_at s start ty)
value_inside s start ty l = value_in s start l ty

-- ---- a name and its value
-- where names are told apart by their bytes, each has some
pub guess_named : (rows names : List ℕ) (count k : ℕ) → names_apart rows names count ≡ true → k < count → 0 < length (field_name_at rows names k)
guess_named rows names count k apart l = own-some rows names k count (apart-own rows names count k apart l)

-- a guessed field whose name stands there, where the names are apart, is the one that the name is
pub name_guessed : (rows names s : List ℕ) (count at k : ℕ) → names_apart rows names count ≡ true → k < count → 0 < guess_end rows names s at k → name_at (fields_from rows names count 0) s at ≡ named k (guess_end rows names s at k)
name_guessed rows names s count at k apart l p =
    guess-right rows names s count at k l (apart-own rows names count k apart l) p

pub ruleset guessing = (guess_named, name_guessed)

module _ (fields : List Field) (s : List ℕ) (at : ℕ) (cells : List ℕ) (base : ℕ) where
  pub pair_unknown : (e : Fault) → name_at fields s at ≡ Err e → pair_at fields s at cells base ≡ cells_filled cells (Err e)
  unfolding pair_at after_name
  pair_unknown e h = rw (h, after_name)

  module _ (n : Named) (known : name_at fields s at ≡ Ok n) where
    pub pair_twice : 0 < get_or cells (base + 2 * n.index) 0 → pair_at fields s at cells base ≡ cells_filled cells (fault_at 14 at)
    unfolding pair_at after_name is_read start_cell
    pair_twice l = rw (known, after_name, lt-ltb 0 (get_or cells (base + 2 * n.index) 0) l)

    module _ (fresh : get_or cells (base + 2 * n.index) 0 ≤ 0) where
      pub pair_colon : (e : Fault) → colon_at s n.end ≡ Err e → pair_at fields s at cells base ≡ cells_filled cells (Err e)
      unfolding pair_at after_name is_read start_cell after_colon
      pair_colon e h = rw (known, after_name, le-ltb 0 (get_or cells (base + 2 * n.index) 0) fresh, h, after_colon)

      pub pair_value : (start : ℕ) → colon_at s n.end ≡ Ok start → pair_at fields s at cells base ≡ stored_value cells base n.index start (value_at s start (type_of fields n.index))
      unfolding pair_at after_name is_read start_cell after_colon
      pair_value start h = rw (known, after_name, le-ltb 0 (get_or cells (base + 2 * n.index) 0) fresh, h, after_colon)

      -- and by the type that the field's row has
      pub pair_stored : (start : ℕ) → colon_at s n.end ≡ Ok start → (ty : ℕ) → ty ≡ type_of fields n.index → (f : Filled) → f ≡ stored_value cells base n.index start (value_at s start ty) → f ≡ pair_at fields s at cells base
      pair_stored start h ty is_type f is_stored =
          is_stored ∙ ap (λ t. stored_value cells base n.index start (value_at s start t)) is_type ∙ sym (pair_value start h)

-- the field is one of the table's, and what stands behind its name stands in the file
module _ (rows names : List ℕ) (count : ℕ) (s : List ℕ) (at : ℕ) (n : Named) (l : at ≤ length s) (known : name_at (fields_from rows names count 0) s at ≡ Ok n) where
  pub known_field : n.index < count
  known_field =
      let h : NameIn (fields_from rows names count 0) s at (Ok n) = rw known at (name_in (fields_from rows names count 0) s at l) in
      omega (arith, h.0, fields-length rows names count 0)

  pub known_end : n.end ≤ length s
  known_end =
      let h : NameIn (fields_from rows names count 0) s at (Ok n) = rw known at (name_in (fields_from rows names count 0) s at l) in
      h.1.1

pub colon_place : (s : List ℕ) (end start : ℕ) → end ≤ length s → colon_at s end ≡ Ok start → start ≤ length s
colon_place s end start l e =
    let h : Within s end (Ok start) = rw e at (colon-in s end l) in
    h.1

pub ruleset pairing = (pair_unknown, pair_twice, pair_colon, pair_value, known_field, known_end, colon_place, type-told)

-- ---- the closing brace
module _ (fields : List Field) (cells : List ℕ) (base at : ℕ) (t : Bool) (is_missed : t ≡ is_missing fields cells base 0) where
  pub close-missing : t ≡ true → record_closed_at fields cells base at ≡ fault_at 19 at
  unfolding record_closed_at
  close-missing e = rw (← is_missed, e)

  pub close-whole : t ≡ false → record_closed_at fields cells base at ≡ Ok (at + 1)
  unfolding record_closed_at
  close-whole e = rw (← is_missed, e)

-- ---- the pairs: what is left of the whole at a place, and one law for each way a turn goes
pub record Left (fields : List Field) (s : List ℕ) (base : ℕ) (whole : Filled) (cells : List ℕ) (at : ℕ) : Type 0 where
  pub fuel : ℕ
  pub inside : at ≤ length s
  pub enough : length s < at + fuel
  pub reads : pairs_from fuel fields s at cells base ≡ whole

pub left-all : (fields : List Field) (s : List ℕ) (base : ℕ) (cells : List ℕ) (at : ℕ) → 0 < at → at ≤ length s → Left fields s base (pairs_from (length s) fields s at cells base) cells at
left-all fields s base cells at p l = record { fuel = length s; inside = l; enough = omega arith; reads = refl }

module _ (fields : List Field) (s : List ℕ) (base : ℕ) (whole : Filled) (cells : List ℕ) (at : ℕ) (then : List ℕ) (r : Reading) (is_pair : cells_filled then r ≡ pair_at fields s at cells base) where
  outcome-told : (pair_at fields s at cells base).outcome ≡ r
  outcome-told = sym (ap (λ (f : Filled). f.outcome) is_pair)

  cells_told : (pair_at fields s at cells base).cells ≡ then
  cells_told = sym (ap (λ (f : Filled). f.cells) is_pair)

  fault-by : (f : ℕ) → length s < at + f → at ≤ length s → pairs_from f fields s at cells base ≡ whole → (x : Fault) → r ≡ Err x → cells_filled then (Err x) ≡ whole
  unfolding pairs_from
  fault-by zero m l q x e = absurd (omega arith)
  fault-by (suc g) m l q x e = rw (outcome-told ∙ e, pairs_from, cells_told) at q

  module _ (end : ℕ) (is_whole : r ≡ Ok end) (x : Next) (is_next : x ≡ next_after s end 125) where
    more_by : (f : ℕ) → length s < at + f → at ≤ length s → pairs_from f fields s at cells base ≡ whole → (next : ℕ) → at < next → next ≤ length s → x ≡ More next → Left fields s base whole then next
    unfolding pairs_from
    more_by zero m l q next h k e = absurd (omega arith)
    more_by (suc g) m l q next h k e =
        record {
          fuel = g;
          inside = k;
          enough = omega arith;
          reads = rw (outcome-told ∙ is_whole, pairs_from, sym is_next ∙ e, pairs_from, cells_told) at q;
        }

    ends_by : (f : ℕ) → length s < at + f → at ≤ length s → pairs_from f fields s at cells base ≡ whole → (last : ℕ) (t : Reading) → x ≡ Ends last → t ≡ record_closed_at fields then base last → cells_filled then t ≡ whole
    unfolding pairs_from
    ends_by zero m l q last t e is_closed = absurd (omega arith)
    ends_by (suc g) m l q last t e is_closed =
        rw is_closed (rw (outcome-told ∙ is_whole, pairs_from, sym is_next ∙ e, pairs_from, cells_told) at q)

    neither-by : (f : ℕ) → length s < at + f → at ≤ length s → pairs_from f fields s at cells base ≡ whole → (place : ℕ) → x ≡ Neither place → cells_filled then (fault_at 11 place) ≡ whole
    unfolding pairs_from
    neither-by zero m l q place e = absurd (omega arith)
    neither-by (suc g) m l q place e =
        rw (outcome-told ∙ is_whole, pairs_from, sym is_next ∙ e, pairs_from, cells_told) at q

  module _ (left : Left fields s base whole cells at) where
    pair_place : Within s at r
    pair_place = rw (ap (λ (f : Filled). f.outcome) is_pair) (pair-in fields s base cells at left.inside).place

    pub turn-fault : (x : Fault) → r ≡ Err x → cells_filled then (Err x) ≡ whole
    turn-fault = fault-by left.fuel left.enough left.inside left.reads

    module _ (end : ℕ) (is_whole : r ≡ Ok end) (x : Next) (is_next : x ≡ next_after s end 125) where
      -- the pair ends behind its first byte, and what follows stands behind it
      pub next_place : (at < end) × ((end ≤ length s) × NextIn s end x)
      next_place =
          let h : Within s at (Ok end) = rw is_whole at pair_place in
          (h.0, (h.1, rw is_next (next-in s end h.1 125 (omega arith))))

      pub more-place : (next : ℕ) → x ≡ More next → (at < next) × (next ≤ length s)
      more-place next e =
          let h : (end < next) × (next ≤ length s) = rw e at next_place.1.1 in
          (omega (arith, next_place.0, h.0), h.1)

      pub ends-place : (last : ℕ) → x ≡ Ends last → last < length s
      ends-place last e =
          let h : (end ≤ last) × (last < length s) = rw e at next_place.1.1 in
          h.1

      pub turn_more : (next : ℕ) → x ≡ More next → Left fields s base whole then next
      turn_more next e =
          more_by end is_whole x is_next left.fuel left.enough left.inside left.reads next (more-place next e).0 (more-place next e).1 e

      pub turn-ends : (last : ℕ) (t : Reading) → x ≡ Ends last → t ≡ record_closed_at fields then base last → cells_filled then t ≡ whole
      turn-ends = ends_by end is_whole x is_next left.fuel left.enough left.inside left.reads

      pub turn-neither : (place : ℕ) → x ≡ Neither place → cells_filled then (fault_at 11 place) ≡ whole
      turn-neither = neither-by end is_whole x is_next left.fuel left.enough left.inside left.reads

-- ---- a record
pub both : (f g : Filled) → f ≡ g → (f.outcome ≡ g.outcome) × (f.cells ≡ g.cells)
both f g e = (ap (λ (x : Filled). x.outcome) e, ap (λ (x : Filled). x.cells) e)

module _ (s : List ℕ) (at : ℕ) (x : Next) (is_first : x ≡ first_in s at 125) where
  pub first_more : (next : ℕ) → x ≡ More next → (at < next) × (next ≤ length s)
  first_more next e = rw (sym is_first ∙ e) at (first-in s at 125 (omega arith))

  pub first_ends : (last : ℕ) → x ≡ Ends last → last < length s
  first_ends last e =
      let h : (at ≤ last) × (last < length s) = rw (sym is_first ∙ e) at (first-in s at 125 (omega arith)) in
      h.1

module _ (fields : List Field) (s : List ℕ) (at : ℕ) (cells : List ℕ) (base : ℕ) where
  pub record-room : record_has_room s cells base (length fields) ≡ true → record_at fields s at cells base ≡ members_of fields s (cleared cells base (2 * length fields)) base (first_in s at 125)
  unfolding record_at
  record-room e = rw e

  pub record-full : record_has_room s cells base (length fields) ≡ false → record_at fields s at cells base ≡ cells_filled cells (fault_at 99 at)
  unfolding record_at
  record-full e = rw e

module _ (rows names : List ℕ) (count : ℕ) (s : List ℕ) (at : ℕ) (cells : List ℕ) (base : ℕ) (t : Bool) (is_room : t ≡ record_has_room s cells base count) where
  abbrev fields : List Field
  fields = fields_from rows names count 0

  room-told : record_has_room s cells base (length fields) ≡ t
  room-told = rw (fields-length rows names count 0) (sym is_room)

  pub record-none : t ≡ false → cells_filled cells (fault_at 99 at) ≡ record_at fields s at cells base
  record-none e = sym (record-full fields s at cells base (room-told ∙ e))

  module _ (room : t ≡ true) (then : List ℕ) (is_cleared : then ≡ cleared cells base (2 * count)) (x : Next) (is_first : x ≡ first_in s at 125) where
    record-whole : record_at fields s at cells base ≡ members_of fields s then base x
    record-whole =
        record-room fields s at cells base (room-told ∙ room) ∙ rw (fields-length rows names count 0, ← is_cleared, ← is_first)

    pub record-more : (next : ℕ) (f : Filled) → x ≡ More next → f ≡ pairs_from (length s) fields s next then base → f ≡ record_at fields s at cells base
    unfolding members_of
    record-more next f e is_rest = rw (record-whole, e) is_rest

    pub record-ends : (last : ℕ) (r : Reading) → x ≡ Ends last → r ≡ record_closed_at fields then base last → cells_filled then r ≡ record_at fields s at cells base
    unfolding members_of
    record-ends last r e is_closed = rw (record-whole, e, is_closed)

    pub record-neither : (place : ℕ) → x ≡ Neither place → cells_filled then (fault_at 11 place) ≡ record_at fields s at cells base
    unfolding members_of
    record-neither place e = rw (record-whole, e)
