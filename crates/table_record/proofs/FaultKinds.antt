-- Which kinds a record can give: those of its names and values, 14, 19 and 11; and 99 exactly where there is no room for it.
-- Assumes nothing.
use Rattle.std.specs.Prelude.{Ok, Err}
use Prim.Native.Nat.{ℕ, zero, suc, ◌*◌}
use mathlib.Core.Path.{◌≡◌, refl, ap}
use mathlib.Core.Bool.{Bool, true, false, false≢true}
use mathlib.Core.List.{List, [], ◌∷◌, ◌++◌, map, flat_map}
use lib.ListN.{length, replicate}
use Rattle.json_bytes.specs.Reads.{within, fault_at}
use Rattle.json_bytes.proofs.Laws.{either}
use Rattle.json_bytes.proofs.FaultKinds.{wider, in_right, below, in_order, Faults, of-reading, kind_of}
use Rattle.json_bytes.specs.Ascii.{codes}
use Rattle.table_rows.specs.Types.{date, integer, string, string_id, text}
use Rattle.table_rows.specs.Rows.{Field}
use Rattle.table_fields.specs.Fields.{field, required, optional}
use Rattle.table_value.specs.Value.{text_type}
use Rattle.table_value.specs.declared.ValueRead.{ValueRead}
use Rattle.table_value.specs.declared.ValueRead.TheVariants.{Held, Null, Bad}
use Rattle.table_value.proofs.FaultKinds.{value_kinds, ValueFaults, value-kinds, typed_kinds, any-type}
use Rattle.table_name.specs.Name.{NameRead, name_at, colon_at, first_in, next_after}
use Rattle.table_name.specs.declared.Next.{Next}
use Rattle.table_name.specs.declared.Next.TheVariants.{More, Ends, Neither}
use Rattle.table_name.proofs.FaultKinds.{name_kinds, NameFaults, name-kinds, colon_kinds, colon-kinds}
use Rattle.table_record.specs.Record.{
  Filled,
  cells_filled,
  is_read,
  type_of,
  stored_value,
  after_colon,
  after_name,
  pair_at,
  is_missing,
  record_closed_at,
  pairs_from,
  members_of,
  record_has_room,
  cleared,
  record_at,
}
use Rattle.table_record.proofs.Laws.{record-room, record-full}
use Rattle.table_record.proofs.Opens.{open-records}

-- what stands around the values, and the values
abbrev around_kinds : List ℕ
around_kinds = 11 ∷ 14 ∷ 19 ∷ (name_kinds ++ colon_kinds)

abbrev pub record_kinds : List ℕ
record_kinds = around_kinds ++ typed_kinds

abbrev pub RecordFaults : Filled → Type 0
RecordFaults f = Faults record_kinds f.outcome

module _ (fields : List Field) (s : List ℕ) (base : ℕ) where
  stored-kinds : (cells : List ℕ) (k start ty : ℕ) (v : ValueRead) → ValueFaults (value_kinds ty) v → RecordFaults (stored_value cells base k start v)
  unfolding stored_value
  stored-kinds cells k start ty (Held end) h = tt
  stored-kinds cells k start ty (Null end) h = tt
  stored-kinds cells k start ty (Bad kind place) h = in_right around_kinds typed_kinds kind (any-type ty kind h)

  behind-colon : (cells : List ℕ) (k end : ℕ) → RecordFaults (after_colon fields s cells base k (colon_at s end))
  unfolding after_colon
  behind-colon cells k end =
      of-reading (λ r. RecordFaults (after_colon fields s cells base k r)) colon_kinds
      (λ start. stored-kinds cells k start (type_of fields k) _ (value-kinds s start (type_of fields k)))
      (λ kind place h. wider colon_kinds record_kinds refl kind h) (colon_at s end) (colon-kinds s end)

  behind-name : (at : ℕ) (cells : List ℕ) (n : NameRead) → NameFaults name_kinds n → RecordFaults (after_name fields s at cells base n)
  unfolding after_name
  behind-name at cells (Ok n) h =
      either RecordFaults (is_read cells base n.index) _ _ refl (behind-colon cells n.index n.end)
  behind-name at cells (Err e) h = wider name_kinds record_kinds refl e.kind h

  pair-kinds : (at : ℕ) (cells : List ℕ) → RecordFaults (pair_at fields s at cells base)
  unfolding pair_at
  pair-kinds at cells = behind-name at cells (name_at fields s at) (name-kinds fields s at)

  closed-kinds : (cells : List ℕ) (at : ℕ) → Faults record_kinds (record_closed_at fields cells base at)
  unfolding record_closed_at
  closed-kinds cells at = either (Faults record_kinds) (is_missing fields cells base 0) _ _ refl tt

  behind-pair : (n : ℕ) (cells : List ℕ) → ((next : ℕ) → RecordFaults (pairs_from n fields s next cells base)) → (x : Next) → RecordFaults (elim x [ More next ↦ pairs_from n fields s next cells base | Ends last ↦ cells_filled cells (record_closed_at fields cells base last) | Neither place ↦ cells_filled cells (fault_at 11 place) ])
  behind-pair n cells rest (More next) = rest next
  behind-pair n cells rest (Ends last) = closed-kinds cells last
  behind-pair n cells rest (Neither place) = refl

  pairs-kinds : (n at : ℕ) (cells : List ℕ) → RecordFaults (pairs_from n fields s at cells base)
  unfolding pairs_from
  pairs-kinds zero at cells = refl
  pairs-kinds (suc n) at cells =
      let pair = pair_at fields s at cells base in
      of-reading (λ r. RecordFaults (elim r [
        | Ok end ↦
            elim (next_after s end 125) [
              | More next ↦ pairs_from n fields s next pair.cells base
              | Ends last ↦ cells_filled pair.cells (record_closed_at fields pair.cells base last)
              | Neither place ↦ cells_filled pair.cells (fault_at 11 place)
            ]
        | Err e ↦ cells_filled pair.cells (Err e)
      ])) record_kinds (λ end. behind-pair n pair.cells (λ next. pairs-kinds n next pair.cells) (next_after s end 125))
      (λ kind place h. h) pair.outcome (pair-kinds at cells)

  members-kinds : (cells : List ℕ) (x : Next) → RecordFaults (members_of fields s cells base x)
  unfolding members_of
  members-kinds cells (More at) = pairs-kinds (length s) at cells
  members-kinds cells (Ends at) = closed-kinds cells at
  members-kinds cells (Neither at) = refl

  pub record-kinds : (at : ℕ) (cells : List ℕ) → record_has_room s cells base (length fields) ≡ true → RecordFaults (record_at fields s at cells base)
  record-kinds at cells e =
      rw (record-room fields s at cells base e) (members-kinds (cleared cells base (2 * length fields)) (first_in s at 125))

  -- 99 says that there is no room, and nothing else does
  pub no-room-99 : (at : ℕ) (cells : List ℕ) → record_has_room s cells base (length fields) ≡ false → (record_at fields s at cells base).outcome ≡ fault_at 99 at
  no-room-99 at cells e = ap (λ (f : Filled). f.outcome) (record-full fields s at cells base e)

  pub record-99 : (at place : ℕ) (cells : List ℕ) → (record_at fields s at cells base).outcome ≡ fault_at 99 place → record_has_room s cells base (length fields) ≡ false
  unfolding below flat_map within text_type
  record-99 at place cells e = go (record_has_room s cells base (length fields)) refl
    where
      go : (t : Bool) → record_has_room s cells base (length fields) ≡ t → t ≡ false
      go true room = absurd (false≢true (rw e at (record-kinds at cells room)))
      go false room = refl

-- ---- what the set is, and that each is given, in a table with a field of each type that has a kind of its own
pub record-kinds-are : in_order record_kinds
    ≡ (10 ∷ 11 ∷ 13 ∷ 14 ∷ 15 ∷ 17 ∷ 18 ∷ 19 ∷ 30 ∷ 31 ∷ 32 ∷ 33 ∷ 34 ∷ [])
unfolding below flat_map within text_type
record-kinds-are = refl

abbrev typed : List Field
typed =
    field "D" date optional ∷ field "I" integer optional ∷ field "S" string optional ∷ field "K" string_id required ∷ field "T" text optional ∷ []

-- one text for each kind, in order
abbrev texts : List (List ℕ)
texts =
    (codes "{\"" ++ (0xFF ∷ [])) ∷
    codes "{" ∷
    codes "{\"X\"" ∷
    codes "{\"I\":1,\"I\"" ∷
    codes "{\"I\":true" ∷
    codes "{\"D\":\"\"" ∷
    codes "{\"I\":1e99" ∷
    codes "{}" ∷
    codes "{\"T\":\"\\u007F\"" ∷
    codes "{\"S\":\" \"" ∷
    codes "{\"K\":\"\\u00E9\"" ∷
    codes "{\"T\":\"\\uD800\"" ∷
    codes "{\"I\":0.5" ∷
    []

pub record-given : map (λ s. kind_of (record_at typed s 0 (replicate 10 0) 0).outcome) texts ≡ in_order record_kinds
unfolding open-records below flat_map
record-given = refl
