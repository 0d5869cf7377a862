-- What a cell says to whoever reads it as a rule does: `is_given`, `start_of`, and the end in the cell behind the start.
-- Assumes nothing.
use Rattle.std.specs.Prelude.{Ok}
use Prim.Native.Nat.{ℕ, ◌+◌, ◌-◌, ◌*◌, ◌≤◌, ◌<◌}
use mathlib.Core.Path.{◌≡◌, refl, sym, ap, ◌∙◌}
use mathlib.Core.Bool.{Bool, true, false, ◌&&◌, false≢true}
use mathlib.Core.Logic.{◌↔◌}
use mathlib.Core.List.{List, []}
use native.Mathlib.Nat.{add_assoc}
use native.Mathlib.Omega.{arith}
use borrow.Author.Tests.{lt-ltb, ltb-true, ltb-false}
use lib.ListN.{length, get_or, take, drop}
use lib.Dec.{ltb, leb}
use Rattle.json_bytes.specs.Reads.{byte_at, within}
use Rattle.json_bytes.proofs.Laws.{by-test}
use Rattle.parts.specs.Part.{part_of}
use Rattle.parts.proofs.Laws.{part-is}
use Rattle.json_text.specs.Text.{text_read_at}
use Rattle.table_rows.specs.Types.{string, text}
use Rattle.table_rows.specs.Rows.{Field}
use Rattle.table_value.specs.Value.{value_at}
use Rattle.table_value.specs.declared.ValueRead.TheVariants.{Null}
use Rattle.table_record.specs.Record.{start_cell, end_cell, type_of}
use Rattle.rule_cells.specs.Cells.{cell_of, start_of, is_given}
use Rattle.rule_cells.proofs.Laws.{cell-is}
use Rattle.table_meaning.proofs.Typed.{held-typed, typed-text}
use Rattle.table_meaning.specs.Meaning.{◌∈◌, Span, Member, member, Says, IsValue, IsNull, IsAbsent, is_nullable, Gives, HeldIn, record_in, Means, record_width}

-- ---- the two cells of a field of a record
module _ (fields : List Field) (s : List ℕ) (x : Span) (cells : List ℕ) (base : ℕ) (gives : Gives fields s x cells base) (k : ℕ) where
  -- its value stands in the record
  stands-within : (name start end : ℕ) (is_null : Bool) → member name k start end is_null ∈ gives.members → (x.from < start) × (start < end) × (end < x.to)
  stands-within name start end is_null i =
      let h = gives.within (member name k start end is_null) i in
      (omega (arith, h.0, h.1), h.2, h.3)

  -- an end above 0 is a value's, and that value is the one of each name that is field k
  says-held : {start end : ℕ} → Says gives.members k start end → 0 < end → HeldIn fields s x k start end
  says-held (IsValue {name} {start} {end} i) l =
      let h = stands-within name start end false i in
      let held = (gives.object.stands _ i).value in
      record { held = held; typed = held-typed s start (type_of fields k) end held; after = h.0; some = h.1; before = h.2 }
  says-held (IsNull i) l = absurd (omega arith)
  says-held (IsAbsent out) l = absurd (omega arith)

  says-value : {start end : ℕ} → Says gives.members k start end → 0 < end → (m : Member) × (m ∈ gives.members) × (m.field ≡ k) × (m.null ≡ false)
  says-value (IsValue i) l = (_, i, refl, refl)
  says-value (IsNull i) l = absurd (omega arith)
  says-value (IsAbsent out) l = absurd (omega arith)

  value-says : {start end : ℕ} → Says gives.members k start end → (m : Member) → m ∈ gives.members → m.field ≡ k → m.null ≡ false → 0 < end
  value-says (IsValue {name} {start} {end} i) m j e q = omega (arith, (stands-within name start end false i).1)
  value-says (IsNull i) m j e q =
      absurd (false≢true (sym q ∙ ap (λ (y : Member). y.null) (gives.once m _ j i e)))
  value-says (IsAbsent out) m j e q = absurd (out m j e)

  -- an end of 0 is a null's, or an absent field's
  says-null : {start end : ℕ} → Says gives.members k start end → 0 < start → end ≡ 0 → (behind : ℕ) × (value_at s start (type_of fields k) ≡ Null behind)
  says-null (IsValue {name} {start} {end} i) l z = absurd (omega (arith, (stands-within name start end false i).1))
  says-null (IsNull {name} {start} {end} i) l z = (end, (gives.object.stands _ i).value)
  says-null (IsAbsent out) l z = absurd (omega arith)

  says-absent : {start end : ℕ} → Says gives.members k start end → (start ≡ 0) ↔ ((m : Member) → m ∈ gives.members → m.field ≡ k → ⊥)
  says-absent (IsValue {name} {start} {end} i) = (λ z. absurd (omega (arith, (stands-within name start end false i).0)), λ out. absurd (out _ i refl))
  says-absent (IsNull {name} {start} {end} i) = (λ z. absurd (omega (arith, (stands-within name start end true i).0)), λ out. absurd (out _ i refl))
  says-absent (IsAbsent out) = (λ _. out, λ _. refl)

-- ---- a field of a record of a table, as a rule reads it
module _ (single : Bool) (fields : List Field) (s cells : List ℕ) (n : ℕ) (means : Means single fields s cells n) (r : ℕ) (l : r < n) (k : ℕ) (m : k < length fields) where
  abbrev given : Bool
  given = is_given cells (record_width fields) r k

  abbrev start : ℕ
  start = start_of cells (record_width fields) r k

  abbrev end : ℕ
  end = cell_of cells (record_width fields) r (2 * k + 1)

  abbrev here : Gives fields s (record_in means.records r) cells (r * record_width fields)
  here = means.gives r l

  cell-read : (j : ℕ) → j ≤ 2 * k + 1 → cell_of cells (record_width fields) r j ≡ get_or cells (r * record_width fields + j) 0
  cell-read j h = cell-is cells (record_width fields) r j (omega (arith, l, means.few)) (omega (arith, means.narrow r l)) (omega (arith, means.narrow r l))

  -- what the two cells say of the record, as a rule reads them
  pub says : Says here.members k start end
  unfolding start_of start_cell end_cell
  says = rw (cell-read (2 * k) (omega arith), cell-read (2 * k + 1) (omega arith), ← add_assoc) (here.cell k m)

  given_above : given ≡ true → 0 < end
  unfolding is_given
  given_above e = ltb-true 0 end e

  above-given : 0 < end → given ≡ true
  unfolding is_given
  above-given h = lt-ltb 0 end h

  not-given : given ≡ false → end ≡ 0
  unfolding is_given
  not-given e = omega (arith, ltb-false 0 end e)

  -- given exactly if a name of the record is the field's, with a value that is not null
  pub held-cell : (given ≡ true) ↔ ((m : Member) × (m ∈ here.members) × (m.field ≡ k) × (m.null ≡ false))
  held-cell = (
    λ e. says-value fields s _ cells _ here k says (given_above e),
    λ h. above-given (value-says fields s _ cells _ here k says h.0 h.1 h.2 h.3),
  )

  -- and then the cells are where that value stands
  pub held-value : given ≡ true → HeldIn fields s (record_in means.records r) k start end
  held-value e = says-held fields s _ cells _ here k says (given_above e)

  -- not given exactly if no name of the record is the field's, or its value is null
  pub null-cell : (given ≡ false) ↔ ((m : Member) → m ∈ here.members → m.field ≡ k → m.null ≡ true)
  null-cell = (λ e m i q. of-null e m i q m.null refl, of-given given refl)
    where
      of-null : given ≡ false → (m : Member) → m ∈ here.members → m.field ≡ k → (t : Bool) → m.null ≡ t → t ≡ true
      of-null e m i q true z = refl
      of-null e m i q false z = absurd (false≢true (sym e ∙ held-cell.1 (m, i, q, z)))

      of-given : (t : Bool) → given ≡ t → ((m : Member) → m ∈ here.members → m.field ≡ k → m.null ≡ true) → given ≡ false
      of-given true e all = let h = held-cell.0 e in absurd (false≢true (sym h.3 ∙ all h.0 h.1 h.2))
      of-given false e all = e

  -- one that is not given and has a start is a null, written so or as the empty string, where the start says
  pub null-value : given ≡ false → 0 < start → (behind : ℕ) × (value_at s start (type_of fields k) ≡ Null behind)
  null-value e h = says-null fields s _ cells _ here k says h (not-given e)

  -- a start of 0 says that no name of the record is the field's
  pub absent-cell : (start ≡ 0) ↔ ((m : Member) → m ∈ here.members → m.field ≡ k → ⊥)
  absent-cell = says-absent fields s _ cells _ here k says

  -- a field that is not nullable is given
  pub mandatory-cell : is_nullable fields k ≡ false → given ≡ true
  unfolding end_cell
  mandatory-cell e = above-given (rw (cell-read (2 * k + 1) (omega arith), ← add_assoc) (here.full k m e))

  -- the value as the part of the file where it stands, quotes included, and nothing for null
  pub value-part : given ≡ true → part_of s start end ≡ take (end - start) (drop start s)
  value-part e =
      let h = held-value e in
      part-is s start end (omega (arith, h.some)) (omega (arith, h.before, (means.inside r l).1))

  pub null-part : given ≡ false → part_of s start end ≡ []
  unfolding part_of
  null-part e =
      let none : 0 - start ≡ 0 = omega arith in
      rw (not-given e) (by-test (λ (part : List ℕ). part ≡ []) (leb start 0 && leb 0 (length s)) _ _ (λ _. rw none) (λ _. refl))

  -- a given String, StringID or Text is a string with a character at least, from its opening to its closing quote
  pub text-cell : given ≡ true → within string text (type_of fields k) ≡ true → (byte_at s start ≡ 34) × (text_read_at s start ≡ Ok end) × (start + 2 < end)
  text-cell e is_text = typed-text s start (type_of fields k) end is_text (held-value e).typed

-- ---- the records
-- no byte stands in two of them
pub records-apart : (single : Bool) (fields : List Field) (s cells : List ℕ) (n : ℕ) (means : Means single fields s cells n) (r q i : ℕ) → r < n → q < n → ((record_in means.records r).from ≤ i) × (i < (record_in means.records r).to) → ((record_in means.records q).from ≤ i) × (i < (record_in means.records q).to) → r ≡ q
records-apart single fields s cells n means r q i l m here there = go (ltb r q) (ltb q r) refl refl
  where
    go : (a b : Bool) → ltb r q ≡ a → ltb q r ≡ b → r ≡ q
    go true b e f = absurd (omega (arith, means.order r q (ltb-true r q e) m, here.1, there.0))
    go false true e f = absurd (omega (arith, means.order q r (ltb-true q r f) l, there.1, here.0))
    go false false e f = omega (arith, ltb-false r q e, ltb-false q r f)
