-- Where an object's names and values stand: between its braces, one behind the other, and within the file.
-- Assumes nothing.
use Rattle.table_name.specs.Name.{named as known}
use Rattle.std.specs.Prelude.{Ok}
use Prim.Native.Nat.{ℕ, ◌≤◌, ◌<◌}
use mathlib.Core.Path.{◌≡◌}
use mathlib.Core.Bool.{Bool, true, false, cond}
use mathlib.Core.List.Memᴰ
use mathlib.Core.List.{List, map}
use native.Mathlib.Omega.{arith}
use lib.ListN.{length}
use Rattle.json_bytes.proofs.Bounds.{Within}
use Rattle.table_rows.specs.Rows.{Field}
use Rattle.table_value.specs.declared.ValueRead.TheVariants.{Held, Null}
use Rattle.table_value.proofs.Bounds.{ValueIn, value_in}
use Rattle.table_name.specs.declared.Next.TheVariants.{Ends}
use Rattle.table_record.specs.Record.{type_of}
use Rattle.table_record.proofs.Bounds.{NameIn, name_in, colon-in, first-in}
use Rattle.table_meaning.specs.Meaning.{◌∈◌, Span, Member, span_of, MemberStands, Object}
use Rattle.table_meaning.proofs.Rows.{Proper, Behind, row-behind}

module _ (fields : List Field) (s : List ℕ) where
  -- a name and its value stand one behind the other, and the name is one of the table's
  pub stands-in : (m : Member) → MemberStands fields s m → m.name ≤ length s → (m.field < length fields) × (m.name < m.start) × (m.start < m.end) × (m.end ≤ length s)
  stands-in m stands l =
      let n : NameIn fields s m.name (known m.field stands.behind) = rw stands.named at (name_in fields s m.name l) in
      let c : Within s stands.behind (Ok m.start) = rw stands.colon at (colon-in s stands.behind n.1.1) in
      let v = go m.null (rw stands.value at (value_in s m.start c.1 (type_of fields m.field))) in
      (n.0, omega (arith, n.1.0, c.0), v.0, v.1)
    where
      go : (t : Bool) → ValueIn s m.start (cond t (Null m.end) (Held m.end)) → (m.start < m.end) × (m.end ≤ length s)
      go true h = h
      go false h = h

  module _ (x : Span) (members : List Member) (object : Object fields s x members) where
    proper : (y : Span) → ((m : Member) × (m ∈ members) × (span_of m ≡ y)) → Proper s y
    proper y (m, i, e) = rw (← e) (λ l. let h = stands-in m (object.stands m i) l in (omega (arith, h.1, h.2), h.3))

    between : Behind s x.from (map span_of members) (Ends object.last)
    between =
        row-behind s 125 (omega arith) (map span_of members) _ x.from _ (λ y i. proper y (Memᴰ.of_map span_of members i)) (first-in s x.from 125 (omega arith)) object.row

    pub object-proper : (x.from < x.to) × (x.to ≤ length s)
    object-proper =
        (omega (arith, object.ends, between.after, between.near.0), omega (arith, object.ends, between.near.1))

    pub object-within : (m : Member) → m ∈ members → (x.from < m.name) × (m.name < m.start) × (m.start < m.end) × (m.end < x.to)
    object-within m i =
        let b = between.each (span_of m) (Memᴰ.map span_of i) in
        let n = between.near in
        let h = stands-in m (object.stands m i) (omega (arith, b.1, b.2, n.0, n.1)) in
        (b.0, h.1, h.2, omega (arith, b.2, n.0, object.ends))
