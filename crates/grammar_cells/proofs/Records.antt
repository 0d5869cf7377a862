-- A record, read whole, is an object of the grammar, and its cells are those of the object's members.
-- Assumes nothing.
use Rattle.std.specs.Prelude.{Ok, Err}
use Prim.Native.Nat.{ℕ, zero, suc, ◌+◌, ◌*◌, ◌≤◌, ◌<◌}
use mathlib.Core.Path.{◌≡◌, refl, sym, ap, ◌∙◌}
use mathlib.Core.Logic.{◌≢◌}
use mathlib.Core.List.{List, [], ◌∷◌}
use native.Mathlib.Decide.{ℕ_discrete}
use native.Mathlib.Omega.{arith}
use borrow.Author.Tests.{eqb-true, eq-eqb, ne_eqb}
use lib.Dec.{ltb, eqb}
use lib.ListN.{length, drop}
use Rattle.json_bytes.specs.Reads.{byte_at, spaces_end, Reading, fault_at}
use Rattle.json_bytes.proofs.Laws.{by-test, inside}
use Rattle.json_bytes.proofs.Bounds.{Within, spaces-within}
use Rattle.table_rows.specs.Rows.{Field}
use Rattle.table_name.specs.Name.{index_of, first_in, next_after}
use Rattle.table_name.specs.declared.Next.{Next}
use Rattle.table_name.specs.declared.Next.TheVariants.{More, Ends, Neither}
use Rattle.table_record.specs.Record.{start_cell, end_cell, type_of, cleared, Filled, cells_filled, pair_at, is_missing, record_closed_at, pairs_from, members_of as read_members, record_has_room, record_at}
use Rattle.table_record.proofs.Bounds.{pair-in}
use Rattle.table_record.proofs.Laws.{room-all}
use Rattle.grammar.specs.Grammar.{Bytes, Spaces, Value, Members}
use Rattle.grammar_machine.proofs.Places.{drop-byte}
use Rattle.grammar_cells.specs.Objects.{Named, member_of, named_members, object_of, start_in, end_in, of_field, Absent, Proper}
use Rattle.grammar_cells.proofs.Here.{spaces-here}
use Rattle.grammar_cells.proofs.Pairs.{PairIs, pair_is, never}
use Rattle.grammar_cells.proofs.Cells.{start-same, end_same, start-other, end-other, cleared-length, start-cleared, end-cleared}

-- ---- What stands between the members or elements
module _ (s : Bytes) where
  pub record NextIs (end next : ℕ) : Type 0 where
    pub comma : ℕ
    pub before : Spaces (drop end s) (0x2C ∷ drop comma s)
    pub after : Spaces (drop comma s) (drop next s)
    pub inside : next ≤ length s

  abbrev pub Following : ℕ → ℕ → Next → Type 0
  Following end closing (More next) = NextIs end next
  Following end closing (Ends last) = Spaces (drop end s) (closing ∷ drop (last + 1) s) × (last < length s)
  Following end closing (Neither place) = Unit {0}

  -- a byte behind spaces
  spaces-to : (end b : ℕ) → end ≤ length s → byte_at s (spaces_end s end) ≡ b → 0 < b → Spaces (drop end s) (b ∷ drop (spaces_end s end + 1) s) × (spaces_end s end < length s)
  spaces-to end b l e p =
      let n : spaces_end s end < length s = inside s (spaces_end s end) b e p in
      (rw (drop-byte s (spaces_end s end) b e n) at (spaces-here s end l), n)

  pub next-is : (end closing : ℕ) → end ≤ length s → 0 < closing → Following end closing (next_after s end closing)
  unfolding next_after
  next-is end closing l p =
      by-test (Following end closing) (eqb (byte_at s (spaces_end s end)) 44) _ _
      (λ e.
      let w = spaces-to end 44 l (eqb-true _ 44 e) (omega arith) in
      record {
        comma = spaces_end s end + 1;
        before = w.0;
        after = spaces-here s (spaces_end s end + 1) (omega (arith, w.1));
        inside = (spaces-within s (spaces_end s end + 1) (omega (arith, w.1))).1;
      })
      (λ _. by-test (Following end closing) (eqb (byte_at s (spaces_end s end)) closing) _ _
      (λ e. spaces-to end closing l (eqb-true _ closing e) p)
      (λ _. tt))

  abbrev pub First : ℕ → ℕ → Next → Type 0
  First at closing (More next) = Spaces (drop (at + 1) s) (drop next s) × (next ≤ length s)
  First at closing (Ends last) = Spaces (drop (at + 1) s) (closing ∷ drop (last + 1) s) × (last < length s)
  First at closing (Neither place) = Unit {0}

  pub first-is : (at closing : ℕ) → at < length s → 0 < closing → First at closing (first_in s at closing)
  unfolding first_in
  first-is at closing l p =
      by-test (First at closing) (ltb at (length s)) _ _
      (λ _. by-test (First at closing) (eqb (byte_at s (spaces_end s (at + 1))) closing) _ _
      (λ e. spaces-to (at + 1) closing (omega arith) (eqb-true _ closing e) p)
      (λ _. (spaces-here s (at + 1) (omega arith), (spaces-within s (at + 1) (omega arith)).1)))
      (λ _. tt)

-- ---- Where no member names a field
of-absent : (fields : List Field) (k : ℕ) (number : Named → ℕ) (other : ℕ) (ns : List Named) → Absent fields k ns → of_field fields k number other ns ≡ other
unfolding of_field
of-absent fields k number other [] h = refl
of-absent fields k number other (n ∷ ns) h = rw (of_field, ne_eqb _ _ h.0) (of-absent fields k number other ns h.1)

-- ---- Members read from a place up to an end, with these cells before and those then
pub record MembersIs (fields : List Field) (s : Bytes) (base at : ℕ) (cells : List ℕ) (end : ℕ) (then : List ℕ) : Type 0 where
  pub members : Members (drop at s) (drop end s)
  pub starts : (k : ℕ) → start_cell then base k ≡ of_field fields k (start_in s) (start_cell cells base k) (named_members members)
  pub ends : (k : ℕ) → end_cell then base k ≡ of_field fields k (end_in s (type_of fields k)) (end_cell cells base k) (named_members members)
  pub fresh : (k : ℕ) → 0 < start_cell cells base k → Absent fields k (named_members members)
  pub proper : Proper fields (named_members members)

module _ (fields : List Field) (s : Bytes) (base at : ℕ) (cells : List ℕ) (room : base + 2 * length fields ≤ length cells) where
  -- ---- A member, and those behind it
  module _ (end : ℕ) (then : List ℕ) (p : PairIs fields s at cells base end then) where
    fits : base + 2 * p.field + 1 < length cells
    fits = omega (arith, p.known)

    told-start : start_cell then base p.field ≡ p.start
    told-start = rw p.told (start-same cells base p.field p.start p.last fits)

    told-end : end_cell then base p.field ≡ p.last
    told-end = rw p.told (end_same cells base p.field p.start p.last fits)

    module _ (k : ℕ) (n : k ≢ p.field) where
      kept-start : start_cell then base k ≡ start_cell cells base k
      kept-start = rw p.told (start-other cells base p.field p.start p.last k n)

      kept-end : end_cell then base k ≡ end_cell cells base k
      kept-end = rw p.told (end-other cells base p.field p.start p.last k n)

    abbrev one : Named
    one = member_of p.member

    other-index : (k : ℕ) → k ≢ p.field → index_of one.name fields ≢ k
    other-index k n e = n (sym e ∙ p.index)

    -- the cells of all, from those of the members behind it: of the starts and of the ends alike
    module _ (ns : List Named) (final : List ℕ) (fresh : (k : ℕ) → 0 < start_cell then base k → Absent fields k ns) where
      absent : Absent fields p.field ns
      absent = fresh p.field (omega (arith, told-start, p.behind))

      all-cells : (cell : List ℕ → ℕ → ℕ → ℕ) (number : ℕ → Named → ℕ) → cell then base p.field ≡ number p.field one → ((k : ℕ) → k ≢ p.field → cell then base k ≡ cell cells base k) → ((k : ℕ) → cell final base k ≡ of_field fields k (number k) (cell then base k) ns) → (k : ℕ) → cell final base k ≡ of_field fields k (number k) (cell cells base k) (one ∷ ns)
      unfolding of_field
      all-cells cell number told kept rest k = go (ℕ_discrete k p.field)
        where
          go : Dec (k ≡ p.field) → cell final base k ≡ of_field fields k (number k) (cell cells base k) (one ∷ ns)
          go (yes e) =
              rw e
              (rest p.field ∙ of-absent fields p.field (number p.field) _ ns absent ∙ told ∙ rw (of_field, eq-eqb _ _ p.index))
          go (no n) = rest k ∙ rw (kept k n) (rw (of_field, ne_eqb _ _ (other-index k n)))

      all-starts : ((k : ℕ) → start_cell final base k ≡ of_field fields k (start_in s) (start_cell then base k) ns) → (k : ℕ) → start_cell final base k ≡ of_field fields k (start_in s) (start_cell cells base k) (one ∷ ns)
      all-starts = all-cells start_cell (λ k. start_in s) (told-start ∙ sym p.starts) kept-start

      all-ends : ((k : ℕ) → end_cell final base k ≡ of_field fields k (end_in s (type_of fields k)) (end_cell then base k) ns) → (k : ℕ) → end_cell final base k ≡ of_field fields k (end_in s (type_of fields k)) (end_cell cells base k) (one ∷ ns)
      all-ends = all-cells end_cell (λ k. end_in s (type_of fields k)) (told-end ∙ sym p.ends) kept-end

      all-fresh : (k : ℕ) → 0 < start_cell cells base k → Absent fields k (one ∷ ns)
      all-fresh k h =
          let n : k ≢ p.field = λ e. omega (arith, p.unread, ap (start_cell cells base) e) in
          (other-index k n, fresh k (omega (arith, kept-start k n)))

      all-proper : Proper fields ns → Proper fields (one ∷ ns)
      all-proper h = rw p.index (p.known, absent, h)

    last-member : (last : ℕ) → Spaces (drop end s) (0x7D ∷ drop (last + 1) s) → MembersIs fields s base at cells (last + 1) then
    unfolding named_members of_field
    last-member last h =
        record {
          members = Members.last_member p.member h;
          starts = all-starts [] then (λ k _. tt) (λ k. refl);
          ends = all-ends [] then (λ k _. tt) (λ k. refl);
          fresh = all-fresh [] then (λ k _. tt);
          proper = all-proper [] then (λ k _. tt) tt;
        }

    more-members : (next stop : ℕ) (final : List ℕ) → NextIs s end next → MembersIs fields s base next then stop final → MembersIs fields s base at cells stop final
    unfolding named_members
    more-members next stop final n m =
        record {
          members = Members.more_members p.member n.before n.after m.members;
          starts = all-starts (named_members m.members) final m.fresh m.starts;
          ends = all-ends (named_members m.members) final m.fresh m.ends;
          fresh = all-fresh (named_members m.members) final m.fresh;
          proper = all-proper (named_members m.members) final m.fresh m.proper;
        }

-- ---- As the reader goes
-- the closing brace is behind the last member
pub closed_is : (fields : List Field) (cells : List ℕ) (base last stop : ℕ) → record_closed_at fields cells base last ≡ Ok stop → last + 1 ≡ stop
unfolding record_closed_at
closed_is fields cells base last stop =
    by-test (λ (r : Reading). r ≡ Ok stop → last + 1 ≡ stop) (is_missing fields cells base 0) _ _ (λ _ q. never q) (λ _ q. cc)

module _ (fields : List Field) (s : Bytes) (base : ℕ) where
  abbrev Reading-is : ℕ → List ℕ → Filled → Type 0
  Reading-is at cells f = (stop : ℕ) → f.outcome ≡ Ok stop → MembersIs fields s base at cells stop f.cells

  module _ (at : ℕ) (cells : List ℕ) (room : base + 2 * length fields ≤ length cells) where
    after-pair : (n end : ℕ) (then : List ℕ) → PairIs fields s at cells base end then → ((next : ℕ) → next ≤ length s → Reading-is next then (pairs_from n fields s next then base)) → (x : Next) → Following s end 0x7D x → Reading-is at cells (elim x [ More next ↦ pairs_from n fields s next then base | Ends last ↦ cells_filled then (record_closed_at fields then base last) | Neither place ↦ cells_filled then (fault_at 11 place) ])
    after-pair n end then p rest (More next) h = λ stop q. more-members fields s base at cells room end then p next stop _ h (rest next h.inside stop q)
    after-pair n end then p rest (Ends last) h = λ stop q. rw (closed_is fields then base last stop q) at (last-member fields s base at cells room end then p last h.0)
    after-pair n end then p rest (Neither place) h = λ stop q. never q

    pair_turn : (n : ℕ) (then : List ℕ) (r : Reading) → Within s at r → ((end : ℕ) → r ≡ Ok end → PairIs fields s at cells base end then) → ((next : ℕ) → next ≤ length s → Reading-is next then (pairs_from n fields s next then base)) → Reading-is at cells (elim r [
      | Ok end ↦
          elim (next_after s end 125) [
            | More next ↦ pairs_from n fields s next then base
            | Ends last ↦ cells_filled then (record_closed_at fields then base last)
            | Neither place ↦ cells_filled then (fault_at 11 place)
          ]
      | Err e ↦ cells_filled then (Err e)
    ])
    pair_turn n then (Ok end) w p rest =
        after-pair n end then (p end refl) rest (next_after s end 125) (next-is s end 125 w.1 (omega arith))
    pair_turn n then (Err e) w p rest = λ stop q. never q

  pairs-are : (n at : ℕ) (cells : List ℕ) → at ≤ length s → base + 2 * length fields ≤ length cells → Reading-is at cells (pairs_from n fields s at cells base)
  unfolding pairs_from
  pairs-are zero at cells l room = λ stop q. never q
  pairs-are (suc n) at cells l room =
      let pair = pair_at fields s at cells base in
      let w = pair-in fields s base cells at l in
      pair_turn at cells room n pair.cells pair.outcome w.place (pair_is fields s at l cells base)
      (λ next m. pairs-are n next pair.cells m (omega (arith, w.kept.length-same)))

-- ---- A record: an object at the first of these bytes, up to an end
pub record ObjectIs (fields : List Field) (s : Bytes) (base : ℕ) (l : Bytes) (end : ℕ) (then : List ℕ) : Type 0 where
  pub object : Value l (drop end s)
  pub proper : Proper fields (object_of object)
  pub starts : (k : ℕ) → k < length fields → start_cell then base k ≡ of_field fields k (start_in s) 0 (object_of object)
  pub ends : (k : ℕ) → k < length fields → end_cell then base k ≡ of_field fields k (end_in s (type_of fields k)) 0 (object_of object)

module _ (fields : List Field) (s : Bytes) (base at : ℕ) (cells : List ℕ) (brace : byte_at s at ≡ 0x7B) where
  here : at < length s
  here = inside s at 0x7B brace (omega arith)

  opened : drop at s ≡ 0x7B ∷ drop (at + 1) s
  opened = drop-byte s at 0x7B brace here

  abbrev clean : List ℕ
  clean = cleared cells base (2 * length fields)

  abbrev Recorded : Filled → Type 0
  Recorded f = (end : ℕ) → f.outcome ≡ Ok end → ObjectIs fields s base (drop at s) end f.cells

  module _ (room : base + 2 * length fields ≤ length cells) where
    empty-object : (last : ℕ) → Spaces (drop (at + 1) s) (0x7D ∷ drop (last + 1) s) → ObjectIs fields s base (drop at s) (last + 1) clean
    unfolding object_of of_field
    empty-object last h =
        rw opened
        (record {
          object = Value.no_members h;
          proper = tt;
          starts = λ k l. start-cleared cells base (length fields) k l room;
          ends = λ k l. end-cleared cells base (length fields) k l room;
        })

    full-object : (next end : ℕ) (then : List ℕ) → Spaces (drop (at + 1) s) (drop next s) → MembersIs fields s base next clean end then → ObjectIs fields s base (drop at s) end then
    unfolding object_of
    full-object next end then h m =
        rw opened
        (record {
          object = Value.object h m.members;
          proper = m.proper;
          starts = λ k l. m.starts k ∙ ap (λ (d : ℕ). of_field fields k (start_in s) d (named_members m.members)) (start-cleared cells base (length fields) k l room);
          ends = λ k l. m.ends k ∙ ap (λ (d : ℕ). of_field fields k (end_in s (type_of fields k)) d (named_members m.members)) (end-cleared cells base (length fields) k l room);
        })

    members-are : (x : Next) → First s at 0x7D x → Recorded (read_members fields s clean base x)
    unfolding read_members
    members-are (More next) h = λ end q.
        full-object next end _ h.0 (pairs-are fields s base (length s) next clean h.1 (omega (arith, cleared-length cells base (2 * length fields))) end q)
    members-are (Ends last) h = λ end q. rw (closed_is fields clean base last end q) at (empty-object last h.0)
    members-are (Neither place) h = λ end q. never q

  pub record_is : Recorded (record_at fields s at cells base)
  unfolding record_at
  record_is =
      by-test Recorded (record_has_room s cells base (length fields)) _ _
      (λ t. members-are (room-all s cells base (length fields) t).1.1 (first_in s at 125) (first-is s at 125 here (omega arith)))
      (λ _ end q. never q)
