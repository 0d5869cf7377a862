-- A record that is read whole gives what its cells say: its names one behind the other, each with its value, and the cells
-- of each field are where the one name that is the field's has its value.
-- Assumes nothing.
use Rattle.std.specs.Prelude.{Ok, Err}
use Prim.Native.Nat.{ℕ, zero, suc, ◌+◌, ◌*◌, ◌≤◌, ◌<◌}
use mathlib.Core.Path.{◌≡◌, refl, sym, ap, ◌∙◌}
use mathlib.Core.Bool.{Bool, true, false, cond, ◌||◌}
use mathlib.Core.Logic.{◌⊎◌, inl, inr, ⊎_elim}
use mathlib.Core.List.Memᴰ
use mathlib.Core.List.{List, [], ◌∷◌, map}
use native.Mathlib.Nat.{add-zero, zero-add, add-suc, suc-add, add_assoc}
use native.Mathlib.Decide.{ℕ_discrete}
use native.Mathlib.Omega.{arith}
use borrow.Author.Tests.{ltb-false, eqb-false}
use lib.ListN.{length, get_or, set, length-set}
use lib.Seq.{get_or-set_same, get_or-set_other}
use lib.Dec.{eqb}
use Rattle.json_bytes.specs.Reads.{byte_at, Reading, fault_at}
use Rattle.json_bytes.proofs.Laws.{by-test}
use Rattle.json_bytes.proofs.Bounds.{Within}
use Rattle.table_rows.specs.Rows.{Field}
use Rattle.table_value.specs.Value.{value_at}
use Rattle.table_value.specs.declared.ValueRead.{ValueRead}
use Rattle.table_value.specs.declared.ValueRead.TheVariants.{Held, Null, Bad}
use Rattle.table_name.specs.Name.{name_at, colon_at, first_in, next_after, NameRead, named as known}
use Rattle.table_name.specs.declared.Next.{Next}
use Rattle.table_name.specs.declared.Next.TheVariants.{More, Ends, Neither}
use Rattle.table_record.specs.Record.{
  Filled,
  cells_filled,
  start_cell,
  end_cell,
  is_read,
  stored,
  cleared,
  type_of,
  stored_value,
  after_colon,
  after_name,
  pair_at,
  lacks,
  is_missing,
  record_closed_at,
  pairs_from,
  members_of,
  record_has_room,
  record_at,
}
use Rattle.table_record.proofs.Bounds.{NextIn, next-in, first-in, pair-in}
use Rattle.table_record.proofs.Laws.{room-all}
use Rattle.table_meaning.specs.Meaning.{◌∈◌, span, Row, Member, member, span_of, MemberStands, Object, Says, IsValue, IsNull, IsAbsent, is_nullable, Gives}
use Rattle.table_meaning.proofs.Objects.{stands-in, object-within}

-- ---- the cells after a store
abbrev Same : List ℕ → List ℕ → ℕ → ℕ → Type 0
Same old new base k = (start_cell new base k ≡ start_cell old base k) × (end_cell new base k ≡ end_cell old base k)

abbrev Told : List ℕ → ℕ → ℕ → ℕ → ℕ → Type 0
Told cells base k start end = (start_cell cells base k ≡ start) × (end_cell cells base k ≡ end)

module _ (cells : List ℕ) (base k start end : ℕ) where
  stored_here : base + 2 * k + 1 < length cells → Told (stored cells base k start end) base k start end
  unfolding stored start_cell end_cell
  stored_here room = (
    get_or-set_other (set cells (base + 2 * k) start) (base + 2 * k + 1) (base + 2 * k) end 0 (λ e. omega arith) ∙ get_or-set_same cells (base + 2 * k) start 0 (omega arith),
    get_or-set_same (set cells (base + 2 * k) start) (base + 2 * k + 1) end 0 (omega (arith, length-set cells (base + 2 * k) start)),
  )

  stored_other : (j : ℕ) → (j ≡ k → ⊥) → Same cells (stored cells base k start end) base j
  unfolding stored start_cell end_cell
  stored_other j differs = (other (base + 2 * j) (λ e. differs (omega arith)) (λ e. omega arith), other (base + 2 * j + 1) (λ e. omega arith) (λ e. differs (omega arith)))
    where
      other : (i : ℕ) → (i ≡ base + 2 * k → ⊥) → (i ≡ base + 2 * k + 1 → ⊥) → get_or (set (set cells (base + 2 * k) start) (base + 2 * k + 1) end) i 0 ≡ get_or cells i 0
      other i p q = get_or-set_other (set cells (base + 2 * k) start) (base + 2 * k + 1) i end 0 q ∙ get_or-set_other cells (base + 2 * k) i start 0 p

-- a cell that is made 0 is 0, also past the end
set-zero : (l : List ℕ) (i : ℕ) → get_or (set l i 0) i 0 ≡ 0
set-zero [] i = refl
set-zero (a ∷ l) zero = refl
set-zero (a ∷ l) (suc i) = set-zero l i

module _ (cells : List ℕ) (base : ℕ) where
  cleared-zero : (n i : ℕ) → i < n → get_or (cleared cells base n) (base + i) 0 ≡ 0
  unfolding cleared
  cleared-zero zero i l = absurd (omega arith)
  cleared-zero (suc n) i l = go (cleared-zero n i) (ℕ_discrete i n)
    where
      go : (i < n → get_or (cleared cells base n) (base + i) 0 ≡ 0) → Dec (i ≡ n) → get_or (set (cleared cells base n) (base + n) 0) (base + i) 0 ≡ 0
      go rest (yes e) = rw e (set-zero (cleared cells base n) (base + n))
      go rest (no e) = get_or-set_other (cleared cells base n) (base + n) (base + i) 0 0 (λ p. e (omega arith)) ∙ rest (omega arith)

  cleared-length : (n : ℕ) → length (cleared cells base n) ≡ length cells
  unfolding cleared
  cleared-length zero = refl
  cleared-length (suc n) = length-set (cleared cells base n) (base + n) 0 ∙ cleared-length n

neither : (a b : Bool) → (a || b) ≡ false → (a ≡ false) × (b ≡ false)
neither true b e = (e, cc)
neither false b e = (refl, e)

-- ---- a name and its value
pub fault-not-whole : {A : Type 0} (kind place end : ℕ) → fault_at kind place ≡ Ok end → A
fault-not-whole kind place end e = let z : ◌≡◌ {A = ℕ} 0 1 = cc in absurd (omega arith)

-- what goes into the end's cell
abbrev written : Bool → ℕ → ℕ
written null end = cond null 0 end

module _ (fields : List Field) (s : List ℕ) (base : ℕ) where
  -- a name at a place with its value up to another, as it goes into the cells
  record Paired (at : ℕ) (cells : List ℕ) (f : Filled) (end : ℕ) : Type 0 where
    field : ℕ
    start : ℕ
    null : Bool
    stands : MemberStands fields s (member at field start end null)
    fresh : start_cell cells base field ≡ 0
    is : f.cells ≡ stored cells base field start (written null end)

  abbrev Pairs : ℕ → List ℕ → Filled → Type 0
  Pairs at cells f = (end : ℕ) → f.outcome ≡ Ok end → Paired at cells f end

  module _ (at : ℕ) (cells : List ℕ) where
    module _ (k behind : ℕ) (named : name_at fields s at ≡ known k behind) (fresh : start_cell cells base k ≡ 0) where
      stored-pair : (start end : ℕ) (is_null : Bool) → colon_at s behind ≡ Ok start → value_at s start (type_of fields k) ≡ cond is_null (Null end) (Held end) → Paired at cells (cells_filled (stored cells base k start (written is_null end)) (Ok end)) end
      stored-pair start end is_null colon is_value = record {
        field = k;
        start = start;
        null = is_null;
        stands = record { behind = behind; named = named; colon = colon; value = is_value };
        fresh = fresh;
        is = refl;
      }

      value-pairs : (start : ℕ) → colon_at s behind ≡ Ok start → (v : ValueRead) → value_at s start (type_of fields k) ≡ v → Pairs at cells (stored_value cells base k start v)
      unfolding stored_value
      value-pairs start colon (Held e) is_value end w = let q : e ≡ end = cc in rw (← q) (stored-pair start e false colon is_value)
      value-pairs start colon (Null e) is_value end w = let q : e ≡ end = cc in rw (← q) (stored-pair start e true colon is_value)
      value-pairs start colon (Bad kind place) is_value end w = fault-not-whole kind place end w

      colon-pairs : (r : Reading) → colon_at s behind ≡ r → Pairs at cells (after_colon fields s cells base k r)
      unfolding after_colon
      colon-pairs (Ok start) colon = value-pairs start colon (value_at s start (type_of fields k)) refl
      colon-pairs (Err e) colon = λ end w. fault-not-whole e.kind e.place end w

    unread : (k : ℕ) → is_read cells base k ≡ false → start_cell cells base k ≡ 0
    unfolding is_read
    unread k e = omega (arith, ltb-false 0 (start_cell cells base k) e)

    name-pairs : (n : NameRead) → name_at fields s at ≡ n → Pairs at cells (after_name fields s at cells base n)
    unfolding after_name
    name-pairs (Ok n) named =
        by-test (Pairs at cells) (is_read cells base n.index) _ _ (λ _ end w. fault-not-whole 14 at end w)
        (λ e. colon-pairs n.index n.end named (unread n.index e) (colon_at s n.end) refl)
    name-pairs (Err e) named = λ end w. fault-not-whole e.kind e.place end w

    pair-pairs : Pairs at cells (pair_at fields s at cells base)
    unfolding pair_at
    pair-pairs = name-pairs (name_at fields s at) refl

  -- ---- the names and values from a place on, up to the closing brace
  record Rest (cells : List ℕ) (next : Next) (f : Filled) (end : ℕ) : Type 0 where
    members : List Member
    last : ℕ
    row : Row s 125 next (map span_of members) (Ends last)
    ends : end ≡ last + 1
    stands : (m : Member) → m ∈ members → MemberStands fields s m
    once : (m n : Member) → m ∈ members → n ∈ members → m.field ≡ n.field → m ≡ n
    fresh : (m : Member) → m ∈ members → start_cell cells base m.field ≡ 0
    told : (m : Member) → m ∈ members → Told f.cells base m.field m.start (written m.null m.end)
    kept : (k : ℕ) → ((m : Member) → m ∈ members → m.field ≡ k → ⊥) → Same cells f.cells base k
    full : is_missing fields f.cells base 0 ≡ false

  abbrev Rests : List ℕ → Next → Filled → Type 0
  Rests cells next f = (end : ℕ) → f.outcome ≡ Ok end → Rest cells next f end

  abbrev Room : List ℕ → Type 0
  Room cells = base + 2 * length fields ≤ length cells

  closed-rest : (cells : List ℕ) (last : ℕ) → Rests cells (Ends last) (cells_filled cells (record_closed_at fields cells base last))
  unfolding record_closed_at
  closed-rest cells last end w = go (is_missing fields cells base 0) refl w
    where
      go : (t : Bool) → is_missing fields cells base 0 ≡ t → cond t (fault_at 19 last) (Ok (last + 1)) ≡ Ok end → Rest cells (Ends last) (cells_filled cells (record_closed_at fields cells base last)) end
      go true e w = fault-not-whole 19 last end w
      go false e w = record {
        members = [];
        last = last;
        row = refl;
        ends = cc;
        stands = λ m i. absurd (Memᴰ.not-nil i);
        once = λ m n i. absurd (Memᴰ.not-nil i);
        fresh = λ m i. absurd (Memᴰ.not-nil i);
        told = λ m i. absurd (Memᴰ.not-nil i);
        kept = λ k out. (refl, refl);
        full = e;
      }

  -- one name more, before the rest
  module _ (at : ℕ) (l : at ≤ length s) (cells : List ℕ) (room : Room cells) (f : Filled) (e : ℕ) (pair : Paired at cells f e) where
    abbrev first : Member
    first = member at pair.field pair.start e pair.null

    here : Told f.cells base pair.field pair.start (written pair.null e)
    here = rw pair.is (stored_here cells base pair.field pair.start (written pair.null e) (omega (arith, (stands-in fields s first pair.stands l).0)))

    elsewhere : (k : ℕ) → (k ≡ pair.field → ⊥) → Same cells f.cells base k
    elsewhere = rw pair.is (stored_other cells base pair.field pair.start (written pair.null e))

    module _ (g : Filled) (end : ℕ) (rest : Rest f.cells (next_after s e 125) g end) where
      -- a value starts behind a brace at least, so that no later name is this field's
      apart : (m : Member) → m ∈ rest.members → m.field ≡ pair.field → ⊥
      apart m i q =
          let z : start_cell f.cells base pair.field ≡ 0 = rw q at (rest.fresh m i) in
          omega (arith, z, here.0, (stands-in fields s first pair.stands l).1)

      pair-rest : Rest cells (More at) g end
      pair-rest = record {
        members = first ∷ rest.members;
        last = rest.last;
        row = (refl, rest.row);
        ends = rest.ends;
        stands = λ m i. ⊎_elim (λ q. rw q pair.stands) (rest.stands m) (Memᴰ.cases_cons i);
        once = λ m n i j q. once m n q (Memᴰ.cases_cons i) (Memᴰ.cases_cons j);
        fresh = λ m i. ⊎_elim (λ q. rw q pair.fresh) (λ j. sym (elsewhere m.field (apart m j)).0 ∙ rest.fresh m j) (Memᴰ.cases_cons i);
        told = λ m i. ⊎_elim (λ q. rw q told) (rest.told m) (Memᴰ.cases_cons i);
        kept = λ k out. let a = rest.kept k (λ m i. out m (Memᴰ.tail i)) in let b = elsewhere k (λ q. out first (Memᴰ.head refl) (sym q)) in (a.0 ∙ b.0, a.1 ∙ b.1);
        full = rest.full;
      }
        where
          once : (m n : Member) → m.field ≡ n.field → (m ≡ first) ⊎ (m ∈ rest.members) → (n ≡ first) ⊎ (n ∈ rest.members) → m ≡ n
          once m n q (inl a) (inl b) = a ∙ sym b
          once m n q (inl a) (inr j) = absurd (apart n j (sym q ∙ ap (λ (x : Member). x.field) a))
          once m n q (inr i) (inl b) = absurd (apart m i (q ∙ ap (λ (x : Member). x.field) b))
          once m n q (inr i) (inr j) = rest.once m n i j q

          told : Told g.cells base pair.field pair.start (written pair.null e)
          told = let a = rest.kept pair.field apart in (a.0 ∙ here.0, a.1 ∙ here.1)

  -- what follows a name and its value, by what stands behind them
  next-rest : (n : ℕ) (cells : List ℕ) → ((next : ℕ) → next ≤ length s → Rests cells (More next) (pairs_from n fields s next cells base)) → (end : ℕ) (x : Next) → NextIn s end x → Rests cells x (elim x [ More next ↦ pairs_from n fields s next cells base | Ends last ↦ cells_filled cells (record_closed_at fields cells base last) | Neither place ↦ cells_filled cells (fault_at 11 place) ])
  next-rest n cells rest end (More next) h = rest next h.1
  next-rest n cells rest end (Ends last) h = closed-rest cells last
  next-rest n cells rest end (Neither place) h = λ e w. fault-not-whole 11 place e w

  turn-rest : (n : ℕ) (cells then : List ℕ) (at : ℕ) → Room cells → at ≤ length s → ((next : ℕ) → next ≤ length s → Rests then (More next) (pairs_from n fields s next then base)) → (r : Reading) → Within s at r → Pairs at cells (cells_filled then r) → Rests cells (More at) (elim r [
    | Ok end ↦
        elim (next_after s end 125) [
          | More next ↦ pairs_from n fields s next then base
          | Ends last ↦ cells_filled then (record_closed_at fields then base last)
          | Neither place ↦ cells_filled then (fault_at 11 place)
        ]
    | Err e ↦ cells_filled then (Err e)
  ])
  turn-rest n cells then at room l rest (Ok e) h pairs = λ end w.
      pair-rest at l cells room (cells_filled then (Ok e)) e (pairs e refl) _ end
      (next-rest n then rest e (next_after s e 125) (next-in s e h.1 125 (omega arith)) end w)
  turn-rest n cells then at room l rest (Err e) h pairs = λ end w. fault-not-whole e.kind e.place end w

  pairs-rest : (n : ℕ) (cells : List ℕ) (at : ℕ) → Room cells → at ≤ length s → Rests cells (More at) (pairs_from n fields s at cells base)
  unfolding pairs_from
  pairs-rest zero cells at room l = λ end w. fault-not-whole 11 at end w
  pairs-rest (suc n) cells at room l =
      let pair = pair_at fields s at cells base in
      let p = pair-in fields s base cells at l in
      turn-rest n cells pair.cells at room l
      (λ next m. pairs-rest n pair.cells next (omega (arith, p.kept.length-same, room)) m)
      pair.outcome p.place (pair-pairs at cells)

  members-rest : (cells : List ℕ) (at : ℕ) → Room cells → (x : Next) → NextIn s at x → Rests cells x (members_of fields s cells base x)
  unfolding members_of
  members-rest cells at room (More next) h = pairs-rest (length s) cells next room h.1
  members-rest cells at room (Ends last) h = closed-rest cells last
  members-rest cells at room (Neither place) h = λ end w. fault-not-whole 11 place end w

  -- ---- the record
  -- the fields that are not nullable hold a value, the first of these fields number i of the record
  holds-each : (cells : List ℕ) (fs : List Field) (i : ℕ) → is_missing fs cells base i ≡ false → (k : ℕ) → k < length fs → get_or (map (λ (f : Field). f.nullable) fs) k true ≡ false → 0 < end_cell cells base (i + k)
  unfolding is_missing lacks
  holds-each cells [] i e k l q = absurd (omega arith)
  holds-each cells (f ∷ fs) i e zero l q =
      let h : eqb (end_cell cells base i) 0 ≡ false = rw q at (neither (lacks f.nullable cells base i) (is_missing fs cells base (suc i)) e).0 in
      rw (add-zero i) (omega (arith, eqb-false (end_cell cells base i) 0 h))
  holds-each cells (f ∷ fs) i e (suc k) l q =
      rw (add-suc, ← suc-add) (holds-each cells fs (suc i) (neither (lacks f.nullable cells base i) (is_missing fs cells base (suc i)) e).1 k (omega arith) q)

  -- whether a name is field k's
  named-or-not : (k : ℕ) (ms : List Member) → ((m : Member) × (m ∈ ms) × (m.field ≡ k)) ⊎ ((m : Member) → m ∈ ms → m.field ≡ k → ⊥)
  named-or-not k [] = inr (λ m i _. Memᴰ.not-nil i)
  named-or-not k (x ∷ ms) = go (ℕ_discrete x.field k) (named-or-not k ms)
    where
      go : Dec (x.field ≡ k) → ((m : Member) × (m ∈ ms) × (m.field ≡ k)) ⊎ ((m : Member) → m ∈ ms → m.field ≡ k → ⊥) → ((m : Member) × (m ∈ x ∷ ms) × (m.field ≡ k)) ⊎ ((m : Member) → m ∈ x ∷ ms → m.field ≡ k → ⊥)
      go (yes e) rest = inl (x, Memᴰ.head refl, e)
      go (no e) (inl h) = inl (h.0, Memᴰ.tail h.1, h.2)
      go (no e) (inr h) = inr (λ m i q. ⊎_elim (λ p. e (ap (λ (y : Member). y.field) (sym p) ∙ q)) (λ j. h m j q) (Memᴰ.cases_cons i))

  -- what the cells of a field say: those of the name that is the field's, or what they were before the first name
  named-says : (cells : List ℕ) (members : List Member) (m : Member) → m ∈ members → Told cells base m.field m.start (written m.null m.end) → Says members m.field (start_cell cells base m.field) (end_cell cells base m.field)
  named-says cells members m i told = rw (told.0, told.1) (go m.null refl)
    where
      with-null : (t : Bool) → m.null ≡ t → member m.name m.field m.start m.end t ≡ m
      with-null t e = rw (← e)

      go : (t : Bool) → m.null ≡ t → Says members m.field m.start (written t m.end)
      go true e = IsNull (Memᴰ.cast (with-null true e) i)
      go false e = IsValue (Memᴰ.cast (with-null false e) i)

  module _ (at : ℕ) (cells : List ℕ) where
    cleared-told : (k : ℕ) → k < length fields → Told (cleared cells base (2 * length fields)) base k 0 0
    unfolding start_cell end_cell
    cleared-told k l = (cleared-zero cells base (2 * length fields) (2 * k) (omega arith), rw add_assoc (cleared-zero cells base (2 * length fields) (2 * k + 1) (omega arith)))

    module _ (f : Filled) (end : ℕ) (rest : Rest (cleared cells base (2 * length fields)) (first_in s at 125) f end) where
      rest-says : (k : ℕ) → k < length fields → ((m : Member) × (m ∈ rest.members) × (m.field ≡ k)) ⊎ ((m : Member) → m ∈ rest.members → m.field ≡ k → ⊥) → Says rest.members k (start_cell f.cells base k) (end_cell f.cells base k)
      rest-says k l (inl (m, i, e)) = rw e at (named-says f.cells rest.members m i (rest.told m i))
      rest-says k l (inr out) =
          let kept = rest.kept k out in
          let zero = cleared-told k l in
          rw (kept.0 ∙ zero.0, kept.1 ∙ zero.1) (IsAbsent out)

      rest_gives : byte_at s at ≡ 123 → Gives fields s (span at end) f.cells base
      unfolding is_nullable
      rest_gives brace =
          let object : Object fields s (span at end) rest.members = record { brace = brace; last = rest.last; row = rest.row; ends = rest.ends; stands = rest.stands } in
          record {
            members = rest.members;
            object = object;
            once = rest.once;
            within = object-within fields s (span at end) rest.members object;
            cell = λ k l. rest-says k l (named-or-not k rest.members);
            full = λ k l q. rw zero-add at (holds-each f.cells fields 0 rest.full k l q);
          }

    pub record-gives : byte_at s at ≡ 123 → (end : ℕ) → (record_at fields s at cells base).outcome ≡ Ok end → Gives fields s (span at end) (record_at fields s at cells base).cells base
    unfolding record_at
    record-gives brace =
        by-test (λ (f : Filled). (end : ℕ) → f.outcome ≡ Ok end → Gives fields s (span at end) f.cells base) (record_has_room s cells base (length fields)) _ _
        (λ e end w. rest_gives _ end
        (members-rest (cleared cells base (2 * length fields)) at (omega (arith, (room-all s cells base (length fields) e).1.1, cleared-length cells base (2 * length fields)))
        (first_in s at 125) (first-in s at 125 (omega arith)) end w) brace)
        (λ e end w. fault-not-whole 99 at end w)

    -- a record that is read has 64 fields at most
    pub record-narrow : (end : ℕ) → (record_at fields s at cells base).outcome ≡ Ok end → length fields ≤ 64
    unfolding record_at
    record-narrow =
        by-test (λ (f : Filled). (end : ℕ) → f.outcome ≡ Ok end → length fields ≤ 64) (record_has_room s cells base (length fields)) _ _
        (λ e _ _. (room-all s cells base (length fields) e).1.0) (λ _ end w. fault-not-whole 99 at end w)
