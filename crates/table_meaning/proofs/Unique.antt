-- What a table means is fixed by its bytes: its records, the names and values of each, and so every cell.
-- Assumes nothing.
use Rattle.std.specs.Prelude.{Ok, Err}
use Prim.Native.Nat.{ℕ, suc, ◌*◌, ◌<◌}
use mathlib.Core.Path.{◌≡◌, refl, sym, ap, ◌∙◌}
use mathlib.Core.Bool.{Bool, true, false, cond, false≢true}
use mathlib.Core.List.Memᴰ
use mathlib.Core.List.{List, [], ◌∷◌, map}
use native.Mathlib.Omega.{arith}
use lib.ListN.{length}
use Rattle.table_rows.specs.Rows.{Field}
use Rattle.table_value.specs.Value.{value_at}
use Rattle.table_value.specs.declared.ValueRead.{ValueRead}
use Rattle.table_value.specs.declared.ValueRead.TheVariants.{Held, Null}
use Rattle.table_name.specs.Name.{name_at, colon_at, first_in, next_after, NameRead, named as known}
use Rattle.table_name.specs.declared.Next.{Next}
use Rattle.table_name.specs.declared.Next.TheVariants.{More, Ends}
use Rattle.table_record.specs.Record.{start_cell, end_cell, type_of}
use Rattle.table_meaning.specs.Meaning.{◌∈◌, Span, span, Row, Member, member, span_of, MemberStands, Object, Says, IsValue, IsNull, IsAbsent, Gives, record_in, Means, record_width}

-- ---- what leads to another part leads to no end
more-not-ends : {A : Type 0} (next last : ℕ) → More next ≡ Ends last → A
more-not-ends next last e = let z : ◌≡◌ {A = ℕ} 0 1 = cc in absurd (omega arith)

same_more : (x : Next) (i j : ℕ) → x ≡ More i → x ≡ More j → i ≡ j
same_more x i j p q = cc

same_ends : (x : Next) (i j : ℕ) → x ≡ Ends i → x ≡ Ends j → i ≡ j
same_ends x i j p q = cc

module _ (fields : List Field) (s : List ℕ) where
  -- ---- a name with its value is fixed by where it stands
  abbrev index_in : NameRead → ℕ
  index_in (Ok n) = n.index
  index_in (Err e) = 0

  abbrev end_in : NameRead → ℕ
  end_in (Ok n) = n.end
  end_in (Err e) = 0

  same_name : (at k b l c : ℕ) → name_at fields s at ≡ known k b → name_at fields s at ≡ known l c → (k ≡ l) × (b ≡ c)
  same_name at k b l c p q = (ap index_in (sym p ∙ q), ap end_in (sym p ∙ q))

  same_start : (at i j : ℕ) → colon_at s at ≡ Ok i → colon_at s at ≡ Ok j → i ≡ j
  same_start at i j p q = cc

  same-value : (v : ValueRead) (a b : Bool) (i j : ℕ) → v ≡ cond a (Null i) (Held i) → v ≡ cond b (Null j) (Held j) → (a ≡ b) × (i ≡ j)
  same-value v true true i j p q = (refl, cc)
  same-value v true false i j p q = let z : ◌≡◌ {A = ℕ} 0 1 = cc in absurd (omega arith)
  same-value v false true i j p q = let z : ◌≡◌ {A = ℕ} 0 1 = cc in absurd (omega arith)
  same-value v false false i j p q = (refl, cc)

  stands_same : (m n : Member) → MemberStands fields s m → MemberStands fields s n → m.name ≡ n.name → m ≡ n
  stands_same m n a b e =
      let k = same_name n.name _ _ _ _ (rw e at a.named) b.named in
      let i : m.start ≡ n.start = same_start b.behind _ _ (rw k.1 at a.colon) b.colon in
      let v = same-value (value_at s n.start (type_of fields n.field)) m.null n.null m.end n.end (rw (i, k.0) at a.value) b.value in
      alike _ _ _ _ _ _ _ _ _ _ e k.0 i v.1 v.0
    where
      alike : (a b c d : ℕ) (t : Bool) (a' b' c' d' : ℕ) (t' : Bool) → a ≡ a' → b ≡ b' → c ≡ c' → d ≡ d' → t ≡ t' → member a b c d t ≡ member a' b' c' d' t'
      alike a b c d t a' b' c' d' t' p q r u v = rw (p, q, r, u, v)

  members-same : (ms ns : List Member) (next : Next) (i j : ℕ) → ((m : Member) → m ∈ ms → MemberStands fields s m) → ((n : Member) → n ∈ ns → MemberStands fields s n) → Row s 125 next (map span_of ms) (Ends i) → Row s 125 next (map span_of ns) (Ends j) → (ms ≡ ns) × (i ≡ j)
  members-same [] [] next i j a b p q = (refl, same_ends next i j p q)
  members-same [] (n ∷ ns) next i j a b p q = more-not-ends n.name i (sym q.0 ∙ p)
  members-same (m ∷ ms) [] next i j a b p q = more-not-ends m.name j (sym p.0 ∙ q)
  members-same (m ∷ ms) (n ∷ ns) next i j a b p q =
      let e = stands_same m n (a m (Memᴰ.head refl)) (b n (Memᴰ.head refl)) (same_more next _ _ p.0 q.0) in
      let rest = members-same ms ns (next_after s n.end 125) i j (λ x h. a x (Memᴰ.tail h)) (λ x h. b x (Memᴰ.tail h)) (rw (ap (λ (x : Member). x.end) e) at p.1) q.1 in
      (rw (e, rest.0), rest.1)

  -- ---- an object by where it begins
  pub object-same : (x y : Span) (ms ns : List Member) → Object fields s x ms → Object fields s y ns → x.from ≡ y.from → (ms ≡ ns) × (x.to ≡ y.to)
  object-same x y ms ns a b e =
      let h = members-same ms ns (first_in s y.from 125) a.last b.last a.stands b.stands (rw e at a.row) b.row in
      (h.0, omega (arith, a.ends, b.ends, h.1))

  -- ---- the cells of a record
  says_same : (members : List Member) → ((m n : Member) → m ∈ members → n ∈ members → m.field ≡ n.field → m ≡ n) → (k : ℕ) {a b c d : ℕ} → Says members k a b → Says members k c d → (a ≡ c) × (b ≡ d)
  says_same members once k (IsValue i) (IsValue j) =
      let e = once _ _ i j refl in
      (ap (λ (m : Member). m.start) e, ap (λ (m : Member). m.end) e)
  says_same members once k (IsNull i) (IsNull j) = (ap (λ (m : Member). m.start) (once _ _ i j refl), refl)
  says_same members once k (IsAbsent p) (IsAbsent q) = (refl, refl)
  says_same members once k (IsValue i) (IsNull j) = absurd (false≢true (ap (λ (m : Member). m.null) (once _ _ i j refl)))
  says_same members once k (IsNull i) (IsValue j) = absurd (false≢true (ap (λ (m : Member). m.null) (once _ _ j i refl)))
  says_same members once k (IsAbsent p) (IsValue j) = absurd (p _ j refl)
  says_same members once k (IsAbsent p) (IsNull j) = absurd (p _ j refl)
  says_same members once k (IsValue i) (IsAbsent q) = absurd (q _ i refl)
  says_same members once k (IsNull i) (IsAbsent q) = absurd (q _ i refl)

  abbrev pub SameCells : List ℕ → ℕ → List ℕ → ℕ → ℕ → Type 0
  SameCells cells base others from k = (start_cell cells base k ≡ start_cell others from k) × (end_cell cells base k ≡ end_cell others from k)

  pub gives_same : (x y : Span) (cells others : List ℕ) (base from : ℕ) → Gives fields s x cells base → Gives fields s y others from → x.from ≡ y.from → (k : ℕ) → k < length fields → SameCells cells base others from k
  gives_same x y cells others base from a b e k l =
      let h = object-same x y a.members b.members a.object b.object e in
      says_same b.members b.once k (rw h.0 at (a.cell k l)) (b.cell k l)

  -- ---- the records of a table
  abbrev Objects : List Span → Type 0
  Objects xs = (i : ℕ) → i < length xs → (ms : List Member) × Object fields s (record_in xs i) ms

  records-same : (xs ys : List Span) (next : Next) (i j : ℕ) → Objects xs → Objects ys → Row s 93 next xs (Ends i) → Row s 93 next ys (Ends j) → xs ≡ ys
  unfolding record_in
  records-same [] [] next i j a b p q = refl
  records-same [] (y ∷ ys) next i j a b p q = more-not-ends y.from i (sym q.0 ∙ p)
  records-same (x ∷ xs) [] next i j a b p q = more-not-ends x.from j (sym p.0 ∙ q)
  records-same (x ∷ xs) (y ∷ ys) next i j a b p q =
      let e : x.from ≡ y.from = same_more next _ _ p.0 q.0 in
      let f : x.to ≡ y.to = (object-same x y _ _ (a 0 (omega arith)).1 (b 0 (omega arith)).1 e).1 in
      let rest = records-same xs ys (next_after s y.to 93) i j (λ r l. a (suc r) (omega arith)) (λ r l. b (suc r) (omega arith)) (rw f at p.1) q.1 in
      alike x.from x.to y.from y.to xs ys e f rest
    where
      alike : (a b c d : ℕ) (xs ys : List Span) → a ≡ c → b ≡ d → xs ≡ ys → ◌≡◌ {A = List Span} (span a b ∷ xs) (span c d ∷ ys)
      alike a b c d xs ys p q r = rw (p, q, r)

  alone-same : (xs ys : List Span) (at i j : ℕ) → Objects xs → Objects ys → xs ≡ span at i ∷ [] → ys ≡ span at j ∷ [] → xs ≡ ys
  unfolding record_in
  alone-same xs ys at i j a b p q =
      let x : Objects (span at i ∷ []) = rw p at a in
      let y : Objects (span at j ∷ []) = rw q at b in
      let e : i ≡ j = (object-same (span at i) (span at j) _ _ (x 0 (omega arith)).1 (y 0 (omega arith)).1 refl).1 in
      p ∙ (rw e (sym q))

  objects : (single : Bool) (cells : List ℕ) (n : ℕ) (t : Means single fields s cells n) → Objects t.records
  objects single cells n t i l = let g = t.gives i (omega (arith, t.count)) in (g.members, g.object)

  laid_same : (single : Bool) (cells others : List ℕ) (n m : ℕ) (a : Means single fields s cells n) (b : Means single fields s others m) → a.records ≡ b.records
  laid_same true cells others n m a b =
      alone-same a.records b.records _ _ _ (objects true cells n a) (objects true others m b) a.laid.one b.laid.one
  laid_same false cells others n m a b =
      records-same a.records b.records _ _ _ (objects false cells n a) (objects false others m b) a.laid.row b.laid.row

  -- a table's records are as many, and their cells the same, whoever says what it means
  pub means-same : (single : Bool) (cells others : List ℕ) (n m : ℕ) → Means single fields s cells n → Means single fields s others m → (n ≡ m) × ((r k : ℕ) → r < n → k < length fields → SameCells cells (r * record_width fields) others (r * record_width fields) k)
  means-same single cells others n m a b =
      let e = laid_same single cells others n m a b in
      let same : n ≡ m = omega (arith, a.count, b.count, ap length e) in
      (same, λ r k l h. gives_same _ _ cells others _ _ (a.gives r l) (b.gives r (omega arith)) (ap (λ (xs : List Span). (record_in xs r).from) e) k h)
