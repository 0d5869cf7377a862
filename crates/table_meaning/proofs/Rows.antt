-- Parts of a file that stand one behind the other, members and records alike: none reaches into another, and all stand
-- before the closing brace or bracket.
-- Assumes nothing.
use Prim.Native.Nat.{ℕ, zero, suc, ◌≤◌, ◌<◌}
use mathlib.Core.Path.{◌≡◌, refl}
use mathlib.Core.Logic.{⊎_elim}
use mathlib.Core.List.Memᴰ
use mathlib.Core.List.{List, [], ◌∷◌}
use native.Mathlib.Omega.{arith}
use lib.ListN.{length, get_or}
use Rattle.table_name.specs.Name.{next_after}
use Rattle.table_name.specs.declared.Next.{Next}
use Rattle.table_name.specs.declared.Next.TheVariants.{More}
use Rattle.table_record.proofs.Bounds.{NextIn, next-in}
use Rattle.table_meaning.specs.Meaning.{◌∈◌, Span, Row, record_in}

pub mem-at : {A : Type 0} (l : List A) (i : ℕ) (d : A) → i < length l → get_or l i d ∈ l
mem-at [] i d h = absurd (omega arith)
mem-at (a ∷ l) zero d h = Memᴰ.head refl
mem-at (a ∷ l) (suc i) d h = Memᴰ.tail (mem-at l i d (omega arith))

-- a part has a byte at least, and ends within the file where it begins within it
abbrev pub Proper : List ℕ → Span → Type 0
Proper s x = x.from ≤ length s → (x.from < x.to) × (x.to ≤ length s)

abbrev pub Between : ℕ → ℕ → Span → Type 0
Between at last x = (at < x.from) × (x.from < x.to) × (x.to ≤ last)

-- the parts stand between two places, and behind the second stands what is left
pub record Behind (s : List ℕ) (at : ℕ) (xs : List Span) (rest : Next) : Type 0 where
  pub end : ℕ
  pub each : (x : Span) → x ∈ xs → Between at end x
  pub after : at ≤ end
  pub near : NextIn s end rest

module _ (s : List ℕ) (closing : ℕ) (some : 0 < closing) where
  -- the first part, and what stands behind it
  first_part : (x : Span) (next : Next) (at : ℕ) → Proper s x → NextIn s at next → next ≡ More x.from → (at < x.from) × (x.from < x.to) × NextIn s x.to (next_after s x.to closing)
  first_part x next at proper near e =
      let h : (at < x.from) × (x.from ≤ length s) = rw e at near in
      let own = proper h.1 in
      (h.0, own.0, next-in s x.to own.1 closing some)

  pub row-behind : (xs : List Span) (next : Next) (at : ℕ) (rest : Next) → ((x : Span) → x ∈ xs → Proper s x) → NextIn s at next → Row s closing next xs rest → Behind s at xs rest
  row-behind [] next at rest proper near row =
      record { end = at; each = λ x i. absurd (Memᴰ.not-nil i); after = omega arith; near = rw row at near }
  row-behind (x ∷ xs) next at rest proper near row =
      let h = first_part x next at (proper x (Memᴰ.head refl)) near row.0 in
      let more = row-behind xs _ x.to rest (λ y i. proper y (Memᴰ.tail i)) h.2 row.1 in
      let own : Between at more.end x = (h.0, h.1, more.after) in
      record {
        end = more.end;
        each = λ y i. ⊎_elim (λ e. rw e own) (λ j. let g = more.each y j in (omega (arith, h.0, h.1, g.0), g.1, g.2)) (Memᴰ.cases_cons i);
        after = omega (arith, h.0, h.1, more.after);
        near = more.near;
      }

  -- each ends before any later one begins
  pub row-order : (xs : List Span) (next : Next) (at : ℕ) (rest : Next) → ((x : Span) → x ∈ xs → Proper s x) → NextIn s at next → Row s closing next xs rest → (r q : ℕ) → r < q → q < length xs → (record_in xs r).to < (record_in xs q).from
  unfolding record_in
  row-order [] next at rest proper near row r q l m = absurd (omega arith)
  row-order (x ∷ xs) next at rest proper near row r zero l m = absurd (omega arith)
  row-order (x ∷ xs) next at rest proper near row zero (suc q) l m =
      let h = first_part x next at (proper x (Memᴰ.head refl)) near row.0 in
      ((row-behind xs _ x.to rest (λ y i. proper y (Memᴰ.tail i)) h.2 row.1).each _ (mem-at xs q _ (omega arith))).0
  row-order (x ∷ xs) next at rest proper near row (suc r) (suc q) l m =
      let h = first_part x next at (proper x (Memᴰ.head refl)) near row.0 in
      row-order xs _ x.to rest (λ y i. proper y (Memᴰ.tail i)) h.2 row.1 r q (omega arith) (omega arith)

  -- all end before what follows them begins
  pub row_before : (xs : List Span) (next : Next) (at then : ℕ) → ((x : Span) → x ∈ xs → Proper s x) → NextIn s at next → Row s closing next xs (More then) → (r : ℕ) → r < length xs → (record_in xs r).to < then
  unfolding record_in
  row_before xs next at then proper near row r l =
      let h = row-behind xs next at (More then) proper near row in
      omega (arith, h.near.0, (h.each (record_in xs r) (mem-at xs r _ l)).2)
