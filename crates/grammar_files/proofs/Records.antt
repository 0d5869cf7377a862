-- A record along the machine: its names, the colon behind each, its values, and what stands between them.
-- Assumes nothing.
use Rattle.std.specs.Prelude.{Ok, Err}
use Prim.Native.Nat.{ℕ, zero, suc, ◌+◌, ◌*◌, ◌≤◌, ◌<◌}
use mathlib.Core.Path.{◌≡◌, refl}
use mathlib.Core.Logic.{◌≢◌}
use mathlib.Core.List.{List, [], ◌∷◌, ◌++◌}
use native.Mathlib.Decide.{dec_le}
use native.Mathlib.Omega.{arith}
use borrow.Author.Tests.{eqb-true, eqb-false, lt-ltb, ne_eqb}
use lib.Dec.{ltb, eqb}
use lib.ListN.{length, drop, drop_of_length-le}
use Rattle.json_bytes.specs.Reads.{byte_at, within, spaces_end, Reading, fault_at}
use Rattle.json_bytes.proofs.Laws.{by-test, inside}
use Rattle.json_bytes.proofs.Bounds.{Within}
use Rattle.json_chars.specs.Chars.{chars_at}
use Rattle.json_text.specs.Text.{text_read_at}
use Rattle.table_rows.specs.Rows.{Field}
use Rattle.table_value.specs.Value.{value_at}
use Rattle.table_value.specs.declared.ValueRead.{ValueRead}
use Rattle.table_value.specs.declared.ValueRead.TheVariants.{Held, Null, Bad}
use Rattle.table_name.specs.Name.{index_of, named_at, name_at, colon_at, first_in, next_after, NameRead}
use Rattle.table_name.specs.declared.Next.{Next}
use Rattle.table_name.specs.declared.Next.TheVariants.{More, Ends, Neither}
use Rattle.table_record.specs.Record.{Filled, cells_filled, type_of, is_read, stored_value, after_colon, after_name, pair_at, is_missing, record_closed_at, cleared, record_has_room, pairs_from, members_of, record_at}
use Rattle.table_record.proofs.Bounds.{NextIn, next-in, first-in, pair-in}
use Rattle.grammar.specs.Grammar.{Bytes}
use Rattle.grammar_machine.proofs.Machine.{Symbol, just, spaces, characters, value, in_object, after_member, in_array, Stack, member_rest, a_member, an_element, Push, Stuck, row_of, expand}
use Rattle.grammar_machine.proofs.Language.{object-words, array-words}
use Rattle.grammar_machine.proofs.Complete.{just-stuck, OtherThan, in-array, in-object}
use Rattle.grammar_machine.proofs.Places.{drop-byte, At, push_at, become}
use Rattle.grammar_machine.proofs.Tokens.{stop, Told, stopped, judged, Answered, spaces-at}
use Rattle.grammar_files.proofs.Strings.{TextRead, text_at}
use Rattle.grammar_files.proofs.Values.{ValueAnswered, value-at}

module _ (K₀ : Stack) (start : ℕ) (s : Bytes) where
  -- ---- Names
  abbrev NameAnswered : Stack → NameRead → Type 0
  NameAnswered K (Ok n) = At K₀ start s K n.end
  NameAnswered K (Err e) = Told K₀ start s e.kind e.place

  named-at : (K : Stack) (fields : List Field) (at end : ℕ) → At K₀ start s (just 0x22 ∷ characters ∷ K) at → At K₀ start s K end → NameAnswered K (named_at fields s at end)
  unfolding named_at
  named-at K fields at end a b =
      by-test (NameAnswered K) (ltb (index_of (chars_at s at) fields) (length fields)) _ _
      (λ _. b)
      (λ _. judged (just 0x22 ∷ characters ∷ K) (omega arith) a)

  name-read : (K : Stack) (fields : List Field) (at : ℕ) → At K₀ start s (just 0x22 ∷ characters ∷ K) at → (r : Reading) → TextRead K₀ start s K r → NameAnswered K (elim r [ Ok end ↦ named_at fields s at end | Err e ↦ Err e ])
  name-read K fields at a (Ok end) b = named-at K fields at end a b
  name-read K fields at a (Err e) b = b.0

  name-at : (K : Stack) (fields : List Field) (at : ℕ) → At K₀ start s (just 0x22 ∷ characters ∷ K) at → NameAnswered K (name_at fields s at)
  unfolding name_at
  name-at K fields at a = name-read K fields at a (text_read_at s at) (text_at K₀ start s K at a)

  -- ---- Between the tokens
  colon-at : (K : Stack) (end : ℕ) → At K₀ start s (spaces ∷ just 0x3A ∷ spaces ∷ K) end → Answered K₀ start s K (colon_at s end)
  unfolding colon_at row_of
  colon-at K end a =
      let b : At K₀ start s (just 0x3A ∷ spaces ∷ K) (spaces_end s end) = spaces-at (just 0x3A ∷ spaces ∷ K) a in
      by-test (Answered K₀ start s K) (eqb (byte_at s (spaces_end s end)) 58) _ _
      (λ e. spaces-at K (push_at (just 0x3A) (spaces ∷ K) [] 58 (eqb-true _ 58 e) (omega arith) refl b))
      (λ n. stopped (stop (just 0x3A) (spaces ∷ K) (just-stuck 0x3A (byte_at s (spaces_end s end)) (eqb-false _ 58 n)) b))

  -- what follows: another member, for which this stack stands; the closing byte, which this symbol takes; or neither
  abbrev pub NextAnswered : Symbol → Stack → Stack → Next → Type 0
  NextAnswered k J K (More at) = At K₀ start s J at
  NextAnswered k J K (Ends at) = At K₀ start s (k ∷ K) at × At K₀ start s K (at + 1)
  NextAnswered k J K (Neither place) = Told K₀ start s 11 place

  pub next-at : (k : Symbol) (J K : Stack) (closing : ℕ) → 0 < closing → expand k closing ≡ Push [] → expand k 44 ≡ Push (spaces ∷ J) → ((b : ℕ) → b ≢ 44 → b ≢ closing → expand k b ≡ Stuck) → (end : ℕ) → At K₀ start s (spaces ∷ k ∷ K) end → NextAnswered k (J ++ K) K (next_after s end closing)
  unfolding next_after
  next-at k J K closing p x y z end a =
      let b : At K₀ start s (k ∷ K) (spaces_end s end) = spaces-at (k ∷ K) a in
      by-test (NextAnswered k (J ++ K) K) (eqb (byte_at s (spaces_end s end)) 44) _ _
      (λ e. spaces-at (J ++ K) (push_at k K (spaces ∷ J) 44 (eqb-true _ 44 e) (omega arith) y b))
      (λ n. by-test (NextAnswered k (J ++ K) K) (eqb (byte_at s (spaces_end s end)) closing) _ _
      (λ e. (b, push_at k K [] closing (eqb-true _ closing e) p x b))
      (λ m. stopped (stop k K (z (byte_at s (spaces_end s end)) (eqb-false _ 44 n) (eqb-false _ closing m)) b)))

  -- behind an opening brace or bracket, where this stack stands unless the closing one follows
  pub first-at : (k : Symbol) (J K : Stack) (closing : ℕ) → 0 < closing → expand k closing ≡ Push [] → ((i : ℕ) → byte_at s i ≢ closing → At K₀ start s (k ∷ K) i → At K₀ start s (J ++ K) i) → (at : ℕ) → at < length s → At K₀ start s (spaces ∷ k ∷ K) (at + 1) → NextAnswered k (J ++ K) K (first_in s at closing)
  unfolding first_in
  first-at k J K closing p x turn at l a =
      let b : At K₀ start s (k ∷ K) (spaces_end s (at + 1)) = spaces-at (k ∷ K) a in
      rw (lt-ltb at (length s) l)
      (by-test (NextAnswered k (J ++ K) K) (eqb (byte_at s (spaces_end s (at + 1))) closing) _ _
      (λ e. (b, push_at k K [] closing (eqb-true _ closing e) p x b))
      (λ n. turn (spaces_end s (at + 1)) (eqb-false _ closing n) b))

  other-than : (i b : ℕ) → byte_at s i ≢ b → OtherThan b (drop i s)
  other-than i b n = go (dec_le (length s) i)
    where
      go : Dec (length s ≤ i) → OtherThan b (drop i s)
      go (yes l) = rw (drop_of_length-le s l) tt
      go (no l) = rw (drop-byte s i (byte_at s i) refl (omega arith)) n

  object-turn : (K : Stack) (i : ℕ) → byte_at s i ≢ 0x7D → At K₀ start s (in_object ∷ K) i → At K₀ start s (a_member ++ K) i
  object-turn K i n a = become (in-object K (drop i s) (other-than i 0x7D n)) (object-words K (λ r. r ≡ [])) a

  pub array-turn : (K : Stack) (i : ℕ) → byte_at s i ≢ 0x5D → At K₀ start s (in_array ∷ K) i → At K₀ start s (an_element ++ K) i
  array-turn K i n a = become (in-array K (drop i s) (other-than i 0x5D n)) (array-words K (λ r. r ≡ [])) a

  module _ (fields : List Field) (base : ℕ) (K : Stack) where
    -- ---- A name and its value
    abbrev After : Stack
    After = spaces ∷ after_member ∷ K

    stored-value : (cells : List ℕ) (k at : ℕ) (v : ValueRead) → ValueAnswered K₀ start s After v → Answered K₀ start s After (stored_value cells base k at v).outcome
    unfolding stored_value
    stored-value cells k at (Held end) a = a
    stored-value cells k at (Null end) a = a
    stored-value cells k at (Bad kind place) a = a

    after-colon : (cells : List ℕ) (k : ℕ) (r : Reading) → Answered K₀ start s (value ∷ After) r → Answered K₀ start s After (after_colon fields s cells base k r).outcome
    unfolding after_colon
    after-colon cells k (Ok at) a =
        stored-value cells k at (value_at s at (type_of fields k)) (value-at K₀ start s After at a (type_of fields k))
    after-colon cells k (Err e) a = a

    after-name : (cells : List ℕ) (at : ℕ) → At K₀ start s (a_member ++ K) at → (n : NameRead) → NameAnswered (member_rest ++ K) n → Answered K₀ start s After (after_name fields s at cells base n).outcome
    unfolding after_name
    after-name cells at a (Ok n) b =
        by-test (λ (f : Filled). Answered K₀ start s After f.outcome) (is_read cells base n.index) _ _
        (λ _. judged (a_member ++ K) (omega arith) a)
        (λ _. after-colon cells n.index (colon_at s n.end) (colon-at (value ∷ After) n.end b))
    after-name cells at a (Err e) b = b

    pair-at : (cells : List ℕ) (at : ℕ) → At K₀ start s (a_member ++ K) at → Answered K₀ start s After (pair_at fields s at cells base).outcome
    unfolding pair_at
    pair-at cells at a = after-name cells at a (name_at fields s at) (name-at (member_rest ++ K) fields at a)

    -- ---- The closing brace
    closed_at : (k : Symbol) (cells : List ℕ) (at : ℕ) → At K₀ start s (k ∷ K) at × At K₀ start s K (at + 1) → Answered K₀ start s K (record_closed_at fields cells base at)
    unfolding record_closed_at
    closed_at k cells at a =
        by-test (Answered K₀ start s K) (is_missing fields cells base 0) _ _
        (λ _. judged (k ∷ K) (omega arith) a.0)
        (λ _. a.1)

    -- ---- The names and values one behind the other
    after-pair : (n : ℕ) (cells : List ℕ) (end : ℕ) → ((next : ℕ) → end < next → At K₀ start s (a_member ++ K) next → Answered K₀ start s K (pairs_from n fields s next cells base).outcome) → (x : Next) → NextIn s end x → NextAnswered after_member (a_member ++ K) K x → Answered K₀ start s K (elim x as (λ _. Filled) [ More next ↦ pairs_from n fields s next cells base | Ends last ↦ cells_filled cells (record_closed_at fields cells base last) | Neither place ↦ cells_filled cells (fault_at 11 place) ]).outcome
    after-pair n cells end rest (More next) h a = rest next h.0 a
    after-pair n cells end rest (Ends last) h a = closed_at after_member cells last a
    after-pair n cells end rest (Neither place) h a = a

    member-next : (end : ℕ) → At K₀ start s After end → NextAnswered after_member (a_member ++ K) K (next_after s end 125)
    unfolding row_of
    member-next end a =
        next-at after_member a_member K 125 (omega arith) refl refl (λ b n m. rw (row_of, ne_eqb b 125 m, ne_eqb b 44 n)) end a

    pair_turn : (n : ℕ) (cells : List ℕ) (at : ℕ) → ((next : ℕ) → at < next → At K₀ start s (a_member ++ K) next → Answered K₀ start s K (pairs_from n fields s next cells base).outcome) → (r : Reading) → Within s at r → Answered K₀ start s After r → Answered K₀ start s K (elim r as (λ _. Filled) [
      | Ok end ↦
          elim (next_after s end 125) [
            | More next ↦ pairs_from n fields s next cells base
            | Ends last ↦ cells_filled cells (record_closed_at fields cells base last)
            | Neither place ↦ cells_filled cells (fault_at 11 place)
          ]
      | Err e ↦ cells_filled cells (Err e)
    ]).outcome
    pair_turn n cells at rest (Ok end) h a =
        after-pair n cells end (λ next l b. rest next (omega (arith, h.0)) b) (next_after s end 125) (next-in s end h.1 125 (omega arith)) (member-next end a)
    pair_turn n cells at rest (Err e) h a = a

    pairs-from : (n : ℕ) (cells : List ℕ) (at : ℕ) → length s < at + n → At K₀ start s (a_member ++ K) at → Answered K₀ start s K (pairs_from n fields s at cells base).outcome
    unfolding pairs_from
    pairs-from zero cells at m a = absurd (omega (arith, a.inside))
    pairs-from (suc n) cells at m a =
        let pair = pair_at fields s at cells base in
        pair_turn n pair.cells at (λ next l b. pairs-from n pair.cells next (omega arith) b) pair.outcome (pair-in fields s base cells at a.inside).place (pair-at cells at a)

    members-of : (cells : List ℕ) (at : ℕ) (x : Next) → NextIn s at x → NextAnswered in_object (a_member ++ K) K x → Answered K₀ start s K (members_of fields s cells base x).outcome
    unfolding members_of
    members-of cells at (More next) h a = pairs-from (length s) cells next (omega (arith, h.0)) a
    members-of cells at (Ends last) h a = closed_at in_object cells last a
    members-of cells at (Neither place) h a = a

    -- ---- The record whose opening brace stands at a place
    opened : (at : ℕ) → byte_at s at ≡ 0x7B → At K₀ start s (value ∷ K) at → NextAnswered in_object (a_member ++ K) K (first_in s at 125)
    unfolding row_of within
    opened at e a =
        first-at in_object a_member K 125 (omega arith) refl (object-turn K) at (inside s at 0x7B e (omega arith))
        (push_at value K (spaces ∷ in_object ∷ []) 0x7B e (omega arith) refl a)

    pub record-at : (cells : List ℕ) (at : ℕ) → byte_at s at ≡ 0x7B → At K₀ start s (value ∷ K) at → Answered K₀ start s K (record_at fields s at cells base).outcome
    unfolding record_at
    record-at cells at e a =
        by-test (λ (f : Filled). Answered K₀ start s K f.outcome) (record_has_room s cells base (length fields)) _ _
        (λ _. members-of (cleared cells base (2 * length fields)) at (first_in s at 125) (first-in s at 125 (omega arith)) (opened at e a))
        (λ _. judged (value ∷ K) (omega arith) a)
