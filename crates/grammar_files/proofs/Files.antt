-- A file along the machine: its records, what stands between them, and its end; and what that says of its mark.
-- Assumes nothing.
use Rattle.std.specs.Prelude.{Ok, Err}
use Prim.Native.Nat.{ℕ, zero, suc, ◌+◌, ◌*◌, ◌<◌}
use mathlib.Core.Path.{◌≡◌, refl}
use mathlib.Core.Logic.{◌⊎◌, inl, inr}
use mathlib.Core.Bool.{Bool}
use mathlib.Core.List.{List, [], ◌∷◌}
use native.Mathlib.Omega.{arith}
use borrow.Author.Tests.{eqb-true, ltb-true, ltb-false, ne_eqb}
use lib.Dec.{ltb, eqb}
use lib.ListN.{length}
use Rattle.json_bytes.specs.Reads.{byte_at, within, spaces_end, Reading}
use Rattle.json_bytes.proofs.Laws.{by-test, inside}
use Rattle.json_bytes.proofs.Bounds.{Within}
use Rattle.table_rows.specs.Rows.{Field}
use Rattle.table_name.specs.Name.{first_in, next_after}
use Rattle.table_name.specs.declared.Next.{Next}
use Rattle.table_name.specs.declared.Next.TheVariants.{More, Ends, Neither}
use Rattle.table_record.specs.Record.{Filled}
use Rattle.table_record.proofs.Bounds.{NextIn, next-in, first-in}
use Rattle.table_file.specs.declared.FileRead.{FileRead}
use Rattle.table_file.specs.Table.{TableRead, table_read, fault, end_of_file, single_read, single_of, single_at, element_at, elements_from, elements_of, array_at, read_table}
use Rattle.table_file.proofs.Laws.{element-in}
use Rattle.grammar.specs.Grammar.{Bytes}
use Rattle.grammar_machine.proofs.Machine.{spaces, value, in_array, after_element, Stack, an_element, a_text, row_of}
use Rattle.grammar_machine.proofs.Places.{At, at-start, push_at}
use Rattle.grammar_machine.proofs.Tokens.{Told, behind, judged, Answered, spaces-at}
use Rattle.grammar_files.proofs.Values.{not-object-at}
use Rattle.grammar_files.proofs.Records.{NextAnswered, next-at, first-at, array-turn, record-at}

-- ---- What a file's mark says: it holds, and the machine is through with it; or its fault is told
pub record Through (s : Bytes) (place : ℕ) : Type 0 where
  pub nowhere : place ≡ 0
  pub done : At a_text 0 s [] (length s)

abbrev pub Marked : Bytes → FileRead → Type 0
Marked s m = ((m.kind ≡ 0) × Through s m.place) ⊎ Told a_text 0 s m.kind m.place

-- what may come behind an element
abbrev pub After : Stack
After = spaces ∷ after_element ∷ spaces ∷ []

module _ (s : Bytes) where
  -- ---- The end
  end-at : (at records : ℕ) → At a_text 0 s (spaces ∷ []) at → Marked s (end_of_file s at records)
  unfolding end_of_file
  end-at at records a =
      let b : At a_text 0 s [] (spaces_end s at) = spaces-at [] a in
      by-test (Marked s) (ltb (spaces_end s at) (length s)) _ _
      (λ t. inr (behind b (ltb-true (spaces_end s at) (length s) t)))
      (λ t.
      let same : spaces_end s at ≡ length s = omega (arith, b.inside, ltb-false (spaces_end s at) (length s) t) in
      inl (refl, record { nowhere = refl; done = rw same at b }))

  single-read : (r : Reading) → Answered a_text 0 s (spaces ∷ []) r → Marked s (single_read s r)
  unfolding single_read
  single-read (Ok end) a = end-at end 1 a
  single-read (Err e) a = inr a

  module _ (fields : List Field) where
    -- ---- A singleton
    single-at : (cells : List ℕ) (at : ℕ) → At a_text 0 s (value ∷ spaces ∷ []) at → Marked s (single_at fields s cells at).read
    unfolding single_at single_of
    single-at cells at a =
        by-test (λ (t : TableRead). Marked s t.read) (eqb (byte_at s at) 123) _ _
        (λ e. single-read _ (record-at a_text 0 s fields 0 (spaces ∷ []) cells at (eqb-true _ 123 e) a))
        (λ _. single-read _ (not-object-at a_text 0 s (spaces ∷ []) at a))

    -- ---- An element
    pub element-at : (cells : List ℕ) (at r : ℕ) → At a_text 0 s (value ∷ After) at → Answered a_text 0 s After (element_at fields s at cells r).outcome
    unfolding element_at
    element-at cells at r a =
        by-test (λ (f : Filled). Answered a_text 0 s After f.outcome) (eqb (byte_at s at) 123) _ _
        (λ e. by-test (λ (f : Filled). Answered a_text 0 s After f.outcome) (ltb r 4096) _ _
        (λ _. record-at a_text 0 s fields (r * (2 * length fields)) After cells at (eqb-true _ 123 e) a)
        (λ _. judged (value ∷ After) (omega arith) a))
        (λ _. not-object-at a_text 0 s After at a)

    -- ---- The elements one behind the other
    pub element-next : (end : ℕ) → At a_text 0 s After end → NextAnswered a_text 0 s after_element (value ∷ After) (spaces ∷ []) (next_after s end 93)
    unfolding row_of
    element-next end a =
        next-at a_text 0 s after_element an_element (spaces ∷ []) 93 (omega arith) refl refl (λ b n m. rw (row_of, ne_eqb b 93 m, ne_eqb b 44 n)) end a

    after-element : (n : ℕ) (cells : List ℕ) (end r : ℕ) → ((next : ℕ) → end < next → At a_text 0 s (value ∷ After) next → Marked s (elements_from n fields s next cells (r + 1)).read) → (x : Next) → NextIn s end x → NextAnswered a_text 0 s after_element (value ∷ After) (spaces ∷ []) x → Marked s (elim x as (λ _. TableRead) [ More next ↦ elements_from n fields s next cells (r + 1) | Ends last ↦ table_read cells (end_of_file s (last + 1) (r + 1)) | Neither place ↦ table_read cells (fault 11 place 0) ]).read
    after-element n cells end r rest (More next) h a = rest next h.0 a
    after-element n cells end r rest (Ends last) h a = end-at (last + 1) (r + 1) a.1
    after-element n cells end r rest (Neither place) h a = inr a

    element-turn : (n : ℕ) (cells : List ℕ) (at r : ℕ) → ((next : ℕ) → at < next → At a_text 0 s (value ∷ After) next → Marked s (elements_from n fields s next cells (r + 1)).read) → (o : Reading) → Within s at o → Answered a_text 0 s After o → Marked s (elim o as (λ _. TableRead) [
      | Ok end ↦
          elim (next_after s end 93) [
            | More next ↦ elements_from n fields s next cells (r + 1)
            | Ends last ↦ table_read cells (end_of_file s (last + 1) (r + 1))
            | Neither place ↦ table_read cells (fault 11 place 0)
          ]
      | Err e ↦ table_read cells (fault e.kind e.place (r + 1))
    ]).read
    element-turn n cells at r rest (Ok end) h a =
        after-element n cells end r (λ next l b. rest next (omega (arith, h.0)) b) (next_after s end 93) (next-in s end h.1 93 (omega arith)) (element-next end a)
    element-turn n cells at r rest (Err e) h a = inr a

    elements-from : (n : ℕ) (cells : List ℕ) (at r : ℕ) → length s < at + n → At a_text 0 s (value ∷ After) at → Marked s (elements_from n fields s at cells r).read
    unfolding elements_from
    elements-from zero cells at r m a = absurd (omega (arith, a.inside))
    elements-from (suc n) cells at r m a =
        let element = element_at fields s at cells r in
        element-turn n element.cells at r (λ next l b. elements-from n element.cells next (r + 1) (omega arith) b) element.outcome (element-in fields s at cells r a.inside) (element-at cells at r a)

    elements-of : (cells : List ℕ) (at : ℕ) (x : Next) → NextIn s at x → NextAnswered a_text 0 s in_array (value ∷ After) (spaces ∷ []) x → Marked s (elements_of fields s cells x).read
    unfolding elements_of
    elements-of cells at (More next) h a = elements-from (length s) cells next 0 (omega (arith, h.0)) a
    elements-of cells at (Ends last) h a = end-at (last + 1) 0 a.1
    elements-of cells at (Neither place) h a = inr a

    -- ---- A table
    pub array-first : (at : ℕ) → byte_at s at ≡ 0x5B → At a_text 0 s (value ∷ spaces ∷ []) at → NextAnswered a_text 0 s in_array (value ∷ After) (spaces ∷ []) (first_in s at 93)
    unfolding row_of within
    array-first at e a =
        first-at a_text 0 s in_array an_element (spaces ∷ []) 93 (omega arith) refl (array-turn a_text 0 s (spaces ∷ [])) at (inside s at 0x5B e (omega arith))
        (push_at value (spaces ∷ []) (spaces ∷ in_array ∷ []) 0x5B e (omega arith) refl a)

    array-at : (cells : List ℕ) (at : ℕ) → At a_text 0 s (value ∷ spaces ∷ []) at → Marked s (array_at fields s cells at).read
    unfolding array_at single_of
    array-at cells at a =
        by-test (λ (t : TableRead). Marked s t.read) (eqb (byte_at s at) 91) _ _
        (λ e. elements-of cells at (first_in s at 93) (first-in s at 93 (omega arith)) (array-first at (eqb-true _ 91 e) a))
        (λ _. single-read _ (not-object-at a_text 0 s (spaces ∷ []) at a))

    pub value-first : At a_text 0 s (value ∷ spaces ∷ []) (spaces_end s 0)
    value-first = spaces-at (value ∷ spaces ∷ []) (at-start a_text 0 s (omega arith))

    pub table-marked : (single : Bool) (cells : List ℕ) → Marked s (read_table single fields s cells).read
    unfolding read_table
    table-marked single cells =
        by-test (λ (t : TableRead). Marked s t.read) single _ _
        (λ _. single-at cells (spaces_end s 0) value-first)
        (λ _. array-at cells (spaces_end s 0) value-first)
