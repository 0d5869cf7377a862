-- 20 is given: a table with no fields and 4,097 records, the last only begun. Too long to compute, so it is shown turn by turn.
-- Assumes nothing.
use Rattle.std.specs.Prelude.{Ok}
use Prim.Native.Nat.{ℕ, zero, suc, ◌+◌, ◌*◌, ◌^◌, ◌<◌}
use mathlib.Core.Path.{◌≡◌, refl, sym, ap, ◌∙◌}
use mathlib.Core.Bool.{Bool, false}
use mathlib.Core.List.{List, [], ◌∷◌}
use native.Mathlib.Nat.{add-zero, mul-zero}
use native.Mathlib.Omega.{arith}
use borrow.Author.Tests.{lt-ltb}
use lib.ListN.{length, get_or, drop}
use lib.Dec.{lit<}
use lib.Seq.{get_or-drop, drop-drop}
use Rattle.json_bytes.specs.Reads.{byte_at, is_space, spaces_end}
use Rattle.json_bytes.proofs.Laws.{inside, run-stops}
use Rattle.parts.specs.Files.{Given}
use Rattle.table_name.specs.Name.{first_in, next_after}
use Rattle.table_name.specs.declared.Next.TheVariants.{More, Ends}
use Rattle.table_record.specs.Record.{cells_filled, is_missing, record_closed_at, members_of, cleared}
use Rattle.table_record.proofs.Laws.{room-is, record-room}
use Rattle.table_file.specs.Table.{element_at, elements_from, elements_of, array_at, read_table}
use Rattle.table_file.specs.File.{Records, read_as, file_of}

-- n records `{}`, each with a comma behind it, and the brace of one more
unfoldable pub empties : ℕ → List ℕ
empties zero = 123 ∷ []
empties (suc n) = 123 ∷ 125 ∷ 44 ∷ empties n

empties-first : (n : ℕ) → (rest : List ℕ) × (empties n ≡ 123 ∷ rest)
unfolding empties
empties-first zero = ([], refl)
empties-first (suc n) = (125 ∷ 44 ∷ empties n, refl)

empties-length : (n : ℕ) → length (empties n) ≡ 3 * n + 1
unfolding empties
empties-length zero = refl
empties-length (suc n) = omega (arith, empties-length n)

module _ (s : List ℕ) where
  module _ (i b : ℕ) (rest : List ℕ) (is : drop i s ≡ b ∷ rest) where
    here : byte_at s i ≡ b
    here =
        let e : byte_at s (i + 0) ≡ b = sym (get_or-drop i s 0 0) ∙ ap (λ (l : List ℕ). get_or l 0 0) is in
        rw add-zero at e

    next : drop (i + 1) s ≡ rest
    next = sym (drop-drop 1 i s) ∙ ap (drop 1) is

    -- a byte that is none of the four ends the spaces where it stands
    stays : 0 < b → is_space b ≡ false → spaces_end s i ≡ i
    unfolding spaces_end
    stays more none = run-stops is_space s i (inside s i b here more) (rw here none)

  module _ (small : length s < 2 ^ 32) (at : ℕ) (rest : List ℕ) (is : drop at s ≡ 123 ∷ 125 ∷ 44 ∷ 123 ∷ rest) where
    -- the places of its closing brace, of the comma and of the next record
    closing : drop (at + 1) s ≡ 125 ∷ 44 ∷ 123 ∷ rest
    closing = next at 123 _ is

    comma : drop (at + 1 + 1) s ≡ 44 ∷ 123 ∷ rest
    comma = next (at + 1) 125 _ closing

    behind : drop (at + 1 + 1 + 1) s ≡ 123 ∷ rest
    behind = next (at + 1 + 1) 44 _ comma

    first-is : first_in s at 125 ≡ Ends (at + 1)
    unfolding first_in is_space
    first-is =
        rw (
          lt-ltb at (length s) (inside s at 123 (here at 123 _ is) (lit< tt)),
          stays (at + 1) 125 _ closing (lit< tt) refl,
          here (at + 1) 125 _ closing,
        )

    next-is : next_after s (at + 1 + 1) 93 ≡ More (at + 1 + 1 + 1)
    unfolding next_after is_space
    next-is =
        rw (
          stays (at + 1 + 1) 44 _ comma (lit< tt) refl,
          here (at + 1 + 1) 44 _ comma,
          stays (at + 1 + 1 + 1) 123 _ behind (lit< tt) refl,
        )

    element-is : (r : ℕ) → r < 4096 → element_at [] s at [] r ≡ cells_filled [] (Ok (at + 1 + 1))
    unfolding element_at members_of record_closed_at is_missing cleared
    element-is r l =
        rw (
          here at 123 _ is,
          lt-ltb r 4096 l,
          record-room [] s at [] (r * 0) (room-is s [] (r * 0) 0 small (omega arith) (omega (arith, mul-zero r))),
          first-is,
        )

    turn : (f r : ℕ) → r < 4096 → elements_from (suc f) [] s at [] r ≡ elements_from f [] s (at + 1 + 1 + 1) [] (r + 1)
    unfolding elements_from
    turn f r l = rw (element-is r l, elements_from, next-is, element-is r l)

  one-too-many : (f at : ℕ) → drop at s ≡ 123 ∷ [] → (elements_from (suc f) [] s at [] 4096).read.kind ≡ 20
  unfolding elements_from element_at
  one-too-many f at is = rw (here at 123 [] is, elements_from)

  -- n records more, behind those that make up the 4,096 with them
  elements-are : length s < 2 ^ 32 → (n f at r : ℕ) → drop at s ≡ empties n → r + n ≡ 4096 → n < f → (elements_from f [] s at [] r).read.kind ≡ 20
  unfolding empties
  elements-are small n zero at r is sum more = absurd (omega arith)
  elements-are small zero (suc f) at r is sum more =
      let e : r ≡ 4096 = omega arith in
      rw e (one-too-many f at is)
  elements-are small (suc n) (suc f) at r is sum more =
      let first = empties-first n in
      let all = is ∙ ap (λ (l : List ℕ). 123 ∷ 125 ∷ 44 ∷ l) first.1 in
      rw (turn small at first.0 all f r (omega arith))
      (elements-are small n f (at + 1 + 1 + 1) (r + 1) (behind small at first.0 all ∙ sym first.1) (omega arith) (omega arith))

  table_is : length s < 2 ^ 32 → 4096 < length s → drop 0 s ≡ 91 ∷ empties 4096 → (read_table false [] s []).read.kind ≡ 20
  unfolding read_table array_at elements_of first_in is_space
  table_is small long is =
      let first = empties-first 4096 in
      let opened = next 0 91 _ is ∙ first.1 in
      rw (
        stays 0 91 _ is (lit< tt) refl,
        here 0 91 _ is,
        lt-ltb 0 (length s) (omega arith),
        stays 1 123 first.0 opened (lit< tt) refl,
        here 1 123 first.0 opened,
      )
      (elements-are small 4096 (length s) 1 0 (next 0 91 _ is) (omega arith) long)

-- the file
unfoldable pub many_records : List ℕ
many_records = 91 ∷ empties 4096

many-length : length many_records ≡ 12290
unfolding many_records
many-length = omega (arith, empties-length 4096)

pub many-short : length many_records < 2 ^ 32
many-short = omega (arith, many-length)

pub many-given : (required : Bool) → (file_of (record { form = Records []; required = required }) (Given many_records) []).read.kind ≡ 20
unfolding file_of read_as many_records
many-given required = table_is many_records many-short (omega (arith, many-length)) refl
