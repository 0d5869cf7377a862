-- A name and its value, read whole, are a member of the grammar, and the cells of the field that it names say where the
-- value stands.
-- Assumes nothing.
use Rattle.std.specs.Prelude.{Ok, Err}
use Prim.Native.Nat.{ℕ, ◌+◌, ◌≤◌, ◌<◌}
use mathlib.Core.Path.{◌≡◌, refl, sym, ap, subst}
use mathlib.Core.Bool.{cond}
use mathlib.Core.List.{List, ◌∷◌}
use native.Mathlib.Nat.{add-zero}
use native.Mathlib.Omega.{arith}
use borrow.Author.Tests.{eqb-true, ltb-true, ltb-false}
use lib.Dec.{ltb, eqb}
use lib.ListN.{length, drop, length-drop}
use lib.Seq.{get_or-drop}
use Rattle.json_bytes.specs.Reads.{byte_at, spaces_end, Reading, fault_at}
use Rattle.json_bytes.proofs.Laws.{by-test, inside}
use Rattle.json_bytes.proofs.Bounds.{Within, spaces-within}
use Rattle.json_chars.specs.Chars.{chars_at}
use Rattle.json_text.specs.Text.{text_read_at}
use Rattle.json_text.proofs.Bounds.{text-within}
use Rattle.table_rows.specs.Rows.{Field}
use Rattle.table_value.specs.Value.{value_at}
use Rattle.table_value.specs.declared.ValueRead.{ValueRead}
use Rattle.table_value.specs.declared.ValueRead.TheVariants.{Held, Null, Bad}
use Rattle.table_value.proofs.Bounds.{ValueIn, value_in}
use Rattle.table_name.specs.Name.{index_of, named_at, name_at, colon_at, NameRead}
use Rattle.table_record.specs.Record.{start_cell, stored, Filled, type_of, stored_value, after_colon, is_read, after_name, pair_at}
use Rattle.grammar.specs.Grammar.{Bytes, Spaces, String, Value, Member, meant}
use Rattle.grammar_machine.proofs.Places.{drop-byte}
use Rattle.grammar_cells.specs.Objects.{member_of, place_of, names_null, start_in, end_in}
use Rattle.grammar_cells.proofs.Here.{spaces-here, string-here, null_at, ValueIs, value-is}

-- ---- Places
place_is : (s : Bytes) (i : ℕ) → i ≤ length s → place_of s (drop i s) ≡ i
place_is s i l = omega (arith, length-drop i s)

null_is : (s : Bytes) (name : List ℕ) (start end ty : ℕ) → start ≤ length s → end ≤ length s → names_null ty s (record { name = name; from = drop start s; behind = drop end s }) ≡ null_at s start ty end
unfolding names_null
null_is s name start end ty l m =
    rw (get_or-drop start s 0 0, add-zero start, place_is s start l, place_is s end m)

-- ---- A name and its value, read whole up to an end
pub record PairIs (fields : List Field) (s : Bytes) (at : ℕ) (cells : List ℕ) (base end : ℕ) (then : List ℕ) : Type 0 where
  pub member : Member (drop at s) (drop end s)
  pub field : ℕ
  pub known : field < length fields
  pub index : index_of (member_of member).name fields ≡ field
  pub unread : start_cell cells base field ≡ 0
  pub start : ℕ
  pub behind : 0 < start
  pub starts : start_in s (member_of member) ≡ start
  pub last : ℕ
  pub ends : end_in s (type_of fields field) (member_of member) ≡ last
  pub told : then ≡ stored cells base field start last

-- no fault is whole
pub never : {A : Type 0} {kind place end : ℕ} → fault_at kind place ≡ Ok end → A
never e = absurd (let z : ◌≡◌ {A = ℕ} 0 1 = cc in omega arith)

module _ (fields : List Field) (s : Bytes) (at : ℕ) (l : at ≤ length s) where
  -- ---- The name
  pub record NameIs (k end : ℕ) : Type 0 where
    pub codes : List ℕ
    pub string : String (drop at s) codes (drop end s)
    pub index : index_of (meant codes) fields ≡ k
    pub known : k < length fields
    pub inside : end ≤ length s

  abbrev Naming : NameRead → Type 0
  Naming (Ok n) = NameIs n.index n.end
  Naming (Err e) = Unit {0}

  named-is : (end : ℕ) → text_read_at s at ≡ Ok end → Naming (named_at fields s at end)
  unfolding named_at
  named-is end e =
      let h = string-here s at l e in
      let w : Within s at (Ok end) = rw e at (text-within s at l) in
      by-test Naming (ltb (index_of (chars_at s at) fields) (length fields)) _ _
      (λ t. record { codes = h.0; string = h.1; index = ap (λ (cs : List ℕ). index_of cs fields) (sym h.2); known = ltb-true _ _ t; inside = w.1 })
      (λ _. tt)

  name_of : (r : Reading) → text_read_at s at ≡ r → Naming (elim r [ Ok end ↦ named_at fields s at end | Err e ↦ Err e ])
  name_of (Ok end) e = named-is end e
  name_of (Err x) e = tt

  name-is : Naming (name_at fields s at)
  unfolding name_at
  name-is = name_of (text_read_at s at) refl

  -- ---- The colon
  pub record ColonIs (end start : ℕ) : Type 0 where
    pub colon : ℕ
    pub before : Spaces (drop end s) (0x3A ∷ drop colon s)
    pub after : Spaces (drop colon s) (drop start s)
    pub first : 0 < start
    pub inside : start ≤ length s

  abbrev Colon : ℕ → Reading → Type 0
  Colon end (Ok start) = ColonIs end start
  Colon end (Err e) = Unit {0}

  colon-is : (end : ℕ) → end ≤ length s → Colon end (colon_at s end)
  unfolding colon_at
  colon-is end m =
      by-test (Colon end) (eqb (byte_at s (spaces_end s end)) 58) _ _
      (λ e.
      let q : byte_at s (spaces_end s end) ≡ 58 = eqb-true _ 58 e in
      let n : spaces_end s end < length s = inside s (spaces_end s end) 58 q (omega arith) in
      let w = spaces-within s (spaces_end s end + 1) (omega arith) in
      record {
        colon = spaces_end s end + 1;
        before = rw (drop-byte s (spaces_end s end) 58 q n) at (spaces-here s end m);
        after = spaces-here s (spaces_end s end + 1) (omega arith);
        first = omega (arith, w.0);
        inside = w.1;
      })
      (λ _. tt)

  module _ (cells : List ℕ) (base : ℕ) where
    -- ---- The value
    abbrev Pairing : Filled → Type 0
    Pairing f = (end : ℕ) → f.outcome ≡ Ok end → PairIs fields s at cells base end f.cells

    module _ (k e : ℕ) (name : NameIs k e) (unread : start_cell cells base k ≡ 0) where
      module _ (start : ℕ) (colon : ColonIs e start) where
        -- the value ends here, with this in its end cell
        pair_of : (end last : ℕ) → end ≤ length s → Value (drop start s) (drop end s) → cond (null_at s start (type_of fields k) end) 0 end ≡ last → PairIs fields s at cells base end (stored cells base k start last)
        unfolding member_of start_in end_in
        pair_of end last m v q =
            record {
              member = Member.named name.string colon.before colon.after v;
              field = k;
              known = name.known;
              index = name.index;
              unread = unread;
              start = start;
              behind = colon.first;
              starts = place_is s start colon.inside;
              last = last;
              ends = rw (null_is s (meant name.codes) start end (type_of fields k) colon.inside m, place_is s end m) q;
              told = refl;
            }

        value_of : (v : ValueRead) → ValueIn s start v → ValueIs s start (type_of fields k) v → Pairing (stored_value cells base k start v)
        unfolding stored_value
        value_of (Held end) i h stop q =
            let same : end ≡ stop = cc in
            subst (λ (x : ℕ). PairIs fields s at cells base x (stored cells base k start end)) same (pair_of end end i.1 h.0 (rw h.1))
        value_of (Null end) i h stop q =
            let same : end ≡ stop = cc in
            subst (λ (x : ℕ). PairIs fields s at cells base x (stored cells base k start 0)) same (pair_of end 0 i.1 h.0 (rw h.1))
        value_of (Bad kind place) i h stop q = never q

      colon-of : (r : Reading) → Colon e r → Pairing (after_colon fields s cells base k r)
      unfolding after_colon
      colon-of (Ok start) c =
          value_of start c (value_at s start (type_of fields k)) (value_in s start c.inside (type_of fields k)) (value-is s start (type_of fields k) c.inside)
      colon-of (Err e) c = λ stop q. never q

    after-name : (n : NameRead) → Naming n → Pairing (after_name fields s at cells base n)
    unfolding after_name is_read
    after-name (Ok n) h =
        by-test Pairing (ltb 0 (start_cell cells base n.index)) _ _
        (λ _ stop q. never q)
        (λ t. colon-of n.index n.end h (omega (arith, ltb-false 0 (start_cell cells base n.index) t)) (colon_at s n.end) (colon-is n.end h.inside))
    after-name (Err e) h = λ stop q. never q

    pub pair_is : Pairing (pair_at fields s at cells base)
    unfolding pair_at
    pair_is = after-name (name_at fields s at) name-is
