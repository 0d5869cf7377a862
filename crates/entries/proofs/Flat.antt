-- Entries as numbers in a list: written one behind the other, and read back.
-- Assumes nothing.
use Rattle.std.proofs.Common.{◌≡◌, ℕ, suc, ◌+◌, ◌-◌, ◌*◌, ◌<◌, ◌≤◌, Bool, true, false, leb, List, [], ◌∷◌, ◌++◌, map, length, get_or, take, drop, set, sym, refl, ap, ◌∙◌, append_assoc, append-nil, add-zero, add-one, arith, length-append, take-append-drop, length-take-le, take_all, take-suc, leb-false, leb-true}
use lib.ListN.{length-map}
use lib.Seq.{sets-eq}
use Rattle.bundle_bytes.specs.Pieces.{written}
use Rattle.bundle_bytes.proofs.Laws.{written_none, written-fits, written-length, written_behind, written-part-before}
use Rattle.parts.specs.Part.{part_of}
use Rattle.parts.proofs.Laws.{part-is}
use Rattle.entries.specs.declared.Entry.{Entry}
use Rattle.entries.specs.Flat.{entry_numbers, flat_of}

-- ---- lists written one behind the other
module _ (d : List ℕ) (at : ℕ) where
  pub written-nothing : written d at [] ≡ d
  written-nothing = go (leb at (length d)) refl
    where
      go : (t : Bool) → leb at (length d) ≡ t → written d at [] ≡ d
      go true e = written-fits d at [] (omega (arith, leb-true at (length d) e)) ∙ rw (append-nil (take at d), add-zero at) (take-append-drop at d)
      go false e = sym (written_none d at [] (omega (arith, leb-false at (length d) e)))

  pub written_on : (v u : List ℕ) → at + length v + length u ≤ length d → written (written d at v) (at + length v) u ≡ written d at (v ++ u)
  written_on v u l =
      let p = take at d ++ v in
      let long : length p ≡ at + length v = length-append (take at d) v ∙ ap (λ n. n + length v) (length-take-le at d (omega arith)) in
      let both : length (p ++ u) ≡ at + length (v ++ u) = omega (arith, length-append p u, length-append v u, long) in
      ap (λ w. written w (at + length v) u) (written-fits d at v (omega arith))
      ∙ ap (λ n. written (p ++ drop n d) n u) (sym long)
      ∙ written_behind p d u (omega (arith, long))
      ∙ ap (λ n. (p ++ u) ++ drop n d) both
      ∙ ap (λ w. w ++ drop (at + length (v ++ u)) d) (append_assoc (take at d) v u)
      ∙ sym (written-fits d at (v ++ u) (omega (arith, length-append v u)))

  -- what stands before is as it was
  pub taken-before : (v : List ℕ) (from to : ℕ) → from ≤ to → to ≤ at → at ≤ length d → take (to - from) (drop from (written d at v)) ≡ part_of d from to
  taken-before v from to l m n = written-part-before d at v from (to - from) (omega arith) ∙ sym (part-is d from to l (omega arith))

  pub part-before : (v : List ℕ) (from to : ℕ) → from ≤ to → to ≤ at → part_of (written d at v) from to ≡ part_of d from to
  unfolding part_of
  part-before v from to l m = rw (written-length d at v, written-part-before d at v from (to - from) (omega arith))

-- ---- entries as numbers
pub flat-long : (es : List Entry) → length (flat_of es) ≡ 4 * length es
unfolding flat_of entry_numbers
flat-long [] = refl
flat-long (e ∷ es) = omega (arith, flat-long es)

pub flat-join : (es fs : List Entry) → flat_of (es ++ fs) ≡ flat_of es ++ flat_of fs
unfolding flat_of
flat-join [] fs = refl
flat-join (e ∷ es) fs = ap (λ r. entry_numbers e ++ r) (flat-join es fs) ∙ sym (append_assoc (entry_numbers e) (flat_of es) (flat_of fs))

pub flat-one : (e : Entry) → flat_of (e ∷ []) ≡ entry_numbers e
unfolding flat_of entry_numbers
flat-one e = refl

-- the four stores of an entry
pub entry-stored : (d : List ℕ) (at : ℕ) (e : Entry) → at + 4 ≤ length d → set (set (set (set d at e.start) (at + 1) e.length) (at + 2) e.sum) (at + 3) e.«record» ≡ written d at (entry_numbers e)
unfolding entry_numbers
entry-stored d at e l = rw (add-two, add-three, add-one at) (sets-eq (entry_numbers e) d at l ∙ sym (written-fits d at (entry_numbers e) l))
  where
    add-two : at + 2 ≡ suc (suc at)
    add-two = omega arith

    add-three : at + 3 ≡ suc (suc (suc at))
    add-three = omega arith

-- ---- the entries of the records that a list names, written one after the other
pub map-join : (f : ℕ → Entry) (xs ys : List ℕ) → map f (xs ++ ys) ≡ map f xs ++ map f ys
map-join f [] ys = refl
map-join f (x ∷ xs) ys = ap (λ r. f x ∷ r) (map-join f xs ys)

-- those of the first i
pub record Listed (f : ℕ → Entry) (d : List ℕ) (at : ℕ) (order : List ℕ) (i : ℕ) (work : List ℕ) : Type 0 where
  pub is : work ≡ written d at (flat_of (map f (take i order)))

four-long : (e : Entry) → length (entry_numbers e) ≡ 4
unfolding entry_numbers
four-long e = refl

module _ (f : ℕ → Entry) (d : List ℕ) (at : ℕ) (order : List ℕ) where
  pub list-starts : Listed f d at order 0 d
  unfolding flat_of
  list-starts = record { is = sym (written-nothing d at) }

  flat-size : (i : ℕ) → i ≤ length order → length (flat_of (map f (take i order))) ≡ 4 * i
  flat-size i l = omega (arith, flat-long (map f (take i order)), length-map (take i order) f, length-take-le i order l)

  module _ {i : ℕ} {work : List ℕ} (so : Listed f d at order i work) where
    pub list-more : i < length order → at + 4 * length order ≤ length d → {e : Entry} → e ≡ f (get_or order i 0) → {place : ℕ} → place ≡ at + 4 * i → {last : List ℕ} → last ≡ written work place (entry_numbers e) → Listed f d at order (i + 1) last
    list-more l room {e} e-is {place} place_is last-is =
        let so_far = flat_of (map f (take i order)) in
        let long : length so_far ≡ 4 * i = flat-size i (omega arith) in
        let next : flat_of (map f (take (i + 1) order)) ≡ so_far ++ entry_numbers e = rw (add-one i, take-suc order i 0 l, map-join f (take i order) (get_or order i 0 ∷ []), ← e-is, flat-join (map f (take i order)) (e ∷ [])) (ap (λ r. so_far ++ r) (flat-one e)) in
        record {
          is =
              last-is
              ∙ ap (λ w. written w place (entry_numbers e)) so.is
              ∙ ap (λ n. written (written d at so_far) n (entry_numbers e)) (place_is ∙ ap (λ n. at + n) (sym long))
              ∙ written_on d at so_far (entry_numbers e) (omega (arith, long, four-long e))
              ∙ ap (λ v. written d at v) (sym next);
        }

    pub list-ends : length order ≤ i → work ≡ written d at (flat_of (map f order))
    list-ends l = so.is ∙ ap (λ r. written d at (flat_of (map f r))) (take_all i order l)
