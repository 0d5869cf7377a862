-- The grammar has a text in one way, as far as its objects go: however it is read off, they are the same.
-- Assumes nothing.
use Prim.Native.Nat.{ℕ}
use mathlib.Core.Path.{◌≡◌, refl, sym, ap, ◌∙◌}
use mathlib.Core.Bool.{Bool, true, false}
use mathlib.Core.List.{List, [], ◌∷◌}
use native.Mathlib.Omega.{arith}
use lib.ListN.{get_or}
use Rattle.json_chars.specs.Chars.{chars_at}
use Rattle.grammar.specs.Grammar.{Bytes, Spaces, Literal, Whole, Minus, Number, String, Value, Member, Members, Elements, Text, meant}
use Rattle.grammar_machine.proofs.Machine.{spaces, row_of, settle, ends, verdict}
use Rattle.grammar_machine.proofs.Run.{Passes, pass}
use Rattle.grammar_machine.proofs.Complete.{spaces-run, string-run, Solid, value-solid, members-solid, elements-solid, Quiet, spaces-quiet, quiet-comma, quiet-bracket, quiet-brace, value-run}
use Rattle.grammar_chars.proofs.Meaning.{string-means}
use Rattle.grammar_cells.specs.Objects.{Named, member_of, named_members, object_of, named_elements, named_array, named_records}

-- what is left is told by the machine with nothing on its stack
same_rest : (r q : Bytes) → verdict [] r ≡ verdict [] q → r ≡ q
unfolding verdict settle ends
same_rest [] [] e = refl
same_rest [] (b ∷ q) e = absurd (let z : ◌≡◌ {A = ℕ} 0 1 = cc in omega arith)
same_rest (b ∷ r) [] e = absurd (let z : ◌≡◌ {A = ℕ} 0 1 = cc in omega arith)
same_rest (b ∷ r) (c ∷ q) e = cc

-- spaces up to something that is none
spaces-one : {l m r q : Bytes} → Spaces l r → Spaces m q → l ≡ m → Passes spaces r → Passes spaces q → r ≡ q
spaces-one {l} {m} {r} {q} h i e p o =
    same_rest r q
    (sym (spaces-run h [] ∙ pass spaces [] r p) ∙ ap (verdict (spaces ∷ [])) e ∙ spaces-run i [] ∙ pass spaces [] q o)

-- strings: what they mean, and what is left
string-one : {l m r q : Bytes} {cs ds : List ℕ} → String l cs r → String m ds q → l ≡ m → (meant cs ≡ meant ds) × (r ≡ q)
string-one {l} {m} {r} {q} h i e =
    (sym (string-means l 0 h) ∙ ap (λ (x : Bytes). chars_at x 0) e ∙ string-means m 0 i, same_rest r q (sym (string-run h []) ∙ ap (verdict _) e ∙ string-run i []))

value-one : {l m r q : Bytes} → Value l r → Value m q → l ≡ m → Quiet r → Quiet q → r ≡ q
value-one {l} {m} {r} {q} v w e p o = same_rest r q (sym (value-run v p []) ∙ ap (verdict _) e ∙ value-run w o [])

-- ---- Members
solid-passes : {l : Bytes} → Solid l → Passes spaces l
solid-passes (Solid.solid b e n m) = e

rest_of : {b : ℕ} {l m : Bytes} → b ∷ l ≡ b ∷ m → l ≡ m
rest_of e = cc

-- a member is told by its name and its value, and so is what is left
member-one : {l m r q : Bytes} (a : Member l r) (b : Member m q) → l ≡ m → Quiet r → Quiet q → (member_of a ≡ member_of b) × (r ≡ q)
unfolding member_of row_of
member-one (Member.named h i j v) (Member.named h' i' j' v') e p o =
    let name = string-one h h' e in
    let colon = spaces-one i i' name.1 refl refl in
    let from = spaces-one j j' (rest_of colon) (solid-passes (value-solid v)) (solid-passes (value-solid v')) in
    let behind = value-one v v' from p o in
    (λ x. record { name = name.0 x; from = from x; behind = behind x }, behind)

both : {n n' : Named} {ns ns' : List Named} → n ≡ n' → ns ≡ ns' → n ∷ ns ≡ n' ∷ ns'
both e f = cc

members-one : {l m r q : Bytes} (a : Members l r) (b : Members m q) → l ≡ m → named_members a ≡ named_members b
unfolding named_members row_of
members-one (Members.last_member a h) (Members.last_member b i) e =
    both (member-one a b e (spaces-quiet h quiet-brace) (spaces-quiet i quiet-brace)).0 refl
members-one (Members.last_member a h) (Members.more_members b i j bs) e =
    let n = member-one a b e (spaces-quiet h quiet-brace) (spaces-quiet i quiet-comma) in
    let x = spaces-one h i n.1 refl refl in
    absurd (let z : ◌≡◌ {A = ℕ} 0x7D 0x2C = cc in omega arith)
members-one (Members.more_members a h j more) (Members.last_member b i) e =
    let n = member-one a b e (spaces-quiet h quiet-comma) (spaces-quiet i quiet-brace) in
    let x = spaces-one h i n.1 refl refl in
    absurd (let z : ◌≡◌ {A = ℕ} 0x2C 0x7D = cc in omega arith)
members-one (Members.more_members a h j more) (Members.more_members b i k bs) e =
    let n = member-one a b e (spaces-quiet h quiet-comma) (spaces-quiet i quiet-comma) in
    let x = rest_of (spaces-one h i n.1 refl refl) in
    both n.0 (members-one more bs (spaces-one j k x (solid-passes (members-solid more)) (solid-passes (members-solid bs))))

-- ---- Objects
abbrev first : Bytes → ℕ
first l = get_or l 0 0

-- what is neither begins with neither an opening brace nor an opening bracket
abbrev Plain : Bytes → Type 0
Plain l = (first l ≡ 0x7B → ⊥) × (first l ≡ 0x5B → ⊥)

literal-plain : {l r : Bytes} → Literal l r → Plain l
literal-plain Literal.is_true = omega arith
literal-plain Literal.is_false = omega arith
literal-plain Literal.is_null = omega arith

number-plain : {l r : Bytes} → Number l r → Plain l
number-plain (Number.parts Minus.minus_sign i j k) = omega arith
number-plain (Number.parts Minus.no_minus Whole.zero_alone j k) = omega arith
number-plain (Number.parts Minus.no_minus (Whole.no_zero_first h s) j k) = omega arith

string-plain : {l r : Bytes} {cs : List ℕ} → String l cs r → Plain l
string-plain (String.quoted t) = omega arith

-- a value that begins with an opening byte closes at once or has these; any other has none
data View (opening closing : ℕ) (A : Type 0) (X : Bytes → Bytes → Type 0) (of : (l r : Bytes) → X l r → List A) (l r : Bytes) : List A → Type 0 where
  none : {o : Bytes} → l ≡ opening ∷ o → Spaces o (closing ∷ r) → View opening closing A X of l r []
  some : {o m : Bytes} → l ≡ opening ∷ o → Spaces o m → (x : X m r) → View opening closing A X of l r (of m r x)
  other : (first l ≡ opening → ⊥) → View opening closing A X of l r []

module _ (opening closing : ℕ) (A : Type 0) (X : Bytes → Bytes → Type 0) (of : (l r : Bytes) → X l r → List A) (closes : (r : Bytes) → Passes spaces (closing ∷ r)) (begins : (l r : Bytes) → X l r → Passes spaces l × (first l ≡ closing → ⊥)) (same : (l m r q : Bytes) (x : X l r) (y : X m q) → l ≡ m → of l r x ≡ of m q y) where
  apart : {l m o p r q : Bytes} → l ≡ opening ∷ o → m ≡ opening ∷ p → l ≡ m → Spaces o (closing ∷ r) → {n : Bytes} → Spaces p n → X n q → ⊥
  apart {r = r} {q} a b e h {n} i x =
      let z = spaces-one h i (rest_of (sym a ∙ e ∙ b)) (closes r) (begins n q x).0 in
      (begins n q x).1 (sym (ap first z))

  view-one : {l m r q : Bytes} {xs ys : List A} → View opening closing A X of l r xs → View opening closing A X of m q ys → l ≡ m → xs ≡ ys
  view-one (none a h) (none b i) e = refl
  view-one (none a h) (some b i y) e = absurd (apart a b e h i y)
  view-one (none a h) (other n) e = absurd (n (ap first (sym e ∙ a)))
  view-one (some a h x) (none b i) e = absurd (apart b a (sym e) i h x)
  view-one (some a h x) (some b i y) e =
      same _ _ _ _ x y (spaces-one h i (rest_of (sym a ∙ e ∙ b)) (begins _ _ x).0 (begins _ _ y).0)
  view-one (some a h x) (other n) e = absurd (n (ap first (sym e ∙ a)))
  view-one (other n) (none b i) e = absurd (n (ap first (e ∙ b)))
  view-one (other n) (some b i y) e = absurd (n (ap first (e ∙ b)))
  view-one (other n) (other o) e = refl

-- ---- Objects
object-view : {l r : Bytes} (v : Value l r) → View 0x7B 0x7D Named Members (λ l r ms. named_members ms) l r (object_of v)
unfolding object_of
object-view (Value.literal h) = other (literal-plain h).0
object-view (Value.number h) = other (number-plain h).0
object-view (Value.string h) = other (string-plain h).0
object-view (Value.no_members s) = none refl s
object-view (Value.object s ms) = some refl s ms
object-view (Value.no_elements s) = other (omega arith)
object-view (Value.array s vs) = other (omega arith)

solid-brace : {l : Bytes} → Solid l → Passes spaces l × (first l ≡ 0x7D → ⊥)
solid-brace (Solid.solid b e n m) = (e, m)

objects-one : {l m r q : Bytes} (v : Value l r) (w : Value m q) → l ≡ m → object_of v ≡ object_of w
unfolding row_of
objects-one v w e =
    view-one 0x7B 0x7D Named Members (λ l r ms. named_members ms) (λ r. refl) (λ l r ms. solid-brace (members-solid ms))
    (λ l m r q x y. members-one x y) (object-view v) (object-view w) e

-- ---- Arrays of them
each : {n n' : List Named} {ns ns' : List (List Named)} → n ≡ n' → ns ≡ ns' → n ∷ ns ≡ n' ∷ ns'
each e f = cc

elements-one : {l m r q : Bytes} (a : Elements l r) (b : Elements m q) → l ≡ m → named_elements a ≡ named_elements b
unfolding named_elements row_of
elements-one (Elements.last_element v h) (Elements.last_element w i) e = each (objects-one v w e) refl
elements-one (Elements.last_element v h) (Elements.more_elements w i j ws) e =
    let x = spaces-one h i (value-one v w e (spaces-quiet h quiet-bracket) (spaces-quiet i quiet-comma)) refl refl in
    absurd (let z : ◌≡◌ {A = ℕ} 0x5D 0x2C = cc in omega arith)
elements-one (Elements.more_elements v h j vs) (Elements.last_element w i) e =
    let x = spaces-one h i (value-one v w e (spaces-quiet h quiet-comma) (spaces-quiet i quiet-bracket)) refl refl in
    absurd (let z : ◌≡◌ {A = ℕ} 0x2C 0x5D = cc in omega arith)
elements-one (Elements.more_elements v h j vs) (Elements.more_elements w i k ws) e =
    let x = rest_of (spaces-one h i (value-one v w e (spaces-quiet h quiet-comma) (spaces-quiet i quiet-comma)) refl refl) in
    each (objects-one v w e) (elements-one vs ws (spaces-one j k x (solid-passes (elements-solid vs)) (solid-passes (elements-solid ws))))

array_view : {l r : Bytes} (v : Value l r) → View 0x5B 0x5D (List Named) Elements (λ l r vs. named_elements vs) l r (named_array v)
unfolding named_array
array_view (Value.literal h) = other (literal-plain h).1
array_view (Value.number h) = other (number-plain h).1
array_view (Value.string h) = other (string-plain h).1
array_view (Value.no_members s) = other (omega arith)
array_view (Value.object s ms) = other (omega arith)
array_view (Value.no_elements s) = none refl s
array_view (Value.array s vs) = some refl s vs

solid-bracket : {l : Bytes} → Solid l → Passes spaces l × (first l ≡ 0x5D → ⊥)
solid-bracket (Solid.solid b e n m) = (e, n)

arrays-one : {l m r q : Bytes} (v : Value l r) (w : Value m q) → l ≡ m → named_array v ≡ named_array w
unfolding row_of
arrays-one v w e =
    view-one 0x5B 0x5D (List Named) Elements (λ l r vs. named_elements vs) (λ r. refl) (λ l r vs. solid-bracket (elements-solid vs))
    (λ l m r q x y. elements-one x y) (array_view v) (array_view w) e

-- ---- Texts
pub records-one : (single : Bool) {l : Bytes} (t u : Text l) → named_records single t ≡ named_records single u
unfolding named_records
records-one true (Text.text h v i) (Text.text j w k) =
    each (objects-one v w (spaces-one h j refl (solid-passes (value-solid v)) (solid-passes (value-solid w)))) refl
records-one false (Text.text h v i) (Text.text j w k) =
    arrays-one v w (spaces-one h j refl (solid-passes (value-solid v)) (solid-passes (value-solid w)))
