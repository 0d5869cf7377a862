-- Which kinds a value can give, by the type of its field and by what stands there.
-- Assumes nothing.
use Rattle.std.specs.Prelude.{Ok}
use Prim.Native.Nat.{ℕ, ◌+◌, ◌≤◌}
use mathlib.Core.Path.{◌≡◌, refl, sym, subst, ◌∙◌}
use mathlib.Core.Bool.{Bool, true, false, cond, false≢true}
use mathlib.Core.List.{List, [], ◌∷◌, ◌++◌, map, flat_map}
use native.Mathlib.Omega.{arith}
use borrow.Author.Tests.{ltb-true, ltb-false, le-leb, lt-leb, ne_eqb}
use lib.Dec.{ltb, eqb}
use Rattle.json_bytes.specs.Reads.{byte_at, within, literal_at, Reading, fault_at}
use Rattle.json_bytes.proofs.Laws.{either, together, by-test}
use Rattle.json_bytes.proofs.FaultKinds.{is_in, In, every, each, wider, in_left, in_right, below, below_in, in_order, Faults, of-reading, kind_of, literal_kinds, literal-kinds}
use Rattle.json_chars.specs.Chars.{chars_at}
use Rattle.json_text.specs.Text.{text_read_at, wrong_at, text_read}
use Rattle.json_text.specs.declared.TextType.{TextType}
use Rattle.json_text.specs.declared.TextType.TheVariants.{Text, String, StringID}
use Rattle.json_text.specs.declared.Wrong.{Wrong}
use Rattle.json_text.proofs.FaultKinds.{text_kinds, text-kinds, rules_of, Rule, wrong-rule}
use Rattle.json_number.specs.Number.{number_at, integer_of}
use Rattle.json_number.specs.declared.Value.{Value}
use Rattle.json_number.specs.declared.Value.TheVariants.{Fits, Beyond}
use Rattle.json_number.specs.declared.Integer.{Integer}
use Rattle.json_number.specs.declared.Integer.TheVariants.{Is, Fraction, TooLarge}
use Rattle.json_number.proofs.FaultKinds.{number_kinds, number-kinds}
use Rattle.json_date.specs.Date.{Date, date_of}
use Rattle.std.specs.Prelude.{Some, None}
use Rattle.table_value.specs.Value.{
  text_type,
  text_held,
  date_held,
  string_in,
  string_value,
  decimal_held,
  integer_held,
  number_in,
  number_value,
  literal_in,
  literal_value,
  starts_number,
  opens,
  value_at,
  token_at,
  not_object_of,
  not_object_at,
}
use Rattle.table_value.specs.declared.ValueRead.{ValueRead}
use Rattle.table_value.specs.declared.ValueRead.TheVariants.{Held, Null, Bad}
use Rattle.table_value.proofs.Opens.{open-values}

-- ---- the kinds of a string, a number or a literal that is read whole, by the type of the field
abbrev pub rule_kinds : TextType → List ℕ
rule_kinds ty = map (λ (rule : ℕ). 29 + rule) (rules_of ty)

abbrev pub string_found : ℕ → List ℕ
string_found ty = cond (within 4 6 ty) (rule_kinds (text_type ty)) (cond (eqb ty 1) (17 ∷ []) (15 ∷ []))

abbrev pub number_found : ℕ → List ℕ
number_found ty = cond (eqb ty 2) (18 ∷ []) (cond (eqb ty 3) (18 ∷ 34 ∷ []) (15 ∷ []))

abbrev pub literal_found : ℕ → List ℕ
literal_found ty = cond (eqb ty 0) [] (15 ∷ [])

-- those of reading it come first; an array or an object is 15
abbrev pub value_kinds : ℕ → List ℕ
value_kinds ty =
    text_kinds ++ string_found ty ++ (number_kinds ++ number_found ty ++ ((15 ∷ []) ++ (literal_kinds ++ literal_found ty)))

abbrev pub ValueFaults : List ℕ → ValueRead → Type 0
ValueFaults ks (Held end) = Unit {0}
ValueFaults ks (Null end) = Unit {0}
ValueFaults ks (Bad kind place) = In ks kind

module _ (ks more : List ℕ) where
  pub value-wider : ((kind : ℕ) → In ks kind → In more kind) → (v : ValueRead) → ValueFaults ks v → ValueFaults more v
  value-wider f (Held end) h = tt
  value-wider f (Null end) h = tt
  value-wider f (Bad kind place) h = f kind h

module _ (ks more : List ℕ) where
  -- two answers, by a test
  joined : (t : Bool) (v w : ValueRead) → ValueFaults ks v → ValueFaults more w → ValueFaults (ks ++ more) (cond t v w)
  joined t v w p q =
      either (ValueFaults (ks ++ more)) t v w (value-wider ks (ks ++ more) (in_left ks more) v p)
      (value-wider more (ks ++ more) (in_right ks more) w q)

  -- a reading, and what is found behind it
  judged : (f : Reading → ValueRead) → ((kind place : ℕ) → f (fault_at kind place) ≡ Bad kind place) → ((end : ℕ) → ValueFaults more (f (Ok end))) → (r : Reading) → Faults ks r → ValueFaults (ks ++ more) (f r)
  judged f bad found =
      of-reading (λ r. ValueFaults (ks ++ more) (f r)) ks (λ end. value-wider more (ks ++ more) (in_right ks more) (f (Ok end)) (found end))
      (λ kind place h. rw (bad kind place) (in_left ks more kind h))

-- a rule's number and its kind
renumbered : (ty : TextType) → every (λ rule. cond (ltb 0 rule) (is_in (rule_kinds ty) (29 + rule)) true) (0 ∷ rules_of ty) ≡ true
renumbered Text = refl
renumbered String = refl
renumbered StringID = refl

rule-kind : (ty : TextType) (rule : ℕ) → Rule ty rule → ltb 0 rule ≡ true → In (rule_kinds ty) (29 + rule)
rule-kind ty rule h e =
    rw e at (each (λ n. cond (ltb 0 n) (is_in (rule_kinds ty) (29 + n)) true) (0 ∷ rules_of ty) (renumbered ty) rule h)

abbrev Gives : ValueRead → List ℕ → Type 0
Gives v ks = ValueFaults ks v

module _ (s : List ℕ) (at ty : ℕ) where
  date-found : (end : ℕ) (d : Date) → ValueFaults (17 ∷ []) (date_held at end d)
  unfolding date_held
  date-found end (Some day) = tt
  date-found end None = refl

  string-found : (wrong : Wrong) → Rule (text_type ty) wrong.rule → (end : ℕ) → ValueFaults (string_found ty) (string_in s at ty end wrong)
  unfolding string_in text_held
  string-found wrong h end =
      together Gives (within 4 6 ty) _ _ _ _
      (by-test (ValueFaults (rule_kinds (text_type ty))) (ltb 0 wrong.rule) _ _ (rule-kind (text_type ty) wrong.rule h)
      (λ _. either (ValueFaults (rule_kinds (text_type ty))) (eqb end (at + 2)) _ _ tt tt))
      (together Gives (eqb ty 1) _ _ _ _ (date-found end (date_of (chars_at s at))) refl)

  decimal-found : (end : ℕ) (v : Value) → ValueFaults (18 ∷ []) (decimal_held at end v)
  unfolding decimal_held
  decimal-found end (Fits negative c p15) = tt
  decimal-found end Beyond = refl

  integer-found : (end : ℕ) (n : Integer) → ValueFaults (18 ∷ 34 ∷ []) (integer_held at end n)
  unfolding integer_held
  integer-found end (Is negative magnitude) = tt
  integer-found end Fraction = refl
  integer-found end TooLarge = refl

  number-found : (v : Value) (end : ℕ) → ValueFaults (number_found ty) (number_in at ty end v)
  unfolding number_in
  number-found v end =
      together Gives (eqb ty 2) _ _ _ _ (decimal-found end v)
      (together Gives (eqb ty 3) _ _ _ _ (integer-found end (integer_of v)) refl)

  literal-found : (end : ℕ) → ValueFaults (literal_found ty) (literal_in s at ty end)
  unfolding literal_in
  literal-found end =
      either (ValueFaults (literal_found ty)) (eqb (byte_at s at) 110) _ _ tt (together Gives (eqb ty 0) _ _ _ _ tt refl)

  of-string : ValueFaults (text_kinds ++ string_found ty) (string_value s at ty (text_read (text_type ty) s at))
  unfolding string_value text_read
  of-string =
      judged text_kinds (string_found ty) (λ r. string_value s at ty (record { reading = r; wrong = wrong_at (text_type ty) s at })) (λ kind place. refl)
      (string-found (wrong_at (text_type ty) s at) (wrong-rule (text_type ty) s at)) (text_read_at s at) (text-kinds s at)

  of_number : ValueFaults (number_kinds ++ number_found ty) (number_value at ty (number_at s at))
  unfolding number_value
  of_number =
      judged number_kinds (number_found ty) (λ r. number_value at ty (record { reading = r; value = (number_at s at).value })) (λ kind place. refl)
      (number-found (number_at s at).value) (number_at s at).reading (number-kinds s at)

  of-literal : ValueFaults (literal_kinds ++ literal_found ty) (literal_value s at ty (literal_at s at))
  unfolding literal_value
  of-literal =
      judged literal_kinds (literal_found ty) (literal_value s at ty) (λ kind place. refl) literal-found (literal_at s at) (literal-kinds s at)

  pub value-kinds : ValueFaults (value_kinds ty) (value_at s at ty)
  unfolding value_at
  value-kinds =
      joined (text_kinds ++ string_found ty) _ (eqb (byte_at s at) 34) _ _ of-string
      (joined (number_kinds ++ number_found ty) _ (starts_number (byte_at s at)) _ _ of_number
      (joined (15 ∷ []) (literal_kinds ++ literal_found ty) (opens (byte_at s at)) _ _ refl of-literal))

  -- ---- where a number stands
  number_is : starts_number (byte_at s at) ≡ true → value_at s at ty ≡ number_value at ty (number_at s at)
  unfolding value_at starts_number within
  number_is e = rw (ne_eqb (byte_at s at) 34 (λ quote. false≢true (rw quote at e)), e)

  pub number-value-kinds : starts_number (byte_at s at) ≡ true → ValueFaults (number_kinds ++ number_found ty) (value_at s at ty)
  number-value-kinds e = rw (number_is e) of_number

  -- and is read whole
  pub whole-number-kinds : starts_number (byte_at s at) ≡ true → (end : ℕ) → (number_at s at).reading ≡ Ok end → ValueFaults (number_found ty) (value_at s at ty)
  unfolding number_value
  whole-number-kinds e end whole = rw (number_is e, whole, number_value) (number-found (number_at s at).value end)

-- document 02, order 4: "A fractional Integer becomes 34": a number in an Integer field is 11 while it is read, and 18 or 34
-- once it is read whole
pub integer-kinds : (s : List ℕ) (at end : ℕ) → starts_number (byte_at s at) ≡ true → (number_at s at).reading ≡ Ok end → ValueFaults (18 ∷ 34 ∷ []) (value_at s at 3)
integer-kinds s at end e = whole-number-kinds s at 3 e end

pub integer-number-never-15 : (s : List ℕ) (at place : ℕ) → starts_number (byte_at s at) ≡ true → value_at s at 3 ≡ Bad 15 place → ⊥
integer-number-never-15 s at place e bad = false≢true (rw bad at (number-value-kinds s at 3 e))

-- ---- where an object belongs: those of reading a string, a number or a literal, and 12
abbrev pub token_kinds : List ℕ
token_kinds = text_kinds ++ number_kinds ++ literal_kinds

token-kinds : (s : List ℕ) (at : ℕ) → Faults token_kinds (token_at s at)
unfolding token_at
token-kinds s at =
    either (Faults token_kinds) (eqb (byte_at s at) 34) _ _ (among text_kinds refl (text_read_at s at) (text-kinds s at))
    (either (Faults token_kinds) (starts_number (byte_at s at)) _ _ (among number_kinds refl (number_at s at).reading (number-kinds s at))
    (among literal_kinds refl (literal_at s at) (literal-kinds s at)))
  where
    among : (ks : List ℕ) → every (is_in token_kinds) ks ≡ true → (r : Reading) → Faults ks r → Faults token_kinds r
    among ks all = of-reading (Faults token_kinds) ks (λ end. tt) (λ kind place. wider ks token_kinds all kind)

abbrev pub other_kinds : List ℕ
other_kinds = 12 ∷ token_kinds

pub not-object-kinds : (s : List ℕ) (at : ℕ) → Faults other_kinds (not_object_at s at)
unfolding not_object_at not_object_of
not-object-kinds s at =
    either (Faults other_kinds) (opens (byte_at s at)) _ _ refl
    (of-reading (λ r. Faults other_kinds (not_object_of at r)) token_kinds (λ end. refl)
    (λ kind place h. in_right (12 ∷ []) token_kinds kind h) (token_at s at) (token-kinds s at))

-- ---- which type has which
-- no value belongs in a type beyond the seven: all of them have one set
beyond : (ty : ℕ) → 7 ≤ ty → value_kinds ty ≡ value_kinds 7
unfolding within
beyond ty l =
    rw (
      ne_eqb ty 0 (λ e. omega arith),
      ne_eqb ty 1 (λ e. omega arith),
      ne_eqb ty 2 (λ e. omega arith),
      ne_eqb ty 3 (λ e. omega arith),
      le-leb 4 ty (omega arith),
      lt-leb ty 6 (omega arith),
    )

abbrev numbers : ℕ → List ℕ
numbers n = below (λ _. true) n

each-type : (f : ℕ → List ℕ → Bool) → every (λ ty. f ty (value_kinds ty)) (numbers 7) ≡ true → ((ty : ℕ) → f ty (value_kinds 7) ≡ true) → (ty : ℕ) → f ty (value_kinds ty) ≡ true
each-type f seven rest ty = go (ltb ty 7) refl
  where
    go : (t : Bool) → ltb ty 7 ≡ t → f ty (value_kinds ty) ≡ true
    go true l = each (λ n. f n (value_kinds n)) (numbers 7) seven ty (below_in (λ _. true) 7 ty (ltb-true ty 7 l) refl)
    go false l = rw (beyond ty (ltb-false ty 7 l)) (rest ty)

-- the kinds of a value in a field of any type
abbrev pub typed_kinds : List ℕ
typed_kinds = flat_map value_kinds (numbers 8)

pub any-type : (ty kind : ℕ) → In (value_kinds ty) kind → In typed_kinds kind
unfolding below flat_map within text_type
any-type ty = wider (value_kinds ty) typed_kinds (each-type (λ _ ks. every (is_in typed_kinds) ks) refl (λ _. refl) ty)

pub by-type : map (λ ty. in_order (value_kinds ty)) (numbers 8)
    ≡ ((10 ∷ 11 ∷ 15 ∷ []) ∷  -- Boolean
    (10 ∷ 11 ∷ 15 ∷ 17 ∷ []) ∷  -- Date
    (10 ∷ 11 ∷ 15 ∷ 18 ∷ []) ∷  -- Decimal
    (10 ∷ 11 ∷ 15 ∷ 18 ∷ 34 ∷ []) ∷  -- Integer
    (10 ∷ 11 ∷ 15 ∷ 30 ∷ 31 ∷ 33 ∷ []) ∷  -- String
    (10 ∷ 11 ∷ 15 ∷ 30 ∷ 31 ∷ 32 ∷ []) ∷  -- StringID
    (10 ∷ 11 ∷ 15 ∷ 30 ∷ 33 ∷ []) ∷  -- Text
    (10 ∷ 11 ∷ 15 ∷ []) ∷  -- no type
    [])
unfolding below within text_type
by-type = refl

-- the types in whose fields a kind is found
abbrev pub types_of : ℕ → List ℕ
types_of kind = below (λ ty. is_in (value_kinds ty) kind) 7

pub found_in : (kind : ℕ) → is_in (value_kinds 7) kind ≡ false → (s : List ℕ) (at ty place : ℕ) → value_at s at ty ≡ Bad kind place → In (types_of kind) ty
found_in kind none s at ty place bad = go (ltb ty 7) refl (rw bad at (value-kinds s at ty))
  where
    go : (t : Bool) → ltb ty 7 ≡ t → In (value_kinds ty) kind → In (types_of kind) ty
    go true l h = below_in (λ n. is_in (value_kinds n) kind) 7 ty (ltb-true ty 7 l) h
    go false l h =
        absurd (false≢true (sym none ∙ subst (λ (ks : List ℕ). In ks kind) (beyond ty (ltb-false ty 7 l)) h))

pub by_kind : map types_of (17 ∷ 18 ∷ 30 ∷ 31 ∷ 32 ∷ 33 ∷ 34 ∷ [])
    ≡ ((1 ∷ []) ∷  -- 17: Date
    (2 ∷ 3 ∷ []) ∷  -- 18: Decimal and Integer
    (4 ∷ 5 ∷ 6 ∷ []) ∷  -- 30: String, StringID and Text
    (4 ∷ 5 ∷ []) ∷  -- 31: String and StringID
    (5 ∷ []) ∷  -- 32: StringID
    (4 ∷ 6 ∷ []) ∷  -- 33: String and Text
    (3 ∷ []) ∷  -- 34: Integer
    [])
unfolding below within text_type
by_kind = refl

-- ---- each is given
abbrev value_kind : ValueRead → ℕ
value_kind (Held end) = 0
value_kind (Null end) = 0
value_kind (Bad kind place) = kind

abbrev texts : List (List ℕ)
texts =
    (34 ∷ 0xFF ∷ []) ∷  -- a byte that begins no sequence
    (120 ∷ []) ∷  -- `x`
    (91 ∷ []) ∷  -- `[`
    (34 ∷ 34 ∷ []) ∷  -- `""`
    (49 ∷ 101 ∷ 57 ∷ 57 ∷ []) ∷  -- `1e99`
    (48 ∷ 46 ∷ 53 ∷ []) ∷  -- `0.5`
    (34 ∷ 92 ∷ 117 ∷ 48 ∷ 48 ∷ 55 ∷ 70 ∷ 34 ∷ []) ∷  -- `"\u007F"`
    (34 ∷ 32 ∷ 34 ∷ []) ∷  -- `" "`
    (34 ∷ 92 ∷ 117 ∷ 48 ∷ 48 ∷ 69 ∷ 57 ∷ 34 ∷ []) ∷  -- `"\u00E9"`
    (34 ∷ 92 ∷ 117 ∷ 68 ∷ 56 ∷ 48 ∷ 48 ∷ 34 ∷ []) ∷  -- `"\uD800"`
    (110 ∷ 117 ∷ 108 ∷ 108 ∷ []) ∷  -- `null`, which every type takes
    []

-- these few texts, read in each type, give each kind of its set, and 0 for no fault
pub value-given : map (λ ty. in_order (map (λ s. value_kind (value_at s 0 ty)) texts)) (numbers 8)
    ≡ map (λ ty. in_order (0 ∷ value_kinds ty)) (numbers 8)
unfolding open-values below
value-given = refl

pub not-object-given : in_order (map (λ s. kind_of (not_object_at s 0)) texts) ≡ in_order other_kinds
unfolding open-values below
not-object-given = refl
