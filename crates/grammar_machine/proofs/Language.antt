-- What each symbol stands for in the grammar, and that every row of the machine's table is right: the byte that a row takes
-- and what then comes are a word of its symbol.
-- Assumes nothing.
use Prim.Native.Nat.{ℕ, suc, ◌+◌}
use mathlib.Core.Path.{◌≡◌, refl}
use mathlib.Core.Bool.{Bool, true, false}
use mathlib.Core.List.{List, [], ◌∷◌, ◌++◌, map}
use native.Mathlib.Omega.{arith}
use borrow.Author.Tests.{eqb-true}
use Rattle.json_bytes.proofs.Laws.{within-from, within-to}
use Rattle.grammar.specs.Grammar
use Rattle.grammar.specs.Grammar.{Bytes, From, Spaces, Literal, Digits, Whole, Minus, Fraction, Sign, Exponent, Hex, Character, Characters, Value, Member, Members, Elements}
use Rattle.grammar_machine.proofs.Machine.{Symbol, just, one, spaces, literal, minus, whole, digits, fraction, exponent, sign, characters, escape, hex, value, in_object, after_member, in_array, after_element, Stack, Row, at, up_to, takes, then_of, member_rest, a_member, an_element, as_element, value_rows, rows, optional, Push, row_of, move_of, expand}

-- ---- The words of a symbol: `Word k l r` says that l begins with one, and that r stands behind it
pub data Exactly (b : ℕ) : Bytes → Bytes → Type 0 where
  exactly : {r : Bytes} → Exactly b (b ∷ r) r

pub data Among (lowest more : ℕ) : Bytes → Bytes → Type 0 where
  among : {b : ℕ} {r : Bytes} → From lowest (lowest + more) b → Among lowest more (b ∷ r) r

pub data HexDigit : Bytes → Bytes → Type 0 where
  hex_digit : {b v : ℕ} {r : Bytes} → Hex b v → HexDigit (b ∷ r) r

-- what goes on is said by what it completes: with whatever stood before it, it makes a whole
abbrev pub Word : Symbol → Bytes → Bytes → Type 0
Word (just b) l r = Exactly b l r
Word (one lowest more) l r = Among lowest more l r
Word spaces l r = Spaces l r
Word literal l r = Literal l r
Word minus l r = Minus l r
Word whole l r = Whole l r
Word digits l r = (d : ℕ) → From 0x30 0x39 d → Digits (d ∷ l) r
Word fraction l r = Fraction l r
Word exponent l r = Exponent l r
Word sign l r = Sign l r
Word characters l r = (cs : List ℕ) × Characters l cs r
Word escape l r = (c : ℕ) × Character (0x5C ∷ l) c r
Word hex l r = HexDigit l r
Word value l r = Value l r
Word in_object l r = (o : Bytes) → Spaces o l → Value (0x7B ∷ o) r
Word after_member l r = (o m : Bytes) → Member o m → Spaces m l → Members o r
Word in_array l r = (o : Bytes) → Spaces o l → Value (0x5B ∷ o) r
Word after_element l r = (o m : Bytes) → Value o m → Spaces m l → Elements o r

-- the words of a stack, one behind the other, and then what holds of the rest
abbrev pub Words : Stack → (Bytes → Type 0) → Bytes → Type 0
Words [] P l = P l
Words (k ∷ K) P l = (m : Bytes) × Word k l m × Words K P m

pub words-join : (N K : Stack) (P : Bytes → Type 0) (l : Bytes) → Words N (Words K P) l → Words (N ++ K) P l
words-join [] K P l w = w
words-join (j ∷ N) K P l w = (w.0, w.1, words-join N K P w.0 w.2)

pub words-part : (N K : Stack) (P : Bytes → Type 0) (l : Bytes) → Words (N ++ K) P l → Words N (Words K P) l
words-part [] K P l w = w
words-part (j ∷ N) K P l w = (w.0, w.1, words-part N K P w.0 w.2)

-- ---- Each symbol has a word before anything
pub some_word : (k : Symbol) (r : Bytes) → (l : Bytes) × Word k l r
some_word (just b) r = (b ∷ r, exactly)
some_word (one lowest more) r = (lowest ∷ r, among {b = lowest} (omega arith))
some_word spaces r = (r, Grammar.no_space)
some_word literal r = (_, Grammar.is_true)
some_word minus r = (r, Grammar.no_minus)
some_word whole r = (0x30 ∷ r, Grammar.zero_alone)
some_word digits r = (r, λ d h. Grammar.last_digit h)
some_word fraction r = (r, Grammar.no_fraction)
some_word exponent r = (r, Grammar.no_exponent)
some_word sign r = (r, Grammar.no_sign)
some_word characters r = (0x22 ∷ r, ([], Grammar.end_quote))
some_word escape r = (0x22 ∷ r, (0x22, Grammar.letter Grammar.quotation_mark))
some_word hex r = (0x30 ∷ r, hex_digit (Grammar.decimal {b = 0x30} (omega arith)))
some_word value r = (_, Grammar.literal Grammar.is_true)
some_word in_object r = (0x7D ∷ r, λ o s. Grammar.no_members s)
some_word after_member r = (0x7D ∷ r, λ o m n s. Grammar.last_member n s)
some_word in_array r = (0x5D ∷ r, λ o s. Grammar.no_elements s)
some_word after_element r = (0x5D ∷ r, λ o m v s. Grammar.last_element v s)

pub some_words : (K : Stack) → (l : Bytes) × Words K (λ r. r ≡ []) l
some_words [] = ([], refl)
some_words (k ∷ K) =
    let rest : (l : Bytes) × Words K (λ r. r ≡ []) l = some_words K in
    ((some_word k rest.0).0, (rest.0, (some_word k rest.0).1, rest.1))

-- ---- A symbol that is optional has the empty word
never : {A : Type 0} → false ≡ true → A
never e = absurd (let z : ◌≡◌ {A = ℕ} 0 1 = cc in omega arith)

pub empty-word : (k : Symbol) → optional k ≡ true → (l : Bytes) → Word k l l
empty-word (just b) e l = never e
empty-word (one lowest more) e l = never e
empty-word spaces e l = Grammar.no_space
empty-word literal e l = never e
empty-word minus e l = Grammar.no_minus
empty-word whole e l = never e
empty-word digits e l = λ d h. Grammar.last_digit h
empty-word fraction e l = Grammar.no_fraction
empty-word exponent e l = Grammar.no_exponent
empty-word sign e l = Grammar.no_sign
empty-word characters e l = never e
empty-word escape e l = never e
empty-word hex e l = never e
empty-word value e l = never e
empty-word in_object e l = never e
empty-word after_member e l = never e
empty-word in_array e l = never e
empty-word after_element e l = never e

-- ---- A row is right: a byte that it takes, and the words of what then comes, are a word of its symbol
abbrev Behind : Symbol → ℕ → Stack → Type 1
Behind k b then = (P : Bytes → Type 0) (l : Bytes) → Words then P l → (m : Bytes) × Word k (b ∷ l) m × P m

abbrev Right : Symbol → Row → Type 1
Right k (at b then) = Behind k b then
Right k (up_to lowest highest then) = (b : ℕ) → From lowest highest b → Behind k b then

abbrev AllRight : Symbol → List Row → Type 1
AllRight k [] = Unit {1}
AllRight k (r ∷ rs) = Right k r × AllRight k rs

infixr 20 ◌and◌
◌and◌ : {A B : Type 1} → A → B → A × B
a and b = (a, b)

-- letters of a literal
true-word : {l m n r : Bytes} → Exactly 0x72 l m → Exactly 0x75 m n → Exactly 0x65 n r → Literal (0x74 ∷ l) r
true-word exactly exactly exactly = Grammar.is_true

false-word : {l m n o r : Bytes} → Exactly 0x61 l m → Exactly 0x6C m n → Exactly 0x73 n o → Exactly 0x65 o r → Literal (0x66 ∷ l) r
false-word exactly exactly exactly exactly = Grammar.is_false

null_word : {l m n r : Bytes} → Exactly 0x75 l m → Exactly 0x6C m n → Exactly 0x6C n r → Literal (0x6E ∷ l) r
null_word exactly exactly exactly = Grammar.is_null

-- digits
some-digits : {l m r : Bytes} → Among 0x30 9 l m → Word digits m r → Digits l r
some-digits (among {b = b} h) w = w b h

-- a character, and those behind it
one_more : {l m r : Bytes} {c : ℕ} → Character l c m → Word characters m r → Word characters l r
one_more {c} h w = (c ∷ w.0, Grammar.char h w.1)

two_bytes : {a : ℕ} {l m r : Bytes} → From 0xC2 0xDF a → Among 0x80 0x3F l m → Word characters m r → Word characters (a ∷ l) r
two_bytes h (among i) w = one_more (Grammar.sequence (Grammar.from_c2 h i)) w

E0-bytes : {l m n r : Bytes} → Among 0xA0 0x1F l m → Among 0x80 0x3F m n → Word characters n r → Word characters (0xE0 ∷ l) r
E0-bytes (among i) (among j) w = one_more (Grammar.sequence (Grammar.at_e0 i j)) w

E1-bytes : {a : ℕ} {l m n r : Bytes} → From 0xE1 0xEC a → Among 0x80 0x3F l m → Among 0x80 0x3F m n → Word characters n r → Word characters (a ∷ l) r
E1-bytes h (among i) (among j) w = one_more (Grammar.sequence (Grammar.from_e1 h i j)) w

ED-bytes : {l m n r : Bytes} → Among 0x80 0x1F l m → Among 0x80 0x3F m n → Word characters n r → Word characters (0xED ∷ l) r
ED-bytes (among i) (among j) w = one_more (Grammar.sequence (Grammar.at_ed i j)) w

EE-bytes : {a : ℕ} {l m n r : Bytes} → From 0xEE 0xEF a → Among 0x80 0x3F l m → Among 0x80 0x3F m n → Word characters n r → Word characters (a ∷ l) r
EE-bytes h (among i) (among j) w = one_more (Grammar.sequence (Grammar.from_ee h i j)) w

F0-bytes : {l m n o r : Bytes} → Among 0x90 0x2F l m → Among 0x80 0x3F m n → Among 0x80 0x3F n o → Word characters o r → Word characters (0xF0 ∷ l) r
F0-bytes (among i) (among j) (among k) w = one_more (Grammar.sequence (Grammar.at_f0 i j k)) w

F1-bytes : {a : ℕ} {l m n o r : Bytes} → From 0xF1 0xF3 a → Among 0x80 0x3F l m → Among 0x80 0x3F m n → Among 0x80 0x3F n o → Word characters o r → Word characters (a ∷ l) r
F1-bytes h (among i) (among j) (among k) w = one_more (Grammar.sequence (Grammar.from_f1 h i j k)) w

F4-bytes : {l m n o r : Bytes} → Among 0x80 0x0F l m → Among 0x80 0x3F m n → Among 0x80 0x3F n o → Word characters o r → Word characters (0xF4 ∷ l) r
F4-bytes (among i) (among j) (among k) w = one_more (Grammar.sequence (Grammar.at_f4 i j k)) w

four-digits : {l m n o r : Bytes} → HexDigit l m → HexDigit m n → HexDigit n o → HexDigit o r → Word escape (0x75 ∷ l) r
four-digits (hex_digit h) (hex_digit i) (hex_digit j) (hex_digit k) = (_, Grammar.four_digits h i j k)

-- the members of which the first stands behind its opening quote
a-member : {l m n o p r : Bytes} → Word characters l m → Spaces m n → Exactly 0x3A n o → Spaces o p → Value p r → Member (0x22 ∷ l) r
a-member w i exactly j v = Grammar.named (Grammar.quoted w.1) i j v

members-from : (P : Bytes → Type 0) (l : Bytes) → Words (characters ∷ member_rest) P l → (m : Bytes) × Members (0x22 ∷ l) m × P m
members-from P l w =
    let rest : Words (spaces ∷ after_member ∷ []) P w.2.2.2.2.0 = w.2.2.2.2.2 in
    (rest.2.0, rest.2.1 _ _ (a-member w.1 w.2.1 w.2.2.1 w.2.2.2.1 w.2.2.2.2.1) rest.1, rest.2.2)

quote-first : {l m r : Bytes} → Exactly 0x22 l m → Members (0x22 ∷ m) r → Members l r
quote-first exactly n = n

-- ---- Every row
numbered : {l m n o r : Bytes} → Minus l m → Whole m n → Fraction n o → Exponent o r → Value l r
numbered h i j k = Grammar.number (Grammar.parts h i j k)

value-right : AllRight value value_rows
value-right =
    (λ P l w. (w.0, Grammar.string (Grammar.quoted w.1.1), w.2))
    and (λ P l w. (w.2.2.0, numbered Grammar.minus_sign w.1 w.2.1 w.2.2.1, w.2.2.2))
    and (λ P l w. (w.2.0, numbered Grammar.no_minus Grammar.zero_alone w.1 w.2.1, w.2.2))
    and (λ b h P l w. (w.2.2.0, numbered Grammar.no_minus (Grammar.no_zero_first h (w.1 b (omega arith))) w.2.1 w.2.2.1, w.2.2.2))
    and (λ P l w. (w.2.0, w.2.1 l w.1, w.2.2))
    and (λ P l w. (w.2.0, w.2.1 l w.1, w.2.2))
    and (λ P l w. (w.2.2.0, Grammar.literal (true-word w.1 w.2.1 w.2.2.1), w.2.2.2))
    and (λ P l w. (w.2.2.2.0, Grammar.literal (false-word w.1 w.2.1 w.2.2.1 w.2.2.2.1), w.2.2.2.2))
    and (λ P l w. (w.2.2.0, Grammar.literal (null_word w.1 w.2.1 w.2.2.1), w.2.2.2))
    and tt

-- a value and what follows it in an array
element-behind : (b : ℕ) (then : Stack) → Behind value b then → Behind in_array b (then ++ spaces ∷ after_element ∷ [])
element-behind b then f P l w =
    let v : (m : Bytes) × Value (b ∷ l) m × Words (spaces ∷ after_element ∷ []) P m = f (Words (spaces ∷ after_element ∷ []) P) l (words-part then (spaces ∷ after_element ∷ []) P l w) in
    (v.2.2.0, λ o s. Grammar.array s (v.2.2.1 _ _ v.1 v.2.1), v.2.2.2)

element-right : (r : Row) → Right value r → Right in_array (as_element r)
element-right (at b then) f = element-behind b then f
element-right (up_to lowest highest then) f = λ b h. element-behind b then (f b h)

elements-right : (rs : List Row) → AllRight value rs → AllRight in_array (map as_element rs)
elements-right [] f = tt
elements-right (r ∷ rs) f = element-right r f.0 and elements-right rs f.1

all_right : (k : Symbol) → AllRight k (rows k)
all_right (just b) = (λ P l w. (l, exactly, w)) and tt
all_right (one lowest more) = (λ b h P l w. (l, among h, w)) and tt
all_right spaces =
    (λ P l w. (w.0, Grammar.one_more Grammar.character_tabulation w.1, w.2))
    and (λ P l w. (w.0, Grammar.one_more Grammar.line_feed w.1, w.2))
    and (λ P l w. (w.0, Grammar.one_more Grammar.carriage_return w.1, w.2))
    and (λ P l w. (w.0, Grammar.one_more Grammar.space w.1, w.2))
    and tt
all_right literal =
    (λ P l w. (w.2.2.0, true-word w.1 w.2.1 w.2.2.1, w.2.2.2))
    and (λ P l w. (w.2.2.2.0, false-word w.1 w.2.1 w.2.2.1 w.2.2.2.1, w.2.2.2.2))
    and (λ P l w. (w.2.2.0, null_word w.1 w.2.1 w.2.2.1, w.2.2.2))
    and tt
all_right minus = (λ P l w. (l, Grammar.minus_sign, w)) and tt
all_right whole =
    (λ P l w. (l, Grammar.zero_alone, w))
    and (λ b h P l w. (w.0, Grammar.no_zero_first h (w.1 b (omega arith)), w.2))
    and tt
all_right digits = (λ b h P l w. (w.0, λ d i. Grammar.more_digits i (w.1 b h), w.2)) and tt
all_right fraction = (λ P l w. (w.2.0, Grammar.decimal_point (some-digits w.1 w.2.1), w.2.2)) and tt
all_right exponent =
    (λ P l w. (w.2.2.0, Grammar.lower_e w.1 (some-digits w.2.1 w.2.2.1), w.2.2.2))
    and (λ P l w. (w.2.2.0, Grammar.upper_e w.1 (some-digits w.2.1 w.2.2.1), w.2.2.2))
    and tt
all_right sign = (λ P l w. (l, Grammar.plus_sign, w)) and (λ P l w. (l, Grammar.negative, w)) and tt
all_right characters =
    (λ P l w. (l, ([], Grammar.end_quote), w))
    and (λ P l w. (w.2.0, one_more w.1.1 w.2.1, w.2.2))
    and (λ b h P l w. (w.0, one_more (Grammar.itself (omega arith) (omega arith) (omega arith)) w.1, w.2))
    and (λ b h P l w. (w.0, one_more (Grammar.itself (omega arith) (omega arith) (omega arith)) w.1, w.2))
    and (λ b h P l w. (w.0, one_more (Grammar.itself (omega arith) (omega arith) (omega arith)) w.1, w.2))
    and (λ b h P l w. (w.2.0, two_bytes h w.1 w.2.1, w.2.2))
    and (λ P l w. (w.2.2.0, E0-bytes w.1 w.2.1 w.2.2.1, w.2.2.2))
    and (λ b h P l w. (w.2.2.0, E1-bytes h w.1 w.2.1 w.2.2.1, w.2.2.2))
    and (λ P l w. (w.2.2.0, ED-bytes w.1 w.2.1 w.2.2.1, w.2.2.2))
    and (λ b h P l w. (w.2.2.0, EE-bytes h w.1 w.2.1 w.2.2.1, w.2.2.2))
    and (λ P l w. (w.2.2.2.0, F0-bytes w.1 w.2.1 w.2.2.1 w.2.2.2.1, w.2.2.2.2))
    and (λ b h P l w. (w.2.2.2.0, F1-bytes h w.1 w.2.1 w.2.2.1 w.2.2.2.1, w.2.2.2.2))
    and (λ P l w. (w.2.2.2.0, F4-bytes w.1 w.2.1 w.2.2.1 w.2.2.2.1, w.2.2.2.2))
    and tt
all_right escape =
    (λ P l w. (l, (_, Grammar.letter Grammar.quotation_mark), w))
    and (λ P l w. (l, (_, Grammar.letter Grammar.reverse_solidus), w))
    and (λ P l w. (l, (_, Grammar.letter Grammar.solidus), w))
    and (λ P l w. (l, (_, Grammar.letter Grammar.backspace), w))
    and (λ P l w. (l, (_, Grammar.letter Grammar.form_feed), w))
    and (λ P l w. (l, (_, Grammar.letter Grammar.new_line), w))
    and (λ P l w. (l, (_, Grammar.letter Grammar.return), w))
    and (λ P l w. (l, (_, Grammar.letter Grammar.tab), w))
    and (λ P l w. (w.2.2.2.0, four-digits w.1 w.2.1 w.2.2.1 w.2.2.2.1, w.2.2.2.2))
    and tt
all_right hex =
    (λ b h P l w. (l, hex_digit (Grammar.decimal h), w))
    and (λ b h P l w. (l, hex_digit (Grammar.upper h), w))
    and (λ b h P l w. (l, hex_digit (Grammar.lower h), w))
    and tt
all_right value = value-right
all_right in_object =
    (λ P l w. (l, λ o s. Grammar.no_members s, w))
    and (λ P l w.
    let n : (m : Bytes) × Members (0x22 ∷ l) m × P m = members-from P l w in
    (n.0, λ o s. Grammar.object s n.1, n.2))
    and tt
all_right after_member =
    (λ P l w. (l, λ o m n s. Grammar.last_member n s, w))
    and (λ P l w.
    let n : (m : Bytes) × Members (0x22 ∷ w.2.0) m × P m = members-from P w.2.0 w.2.2 in
    (n.0, λ o m a s. Grammar.more_members a s w.1 (quote-first w.2.1 n.1), n.2))
    and tt
all_right in_array = (λ P l w. (l, λ o s. Grammar.no_elements s, w)) and elements-right value_rows value-right
all_right after_element =
    (λ P l w. (l, λ o m v s. Grammar.last_element v s, w))
    and (λ P l w.
    (w.2.2.2.0, λ o m v s. Grammar.more_elements v s w.1 (w.2.2.2.1 _ _ w.2.1 w.2.2.1), w.2.2.2.2))
    and tt

-- ---- So a push is right, and so is a skip
taken : (k : Symbol) (r : Row) → Right k r → (b : ℕ) → takes r b ≡ true → Behind k b (then_of r)
taken k (at a then) f b e = rw (eqb-true b a e) f
taken k (up_to lowest highest then) f b e = f b (within-from lowest highest b e, within-to lowest highest b e)

pushed-by : (k : Symbol) (rs : List Row) → AllRight k rs → (o : Bool) (b : ℕ) (js : Stack) → move_of rs o (row_of rs b) ≡ Push js → Behind k b js
unfolding row_of
pushed-by k [] f true b js e = absurd (let z : ◌≡◌ {A = ℕ} 0 1 = cc in omega arith)
pushed-by k [] f false b js e = absurd (let z : ◌≡◌ {A = ℕ} 0 1 = cc in omega arith)
pushed-by k (r ∷ rs) f o b js e = go (pushed-by k rs f.1 o b js) (takes r b) refl e
  where
    go : (move_of rs o (row_of rs b) ≡ Push js → Behind k b js) → (t : Bool) → takes r b ≡ t → move_of (r ∷ rs) o (elim t [ true ↦ 0 | false ↦ suc (row_of rs b) ]) ≡ Push js → Behind k b js
    go rest true h q =
        let same : then_of r ≡ js = cc in
        rw same at (taken k r f.0 b h)
    go rest false h q = rest q

pub pushed : (k : Symbol) (b : ℕ) (js : Stack) → expand k b ≡ Push js → Behind k b js
pushed k b js e = pushed-by k (rows k) (all_right k) (optional k) b js e

-- ---- A member or an element, and what follows, are what may come behind the opening brace or bracket
module _ (K : Stack) (P : Bytes → Type 0) where
  member-first : {l m : Bytes} → Exactly 0x22 l m → Words (characters ∷ member_rest ++ K) P m → Words (in_object ∷ K) P l
  unfolding row_of
  member-first exactly w =
      pushed in_object 0x22 (characters ∷ member_rest) refl (Words K P) _ (words-part (characters ∷ member_rest) K P _ w)

  pub object-words : (l : Bytes) → Words (a_member ++ K) P l → Words (in_object ∷ K) P l
  object-words l w = member-first w.1 w.2

  pub array-words : (l : Bytes) → Words (an_element ++ K) P l → Words (in_array ∷ K) P l
  array-words l w =
      (w.2.2.0, λ o s. Grammar.array s (w.2.2.1 l w.0 w.1 w.2.1), w.2.2.2)
