-- Where a fault stands that only a record can have: in the record. And what a table needs of the kinds: no reader gives 0, so
-- that a kind of 0 says that the table holds, and where no object stands no kind is a record's own.
-- Assumes nothing.
use Rattle.std.specs.Prelude.{Ok, Err}
use Prim.Native.Nat.{ℕ, zero, suc, ◌+◌, ◌*◌, ◌≤◌, ◌<◌}
use mathlib.Core.Path.{◌≡◌, refl, sym, ap, ◌∙◌}
use mathlib.Core.Bool.{Bool, true, false, not, ◌&&◌, ◌||◌, false≢true}
use mathlib.Core.List.{List, flat_map}
use native.Mathlib.Omega.{arith}
use borrow.Author.Tests.{ltb-true, lt-leb, leb-true, eqb-true, ne_eqb, not-true}
use lib.ListN.{length}
use lib.Dec.{ltb, leb, eqb}
use Rattle.json_bytes.specs.Reads.{byte_at, within, literal_at, Reading, fault_at}
use Rattle.json_bytes.proofs.Laws.{by-test, inside, both_left, both_right}
use Rattle.json_bytes.proofs.Bounds.{Within}
use Rattle.json_bytes.proofs.FaultKinds.{In, every, each, below, Faults, kind_of, literal_kinds, literal-kinds}
use Rattle.json_chars.specs.Step.{step_at}
use Rattle.json_chars.specs.Chars.{chars_at}
use Rattle.json_chars.specs.declared.Step.{Step}
use Rattle.json_chars.specs.declared.Step.TheVariants.{Char, Close, Bad as BadStep}
use Rattle.json_chars.proofs.Bounds.{Good, step-good}
use Rattle.json_text.specs.Text.{text_read_at, rule_broken, none, wrong_here, first_wrong, closes_at, wrong_from, wrong_at, text_read}
use Rattle.json_text.specs.declared.TextType.{TextType}
use Rattle.json_text.specs.declared.Wrong.{Wrong}
use Rattle.json_text.proofs.Bounds.{text-within}
use Rattle.json_text.proofs.FaultKinds.{text_kinds, text-kinds}
use Rattle.json_number.specs.Number.{number_at, integer_of}
use Rattle.json_number.specs.declared.Value.{Value}
use Rattle.json_number.specs.declared.Value.TheVariants.{Fits, Beyond}
use Rattle.json_number.specs.declared.Integer.{Integer}
use Rattle.json_number.specs.declared.Integer.TheVariants.{Is, Fraction, TooLarge}
use Rattle.json_number.proofs.FaultKinds.{number_kinds, number-kinds}
use Rattle.json_date.specs.Date.{Date, date_of}
use Rattle.std.specs.Prelude.{Some, None}
use Rattle.table_rows.specs.Rows.{Field}
use Rattle.table_value.specs.Value.{text_type, text_held, date_held, string_in, string_value, decimal_held, integer_held, number_in, number_value, literal_in, literal_value, starts_number, opens, value_at, token_at, not_object_of, not_object_at}
use Rattle.table_value.specs.declared.ValueRead.{ValueRead}
use Rattle.table_value.specs.declared.ValueRead.TheVariants.{Held, Null, Bad}
use Rattle.table_value.proofs.FaultKinds.{other_kinds, not-object-kinds}
use Rattle.table_name.specs.Name.{index_of, named_at, name_at, colon_at, first_in, next_after, NameRead}
use Rattle.table_name.specs.declared.Next.{Next}
use Rattle.table_name.specs.declared.Next.TheVariants.{More, Ends, Neither}
use Rattle.table_name.proofs.FaultKinds.{colon_kinds, colon-kinds}
use Rattle.table_record.specs.Record.{Filled, cells_filled, is_read, cleared, type_of, stored_value, after_colon, after_name, pair_at, is_missing, record_closed_at, pairs_from, members_of, record_has_room, record_at}
use Rattle.table_record.proofs.Bounds.{NextIn, colon-in, next-in, first-in, pair-in}
use Rattle.table_record.proofs.FaultKinds.{record_kinds, record-kinds, no-room-99}
use Rattle.table_file.specs.Table.{names_record}
use Rattle.table_meaning.specs.FaultRecord.{of_record}
use Rattle.table_meaning.proofs.Record.{fault-not-whole}

-- ---- the kinds
-- where an object belongs and none stands, nothing is read whole, and no kind is a record's own
abbrev pub Elsewhere : Reading → Type 0
Elsewhere (Ok end) = ⊥
Elsewhere (Err e) = (10 ≤ e.kind) × (of_record e.kind ≡ false)

elsewhere-kind : (kind : ℕ) → (leb 10 kind && not (of_record kind)) ≡ true → (10 ≤ kind) × (of_record kind ≡ false)
elsewhere-kind kind h = (leb-true 10 kind (both_left (leb 10 kind) _ h), not-true (of_record kind) (both_right (leb 10 kind) _ h))

not-whole : (s : List ℕ) (at end : ℕ) → not_object_at s at ≡ Ok end → ⊥
unfolding not_object_at not_object_of
not-whole s at end =
    by-test (λ (r : Reading). r ≡ Ok end → ⊥) (opens (byte_at s at)) _ _ (λ _. fault-not-whole 12 at end) (λ _. go (token_at s at))
  where
    go : (r : Reading) → not_object_of at r ≡ Ok end → ⊥
    go (Ok e) = fault-not-whole 12 at end
    go (Err e) = fault-not-whole e.kind e.place end

pub other-elsewhere : (s : List ℕ) (at : ℕ) → Elsewhere (not_object_at s at)
unfolding of_record names_record within
other-elsewhere s at = go (not_object_at s at) (not-object-kinds s at) (not-whole s at)
  where
    go : (r : Reading) → Faults other_kinds r → ((end : ℕ) → r ≡ Ok end → ⊥) → Elsewhere r
    go (Ok end) h out = absurd (out end refl)
    go (Err e) h out = elsewhere-kind e.kind (each (λ k. leb 10 k && not (of_record k)) other_kinds refl e.kind h)

pub not-of-record : (kind : ℕ) → kind ≤ 12 → of_record kind ≡ false
unfolding of_record names_record within
not-of-record kind l = rw (lt-leb 13 kind (omega arith), lt-leb 30 kind (omega arith), ne_eqb kind 19 (λ e. omega arith))

-- ---- the first wrong character of a string stands in it
abbrev WrongBehind : ℕ → Wrong → Type 0
WrongBehind at w = 0 < w.rule → at ≤ w.place

none-behind : (at : ℕ) → WrongBehind at none
unfolding none
none-behind at l = absurd (omega arith)

first-behind : (at i rule : ℕ) (v : Wrong) → at ≤ i → WrongBehind at v → WrongBehind at (first_wrong (wrong_here rule i) v)
unfolding first_wrong wrong_here
first-behind at i rule v l h =
    by-test (WrongBehind at) (ltb 0 (wrong_here rule i).rule) _ _
    (λ _. by-test (WrongBehind at) (ltb 0 rule) _ _ (λ _ _. l) (λ _. none-behind at)) (λ _. h)

module _ (ty : TextType) (s : List ℕ) where
  step-behind : (f i : ℕ) (edge : Bool) → ((next : ℕ) (after : Bool) → next ≤ length s → WrongBehind next (wrong_from f ty s next after)) → (t : Step) → Good s i t → WrongBehind i (elim t [
    | Char code next ↦ first_wrong (wrong_here (rule_broken ty code (edge || closes_at s next)) i) (wrong_from f ty s next (eqb code 32))
    | Close ↦ none
    | BadStep kind place ↦ none
  ])
  step-behind f i edge rest (Char code next) g =
      first-behind i i _ _ (omega arith) (λ l. omega (arith, g.0, rest next (eqb code 32) g.1 l))
  step-behind f i edge rest Close g = none-behind i
  step-behind f i edge rest (BadStep kind place) g = none-behind i

  from-behind : (f i : ℕ) (edge : Bool) → i ≤ length s → WrongBehind i (wrong_from f ty s i edge)
  unfolding wrong_from
  from-behind zero i edge l = none-behind i
  from-behind (suc f) i edge l = step-behind f i edge (from-behind f) (step_at s i) (step-good s i l)

  wrong-behind : (at : ℕ) → WrongBehind at (wrong_at ty s at)
  unfolding wrong_at
  wrong-behind at =
      by-test (WrongBehind at) (eqb (byte_at s at) 34) _ _
      (λ e l. omega (arith, from-behind (length s) (at + 1) true (omega (arith, inside s at 34 (eqb-true (byte_at s at) 34 e) (omega arith))) l))
      (λ _. none-behind at)

-- ---- a value and a record: a fault of a kind that is a record's own stands at the place or behind it
abbrev pub Placed : ℕ → ℕ → ℕ → Type 0
Placed at kind place = of_record kind ≡ true → at ≤ place

abbrev Found : ℕ → Reading → Type 0
Found at (Ok end) = Unit {0}
Found at (Err e) = Placed at e.kind e.place

-- of a set in which no kind is a record's own
outside : (ks : List ℕ) → every (λ k. not (of_record k)) ks ≡ true → (at : ℕ) (r : Reading) → Faults ks r → Found at r
outside ks all at (Ok end) h = tt
outside ks all at (Err x) h = λ e. absurd (false≢true (sym (not-true (of_record x.kind) (each (λ k. not (of_record k)) ks all x.kind h)) ∙ e))

eleven : (at place : ℕ) → Placed at 11 place
eleven at place e = absurd (false≢true (sym (not-of-record 11 (omega arith)) ∙ e))

later : (at next : ℕ) → at ≤ next → (r : Reading) → Found next r → Found at r
later at next l (Ok end) h = tt
later at next l (Err x) h = λ e. omega (arith, l, h e)

sooner : (s : List ℕ) (at end : ℕ) → at ≤ end → end ≤ length s → (x : Next) → NextIn s end x → NextIn s at x
sooner s at end l m (More next) h = (omega (arith, h.0), h.1)
sooner s at end l m (Ends last) h = (omega (arith, h.0), h.1)
sooner s at end l m (Neither place) h = λ _. h m

module _ (s : List ℕ) (at : ℕ) where
  text-found : Found at (text_read_at s at)
  unfolding of_record names_record within
  text-found = outside text_kinds refl at (text_read_at s at) (text-kinds s at)

  number-found : Found at (number_at s at).reading
  unfolding of_record names_record within
  number-found = outside number_kinds refl at (number_at s at).reading (number-kinds s at)

  literal-found : Found at (literal_at s at)
  unfolding of_record names_record within
  literal-found = outside literal_kinds refl at (literal_at s at) (literal-kinds s at)

  colon-found : Found at (colon_at s at)
  unfolding of_record names_record within
  colon-found = outside colon_kinds refl at (colon_at s at) (colon-kinds s at)

abbrev ValueFound : ℕ → ValueRead → Type 0
ValueFound at (Held end) = Unit {0}
ValueFound at (Null end) = Unit {0}
ValueFound at (Bad kind place) = Placed at kind place

module _ (s : List ℕ) (at ty : ℕ) where
  abbrev Here : ValueRead → Type 0
  Here = ValueFound at

  here : (kind : ℕ) → Here (Bad kind at)
  here kind _ = omega arith

  of-date : (end : ℕ) (d : Date) → Here (date_held at end d)
  unfolding date_held
  of-date end (Some day) = tt
  of-date end None = here 17

  of-text : (wrong : Wrong) → WrongBehind at wrong → (r : Reading) → Found at r → Here (elim r [ Ok end ↦ string_in s at ty end wrong | Err e ↦ Bad e.kind e.place ])
  unfolding string_in text_held
  of-text wrong behind (Ok end) h =
      by-test Here (within 4 6 ty) _ _
      (λ _. by-test Here (ltb 0 wrong.rule) _ _ (λ e _. behind (ltb-true 0 wrong.rule e)) (λ _. by-test Here (eqb end (at + 2)) _ _ (λ _. tt) (λ _. tt)))
      (λ _. by-test Here (eqb ty 1) _ _ (λ _. of-date end (date_of (chars_at s at))) (λ _. here 15))
  of-text wrong behind (Err e) h = h

  of-decimal : (end : ℕ) (v : Value) → Here (decimal_held at end v)
  unfolding decimal_held
  of-decimal end (Fits negative c p15) = tt
  of-decimal end Beyond = here 18

  of-integer : (end : ℕ) (n : Integer) → Here (integer_held at end n)
  unfolding integer_held
  of-integer end (Is negative magnitude) = tt
  of-integer end Fraction = here 34
  of-integer end TooLarge = here 18

  of_number : (v : Value) (r : Reading) → Found at r → Here (elim r [ Ok end ↦ number_in at ty end v | Err e ↦ Bad e.kind e.place ])
  unfolding number_in
  of_number v (Ok end) h =
      by-test Here (eqb ty 2) _ _ (λ _. of-decimal end v)
      (λ _. by-test Here (eqb ty 3) _ _ (λ _. of-integer end (integer_of v)) (λ _. here 15))
  of_number v (Err e) h = h

  of-literal : (r : Reading) → Found at r → Here (literal_value s at ty r)
  unfolding literal_value literal_in
  of-literal (Ok end) h =
      by-test Here (eqb (byte_at s at) 110) _ _ (λ _. tt) (λ _. by-test Here (eqb ty 0) _ _ (λ _. tt) (λ _. here 15))
  of-literal (Err e) h = h

  value_found : Here (value_at s at ty)
  unfolding value_at string_value number_value text_read
  value_found =
      by-test Here (eqb (byte_at s at) 34) _ _ (λ _. of-text _ (wrong-behind (text_type ty) s at) (text_read_at s at) (text-found s at))
      (λ _. by-test Here (starts_number (byte_at s at)) _ _ (λ _. of_number _ (number_at s at).reading (number-found s at))
      (λ _. by-test Here (opens (byte_at s at)) _ _ (λ _. here 15) (λ _. of-literal (literal_at s at) (literal-found s at))))

module _ (fields : List Field) (s : List ℕ) (base : ℕ) where
  abbrev FilledFound : ℕ → Filled → Type 0
  FilledFound at f = Found at f.outcome

  stored-found : (cells : List ℕ) (k start : ℕ) (v : ValueRead) → ValueFound start v → FilledFound start (stored_value cells base k start v)
  unfolding stored_value
  stored-found cells k start (Held end) h = tt
  stored-found cells k start (Null end) h = tt
  stored-found cells k start (Bad kind place) h = h

  of-colon : (cells : List ℕ) (k end : ℕ) (r : Reading) → Within s end r → Found end r → FilledFound end (after_colon fields s cells base k r)
  unfolding after_colon
  of-colon cells k end (Ok start) w h =
      let v = value_at s start (type_of fields k) in
      later end start (omega (arith, w.0)) (stored_value cells base k start v).outcome (stored-found cells k start v (value_found s start (type_of fields k)))
  of-colon cells k end (Err e) w h = h

  of-name : (cells : List ℕ) (at : ℕ) (r : Reading) → Within s at r → Found at r → FilledFound at (after_name fields s at cells base (elim r [ Ok end ↦ named_at fields s at end | Err e ↦ Err e ]))
  unfolding after_name named_at
  of-name cells at (Ok end) w h =
      let k = index_of (chars_at s at) fields in
      by-test (λ (n : NameRead). FilledFound at (after_name fields s at cells base n)) (ltb (index_of (chars_at s at) fields) (length fields)) _ _
      (λ _. by-test (FilledFound at) (is_read cells base k) _ _ (λ _ _. omega arith)
      (λ _. later at end (omega (arith, w.0)) (after_colon fields s cells base k (colon_at s end)).outcome
      (of-colon cells k end (colon_at s end) (colon-in s end w.1) (colon-found s end))))
      (λ _ _. omega arith)
  of-name cells at (Err e) w h = h

  pair_found : (cells : List ℕ) (at : ℕ) → at ≤ length s → FilledFound at (pair_at fields s at cells base)
  unfolding pair_at name_at
  pair_found cells at l = of-name cells at (text_read_at s at) (text-within s at l) (text-found s at)

  closed-found : (cells : List ℕ) (at : ℕ) → Found at (record_closed_at fields cells base at)
  unfolding record_closed_at
  closed-found cells at = by-test (Found at) (is_missing fields cells base 0) _ _ (λ _ _. omega arith) (λ _. tt)

  of-next : (n : ℕ) (cells : List ℕ) (end : ℕ) → ((next : ℕ) → next ≤ length s → FilledFound next (pairs_from n fields s next cells base)) → (x : Next) → NextIn s end x → FilledFound end (elim x [ More next ↦ pairs_from n fields s next cells base | Ends last ↦ cells_filled cells (record_closed_at fields cells base last) | Neither place ↦ cells_filled cells (fault_at 11 place) ])
  of-next n cells end rest (More next) h =
      later end next (omega (arith, h.0)) (pairs_from n fields s next cells base).outcome (rest next h.1)
  of-next n cells end rest (Ends last) h = later end last h.0 (record_closed_at fields cells base last) (closed-found cells last)
  of-next n cells end rest (Neither place) h = eleven end place

  of_pair : (n : ℕ) (cells : List ℕ) (at : ℕ) → ((next : ℕ) → next ≤ length s → FilledFound next (pairs_from n fields s next cells base)) → (r : Reading) → Within s at r → Found at r → FilledFound at (elim r [
    | Ok end ↦
        elim (next_after s end 125) [
          | More next ↦ pairs_from n fields s next cells base
          | Ends last ↦ cells_filled cells (record_closed_at fields cells base last)
          | Neither place ↦ cells_filled cells (fault_at 11 place)
        ]
    | Err e ↦ cells_filled cells (Err e)
  ])
  of_pair n cells at rest (Ok end) w h =
      of-next n cells at rest (next_after s end 125) (sooner s at end (omega (arith, w.0)) w.1 (next_after s end 125) (next-in s end w.1 125 (omega arith)))
  of_pair n cells at rest (Err e) w h = h

  pairs-found : (n : ℕ) (cells : List ℕ) (at : ℕ) → at ≤ length s → FilledFound at (pairs_from n fields s at cells base)
  unfolding pairs_from
  pairs-found zero cells at l = eleven at at
  pairs-found (suc n) cells at l =
      let pair = pair_at fields s at cells base in
      of_pair n pair.cells at (λ next. pairs-found n pair.cells next) pair.outcome (pair-in fields s base cells at l).place (pair_found cells at l)

  members-found : (cells : List ℕ) (at : ℕ) (x : Next) → NextIn s at x → FilledFound at (members_of fields s cells base x)
  unfolding members_of
  members-found cells at (More next) h =
      later at next (omega (arith, h.0)) (pairs_from (length s) fields s next cells base).outcome (pairs-found (length s) cells next h.1)
  members-found cells at (Ends last) h = later at last h.0 (record_closed_at fields cells base last) (closed-found cells last)
  members-found cells at (Neither place) h = eleven at place

  record-found : (cells : List ℕ) (at : ℕ) → Found at (record_at fields s at cells base).outcome
  unfolding record_at of_record names_record within
  record-found cells at =
      by-test (FilledFound at) (record_has_room s cells base (length fields)) _ _
      (λ _. members-found (cleared cells base (2 * length fields)) at (first_in s at 125) (first-in s at 125 (omega arith)))
      (λ _ e. absurd (false≢true e))

  module _ (cells : List ℕ) (at kind place : ℕ) (is : (record_at fields s at cells base).outcome ≡ fault_at kind place) where
    pub record-placed : Placed at kind place
    record-placed = rw is at (record-found cells at)

    pub record-kind : 10 ≤ kind
    unfolding below flat_map within text_type
    record-kind = go (record_has_room s cells base (length fields)) refl
      where
        go : (t : Bool) → record_has_room s cells base (length fields) ≡ t → 10 ≤ kind
        go true room =
            let h : In record_kinds kind = rw is at (record-kinds fields s base at cells room) in
            leb-true 10 kind (each (λ k. leb 10 k) record_kinds refl kind h)
        go false room =
            let k : 99 ≡ kind = ap kind_of (sym (no-room-99 fields s base at cells room) ∙ is) in
            omega arith
