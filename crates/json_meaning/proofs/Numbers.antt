-- A number read whole is written by a sign, digits, a fraction and an exponent, ends where it cannot go on, and has the value
-- that they write.
-- Assumes nothing.
use Rattle.std.specs.Prelude.{Ok}
use Prim.Native.Nat.{ℕ, suc, ◌+◌, ◌-◌, ◌*◌, ◌^◌, ◌<◌}
use mathlib.Core.Path.{◌≡◌, refl, sym, ap, ◌∙◌}
use mathlib.Core.Bool.{Bool, true, false, true≢false}
use mathlib.Core.List.{List, [], ◌∷◌, ◌++◌, append-nil, append_assoc}
use mathlib.Core.Logic.{inl, inr, ⊎_elim}
use native.Mathlib.Nat.{zero-mul, zero-add, pow-suc}
use native.Mathlib.Omega.{arith}
use borrow.Author.Tests.{eqb-true, eqb-false}
use lib.ListN.{length, get_or, take, drop, length-append}
use lib.Seq.{length-take-le, get_or-drop}
use lib.Pow.{pow-add}
use lib.Dec.{eqb}
use Rattle.json_bytes.specs.Reads.{byte_at, within, leading, fault_at}
use Rattle.json_bytes.proofs.Laws.{by-test, leading-bound}
use Rattle.json_number.specs.Number.{
  is_digit,
  digits_at,
  formed,
  end_zeros,
  trimmed,
  fraction_at,
  coefficient_at,
  power_digits_at,
  signed_at,
  exponent_at,
  with_exponent,
  with_coefficient,
  number_at,
  value_of,
}
use Rattle.json_number.specs.declared.Number.{Number}
use Rattle.json_meaning.specs.Stands.{Stands}
use Rattle.json_meaning.specs.Decimals.{all_digits, digits_value, Written, sign_bytes, pointed, number_bytes, exponent_marks, has_minus, IsWhole, IsExponent, Ended, NumberOf}
use Rattle.json_meaning.proofs.Places.{byte_of, stands-none, stands-byte, stands-append}
use Rattle.json_meaning.proofs.Decimals.{means}

-- ---- Digits
-- the digits that a list begins with
abbrev run : List ℕ → List ℕ
run l = take (leading is_digit l) l

length_run : (l : List ℕ) → length (run l) ≡ leading is_digit l
length_run l = length-take-le (leading is_digit l) l (leading-bound is_digit l)

run-digits : (l : List ℕ) → all_digits (run l) ≡ true
unfolding all_digits leading
run-digits [] = refl
run-digits (b ∷ bs) = go (is_digit b) refl (run-digits bs)
  where
    go : (t : Bool) → is_digit b ≡ t → all_digits (run bs) ≡ true → all_digits (take (elim t [ true ↦ suc (leading is_digit bs) | false ↦ 0 ]) (b ∷ bs)) ≡ true
    go true e h = rw (e, h)
    go false e h = refl

value-append : (xs ys : List ℕ) → digits_value (xs ++ ys) ≡ digits_value xs * 10 ^ length ys + digits_value ys
unfolding digits_value
value-append [] ys = omega arith
value-append (x ∷ xs) ys = rw (length-append xs ys, pow-add 10 (length xs) (length ys), value-append xs ys) (omega arith)

-- the number that the reader forms of digits behind n is theirs, behind the digits of n
formed-is : (l : List ℕ) (n : ℕ) → formed n l ≡ n * 10 ^ length (run l) + digits_value (run l)
unfolding formed leading digits_value
formed-is [] n = omega arith
formed-is (b ∷ bs) n = go (is_digit b) (formed-is bs (n * 10 + (b - 48)))
  where
    go : (t : Bool) → formed (n * 10 + (b - 48)) bs ≡ (n * 10 + (b - 48)) * 10 ^ length (run bs) + digits_value (run bs) → (elim t [ true ↦ formed (n * 10 + (b - 48)) bs | false ↦ n ]) ≡ n * 10 ^ length (take (elim t [ true ↦ suc (leading is_digit bs) | false ↦ 0 ]) (b ∷ bs)) + digits_value (take (elim t [ true ↦ suc (leading is_digit bs) | false ↦ 0 ]) (b ∷ bs))
    go true h = h ∙ rw (pow-suc 10 (length (run bs))) (omega arith)
    go false h = omega arith

stands-run : (s : List ℕ) (i : ℕ) → Stands s i (run (drop i s)) (i + digits_at s i)
stands-run s i = record {
  there = ap (λ (n : ℕ). take n (drop i s)) (length_run (drop i s));
  ends = ap (λ (n : ℕ). i + n) (sym (length_run (drop i s)));
}

run-some : (s : List ℕ) (i : ℕ) → eqb (digits_at s i) 0 ≡ false → 0 < length (run (drop i s))
run-some s i n =
    let some : digits_at s i ≡ 0 → ⊥ = eqb-false (digits_at s i) 0 n in
    omega (arith, length_run (drop i s))

-- and begins with the byte at its place
run-first : (s : List ℕ) (i : ℕ) → eqb (digits_at s i) 0 ≡ false → byte_at s i ≡ get_or (run (drop i s)) 0 0
run-first s i n =
    let some : digits_at s i ≡ 0 → ⊥ = eqb-false (digits_at s i) 0 n in
    ap (byte_at s) (omega arith) ∙ byte_of s i (digits_at s i) 0 refl (omega arith)

-- and no digit is behind it
leading-ends : (l : List ℕ) → is_digit (get_or l (leading is_digit l) 0) ≡ false
unfolding leading is_digit within
leading-ends [] = refl
leading-ends (b ∷ bs) = go (is_digit b) refl (leading-ends bs)
  where
    go : (t : Bool) → is_digit b ≡ t → is_digit (get_or bs (leading is_digit bs) 0) ≡ false → is_digit (get_or (b ∷ bs) (elim t [ true ↦ suc (leading is_digit bs) | false ↦ 0 ]) 0) ≡ false
    go true e h = h
    go false e h = e

run_ends : (s : List ℕ) (i : ℕ) → is_digit (byte_at s (i + digits_at s i)) ≡ true → ⊥
run_ends s i e = true≢false (sym e ∙ ap is_digit (sym (get_or-drop i s (digits_at s i) 0)) ∙ leading-ends (drop i s))

-- digits with none before them
formed-alone : (l : List ℕ) → formed 0 l ≡ digits_value (run l)
formed-alone l = formed-is l 0 ∙ rw (zero-mul (10 ^ length (run l))) (zero-add (digits_value (run l)))

pointed-some : (ds : List ℕ) → (length ds ≡ 0 → ⊥) → pointed ds ≡ 46 ∷ ds
pointed-some [] n = absurd (n refl)
pointed-some (d ∷ ds) n = refl

-- ---- What is read, part by part: a reading that comes to be whole is a number's
module _ (s : List ℕ) (at end : ℕ) where
  Then : Number → Type 0
  Then n = n.reading ≡ Ok end → NumberOf s at end n.value

  -- a reading that stops is not whole
  stops : {place : ℕ} → fault_at 11 place ≡ Ok end → ⊥
  stops q =
      let z : ◌≡◌ {A = ℕ} 0 1 = cc in
      omega arith

  module _ (negative : Bool) (whole fraction : List ℕ) (is_whole : IsWhole whole) (is_fraction : all_digits fraction ≡ true) where
    abbrev digits : ℕ
    digits = digits_value (whole ++ fraction)

    -- the parts before an exponent, up to place i, and what can stand there behind them
    record Before (i : ℕ) : Type 0 where
      there : Stands s at (sign_bytes negative ++ (whole ++ pointed fraction)) i
      digit : is_digit (byte_at s i) ≡ true → (whole ≡ 48 ∷ []) × (fraction ≡ [])
      point : byte_at s i ≡ 46 → fraction ≡ [] → ⊥

    abbrev With : List ℕ → List ℕ → Written
    With mark power = record { negative = negative; whole = whole; fraction = fraction; mark = mark; power = power }

    -- the exponent is known, and with it the number
    ends-number : {i : ℕ} (mark power : List ℕ) (below : Bool) {last e : ℕ} → Before i → IsExponent mark power → Stands s i (mark ++ power) last → Ended (With mark power) (byte_at s last) → below ≡ has_minus mark → e ≡ digits_value power → Then (record { reading = Ok last; value = value_of negative (trimmed digits) (end_zeros digits) (length fraction) below e })
    unfolding Then number_bytes
    ends-number mark power below {last} before is_exponent stands ended b e q =
        let ends : last ≡ end = cc in
        record {
          written = With mark power;
          grammar = record { whole = is_whole; fraction = is_fraction; exponent = is_exponent };
          stands = rw ends at (stands-append s before.there stands);
          ended = rw ends at ended;
          value = rw (b, e) (means (With mark power));
        }

    -- the exponent's digits, behind its mark, number k of the six
    power-read : {i j : ℕ} (letter : ℕ) (sign : List ℕ) (k : ℕ) (below : Bool) → Before i → Stands s i (letter ∷ sign) j → k < 6 → get_or exponent_marks k [] ≡ letter ∷ sign → below ≡ has_minus (letter ∷ sign) → Then (with_exponent negative (trimmed digits) (end_zeros digits) (length fraction) (power_digits_at s j below))
    unfolding Then power_digits_at with_exponent
    power-read {i} {j} letter sign k below before stands few is b =
        by-test (λ x. Then (with_exponent negative (trimmed digits) (end_zeros digits) (length fraction) x)) (eqb (digits_at s j) 0) _ _
        (λ _ q. absurd (stops q))
        (λ n.
        ends-number (letter ∷ sign) (run (drop j s)) below before
        (record { digits = run-digits (drop j s); begins = inr ((k, few, is), run-some s j n) })
        (stands-append s stands (stands-run s j))
        (record { digit = λ d. absurd (run_ends s j d); point = λ _ _ m. marked m; letter = λ _ m. marked m })
        b (formed-alone (drop j s)))
      where
        marked : letter ∷ sign ≡ [] → ⊥
        marked m =
            let z : ◌≡◌ {A = ℕ} 0 1 = cc in
            omega arith

    -- behind the letter, which is number k of the six marks alone, k + 2 with a plus and k + 4 with a minus
    signed-read : {i : ℕ} (letter k : ℕ) → Before i → byte_at s i ≡ letter → 0 < letter → k < 2 → get_or exponent_marks k [] ≡ letter ∷ [] → get_or exponent_marks (k + 2) [] ≡ letter ∷ 43 ∷ [] → get_or exponent_marks (k + 4) [] ≡ letter ∷ 45 ∷ [] → Then (with_exponent negative (trimmed digits) (end_zeros digits) (length fraction) (signed_at s (i + 1)))
    unfolding signed_at
    signed-read {i} letter k before is pos few alone plus minus =
        let here = stands-byte s i letter is pos in
        by-test (λ x. Then (with_exponent negative (trimmed digits) (end_zeros digits) (length fraction) x)) (eqb (byte_at s (i + 1)) 45) _ _
        (λ e. power-read letter (45 ∷ []) (k + 4) true before (stands-append s here (stands-byte s (i + 1) 45 (eqb-true (byte_at s (i + 1)) 45 e) (omega arith))) (omega arith) minus refl)
        (λ _.
        by-test (λ x. Then (with_exponent negative (trimmed digits) (end_zeros digits) (length fraction) x)) (eqb (byte_at s (i + 1)) 43) _ _
        (λ e. power-read letter (43 ∷ []) (k + 2) false before (stands-append s here (stands-byte s (i + 1) 43 (eqb-true (byte_at s (i + 1)) 43 e) (omega arith))) (omega arith) plus refl)
        (λ _. power-read letter [] k false before here (omega arith) alone refl))

    -- no exponent
    none_read : {i : ℕ} → Before i → eqb (byte_at s i) 101 ≡ false → eqb (byte_at s i) 69 ≡ false → Then (record { reading = Ok i; value = value_of negative (trimmed digits) (end_zeros digits) (length fraction) false 0 })
    unfolding all_digits digits_value
    none_read {i} before e f =
        ends-number [] [] false before (record { digits = refl; begins = inl (refl, refl) }) (stands-none s i)
        (record {
          digit = λ d. ((before.digit d).0, (before.digit d).1, refl);
          point = λ p none _. before.point p none;
          letter = λ l _. ⊎_elim (eqb-false (byte_at s i) 101 e) (eqb-false (byte_at s i) 69 f) l;
        })
        refl refl

    exponent-read : {i : ℕ} → Before i → Then (with_exponent negative (trimmed digits) (end_zeros digits) (length fraction) (exponent_at s i))
    unfolding exponent_at with_exponent
    exponent-read {i} before = go (eqb (byte_at s i) 101) refl (eqb (byte_at s i) 69) refl
      where
        go : (t : Bool) → eqb (byte_at s i) 101 ≡ t → (u : Bool) → eqb (byte_at s i) 69 ≡ u → Then (with_exponent negative (trimmed digits) (end_zeros digits) (length fraction) (exponent_at s i))
        go true e u f = rw e (signed-read 101 0 before (eqb-true (byte_at s i) 101 e) (omega arith) (omega arith) refl refl refl)
        go false e true f = rw (e, f) (signed-read 69 1 before (eqb-true (byte_at s i) 69 f) (omega arith) (omega arith) refl refl refl)
        go false e false f = rw (e, f) (none_read before e f)

  -- a fraction or none, behind the whole digits
  module _ (negative : Bool) (whole : List ℕ) (is_whole : IsWhole whole) where
    behind : {i j : ℕ} {bytes : List ℕ} → Stands s at (sign_bytes negative ++ whole) i → Stands s i bytes j → Stands s at (sign_bytes negative ++ (whole ++ bytes)) j
    behind a b = rw (append_assoc (sign_bytes negative) whole _) at (stands-append s a b)

    with-fraction : {j : ℕ} → Stands s at (sign_bytes negative ++ whole) j → byte_at s j ≡ 46 → 0 < length (run (drop (j + 1) s)) → Before negative whole (run (drop (j + 1) s)) is_whole (run-digits (drop (j + 1) s)) (j + 1 + digits_at s (j + 1))
    with-fraction {j} stands e some = record {
      there = rw (pointed-some (run (drop (j + 1) s)) (omega arith)) (behind stands (stands-append s (stands-byte s j 46 e (omega arith)) (stands-run s (j + 1))));
      digit = λ d. absurd (run_ends s (j + 1) d);
      point = λ _ none. (let z : length (run (drop (j + 1) s)) ≡ 0 = ap length none in omega arith);
    }

    -- a digit behind the whole digits means that they are a zero alone
    fraction-read : {j c : ℕ} → Stands s at (sign_bytes negative ++ whole) j → (is_digit (byte_at s j) ≡ true → whole ≡ 48 ∷ []) → c ≡ digits_value whole → Then (with_coefficient s negative (fraction_at s j c))
    unfolding fraction_at with_coefficient all_digits Then
    fraction-read {j} {c} stands after is =
        by-test (λ x. Then (with_coefficient s negative x)) (eqb (byte_at s j) 46) _ _
        (λ e.
        by-test (λ x. Then (with_coefficient s negative x)) (eqb (digits_at s (j + 1)) 0) _ _
        (λ _ q. absurd (stops q))
        (λ n.
        let f : List ℕ = run (drop (j + 1) s) in
        let formed-both : formed c (drop (j + 1) s) ≡ digits_value (whole ++ f) = rw is (formed-is (drop (j + 1) s) (digits_value whole) ∙ sym (value-append whole f)) in
        let b = with-fraction stands (eqb-true (byte_at s j) 46 e) (run-some s (j + 1) n) in
        rw formed-both (rw (length_run (drop (j + 1) s)) at (exponent-read negative whole f is_whole (run-digits (drop (j + 1) s)) b))))
        (λ n.
        let none : c ≡ digits_value (whole ++ []) = is ∙ ap digits_value (sym (append-nil whole)) in
        rw none
        (exponent-read negative whole [] is_whole refl
        (record { there = behind stands (stands-none s j); digit = λ d. (after d, refl); point = λ p _. eqb-false (byte_at s j) 46 n p })))

  -- the whole digits, behind the sign
  module _ (negative : Bool) {i : ℕ} (stands : Stands s at (sign_bytes negative) i) where
    coefficient-read : Then (with_coefficient s negative (coefficient_at s i))
    unfolding coefficient_at with_coefficient Then all_digits is_digit within digits_value
    coefficient-read =
        by-test (λ x. Then (with_coefficient s negative x)) (eqb (byte_at s i) 48) _ _
        (λ e.
        fraction-read negative (48 ∷ []) (record { digits = refl; some = omega arith; zero-alone = λ _. refl })
        (stands-append s stands (stands-byte s i 48 (eqb-true (byte_at s i) 48 e) (omega arith))) (λ _. refl) refl)
        (λ n.
        by-test (λ x. Then (with_coefficient s negative x)) (eqb (digits_at s i) 0) _ _
        (λ _ q. absurd (stops q))
        (λ m.
        fraction-read negative (run (drop i s))
        (record { digits = run-digits (drop i s); some = run-some s i m; zero-alone = λ z. absurd (eqb-false (byte_at s i) 48 n (run-first s i m ∙ z)) })
        (stands-append s stands (stands-run s i)) (λ d. absurd (run_ends s i d)) (formed-alone (drop i s))))

-- ---- A number read whole is written by the grammar from its place up to its end, cannot go on there, and its value in the one
-- form is exactly what its digits and its exponent write; it is beyond the limits exactly if that form is
pub number-means : (s : List ℕ) (at end : ℕ) → (number_at s at).reading ≡ Ok end → NumberOf s at end (number_at s at).value
unfolding number_at Then
number-means s at end =
    by-test (Then s at end) (eqb (byte_at s at) 45) _ _
    (λ e. coefficient-read s at end true (stands-byte s at 45 (eqb-true (byte_at s at) 45 e) (omega arith)))
    (λ _. coefficient-read s at end false (stands-none s at))
