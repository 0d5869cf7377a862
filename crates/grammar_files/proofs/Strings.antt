-- The string reader reads the strings of the grammar, along the machine and by itself.
-- Assumes nothing.
use Rattle.std.specs.Prelude.{Ok, Err}
use Prim.Native.Nat.{ℕ, zero, suc, ◌+◌, ◌≤◌, ◌<◌}
use mathlib.Core.Path.{◌≡◌, refl, ap, ◌∙◌}
use mathlib.Core.Logic.{◌⊎◌, inl, inr}
use mathlib.Core.Bool.{Bool, true, ◌||◌}
use mathlib.Core.List.{List, [], ◌∷◌}
use native.Mathlib.Decide.{ℕ_discrete}
use native.Mathlib.Omega.{arith}
use borrow.Author.Tests.{eqb-true, eqb-false, eq-eqb}
use lib.Dec.{ltb, eqb}
use lib.ListN.{length, drop, length-drop}
use lib.Seq.{slice}
use Rattle.json_bytes.specs.Reads.{byte_at, Reading, fault_at}
use Rattle.json_bytes.proofs.Laws.{by-test, inside}
use Rattle.json_chars.specs.Step.{step_at}
use Rattle.json_chars.specs.Chars.{chars_at}
use Rattle.json_chars.specs.declared.Step.{Step}
use Rattle.json_chars.specs.declared.Step.TheVariants.{Char, Close, Bad}
use Rattle.json_chars.proofs.Bounds.{Good, step-good}
use Rattle.json_text.specs.Text.{text_from, text_read_at, rule_broken, none, wrong_here, first_wrong, closes_at, wrong_from, wrong_at}
use Rattle.json_text.specs.declared.TextType.{TextType}
use Rattle.json_text.specs.declared.Wrong.{Wrong}
use Rattle.grammar.specs.Grammar.{Bytes, Characters, String, meant}
use Rattle.grammar.specs.Claims.{AString, StopsAt, BrokenAt, Longest, Only}
use Rattle.grammar_machine.proofs.Machine.{just, characters, Stack, row_of, ends, verdict}
use Rattle.grammar_machine.proofs.Language.{Exactly, exactly}
use Rattle.grammar_machine.proofs.Complete.{just-stuck, string-run}
use Rattle.grammar_machine.proofs.Places.{slice-rest, At, at-start, push_at, Reads}
use Rattle.grammar_machine.proofs.Tokens.{Told, stopped, stop, whole-token}
use Rattle.grammar_machine.proofs.More.{string-more}
use Rattle.grammar_machine.proofs.Facts.{told-broken, told-stops, told-kind}
use Rattle.grammar_chars.proofs.Steps.{Stepped, step-at}
use Rattle.grammar_chars.proofs.Meaning.{Walk, closes, steps, Walked, string-walk, string-means}

-- ---- Along the machine
-- what the reader answers: its faults are 10 and 11
abbrev pub TextRead : Stack → ℕ → Bytes → Stack → Reading → Type 0
TextRead K₀ start s K (Ok end) = At K₀ start s K end
TextRead K₀ start s K (Err e) = Told K₀ start s e.kind e.place × (e.kind ≤ 11)

module _ (K₀ : Stack) (start : ℕ) (s : Bytes) (K : Stack) where
  from_step : (f i : ℕ) → ((next : ℕ) → i < next → At K₀ start s (characters ∷ K) next → TextRead K₀ start s K (text_from f s next)) → (t : Step) → Good s i t → Stepped K₀ start s K i t → TextRead K₀ start s K (elim t [ Char code next ↦ text_from f s next | Close ↦ Ok (i + 1) | Bad kind place ↦ fault_at kind place ])
  from_step f i rest (Char code next) g a = rest next g.0 a
  from_step f i rest Close g a = a
  from_step f i rest (Bad kind place) g a = a

  text-from : (f i : ℕ) → length s < i + f → At K₀ start s (characters ∷ K) i → TextRead K₀ start s K (text_from f s i)
  unfolding text_from
  text-from zero i m a = absurd (omega (arith, a.inside))
  text-from (suc f) i m a =
      from_step f i (λ next l b. text-from f next (omega arith) b) (step_at s i) (step-good s i a.inside) (step-at K₀ start s K i a)

  -- behind the opening quote
  pub text-behind : (at : ℕ) → byte_at s at ≡ 34 → At K₀ start s (characters ∷ K) (at + 1) → TextRead K₀ start s K (text_read_at s at)
  unfolding text_read_at
  text-behind at e a = rw (eq-eqb (byte_at s at) 34 e) (text-from (length s) (at + 1) (omega arith) a)

  pub text_at : (at : ℕ) → At K₀ start s (just 0x22 ∷ characters ∷ K) at → TextRead K₀ start s K (text_read_at s at)
  unfolding text_read_at row_of
  text_at at a =
      by-test (TextRead K₀ start s K) (eqb (byte_at s at) 34) _ _
      (λ e. text-from (length s) (at + 1) (omega arith) (push_at (just 0x22) (characters ∷ K) [] 34 (eqb-true _ 34 e) (omega arith) refl a))
      (λ n. (stopped (stop (just 0x22) (characters ∷ K) (just-stuck 0x22 (byte_at s at) (eqb-false _ 34 n)) a), omega arith))

  -- ---- The first wrong character stands where the machine stands inside the string
  abbrev pub WrongHere : Wrong → Type 0
  WrongHere w = 0 < w.rule → At K₀ start s (characters ∷ K) w.place

  none_here : WrongHere none
  unfolding none
  none_here h = absurd (omega arith)

  rule-here : (rule i : ℕ) → At K₀ start s (characters ∷ K) i → WrongHere (wrong_here rule i)
  unfolding wrong_here
  rule-here rule i a = by-test WrongHere (ltb 0 rule) _ _ (λ _ h. a) (λ _. none_here)

  first-here : (w v : Wrong) → WrongHere w → WrongHere v → WrongHere (first_wrong w v)
  unfolding first_wrong
  first-here w v p q = by-test WrongHere (ltb 0 w.rule) _ _ (λ _. p) (λ _. q)

  wrong-step : (f : ℕ) (ty : TextType) (i : ℕ) (edge : Bool) → At K₀ start s (characters ∷ K) i → ((next : ℕ) (after : Bool) → At K₀ start s (characters ∷ K) next → WrongHere (wrong_from f ty s next after)) → (t : Step) → Stepped K₀ start s K i t → WrongHere (elim t [
    | Char code next ↦ first_wrong (wrong_here (rule_broken ty code (edge || closes_at s next)) i) (wrong_from f ty s next (eqb code 32))
    | Close ↦ none
    | Bad kind place ↦ none
  ])
  wrong-step f ty i edge a rest (Char code next) b = first-here _ _ (rule-here _ i a) (rest next (eqb code 32) b)
  wrong-step f ty i edge a rest Close b = none_here
  wrong-step f ty i edge a rest (Bad kind place) b = none_here

  wrong-from : (f : ℕ) (ty : TextType) (i : ℕ) (edge : Bool) → At K₀ start s (characters ∷ K) i → WrongHere (wrong_from f ty s i edge)
  unfolding wrong_from
  wrong-from zero ty i edge a = none_here
  wrong-from (suc f) ty i edge a =
      wrong-step f ty i edge a (λ next after. wrong-from f ty next after) (step_at s i) (step-at K₀ start s K i a)

  pub wrong-behind : (ty : TextType) (at : ℕ) → byte_at s at ≡ 34 → At K₀ start s (characters ∷ K) (at + 1) → WrongHere (wrong_at ty s at)
  unfolding wrong_at
  wrong-behind ty at e a = rw (eq-eqb (byte_at s at) 34 e) (wrong-from (length s) ty (at + 1) true a)

-- ---- Strings by themselves
abbrev a_string : Stack
a_string = just 0x22 ∷ characters ∷ []

string-reads : Reads a_string (Only AString)
unfolding verdict ends
string-reads =
    record {
      complete = λ l h. string-run h.1 [];
      sound = λ l w. (w.2.1.0, behind-quote w.1 (rw w.2.2 at w.2.1.1));
    }
  where
    behind-quote : {l m r : Bytes} {cs : List ℕ} → Exactly 0x22 l m → Characters m cs r → String l cs r
    behind-quote exactly t = String.quoted t

-- the steps to a closing quote are those of the reader
text-by : (s : Bytes) {i end : ℕ} {cs : List ℕ} → Walk s i cs end → (f : ℕ) → i ≤ length s → length s < i + f → (text_from f s i ≡ Ok end) × (end ≤ length s)
unfolding text_from
text-by s w zero l m = absurd (omega arith)
text-by s (closes {i = i} e) (suc f) l m =
    let g : Good s i Close = rw e at (step-good s i l) in
    (rw (text_from, e), omega (arith, g))
text-by s (steps {i = i} {c = c} {next = next} {end = end} e w) (suc f) l m =
    let g : Good s i (Char c next) = rw e at (step-good s i l) in
    let rest : (text_from f s next ≡ Ok end) × (end ≤ length s) = text-by s w f g.1 (omega (arith, g.0)) in
    (rw (text_from, e) rest.0, rest.1)

module _ (s : Bytes) (at : ℕ) (here : at ≤ length s) where
  text-answers : TextRead a_string at s [] (text_read_at s at)
  text-answers = text_at a_string at s [] at (at-start a_string at s here)

  -- read whole, it is a string
  pub string-whole : {end : ℕ} → text_read_at s at ≡ Ok end → Longest (Only AString) s at end
  string-whole e = whole-token string-reads s at (rw e at text-answers)

  -- a fault is 11, at the first byte with which none goes on; or 10, where no character begins
  pub string-fault : {kind place : ℕ} → text_read_at s at ≡ fault_at kind place → ((kind ≡ 11) × StopsAt (Only AString) s at place) ⊎ ((kind ≡ 10) × BrokenAt (Only AString) s at place)
  string-fault {kind} {place} e = go (rw e at text-answers) (ℕ_discrete kind 11)
    where
      go : Told a_string at s kind place × (kind ≤ 11) → Dec (kind ≡ 11) → ((kind ≡ 11) × StopsAt (Only AString) s at place) ⊎ ((kind ≡ 10) × BrokenAt (Only AString) s at place)
      go t (yes q) = inl (q, told-stops string-reads t.0 q)
      go t (no n) =
          let q : kind ≡ 10 = omega (arith, told-kind t.0, t.1) in
          inr (q, told-broken string-reads t.0 q)

  -- what is a string is read whole, and decoded to the characters that it means
  pub string-read : {end : ℕ} {cs : List ℕ} → at ≤ end → end ≤ length s → String (slice at end s) cs [] → (text_read_at s at ≡ Ok end) × (chars_at s at ≡ meant cs)
  unfolding text_read_at
  string-read {end} {cs} l m t =
      let whole : String (drop at s) cs (drop end s) = rw (slice-rest s at end l m) (string-more t (drop end s)) in
      let w : (byte_at s at ≡ 34) × Walked s (at + 1) (meant cs) (drop end s) = string-walk s at whole refl in
      let more : at < length s = inside s at 34 w.0 (omega arith) in
      let r : (text_from (length s) s (at + 1) ≡ Ok w.1.end) × (w.1.end ≤ length s) = text-by s w.1.walk (length s) (omega arith) (omega arith) in
      let same : w.1.end ≡ end = omega (arith, simp length-drop at (ap length w.1.left), r.1) in
      (rw (eq-eqb (byte_at s at) 34 w.0) (r.0 ∙ ap Ok same), string-means s at whole)
