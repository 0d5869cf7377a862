-- What a fault says of the grammar: of its place, of the bytes before it, and of what is looked for.
-- Assumes nothing.
use Prim.Native.Nat.{ℕ, ◌≤◌}
use mathlib.Core.Path.{◌≡◌, refl, sym, ap, ◌∙◌}
use mathlib.Core.List.{List, [], ◌∷◌, ◌++◌, append_assoc}
use native.Mathlib.Nat.{add-zero}
use native.Mathlib.Omega.{arith}
use lib.ListN.{length, get_or, drop}
use lib.Seq.{slice, get_or-drop}
use Rattle.json_bytes.specs.Reads.{byte_at}
use Rattle.grammar.specs.Grammar.{Bytes, Character, Characters, Text, Begins}
use Rattle.grammar.specs.Claims.{StopsAt, BrokenAt}
use Rattle.grammar_machine.proofs.Machine.{characters, Stack, a_text, Past}
use Rattle.grammar_machine.proofs.Language.{Words, some_words}
use Rattle.grammar_machine.proofs.Run.{sound}
use Rattle.grammar_machine.proofs.Complete.{text-run}
use Rattle.grammar_machine.proofs.More.{character-more}
use Rattle.grammar_machine.proofs.Places.{At, over-at, Reads, begins-at, stops}
use Rattle.grammar_machine.proofs.Tokens.{Broken, Told, stopped, behind, broken, judged, fault-token}

-- ---- Kind 10
-- no characters up to a closing quote stand where none begins
no-characters : (s : Bytes) (place : ℕ) → Broken s place → {l r : Bytes} {cs : List ℕ} → Characters l cs r → drop place s ≡ l → ⊥
no-characters s place b Characters.end_quote e =
    omega (arith, b.high, ap (byte_at s) (sym (add-zero place)) ∙ sym (get_or-drop place s 0 0) ∙ ap (λ (x : Bytes). get_or x 0 0) e)
no-characters s place b (Characters.char {m = m} {c = c} h t) e = b.none c m (rw e h)

module _ {K₀ : Stack} {start : ℕ} {s : Bytes} {X : Bytes → Type 0} (reads : Reads K₀ X) where
  in-string : {K : Stack} {place : ℕ} → At K₀ start s (characters ∷ K) place → (l : Bytes) (c : ℕ) → Character l c [] → Begins X (slice start place s ++ l)
  in-string {K} {place} a l c h =
      let t : Bytes = (some_words (characters ∷ K)).0 in
      let w : Words (characters ∷ K) (λ r. r ≡ []) t = (some_words (characters ∷ K)).1 in
      let x : X (slice start place s ++ (l ++ t)) = reads.sound _ (a.completes (l ++ t) (w.0, (c ∷ w.1.0, Characters.char (character-more h t) w.1.1), w.2)) in
      (t, rw (append_assoc (slice start place s) l t) x)

  not-whole : {K : Stack} {place : ℕ} → At K₀ start s (characters ∷ K) place → Broken s place → X (drop start s) → ⊥
  not-whole {K} {place} a b x =
      let w : Words (characters ∷ K) (λ r. r ≡ []) (drop place s) = sound (drop place s) (characters ∷ K) (sym a.same ∙ reads.complete _ x) in
      no-characters s place b w.1.1 refl

  -- ---- By the kind
  pub told-broken : {kind place : ℕ} → Told K₀ start s kind place → kind ≡ 10 → BrokenAt X s start place
  told-broken (stopped p) e = absurd (omega arith)
  told-broken (behind a l) e = absurd (omega arith)
  told-broken (broken K a b) e =
      record { in_string = in-string a; no_character = b.none; high_byte = b.high; not_whole = not-whole a b }
  told-broken (judged K l a) e = absurd (omega arith)

  pub told-stops : {kind place : ℕ} → Told K₀ start s kind place → kind ≡ 11 → StopsAt X s start place
  told-stops (stopped p) e = fault-token reads s start p
  told-stops (behind a l) e = stops reads Past (over-at a l) a
  told-stops (broken K a b) e = absurd (omega arith)
  told-stops (judged K l a) e = absurd (omega arith)

  pub told-begins : {kind place : ℕ} → Told K₀ start s kind place → 12 ≤ kind → Begins X (slice start place s)
  told-begins (stopped p) h = absurd (omega arith)
  told-begins (behind a l) h = absurd (omega arith)
  told-begins (broken K a b) h = absurd (omega arith)
  told-begins (judged K l a) h = begins-at reads a

pub told-kind : {K₀ : Stack} {start : ℕ} {s : Bytes} {kind place : ℕ} → Told K₀ start s kind place → 10 ≤ kind
told-kind (stopped p) = omega arith
told-kind (behind a l) = omega arith
told-kind (broken K a b) = omega arith
told-kind (judged K l a) = omega arith

pub told-place : {K₀ : Stack} {start : ℕ} {s : Bytes} {kind place : ℕ} → Told K₀ start s kind place → place ≤ length s
told-place (stopped p) = p.here.inside
told-place (behind a l) = a.inside
told-place (broken K a b) = a.inside
told-place (judged K l a) = a.inside

-- ---- The machine's start stands for a JSON text
pub text-reads : Reads a_text Text
text-reads =
    record { complete = λ l t. text-run t; sound = λ l w. Text.text w.1 w.2.1 (rw w.2.2.2 at w.2.2.1) }
