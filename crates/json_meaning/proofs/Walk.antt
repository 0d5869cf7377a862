-- A string is read whole exactly if every step is a character up to the closing quote, and then the characters and their
-- places are those of the steps.
-- Assumes nothing.
use Rattle.std.specs.Prelude.{Ok}
use Prim.Native.Nat.{ℕ, zero, suc, ◌+◌, ◌≤◌, ◌<◌}
use mathlib.Core.Path.{◌≡◌, refl, sym, ap, ◌∙◌}
use mathlib.Core.List.{List, [], ◌∷◌}
use mathlib.Core.Logic.{◌↔◌, ⊎_elim}
use native.Mathlib.Omega.{arith}
use borrow.Author.Tests.{eq-eqb, eqb-true, le-ltb}
use lib.ListN.{length, get_or}
use lib.Dec.{eqb}
use Rattle.json_bytes.specs.Reads.{byte_at, Reading, fault_at}
use Rattle.json_bytes.proofs.Laws.{by-test, inside}
use Rattle.json_chars.specs.Step.{step_at}
use Rattle.json_chars.specs.Chars.{chars_from, chars_at}
use Rattle.json_chars.specs.declared.Step.{Step}
use Rattle.json_chars.specs.declared.Step.TheVariants.{Char, Close, Bad}
use Rattle.json_chars.proofs.Bounds.{step-good, Good}
use Rattle.json_text.specs.Text.{text_from, text_read_at}
use Rattle.json_meaning.specs.Strings.{char_places_from, char_places_at, Spelled, StringOf}
use Rattle.json_meaning.proofs.Encoding.{by_first, by-escape, sequence-either}

-- ---- The closing quote is the byte 22 and nothing else
module _ (s : List ℕ) (i : ℕ) where
  pub quote-closes : byte_at s i ≡ 0x22 → step_at s i ≡ Close
  unfolding step_at
  quote-closes e = rw (le-ltb (byte_at s i) 32 (omega arith), eq-eqb (byte_at s i) 34 e)

  pub closes-quote : step_at s i ≡ Close → byte_at s i ≡ 0x22
  closes-quote =
      by_first s i Then (λ _ q. absurd (bad q)) (λ e _. e)
      (λ _. by-escape s i Then (λ p q. absurd (bad q)) (λ u _ q. absurd (char q)) (λ u _ _ _ q. absurd (char q)) (λ q. absurd (char q)))
      (λ _ _ _ _ q. absurd (char q))
      (λ _ q. ⊎_elim (λ b. absurd (bad (sym b ∙ q))) (λ c. absurd (char (sym c.2 ∙ q))) (sequence-either s i))
    where
      Then : Step → Type 0
      Then x = x ≡ Close → byte_at s i ≡ 0x22

      bad : {kind place : ℕ} → Bad kind place ≡ Close → ⊥
      bad q =
          let z : ◌≡◌ {A = ℕ} 0 1 = cc in
          omega arith

      char : {code next : ℕ} → Char code next ≡ Close → ⊥
      char q =
          let z : ◌≡◌ {A = ℕ} 0 1 = cc in
          omega arith

-- ---- Read whole, then spelled
module _ (s : List ℕ) where
  -- what a reading from a place shows: its characters and their places up to a closing quote
  Shown : ℕ → ℕ → List ℕ → List ℕ → Type 0
  Shown i end cs ps = (close : ℕ) × (end ≡ close + 1) × Spelled s i cs ps close

  whole-spelled : (f i end : ℕ) → text_from f s i ≡ Ok end → Shown i end (chars_from f s i) (char_places_from f s i)
  unfolding text_from chars_from char_places_from Shown
  whole-spelled zero i end e =
      let z : ◌≡◌ {A = ℕ} 0 1 = cc in
      absurd (omega arith)
  whole-spelled (suc f) i end e = go (step_at s i) refl e (λ next. whole-spelled f next end)
    where
      go : (t : Step) → step_at s i ≡ t → ◌≡◌ {A = Reading} (elim t [ Char code next ↦ text_from f s next | Close ↦ Ok (i + 1) | Bad kind place ↦ fault_at kind place ]) (Ok end) → ((next : ℕ) → text_from f s next ≡ Ok end → Shown next end (chars_from f s next) (char_places_from f s next)) → Shown i end (elim t [ Char code next ↦ code ∷ chars_from f s next | Close ↦ [] | Bad kind place ↦ [] ]) (elim t [ Char code next ↦ i ∷ char_places_from f s next | Close ↦ [] | Bad kind place ↦ [] ])
      go (Char code next) p q rest =
          let w = rest next q in
          (w.0, w.1, (refl, (next, p, w.2)))
      go Close p q rest =
          let ends : end ≡ i + 1 = cc in
          (i, ends, (refl, closes-quote s i p))
      go (Bad kind place) p q rest =
          let z : ◌≡◌ {A = ℕ} 0 1 = cc in
          absurd (omega arith)

  -- ---- Spelled, then read whole: a character takes a byte at least, so that there is fuel for all of them
  pub record Reads (f i : ℕ) (cs ps : List ℕ) (close : ℕ) : Type 0 where
    pub whole : text_from f s i ≡ Ok (close + 1)
    pub chars : chars_from f s i ≡ cs
    pub places : char_places_from f s i ≡ ps

  spelled-reads : (f i : ℕ) (cs ps : List ℕ) (close : ℕ) → i ≤ length s → length s < i + f → Spelled s i cs ps close → Reads f i cs ps close
  unfolding text_from chars_from char_places_from
  spelled-reads zero i cs ps close l m w = absurd (omega arith)
  spelled-reads (suc f) i [] [] close l m w =
      let e = quote-closes s i w.1 in
      record {
        whole = rw (e, text_from) (ap (λ (n : ℕ). Ok (n + 1)) w.0);
        chars = rw (e, chars_from);
        places = rw (e, char_places_from);
      }
  spelled-reads (suc f) i [] (p ∷ ps) close l m w = absurd w
  spelled-reads (suc f) i (c ∷ cs) [] close l m w = absurd w
  spelled-reads (suc f) i (c ∷ cs) (p ∷ ps) close l m w =
      let next : ℕ = w.1.0 in
      let e : step_at s i ≡ Char c next = w.1.1 in
      let b : Good s i (Char c next) = rw e at (step-good s i l) in
      let r : Reads f next cs ps close = spelled-reads f next cs ps close b.1 (omega arith) w.1.2 in
      record {
        whole = rw (e, text_from) r.whole;
        chars = rw (e, chars_from) (ap (λ (xs : List ℕ). c ∷ xs) r.chars);
        places = rw (e, char_places_from, w.0) (ap (λ (xs : List ℕ). p ∷ xs) r.places);
      }

-- ---- The whole string
module _ (s : List ℕ) (at : ℕ) where
  whole-opens : (end : ℕ) → text_read_at s at ≡ Ok end → byte_at s at ≡ 0x22
  unfolding text_read_at
  whole-opens end =
      by-test (λ (x : Reading). x ≡ Ok end → byte_at s at ≡ 0x22) (eqb (byte_at s at) 34) _ _
      (λ e _. eqb-true (byte_at s at) 34 e)
      (λ _ q.
      let z : ◌≡◌ {A = ℕ} 0 1 = cc in
      absurd (omega arith))

  module _ (opens : byte_at s at ≡ 0x22) where
    text-from : text_read_at s at ≡ text_from (length s) s (at + 1)
    unfolding text_read_at
    text-from = rw (eq-eqb (byte_at s at) 34 opens)

    chars-from : chars_at s at ≡ chars_from (length s) s (at + 1)
    unfolding chars_at
    chars-from = rw (eq-eqb (byte_at s at) 34 opens)

    places-from : char_places_at s at ≡ char_places_from (length s) s (at + 1)
    unfolding char_places_at
    places-from = rw (eq-eqb (byte_at s at) 34 opens)

  module _ (cs ps : List ℕ) (close : ℕ) where
    is-string : text_read_at s at ≡ Ok (close + 1) → chars_at s at ≡ cs → char_places_at s at ≡ ps → StringOf s at cs ps close
    unfolding Shown
    is-string e c p =
        let o = whole-opens (close + 1) e in
        let w = whole-spelled s (length s) (at + 1) (close + 1) (sym (text-from o) ∙ e) in
        let here : w.0 ≡ close = omega (arith, w.1) in
        let spelled : Spelled s (at + 1) (chars_from (length s) s (at + 1)) (char_places_from (length s) s (at + 1)) close = rw here at w.2 in
        record { opens = o; spells = rw (sym (chars-from o) ∙ c, sym (places-from o) ∙ p) at spelled }

    string-is : StringOf s at cs ps close → (text_read_at s at ≡ Ok (close + 1)) × (chars_at s at ≡ cs) × (char_places_at s at ≡ ps)
    string-is w =
        let l = inside s at 34 w.opens (omega arith) in
        let r = spelled-reads s (length s) (at + 1) cs ps close (omega arith) (omega arith) w.spells in
        (text-from w.opens ∙ r.whole, chars-from w.opens ∙ r.chars, places-from w.opens ∙ r.places)

    -- a string is read whole, with these characters at these places, exactly if it opens with a quote and every step behind it is one
    -- of them, up to the closing quote
    pub read_whole : ((text_read_at s at ≡ Ok (close + 1)) × (chars_at s at ≡ cs) × (char_places_at s at ≡ ps)) ↔ StringOf s at cs ps close
    read_whole = (λ h. is-string h.0 h.1 h.2, string-is)

  -- so one that is read whole is made of its own characters
  pub whole-string : (end : ℕ) → text_read_at s at ≡ Ok end → (close : ℕ) × (end ≡ close + 1) × StringOf s at (chars_at s at) (char_places_at s at) close
  unfolding Shown
  whole-string end e =
      let w = whole-spelled s (length s) (at + 1) end (sym (text-from (whole-opens end e)) ∙ e) in
      (w.0, w.1, is-string (chars_at s at) (char_places_at s at) w.0 (e ∙ ap Ok w.1) refl refl)

-- ---- Each character where it is written
-- character k of a string begins at place k, and the next begins behind it
spelled_at : (s : List ℕ) (i : ℕ) (cs ps : List ℕ) (close : ℕ) → Spelled s i cs ps close → (k : ℕ) → k < length cs → (next : ℕ) × (step_at s (get_or ps k 0) ≡ Char (get_or cs k 0) next)
spelled_at s i [] ps close w k l = absurd (omega arith)
spelled_at s i (c ∷ cs) [] close w k l = absurd w
spelled_at s i (c ∷ cs) (p ∷ ps) close w zero l = (w.1.0, ap (step_at s) (sym w.0) ∙ w.1.1)
spelled_at s i (c ∷ cs) (p ∷ ps) close w (suc k) l = spelled_at s w.1.0 cs ps close w.1.2 k (omega arith)

-- of a string read whole, character k is what is read at place k
pub char-written : (s : List ℕ) (at end : ℕ) → text_read_at s at ≡ Ok end → (k : ℕ) → k < length (chars_at s at) → (next : ℕ) × (step_at s (get_or (char_places_at s at) k 0) ≡ Char (get_or (chars_at s at) k 0) next)
char-written s at end e =
    let w = whole-string s at end e in
    spelled_at s (at + 1) (chars_at s at) (char_places_at s at) w.0 w.2.spells
