-- Which kinds reading a string can give, and which rules its characters can break, by its type.
-- Assumes nothing.
use Rattle.std.specs.Prelude.{Ok}
use Rattle.std.proofs.Common.{◌≡◌, ℕ, zero, suc, ◌+◌, ◌≤◌, Bool, true, not, eqb, leb, List, [], ◌∷◌, map, length, refl, arith, leb-true}
use borrow.Author.Tests.{not-false}
use Rattle.json_bytes.specs.Reads.{byte_at, within, fault_at}
use Rattle.json_bytes.proofs.Laws.{by-test, either, within-from, within-to}
use Rattle.json_bytes.proofs.FaultKinds.{In, every, each, wider, below, in_order, Faults}
use Rattle.json_chars.specs.Step.{step_at}
use Rattle.json_chars.specs.declared.Step.{Step}
use Rattle.json_chars.specs.declared.Step.TheVariants.{Char, Close, Bad}
use Rattle.json_chars.proofs.FaultKinds.{step_kinds, StepFaults, step-kinds}
use Rattle.json_text.specs.Text.{text_from, text_read_at, barred, spaces_of, in_runs, is_white, wrong_space, outside_id, rule_broken, none, wrong_at}
use Rattle.json_text.specs.declared.TextType.{TextType}
use Rattle.json_text.specs.declared.TextType.TheVariants.{Text, String, StringID}
use Rattle.json_text.specs.declared.Wrong.{Wrong}
use Rattle.json_text.proofs.Bounds.{of-wrong}
use Rattle.json_text.proofs.Opens.{open-text}

-- ---- reading it whole: the kinds of a step, and 11 where no quote opens it or the file ends
abbrev pub text_kinds : List ℕ
text_kinds = 11 ∷ step_kinds

module _ (s : List ℕ) where
  of-step : (f i : ℕ) → ((next : ℕ) → Faults text_kinds (text_from f s next)) → (t : Step) → StepFaults step_kinds t → Faults text_kinds (elim t [ Char code next ↦ text_from f s next | Close ↦ Ok (i + 1) | Bad kind place ↦ fault_at kind place ])
  of-step f i rest (Char code next) h = rest next
  of-step f i rest Close h = tt
  of-step f i rest (Bad kind place) h = wider step_kinds text_kinds refl kind h

  from-kinds : (f i : ℕ) → Faults text_kinds (text_from f s i)
  unfolding text_from
  from-kinds zero i = refl
  from-kinds (suc f) i = of-step f i (from-kinds f) (step_at s i) (step-kinds s i)

  pub text-kinds : (at : ℕ) → Faults text_kinds (text_read_at s at)
  unfolding text_read_at
  text-kinds at = either (Faults text_kinds) (eqb (byte_at s at) 34) _ _ (from-kinds (length s) (at + 1)) refl

-- each is given, inside the quote: at the end of the file, at a byte that begins no sequence, at a raw control
pub text-given : map (λ s. text_read_at s 0) ((34 ∷ []) ∷ (34 ∷ 0xFF ∷ []) ∷ (34 ∷ 1 ∷ []) ∷ []) ≡ map (λ kind. fault_at kind 1) text_kinds
unfolding open-text
text-given = refl

-- ---- the rules: a Text has no whitespace rule and no set, a String no set; in a StringID a surrogate is outside the set first
abbrev pub rules_of : TextType → List ℕ
rules_of Text = 1 ∷ 4 ∷ []
rules_of String = 1 ∷ 2 ∷ 4 ∷ []
rules_of StringID = 1 ∷ 2 ∷ 3 ∷ []

-- 0 says that no rule is broken
abbrev pub Rule : TextType → ℕ → Type 0
Rule ty rule = In (0 ∷ rules_of ty) rule

few-rules : (ty : TextType) → every (λ rule. leb rule 4) (0 ∷ rules_of ty) ≡ true
few-rules Text = refl
few-rules String = refl
few-rules StringID = refl

pub rule-few : (ty : TextType) (rule : ℕ) → Rule ty rule → rule ≤ 4
rule-few ty rule h = leb-true rule 4 (each (λ n. leb n 4) (0 ∷ rules_of ty) (few-rules ty) rule h)

rule-is : (ty : TextType) (c : ℕ) (edge : Bool) → Rule ty (rule_broken ty c edge)
unfolding rule_broken wrong_space is_white spaces_of in_runs outside_id
rule-is Text c edge =
    either (Rule Text) (barred c) _ _ refl (either (Rule Text) (within 0xD800 0xDFFF c) _ _ refl refl)
rule-is String c edge =
    either (Rule String) (barred c) _ _ refl
    (either (Rule String) (wrong_space String c edge) _ _ refl (either (Rule String) (within 0xD800 0xDFFF c) _ _ refl refl))
rule-is StringID c edge =
    either (Rule StringID) (barred c) _ _ refl
    (either (Rule StringID) (wrong_space StringID c edge) _ _ refl
    (by-test (Rule StringID) (not (within 0x20 0x7E c)) _ _ (λ _. refl)
    (λ e. by-test (Rule StringID) (within 0xD800 0xDFFF c) _ _
    (λ high. absurd (omega (arith, within-to 0x20 0x7E c (not-false (within 0x20 0x7E c) e), within-from 0xD800 0xDFFF c high))) (λ _. refl))))

pub wrong-rule : (ty : TextType) (s : List ℕ) (at : ℕ) → Rule ty (wrong_at ty s at).rule
unfolding none
wrong-rule ty s = of-wrong (λ (w : Wrong). Rule ty w.rule) ty s refl (λ i code edge l. rule-is ty code edge)

-- each is given: `"\u007F"`, `" "`, `"\u00E9"` and `"\uD800"`, and no rule is broken in `""`
abbrev texts : List (List ℕ)
texts =
    (34 ∷ 92 ∷ 117 ∷ 48 ∷ 48 ∷ 55 ∷ 70 ∷ 34 ∷ []) ∷
    (34 ∷ 32 ∷ 34 ∷ []) ∷
    (34 ∷ 92 ∷ 117 ∷ 48 ∷ 48 ∷ 69 ∷ 57 ∷ 34 ∷ []) ∷
    (34 ∷ 92 ∷ 117 ∷ 68 ∷ 56 ∷ 48 ∷ 48 ∷ 34 ∷ []) ∷
    (34 ∷ 34 ∷ []) ∷
    []

pub rules-given : map (λ ty. in_order (map (λ s. (wrong_at ty s 0).rule) texts)) (Text ∷ String ∷ StringID ∷ [])
    ≡ map (λ ty. 0 ∷ rules_of ty) (Text ∷ String ∷ StringID ∷ [])
unfolding open-text below
rules-given = refl
