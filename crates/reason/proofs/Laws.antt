-- What a reason says of its mark: a mark that holds says so and no other does, every broken rule is shown, and its numbers are
-- those of the mark that the full judgement gives. A rule that is not judged names the lowest of its files that can't be read.
-- Assumes nothing.
use Prim.Native.Nat.{ℕ, ◌≤◌, ◌<◌}
use mathlib.Core.Path.{◌≡◌, refl, sym, ap, ◌∙◌}
use mathlib.Core.Bool.{Bool, true, false, cond, ◌&&◌, ◌||◌, true≢false}
use mathlib.Core.List.{List}
use mathlib.Core.Logic.{◌⊎◌, inl, inr, ⊎_elim, ◌↔◌}
use native.Mathlib.Omega.{arith}
use borrow.Author.Tests.{lt-ltb, le-ltb, eq-eqb, ltb-true, ltb-false, eqb-true, eqb-false}
use lib.ListN.{length}
use lib.Dec.{ltb, eqb}
use Rattle.json_bytes.proofs.Laws.{either, both_left, both_right}
use Rattle.parts.specs.Files.{File}
use Rattle.mark_numbers.specs.declared.Mark.{Mark}
use Rattle.mark_numbers.specs.Marks.{mark_in, holds, not_judged}
use Rattle.mark_numbers.proofs.Laws.{mark-equal, mark-of-marks}
use Rattle.rule_shape.specs.declared.Rule.{Rule}
use Rattle.rule_shape.specs.Rule.{first_file_of, second_file_of, reads}
use Rattle.rules.specs.declared.Break.{Break}
use Rattle.rules.specs.Judge.{is_judged, mark_of}
use Rattle.rule_reason.specs.declared.Searched.{Searched}
use Rattle.rule_reason.specs.declared.Searched.TheVariants.{In, Nowhere}
use Rattle.rule_reason.specs.Reason.{searched_in}
use Rattle.reason_answer.specs.declared.Shown.{Shown}
use Rattle.reason_answer.specs.declared.Reason.TheVariants.{Holds, NotJudged, OwnMark}
use Rattle.gate_marks.specs.declared.Scope.{Scope}
use Rattle.gate_marks.specs.Gate.{Gate, marks_of, rule_of_mark, reads_file}
use Rattle.gate_marks.specs.Work.{cells_in}
use Rattle.gate_marks.specs.Marks.{mark_read, file_mark, table_of, rule_mark, rule_mark_at, mark_at, full_marks}
use Rattle.gate_marks.specs.Again.{is_needed, work_judged}
use Rattle.gate_marks.proofs.Laws.{asked-only, cells-kept}
use Rattle.reason.specs.Reason.{shown_of, broken_by, is_readable, lowest_of, unread_of, reason_at, can_tell, work_told}
use Rattle.reason.specs.Speaks.{broken_mark, Speaks, ShowsBroken, NamesUnread}
use Rattle.reason.proofs.Found.{told-holds, told-own, told-unjudged, told-broken}

-- ---- a rule's mark holds, is broken, or is not judged
abbrev OfRule : Mark → Type 0
OfRule x = (x.kind ≡ 0) ⊎ ((x.kind ≡ 1) ⊎ (x ≡ not_judged))

of-rule : (judged : Bool) (b : Break) → OfRule (mark_of judged b)
unfolding mark_of
of-rule judged b = either OfRule judged _ _ (either OfRule (eqb b.«record» 0) _ _ (inl refl) (inr (inl refl))) (inr (inr refl))

module _ (g : Gate) (files : ℕ → File) (m : ℕ) (l : g.files ≤ m) where
  pub rule-mark-is : mark_at g m files ≡ rule_mark_at g (rule_of_mark g m) files
  unfolding mark_at
  rule-mark-is = rw (le-ltb m g.files l)

  rule-cases : OfRule (mark_at g m files)
  unfolding rule_mark_at rule_mark
  rule-cases =
      rw rule-mark-is (either OfRule (ltb (first_file_of (rule_of_mark g m)) g.files && ltb (second_file_of (rule_of_mark g m)) g.files) _ _ (of-rule _ _) (inr (inr refl)))

-- ---- the four answers
module _ (g : Gate) (offset : ℕ → ℕ) (files : ℕ → File) (m : ℕ) where
  abbrev x : Mark
  x = mark_at g m files

  abbrev rule : Rule
  rule = rule_of_mark g m

  abbrev kind : ℕ → ℕ
  kind k = (file_mark (g.expected k) (files k)).kind

  abbrev pub shown : Shown
  shown = shown_of rule (offset (first_file_of rule)) (table_of (g.expected (first_file_of rule)) (files (first_file_of rule))) x

  pub reason-holds : x.kind ≡ 0 → reason_at g offset files m ≡ Holds
  unfolding reason_at
  reason-holds e = sym (told-holds g.files m rule _ _ _ x refl e)

  pub reason-own : m < g.files → (x.kind ≡ 0 → ⊥) → reason_at g offset files m ≡ OwnMark x.kind x.place x.companion
  unfolding reason_at
  reason-own l some = sym (told-own g.files m rule _ _ _ x refl some l)

  module _ (l : g.files ≤ m) where
    pub reason-unjudged : x.kind ≡ 2 → reason_at g offset files m ≡ NotJudged (unread_of g.files kind rule)
    unfolding reason_at
    reason-unjudged e = sym (told-unjudged g.files m rule _ kind _ x refl (λ z. omega arith) l e refl)

    pub reason-broken : x.kind ≡ 1 → reason_at g offset files m ≡ broken_by (searched_in rule) shown
    unfolding reason_at
    reason-broken e = sym (told-broken g.files m rule _ kind _ x refl (λ z. omega arith) l (λ z. omega arith) refl refl)

    broken-searched : (s : Searched) (y : Shown) → ShowsBroken (broken_by s y) y
    unfolding broken_by
    broken-searched (In file) y = inr (file, refl)
    broken-searched Nowhere y = inl refl

    -- every broken rule is shown
    pub broken-shown : x.kind ≡ 1 → ShowsBroken (reason_at g offset files m) shown
    broken-shown e = rw (reason-broken e) (broken-searched (searched_in rule) shown)

  -- ---- the mark's numbers
  broken-speaks : (s : Searched) → x.kind ≡ 1 → Speaks (broken_by s shown) x
  unfolding broken_by shown_of
  broken-speaks (In file) e = mark-equal x _ e refl refl
  broken-speaks Nowhere e = mark-equal x _ e refl refl

  rule-speaks : g.files ≤ m → Speaks (reason_at g offset files m) x
  rule-speaks l = go (rule-cases g files m l)
    where
      go : OfRule x → Speaks (reason_at g offset files m) x
      go (inl e) = rw (reason-holds e) e
      go (inr (inl e)) = rw (reason-broken l e) (broken-speaks (searched_in rule) e)
      go (inr (inr e)) = rw (reason-unjudged l (ap (λ (y : Mark). y.kind) e)) e

  pub speaks : Speaks (reason_at g offset files m) x
  speaks = go (ltb m g.files) refl (eqb x.kind 0) refl
    where
      go : (a : Bool) → ltb m g.files ≡ a → (b : Bool) → eqb x.kind 0 ≡ b → Speaks (reason_at g offset files m) x
      go true e true f = rw (reason-holds (eqb-true x.kind 0 f)) (eqb-true x.kind 0 f)
      go true e false f = rw (reason-own (ltb-true m g.files e) (eqb-false x.kind 0 f)) (eqb-false x.kind 0 f, mark-equal x _ refl refl refl)
      go false e b f = rule-speaks (ltb-false m g.files e)

  -- they are those of the full judgement
  pub mark-told : m < marks_of g → Speaks (reason_at g offset files m) (mark_in (full_marks g files) m)
  unfolding full_marks
  mark-told l = rw (mark-of-marks (marks_of g) (λ k. mark_at g k files) m l) speaks

  -- "A mark that holds says so", and no other does
  pub holds-exactly : (reason_at g offset files m ≡ Holds) ↔ (x.kind ≡ 0)
  holds-exactly = (λ e. rw e at speaks, reason-holds)

  -- what is shown is of a broken mark
  pub shown-broken : (y : Shown) → ShowsBroken (reason_at g offset files m) y → x ≡ broken_mark y
  shown-broken y told = ⊎_elim (λ e. rw e at speaks) (λ h. rw h.1 at speaks) told

-- ---- the lowest of two files that can't be read
pub record Lowest (readable : ℕ → Bool) (a b k : ℕ) : Type 0 where
  pub one : (k ≡ a) ⊎ (k ≡ b)
  pub unread : readable k ≡ false
  pub none : (j : ℕ) → (j ≡ a) ⊎ (j ≡ b) → j < k → readable j ≡ true

module _ (readable : ℕ → Bool) (low high : ℕ) (order : low ≤ high) (some : readable low ≡ true → readable high ≡ false) where
  lowest-is : Lowest readable low high (lowest_of readable low high)
  unfolding lowest_of
  lowest-is = go (readable low) refl
    where
      go : (t : Bool) → readable low ≡ t → Lowest readable low high (cond t high low)
      go true e =
          record {
            one = inr refl;
            unread = some e;
            none = λ j is l. ⊎_elim (λ q. rw q e) (λ q. absurd (omega arith)) is;
          }
      go false e =
          record { one = inl refl; unread = e; none = λ j is l. absurd (⊎_elim (λ q. omega arith) (λ q. omega arith) is) }

turned : {A B : Type 0} → A ⊎ B → B ⊎ A
turned h = ⊎_elim (λ a. inr a) (λ b. inl b) h

module _ (n : ℕ) (kind : ℕ → ℕ) (rule : Rule) (some : is_readable n kind (first_file_of rule) ≡ true → is_readable n kind (second_file_of rule) ≡ false) where
  some-turned : is_readable n kind (second_file_of rule) ≡ true → is_readable n kind (first_file_of rule) ≡ false
  some-turned e = go (is_readable n kind (first_file_of rule)) refl
    where
      go : (t : Bool) → is_readable n kind (first_file_of rule) ≡ t → t ≡ false
      go true f = absurd (true≢false (sym e ∙ some f))
      go false f = refl

  unread-by : Lowest (is_readable n kind) (first_file_of rule) (second_file_of rule) (unread_of n kind rule)
  unfolding unread_of
  unread-by = go (ltb (second_file_of rule) (first_file_of rule)) refl
    where
      go : (t : Bool) → ltb (second_file_of rule) (first_file_of rule) ≡ t → Lowest (is_readable n kind) (first_file_of rule) (second_file_of rule) (cond t (lowest_of (is_readable n kind) (second_file_of rule) (first_file_of rule)) (lowest_of (is_readable n kind) (first_file_of rule) (second_file_of rule)))
      go true e =
          let is = lowest-is (is_readable n kind) (second_file_of rule) (first_file_of rule) (omega (arith, ltb-true (second_file_of rule) (first_file_of rule) e)) some-turned in
          record { one = turned is.one; unread = is.unread; none = λ j q l. is.none j (turned q) l }
      go false e = lowest-is (is_readable n kind) (first_file_of rule) (second_file_of rule) (ltb-false (second_file_of rule) (first_file_of rule) e) some

-- ---- of a rule that is not judged, one of the files that it reads can't be read
judged-kind : (b : Break) → (mark_of true b).kind ≡ 2 → ⊥
unfolding mark_of
judged-kind b = go (eqb b.«record» 0)
  where
    go : (t : Bool) → (cond t holds (record { kind = 1; place = b.«record»; companion = b.other })).kind ≡ 2 → ⊥
    go true e = omega arith
    go false e = omega arith

-- the file, as the rule's row names it
reads-one : (rule : Rule) (j : ℕ) → (reads rule j ≡ true) ↔ ((j ≡ first_file_of rule) ⊎ (j ≡ second_file_of rule))
unfolding reads
reads-one rule j = (there (eqb (first_file_of rule) j) refl, λ h. ⊎_elim (λ q. rw (eq-eqb (first_file_of rule) j (sym q))) (λ q. rw (eq-eqb (second_file_of rule) j (sym q)) (or-true (eqb (first_file_of rule) j))) h)
  where
    or-true : (t : Bool) → (t || true) ≡ true
    or-true true = refl
    or-true false = refl

    there : (t : Bool) → eqb (first_file_of rule) j ≡ t → (t || eqb (second_file_of rule) j) ≡ true → (j ≡ first_file_of rule) ⊎ (j ≡ second_file_of rule)
    there true e h = inl (sym (eqb-true (first_file_of rule) j e))
    there false e h = inr (sym (eqb-true (second_file_of rule) j h))

module _ (n : ℕ) (kind : ℕ → ℕ) (k : ℕ) where
  readable-is : is_readable n kind k ≡ true → (k < n) × (kind k ≡ 0)
  unfolding is_readable
  readable-is e =
      (ltb-true k n (both_left (ltb k n) (eqb (kind k) 0) e), eqb-true (kind k) 0 (both_right (ltb k n) (eqb (kind k) 0) e))

  is-readable : k < n → kind k ≡ 0 → is_readable n kind k ≡ true
  unfolding is_readable
  is-readable l e = rw (lt-ltb k n l, eq-eqb (kind k) 0 e)

module _ (g : Gate) (files : ℕ → File) (m : ℕ) (l : g.files ≤ m) (e : (mark_at g m files).kind ≡ 2) where
  abbrev kinds : ℕ → ℕ
  kinds k = (file_mark (g.expected k) (files k)).kind

  abbrev own : Rule
  own = rule_of_mark g m

  not-both : first_file_of own < g.files → kinds (first_file_of own) ≡ 0 → second_file_of own < g.files → kinds (second_file_of own) ≡ 0 → ⊥
  unfolding rule_mark_at rule_mark file_mark mark_read is_judged
  not-both a p b q =
      judged-kind _ (rw (rule-mark-is g files m l, lt-ltb (first_file_of own) g.files a, lt-ltb (second_file_of own) g.files b, eq-eqb _ 0 p, eq-eqb _ 0 q) at e)

  some-unread : is_readable g.files kinds (first_file_of own) ≡ true → is_readable g.files kinds (second_file_of own) ≡ false
  some-unread first = go (is_readable g.files kinds (second_file_of own)) refl
    where
      go : (t : Bool) → is_readable g.files kinds (second_file_of own) ≡ t → t ≡ false
      go true second =
          let a = readable-is g.files kinds (first_file_of own) first in
          let b = readable-is g.files kinds (second_file_of own) second in
          absurd (not-both a.0 a.1 b.0 b.1)
      go false second = refl

  pub unjudged-names : NamesUnread g files own (unread_of g.files kinds own)
  unjudged-names =
      let is = unread-by g.files kinds own some-unread in
      record {
        reads-it = (reads-one own _).1 is.one;
        unread = λ h z. true≢false (sym (is-readable g.files kinds _ h z) ∙ is.unread);
        lowest = λ j h r. readable-is g.files kinds j (is.none j ((reads-one own j).0 r) h);
      }

-- ---- nothing is read but the files that the mark reads: what stood in the place of any other is there still
pub others-unread : (g : Gate) (files : ℕ → File) (m : ℕ) (work : List ℕ) (k : ℕ) → reads_file g m k ≡ false → cells_in g.expected (work_told g files m work) k ≡ cells_in g.expected work k
unfolding work_told work_judged
others-unread g files m work k none =
    either (λ (w : List ℕ). cells_in g.expected w k ≡ cells_in g.expected work k) (ltb m (marks_of g) && can_tell g (length work)) _ _ (cells-kept _ g.expected (is_needed g (Scope.Mark m)) files work g.files k (unneeded (is_needed g (Scope.Mark m) k) refl)) refl
  where
    unneeded : (t : Bool) → is_needed g (Scope.Mark m) k ≡ t → t ≡ false
    unneeded true e = absurd (true≢false (sym (asked-only g m k e) ∙ none))
    unneeded false e = refl
