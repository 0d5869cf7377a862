-- What the calls with a list answer, from what their steps answer.
-- Assumes nothing.
use Prim.Native.Nat.{ℕ, ◌≤◌, ◌<◌}
use mathlib.Core.Path.{◌≡◌, refl, sym, ap, ◌∙◌}
use mathlib.Core.Bool.{Bool, true, false, not, cond, true≢false}
use mathlib.Core.List.{List}
use native.Mathlib.Omega.{arith}
use borrow.Author.Tests.{eq-eqb, ne_eqb, eqb-true, eqb-false, leb-true, le-leb, lt-leb}
use lib.ListN.{length}
use lib.Dec.{leb, ltb, eqb}
use Rattle.json_bytes.proofs.Laws.{by-test, both_left, both_right}
use Rattle.parts.specs.Files.{File}
use Rattle.mark_numbers.specs.Marks.{Marks, fresh_marks, fresh_over, have_length}
use Rattle.mark_numbers.proofs.Laws.{lists-long, long-lists, lists-wrong, lists-right, fresh-over}
use Rattle.bundle_layout.specs.Bundle.{bundle_fault, file_at, bundle_length}
use Rattle.bundle_layout.specs.Change.{files_after, try_fault, make_fault, output}
use Rattle.bundle.specs.Answers.{change_of, tried_bundle}
use Rattle.bundle.specs.declared.Made.{Made}
use Rattle.entries.specs.declared.Entry.{Entry}
use Rattle.gate_marks.specs.declared.Scope.{Scope}
use Rattle.gate_marks.specs.declared.Scope.TheVariants.{Full, Change}
use Rattle.gate_marks.specs.Gate.{Gate, marks_of}
use Rattle.gate_marks.specs.Marks.{full_marks}
use Rattle.gate_marks.specs.Again.{workspace_of, room_is_there, has_lists, work_judged}
use Rattle.gate_calls.specs.Calls.{Answer, answer, changed_marks, judgement, accepted, answered, tried, change_made}
use Rattle.gate_calls.specs.Lent.{lent_fault, judged_in, tried_in, made_in, output_in, work_left, judge_left, change_left}
use Rattle.gate_calls.proofs.Lent.{lent-judge, lent-try, lent-make, lent-output}
use Rattle.gate_calls.proofs.Refusals.{in-case, is_case, bundle_rows, lookup_rows, try_rows, make_rows, bundle-refusals, try-refusals, make-refusals}
use Rattle.schedule.specs.Schedule.{schedule}
use Rattle.schedule.proofs.Laws.{files-are, marks-are, workspace-is}
use Rattle.gate_lists.specs.Which.{made_of, gate_called}
use Rattle.gate_lists.specs.declared.Which.TheVariants.{Schedule}
use Rattle.set_entries.specs.Entries.{set_entries}
use Rattle.set_entries.specs.Work.{files_in, list_space_of, set_listed, count_listed, work_listed}
use Rattle.gate_flat.specs.declared.Listed.{Listed}
use Rattle.gate_flat.specs.Listed.{has_list_space, list_fault, over_list, unless_short, judge_listed, try_listed, make_listed, output_after, listed_of, list_left}
use Rattle.gate_flat.specs.Code.{refused_by, refusal_with, counted_of, unless_refused}

-- ---- what is lent
module _ (g : Gate) (lent : ℕ) (handed : Marks) where
  pub wrong-lists : have_length (marks_of g) handed ≡ false → 100 ≡ list_fault g lent handed
  unfolding list_fault has_lists
  wrong-lists e = rw e

  module _ (right : have_length (marks_of g) handed ≡ true) where
    pub short-space : g.files ≤ 32 → lent < list_space_of g → 14 ≡ list_fault g lent handed
    unfolding list_fault has_lists has_list_space
    short-space f l = rw (right, le-leb g.files 32 f, lt-leb (list_space_of g) lent l)

    pub long-space : g.files ≤ 32 → list_space_of g ≤ lent → 0 ≡ list_fault g lent handed
    unfolding list_fault has_lists has_list_space
    long-space f l = rw (right, le-leb g.files 32 f, le-leb (list_space_of g) lent l)

  by-lent : (P : ℕ → Type 0) → (has_lists g handed ≡ true → has_list_space g lent ≡ true → P 0) → (has_lists g handed ≡ true → has_list_space g lent ≡ false → P 14) → (has_lists g handed ≡ false → P 100) → P (list_fault g lent handed)
  unfolding list_fault
  by-lent P whole short wrong =
      by-test P (has_lists g handed) _ _ (λ l. by-test P (has_list_space g lent) _ _ (λ r. whole l r) (λ r. short l r)) (λ l. wrong l)

  never : {A : Type 0} (n m : ℕ) → eqb n m ≡ false → n ≡ m → A
  never n m f q = absurd (true≢false (sym (eq-eqb n m q) ∙ f))

  fault-lists : list_fault g lent handed ≡ 0 → has_lists g handed ≡ true
  fault-lists = by-lent (λ n. n ≡ 0 → has_lists g handed ≡ true) (λ l r q. l) (λ l r q. l) (λ l q. never 100 0 refl q)

  fault-space : list_fault g lent handed ≡ 0 → has_list_space g lent ≡ true
  fault-space = by-lent (λ n. n ≡ 0 → has_list_space g lent ≡ true) (λ l r q. r) (λ l r q. never 14 0 refl q) (λ l q. never 100 0 refl q)

  -- where nothing is missing there is room, for the entries and for the call without a list
  module _ (none : list_fault g lent handed ≡ 0) where
    pub has-space : list_space_of g ≤ lent
    unfolding has_list_space
    has-space = leb-true (list_space_of g) lent (both_right (leb g.files 32) (leb (list_space_of g) lent) (fault-space none))

    pub has_room : lent_fault g lent handed ≡ 0
    unfolding lent_fault room_is_there has_list_space list_space_of
    has_room =
        rw (fault-lists none, both_left (leb g.files 32) (leb (list_space_of g) lent) (fault-space none), le-leb (workspace_of g) lent (omega (arith, has-space)))

    over-whole : (back : Marks) (whole : Answer) → over_list g lent handed back whole ≡ whole
    unfolding over_list
    over-whole back whole = rw (fault-lists none, fault-space none)

  over-wrong : (back : Marks) (whole : Answer) → list_fault g lent handed ≡ 100 → over_list g lent handed back whole ≡ answer 100 0 handed
  unfolding over_list
  over-wrong back whole =
      by-lent (λ n. n ≡ 100 → over_list g lent handed back whole ≡ answer 100 0 handed) (λ l r q. never 0 100 refl q) (λ l r q. never 14 100 refl q) (λ l q. rw l)

  over-short : (back : Marks) (whole : Answer) → (list_fault g lent handed ≡ 100 → ⊥) → (list_fault g lent handed ≡ 0 → ⊥) → over_list g lent handed back whole ≡ answer (list_fault g lent handed) 0 back
  unfolding over_list
  over-short back whole =
      by-lent (λ n. (n ≡ 100 → ⊥) → (n ≡ 0 → ⊥) → over_list g lent handed back whole ≡ answer n 0 back) (λ l r p q. absurd (q refl)) (λ l r p q. rw (l, r)) (λ l p q. absurd (p refl))

  -- of a change: the handed marks come back either way
  over-refused : (whole : Answer) → (list_fault g lent handed ≡ 0 → ⊥) → over_list g lent handed handed whole ≡ answer (list_fault g lent handed) 0 handed
  unfolding over_list
  over-refused whole =
      by-lent (λ n. (n ≡ 0 → ⊥) → over_list g lent handed handed whole ≡ answer n 0 handed) (λ l r q. absurd (q refl)) (λ l r q. rw (l, r)) (λ l q. rw l)

  -- lists that are not wrong are as long as there are marks
  pub fresh-marks : {fault : ℕ} → fault ≡ list_fault g lent handed → (fault ≡ 100 → ⊥) → {marks : Marks} → marks ≡ fresh_over handed → marks ≡ fresh_marks (marks_of g)
  fresh-marks is right e =
      let long = lists-long (marks_of g) handed (go (have_length (marks_of g) handed) refl) in
      e ∙ fresh-over handed (rw long.kinds-long (long-lists (marks_of g) handed long)) ∙ ap fresh_marks long.kinds-long
    where
      go : (t : Bool) → have_length (marks_of g) handed ≡ t → have_length (marks_of g) handed ≡ true
      go true q = q
      go false q = absurd (right (is ∙ sym (wrong-lists q)))

-- ---- 8 after the call's own refusals
module _ (entries : List Entry) (room : ℕ) (back : Marks) (whole : Answer) where
  unless-fine : refusal_with whole.refusal entries room ≡ 0 → (whole.refusal ≡ 0) × (unless_short entries room back whole ≡ whole)
  unfolding refusal_with unless_short
  unless-fine e = go (eqb whole.refusal 0) (leb (length entries) room) refl e
    where
      go : (t r : Bool) → eqb whole.refusal 0 ≡ t → cond t (cond r 0 8) whole.refusal ≡ 0 → (whole.refusal ≡ 0) × (cond t (cond r whole (answer 8 0 back)) whole ≡ whole)
      go true true q z = (eqb-true whole.refusal 0 q, refl)
      go true false q z = absurd (true≢false (sym (eq-eqb 8 0 z)))
      go false r q z = absurd (eqb-false whole.refusal 0 q z)

  module _ {c : ℕ} (c-is : c ≡ refusal_with whole.refusal entries room) (some : c ≡ 0 → ⊥) where
    unless-refused : ((whole.refusal ≡ 0 → ⊥) → whole ≡ answer whole.refusal 0 back) → unless_short entries room back whole ≡ answer c 0 back
    unfolding refusal_with unless_short
    unless-refused form = go (eqb whole.refusal 0) (leb (length entries) room) refl c-is
      where
        go : (t r : Bool) → eqb whole.refusal 0 ≡ t → c ≡ cond t (cond r 0 8) whole.refusal → cond t (cond r whole (answer 8 0 back)) whole ≡ answer c 0 back
        go true true q z = absurd (some z)
        go true false q z = ap (λ n. answer n 0 back) (sym z)
        go false r q z = form (eqb-false whole.refusal 0 q) ∙ ap (λ n. answer n 0 back) (sym z)

    -- and what is left in the workspace is what the refusal says
    work-refused : (whole.refusal ≡ 8 → ⊥) → (g : Gate) (scope : Scope) (files : ℕ → File) (work : List ℕ) {last : List ℕ} → last ≡ unless_refused whole.refusal (set_listed g scope files work) work → last ≡ list_left g scope files c work
    unfolding refusal_with unless_refused list_left
    work-refused not-8 g scope files work {last} is = go (eqb whole.refusal 0) (leb (length entries) room) refl c-is is
      where
        go : (t r : Bool) → eqb whole.refusal 0 ≡ t → c ≡ cond t (cond r 0 8) whole.refusal → last ≡ cond t (set_listed g scope files work) work → last ≡ cond (eqb c 0) (work_judged g scope files (set_listed g scope files work)) (cond (eqb c 8) (set_listed g scope files work) work)
        go true true q z i = absurd (some z)
        go true false q z i = i ∙ rw z
        go false r q z i = i ∙ rw (ne_eqb c 0 some, ne_eqb c 8 (λ e. not-8 (sym z ∙ e)))

-- ---- an answer in numbers
module _ (entries : List Entry) where
  of-refused : {x : Answer} {c : ℕ} {m : Marks} → x ≡ answer c 0 m → (c ≡ 0 → ⊥) → {r : Listed} → r ≡ refused_by c → {marks : Marks} → marks ≡ m → (r ≡ listed_of entries x) × (marks ≡ x.marks)
  unfolding refused_by listed_of
  of-refused e some r-is m-is = (r-is ∙ sym (ap (listed_of entries) e ∙ rw (ne_eqb _ 0 some)), m-is ∙ sym (ap (λ x. x.marks) e))

-- ---- a call with a list, from the call without one
module _ (g : Gate) (scope : Scope) (files : ℕ → File) (lent : ℕ) (handed back : Marks) (whole : Answer) (room : ℕ) (work : List ℕ) where
  abbrev es : List Entry
  es = set_entries g scope files

  abbrev told : Answer
  told = over_list g lent handed back (unless_short es room back whole)

  abbrev Ends : Listed → Marks → List ℕ → Type 0
  Ends r marks last = (r ≡ listed_of es told) × ((marks ≡ told.marks) × (last ≡ list_left g scope files r.refusal work))

  ends : {r : Listed} {marks : Marks} {last : List ℕ} (c : ℕ) → (r ≡ listed_of es told) × (marks ≡ told.marks) → r.refusal ≡ c → last ≡ list_left g scope files c work → Ends r marks last
  ends c both r-is last-is = (both.0, (both.1, last-is ∙ ap (λ n. list_left g scope files n work) (sym r-is)))

  untouched : (c : ℕ) → (c ≡ 0 → ⊥) → (c ≡ 8 → ⊥) → work ≡ list_left g scope files c work
  unfolding list_left
  untouched c n m = rw (ne_eqb c 0 n, ne_eqb c 8 m)

  refusal-of : {r : Listed} {c : ℕ} → r ≡ refused_by c → r.refusal ≡ c
  unfolding refused_by
  refusal-of e = ap (λ (x : Listed). x.refusal) e

  not-a-fault : (c : ℕ) → c ≡ list_fault g lent handed → c ≡ 8 → ⊥
  not-a-fault c is e = by-lent g lent handed (λ n. n ≡ 8 → ⊥) (λ l r q. never g lent handed 0 8 refl q) (λ l r q. never g lent handed 14 8 refl q) (λ l q. never g lent handed 100 8 refl q) (sym is ∙ e)

  -- lists of a wrong length
  pub ends-wrong : {fault : ℕ} → fault ≡ list_fault g lent handed → fault ≡ 100 → {r : Listed} → r ≡ refused_by 100 → Ends r handed work
  ends-wrong is e r-is =
      ends 100 (of-refused es (over-wrong g lent handed back (unless_short es room back whole) (sym is ∙ e)) (λ q. never g lent handed 100 0 refl q) r-is refl) (refusal-of r-is) (untouched 100 (λ q. never g lent handed 100 0 refl q) (λ q. never g lent handed 100 8 refl q))

  -- a workspace that is too short
  pub ends-short : {fault : ℕ} → fault ≡ list_fault g lent handed → (fault ≡ 100 → ⊥) → (fault ≡ 0 → ⊥) → {r : Listed} → r ≡ refused_by fault → {marks : Marks} → marks ≡ back → Ends r marks work
  ends-short {fault} is right some r-is m-is =
      ends fault (of-refused es (over-short g lent handed back (unless_short es room back whole) (λ q. right (is ∙ q)) (λ q. some (is ∙ q)) ∙ ap (λ n. answer n 0 back) (sym is)) some r-is m-is) (refusal-of r-is) (untouched fault some (not-a-fault fault is))

  -- either of them, where the handed marks come back
  pub ends-lent : back ≡ handed → {fault : ℕ} → fault ≡ list_fault g lent handed → (fault ≡ 0 → ⊥) → {r : Listed} → r ≡ refused_by fault → Ends r handed work
  ends-lent same {fault} is some r-is =
      ends fault (of-refused es (ap (λ b. over_list g lent handed b (unless_short es room back whole)) same ∙ over-refused g lent handed (unless_short es room back whole) (λ q. some (is ∙ q)) ∙ ap (λ n. answer n 0 handed) (sym is)) some r-is refl) (refusal-of r-is) (untouched fault some (not-a-fault fault is))

  module _ (none : list_fault g lent handed ≡ 0) {first : ℕ} (first-is : first ≡ whole.refusal) {counted : Listed} (counted-by : counted ≡ counted_of first es room) where
    counted_is : counted ≡ counted_of whole.refusal es room
    counted_is = counted-by ∙ ap (λ n. counted_of n es room) first-is

    left_by : {last : List ℕ} → last ≡ unless_refused first (set_listed g scope files work) work → last ≡ unless_refused whole.refusal (set_listed g scope files work) work
    left_by e = e ∙ ap (λ n. unless_refused n (set_listed g scope files work) work) first-is

    refusal_is : counted.refusal ≡ refusal_with whole.refusal es room
    unfolding counted_of
    refusal_is = ap (λ (x : Listed). x.refusal) counted_is

    -- refused by the call itself, or for the list
    pub ends-refused : ((whole.refusal ≡ 0 → ⊥) → whole ≡ answer whole.refusal 0 back) → (whole.refusal ≡ 8 → ⊥) → (counted.refusal ≡ 0 → ⊥) → {r : Listed} → r ≡ refused_by counted.refusal → {marks : Marks} → marks ≡ back → {last : List ℕ}
        → last ≡ unless_refused first (set_listed g scope files work) work → Ends r marks last
    ends-refused form not-8 some r-is m-is last-is =
        ends counted.refusal (of-refused es (over-whole g lent handed none back (unless_short es room back whole) ∙ unless-refused es room back whole refusal_is some form) some r-is m-is) (refusal-of r-is) (work-refused es room back whole refusal_is some not-8 g scope files work (left_by last-is))

    -- not refused
    module _ (fine : counted.refusal ≡ 0) where
      both : (whole.refusal ≡ 0) × (unless_short es room back whole ≡ whole)
      both = unless-fine es room back whole (sym refusal_is ∙ fine)

      told_is : told ≡ whole
      told_is = over-whole g lent handed none back (unless_short es room back whole) ∙ both.1

      pub whole-fine : whole.refusal ≡ 0
      whole-fine = both.0

      entries-are : counted.entries ≡ length es
      unfolding counted_of
      entries-are = ap (λ (x : Listed). x.entries) counted_is ∙ rw (eq-eqb (refusal_with whole.refusal es room) 0 (sym refusal_is ∙ fine))

      pub work-then : {last : List ℕ} → last ≡ unless_refused first (set_listed g scope files work) work → last ≡ set_listed g scope files work
      unfolding unless_refused
      work-then e = left_by e ∙ rw (eq-eqb whole.refusal 0 whole-fine)

      pub ends-fine : {made : Made} → made ≡ made_of whole → {r : Listed} → r ≡ record { refusal = made.refusal; length = made.length; entries = counted.entries } → {marks : Marks} → marks ≡ whole.marks → {then last : List ℕ}
          → then ≡ unless_refused first (set_listed g scope files work) work → last ≡ work_left g scope files made.refusal then → Ends r marks last
      unfolding listed_of made_of list_left work_left
      ends-fine {made} made-is {r} r-is m-is {then} then_is last-is =
          let z : made.refusal ≡ 0 = ap (λ (x : Made). x.refusal) made-is ∙ whole-fine in
          let all : listed_of es whole ≡ record { refusal = whole.refusal; length = whole.length; entries = length es } = rw (eq-eqb whole.refusal 0 whole-fine) in
          let left : work_left g scope files made.refusal then ≡ work_judged g scope files (set_listed g scope files work) = rw (eq-eqb made.refusal 0 z) (ap (work_judged g scope files) (work-then then_is)) in
          let said : list_left g scope files r.refusal work ≡ work_judged g scope files (set_listed g scope files work) = rw (eq-eqb r.refusal 0 (ap (λ (x : Listed). x.refusal) r-is ∙ z)) in (
            r-is ∙ ap (λ (m : Made). record { refusal = m.refusal; length = m.length; entries = counted.entries }) made-is ∙ ap (λ (n : ℕ). record { refusal = whole.refusal; length = whole.length; entries = n }) entries-are ∙ sym all ∙ sym (ap (listed_of es) told_is),
            (m-is ∙ sym (ap (λ x. x.marks) told_is), last-is ∙ left ∙ sym said),
          )

-- ---- the calls without a list: their refusals, none of which is 8
module _ (g : Gate) (s : List ℕ) where
  pub judge-refusal : (judgement g s).refusal ≡ bundle_fault g.files s
  unfolding judgement
  judge-refusal = go (eqb (bundle_fault g.files s) 0) refl
    where
      go : (t : Bool) → eqb (bundle_fault g.files s) 0 ≡ t → (cond t (answer 0 (length s) (full_marks g (file_at s))) (answer (bundle_fault g.files s) 0 (fresh_marks (marks_of g)))).refusal ≡ bundle_fault g.files s
      go true q = sym (eqb-true (bundle_fault g.files s) 0 q)
      go false q = refl

  pub judge-form : ((judgement g s).refusal ≡ 0 → ⊥) → judgement g s ≡ answer (judgement g s).refusal 0 (fresh_marks (marks_of g))
  unfolding judgement
  judge-form some =
      let n : bundle_fault g.files s ≡ 0 → ⊥ = λ z. some (judge-refusal ∙ z) in
      rw (ne_eqb (bundle_fault g.files s) 0 n)

  pub judge-not-8 : (judgement g s).refusal ≡ 8 → ⊥
  unfolding is_case bundle_rows
  judge-not-8 e = true≢false (sym (in-case (bundle_rows g.files s) 7 (sym (bundle-refusals g.files s) ∙ sym judge-refusal ∙ e)))

  module _ (k : ℕ) (f : File) (handed : Marks) where
    answered-refusal : (refusal : ℕ) → (answered g refusal s k f handed).refusal ≡ refusal
    unfolding answered accepted
    answered-refusal refusal = go (eqb refusal 0) refl
      where
        go : (t : Bool) → eqb refusal 0 ≡ t → (cond t (answer 0 (bundle_length g.files (files_after s k f)) (changed_marks g k (files_after s k f) handed)) (answer refusal 0 handed)).refusal ≡ refusal
        go true q = sym (eqb-true refusal 0 q)
        go false q = refl

    refused-is : (refusal : ℕ) → (refusal ≡ 0 → ⊥) → answered g refusal s k f handed ≡ answer refusal 0 handed
    unfolding answered
    refused-is refusal n = rw (ne_eqb refusal 0 n)

    answered-form : (refusal : ℕ) → ((answered g refusal s k f handed).refusal ≡ 0 → ⊥) → answered g refusal s k f handed ≡ answer (answered g refusal s k f handed).refusal 0 handed
    answered-form refusal some =
        refused-is refusal (λ z. some (answered-refusal refusal ∙ z)) ∙ ap (λ n. answer n 0 handed) (sym (answered-refusal refusal))

    pub try-refusal : (tried g s k f handed).refusal ≡ try_fault g.files s k f
    unfolding tried
    try-refusal = answered-refusal (try_fault g.files s k f)

    pub try-form : ((tried g s k f handed).refusal ≡ 0 → ⊥) → tried g s k f handed ≡ answer (tried g s k f handed).refusal 0 handed
    unfolding tried
    try-form = answered-form (try_fault g.files s k f)

    pub try-not-8 : (tried g s k f handed).refusal ≡ 8 → ⊥
    unfolding is_case try_rows lookup_rows bundle_rows
    try-not-8 e = true≢false (sym (in-case (try_rows g.files s k f) 7 (sym (try-refusals g.files s k f) ∙ sym try-refusal ∙ e)))

    module _ (room : ℕ) where
      pub make-refusal : (change_made g s k f handed room).refusal ≡ make_fault g.files s k f room
      unfolding change_made
      make-refusal = answered-refusal (make_fault g.files s k f room)

      pub make-form : ((change_made g s k f handed room).refusal ≡ 0 → ⊥) → change_made g s k f handed room ≡ answer (change_made g s k f handed room).refusal 0 handed
      unfolding change_made
      make-form = answered-form (make_fault g.files s k f room)

      pub make-not-8 : (change_made g s k f handed room).refusal ≡ 8 → ⊥
      unfolding is_case make_rows try_rows lookup_rows bundle_rows
      make-not-8 e = true≢false (sym (in-case (make_rows g.files s k f room) 7 (sym (make-refusals g.files s k f room) ∙ sym make-refusal ∙ e)))

-- ---- the steps as the code has them, of document 01's gate
few-files : schedule.files ≤ 32
few-files = rw files-are (omega arith)

pub space-is : list_space_of schedule ≡ 1056846
unfolding list_space_of
space-is = rw workspace-is

-- the test of what is lent
module _ (lent : ℕ) (handed : Marks) (t : Bool) (t-is : t ≡ have_length 81 handed) where
  lists-are : t ≡ have_length (marks_of schedule) handed
  lists-are = t-is ∙ ap (λ n. have_length n handed) (sym marks-are)

  pub fault-wrong : t ≡ false → 100 ≡ list_fault schedule lent handed
  fault-wrong e = wrong-lists schedule lent handed (lists-wrong _ _ lists-are (ap not e))

  pub fault-short : t ≡ true → lent < 1056846 → 14 ≡ list_fault schedule lent handed
  fault-short e l = short-space schedule lent handed (lists-right _ _ lists-are (ap not e)) few-files (rw space-is l)

  pub fault-none : t ≡ true → 1056846 ≤ lent → 0 ≡ list_fault schedule lent handed
  fault-none e l = long-space schedule lent handed (lists-right _ _ lists-are (ap not e)) few-files (rw space-is l)

-- how many there are, and what was written, in a workspace that is long enough
module _ (scope : Scope) (files : ℕ → File) (work : List ℕ) (room : ℕ) (enough : list_space_of schedule ≤ length work) where
  abbrev found : List Entry
  found = set_entries schedule scope files

  many_is : {n : ℕ} → n ≡ count_listed schedule scope files (length work) → n ≡ length found
  unfolding count_listed
  many_is e = e ∙ rw (le-leb (list_space_of schedule) (length work) enough)

  left_is : {last : List ℕ} → last ≡ work_listed schedule scope files work → last ≡ set_listed schedule scope files work
  unfolding work_listed
  left_is e = e ∙ rw (le-leb (list_space_of schedule) (length work) enough)

  abbrev Counts : ℕ → Listed → List ℕ → Type 0
  Counts refusal r last = (r ≡ counted_of refusal found room) × (last ≡ unless_refused refusal (set_listed schedule scope files work) work)

  pub count-refused : (refusal : ℕ) → (refusal ≡ 0 → ⊥) → {r : Listed} → r ≡ refused_by refusal → Counts refusal r work
  unfolding counted_of refusal_with refused_by unless_refused
  count-refused refusal some r-is =
      let e = ne_eqb refusal 0 some in (r-is ∙ rw (e, e), rw e)

  module _ (refusal : ℕ) (z : refusal ≡ 0) {n : ℕ} (n-is : n ≡ count_listed schedule scope files (length work)) {last : List ℕ} (last-is : last ≡ work_listed schedule scope files work) where
    pub count-short : room < n → {r : Listed} → r ≡ refused_by 8 → Counts refusal r last
    unfolding counted_of refusal_with refused_by unless_refused
    count-short l r-is = (r-is ∙ rw (z, lt-leb (length found) room (omega (arith, many_is n-is))), left_is last-is ∙ rw z)

    pub count-all : n ≤ room → Counts refusal (record { refusal = 0; length = 0; entries = n }) last
    unfolding counted_of refusal_with unless_refused
    count-all l = (ap (λ m. record { refusal = 0; length = 0; entries = m }) (many_is n-is) ∙ rw (z, le-leb (length found) room (omega (arith, many_is n-is))), left_is last-is ∙ rw z)

-- the refusals of the steps are those of the calls
module _ (s : List ℕ) where
  pub bundle-first : {x : ℕ} → x ≡ bundle_fault 20 s → x ≡ (judgement schedule s).refusal
  bundle-first e = e ∙ rw (← files-are) (sym (judge-refusal schedule s))

  module _ (k : ℕ) (f : File) (handed : Marks) {made : Made} (made-is : made ≡ tried_bundle 20 s k f) where
    pub try-first : made.refusal ≡ (tried schedule s k f handed).refusal
    unfolding tried_bundle change_of
    try-first = ap (λ (x : Made). x.refusal) made-is ∙ rw (← files-are) (sym (try-refusal schedule s k f handed))

    pub make-first : (room : ℕ) {x : ℕ} → x ≡ cond (eqb made.refusal 0) (cond (ltb room made.length) 5 0) made.refusal → x ≡ (change_made schedule s k f handed room).refusal
    unfolding tried_bundle change_of make_fault
    make-first room {x} e =
        let first : x ≡ make_fault 20 s k f room = e ∙ rw made-is (same (eqb (try_fault 20 s k f) 0)) in
        first ∙ rw (← files-are) (sym (make-refusal schedule s k f handed room))
      where
        same : (t : Bool) → cond t (cond (ltb room (cond t (bundle_length 20 (files_after s k f)) 0)) 5 0) (try_fault 20 s k f) ≡ cond t (cond (ltb room (bundle_length 20 (files_after s k f))) 5 0) (try_fault 20 s k f)
        same true = refl
        same false = refl

-- what the calls without a list answer in a workspace that is long enough for the entries
module _ (g : Gate) (handed : Marks) (work : List ℕ) (none : list_fault g (length work) handed ≡ 0) (then : List ℕ) (long : length then ≡ length work) where
  pub room-then : lent_fault g (length then) handed ≡ 0
  room-then = rw long (has_room g (length work) handed none)

-- the output of a change that was made, or was refused
module _ (s : List ℕ) (k : ℕ) (f : File) (handed : Marks) (out : List ℕ) where
  pub out-refused : (c : ℕ) → (c ≡ 0 → ⊥) → out ≡ output_after schedule c (files_after s k f) out
  unfolding output_after
  out-refused c some = rw (ne_eqb c 0 some)

  pub out-made : (lent : ℕ) → lent_fault schedule lent handed ≡ 0 → (change_made schedule s k f handed (length out)).refusal ≡ 0 → (c : ℕ) → c ≡ 0 → {last : List ℕ} → last ≡ output_in schedule s k f lent handed out → last ≡ output_after schedule c (files_after s k f) out
  unfolding output_after output
  out-made lent room fine c z e =
      e ∙ lent-output schedule lent handed room s k f out ∙ rw (eq-eqb (make_fault schedule.files s k f (length out)) 0 (sym (make-refusal schedule s k f handed (length out)) ∙ fine), eq-eqb c 0 z)

-- ---- the three calls, way by way
module _ (s : List ℕ) (handed : Marks) (room : ℕ) (work : List ℕ) {fault : ℕ} (fault-is : fault ≡ list_fault schedule (length work) handed) where
  abbrev JudgeEnds : Listed → Marks → List ℕ → Type 0
  JudgeEnds r marks last =
      (r ≡ listed_of (set_entries schedule Full (file_at s)) (judge_listed schedule s (length work) room handed))
      × ((marks ≡ (judge_listed schedule s (length work) room handed).marks) × (last ≡ list_left schedule Full (file_at s) r.refusal work))

  pub judge-wrong : fault ≡ 100 → {r : Listed} → r ≡ refused_by 100 → JudgeEnds r handed work
  unfolding judge_listed
  judge-wrong e r-is = ends-wrong schedule Full (file_at s) (length work) handed (fresh_marks (marks_of schedule)) (judgement schedule s) room work fault-is e r-is

  pub judge-short : (fault ≡ 100 → ⊥) → (fault ≡ 0 → ⊥) → {r : Listed} → r ≡ refused_by fault → {marks : Marks} → marks ≡ fresh_over handed → JudgeEnds r marks work
  unfolding judge_listed
  judge-short right some r-is m-is = ends-short schedule Full (file_at s) (length work) handed (fresh_marks (marks_of schedule)) (judgement schedule s) room work fault-is right some r-is (fresh-marks schedule (length work) handed fault-is right m-is)

  module _ (right : fault ≡ 100 → ⊥) (none : fault ≡ 0) (f : File) {first : ℕ} (first-is : first ≡ bundle_fault 20 s) {counted : Listed} (counted_is : counted ≡ counted_of first (set_entries schedule Full (files_in s Full f)) room) {then : List ℕ} (then_is : then ≡ unless_refused first (set_listed schedule Full (files_in s Full f) work) work) where
    pub judge-refused : (counted.refusal ≡ 0 → ⊥) → {r : Listed} → r ≡ refused_by counted.refusal → {marks : Marks} → marks ≡ fresh_over handed → JudgeEnds r marks then
    unfolding judge_listed files_in
    judge-refused some r-is m-is = ends-refused schedule Full (file_at s) (length work) handed (fresh_marks (marks_of schedule)) (judgement schedule s) room work (sym fault-is ∙ none) (bundle-first s first-is) counted_is (judge-form schedule s) (judge-not-8 schedule s) some r-is (fresh-marks schedule (length work) handed fault-is right m-is) then_is

    pub judge-fine : counted.refusal ≡ 0 → length then ≡ length work → {made : Made} → made ≡ made_of (judged_in (gate_called Schedule) s (length then) handed) → {r : Listed} → r ≡ record { refusal = made.refusal; length = made.length; entries = counted.entries }
        → {marks : Marks} → marks ≡ (judged_in (gate_called Schedule) s (length then) handed).marks → {last : List ℕ} → last ≡ judge_left (gate_called Schedule) s made.refusal then → JudgeEnds r marks last
    unfolding judge_listed files_in gate_called judge_left
    judge-fine fine long made-is r-is m-is last-is =
        let is = lent-judge schedule (length then) handed (room-then schedule handed work (sym fault-is ∙ none) then long) s in
        ends-fine schedule Full (file_at s) (length work) handed (fresh_marks (marks_of schedule)) (judgement schedule s) room work (sym fault-is ∙ none) (bundle-first s first-is) counted_is fine (made-is ∙ ap made_of is) r-is (m-is ∙ ap (λ x. x.marks) is) then_is last-is

-- of a change
module _ (s : List ℕ) (k : ℕ) (f : File) (handed : Marks) (room : ℕ) (work : List ℕ) {fault : ℕ} (fault-is : fault ≡ list_fault schedule (length work) handed) where
  abbrev ChangeEnds : Answer → Listed → Marks → List ℕ → Type 0
  ChangeEnds told r marks last =
      (r ≡ listed_of (set_entries schedule (Change k) (files_after s k f)) told) × ((marks ≡ told.marks) × (last ≡ list_left schedule (Change k) (files_after s k f) r.refusal work))

  abbrev TryEnds : Listed → Marks → List ℕ → Type 0
  TryEnds = ChangeEnds (try_listed schedule s k f (length work) room handed)

  pub try-lent : (fault ≡ 0 → ⊥) → {r : Listed} → r ≡ refused_by fault → TryEnds r handed work
  unfolding try_listed
  try-lent some r-is = ends-lent schedule (Change k) (files_after s k f) (length work) handed handed (tried schedule s k f handed) room work refl fault-is some r-is

  module _ (none : fault ≡ 0) {trial : Made} (trial-is : trial ≡ tried_bundle 20 s k f) where
    module _ {counted : Listed} (counted_is : counted ≡ counted_of trial.refusal (set_entries schedule (Change k) (files_in s (Change k) f)) room) {then : List ℕ} (then_is : then ≡ unless_refused trial.refusal (set_listed schedule (Change k) (files_in s (Change k) f) work) work) where
      pub try-refused : (counted.refusal ≡ 0 → ⊥) → {r : Listed} → r ≡ refused_by counted.refusal → TryEnds r handed then
      unfolding try_listed files_in
      try-refused some r-is = ends-refused schedule (Change k) (files_after s k f) (length work) handed handed (tried schedule s k f handed) room work (sym fault-is ∙ none) (try-first s k f handed trial-is) counted_is (try-form schedule s k f handed) (try-not-8 schedule s k f handed) some r-is refl then_is

      pub try-fine : counted.refusal ≡ 0 → length then ≡ length work → {made : Made} → made ≡ made_of (tried_in (gate_called Schedule) s k f (length then) handed) → {r : Listed} → r ≡ record { refusal = made.refusal; length = made.length; entries = counted.entries }
          → {marks : Marks} → marks ≡ (tried_in (gate_called Schedule) s k f (length then) handed).marks → {last : List ℕ} → last ≡ change_left (gate_called Schedule) s k f made.refusal then → TryEnds r marks last
      unfolding try_listed files_in gate_called change_left
      try-fine fine long made-is r-is m-is last-is =
          let is = lent-try schedule (length then) handed (room-then schedule handed work (sym fault-is ∙ none) then long) s k f in
          ends-fine schedule (Change k) (files_after s k f) (length work) handed handed (tried schedule s k f handed) room work (sym fault-is ∙ none) (try-first s k f handed trial-is) counted_is fine (made-is ∙ ap made_of is) r-is (m-is ∙ ap (λ x. x.marks) is) then_is last-is

  -- a change that is made has an output too
  module _ (out : List ℕ) where
    abbrev MakeEnds : Listed → Marks → List ℕ → List ℕ → Type 0
    MakeEnds r marks put last =
        let told = make_listed schedule s k f (length out) (length work) room handed in
        (r ≡ listed_of (set_entries schedule (Change k) (files_after s k f)) told)
        × ((marks ≡ told.marks) × ((put ≡ output_after schedule r.refusal (files_after s k f) out) × (last ≡ list_left schedule (Change k) (files_after s k f) r.refusal work)))

    with-output : {r : Listed} {marks : Marks} {put last : List ℕ} → ChangeEnds (make_listed schedule s k f (length out) (length work) room handed) r marks last → put ≡ output_after schedule r.refusal (files_after s k f) out → MakeEnds r marks put last
    with-output e o = (e.0, (e.1.0, (o, e.1.1)))

    out-kept : {c : ℕ} → (c ≡ 0 → ⊥) → {r : Listed} → r ≡ refused_by c → out ≡ output_after schedule r.refusal (files_after s k f) out
    unfolding refused_by
    out-kept some {r} r-is = out-refused s k f handed out r.refusal (λ z. some (sym (ap (λ (x : Listed). x.refusal) r-is) ∙ z))

    pub make-lent : (fault ≡ 0 → ⊥) → {r : Listed} → r ≡ refused_by fault → MakeEnds r handed out work
    unfolding make_listed
    make-lent some r-is = with-output (ends-lent schedule (Change k) (files_after s k f) (length work) handed handed (change_made schedule s k f handed (length out)) room work refl fault-is some r-is) (out-kept some r-is)

    module _ (none : fault ≡ 0) {trial : Made} (trial-is : trial ≡ tried_bundle 20 s k f) {first : ℕ} (first-is : first ≡ cond (eqb trial.refusal 0) (cond (ltb (length out) trial.length) 5 0) trial.refusal) where
      module _ {counted : Listed} (counted_is : counted ≡ counted_of first (set_entries schedule (Change k) (files_in s (Change k) f)) room) {then : List ℕ} (then_is : then ≡ unless_refused first (set_listed schedule (Change k) (files_in s (Change k) f) work) work) where
        pub make-refused : (counted.refusal ≡ 0 → ⊥) → {r : Listed} → r ≡ refused_by counted.refusal → MakeEnds r handed out then
        unfolding make_listed files_in
        make-refused some r-is = with-output (ends-refused schedule (Change k) (files_after s k f) (length work) handed handed (change_made schedule s k f handed (length out)) room work (sym fault-is ∙ none) (make-first s k f handed trial-is (length out) first-is) counted_is (make-form schedule s k f handed (length out)) (make-not-8 schedule s k f handed (length out)) some r-is refl then_is) (out-kept some r-is)

        pub make-fine : counted.refusal ≡ 0 → length then ≡ length work → {made : Made} → made ≡ made_of (made_in (gate_called Schedule) s k f (length out) (length then) handed) → {r : Listed} → r ≡ record { refusal = made.refusal; length = made.length; entries = counted.entries }
            → {marks : Marks} → marks ≡ (made_in (gate_called Schedule) s k f (length out) (length then) handed).marks → {put : List ℕ} → put ≡ output_in (gate_called Schedule) s k f (length then) handed out → {last : List ℕ} → last ≡ change_left (gate_called Schedule) s k f made.refusal then → MakeEnds r marks put last
        unfolding make_listed files_in gate_called change_left made_of
        make-fine fine long made-is {r} r-is m-is put_is last-is =
            let no-fault = sym fault-is ∙ none in
            let has = room-then schedule handed work no-fault then long in
            let is = lent-make schedule (length then) handed has s k f (length out) in
            let first_of = make-first s k f handed trial-is (length out) first-is in
            let whole = whole-fine schedule (Change k) (files_after s k f) (length work) handed handed (change_made schedule s k f handed (length out)) room work no-fault first_of counted_is fine in
            with-output
            (ends-fine schedule (Change k) (files_after s k f) (length work) handed handed (change_made schedule s k f handed (length out)) room work no-fault first_of counted_is fine (made-is ∙ ap made_of is) r-is (m-is ∙ ap (λ x. x.marks) is) then_is last-is)
            (out-made s k f handed out (length then) has whole r.refusal (ap (λ (x : Listed). x.refusal) r-is ∙ ap (λ (x : Made). x.refusal) (made-is ∙ ap made_of is) ∙ whole) put_is)
