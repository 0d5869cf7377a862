-- The joined set as its files are put down, and what a call answers a desk, as the code comes to it.
-- Assumes nothing.
use Prim.Native.Nat.{ℕ, ◌+◌, ◌-◌, ◌/◌, ◌≤◌, ◌<◌}
use mathlib.Core.Path.{◌≡◌, refl, sym, ap, ◌∙◌}
use mathlib.Core.Bool.{Bool, true, false, cond, true≢false}
use mathlib.Core.List.{List}
use native.Mathlib.Omega.{arith}
use borrow.Author.Count.{below_more}
use borrow.Author.Tests.{eq-eqb, ne_eqb, eqb-true, eqb-false}
use lib.ListN.{length}
use lib.Seq.{take_all}
use lib.Dec.{ltb, eqb}
use Rattle.parts.specs.Part.{part_of}
use Rattle.parts.proofs.Laws.{part-is}
use Rattle.parts.specs.Files.{File, Left, Given, new_file}
use Rattle.standing.specs.Standing.{slice_of, standing, standing_with}
use Rattle.standing.proofs.Laws.{slice_first, slice-second, slice-third, placed-length, placed-fits, placed-there, placed-nowhere, placed-other}
use Rattle.mark_numbers.specs.Marks.{Marks, fresh_marks, fresh_over}
use Rattle.mark_numbers.proofs.Laws.{Long, lists-long, fresh-over}
use Rattle.bundle_bytes.specs.Pieces.{changed}
use Rattle.bundle_bytes.proofs.Laws.{changed-miss, changed-same}
use Rattle.bundle_layout.specs.Bundle.{offset_at, length_at, is_omitted, part_at, file_at}
use Rattle.gate_marks.specs.declared.Scope.{Scope}
use Rattle.gate_marks.specs.declared.Scope.TheVariants.{Full, Change}
use Rattle.gate_marks.specs.Gate.{Gate, marks_of}
use Rattle.gate_marks.specs.Marks.{full_marks}
use Rattle.gate_marks.specs.Again.{room_is_there, has_lists, marks_after, work_afterwards, work_judged}
use Rattle.gate_calls.specs.Calls.{changed_marks}
use Rattle.gate_calls.specs.Lent.{lent_fault, work_left}
use Rattle.gate_lists.proofs.Answers.{judged-marks, judged-work, all_new, change-new, work-untouched, work-judged, lists-even}
use Rattle.desks_calls.specs.declared.Seen.{Seen}
use Rattle.desks_calls.specs.declared.Seen.TheVariants.{Nothing, Own, Shared}
use Rattle.desks_calls.specs.Join.{is_shared, joined_set, or_else, join_fault, judged_by}
use Rattle.desks_calls.specs.Desks.{Sight, NoChange, OwnChange, CalendarChange, sight_of, sight_fault, desk_fault, join_after, marks_seen, answered_by}
use Rattle.desks_calls.specs.Lent.{judged_join_in, desk_in, join_left, desk_left}
use Rattle.desks_calls.proofs.Laws.{either-none, first_some, first-none, desk-none, changed-file}
use Rattle.desk_lists.specs.Seen.{is_seen}

-- ---- the joined set, one file after the other
abbrev pub Stands : List ℕ → List ℕ → List ℕ → ℕ → Type 0
Stands desk shared stand n = (new : List ℕ) (i : ℕ) → i < n → standing desk shared new stand i ≡ joined_set desk shared i

-- as the code puts one down
pub put_as : (list s : List ℕ) (number k : ℕ) {which from size : ℕ} {omitted : Bool} {last : List ℕ} → omitted ≡ is_omitted s k → which ≡ cond omitted 0 number → from ≡ offset_at s k → size ≡ length_at s k
    → last ≡ cond (ltb k (length list / 3)) (standing_with list k which from (from + size)) list → last ≡ cond (ltb k (length list / 3)) (standing_with list k (cond (is_omitted s k) 0 number) (offset_at s k) (offset_at s k + length_at s k)) list
put_as list s number k o w f z e = e ∙ rw (w, o, f, z)

module _ (desk shared list last s : List ℕ) (number k : ℕ) (room : k < length list / 3)
    (put : last ≡ cond (ltb k (length list / 3)) (standing_with list k (cond (is_omitted s k) 0 number) (offset_at s k) (offset_at s k + length_at s k)) list) where
  put_is : last ≡ standing_with list k (cond (is_omitted s k) 0 number) (offset_at s k) (offset_at s k + length_at s k)
  put_is = put ∙ placed-fits list k _ _ _ room

  pub stand-long : length last ≡ length list
  stand-long = ap length put_is ∙ placed-length list k _ _ _

  -- a file that was put down, from the bundle whose slice has that number
  stand-there : (number ≡ 0 → ⊥) → (new : List ℕ) → slice_of desk shared new number ≡ s → standing desk shared new last k ≡ file_at s k
  unfolding file_at part_at
  stand-there some new slice = rw put_is (go (is_omitted s k))
    where
      go : (t : Bool) → standing desk shared new (standing_with list k (cond t 0 number) (offset_at s k) (offset_at s k + length_at s k)) k ≡ cond t Left (Given (part_of s (offset_at s k) (offset_at s k + length_at s k)))
      go true = placed-nowhere list k 0 _ _ room desk shared new refl
      go false = placed-there list k number _ _ room desk shared new some ∙ ap (λ a. Given (part_of a (offset_at s k) (offset_at s k + length_at s k))) slice

  stand-next : (number ≡ 0 → ⊥) → ((new : List ℕ) → slice_of desk shared new number ≡ s) → file_at s k ≡ joined_set desk shared k → Stands desk shared list k → Stands desk shared last (k + 1)
  stand-next some slice is before new =
      below_more (λ i. standing desk shared new last i ≡ joined_set desk shared i) k
      (λ i l. rw put_is (placed-other list k _ _ _ desk shared new i (λ e. omega arith) ∙ before new i l))
      (stand-there some new (slice new) ∙ is)

module _ (desk shared list last : List ℕ) (k : ℕ) (room : k < length list / 3) (before : Stands desk shared list k) {t : Bool} (t-is : t ≡ is_shared k) where
  pub stand-shared : t ≡ true → last ≡ cond (ltb k (length list / 3)) (standing_with list k (cond (is_omitted shared k) 0 2) (offset_at shared k) (offset_at shared k + length_at shared k)) list → Stands desk shared last (k + 1)
  unfolding joined_set
  stand-shared e put =
      stand-next desk shared list last shared 2 k room put (λ z. omega arith) (λ new. slice-second desk shared new 2 refl) (rw (← t-is, e)) before

  pub stand-own : t ≡ false → last ≡ cond (ltb k (length list / 3)) (standing_with list k (cond (is_omitted desk k) 0 1) (offset_at desk k) (offset_at desk k + length_at desk k)) list → Stands desk shared last (k + 1)
  unfolding joined_set
  stand-own e put =
      stand-next desk shared list last desk 1 k room put (λ z. omega arith) (λ new. slice_first desk shared new 1 refl) (rw (← t-is, e)) before

-- ---- after a change of file k it stands whole in the third slice, or nowhere
whole_part : (new : List ℕ) → part_of new 0 (length new) ≡ new
whole_part new =
    let n : length new - 0 ≡ length new = omega arith in
    part-is new 0 (length new) (omega arith) (omega arith) ∙ rw n (take_all (length new) new (omega arith))

module _ (desk shared new list last : List ℕ) {which : ℕ} (k : ℕ) (present : Bool) (room : 20 ≤ length list / 3) (small : k < 20) (before : Stands desk shared list 20)
    (which-is : which ≡ cond present 3 0) (put : last ≡ cond (ltb k (length list / 3)) (standing_with list k which 0 (length new)) list) where
  new-put : last ≡ standing_with list k (cond present 3 0) 0 (length new)
  new-put = put ∙ placed-fits list k which 0 (length new) (omega arith) ∙ rw which-is

  new-there : standing desk shared new (standing_with list k (cond present 3 0) 0 (length new)) k ≡ new_file present new
  unfolding new_file
  new-there = go present
    where
      long : k < length list / 3
      long = omega arith

      go : (t : Bool) → standing desk shared new (standing_with list k (cond t 3 0) 0 (length new)) k ≡ cond t (Given new) Left
      go true =
          placed-there list k 3 0 (length new) long desk shared new (λ e. omega arith) ∙ ap (λ a. Given (part_of a 0 (length new))) (slice-third desk shared new 3 (λ e. omega arith) (λ e. omega arith)) ∙ ap Given (whole_part new)
      go false = placed-nowhere list k 0 0 (length new) long desk shared new refl

  pub change-stands : (i : ℕ) → i < 20 → standing desk shared new last i ≡ changed (joined_set desk shared) k (new_file present new) i
  change-stands i l = rw new-put (go (eqb i k) refl)
    where
      go : (t : Bool) → eqb i k ≡ t → standing desk shared new (standing_with list k (cond present 3 0) 0 (length new)) i ≡ changed (joined_set desk shared) k (new_file present new) i
      go true e = rw (eqb-true i k e) (new-there ∙ sym (changed-same (joined_set desk shared) k (new_file present new)))
      go false e =
          placed-other list k _ _ _ desk shared new i (eqb-false i k e) ∙ before new i l ∙ sym (changed-miss (joined_set desk shared) k (new_file present new) i e)

-- ---- the marks and the workspace, of the files where they stand
module _ (g : Gate) (files-are : g.files ≡ 20) (handed : Marks) (work : List ℕ) (room : lent_fault g (length work) handed ≡ 0)
    (standing files : ℕ → File) (same : (i : ℕ) → i < 20 → standing i ≡ files i) where
  same-below : (i : ℕ) → i < g.files → standing i ≡ files i
  same-below = rw files-are same

  pub change-marks : (k : ℕ) {marks : Marks} → marks ≡ marks_after g (Change k) standing (length work) handed → marks ≡ changed_marks g k files handed
  change-marks k e = judged-marks g (Change k) standing files handed work room same-below e ∙ change-new g k files handed

  pub full-marks : {marks : Marks} → marks ≡ marks_after g Full standing (length work) handed → marks ≡ full_marks g files
  full-marks e = judged-marks g Full standing files handed work room same-below e ∙ all_new g files handed

  pub judged-cells : (scope : Scope) {last : List ℕ} → last ≡ work_afterwards g scope standing handed work → last ≡ work_judged g scope files work
  judged-cells scope e = judged-work g scope standing files handed work room same-below e

module _ (g : Gate) (files-are : g.files ≡ 20) (handed : Marks) (work : List ℕ) (room : lent_fault g (length work) handed ≡ 0) (desk shared new list last : List ℕ) {which : ℕ} (k : ℕ) (present : Bool)
    (fits : 20 ≤ length list / 3) (small : k < 20) (before : Stands desk shared list 20) (which-is : which ≡ cond present 3 0) (put : last ≡ cond (ltb k (length list / 3)) (standing_with list k which 0 (length new)) list) where
  pub again-judged : {marks : Marks} {left : List ℕ} → marks ≡ marks_after g (Change k) (standing desk shared new last) (length work) handed → left ≡ work_afterwards g (Change k) (standing desk shared new last) handed work
      → (marks ≡ changed_marks g k (changed (joined_set desk shared) k (new_file present new)) handed) × (left ≡ work_judged g (Change k) (changed (joined_set desk shared) k (new_file present new)) work)
  again-judged m w =
      let same = change-stands desk shared new list last k present fits small before which-is put in
      (change-marks g files-are handed work room (standing desk shared new last) (changed (joined_set desk shared) k (new_file present new)) same k m, judged-cells g files-are handed work room (standing desk shared new last) (changed (joined_set desk shared) k (new_file present new)) same (Change k) w)

-- ---- what a call answers a desk
module _ (g : Gate) (files-are : g.files ≡ 20) (desk shared : List ℕ) (sight : Sight) (handed : Marks) (work : List ℕ) {fault : ℕ} (is : fault ≡ lent_fault g (length work) handed) where
  abbrev Answered : ℕ → Marks → List ℕ → Type 0
  Answered refusal marks last =
      (refusal ≡ (desk_in g desk shared sight (length work) handed).refusal) × ((marks ≡ (desk_in g desk shared sight (length work) handed).marks) × (last ≡ desk_left g desk shared sight refusal work))

  left_alone : (refusal : ℕ) → (refusal ≡ 0 → ⊥) → work ≡ desk_left g desk shared sight refusal work
  unfolding desk_left
  left_alone refusal n = go sight
    where
      go : (sight : Sight) → work ≡ desk_left g desk shared sight refusal work
      go NoChange = refl
      go (OwnChange k f room) = work-untouched g (Change k) _ work refusal n
      go (CalendarChange k f room) = work-untouched g (Change k) _ work refusal n

  -- by its refusal
  refused-by : {refusal : ℕ} → refusal ≡ or_else (lent_fault g (length work) handed) (desk_fault g.files desk shared sight) → (refusal ≡ 0 → ⊥) → Answered refusal handed work
  unfolding desk_in answered_by
  refused-by {refusal} e n = (e, (rw (← e, ne_eqb refusal 0 n), left_alone refusal n))

  pub not-lent : (fault ≡ 0 → ⊥) → Answered fault handed work
  not-lent n = refused-by (is ∙ sym (first_some (lent_fault g (length work) handed) _ (λ z. n (is ∙ z)))) n

  module _ (lent : fault ≡ 0) {refusal : ℕ} (refusal_is : refusal ≡ desk_fault 20 desk shared sight) where
    whole : refusal ≡ or_else (lent_fault g (length work) handed) (desk_fault g.files desk shared sight)
    whole = refusal_is ∙ rw (← files-are) (sym (first-none (lent_fault g (length work) handed) _ (sym is ∙ lent)))

    pub desk-refused : (refusal ≡ 0 → ⊥) → Answered refusal handed work
    desk-refused n = refused-by whole n

    module _ (fine : refusal ≡ 0) where
      answered-fine : {marks : Marks} {last : List ℕ} → marks ≡ marks_seen g desk shared sight handed → last ≡ desk_left g desk shared sight 0 work → Answered 0 marks last
      unfolding desk_in answered_by
      answered-fine m w = (sym fine ∙ whole, (m ∙ rw (← whole, eq-eqb refusal 0 fine), w))

      pub desk-room : lent_fault g (length work) handed ≡ 0
      desk-room = sym is ∙ lent

-- ---- by whether the desk sees the change
module _ (g : Gate) (desk shared : List ℕ) (k : ℕ) (f : File) (room : ℕ) (handed : Marks) (work : List ℕ) where
  blind-marks : (seen : Seen) → is_seen seen ≡ false → handed ≡ marks_seen g desk shared (sight_of seen k f room) handed
  unfolding is_seen sight_of marks_seen
  blind-marks Nothing e = refl
  blind-marks Own e = absurd (true≢false e)
  blind-marks Shared e = absurd (true≢false e)

  blind-left : (seen : Seen) → is_seen seen ≡ false → work ≡ desk_left g desk shared (sight_of seen k f room) 0 work
  unfolding is_seen sight_of desk_left
  blind-left Nothing e = refl
  blind-left Own e = absurd (true≢false e)
  blind-left Shared e = absurd (true≢false e)

  seen-marks : (seen : Seen) → is_seen seen ≡ true → changed_marks g k (changed (joined_set desk shared) k f) handed ≡ marks_seen g desk shared (sight_of seen k f room) handed
  unfolding is_seen sight_of marks_seen join_after
  seen-marks Nothing e = absurd (true≢false (sym e))
  seen-marks Own e = refl
  seen-marks Shared e = refl

  seen-left : (seen : Seen) → is_seen seen ≡ true → work_judged g (Change k) (changed (joined_set desk shared) k f) work ≡ desk_left g desk shared (sight_of seen k f room) 0 work
  unfolding is_seen sight_of desk_left join_after work_left
  seen-left Nothing e = absurd (true≢false (sym e))
  seen-left Own e = refl
  seen-left Shared e = refl

  seen-file : (n : ℕ) (seen : Seen) → is_seen seen ≡ true → sight_fault n desk shared (sight_of seen k f room) ≡ 0 → k < n
  unfolding is_seen sight_of sight_fault
  seen-file n Nothing e z = absurd (true≢false (sym e))
  seen-file n Own e z = changed-file n false desk k f room z
  seen-file n Shared e z = changed-file n true shared k f room z

module _ (g : Gate) (files-are : g.files ≡ 20) (desk shared : List ℕ) (seen : Seen) (k : ℕ) (f : File) (room : ℕ) (handed : Marks) (work : List ℕ)
    {fault : ℕ} (is : fault ≡ lent_fault g (length work) handed) (lent : fault ≡ 0) {refusal : ℕ} (refusal_is : refusal ≡ desk_fault 20 desk shared (sight_of seen k f room)) (fine : refusal ≡ 0)
    {t : Bool} (t-is : t ≡ is_seen seen) where
  pub desk-blind : t ≡ false → Answered g files-are desk shared (sight_of seen k f room) handed work is 0 handed work
  desk-blind e =
      answered-fine g files-are desk shared (sight_of seen k f room) handed work is lent refusal_is fine (blind-marks g desk shared k f room handed work seen (sym t-is ∙ e)) (blind-left g desk shared k f room handed work seen (sym t-is ∙ e))

  module _ (e : t ≡ true) where
    pub desk-file : k < 20
    desk-file = seen-file g desk shared k f room handed work 20 seen (sym t-is ∙ e) (desk-none 20 desk shared (sight_of seen k f room) (sym refusal_is ∙ fine)).1

    pub desk-judged : {marks : Marks} {last : List ℕ} → marks ≡ changed_marks g k (changed (joined_set desk shared) k f) handed → last ≡ work_judged g (Change k) (changed (joined_set desk shared) k f) work
        → Answered g files-are desk shared (sight_of seen k f room) handed work is 0 marks last
    desk-judged m w =
        answered-fine g files-are desk shared (sight_of seen k f room) handed work is lent refusal_is fine (m ∙ seen-marks g desk shared k f room handed work seen (sym t-is ∙ e)) (w ∙ seen-left g desk shared k f room handed work seen (sym t-is ∙ e))

-- ---- a desk judged in full
module _ (g : Gate) (files-are : g.files ≡ 20) (desk shared : List ℕ) (handed : Marks) (work : List ℕ) {fault : ℕ} (is : fault ≡ lent_fault g (length work) handed) where
  abbrev Judged : ℕ → Marks → List ℕ → Type 0
  Judged refusal marks last =
      (refusal ≡ (judged_join_in g desk shared (length work) handed).refusal) × ((marks ≡ (judged_join_in g desk shared (length work) handed).marks) × (last ≡ join_left g desk shared refusal work))

  lists-there : (t : Bool) → has_lists g handed ≡ t → (fault ≡ 100 → ⊥) → has_lists g handed ≡ true
  unfolding lent_fault
  lists-there true e n = e
  lists-there false e n = absurd (n (is ∙ rw e))

  pub judge-wrong : fault ≡ 100 → Judged 100 handed work
  unfolding judged_join_in join_left work_left lent_fault
  judge-wrong e = go (has_lists g handed) refl
    where
      short : (r : Bool) → ◌≡◌ {A = ℕ} (cond r 0 14) 100 → ⊥
      short true z = omega (arith, z)
      short false z = omega (arith, z)

      go : (t : Bool) → has_lists g handed ≡ t → Judged 100 handed work
      go true q = absurd (short (room_is_there g (length work)) (rw q at (sym is ∙ e)))
      go false q = (rw q, (rw q, refl))

  module _ (right : fault ≡ 100 → ⊥) {refusal : ℕ} (by : refusal ≡ or_else fault (join_fault 20 desk shared)) where
    judged-is : judged_join_in g desk shared (length work) handed ≡ judged_by g refusal desk shared
    unfolding judged_join_in
    judged-is = rw (lists-there (has_lists g handed) refl right, ← is, files-are, ← by)

    long : Long (marks_of g) handed
    unfolding has_lists
    long = lists-long (marks_of g) handed (lists-there (has_lists g handed) refl right)

    pub judge-fresh : (refusal ≡ 0 → ⊥) → {marks : Marks} → marks ≡ fresh_over handed → Judged refusal marks work
    unfolding judged_by join_left
    judge-fresh some m =
        rw judged-is
        (refl, (m ∙ fresh-over handed (lists-even g (length work) handed is right) ∙ ap fresh_marks long.kinds-long ∙ rw (ne_eqb refusal 0 some), work-untouched g Full (joined_set desk shared) work refusal some))

    pub judge-full : refusal ≡ 0 → {marks : Marks} {last : List ℕ} → marks ≡ full_marks g (joined_set desk shared) → last ≡ work_judged g Full (joined_set desk shared) work → Judged 0 marks last
    unfolding judged_by join_left
    judge-full z m w = rw (judged-is, z) (refl, (m, work-judged g Full (joined_set desk shared) work 0 refl w))

    pub judge-room : refusal ≡ 0 → lent_fault g (length work) handed ≡ 0
    judge-room z = sym is ∙ (either-none fault (join_fault 20 desk shared) (sym by ∙ z)).0

    pub judge-all : refusal ≡ 0 → (new stand : List ℕ) → Stands desk shared stand 20 → {marks : Marks} {last : List ℕ}
        → marks ≡ marks_after g Full (standing desk shared new stand) (length work) handed → last ≡ work_afterwards g Full (standing desk shared new stand) handed work → Judged 0 marks last
    judge-all z new stand before m w =
        judge-full z (full-marks g files-are handed work (judge-room z) (standing desk shared new stand) (joined_set desk shared) (before new) m) (judged-cells g files-are handed work (judge-room z) (standing desk shared new stand) (joined_set desk shared) (before new) Full w)
