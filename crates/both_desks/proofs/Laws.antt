-- What a call answers both desks and writes, as the code comes to it.
-- Assumes nothing.
use Prim.Native.Nat.{ℕ}
use mathlib.Core.Path.{◌≡◌, refl, sym, ap, ◌∙◌}
use mathlib.Core.Bool.{Bool, true, false, cond, not, true≢false}
use mathlib.Core.List.{List}
use native.Mathlib.Omega.{arith}
use borrow.Author.Tests.{eq-eqb, ne_eqb}
use lib.ListN.{length}
use lib.Dec.{eqb}
use Rattle.parts.specs.Files.{File}
use Rattle.mark_numbers.specs.Marks.{Marks}
use Rattle.bundle_layout.specs.Bundle.{header_size, bundle_length}
use Rattle.bundle_layout.specs.Change.{files_after, try_fault, make_fault, output_of, output}
use Rattle.bundle_layout.proofs.Laws.{make-none}
use Rattle.bundle.specs.declared.Made.{Made}
use Rattle.bundle.specs.Answers.{change_of, tried_bundle}
use Rattle.gate_marks.specs.Gate.{Gate}
use Rattle.gate_calls.specs.Lent.{lent_fault}
use Rattle.desks_calls.specs.declared.Whose.{Whose}
use Rattle.desks_calls.specs.declared.Seen.{Seen}
use Rattle.desks_calls.specs.Desks.{Sight, sight_of, seen_by_a, seen_by_b, desk_fault, answered_by, bundle_changed, is_written, DesksAnswer, both_answered, output_by}
use Rattle.desks_calls.specs.Lent.{desk_in, desks_in, desks_output_in, desk_left, desks_left}
use Rattle.desks_calls.proofs.Laws.{either-none}
use Rattle.desks_calls.proofs.Whole.{written-made}
use Rattle.both_desks.specs.declared.Refusals.{Refusals}
use Rattle.both_desks.specs.Refusals.{refusals_of}

-- ---- the new bundle's length
pub not_written : (written : Bool) (n : ℕ) → not written ≡ true → 0 ≡ cond written n 0
not_written true n e = absurd (true≢false (sym e))
not_written false n e = refl

pub length-tried : (n : ℕ) (s : List ℕ) (k : ℕ) (f : File) (written : Bool) {made : Made} → not written ≡ false → (written ≡ true → try_fault n s k f ≡ 0) → made ≡ tried_bundle n s k f → made.length ≡ cond written (bundle_length n (files_after s k f)) 0
unfolding tried_bundle change_of
length-tried n s k f true w fine m = ap (λ x. x.length) m ∙ rw (eq-eqb (try_fault n s k f) 0 (fine refl))
length-tried n s k f false w fine m = absurd (true≢false w)

long-bundle : (n : ℕ) (files : ℕ → File) → bundle_length n files ≡ 0 → ⊥
unfolding bundle_length header_size
long-bundle n files e = omega arith

-- ---- a desk that is not refused, whatever is lent
module _ (g : Gate) (desk shared : List ℕ) (sight : Sight) (lent : ℕ) (handed : Marks) where
  in-none : (desk_in g desk shared sight lent handed).refusal ≡ 0 → desk_fault g.files desk shared sight ≡ 0
  unfolding desk_in answered_by
  in-none e = (either-none (lent_fault g lent handed) (desk_fault g.files desk shared sight) e).1

refusals-same : {a b size a' b' size' : ℕ} → a ≡ a' → b ≡ b' → size ≡ size' → ◌≡◌ {A = Refusals} (record { a = a; b = b; size = size }) (record { a = a'; b = b'; size = size' })
refusals-same {a} {b} {size} {a'} {b'} {size'} p q r =
    ap (λ (x : ℕ). record { a = x; b = b; size = size }) p ∙ ap (λ (x : ℕ). record { a = a'; b = x; size = size }) q ∙ ap (λ (x : ℕ). record { a = a'; b = b'; size = x }) r

-- ---- both answers, A's first, and B's in the workspace that A's left
module _ (g : Gate) (files-are : g.files ≡ 20) (a b shared : List ℕ) (handed_a handed_b : Marks) (whose : Whose) (k : ℕ) (f : File) (room : ℕ) (work : List ℕ) where
  abbrev sight_a : Sight
  sight_a = sight_of (seen_by_a whose) k f room

  abbrev sight_b : Sight
  sight_b = sight_of (seen_by_b whose) k f room

  abbrev whole : DesksAnswer
  whole = desks_in g a b shared (length work) handed_a handed_b whose k f room

  module _ {seen_a seen_b : Seen} (seen_a-is : seen_a ≡ seen_by_a whose) (seen_b-is : seen_b ≡ seen_by_b whose) {of_a of_b : ℕ} (work_a : List ℕ) (long : length work_a ≡ length work)
      (of_a-is : of_a ≡ (desk_in g a shared (sight_of seen_a k f room) (length work) handed_a).refusal) (of_b-is : of_b ≡ (desk_in g b shared (sight_of seen_b k f room) (length work_a) handed_b).refusal) where
    a-is : of_a ≡ (desk_in g a shared sight_a (length work) handed_a).refusal
    a-is = of_a-is ∙ ap (λ x. (desk_in g a shared (sight_of x k f room) (length work) handed_a).refusal) seen_a-is

    b-is : of_b ≡ (desk_in g b shared sight_b (length work) handed_b).refusal
    b-is = of_b-is ∙ ap (λ x. (desk_in g b shared (sight_of x k f room) (length work_a) handed_b).refusal) seen_b-is ∙ ap (λ n. (desk_in g b shared sight_b n handed_b).refusal) long

    pub writes : {written : Bool} → written ≡ is_written whose of_a of_b → written ≡ true → {s : List ℕ} → s ≡ bundle_changed whose a b shared → try_fault 20 s k f ≡ 0
    writes w t e =
        ap (λ x. try_fault 20 x k f) e ∙ ap (λ n. try_fault n (bundle_changed whose a b shared) k f) (sym files-are)
        ∙ (make-none g.files (bundle_changed whose a b shared) k f room (written-made g.files a b shared k f room whose (λ z. in-none g a shared sight_a (length work) handed_a (sym a-is ∙ z)) (λ z. in-none g b shared sight_b (length work) handed_b (sym b-is ∙ z)) (sym w ∙ t))).0

    abbrev AllWritten : Bool
    AllWritten = is_written whose (desk_in g a shared sight_a (length work) handed_a).refusal (desk_in g b shared sight_b (length work) handed_b).refusal

    written_is : is_written whose of_a of_b ≡ AllWritten
    written_is = ap (λ n. is_written whose n of_b) a-is ∙ ap (is_written whose (desk_in g a shared sight_a (length work) handed_a).refusal) b-is

    pub both-answered : {written : Bool} → written ≡ is_written whose of_a of_b → {s : List ℕ} → s ≡ bundle_changed whose a b shared → {size : ℕ} → size ≡ cond written (bundle_length 20 (files_after s k f)) 0
        → {marks_a marks_b : Marks} → marks_a ≡ (desk_in g a shared (sight_of seen_a k f room) (length work) handed_a).marks → marks_b ≡ (desk_in g b shared (sight_of seen_b k f room) (length work_a) handed_b).marks
        → work_a ≡ desk_left g a shared (sight_of seen_a k f room) of_a work → {last : List ℕ} → last ≡ desk_left g b shared (sight_of seen_b k f room) of_b work_a
        → (record { a = of_a; b = of_b; size = size } ≡ refusals_of whole) × ((marks_a ≡ whole.a.marks) × ((marks_b ≡ whole.b.marks) × (last ≡ desks_left g a b shared whose k f room of_a of_b work)))
    unfolding refusals_of desks_in both_answered desks_left
    both-answered w {s} s-is size_is m_a m_b w_a w_b = (
      refusals-same a-is b-is (size_is ∙ ap (λ t. cond t (bundle_length 20 (files_after s k f)) 0) (w ∙ written_is) ∙ ap (λ x. cond AllWritten (bundle_length 20 (files_after x k f)) 0) s-is ∙ ap (λ n. cond AllWritten (bundle_length n (files_after (bundle_changed whose a b shared) k f)) 0) (sym files-are)),
      (
        m_a ∙ ap (λ x. (desk_in g a shared (sight_of x k f room) (length work) handed_a).marks) seen_a-is,
        (
          m_b ∙ ap (λ x. (desk_in g b shared (sight_of x k f room) (length work_a) handed_b).marks) seen_b-is ∙ ap (λ n. (desk_in g b shared sight_b n handed_b).marks) long,
          w_b ∙ ap (λ x. desk_left g b shared (sight_of x k f room) of_b work_a) seen_b-is ∙ ap (desk_left g b shared sight_b of_b) (w_a ∙ ap (λ x. desk_left g a shared (sight_of x k f room) of_a work) seen_a-is),
        ),
      ),
    )

-- ---- what is written
module _ (g : Gate) (files-are : g.files ≡ 20) (a b shared : List ℕ) (handed_a handed_b : Marks) (whose : Whose) (k : ℕ) (f : File) (lent : ℕ) (out : List ℕ) where
  abbrev all : DesksAnswer
  all = desks_in g a b shared lent handed_a handed_b whose k f (length out)

  abbrev changed_one : List ℕ
  changed_one = bundle_changed whose a b shared

  made : is_written whose all.a.refusal all.b.refusal ≡ true → make_fault g.files changed_one k f (length out) ≡ 0
  unfolding desks_in both_answered
  made w =
      written-made g.files a b shared k f (length out) whose (in-none g a shared (sight_of (seen_by_a whose) k f (length out)) lent handed_a) (in-none g b shared (sight_of (seen_by_b whose) k f (length out)) lent handed_b) w

  size_is : all.size ≡ cond (is_written whose all.a.refusal all.b.refusal) (bundle_length g.files (files_after changed_one k f)) 0
  unfolding desks_in both_answered
  size_is = refl

  by_size : cond (eqb all.size 0) out (output g.files changed_one k f out) ≡ cond (is_written whose all.a.refusal all.b.refusal) (output_of g.files (files_after changed_one k f) out) out
  unfolding output
  by_size = rw size_is (go (is_written whose all.a.refusal all.b.refusal) refl)
    where
      go : (t : Bool) → is_written whose all.a.refusal all.b.refusal ≡ t → cond (eqb (cond t (bundle_length g.files (files_after changed_one k f)) 0) 0) out (cond (eqb (make_fault g.files changed_one k f (length out)) 0) (output_of g.files (files_after changed_one k f) out) out) ≡ cond t (output_of g.files (files_after changed_one k f) out) out
      go true w =
          rw (ne_eqb (bundle_length g.files (files_after changed_one k f)) 0 (long-bundle g.files (files_after changed_one k f)), eq-eqb (make_fault g.files changed_one k f (length out)) 0 (made w))
      go false w = refl

  pub written_out : {answer : Refusals} → answer ≡ refusals_of all → {s : List ℕ} → s ≡ changed_one → {last : List ℕ}
      → last ≡ cond (eqb answer.size 0) out (output 20 s k f out) → last ≡ desks_output_in g a b shared lent handed_a handed_b whose k f out
  unfolding refusals_of desks_output_in output_by
  written_out {answer} is {s} s-is e =
      e ∙ ap (λ (x : Refusals). cond (eqb x.size 0) out (output 20 s k f out)) is
      ∙ ap (λ x. cond (eqb all.size 0) out (output 20 x k f out)) s-is
      ∙ ap (λ n. cond (eqb all.size 0) out (output n changed_one k f out)) (sym files-are)
      ∙ by_size
