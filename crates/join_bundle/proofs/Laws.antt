-- The desk's bundle with files 6, 7 and 8 of the shared one put in, one after the other, is the bundle of the joined set.
-- Assumes nothing.
use Prim.Native.Nat.{ℕ, ◌+◌, ◌-◌, ◌≤◌, ◌<◌}
use mathlib.Core.Path.{◌≡◌, refl, sym, ap, ◌∙◌}
use mathlib.Core.Bool.{Bool, true, false, cond, not, ◌&&◌, true≢false}
use mathlib.Core.List.{List, ◌++◌}
use native.Mathlib.Nat.{sub-zero}
use native.Mathlib.Omega.{arith}
use borrow.Author.Tests.{eqb-true, eqb-false, leb-true, eq-eqb, ne_eqb, le-leb, lt-leb}
use lib.ListN.{length, take, drop, length-append}
use lib.Dec.{eqb, leb}
use Rattle.parts.specs.Part.{part_of}
use Rattle.parts.specs.Files.{File, Left, Given, is_present, bytes_of, new_file}
use Rattle.parts.proofs.Laws.{part-is}
use Rattle.bundle_bytes.specs.Pieces.{changed}
use Rattle.bundle_bytes.proofs.Laws.{start_of-same, start-changed}
use Rattle.bundle_layout.specs.Bundle.{is_omitted, bundle_fault, part_at, file_at, pieces_of, bundle_of, bundle_length}
use Rattle.bundle_layout.specs.Change.{files_after, try_fault, make_fault, output_of, output}
use Rattle.bundle_layout.proofs.Laws.{bundle-length, fault-size, end-within, part_length, valid-length, length-after, try-fine, try-make}
use Rattle.bundle_layout.proofs.RoundTrip.{bundle-same, length-same, read_back, bundle-accepted, after-change, output-made, output-read}
use Rattle.bundle.specs.declared.Made.{Made}
use Rattle.bundle.specs.Answers.{change_of, made_bundle}
use Rattle.gate_marks.specs.Gate.{Gate}
use Rattle.gate_marks.specs.Marks.{full_marks}
use Rattle.gate_calls.specs.Calls.{judgement}
use Rattle.gate_calls.proofs.Demand3.{full-same, judged}
use Rattle.desks_calls.specs.Join.{is_shared, may_hold, holds_only, joined_set, join_fault}
use Rattle.desks_calls.proofs.Laws.{Joined, join-none}
use Rattle.desk_refusals.proofs.Laws.{holds_not}
use Rattle.join_bundle.specs.Joined.{is_join_written, length_joined, output_joined}

-- ---- a file of a bundle, put down again
pub file-again : (s : List ℕ) (k : ℕ) → new_file (not (is_omitted s k)) (bytes_of (file_at s k)) ≡ file_at s k
unfolding new_file file_at bytes_of
file-again s k = go (is_omitted s k)
  where
    go : (t : Bool) → cond (not t) (Given (bytes_of (cond t Left (Given (part_at s k))))) Left ≡ cond t Left (Given (part_at s k))
    go true = refl
    go false = refl

-- as the code puts it into another
pub put-file : (s shared out : List ℕ) (k : ℕ) {t : Bool} {bytes : List ℕ} → t ≡ is_omitted shared k → bytes ≡ bytes_of (file_at shared k) → {made : Made} {last : List ℕ}
    → (made ≡ made_bundle 20 s k (new_file (not t) bytes) (length out)) × (last ≡ output 20 s k (new_file (not t) bytes) out)
    → (made.length ≡ (made_bundle 20 s k (file_at shared k) (length out)).length) × (last ≡ output 20 s k (file_at shared k) out)
put-file s shared out k {t} {bytes} t-is b-is (m, o) =
    let e : new_file (not t) bytes ≡ file_at shared k = rw (t-is, b-is) (file-again shared k) in
    (ap (λ (x : Made). x.length) (m ∙ ap (λ f. made_bundle 20 s k f (length out)) e), o ∙ ap (λ f. output 20 s k f out) e)

-- ---- a desk's bundle has no byte of the shared files
not-held : (desk : List ℕ) (k : ℕ) → k < 20 → is_shared k ≡ true → holds_only false (file_at desk) 20 ≡ true → length (bytes_of (file_at desk k)) ≡ 0
unfolding may_hold bytes_of is_present
not-held desk k l common only = go (file_at desk k) refl
  where
    go : (f : File) → file_at desk k ≡ f → length (bytes_of f) ≡ 0
    go Left e = refl
    go (Given bytes) e =
        absurd (true≢false (sym only ∙ sym (holds_not false (file_at desk) 20 k l (rw (e, common)))))

-- ---- a file put into a bundle that has no byte of it
module _ (s : List ℕ) (k : ℕ) (f : File) (fine : bundle_fault 20 s ≡ 0) (l : k < 20) (free : length (bytes_of (file_at s k)) ≡ 0) (short : length s + length (bytes_of f) ≤ 1048576) where
  abbrev next : List ℕ
  next = bundle_of 20 (files_after s k f)

  length-is : bundle_length 20 (files_after s k f) ≡ length s + length (bytes_of f)
  length-is = omega (arith, length-after 20 s fine k f l, free)

  tries : try_fault 20 s k f ≡ 0
  tries = try-fine 20 s k f fine l (omega (arith, length-is))

  makes : (room : ℕ) → length s + length (bytes_of f) ≤ room → make_fault 20 s k f room ≡ 0
  makes room r = try-make 20 s k f room (omega (arith, length-is)) ∙ tries

  next-long : length next ≡ length s + length (bytes_of f)
  next-long = bundle-length 20 (files_after s k f) ∙ length-is

  next-fine : bundle_fault 20 next ≡ 0
  next-fine = (after-change 20 s k f tries).0

  next-files : (i : ℕ) → i < 20 → file_at next i ≡ files_after s k f i
  next-files = (after-change 20 s k f tries).1

  -- what stands at the front of the output is that bundle
  next-read : (out : List ℕ) → length s + length (bytes_of f) ≤ length out → {n : ℕ} → n ≡ (made_bundle 20 s k f (length out)).length → {last : List ℕ} → last ≡ output 20 s k f out → {t : List ℕ} → t ≡ part_of last 0 n → t ≡ next
  unfolding made_bundle change_of
  next-read out room {n} n-is {last} last-is {t} t-is =
      let fault = makes (length out) room in
      let long : n ≡ bundle_length 20 (files_after s k f) = n-is ∙ rw (eq-eqb (make_fault 20 s k f (length out)) 0 fault) in
      let whole : last ≡ next ++ drop (bundle_length 20 (files_after s k f)) out = last-is ∙ output-made 20 s k f out fault in
      let fits : n ≤ length last = omega (arith, ap length whole ∙ length-append next (drop (bundle_length 20 (files_after s k f)) out), next-long, long, length-is) in
      t-is ∙ part-is last 0 n (omega arith) fits ∙ ap (λ m. take m last) (sub-zero n ∙ long) ∙ ap (take (bundle_length 20 (files_after s k f))) last-is ∙ output-read 20 s k f out fault

-- ---- the joined set is the desk's files with three changed
module _ (desk shared : List ℕ) where
  abbrev six : ℕ → File
  six = changed (file_at desk) 6 (file_at shared 6)

  abbrev seven : ℕ → File
  seven = changed six 7 (file_at shared 7)

  abbrev eight : ℕ → File
  eight = changed seven 8 (file_at shared 8)

  set-joined : (i : ℕ) → eight i ≡ joined_set desk shared i
  unfolding joined_set is_shared changed
  set-joined i = go (eqb i 8) (eqb i 7) (eqb i 6) refl refl refl
    where
      outside : (i ≡ 8 → ⊥) → (i ≡ 7 → ⊥) → (i ≡ 6 → ⊥) → (leb 6 i && leb i 8) ≡ false
      outside p q r = test (leb 6 i) (leb i 8) refl refl
        where
          test : (t u : Bool) → leb 6 i ≡ t → leb i 8 ≡ u → (t && u) ≡ false
          test true true a b = absurd (omega (arith, leb-true 6 i a, leb-true i 8 b, p, q, r))
          test true false a b = refl
          test false u a b = refl

      go : (t u v : Bool) → eqb i 8 ≡ t → eqb i 7 ≡ u → eqb i 6 ≡ v → cond t (file_at shared 8) (cond u (file_at shared 7) (cond v (file_at shared 6) (file_at desk i))) ≡ cond (leb 6 i && leb i 8) (file_at shared i) (file_at desk i)
      go true u v a b c = rw (eqb-true i 8 a)
      go false true v a b c = rw (eqb-true i 7 b)
      go false false true a b c = rw (eqb-true i 6 c)
      go false false false a b c = rw (outside (eqb-false i 8 a) (eqb-false i 7 b) (eqb-false i 6 c))

-- one file changed, the length of the bundle changes by it
pieces-changed : (files : ℕ → File) (k : ℕ) (f : File) (i : ℕ) → pieces_of (changed files k f) i ≡ changed (pieces_of files) k (bytes_of f) i
unfolding pieces_of changed
pieces-changed files k f i = go (eqb i k)
  where
    go : (t : Bool) → bytes_of (cond t f (files i)) ≡ cond t (bytes_of f) (bytes_of (files i))
    go true = refl
    go false = refl

length-changed : (files : ℕ → File) (k : ℕ) (f : File) → k < 20 → bundle_length 20 (changed files k f) + length (bytes_of (files k)) ≡ bundle_length 20 files + length (bytes_of f)
unfolding bundle_length pieces_of
length-changed files k f l =
    omega (arith, start_of-same (pieces_of (changed files k f)) (changed (pieces_of files) k (bytes_of f)) 20 (λ i h. pieces-changed files k f i), start-changed (pieces_of files) k (bytes_of f) 20 l)

changed-alike : (files others : ℕ → File) (k : ℕ) (f : File) (i : ℕ) → files i ≡ others i → changed files k f i ≡ changed others k f i
unfolding changed
changed-alike files others k f i e = ap (cond (eqb i k) f) e

-- ---- bundles that are not refused
module _ (desk shared : List ℕ) (fine : join_fault 20 desk shared ≡ 0) where
  abbrev both : Joined 20 desk shared
  both = join-none 20 desk shared fine

  abbrev size : ℕ → ℕ
  size k = length (bytes_of (file_at shared k))

  pub size_small : (k : ℕ) → k < 20 → size k ≤ 1048576
  size_small k l =
      omega (arith, part_length 20 shared both.common k l, end-within 20 shared both.common k l, (fault-size 20 shared both.common).1)

  pub desk-small : length desk ≤ 1048576
  desk-small = (fault-size 20 desk both.own).1

  free : (k : ℕ) → k < 20 → is_shared k ≡ true → length (bytes_of (file_at desk k)) ≡ 0
  free k l common = not-held desk k l common both.own-only

  pub length-joined : bundle_length 20 (joined_set desk shared) ≡ length desk + size 6 + size 7 + size 8
  unfolding changed is_shared
  length-joined =
      sym (length-same 20 (eight desk shared) (joined_set desk shared) (λ i h. set-joined desk shared i))
      ∙ omega (arith, length-changed (file_at desk) 6 (file_at shared 6) (omega arith), length-changed (six desk shared) 7 (file_at shared 7) (omega arith), length-changed (seven desk shared) 8 (file_at shared 8) (omega arith), valid-length 20 desk both.own, free 6 (omega arith) refl, free 7 (omega arith) refl, free 8 (omega arith) refl)

  -- as the code sums it up, from parts of the shared bundle
  pub part_small : (k : ℕ) → k < 20 → {p : List ℕ} → p ≡ bytes_of (file_at shared k) → length p ≤ 1048576
  part_small k l e = omega (arith, ap length e, size_small k l)

  pub summed : {p q r : List ℕ} → p ≡ bytes_of (file_at shared 6) → q ≡ bytes_of (file_at shared 7) → r ≡ bytes_of (file_at shared 8) → length desk + length p + length q + length r ≡ bundle_length 20 (joined_set desk shared)
  summed e f g = omega (arith, length-joined, ap length e, ap length f, ap length g)

  -- ---- put in one after the other
  module _ (short : bundle_length 20 (joined_set desk shared) ≤ 1048576) where
    sum-short : length desk + size 6 + size 7 + size 8 ≤ 1048576
    sum-short = omega (arith, length-joined)

    abbrev one : List ℕ
    one = bundle_of 20 (files_after desk 6 (file_at shared 6))

    free-6 : length (bytes_of (file_at desk 6)) ≡ 0
    unfolding is_shared
    free-6 = free 6 (omega arith) refl

    short-6 : length desk + size 6 ≤ 1048576
    short-6 = omega (arith, sum-short)

    one-fine : bundle_fault 20 one ≡ 0
    one-fine = next-fine desk 6 (file_at shared 6) both.own (omega arith) free-6 short-6

    one-long : length one ≡ length desk + size 6
    one-long = next-long desk 6 (file_at shared 6) both.own (omega arith) free-6 short-6

    one-files : (i : ℕ) → i < 20 → file_at one i ≡ six desk shared i
    unfolding files_after
    one-files = next-files desk 6 (file_at shared 6) both.own (omega arith) free-6 short-6

    free-7 : length (bytes_of (file_at one 7)) ≡ 0
    unfolding changed is_shared
    free-7 = ap (λ f. length (bytes_of f)) (one-files 7 (omega arith)) ∙ free 7 (omega arith) refl

    short-7 : length one + size 7 ≤ 1048576
    short-7 = omega (arith, sum-short, one-long)

    abbrev two : List ℕ
    two = bundle_of 20 (files_after one 7 (file_at shared 7))

    two-fine : bundle_fault 20 two ≡ 0
    two-fine = next-fine one 7 (file_at shared 7) one-fine (omega arith) free-7 short-7

    two-long : length two ≡ length desk + size 6 + size 7
    two-long = omega (arith, next-long one 7 (file_at shared 7) one-fine (omega arith) free-7 short-7, one-long)

    two-files : (i : ℕ) → i < 20 → file_at two i ≡ seven desk shared i
    unfolding files_after
    two-files i l = next-files one 7 (file_at shared 7) one-fine (omega arith) free-7 short-7 i l ∙ changed-alike (file_at one) (six desk shared) 7 (file_at shared 7) i (one-files i l)

    free-8 : length (bytes_of (file_at two 8)) ≡ 0
    unfolding changed is_shared
    free-8 = ap (λ f. length (bytes_of f)) (two-files 8 (omega arith)) ∙ free 8 (omega arith) refl

    short-8 : length two + size 8 ≤ 1048576
    short-8 = omega (arith, sum-short, two-long)

    three-files : (i : ℕ) → i < 20 → files_after two 8 (file_at shared 8) i ≡ joined_set desk shared i
    unfolding files_after
    three-files i l = changed-alike (file_at two) (seven desk shared) 8 (file_at shared 8) i (two-files i l) ∙ set-joined desk shared i

    pub one-read : (out : List ℕ) → length out ≡ 1048576 → {n : ℕ} → n ≡ (made_bundle 20 desk 6 (file_at shared 6) (length out)).length → {last : List ℕ} → last ≡ output 20 desk 6 (file_at shared 6) out → {t : List ℕ} → t ≡ part_of last 0 n → t ≡ one
    one-read out room = next-read desk 6 (file_at shared 6) both.own (omega arith) free-6 short-6 out (omega (arith, short-6, room))

    pub two-read : (out : List ℕ) → length out ≡ 1048576 → {n : ℕ} → n ≡ (made_bundle 20 one 7 (file_at shared 7) (length out)).length → {last : List ℕ} → last ≡ output 20 one 7 (file_at shared 7) out → {t : List ℕ} → t ≡ part_of last 0 n → t ≡ two
    two-read out room = next-read one 7 (file_at shared 7) one-fine (omega arith) free-7 short-7 out (omega (arith, short-7, room))

    pub three-written : (out : List ℕ) → bundle_length 20 (joined_set desk shared) ≤ length out → output 20 two 8 (file_at shared 8) out ≡ output_of 20 (joined_set desk shared) out
    unfolding output_of
    three-written out room =
        output-made 20 two 8 (file_at shared 8) out (makes two 8 (file_at shared 8) two-fine (omega arith) free-8 short-8 (length out) (omega (arith, room, length-joined, two-long)))
        ∙ rw (bundle-same 20 (files_after two 8 (file_at shared 8)) (joined_set desk shared) three-files, length-same 20 (files_after two 8 (file_at shared 8)) (joined_set desk shared) three-files)

    -- as the code has it, with what stands before each of the last two calls
    pub all-written : (first second out : List ℕ) → length first ≡ 1048576 → length second ≡ 1048576 → bundle_length 20 (joined_set desk shared) ≤ length out
        → {n m : ℕ} {first_now second_now last s t : List ℕ}
        → (n ≡ (made_bundle 20 desk 6 (file_at shared 6) (length first)).length) × (first_now ≡ output 20 desk 6 (file_at shared 6) first) → s ≡ part_of first_now 0 n
        → (m ≡ (made_bundle 20 s 7 (file_at shared 7) (length second)).length) × (second_now ≡ output 20 s 7 (file_at shared 7) second) → t ≡ part_of second_now 0 m
        → last ≡ output 20 t 8 (file_at shared 8) out
        → last ≡ output_of 20 (joined_set desk shared) out
    all-written first second out lf ls room (a, b) s-is (c, d) t-is e =
        let s-one = one-read first lf a b s-is in
        let t-two = two-read second ls (c ∙ ap (λ x. (made_bundle 20 x 7 (file_at shared 7) (length second)).length) s-one) (d ∙ ap (λ x. output 20 x 7 (file_at shared 7) second) s-one) t-is in
        e ∙ ap (λ x. output 20 x 8 (file_at shared 8) out) t-two ∙ three-written out room

-- ---- a bundle of a set's files is judged as the set is
pub joined-marks : (g : Gate) (files : ℕ → File) → bundle_length g.files files ≤ 1048576 → (judgement g (bundle_of g.files files)).marks ≡ full_marks g files
joined-marks g files short =
    ap (λ x. x.marks) (judged g (bundle_of g.files files) (bundle-accepted g.files files short))
    ∙ full-same g (file_at (bundle_of g.files files)) files (λ i l. read_back g.files files (omega (arith, short)) i l)

-- ---- how the whole call ends
module _ (desk shared out : List ℕ) where
  abbrev Ends : ℕ → List ℕ → Type 0
  Ends r last = (r ≡ length_joined desk shared (length out)) × (last ≡ output_joined desk shared out)

  pub ends-refused : {f : ℕ} → f ≡ join_fault 20 desk shared → (f ≡ 0 → ⊥) → Ends 0 out
  unfolding is_join_written length_joined output_joined
  ends-refused is some = rw (← is, ne_eqb _ 0 some) (refl, refl)

  module _ {f : ℕ} (is : f ≡ join_fault 20 desk shared) (none : f ≡ 0) {n : ℕ} (n-is : n ≡ bundle_length 20 (joined_set desk shared)) where
    pub ends-long : 1048576 < n → Ends 0 out
    unfolding is_join_written length_joined output_joined
    ends-long l = rw (← is, eq-eqb f 0 none, ← n-is, lt-leb n 1048576 l) (refl, refl)

    module _ (short : n ≤ 1048576) where
      pub ends-over : length out < n → Ends 0 out
      unfolding is_join_written length_joined output_joined
      ends-over l = rw (← is, eq-eqb f 0 none, ← n-is, le-leb n 1048576 short, lt-leb n (length out) l) (refl, refl)

      pub ends-written : n ≤ length out → {last : List ℕ} → last ≡ output_of 20 (joined_set desk shared) out → Ends n last
      unfolding is_join_written length_joined output_joined
      ends-written l e = rw (← is, eq-eqb f 0 none, ← n-is, le-leb n 1048576 short, le-leb n (length out) l) (refl, e)
