-- A list by what stands at each place, and as a loop fills it from the front; the same of marks, which are several such
-- lists; and what it says of each mark that none has a fault.
-- Assumes nothing.
use Prim.Native.Nat.{ℕ, zero, suc, ◌+◌, ◌≤◌, ◌<◌}
use mathlib.Core.Path.{◌≡◌, refl, sym, ap, ◌∙◌}
use mathlib.Core.Bool.{Bool, true, false, cond, not, ◌&&◌, true≢false}
use mathlib.Core.List.{List, [], ◌∷◌, ◌++◌, append-nil}
use native.Mathlib.Numerals.{add-one}
use native.Mathlib.Omega.{arith}
use borrow.Author.Count.{below_more}
use borrow.Author.Tests.{eq-eqb, ne_eqb, eqb-true, not-true, not-false}
use lib.ListN.{length, get_or, set, drop, length-set, length-append, drop_of_length-le, get_or-append}
use lib.Seq.{drop-cons, append_snoc, set_at, get_or_at, get_or-set_same, get_or-set_other, ext_get_or}
use lib.Dec.{eqb}
use Rattle.std.proofs.Common.{replicate}
use Rattle.std.proofs.lemmas.List.{replicate_more}
use Rattle.mark_numbers.specs.declared.Mark.{Mark}
use Rattle.mark_numbers.specs.Marks.{list_of, Marks, marks_in, marks_from, mark_in, with_mark, have_length, fresh_marks, fresh_over, faults_up_to}

-- ---- a list by what stands at each place
module _ (f : ℕ → ℕ) where
  pub list-next : (i : ℕ) → list_of f (i + 1) ≡ list_of f i ++ (f i ∷ [])
  unfolding list_of
  list-next i = rw (add-one i)

  pub list_length : (n : ℕ) → length (list_of f n) ≡ n
  unfolding list_of
  list_length zero = refl
  list_length (suc n) = omega (arith, length-append (list_of f n) (f n ∷ []), list_length n)

  pub list_at : (n i : ℕ) → i < n → get_or (list_of f n) i 0 ≡ f i
  unfolding list_of
  list_at zero i l = absurd (omega arith)
  list_at (suc n) i l =
      below_more (λ k. get_or (list_of f n ++ (f n ∷ [])) k 0 ≡ f k) n
      (λ k b. get_or-append (list_of f n) (f n ∷ []) 0 k (omega (arith, list_length n)) ∙ list_at n k b)
      (get_or_at (list_of f n) (f n) [] 0 n (list_length n))
      i
      (omega arith)

-- ---- as a loop fills it from the front: the first i are new, and the rest as they were
pub record Filled (f : ℕ → ℕ) (old : List ℕ) (i : ℕ) (list : List ℕ) : Type 0 where
  pub is : list ≡ list_of f i ++ drop i old
  pub long : length list ≡ length old

module _ (f : ℕ → ℕ) (old : List ℕ) where
  pub fill-starts : Filled f old 0 old
  unfolding list_of
  fill-starts = record { is = refl; long = refl }

  module _ {i : ℕ} {list : List ℕ} (so_far : Filled f old i list) where
    pub fill-stores : i < length old → (v : ℕ) → v ≡ f i → Filled f old (i + 1) (set list i v)
    fill-stores l v e =
        record {
          is = rw (so_far.is, drop-cons old i 0 l, list-next f i, add-one i, append_snoc (list_of f i) (f i), e) (set_at (list_of f i) (get_or old i 0) (drop (suc i) old) (f i) i (list_length f i));
          long = length-set list i v ∙ so_far.long;
        }

    fill-passes : i < length old → get_or old i 0 ≡ f i → Filled f old (i + 1) list
    fill-passes l e =
        record {
          is = so_far.is ∙ rw (drop-cons old i 0 l, list-next f i, add-one i, append_snoc (list_of f i) (f i), e);
          long = so_far.long;
        }

    pub fill-ends : length old ≤ i → list ≡ list_of f i
    fill-ends l = so_far.is ∙ rw (drop_of_length-le old {i = i} l) (append-nil (list_of f i))

pub list_same : (f g : ℕ → ℕ) (n : ℕ) → ((i : ℕ) → i < n → f i ≡ g i) → list_of f n ≡ list_of g n
list_same f g n h =
    ext_get_or 0 (list_of f n) (list_of g n) (list_length f n ∙ sym (list_length g n))
    (λ i l. let k : i < n = omega (arith, list_length f n) in list_at f n i k ∙ h i k ∙ sym (list_at g n i k))

-- a list is what stands at each of its places
pub list-again : (n : ℕ) (s : List ℕ) → length s ≡ n → list_of (λ i. get_or s i 0) n ≡ s
list-again n s e =
    ext_get_or 0 (list_of (λ i. get_or s i 0) n) s (list_length (λ i. get_or s i 0) n ∙ sym e)
    (λ i l. list_at (λ i. get_or s i 0) n i (omega (arith, list_length (λ i. get_or s i 0) n)))

-- ---- marks: what follows speaks of the lists one by one, so that nothing else need
pub marks-equal : (x y : Marks) → x.kinds ≡ y.kinds → x.places ≡ y.places → x.companions ≡ y.companions → x ≡ y
marks-equal x y k p c =
    ap (λ (l : List ℕ). marks_in l x.places x.companions) k ∙ ap (λ (l : List ℕ). marks_in y.kinds l x.companions) p ∙ ap (marks_in y.kinds y.places) c

pub mark-equal : (x y : Mark) → x.kind ≡ y.kind → x.place ≡ y.place → x.companion ≡ y.companion → x ≡ y
mark-equal x y k p c =
    ap (λ (n : ℕ). record { kind = n; place = x.place; companion = x.companion }) k ∙ ap (λ (n : ℕ). record { kind = y.kind; place = n; companion = x.companion }) p ∙ ap (λ (n : ℕ). record { kind = y.kind; place = y.place; companion = n }) c

-- lists of n marks each
pub record Long (n : ℕ) (b : Marks) : Type 0 where
  pub kinds-long : length b.kinds ≡ n
  pub places-long : length b.places ≡ n
  pub companions-long : length b.companions ≡ n

module _ (n : ℕ) (b : Marks) where
  pub lists-long : have_length n b ≡ true → Long n b
  unfolding have_length
  lists-long e = go (eqb (length b.kinds) n) (eqb (length b.places) n) (eqb (length b.companions) n) refl refl refl e
    where
      go : (k p c : Bool) → eqb (length b.kinds) n ≡ k → eqb (length b.places) n ≡ p → eqb (length b.companions) n ≡ c → (k && (p && c)) ≡ true → Long n b
      go true true true k p c e = record { kinds-long = eqb-true _ n k; places-long = eqb-true _ n p; companions-long = eqb-true _ n c }
      go true true false k p c e = absurd (true≢false (sym e))
      go true false t k p c e = absurd (true≢false (sym e))
      go false s t k p c e = absurd (true≢false (sym e))

  pub long-lists : Long n b → have_length n b ≡ true
  unfolding have_length
  long-lists l = rw (eq-eqb _ n l.kinds-long, eq-eqb _ n l.places-long, eq-eqb _ n l.companions-long)

  -- by a test that the code makes
  module _ {t : Bool} (t-is : t ≡ have_length n b) where
    pub lists-wrong : not t ≡ true → have_length n b ≡ false
    lists-wrong e = sym t-is ∙ not-true t e

    pub lists-right : not t ≡ false → have_length n b ≡ true
    lists-right e = sym t-is ∙ not-false t e

-- every mark made 'not judged', and lists of different lengths left alone
module _ (b : Marks) where
  pub fresh-over : have_length (length b.kinds) b ≡ true → fresh_over b ≡ fresh_marks (length b.kinds)
  unfolding fresh_over
  fresh-over e = rw e

  pub fresh_kept : have_length (length b.kinds) b ≡ false → fresh_over b ≡ b
  unfolding fresh_over
  fresh_kept e = rw e

module _ (n : ℕ) where
  pub marks-same : (f g : ℕ → Mark) → ((m : ℕ) → m < n → f m ≡ g m) → marks_from n f ≡ marks_from n g
  unfolding marks_from
  marks-same f g h =
      rw (
        list_same (λ m. (f m).kind) (λ m. (g m).kind) n (λ m l. ap (λ x. x.kind) (h m l)),
        list_same (λ m. (f m).place) (λ m. (g m).place) n (λ m l. ap (λ x. x.place) (h m l)),
        list_same (λ m. (f m).companion) (λ m. (g m).companion) n (λ m l. ap (λ x. x.companion) (h m l)),
      )

  module _ (f : ℕ → Mark) where
    pub marks-long : Long n (marks_from n f)
    unfolding marks_from
    marks-long =
        record {
          kinds-long = list_length (λ m. (f m).kind) n;
          places-long = list_length (λ m. (f m).place) n;
          companions-long = list_length (λ m. (f m).companion) n;
        }

    pub mark-of-marks : (m : ℕ) → m < n → mark_in (marks_from n f) m ≡ f m
    unfolding marks_from mark_in
    mark-of-marks m l =
        mark-equal _ (f m) (list_at (λ m. (f m).kind) n m l) (list_at (λ m. (f m).place) n m l) (list_at (λ m. (f m).companion) n m l)

  -- marks are what stands at each number
  pub marks-again : (b : Marks) → Long n b → marks_from n (mark_in b) ≡ b
  unfolding marks_from mark_in
  marks-again b l =
      marks-equal (marks_from n (mark_in b)) b (list-again n b.kinds l.kinds-long) (list-again n b.places l.places-long) (list-again n b.companions l.companions-long)

-- ---- a mark that is put: it stands there, all others stand as they stood, and no list has another length
module _ (b : Marks) (m : ℕ) (x : Mark) where
  pub put-there : (n : ℕ) → Long n b → m < n → mark_in (with_mark b m x) m ≡ x
  unfolding mark_in with_mark
  put-there n l h =
      mark-equal _ x (get_or-set_same b.kinds m x.kind 0 (omega (arith, l.kinds-long))) (get_or-set_same b.places m x.place 0 (omega (arith, l.places-long))) (get_or-set_same b.companions m x.companion 0 (omega (arith, l.companions-long)))

  pub put-elsewhere : (k : ℕ) → (k ≡ m → ⊥) → mark_in (with_mark b m x) k ≡ mark_in b k
  unfolding mark_in with_mark
  put-elsewhere k h =
      rw (get_or-set_other b.kinds m k x.kind 0 h, get_or-set_other b.places m k x.place 0 h, get_or-set_other b.companions m k x.companion 0 h)

  pub put-long : (n : ℕ) → Long n b → Long n (with_mark b m x)
  unfolding with_mark
  put-long n l =
      record {
        kinds-long = length-set b.kinds m x.kind ∙ l.kinds-long;
        places-long = length-set b.places m x.place ∙ l.places-long;
        companions-long = length-set b.companions m x.companion ∙ l.companions-long;
      }

-- ---- marks that a loop puts one after the other: the first m are new, and the rest as they were
pub record Putting (new : ℕ → Mark) (old : Marks) (m : ℕ) (marks : Marks) : Type 0 where
  pub kinds-put : Filled (λ i. (new i).kind) old.kinds m marks.kinds
  pub places-put : Filled (λ i. (new i).place) old.places m marks.places
  pub companions-put : Filled (λ i. (new i).companion) old.companions m marks.companions

module _ (new : ℕ → Mark) (old : Marks) where
  pub putting-starts : Putting new old 0 old
  putting-starts = record { kinds-put = fill-starts _ _; places-put = fill-starts _ _; companions-put = fill-starts _ _ }

  module _ {m : ℕ} {marks : Marks} (so_far : Putting new old m marks) (n : ℕ) (l : Long n old) where
    module _ (h : m < n) where
      pub putting-puts : (x : Mark) → x ≡ new m → {last : Marks} → last ≡ with_mark marks m x → Putting new old (m + 1) last
      unfolding with_mark
      putting-puts x is e =
          rw e
          (record {
            kinds-put = fill-stores _ _ so_far.kinds-put (omega (arith, l.kinds-long)) x.kind (ap (λ y. y.kind) is);
            places-put = fill-stores _ _ so_far.places-put (omega (arith, l.places-long)) x.place (ap (λ y. y.place) is);
            companions-put = fill-stores _ _ so_far.companions-put (omega (arith, l.companions-long)) x.companion (ap (λ y. y.companion) is);
          })

      pub putting-keeps : mark_in old m ≡ new m → Putting new old (m + 1) marks
      unfolding mark_in
      putting-keeps is =
          record {
            kinds-put = fill-passes _ _ so_far.kinds-put (omega (arith, l.kinds-long)) (ap (λ y. y.kind) is);
            places-put = fill-passes _ _ so_far.places-put (omega (arith, l.places-long)) (ap (λ y. y.place) is);
            companions-put = fill-passes _ _ so_far.companions-put (omega (arith, l.companions-long)) (ap (λ y. y.companion) is);
          }

    pub putting-ends : m ≡ n → marks ≡ marks_from n new
    unfolding marks_from
    putting-ends e =
        marks-equal marks (marks_from n new) (fill-ends _ _ so_far.kinds-put (omega (arith, l.kinds-long)) ∙ rw e) (fill-ends _ _ so_far.places-put (omega (arith, l.places-long)) ∙ rw e) (fill-ends _ _ so_far.companions-put (omega (arith, l.companions-long)) ∙ rw e)

-- ---- faults
no-fault : (t : Bool) (n : ℕ) → cond t n (n + 1) ≡ 0 → (t ≡ true) × (n ≡ 0)
no-fault true n e = (refl, e)
no-fault false n e = absurd (omega arith)

module _ (kinds : List ℕ) where
  pub holds-next : (m found : ℕ) → found ≡ faults_up_to kinds m → get_or kinds m 0 ≡ 0 → found ≡ faults_up_to kinds (m + 1)
  unfolding faults_up_to
  holds-next m found e z = rw (add-one m, eq-eqb _ 0 z) e

  pub fault-next : (m found : ℕ) → found ≡ faults_up_to kinds m → (get_or kinds m 0 ≡ 0 → ⊥) → found + 1 ≡ faults_up_to kinds (m + 1)
  unfolding faults_up_to
  fault-next m found e z = rw (add-one m, ne_eqb _ 0 z) (ap (λ n. n + 1) e)

  pub none-says : (n : ℕ) → faults_up_to kinds n ≡ 0 → (m : ℕ) → m < n → get_or kinds m 0 ≡ 0
  unfolding faults_up_to
  none-says zero e m l = absurd (omega arith)
  none-says (suc n) e m l =
      let both : (eqb (get_or kinds n 0) 0 ≡ true) × (faults_up_to kinds n ≡ 0) = no-fault _ _ e in
      below_more (λ k. get_or kinds k 0 ≡ 0) n (none-says n both.1) (eqb-true (get_or kinds n 0) 0 both.0) m (omega arith)

  pub none-if : (n : ℕ) → ((m : ℕ) → m < n → get_or kinds m 0 ≡ 0) → faults_up_to kinds n ≡ 0
  unfolding faults_up_to
  none-if zero h = refl
  none-if (suc n) h = rw (eq-eqb _ 0 (h n (omega arith))) (none-if n (λ m l. h m (omega arith)))

-- ---- lists filled with one number
pub list-alike : (x n : ℕ) → list_of (λ m. x) n ≡ replicate n x
unfolding list_of
list-alike x zero = refl
list-alike x (suc n) = rw (list-alike x n) (rw (add-one n) at (replicate_more n x))

pub fresh-filled : (n : ℕ) (kinds places companions filled blank alone : List ℕ) → have_length n (marks_in kinds places companions) ≡ true → filled ≡ replicate (length kinds) 2 → blank ≡ replicate (length places) 0 → alone ≡ replicate (length companions) 0 → marks_in filled blank alone ≡ fresh_marks n
unfolding fresh_marks marks_from
fresh-filled n kinds places companions filled blank alone h e f g =
    let long = lists-long n (marks_in kinds places companions) h in
    rw (e, f, g, long.kinds-long, long.places-long, long.companions-long, list-alike 2 n, list-alike 0 n)
