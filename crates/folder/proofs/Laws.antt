-- A change that was made leaves a bundle that is not refused; and what a path is put together from.
-- Assumes nothing.
use Prim.Native.Nat.{ℕ, ◌≤◌, ◌<◌}
use mathlib.Core.Path.{◌≡◌, sym, ap, ◌∙◌}
use mathlib.Core.Logic.{inr}
use mathlib.Core.List.{List, [], ◌∷◌}
use native.Mathlib.Omega.{arith}
use lib.ListN.{length, take}
use borrow.Author.Tests.{eq-eqb, lt-ltb, le-ltb}
use Rattle.parts.specs.Files.{File}
use Rattle.bundle_layout.specs.Bundle.{bundle_fault, bundle_length}
use Rattle.bundle_layout.specs.Change.{files_after, make_fault, output}
use Rattle.bundle_layout.proofs.Laws.{make-none}
use Rattle.bundle_layout.proofs.RoundTrip.{after-change, output-read, output-length}
use Rattle.bundle.specs.Answers.{change_of, made_bundle}
use Rattle.bundle.specs.declared.Made.{Made}
use Rattle.output.specs.Output.{Output, output_at, put}
use Rattle.output.proofs.Puts.{put_then}
use Rattle.schedule.proofs.Laws.{files-are}
use Rattle.baseline.proofs.Laws.{files-are as baseline-files-are}
use Rattle.contract.proofs.Laws.{files-are as contract-files-are}
use Rattle.gate_lists.specs.Which.{gate_called}
use Rattle.gate_lists.specs.declared.Which.{Which}
use Rattle.gate_lists.specs.declared.Which.TheVariants.{Schedule, Baseline, Contract}
use Rattle.gate_names.specs.Names.{file_name_of}
use Rattle.folder.specs.Answers.{Bundled}
use Rattle.folder.specs.Path.{path_put, folder_path_length}

module _ (n : ℕ) (s : List ℕ) (k : ℕ) (f : File) (out : List ℕ) where
  fitting : ℕ
  fitting = bundle_length n (files_after s k f)

  accepted : make_fault n s k f (length out) ≡ 0 → (fitting ≤ length (output n s k f out)) × (bundle_fault n (take fitting (output n s k f out)) ≡ 0)
  unfolding fitting
  accepted e = (
    omega (arith, output-length n s k f out, (make-none n s k f (length out) e).1),
    rw (output-read n s k f out e) (after-change n s k f (make-none n s k f (length out) e).0).0,
  )

  pub bundle-made : {files : ℕ} {m : Made} {exit : List ℕ} → n ≡ files → m ≡ made_bundle n s k f (length out) → exit ≡ output n s k f out → m.refusal ≡ 0 → Bundled files m.length exit
  unfolding made_bundle change_of fitting
  bundle-made {files} {m} {exit} i e q r = rw (← i) (inr (rw (long, q) (accepted none)))
    where
      none : make_fault n s k f (length out) ≡ 0
      none = sym (ap (λ (x : Made). x.refusal) e) ∙ r

      long : m.length ≡ bundle_length n (files_after s k f)
      long = ap (λ (x : Made). x.length) e ∙ rw (eq-eqb (make_fault n s k f (length out)) 0 none)

-- ---- a name put behind a slash
module _ (which : Which) (path : List ℕ) (folder k : ℕ) {slash end : ℕ} {mid exit : List ℕ} (first : output_at mid slash ≡ put (output_at path folder) (47 ∷ [])) (then : output_at exit end ≡ put (output_at mid slash) (file_name_of which k)) (kept : length exit ≡ length path) where
  whole : output_at exit end ≡ path_put which path folder k
  unfolding path_put
  whole = put_then (output_at path folder) (47 ∷ []) (file_name_of which k) first then

  pub path-is : exit ≡ (path_put which path folder k).bytes
  path-is = ap (λ (o : Output). o.bytes) whole

  pub path-fits : end < length exit → end ≡ folder_path_length which path folder k
  unfolding folder_path_length
  path-fits l = rw (← whole, lt-ltb end (length path) (omega arith))

  pub path-does-not : length exit ≤ end → 0 ≡ folder_path_length which path folder k
  unfolding folder_path_length
  path-does-not l = rw (← whole, le-ltb end (length path) (omega arith))

-- ---- every gate has files
pub some-files : (which : Which) → 0 < (gate_called which).files
unfolding gate_called
some-files Schedule = rw files-are (omega arith)
some-files Baseline = rw baseline-files-are (omega arith)
some-files Contract = rw contract-files-are (omega arith)
