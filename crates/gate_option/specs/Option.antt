-- The words by which a program is told to judge by another gate than document 01's.
use Rattle.std.specs.Prelude.{ℕ, cond, List, eqb}
use Rattle.json_same.specs.Same.{same_list}
use Rattle.json_bytes.specs.Ascii.{codes}
use Rattle.gate_lists.specs.declared.Which.TheVariants.{Schedule, Baseline, Contract}
use Rattle.gate_option.specs.declared.Named.{Named}
use Rattle.gate_option.specs.declared.Named.TheVariants.{Gate, Nothing}
use Rattle.gate_option.specs.declared.Asked.{Asked}
use Rattle.gate_option.specs.declared.Asked.TheVariants.{Of, Unclear}

unfoldable pub gate_named : List ℕ → Named
gate_named word =
    cond (same_list word (codes "--baseline")) (Gate Baseline)
    (cond (same_list word (codes "--contract")) (Gate Contract) Nothing)

-- ---- A program that takes such a word, or none, and one argument more. Its own name counts as one.
unfoldable pub asked_of : Named → Asked
asked_of (Gate which) = Of which 2
asked_of Nothing = Unclear

unfoldable pub asked_by : ℕ → List ℕ → Asked
asked_by count first = cond (eqb count 2) (Of Schedule 1) (cond (eqb count 3) (asked_of (gate_named first)) Unclear)
