-- The joined set of document 02, order 10, as a bundle of its own, by which what is asked of a bundle can be asked of it. "1,048,576
-- limits each bundle, not the join": there is none of a longer one.
use Rattle.std.specs.Prelude.{ℕ, Bool, cond, ◌&&◌, List, length, eqb, leb}
use Rattle.bundle_layout.specs.Bundle.{bundle_length}
use Rattle.bundle_layout.specs.Change.{output_of}
use Rattle.desks_calls.specs.Join.{joined_set, join_fault}

-- whether it is written to an output of so many bytes: the desk is not refused by the bundles, and it is short enough for both
unfoldable pub is_join_written : List ℕ → List ℕ → ℕ → Bool
is_join_written desk shared room =
    eqb (join_fault 20 desk shared) 0
    && (leb (bundle_length 20 (joined_set desk shared)) 1048576 && leb (bundle_length 20 (joined_set desk shared)) room)

-- its length, 0 where it is not written, and what the output then holds
unfoldable pub length_joined : List ℕ → List ℕ → ℕ → ℕ
length_joined desk shared room = cond (is_join_written desk shared room) (bundle_length 20 (joined_set desk shared)) 0

unfoldable pub output_joined : List ℕ → List ℕ → List ℕ → List ℕ
output_joined desk shared out = cond (is_join_written desk shared (length out)) (output_of 20 (joined_set desk shared) out) out
