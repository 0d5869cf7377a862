-- A bundle put into a drawer, and the bundle of a drawer's files taken out. Document 02, order 12: "Let a set stay in a drawer: the
-- same header". So a bundle is a drawer without room to spare, and its bytes go to the drawer's front as they are.
use Rattle.std.specs.Prelude.{ℕ, cond, ◌||◌, List, ◌++◌, length, drop, ltb, eqb}
use Rattle.bundle_layout.specs.Bundle.{header_size, bundle_fault, file_at, bundle_length}
use Rattle.bundle_layout.specs.Change.{output_of}
use Rattle.bundle.specs.declared.Made.{Made}
use Rattle.bundle.specs.Answers.{change_of}
use Rattle.drawer_held.specs.Drawer.{drawer_fault}

-- ---- Putting bundle s into drawer d, whatever that held
-- 1 to 3 of the bundle, then 1 of the drawer's length, then 11 where the bundle is longer
unfoldable pub put_fault : ℕ → List ℕ → List ℕ → ℕ
put_fault n d s =
    cond (eqb (bundle_fault n s) 0)
    (cond (ltb (length d) (header_size n) || ltb 1048576 (length d)) 1 (cond (ltb (length d) (length s)) 11 0)) (bundle_fault n s)

-- the bytes behind it are as before
unfoldable pub bundle_put : ℕ → List ℕ → List ℕ → List ℕ
bundle_put n d s = cond (eqb (put_fault n d s) 0) (s ++ drop (length s) d) d

-- ---- Taking the bundle of the files out, to an output of so many bytes
-- 1 to 3 of the drawer, then 5 as of a bundle
unfoldable pub take_fault : ℕ → List ℕ → ℕ → ℕ
take_fault n d room = cond (eqb (drawer_fault n d) 0) (cond (ltb room (bundle_length n (file_at d))) 5 0) (drawer_fault n d)

-- the refusal, or the bundle's length
unfoldable pub taken_bundle : ℕ → List ℕ → ℕ → Made
taken_bundle n d room = change_of (take_fault n d room) (bundle_length n (file_at d))

-- the output starts with the bundle, and the rest of it is as before
unfoldable pub taken_out : ℕ → List ℕ → List ℕ → List ℕ
taken_out n d out = cond (eqb (take_fault n d (length out)) 0) (output_of n (file_at d) out) out
