-- What does not hold of two desks, computed in the smallest case.
-- Assumes nothing.
use Prim.Native.Nat.{ℕ}
use mathlib.Core.Path.{◌≡◌, refl}
use mathlib.Core.List.{List, [], ◌∷◌}
use Rattle.parts.specs.Part.{part_of}
use Rattle.parts.specs.Files.{Given, is_present, bytes_of}
use Rattle.bundle_bytes.specs.Words.{word_at, word_of}
use Rattle.bundle_bytes.specs.Pieces.{joined, piece_start, changed}
use Rattle.bundle_layout.specs.Bundle.{header_size, offset_at, length_at, is_omitted, end_of, stands_right, laid_out_from, laid_out, bundle_fault, part_at, file_at, lookup_fault, pieces_of, header_pair, header_of, bundle_of, bundle_length}
use Rattle.bundle_layout.specs.Change.{files_after, try_fault, make_fault}
use Rattle.bundle_layout.specs.Put.{empty_bundle}
use Rattle.desks_calls.specs.Join.{is_shared, may_hold, holds_only, or_else, join_fault, change_fault}
use Rattle.desks_calls.specs.Desks.{OwnChange, sight_fault, desk_fault}

-- accepted in one order alone: a desk's bundle whose file 2 is `x`. Emptied, into an output of 164 bytes, it leaves 165 bytes enough for
-- `y` as file 4; before, they are not, and the change is refused as 5
abbrev desk : List ℕ
desk = bundle_of 20 (files_after (empty_bundle 20) 2 (Given (120 ∷ [])))

pub one-order-alone : desk_fault 20 desk (empty_bundle 20) (OwnChange 2 (Given []) 164) ∷ desk_fault 20 (bundle_of 20 (files_after desk 2 (Given []))) (empty_bundle 20) (OwnChange 4 (Given (121 ∷ [])) 165) ∷ desk_fault 20 desk (empty_bundle 20) (OwnChange 4 (Given (121 ∷ [])) 165) ∷ [] ≡ 0 ∷ 0 ∷ 5 ∷ []
unfolding part_of is_present bytes_of word_at word_of joined piece_start changed header_size offset_at length_at is_omitted end_of stands_right laid_out_from laid_out bundle_fault part_at file_at lookup_fault pieces_of header_pair header_of bundle_of bundle_length files_after try_fault make_fault empty_bundle is_shared may_hold holds_only or_else join_fault change_fault sight_fault desk_fault
one-order-alone = refl
