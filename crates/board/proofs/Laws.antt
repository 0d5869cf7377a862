-- What an accepted board says of each mark: exactly that every kind is 0.
-- Assumes nothing.
use Prim.Native.Nat.{ℕ, ◌<◌}
use mathlib.Core.Path.{◌≡◌}
use mathlib.Core.Bool.{true}
use lib.ListN.{length, get_or}
use Rattle.boards.specs.declared.Board.{Board}
use Rattle.board.specs.Board.{faults_of, accepted_board}
use Rattle.boards.specs.Board.{faults_of as any_faults, accepted_board as any_accepted}
use Rattle.boards.proofs.Laws as any

pub accepted-says : (board : Board 81) → accepted_board board ≡ true → (m : ℕ) → m < length board.kinds → get_or board.kinds m 0 ≡ 0
unfolding accepted_board faults_of any_accepted any_faults
accepted-says board e = any.accepted-says board e

pub accepted-if : (board : Board 81) → ((m : ℕ) → m < length board.kinds → get_or board.kinds m 0 ≡ 0) → accepted_board board ≡ true
unfolding accepted_board faults_of any_accepted any_faults
accepted-if board h = any.accepted-if board h
