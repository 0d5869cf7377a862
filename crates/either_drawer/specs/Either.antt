-- What document 02, order 13, asks of two changes and of a change undone, for a drawer: "this holds of files and board, not of
-- positions".
use Rattle.std.specs.Prelude.{ℕ, ◌<◌, ◌≡◌}
use Rattle.bundle_layout.specs.Bundle.{file_at}
use Rattle.gate_marks.specs.Gate.{Gate}
use Rattle.drawer_held.specs.Drawer.{drawer_change_fault}
use Rattle.drawer_calls.specs.Sequence.{DrawerStep, DrawerState, drawer_stepped}

-- a change that is made and not refused
unfoldable pub Accepted : Gate → DrawerState → DrawerStep → Type 0
Accepted g x c = drawer_change_fault g.files x.drawer c.file c.new ≡ 0

-- "accepted in both orders": all four steps
pub record BothOrders (g : Gate) (x : DrawerState) (c d : DrawerStep) : Type 0 where
  pub c-first : Accepted g x c
  pub then-d : Accepted g (drawer_stepped g x c) d
  pub d-first : Accepted g x d
  pub then-c : Accepted g (drawer_stepped g x d) c

-- one set and one board, wherever the files stand
pub record Same (g : Gate) (x y : DrawerState) : Type 0 where
  pub files : (i : ℕ) → i < g.files → file_at x.drawer i ≡ file_at y.drawer i
  pub board : x.marks ≡ y.marks

-- "undoing a change at once, by the old bytes or withdrawal"
unfoldable pub undoing : DrawerState → DrawerStep → DrawerStep
undoing x c = record { file = c.file; new = file_at x.drawer c.file }
