-- Changes made in a drawer one after the other, each from the drawer and the marks that the one before left.
use Rattle.std.specs.Prelude.{ℕ, List, [], ◌∷◌}
use Rattle.parts.specs.Files.{File}
use Rattle.mark_numbers.specs.Marks.{Marks}
use Rattle.gate_marks.specs.Gate.{Gate}
use Rattle.drawer_held.specs.Drawer.{drawer_made}
use Rattle.drawer_calls.specs.Calls.{drawer_changed}

-- a file number, with new bytes or withdrawal
pub record DrawerStep : Type 0 where
  pub file : ℕ
  pub new : File

-- what is at hand between two calls
pub record DrawerState : Type 0 where
  pub drawer : List ℕ
  pub marks : Marks

-- what the call leaves of both, accepted or refused
unfoldable pub drawer_stepped : Gate → DrawerState → DrawerStep → DrawerState
drawer_stepped g x c =
    record { drawer = drawer_made g.files x.drawer c.file c.new; marks = (drawer_changed g x.drawer c.file c.new x.marks).marks }

unfoldable pub after_drawer_steps : Gate → List DrawerStep → DrawerState → DrawerState
after_drawer_steps g [] x = x
after_drawer_steps g (c ∷ cs) x = after_drawer_steps g cs (drawer_stepped g x c)
