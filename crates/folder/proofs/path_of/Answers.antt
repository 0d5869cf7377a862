-- `folder::path_of` meets its contract: a slash and the file's name, one behind the other.
use native.Mathlib.Omega.{arith}
use Rattle.folder.proofs.Laws.{path-is, path-fits, path-does-not}
use Rattle.folder.proofs.path_of.Goals as goal

pub returns-then-end-path : goal.returns-then-end-path
returns-then-end-path g c = record { value = path-fits _ _ _ _ c.put_byte-name.ensures c.put_file_of-end.ensures (omega (arith, c.put_byte-name.auto, c.put_file_of-end.auto)) c.if-end-path.true; path_after = path-is _ _ _ _ c.put_byte-name.ensures c.put_file_of-end.ensures (omega (arith, c.put_byte-name.auto, c.put_file_of-end.auto)) }

pub returns : goal.returns
returns g c = record { value = path-does-not _ _ _ _ c.put_byte-name.ensures c.put_file_of-end.ensures (omega (arith, c.put_byte-name.auto, c.put_file_of-end.auto)) c.if-end-path.false; path_after = path-is _ _ _ _ c.put_byte-name.ensures c.put_file_of-end.ensures (omega (arith, c.put_byte-name.auto, c.put_file_of-end.auto)) }
