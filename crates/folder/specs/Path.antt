-- A file's path in a folder: the folder's name, a slash and the name that the gate's document gives the file.
use Rattle.std.specs.Prelude.{ℕ, cond, List, ◌∷◌, length, ltb}
use Rattle.output.specs.Output.{Output, output_at, put}
use Rattle.gate_lists.specs.declared.Which.{Which}
use Rattle.gate_names.specs.Names.{file_name_of}

-- a slash, 47, and the name of file k, put behind the first `folder` bytes of a buffer
unfoldable pub path_put : Which → List ℕ → ℕ → ℕ → Output
path_put which path folder k = put (output_at path folder) (47 ∷ file_name_of which k)

-- the path's length; 0 where the buffer has no room for it and a byte more, since a path ends with a zero byte outside
unfoldable pub folder_path_length : Which → List ℕ → ℕ → ℕ → ℕ
folder_path_length which path folder k =
    cond (ltb (path_put which path folder k).place (length path)) (path_put which path folder k).place 0
