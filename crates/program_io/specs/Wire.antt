-- A 64-bit number as a program's tests send it: little-endian, as two of document 01's 32-bit numbers.
use Rattle.std.specs.Prelude.{ℕ, ◌/◌, ◌%◌, List, ◌++◌}
use Rattle.bundle_bytes.specs.Words.{word_of}

unfoldable pub long_of : ℕ → List ℕ
long_of x = word_of (x % 4294967296) ++ word_of (x / 4294967296)
