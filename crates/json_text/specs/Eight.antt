-- For the code's sake alone: which of eight bytes, held as one number with the first the lowest, are no graphic ones, and which
-- stop words of them.
use Rattle.std.specs.Prelude.{ℕ, zero, suc, ◌+◌, ◌*◌, ◌/◌, ◌%◌, cond, ◌==◌}
use Rattle.std.specs.Int.Count.{count_trailing_zeros}
use Rattle.json_text.specs.Run.{is_graphic}

-- each of the n lowest bytes of a number by itself
unfoldable pub each_byte : (ℕ → ℕ) → ℕ → ℕ → ℕ
each_byte f zero x = 0
each_byte f (suc n) x = each_byte f n (x / 256) * 256 + f (x % 256)

-- the highest bit of a byte that is no graphic one
unfoldable pub odd_flag : ℕ → ℕ
odd_flag b = cond (is_graphic b) 0 128

unfoldable pub odd_bytes : ℕ → ℕ
odd_bytes x = each_byte odd_flag 8 x

-- the highest bit of a byte that is no space
unfoldable pub no_space_flag : ℕ → ℕ
no_space_flag b = cond (b == 32) 0 128

unfoldable pub no_space_bytes : ℕ → ℕ
no_space_bytes x = each_byte no_space_flag 8 x

-- the highest bit of a byte that stops words: it is no graphic one, and no space before one, as the flag of the byte
-- behind it tells
unfoldable pub stop_flag : ℕ → ℕ → ℕ
stop_flag b behind = cond (is_graphic b) 0 (cond (b == 32) behind 128)

-- of the n lowest bytes; what stands behind the last is not known, and does not make it stop
unfoldable pub stops_in : ℕ → ℕ → ℕ
stops_in zero x = 0
stops_in (suc n) x = stops_in n (x / 256) * 256 + stop_flag (x % 256) (each_byte odd_flag n (x / 256) % 256)

unfoldable pub stop_bytes : ℕ → ℕ
stop_bytes x = stops_in 8 x

-- the byte that holds the lowest bit
unfoldable pub first_byte : ℕ → ℕ
first_byte x = count_trailing_zeros 64 x / 8
