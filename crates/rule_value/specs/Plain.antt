-- For the code's sake alone: values that can be told by their bytes between two quotes.
use Rattle.std.specs.Prelude.{ℕ, ◌+◌, ◌<◌, ◌≡◌, true, List}
use Rattle.table_rows.specs.Rows.{value_text_at}
use Rattle.table_name.specs.Guess.{graphic_word}

-- each of n values from number v on is a word of bytes that are characters by themselves
abbrev pub PlainValues : List ℕ → List ℕ → ℕ → ℕ → Type 0
PlainValues places texts v n = (i : ℕ) → i < n → graphic_word (value_text_at places texts (v + i)) ≡ true
