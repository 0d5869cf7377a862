-- What a value is that a field holds, by the field's type: from its first byte to the place behind its last, and not null.
use Rattle.std.specs.Prelude.{ℕ, ◌+◌, ◌<◌, ◌≡◌, Bool, true, List, Ok, Some}
use Rattle.json_bytes.specs.Reads.{byte_at, within, literal_at}
use Rattle.json_chars.specs.Chars.{chars_at}
use Rattle.json_text.specs.Text.{text_read_at}
use Rattle.json_number.specs.Number.{number_at, integer_of}
use Rattle.json_number.specs.declared.Value.TheVariants.{Fits}
use Rattle.json_number.specs.declared.Integer.TheVariants.{Is}
use Rattle.json_date.specs.Date.{day_in, date_of}
use Rattle.table_rows.specs.Types.{boolean, date, decimal_type, integer, string, text}

pub data Typed (s : List ℕ) (ty start end : ℕ) : Type 0 where
  -- String, StringID and Text, numbered one behind the other: a string with a character at least between its quotes
  AText : within string text ty ≡ true → text_read_at s start ≡ Ok end → start + 2 < end → Typed s ty start end
  ADate : {year month day : ℕ} → ty ≡ date → text_read_at s start ≡ Ok end → date_of (chars_at s start) ≡ Some (day_in year month day) → Typed s ty start end
  ADecimal : {negative : Bool} {c p15 : ℕ} → ty ≡ decimal_type → (number_at s start).reading ≡ Ok end → (number_at s start).value ≡ Fits negative c p15 → Typed s ty start end
  AnInteger : {negative : Bool} {magnitude : ℕ} → ty ≡ integer → (number_at s start).reading ≡ Ok end → integer_of (number_at s start).value ≡ Is negative magnitude → Typed s ty start end
  -- true or false: a literal that does not begin as null does
  ABoolean : ty ≡ boolean → literal_at s start ≡ Ok end → (byte_at s start ≡ 110 → ⊥) → Typed s ty start end
