-- The primitive data types of document 002, section 2.3, numbered in its order.
use Rattle.std.specs.Prelude.{ℕ}

abbrev pub boolean : ℕ
boolean = 0

abbrev pub date : ℕ
date = 1

abbrev pub decimal_type : ℕ
decimal_type = 2

abbrev pub integer : ℕ
integer = 3

abbrev pub string : ℕ
string = 4

abbrev pub string_id : ℕ
string_id = 5

abbrev pub text : ℕ
text = 6
