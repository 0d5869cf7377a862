-- For the code's sake alone: a text looked up in one field.
use Rattle.std.specs.Prelude.{ℕ}
use Rattle.key_lookup.specs.declared.Lookup.{Lookup}

-- a text in field m alone
abbrev pub one_text : ℕ → Lookup
one_text m = record { m = m; k = 0; kind = 0; also = 0 }
