-- For the code's sake alone: how a name and its value were read, without the field that most likely stands next.
use Rattle.std.specs.Prelude.{Result, Ok, Err}
use Rattle.json_bytes.specs.declared.Fault.{Fault}
use Rattle.json_bytes.specs.Reads.{Reading}
use Rattle.table_record.specs.declared.Pair.{Pair}

abbrev pub reading_of : Result Pair Fault → Reading
reading_of (Ok pair) = Ok pair.end
reading_of (Err e) = Err e
