-- `json_date::ten_at` meets its contract: the bytes, one by one.
use Rattle.json_date.proofs.Plain.{ten-bytes}
use Rattle.json_date.proofs.ten_at.Goals as goal

pub returns : goal.returns
returns c = rw (c.from.ensures, c.from-2.ensures, c.from-3.ensures, c.from-4.ensures, c.from-5.ensures, c.from-6.ensures, c.from-7.ensures, c.from-8.ensures, c.from-9.ensures, c.from-10.ensures, ten-bytes _ _ c.requires)
