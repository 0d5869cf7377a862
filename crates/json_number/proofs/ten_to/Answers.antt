-- `json_number::ten_to` meets its contract: ten to the fifteenth fits.
use mathlib.Core.Path.{refl}
use native.Mathlib.Omega.{arith}
use Rattle.json_number.proofs.Scale.{ten-bound}
use Rattle.json_number.proofs.ten_to.Goals as goal

pub pow-requires : goal.pow-requires
pow-requires c = omega (arith, ten-bound c.args.n refl c.requires)
