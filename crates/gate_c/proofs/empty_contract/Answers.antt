-- `gate_c::empty_contract` meets its contract: the count, and nothing else that is not 0.
use mathlib.Core.Path.{refl}
use Rattle.parts.specs.Files.{is_present, bytes_of}
use Rattle.bundle_bytes.specs.Words.{word_of}
use Rattle.bundle_bytes.specs.Pieces.{joined}
use Rattle.bundle_layout.specs.Bundle.{pieces_of, header_pair, header_of, bundle_of}
use Rattle.bundle_layout.specs.Put.{empty_bundle}
use Rattle.gate_c.proofs.empty_contract.Goals as goal

pub returns : goal.returns
unfolding empty_bundle bundle_of header_of header_pair pieces_of joined word_of is_present bytes_of
returns c = refl
