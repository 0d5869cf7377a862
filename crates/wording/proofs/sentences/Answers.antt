-- `wording::sentences` meets its contract: the code's bytes are the sentences, computed.
use mathlib.Core.Path.{refl}
use mathlib.Core.List.{flatten}
use Rattle.json_bytes.specs.Ascii.{codes}
use Rattle.wording.specs.Sentences.{sentences}
use Rattle.wording.specs.Flat.{all_sentences}
use Rattle.wording.proofs.sentences.Goals as goal

pub returns : goal.returns
unfolding all_sentences flatten sentences codes
returns c = refl
