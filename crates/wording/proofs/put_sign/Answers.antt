-- `wording::put_sign` meets its contract: each sign of a slot, and any other.
use mathlib.Core.Path.{refl}
use Rattle.wording.specs.Wording.{slot_text}
use Rattle.wording.proofs.Filling.{sign-put, other-put}
use Rattle.wording.proofs.put_sign.Goals as goal

pub returns-then-sign-eq64 : goal.returns-then-sign-eq64
unfolding slot_text
returns-then-sign-eq64 c = sign-put _ _ _ _ _ 64 refl c.if-sign-eq64.true c.put_table_of.ensures

pub returns-then-sign-eq33 : goal.returns-then-sign-eq33
unfolding slot_text
returns-then-sign-eq33 c = sign-put _ _ _ _ _ 33 refl c.if-sign-eq33.true c.put_file_of.ensures

pub returns-then-sign-eq35 : goal.returns-then-sign-eq35
unfolding slot_text
returns-then-sign-eq35 c = sign-put _ _ _ _ _ 35 refl c.if-sign-eq35.true c.put_number.ensures

pub returns-then-sign-eq36 : goal.returns-then-sign-eq36
unfolding slot_text
returns-then-sign-eq36 c = sign-put _ _ _ _ _ 36 refl c.if-sign-eq36.true c.put_field_of.ensures

pub returns-then-sign-eq37 : goal.returns-then-sign-eq37
unfolding slot_text
returns-then-sign-eq37 c = sign-put _ _ _ _ _ 37 refl c.if-sign-eq37.true c.put_value.ensures

pub returns-then-sign-eq38 : goal.returns-then-sign-eq38
unfolding slot_text
returns-then-sign-eq38 c = sign-put _ _ _ _ _ 38 refl c.if-sign-eq38.true c.put_companion.ensures

pub returns-then-sign-eq94 : goal.returns-then-sign-eq94
unfolding slot_text
returns-then-sign-eq94 c = sign-put _ _ _ _ _ 94 refl c.if-sign-eq94.true c.put_table_of-then-sign-eq94.ensures

pub returns-then-sign-eq126 : goal.returns-then-sign-eq126
unfolding slot_text
returns-then-sign-eq126 c = sign-put _ _ _ _ _ 126 refl c.if-sign-eq126.true c.put_spot.ensures

pub returns : goal.returns
returns c = other-put _ _ _ _ _ c.if-sign-eq64.false c.if-sign-eq33.false c.if-sign-eq35.false c.if-sign-eq36.false c.if-sign-eq37.false c.if-sign-eq38.false c.if-sign-eq94.false c.if-sign-eq126.false c.put_byte.ensures
