use Rattle.std.proofs.Common.{◌≡◌, ◌+◌, ◌*◌, take, vec_items}
use Rattle.mould.specs.Handed.{all_handed_from}
use Rattle.mould.proofs.exchange.carry_out.Given as goal

abbrev pub invariant-loop-face : goal.invariant-loop-face
invariant-loop-face l = (l.words.next ≡ 2 * l.face-index + 1) × (vec_items l.all ≡ all_handed_from 1 (take l.face-index l.faces))
