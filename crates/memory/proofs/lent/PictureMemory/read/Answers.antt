use Rattle.std.proofs.Common.{sym, ◌∙◌, arith}
use Rattle.std.proofs.lemmas.List.FromFn.{get_or-map-range_with_len}
use Rattle.memory.proofs.lent.PictureMemory.read.Goals as goal

pub returns-then-n-self : goal.returns-then-n-self
returns-then-n-self c = c.line.ensures ∙ sym (get_or-map-range_with_len _ 0 _ _ _ _ c.if-n-self.true (omega arith))
