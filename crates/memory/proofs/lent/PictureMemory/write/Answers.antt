use Rattle.memory.proofs.Writing.{lines_put}
use Rattle.memory.proofs.lent.PictureMemory.write.Goals as goal

pub returns-then-n-self-clause-lines : goal.returns-then-n-self-clause-lines
returns-then-n-self-clause-lines c = rw c.replace.ensures.count (lines_put _ _ _ _ _ c.if-n-self.true c.replace.ensures.puts c.replace.ensures.proper)
