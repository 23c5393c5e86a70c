use Rattle.std.proofs.Common.{arith, rules}
use Rattle.memory.proofs.Writing.{line_put}
use Rattle.memory.proofs.pictures.Front.replace.Goals as goal

pub returns-clause-picture : goal.returns-clause-picture
returns-clause-picture c ls more is = line_put ls more _ _ _ _ _ is.0 is.1 c.requires (search rules) (c.loop-w.invariant.bytes (omega arith))
