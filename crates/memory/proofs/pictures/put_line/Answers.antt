use Rattle.std.proofs.Common.{rules}
use Rattle.memory.proofs.Writing.{line_missing}
use Rattle.memory.proofs.pictures.put_line.Goals as goal

pub returns-else-n-count-clause-picture : goal.returns-else-n-count-clause-picture
returns-else-n-count-clause-picture c ls more is = line_missing ls more c.args.count c.args.n c.args.line c.args.buffer.now c.args.buffer.now is.0 is.1 (search rules)
