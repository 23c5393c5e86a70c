use Rattle.std.proofs.Math.Seq.{take-set-lt}
use Rattle.trials.proofs.windows.WindowMemory.write.Goals as goal

pub returns-then-n-self-2 : goal.returns-then-n-self-2
returns-then-n-self-2 c = take-set-lt c.args.self.now.count c.args.self.now.lines.now c.args.n c.args.line c.if-n-self.true
