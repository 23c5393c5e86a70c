use Rattle.std.proofs.Common.{arith}
use Rattle.std.proofs.lemmas.Grind.{common_steps}
use Rattle.mould.proofs.Handing.{handed_all}
use Rattle.mould.proofs.exchange.carry_out.Goals as goal

pub returns-clause-keeps : goal.returns-clause-keeps
returns-clause-keeps c = handed_all _ _ (grind (arith, common_steps))
