use Rattle.promises.proofs.Kept.{step_keeps}
use Rattle.promises.proofs.one_more_step_keeps_the_promises.Goals as goal

pub returns : goal.returns
returns c = step_keeps
