use Rattle.promises.proofs.Kept.{promises_kept}
use Rattle.promises.proofs.runs_keep_their_promises.Goals as goal

pub returns : goal.returns
returns c = promises_kept
