use Rattle.promises.proofs.Refuting.{tells_true_from_false}
use Rattle.promises.proofs.promises_tell_true_from_false.Goals as goal

pub returns : goal.returns
returns c = tells_true_from_false
