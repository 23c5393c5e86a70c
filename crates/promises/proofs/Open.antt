-- A step leaves nothing open.
use Rattle.std.proofs.Common.{rules}
use Rattle.promises.specs.Board.{State}
use Rattle.promises.specs.Steps.{Agree}
use Rattle.promises.specs.Runs.{StepsLeaveNothingOpen}

-- two states that agree with a third agree with each other
pub agree_with : {t u x : State} → Agree t x → Agree u x → Agree t u
agree_with p q = search rules

pub nothing_open : StepsLeaveNothingOpen
nothing_open r = search rules
