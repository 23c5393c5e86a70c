use Rattle.std.proofs.Common.{◌≡◌, ℕ, ◌<◌, ◌++◌, get_or, drop}
use Rattle.memory.specs.Pictures.{picture, Proper}
use Rattle.memory.proofs.Writing.{begun, no_line}
use Rattle.memory.proofs.pictures.write_picture.Given as goal

abbrev pub invariant-loop-n : goal.invariant-loop-n
invariant-loop-n l = (l.buffer ≡ picture (begun l.n l.lines) ++ drop l.length l.initial.buffer) × ((m : ℕ) → m < l.n → Proper (get_or l.lines m no_line))
