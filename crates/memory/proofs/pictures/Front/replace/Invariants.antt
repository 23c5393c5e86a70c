use Rattle.std.proofs.Common.{◌≡◌, ℕ, ◌+◌, ◌*◌, ◌<◌, ◌≤◌, ◌⊎◌, get_or}
use Rattle.memory.specs.Pictures.{number_at}
use Rattle.memory.proofs.Places.{Bytes}
use Rattle.memory.proofs.pictures.Front.replace.Given as goal

abbrev pub invariant-loop-w : goal.invariant-loop-w
invariant-loop-w l = record {
  written : (j : ℕ) → j < l.w → number_at l.bytes (l.at + 4 * j) ≡ get_or l.value-items j 0;
  others : (k : ℕ) → (k < l.at) ⊎ (l.at + 4 * l.w ≤ k) → get_or l.bytes k 0 ≡ get_or l.initial.bytes k 0;
  bytes : 0 < l.w → Bytes l.bytes;
}
