-- The states of a line and the byte that has them.
use Rattle.std.proofs.Common.{◌≡◌, ℕ, ◌+◌, ◌*◌, ◌/◌, ◌%◌, ◌≤◌, arith}
use Rattle.tagged.specs.Words.{state_number}
use Rattle.tagged.specs.declared.words.WordState.{WordState}
use Rattle.memory.specs.Pictures.{state_from}

abbrev pub byte_of : WordState → WordState → WordState → WordState → ℕ
byte_of a b c d = state_number a + state_number b * 2 + state_number c * 4 + state_number d * 8

-- each state can be read from the byte
pub record ReadsBack (a b c d : WordState) (byte : ℕ) : Type 0 where
  pub first : state_from (byte % 2) ≡ a
  pub second : state_from (byte / 2 % 2) ≡ b
  pub third : state_from (byte / 4 % 2) ≡ c
  pub fourth : state_from (byte / 8 % 2) ≡ d
  pub small : byte ≤ 15

pub states_back : (a b c d : WordState) → ReadsBack a b c d (byte_of a b c d)
states_back a b c d = record { first = grind arith; second = grind arith; third = grind arith; fourth = grind arith; small = grind arith }

-- the byte can be made from the states that are read from it
pub byte_back : (b : ℕ) → b ≤ 15 → byte_of (state_from (b % 2)) (state_from (b / 2 % 2)) (state_from (b / 4 % 2)) (state_from (b / 8 % 2)) ≡ b
byte_back b h = grind arith
