-- Nobody sleeps through what it waits for: waking follows the word's state.
use Rattle.std.proofs.Common.{◌≡◌, ℕ, true, false, Option, arith}
use Rattle.std.proofs.lemmas.Bool.Decides.{nat_tests}
use Rattle.tagged.specs.Rule.{meets, met, rule, notice_of}
use Rattle.tagged.specs.declared.answers.Notice.{Notice}
use Rattle.tagged.specs.declared.operations.Operation.{Operation}
use Rattle.tagged.specs.declared.words.Word.{Word}
use Rattle.tagged.specs.declared.words.WordState.{WordState}
use Rattle.promises.specs.Board.{Entry}
use Rattle.promises.specs.Lists.{told_state, needs_told, wake}
use Rattle.promises.specs.Steps.{updated}

-- a sleeper's condition is unmet by the one tagged memory
abbrev pub SleepsRight : (ℕ → Word) → Entry → Type 0
SleepsRight T e = e.asleep ≡ true → met e.operation (T e.word).state ≡ false

-- what was unmet and is not told of is still unmet
untold : (q : Option WordState) (old new : WordState) → meets q old ≡ false → needs_told q (told_state (notice_of old new)) ≡ false → meets q new ≡ false
untold q old new e f = grind arith

-- word w changes to x, and the notice tells of it
pub woken_right : (T : ℕ → Word) (w : ℕ) (x : Word) (n : Option Notice) → n ≡ notice_of (T w).state x.state → (e : Entry) → SleepsRight T e → SleepsRight (updated T w x) (wake n w e)
woken_right T w x n told e right = grind (arith, nat_tests, untold)

-- the notice of the rule for one word tells of its change
pub rule_tells : (o : Operation) (x : Word) (v : ℕ) → (rule o x v).notice ≡ notice_of x.state (rule o x v).word.state
rule_tells o x v = grind arith
