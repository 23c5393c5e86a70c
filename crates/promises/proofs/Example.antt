-- The example is a run: each answer is what the step computes.
use Rattle.std.proofs.Common.{ℕ, refl}
use Rattle.promises.specs.Board.{State, word_in, with_word_in}
use Rattle.promises.specs.Calls.{Slip, to_snoop, to_settle}
use Rattle.promises.specs.Copies.{keeps, stands}
use Rattle.promises.specs.Steps.{Agree, issue_after, grant_after, snoop_after, settle_after}
use Rattle.promises.specs.Runs.{opens, goes_on, opened}
use Rattle.promises.specs.Example.{example_rules, example_opening, ExampleIsARun}

agrees : (s : State) → Agree s s
agrees s = record { setup = refl; next = refl; counts = refl; frame = λ c i. refl; waiting = λ c. refl; bus = refl; memory = λ n. refl }

abbrev slip : ℕ → Slip
slip k = record { board = 0; number = k; stage = to_snoop }

abbrev settling : ℕ → Slip
settling k = record { board = 0; number = k; stage = to_settle }

abbrev s0 : State
s0 = opened example_opening

abbrev s1 : State
s1 = issue_after example_rules s0 0 6 5 0

abbrev s2 : State
s2 = grant_after s1 0

abbrev s3 : State
s3 = snoop_after example_rules s2 (slip 1)

abbrev s4 : State
s4 = settle_after example_rules s3 (settling 1)

abbrev s5 : State
s5 = issue_after example_rules s4 1 3 5 77

abbrev s6 : State
s6 = grant_after s5 1

abbrev s7 : State
s7 = snoop_after example_rules s6 (slip 2)

abbrev s8 : State
s8 = settle_after example_rules s7 (settling 2)

abbrev s9 : State
s9 = grant_after s8 0

abbrev s10 : State
s10 = snoop_after example_rules s9 (slip 1)

abbrev s11 : State
s11 = settle_after example_rules s10 (settling 1)

pub example_ran : ExampleIsARun
unfolding word_in with_word_in keeps stands
example_ran = (
  s11,
  goes_on _ (goes_on _ (goes_on _ (goes_on _ (goes_on _ (goes_on _ (goes_on _ (goes_on _ (goes_on _ (goes_on _ (goes_on _ (goes_on _ (goes_on _ (opens (agrees s0))
      (refl, agrees s1)) (refl, agrees s2)) (refl, agrees s3)) (refl, agrees s4)) (refl, agrees s5)) (refl, agrees s6)) (refl, agrees s7)) (refl, agrees s8)) (refl, agrees s9)) (refl, agrees s10)) (refl, agrees s11)) (refl, agrees s11)) (refl, agrees s11),
)
