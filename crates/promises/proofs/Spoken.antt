-- Every answer, look and save of a run is that of one tagged memory.
use Rattle.promises.proofs.Sound.{by_issue, by_snoop}
use Rattle.std.proofs.lemmas.Bool.Decides.{nat_tests}
use Rattle.std.proofs.Common.{◌≡◌, List, [], sym, ap, ◌∙◌, subst, arith, refl}
use Rattle.protocol.specs.Rules.{Rules, Lawful}
use Rattle.promises.specs.Board.{Setup, State}
use Rattle.promises.specs.Calls.{Call, issue, grant, give_back, snoop, settle, withdraw, evict, drain, look, save, tally}
use Rattle.promises.specs.Steps.{Step}
use Rattle.promises.specs.Runs.{Opening, opened, Ran, opens, goes_on}
use Rattle.promises.specs.OneMemory.{one_memory}
use Rattle.promises.specs.Promises.{AllSpeakTrue, EveryRunSpeaksTrue}
use Rattle.promises.proofs.Coherent.{run_sound}
use Rattle.promises.proofs.Speaking.{Owed, owed_after_call, call_speaks}

-- no call changes what a board was opened with
module _ (r : Rules) (s : State) where
  step_setup : (t : State) (c : Call) → Step r s c t → t.setup ≡ s.setup
  step_setup t (issue c k w v a) step = by_issue (λ b u. u.setup ≡ s.setup) r s t c k w v a step (λ e. refl) (λ y. refl) (λ core. refl)
  step_setup t (grant c a) step = grind (arith, nat_tests)
  step_setup t (give_back slip a) step = grind (arith, nat_tests)
  step_setup t (snoop slip a) step = by_snoop (λ b u. u.setup ≡ s.setup) r s t slip a step (λ e. refl) (λ x bus number. refl)
  step_setup t (settle slip a) step = grind (arith, nat_tests)
  step_setup t (withdraw k a) step = grind (arith, nat_tests)
  step_setup t (evict c w a) step = grind (arith, nat_tests)
  step_setup t (drain a) step = grind (arith, nat_tests)
  step_setup t (look w a) step = step.1.setup
  step_setup t (save before after a) step = step.2.setup
  step_setup t (tally a) step = step.1.setup

module _ (r : Rules) (law : Lawful r) (o : Opening) where
  run_setup : (h : List Call) (s : State) → Ran r o h s → s.setup ≡ (opened o).setup
  run_setup _ s (opens agree) = agree.setup
  run_setup _ t (goes_on {h} {s} c before taken) = step_setup r s t c taken ∙ run_setup h s before

  pub run_owed : (h : List Call) (s : State) → Ran r o h s → Owed (one_memory o.memory h) s.bus
  run_owed _ s (opens agree) = subst (Owed (one_memory o.memory [])) (sym agree.bus) tt
  run_owed _ t (goes_on {h} {s} c before taken) = owed_after_call r law o (one_memory o.memory h) s (run_sound r law o h s before) (run_owed h s before) (ap (λ (x : Setup). x.lines) (run_setup h s before)) c t taken

  pub run_speaks : (h : List Call) (s : State) → Ran r o h s → AllSpeakTrue o h
  run_speaks _ s (opens agree) = tt
  run_speaks _ t (goes_on {h} {s} c before taken) = (
    call_speaks r law o (one_memory o.memory h) s (run_sound r law o h s before) (run_owed h s before) (ap (λ (x : Setup). x.lines) (run_setup h s before)) c t taken,
    run_speaks h s before,
  )

pub speaks_true : EveryRunSpeaksTrue
speaks_true r law o h s ran = run_speaks r law o h s ran
