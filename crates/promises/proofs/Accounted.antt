-- Every run is accounted for.
use Rattle.std.proofs.lemmas.Bool.Decides.{nat_tests}
use Rattle.std.proofs.Common.{◌≡◌, ℕ, List, ◌∷◌, arith}
use Rattle.std.proofs.lemmas.List.Sums.{sum_by-append}
use Rattle.protocol.specs.Rules.{Rules, Lawful}
use Rattle.promises.specs.Board.{State}
use Rattle.promises.specs.Calls.{Call, issue, grant, give_back, snoop, settle, withdraw, evict, drain, look, save, tally}
use Rattle.promises.specs.Steps.{Step}
use Rattle.promises.specs.Runs.{Opening, Ran, opens, goes_on}
use Rattle.promises.specs.OneMemory.{one_memory}
use Rattle.promises.specs.Promises.{times, waiting_numbers, TallyIsTrue, TalliesAreTrue, Accounted, EveryRunIsAccounted}
use Rattle.promises.proofs.Counting.{one}
use Rattle.promises.proofs.Accounts.{waits_for, Accounts}
use Rattle.promises.proofs.Adding.{issue_adds, grant_adds, give_back_adds, snoop_adds, settle_adds, withdraw_adds, evict_adds, drain_adds, look_adds, save_adds, tally_adds}
use Rattle.promises.proofs.Sound.{Sound}
use Rattle.promises.proofs.Coherent.{run_sound}

-- a number waits as often as it stands in the lists
waiting_times : (s : State) (k : ℕ) → times k (waiting_numbers s) ≡ waits_for s k
waiting_times s k = simp (sum_by-append (one k)) (omega arith)

module _ (r : Rules) (law : Lawful r) (o : Opening) where
  step : (h : List Call) (s t : State) (c : Call) → Sound r (one_memory o.memory h) s → Accounts h s → Step r s c t → Accounts (c ∷ h) t
  step h s t (issue c k w v a) sound was x = issue_adds h s was r law (one_memory o.memory h) sound c k w v a t x
  step h s t (grant c a) sound was x = grant_adds h s was r c a t x
  step h s t (give_back slip a) sound was x = give_back_adds h s was r slip a t x
  step h s t (snoop slip a) sound was x = snoop_adds h s was r slip sound.tenure a t x
  step h s t (settle slip a) sound was x = settle_adds h s was r slip sound.tenure a t x
  step h s t (withdraw k a) sound was x = withdraw_adds h s was r k a t x
  step h s t (evict c w a) sound was x = evict_adds h s was r c w a t x
  step h s t (drain a) sound was x = drain_adds h s was r a t x
  step h s t (look w a) sound was x = look_adds h s was r w a t x
  step h s t (save before after a) sound was x = save_adds h s was r before after a t x
  step h s t (tally a) sound was x = tally_adds h s was r a t x

  pub run_accounts : (h : List Call) (s : State) → Ran r o h s → Accounts h s
  run_accounts _ s (opens agree) = grind (arith, nat_tests)
  run_accounts _ t (goes_on {h} {s} c before taken) = step h s t c (run_sound r law o h s before) (run_accounts h s before) taken

  -- a tally answers the counts
  tally_true : (h : List Call) (s t : State) (c : Call) → Accounts h s → Step r s c t → TallyIsTrue h c
  tally_true h s t (issue c k w v a) was x = tt
  tally_true h s t (grant c a) was x = tt
  tally_true h s t (give_back slip a) was x = tt
  tally_true h s t (snoop slip a) was x = tt
  tally_true h s t (settle slip a) was x = tt
  tally_true h s t (withdraw k a) was x = tt
  tally_true h s t (evict c w a) was x = tt
  tally_true h s t (drain a) was x = tt
  tally_true h s t (look w a) was x = tt
  tally_true h s t (save before after a) was x = tt
  tally_true h s t (tally a) was x = grind (arith, nat_tests)

  run_tallies : (h : List Call) (s : State) → Ran r o h s → TalliesAreTrue h
  run_tallies _ s (opens agree) = tt
  run_tallies _ t (goes_on {h} {s} c before taken) = (tally_true h s t c (run_accounts h s before) taken, run_tallies h s before)

  pub run_accounted : (h : List Call) (s : State) → Ran r o h s → Accounted o h s
  run_accounted h s ran =
      let was = run_accounts h s ran in
      record {
        requests_are_accounted = λ k. omega (arith, was.account k, waiting_times s k);
        numbers_are_given_once = was.once;
        tallies_are_true = run_tallies h s ran;
        nobody_sleeps_through = (run_sound r law o h s ran).sleepers;
      }

pub accounted : EveryRunIsAccounted
accounted r law o h s ran = run_accounted r law o h s ran
