-- Every run keeps every promise.
use Rattle.std.proofs.Common.{◌∷◌}
use Rattle.promises.specs.Promises.{EveryRunKeepsItsPromises, OneMoreStepKeepsThePromises}
use Rattle.promises.specs.Runs.{goes_on}
use Rattle.promises.proofs.Coherent.{coherent}
use Rattle.promises.proofs.Accounted.{accounted}
use Rattle.promises.proofs.Spoken.{speaks_true}
use Rattle.promises.proofs.Deciding.{decides_after_issue}
use Rattle.promises.proofs.DecidedOnce.{decides_once}
use Rattle.promises.proofs.Ordered.{decides_in_issue_order}

pub promises_kept : EveryRunKeepsItsPromises
promises_kept r law o h s ran =
    let caches = coherent r law o h s ran in
    let accounts = accounted r law o h s ran in
    record {
      writers_are_alone = caches.writers_are_alone;
      copies_are_equal = caches.copies_are_equal;
      all_speak_true = speaks_true r law o h s ran;
      decided_once = decides_once r law o h s ran;
      decided_after_issue = decides_after_issue r law o h s ran;
      decided_in_issue_order = decides_in_issue_order r law o h s ran;
      requests_are_accounted = accounts.requests_are_accounted;
      numbers_are_given_once = accounts.numbers_are_given_once;
      tallies_are_true = accounts.tallies_are_true;
      nobody_sleeps_through = accounts.nobody_sleeps_through;
    }

pub step_keeps : OneMoreStepKeepsThePromises
step_keeps r law o h s ran c t taken = promises_kept r law o (c ∷ h) t (goes_on {h = h} {s = s} c ran taken)
