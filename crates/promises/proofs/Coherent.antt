-- Every run is sound, and so coherent.
use Rattle.std.proofs.lemmas.Bool.Decides.{nat_tests}
use Rattle.std.proofs.Common.{List, [], sym, refl, subst, arith}
use Rattle.std.proofs.lemmas.Bool.{both_ways}
use Rattle.protocol.specs.Rules.{Rules, Lawful}
use Rattle.promises.specs.Board.{State}
use Rattle.promises.specs.Calls.{Call, issue, grant, give_back, snoop, settle, withdraw, evict, drain, look, save, tally}
use Rattle.promises.specs.Steps.{Step}
use Rattle.promises.specs.Runs.{Opening, opened, Ran, opens, goes_on}
use Rattle.promises.specs.OneMemory.{TaggedMemory, one_memory, feed}
use Rattle.promises.specs.Promises.{EveryRunIsCoherent}
use Rattle.promises.proofs.Contents.{opening_line}
use Rattle.promises.proofs.Frames.{same_state_as}
use Rattle.promises.proofs.Copies.{keeps_empty}
use Rattle.promises.proofs.Sound.{Sound}
use Rattle.promises.proofs.OnBus.{grant_sound, give_back_sound, withdraw_sound, look_sound, save_sound, tally_sound}
use Rattle.promises.proofs.OnEvict.{evict_sound, drain_sound}
use Rattle.promises.proofs.OnIssue.{issue_sound}
use Rattle.promises.proofs.OnSettle.{settle_sound}
use Rattle.promises.proofs.OnSnoop.{snoop_sound}

module _ (r : Rules) (law : Lawful r) where
  opening_sound : (o : Opening) → Sound r (one_memory o.memory []) (opened o)
  opening_sound o = record {
    few_cores = o.few_cores;
    copies = record {
      codes = λ c i. omega arith;
      placed = λ c i k. absurd (both_ways (r.kept 0) law.zero_not_kept k);
      true_copies = λ c n k. absurd (keeps_empty r law (opened o) c n refl k);
      alone = λ c d n own k. absurd (keeps_empty r law (opened o) d n refl k);
      true_memory = λ n none quiet. opening_line o.memory n;
    };
    bus = tt;
    notes = λ c. tt;
    tenure = tt;
    sleepers = λ c. tt;
  }

  step : (m : TaggedMemory) (s t : State) (c : Call) → Sound r m s → Step r s c t → Sound r (feed m c) t
  step m s t (issue c k w v a) was h = issue_sound r law m s was c k w v a t h
  step m s t (grant c a) was h = grant_sound r m s was c a t h
  step m s t (give_back slip a) was h = give_back_sound r m s was slip a t h
  step m s t (snoop slip a) was h = snoop_sound r law m s was slip a t h
  step m s t (settle slip a) was h = settle_sound r law m s was slip a t h
  step m s t (withdraw k a) was h = withdraw_sound r m s was k a t h
  step m s t (evict c w a) was h = evict_sound r law m s was c w a t h
  step m s t (drain a) was h = drain_sound r law m s was a t h
  step m s t (look w a) was h = look_sound r m s was w a t h
  step m s t (save before after a) was h = save_sound r m s was before after a t h
  step m s t (tally a) was h = tally_sound r m s was a t h

  pub run_sound : (o : Opening) (h : List Call) (s : State) → Ran r o h s → Sound r (one_memory o.memory h) s
  run_sound o _ s (opens agree) = subst (Sound r _) (sym (same_state_as agree)) (opening_sound o)
  run_sound o _ t (goes_on {h} {s} c before taken) = step (one_memory o.memory h) s t c (run_sound o h s before) taken

pub coherent : EveryRunIsCoherent
coherent r law o h s ran =
    let sound = run_sound r law o h s ran in
    record {
      writers_are_alone = sound.copies.alone;
      copies_are_equal = λ c d n k l. grind (arith, nat_tests);
    }
