-- A decided request was issued before, and the one memory gave it something.
use Rattle.std.proofs.Common.{◌≡◌, ℕ, Bool, true, cond, List, [], ◌∷◌, Ok, Err, Option, arith, rules}
use Rattle.std.proofs.lemmas.Bool.Decides.{nat_tests}
use Rattle.promises.specs.Calls.{Call, issue, grant, give_back, snoop, settle, withdraw, evict, drain, look, save, tally}
use Rattle.promises.specs.Runs.{Opening}
use Rattle.promises.specs.OneMemory.{Note, TaggedMemory, serve_noted, feed, one_memory}
use Rattle.promises.specs.Promises.{DecidedAfterIssue, EveryRunDecidesAfterIssue, SpeaksTrue, AllSpeakTrue}
use Rattle.promises.proofs.Counting.{one}
use Rattle.promises.proofs.Spoken.{run_speaks}

pub counts_it : (m : TaggedMemory) (k : ℕ) (x : Option Note) → (serve_noted m k x).decided ≡ k ∷ m.decided
counts_it m k x = grind arith

-- a number is counted for itself, and for no other
pub one_itself : (k : ℕ) → one k k ≡ 1
one_itself k = grind (arith, nat_tests)

pub one_other : (j k : ℕ) → (j ≡ k → ⊥) → one j k ≡ 0
one_other j k ne = grind (arith, nat_tests)

pub when_answered : {P : Type 0} (b : Bool) → b ≡ true → cond {A = Type 0} b P (Unit {0}) → P
when_answered b e p = rw e at p

module _ (o : Opening) (m : TaggedMemory) (was : DecidedAfterIssue m) where
  after_call : (c : Call) → SpeaksTrue o (feed m c) c → DecidedAfterIssue (feed m c)
  after_call (issue c k w v (Ok a)) speaks = search rules
  after_call (issue c k w v (Err e)) speaks = was
  after_call (grant c a) speaks = was
  after_call (give_back slip a) speaks = was
  after_call (snoop slip (Ok x)) speaks = grind (arith, nat_tests)
  after_call (snoop slip (Err e)) speaks = was
  after_call (settle slip (Ok a)) speaks = grind (arith, nat_tests)
  after_call (settle slip (Err e)) speaks = was
  after_call (withdraw k a) speaks = was
  after_call (evict c w a) speaks = was
  after_call (drain a) speaks = was
  after_call (look w a) speaks = was
  after_call (save before after a) speaks = was
  after_call (tally a) speaks = was

-- a history whose answers are the memory's decides only what was issued
pub history_decides : (o : Opening) (h : List Call) → AllSpeakTrue o h → DecidedAfterIssue (one_memory o.memory h)
history_decides o [] speaks = λ k often. absurd (omega arith)
history_decides o (c ∷ h) speaks = after_call o (one_memory o.memory h) (history_decides o h speaks.1) c speaks.0

pub decides_after_issue : EveryRunDecidesAfterIssue
decides_after_issue r law o h s ran = history_decides o h (run_speaks r law o h s ran)
