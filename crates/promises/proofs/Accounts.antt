-- Every accepted request is answered once, withdrawn, or waits; and the tally counts.
use Rattle.std.proofs.lemmas.Bool.Decides.{nat_tests}
use Rattle.std.proofs.Common.{◌≡◌, ℕ, ◌+◌, ◌≤◌, Bool, false, ◌⊎◌, List, ◌∷◌, ◌++◌, length, refl, ap, ◌∙◌, ⊎_elim, arith, length-append, []}
use Rattle.std.proofs.lemmas.List.Sums.{sum_by-cons, sum_by-append}
use Rattle.tagged.specs.declared.answers.Outcome.{Outcome}
use Rattle.tagged.specs.declared.answers.Outcome.TheVariants.{Done, Discarded, Trap, Waits}
use Rattle.promises.specs.Board.{Entry, State, Counts}
use Rattle.promises.specs.Calls.{Call}
use Rattle.promises.specs.Copies.{over_cores}
use Rattle.promises.specs.Steps.{count_outcome, count_accepted}
use Rattle.promises.specs.OneMemory.{is_answer}
use Rattle.promises.specs.Promises.{times, number_if, had_outcome, accepted_by, answered_by, withdrawn_by, over_calls}
use Rattle.promises.proofs.Counting.{numbers, one, Measure, length_measure, times_measure}
use Rattle.std.specs.List.{sum_by}

-- how many waiting requests have number k
abbrev pub waits_for : State → ℕ → ℕ
waits_for s k = over_cores (λ c. times k (numbers (s.waiting c)))

abbrev pub wait_count : State → ℕ
wait_count s = over_cores (λ c. length (s.waiting c))

pub record Accounts (h : List Call) (s : State) : Type 0 where
  pub account : (k : ℕ) → times k (over_calls accepted_by h) ≡ times k (over_calls (answered_by is_answer) h) + times k (over_calls withdrawn_by h) + waits_for s k
  pub fresh : (k : ℕ) → s.next ≤ k → times k (over_calls accepted_by h) ≡ 0
  pub once : (k : ℕ) → times k (over_calls accepted_by h) ≤ 1
  pub accepted : s.counts.accepted ≡ length (over_calls accepted_by h)
  pub done : s.counts.done ≡ length (over_calls (answered_by (had_outcome Done)) h)
  pub discarded : s.counts.discarded ≡ length (over_calls (answered_by (had_outcome Discarded)) h)
  pub trapped : s.counts.trapped ≡ length (over_calls (answered_by (had_outcome Trap)) h)
  pub withdrawn : s.counts.withdrawn ≡ length (over_calls withdrawn_by h)
  pub sum : s.counts.accepted ≡ s.counts.done + s.counts.discarded + s.counts.trapped + s.counts.withdrawn + wait_count s

-- what a call adds to the counts: accepted numbers, an answer to request k with outcome x, withdrawn numbers
pub record Counted (new : List ℕ) (x : Outcome) (k : ℕ) (gone : List ℕ) (before after : Counts) : Type 0 where
  pub accepted : after.accepted ≡ length new + before.accepted
  pub done : after.done ≡ length (number_if (had_outcome Done x) k) + before.done
  pub discarded : after.discarded ≡ length (number_if (had_outcome Discarded x) k) + before.discarded
  pub trapped : after.trapped ≡ length (number_if (had_outcome Trap x) k) + before.trapped
  pub withdrawn : after.withdrawn ≡ length gone + before.withdrawn
  pub sum : after.done + after.discarded + after.trapped ≡ length (number_if (is_answer x) k) + (before.done + before.discarded + before.trapped)

pub counted : (x : Outcome) (k : ℕ) (n : Counts) → Counted [] x k [] n (count_outcome x n)
counted x k n = grind arith

pub counted_new : (x : Outcome) (k : ℕ) (n : Counts) → Counted (k ∷ []) x k [] n (count_outcome x (count_accepted n))
counted_new x k n = grind arith

-- what a call adds: accepted numbers, an answer to request j with outcome x, withdrawn numbers
pub record Adds (c : Call) (s t : State) (new : List ℕ) (x : Outcome) (j : ℕ) (gone : List ℕ) : Type 0 where
  pub accepts : accepted_by c ≡ new
  pub answers : (p : Outcome → Bool) → p Waits ≡ false → answered_by p c ≡ number_if (p x) j
  pub withdraws : withdrawn_by c ≡ gone
  pub next : s.next ≤ t.next
  -- an accepted number is the next one
  pub given : (k : ℕ) → (times k new ≡ 0) ⊎ ((k ≡ s.next) × (times k new ≡ 1) × (t.next ≡ s.next + 1))
  -- by every count over the lists
  pub lists : (F : List Entry → ℕ) (a : ℕ → ℕ) → Measure F a → over_cores (λ c. F (t.waiting c)) + sum_by a (number_if (is_answer x) j) + sum_by a gone ≡ over_cores (λ c. F (s.waiting c)) + sum_by a new
  pub counts : Counted new x j gone s.counts t.counts

sum_ones : (ks : List ℕ) → sum_by (λ _. 1) ks ≡ length ks
sum_ones [] = refl
sum_ones (k ∷ ks) = omega (arith, sum_by-cons (λ (_ : ℕ). 1) k ks, sum_ones ks)

module _ (c : Call) (h : List Call) (s t : State) (new : List ℕ) (x : Outcome) (j : ℕ) (gone : List ℕ) (was : Accounts h s) (adds : Adds c s t new x j gone) where
  grows : (f : Call → List ℕ) (xs : List ℕ) → f c ≡ xs → (k : ℕ) → times k (over_calls f (c ∷ h)) ≡ times k xs + times k (over_calls f h)
  grows f xs e k = ap (λ l. times k (l ++ over_calls f h)) e ∙ sum_by-append (one k) xs (over_calls f h)

  longer : (f : Call → List ℕ) (xs : List ℕ) → f c ≡ xs → length (over_calls f (c ∷ h)) ≡ length xs + length (over_calls f h)
  longer f xs e = ap (λ l. length (l ++ over_calls f h)) e ∙ length-append xs (over_calls f h)

  pub accounts_more : Accounts (c ∷ h) t
  accounts_more = record {
    account = λ k. omega (arith, grows accepted_by new adds.accepts k, grows (answered_by is_answer) (number_if (is_answer x) j) (adds.answers is_answer refl) k, grows withdrawn_by gone adds.withdraws k, was.account k, adds.lists _ _ (times_measure k));
    fresh = λ k past.
        ⊎_elim (λ none. omega (arith, grows accepted_by new adds.accepts k, was.fresh k (omega (arith, adds.next)))) (λ p. absurd (omega (arith, p.0, p.2))) (adds.given k);
    once = λ k.
        ⊎_elim (λ none. omega (arith, grows accepted_by new adds.accepts k, was.once k)) (λ p. omega (arith, grows accepted_by new adds.accepts k, was.fresh k (omega (arith, p.0)), p.1)) (adds.given k);
    accepted = omega (arith, longer accepted_by new adds.accepts, was.accepted, adds.counts.accepted);
    done = grind (arith, nat_tests);
    discarded = grind (arith, nat_tests);
    trapped = grind (arith, nat_tests);
    withdrawn = grind (arith, nat_tests);
    sum = omega (arith, was.sum, adds.counts.sum, adds.lists _ _ length_measure, sum_ones (number_if (is_answer x) j), sum_ones gone, sum_ones new, adds.counts.accepted, adds.counts.withdrawn);
  }
