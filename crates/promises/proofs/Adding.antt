-- What each call adds to the accounts.
use Rattle.std.proofs.Common.{◌≡◌, ℕ, ◌+◌, ◌<◌, Bool, true, cond, not, ◌&&◌, List, [], ◌∷◌, ◌++◌, map, Ok, Option, sym, refl, ap, ◌∙◌, subst, inl, arith}
use Rattle.std.proofs.lemmas.Bool.Decides.{nat_tests}
use Rattle.std.proofs.lemmas.Bool.{not-false, cond_both}
use Rattle.std.proofs.lemmas.List.Sums.{sum_by-cons}
use Rattle.protocol.specs.Rules.{Rules, Lawful}
use Rattle.tagged.specs.Operations.{class_of, operation_coded}
use Rattle.tagged.specs.declared.answers.Answer.{Answer}
use Rattle.tagged.specs.declared.answers.Notice.{Notice}
use Rattle.tagged.specs.declared.answers.Outcome.{Outcome}
use Rattle.tagged.specs.declared.answers.Outcome.TheVariants.{Done, Discarded, Trap, Waits}
use Rattle.tagged.specs.declared.operations.Operation.{Operation}
use Rattle.tagged.specs.declared.words.Word.{Word}
use Rattle.tagged.specs.declared.words.WordState.TheVariants.{Empty}
use Rattle.promises.specs.Board.{Entry, Tenure, Found, own_copy, read_in, claimed, unmet, State}
use Rattle.promises.specs.Calls.{Slip, SnoopReport, Tally, OrRefused, Call, issue, grant, give_back, snoop, settle, withdraw, evict, drain, look, save, tally}
use Rattle.promises.specs.Copies.{over_cores, any_core}
use Rattle.promises.specs.Lists.{any_entry, numbered, without, put_to_sleep, wake}
use Rattle.promises.specs.Refusing.{first_reason, withdraw_reasons}
use Rattle.promises.specs.Steps.{Step, updated, answer_undone, in_reach, own_met, snoop_met, waits, snoop_state, settle_state, settle_answer, answers_now, issue_served, issue_now, issue_later, holder, withdrawn_state, count_outcome, count_accepted}
use Rattle.promises.specs.OneMemory.{TaggedMemory, is_answer}
use Rattle.promises.specs.Promises.{number_if, accepted_by, answered_by, withdrawn_by}
use Rattle.std.specs.List.{sum_by}
use Rattle.promises.proofs.Frames.{lowest_passes}
use Rattle.promises.proofs.Entries.{present_numbered}
use Rattle.promises.proofs.Counting.{Measure, measure_wake, measure_sleep, measure_add, measure_remove, over_updated, over_same, one}
use Rattle.promises.proofs.Accounts.{Accounts, counted, counted_new, Adds, accounts_more}
use Rattle.promises.proofs.OnIssue.{answers}
use Rattle.promises.proofs.Sound.{WaitsIn, TenureWaits, Sound, answer_now, cleared, by_reply, by_issue, by_snoop, by_settle}

-- the lists have as many requests as before, by every count
abbrev ListsSame : State → State → Type 0
ListsSame s t = (F : List Entry → ℕ) (a : ℕ → ℕ) → Measure F a → over_cores (λ c. F (t.waiting c)) ≡ over_cores (λ c. F (s.waiting c))

sum_number : (a : ℕ → ℕ) (b : Bool) (k : ℕ) → sum_by a (number_if b k) ≡ cond b (a k) 0
sum_number a b k = grind (arith, sum_by-cons a k [])

-- a call that accepts, answers and withdraws nothing
nothing_added : (c : Call) (s t : State) → accepted_by c ≡ [] → ((p : Outcome → Bool) → answered_by p c ≡ []) → withdrawn_by c ≡ [] → t.next ≡ s.next → t.counts ≡ s.counts → ListsSame s t → Adds c s t [] Waits 0 []
nothing_added c s t new ans gone next counts lists = record {
  accepts = new;
  answers = λ p e. ans p ∙ ap (λ b. number_if b 0) (sym e);
  withdraws = gone;
  next = omega (arith, next);
  given = λ k. inl refl;
  lists = λ F a m. omega (arith, lists F a m);
  counts = rw counts (counted Waits 0 s.counts);
}

module _ (h : List Call) (s : State) (was : Accounts h s) where
  -- the same lists, and so the same accounts
  unchanged : (c : Call) (t : State) → accepted_by c ≡ [] → ((p : Outcome → Bool) → answered_by p c ≡ []) → withdrawn_by c ≡ [] → t.next ≡ s.next → t.counts ≡ s.counts → ((d : ℕ) → t.waiting d ≡ s.waiting d) → Accounts (c ∷ h) t
  unchanged c t new ans gone next counts lists = accounts_more c h s t [] Waits 0 [] was (nothing_added c s t new ans gone next counts (λ F a m. over_same _ _ (λ d. ap F (lists d))))

  pub grant_adds : (r : Rules) (c : ℕ) (a : OrRefused Slip) (t : State) → Step r s (grant c a) t → Accounts (grant c a ∷ h) t
  grant_adds r c a t step = unchanged _ t refl (λ p. refl) refl (grind arith) (grind arith) (λ d. grind arith)

  pub give_back_adds : (r : Rules) (slip : Slip) (a : OrRefused (Unit {0})) (t : State) → Step r s (give_back slip a) t → Accounts (give_back slip a ∷ h) t
  give_back_adds r slip a t step = unchanged _ t refl (λ p. refl) refl (grind arith) (grind arith) (λ d. grind arith)

  pub evict_adds : (r : Rules) (c w : ℕ) (a : OrRefused (Unit {0})) (t : State) → Step r s (evict c w a) t → Accounts (evict c w a ∷ h) t
  evict_adds r c w a t step = unchanged _ t refl (λ p. refl) refl (grind arith) (grind arith) (λ d. grind arith)

  pub drain_adds : (r : Rules) (a : OrRefused (Unit {0})) (t : State) → Step r s (drain a) t → Accounts (drain a ∷ h) t
  drain_adds r a t step = unchanged _ t refl (λ p. refl) refl (grind arith) (grind arith) (λ d. grind arith)

  pub look_adds : (r : Rules) (w : ℕ) (a : OrRefused Word) (t : State) → Step r s (look w a) t → Accounts (look w a ∷ h) t
  look_adds r w a t step = unchanged _ t refl (λ p. refl) refl step.1.next step.1.counts step.1.waiting

  pub save_adds : (r : Rules) (before after : List ℕ) (a : OrRefused ℕ) (t : State) → Step r s (save before after a) t → Accounts (save before after a ∷ h) t
  save_adds r before after a t step = unchanged _ t refl (λ p. refl) refl step.2.next step.2.counts step.2.waiting

  pub tally_adds : (r : Rules) (a : Tally) (t : State) → Step r s (tally a) t → Accounts (tally a ∷ h) t
  tally_adds r a t step = unchanged _ t refl (λ p. refl) refl step.1.next step.1.counts step.1.waiting

  -- SNOOP
  module _ (r : Rules) (slip : Slip) where
    slept : (t : Tenure) → t.core < 8 → ListsSame s (snoop_state r s t)
    slept t core F a m =
        cond_both (not (snoop_met r s t) && waits (class_of t.entry.operation)) _ s.waiting (λ (f : ℕ → List Entry). over_cores (λ c. F (f c)) ≡ over_cores (λ c. F (s.waiting c)))
        (λ e. omega (arith, over_updated F s.waiting t.core (put_to_sleep t.entry.number (s.waiting t.core)) core, measure_sleep m t.entry.number (s.waiting t.core)))
        (λ e. refl)

    pub snoop_adds : TenureWaits s s.bus → (a : OrRefused (Slip × SnoopReport)) (t : State) → Step r s (snoop slip a) t → Accounts (snoop slip a ∷ h) t
    snoop_adds here a t step =
        by_snoop (λ b u. Accounts (snoop slip b ∷ h) u) r s t slip a step (λ e. unchanged _ s refl (λ p. refl) refl refl refl (λ d. refl))
        (λ x bus number. accounts_more _ h s (snoop_state r s x) [] Waits 0 [] was (nothing_added _ s (snoop_state r s x) refl (λ p. refl) refl refl refl (slept x (subst (TenureWaits s) bus here).core)))

  -- SETTLE
  module _ (r : Rules) (slip : Slip) where
    module _ (t : Tenure) (here : WaitsIn s t) where
      -- the lists without the answered request
      left : (F : List Entry → ℕ) (a : ℕ → ℕ) → Measure F a → over_cores (λ c. F (updated s.waiting t.core (without t.entry.number (s.waiting t.core)) c)) + a t.entry.number ≡ over_cores (λ c. F (s.waiting c))
      left F a m = omega (arith, over_updated F s.waiting t.core (without t.entry.number (s.waiting t.core)) here.core, measure_remove m t.entry.number (s.waiting t.core) (present_numbered t.entry (s.waiting t.core) here.present))

      -- an answer of outcome x to the request, which leaves its list if that is an answer
      answered : (x : Outcome) (after : State) (answer : Answer) → answer.outcome ≡ x → answer.number ≡ t.entry.number → after.next ≡ s.next → after.counts ≡ count_outcome x s.counts → ((F : List Entry → ℕ) (a : ℕ → ℕ) → Measure F a → over_cores (λ c. F (after.waiting c)) + cond (is_answer x) (a t.entry.number) 0 ≡ over_cores (λ c. F (s.waiting c))) → Accounts (settle slip (Ok answer) ∷ h) after
      answered x after answer is number next counts lists =
          accounts_more _ h s after [] x t.entry.number [] was
          (record {
            accepts = refl;
            answers = λ p e. λ i. number_if (p (is i)) (number i);
            withdraws = refl;
            next = omega (arith, next);
            given = λ k. inl refl;
            lists = λ F a m. omega (arith, lists F a m, sum_number a (is_answer x) t.entry.number);
            counts = rw counts (counted x t.entry.number s.counts);
          })

      woken_left : (n : Option Notice) (F : List Entry → ℕ) (a : ℕ → ℕ) → Measure F a → over_cores (λ c. F (map (wake n t.entry.word) (updated s.waiting t.core (without t.entry.number (s.waiting t.core)) c))) + a t.entry.number ≡ over_cores (λ c. F (s.waiting c))
      woken_left n F a m = ap (λ x. x + a t.entry.number) (over_same _ _ (λ c. measure_wake m n t.entry.word (updated s.waiting t.core (without t.entry.number (s.waiting t.core)) c))) ∙ left F a m

      settled : (f : Found) → Accounts (settle slip (Ok (settle_answer r s t f)) ∷ h) (settle_state r s t f)
      settled own_copy = answered Done (settle_state r s t own_copy) (settle_answer r s t own_copy) refl refl refl refl (woken_left _)
      settled (read_in shared f) = answered Done (settle_state r s t (read_in shared f)) (settle_answer r s t (read_in shared f)) refl refl refl refl (woken_left _)
      settled (claimed f) = answered Done (settle_state r s t (claimed f)) (settle_answer r s t (claimed f)) refl refl refl refl (woken_left _)
      settled (unmet x z) = answered x (settle_state r s t (unmet x z)) (settle_answer r s t (unmet x z)) refl refl refl refl (unmet_left x)
        where
          unmet_left : (x : Outcome) (F : List Entry → ℕ) (a : ℕ → ℕ) → Measure F a → over_cores (λ c. F ((settle_state r s t (unmet x z)).waiting c)) + cond (is_answer x) (a t.entry.number) 0 ≡ over_cores (λ c. F (s.waiting c))
          unmet_left Done F a m = left F a m
          unmet_left Discarded F a m = left F a m
          unmet_left Trap F a m = left F a m
          unmet_left Waits F a m = omega arith

    pub settle_adds : TenureWaits s s.bus → (a : OrRefused Answer) (t : State) → Step r s (settle slip a) t → Accounts (settle slip a ∷ h) t
    settle_adds here a t step =
        by_settle (λ b u. Accounts (settle slip b ∷ h) u) r s t slip a step (λ e. unchanged _ s refl (λ p. refl) refl refl refl (λ d. refl)) (λ x f bus. settled x (subst (TenureWaits s) bus here) f)

  -- WITHDRAW
  pub withdraw_adds : (r : Rules) (k : ℕ) (a : OrRefused (Unit {0})) (t : State) → Step r s (withdraw k a) t → Accounts (withdraw k a ∷ h) t
  withdraw_adds r k a t step =
      by_reply (λ b u. Accounts (withdraw k b ∷ h) u) s t (withdrawn_state s k) (first_reason (withdraw_reasons s k)) _ a step.0 step.1 (λ e. unchanged _ s refl (λ p. refl) refl refl refl (λ d. refl))
      (λ none.
      let has = not-false (any_core (λ c. any_entry (numbered k) (s.waiting c))) (cleared (withdraw_reasons s k) none).0 in
      let low = lowest_passes (λ c. any_entry (numbered k) (s.waiting c)) has in
      let lists : (F : List Entry → ℕ) (a : ℕ → ℕ) → Measure F a → over_cores (λ c. F ((withdrawn_state s k).waiting c)) + a k ≡ over_cores (λ c. F (s.waiting c)) =
      λ F a m. omega (arith, over_updated F s.waiting (holder s k) (without k (s.waiting (holder s k))) low.1, measure_remove m k (s.waiting (holder s k)) low.0)
      in
      accounts_more _ h s (withdrawn_state s k) [] Waits 0 (k ∷ []) was
      (record {
        accepts = refl;
        answers = λ p e. ap (λ b. number_if b 0) (sym e);
        withdraws = refl;
        next = omega arith;
        given = λ j. inl refl;
        lists = λ F a m. omega (arith, lists F a m, sum_by-cons a k []);
        counts = grind arith;
      }))

  -- ISSUE
  module _ (r : Rules) (law : Lawful r) (m : TaggedMemory) (sound : Sound r m s) (c k w v : ℕ) where
    abbrev o : Operation
    o = operation_coded k

    -- the next number is accepted, and answered with outcome x or put into the list
    accepted_now : (x : Outcome) (after : State) (answer : Answer) → answer.outcome ≡ x → answer.number ≡ s.next → after.next ≡ s.next + 1 → after.counts ≡ count_outcome x (count_accepted s.counts) → ((F : List Entry → ℕ) (a : ℕ → ℕ) → Measure F a → over_cores (λ d. F (after.waiting d)) + cond (is_answer x) (a s.next) 0 ≡ over_cores (λ d. F (s.waiting d)) + a s.next) → Accounts (issue c k w v (Ok answer) ∷ h) after
    accepted_now x after answer is number next counts lists =
        accounts_more _ h s after (s.next ∷ []) x s.next [] was
        (record {
          accepts = ap (λ j. j ∷ []) number;
          answers = λ p e. λ i. number_if (p (is i)) (number i);
          withdraws = refl;
          next = omega (arith, next);
          given = λ j. grind (arith, nat_tests, sum_by-cons (one j) s.next []);
          lists = λ F a m. omega (arith, lists F a m, sum_number a (is_answer x) s.next, sum_by-cons a s.next []);
          counts = rw counts (counted_new x s.next s.counts);
        })

    later : c < 8 → Accounts (issue c k w v (Ok (answer_undone s.next Waits Empty)) ∷ h) (issue_later r s c o w v)
    later core =
        accepted_now Waits (issue_later r s c o w v) (answer_undone s.next Waits Empty) refl refl refl refl
        (λ F a x. omega (arith, over_updated F s.waiting c (s.waiting c ++ entry ∷ []) core, measure_add x (s.waiting c) entry))
      where
        entry : Entry
        entry = record { number = s.next; operation = o; word = w; value = v; asleep = in_reach r s c o w v && not (own_met r s c o w v) }

    now : answers_now r s c o w v ≡ true → Accounts (issue c k w v (Ok (answer_now r s c o w v)) ∷ h) (issue_now r s c o w v)
    now y =
        accepted_now (issue_served r s c o w v).outcome (issue_now r s c o w v) _ refl refl refl refl
        (λ F a x. ap (λ b. over_cores (λ d. F ((issue_now r s c o w v).waiting d)) + cond b (a s.next) 0) (answers r law m s sound c o w v y) ∙ ap (λ z. z + a s.next) (over_same _ _ (λ d. measure_wake x (issue_served r s c o w v).notice w (s.waiting d))))

    pub issue_adds : (a : OrRefused Answer) (t : State) → Step r s (issue c k w v a) t → Accounts (issue c k w v a ∷ h) t
    issue_adds a t step = by_issue (λ b u. Accounts (issue c k w v b ∷ h) u) r s t c k w v a step (λ e. unchanged _ s refl (λ p. refl) refl refl refl (λ d. refl)) now (λ core. later (omega (arith, sound.few_cores)))
