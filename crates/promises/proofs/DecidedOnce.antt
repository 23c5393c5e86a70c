-- No request is decided twice: what is decided was answered, or is owed to the request that has the bus.
use Rattle.std.proofs.lemmas.Bool.Decides.{nat_tests}
use Rattle.std.proofs.Common.{◌≡◌, ℕ, ◌+◌, ◌≤◌, Bool, true, false, cond, ◌&&◌, eqb, List, [], ◌∷◌, ◌++◌, Ok, Option, sym, refl, ap, ◌∙◌, subst, ⊎_elim, arith, rules}
use Rattle.std.proofs.lemmas.Bool.{cases_Bool, not-false, cond-false}
use Rattle.std.proofs.lemmas.List.Sums.{sum_by-cons, sum_by-append}
use Rattle.protocol.specs.Rules.{Rules, Lawful}
use Rattle.tagged.specs.Operations.{class_of, operation_coded}
use Rattle.tagged.specs.declared.answers.Answer.{Answer}
use Rattle.tagged.specs.declared.answers.Outcome.TheVariants.{Waits}
use Rattle.tagged.specs.declared.words.WordState.TheVariants.{Empty}
use Rattle.promises.specs.Board.{Entry, Tenure, Found, own_copy, read_in, claimed, unmet, Bus, free, granted, snooped, State}
use Rattle.promises.specs.Calls.{to_snoop, Slip, Call, issue, grant, give_back, snoop, settle, withdraw, evict, drain, look, save, tally}
use Rattle.promises.specs.Lists.{without, oldest_ready}
use Rattle.promises.specs.Refusing.{first_reason, is_free, bus_at, grant_reasons, slip_reasons}
use Rattle.promises.specs.Steps.{Step, grant_bus, snoop_met, snoop_word, snoop_kind, snoop_found, settle_state, settle_answer, answer_undone}
use Rattle.promises.specs.Runs.{Opening, Ran, opens, goes_on}
use Rattle.promises.specs.OneMemory.{TaggedMemory, note, decide, noted_gives_up, is_done, is_answer, feed, one_memory}
use Rattle.promises.specs.Promises.{times, number_if, answered_by, over_calls, EveryRunDecidesOnce}
use Rattle.promises.proofs.Entries.{present_numbered}
use Rattle.promises.proofs.Counting.{one, times_measure, over_updated, measure_remove, numbers}
use Rattle.promises.proofs.Accounts.{waits_for}
use Rattle.promises.proofs.Accounted.{run_accounts}
use Rattle.promises.proofs.Coherent.{run_sound}
use Rattle.promises.proofs.Tenures.{FoundTrue, BusTrue, unmet_undone, answers_gives_up}
use Rattle.promises.proofs.Sound.{WaitsIn, TenureWaits, Sound, tenure_noted, answer_now, cleared, by_reply, by_issue, at_bus, by_snoop, by_settle}
use Rattle.promises.proofs.Deciding.{counts_it}

-- how often number k is owed an answer that is decided
abbrev owed : ℕ → Bus → ℕ
owed k free = 0
owed k (granted t) = 0
owed k (snooped t own_copy) = 0
owed k (snooped t (read_in shared f)) = 0
owed k (snooped t (claimed f)) = 0
owed k (snooped t (unmet o x)) = times k (number_if (is_answer o) t.entry.number)

abbrev Balanced : List Call → TaggedMemory → Bus → Type 0
Balanced h m b = (k : ℕ) → times k m.decided ≡ times k (over_calls (answered_by is_answer) h) + owed k b

-- a memory that decides number k or not
decided_if : (b : Bool) (p q : TaggedMemory) (k : ℕ) (ks : List ℕ) → p.decided ≡ k ∷ ks → q.decided ≡ ks → (cond b p q).decided ≡ number_if b k ++ ks
decided_if true p q k ks e f = e
decided_if false p q k ks e f = f

free_owes : (k : ℕ) (b : Bus) → is_free b ≡ true → owed k b ≡ 0
free_owes k b e = grind arith

granted_owes : (k j : ℕ) (b : Bus) → bus_at b to_snoop j ≡ true → owed k b ≡ 0
granted_owes k j b e = grind arith

grant_owes : (s : State) (c k : ℕ) (x : Option Entry) → owed k (grant_bus s c x) ≡ 0
grant_owes s c k x = grind arith

module _ (r : Rules) (h : List Call) (m : TaggedMemory) (s : State) (sound : Sound r m s) (was : Balanced h m s.bus) where
  issued : (c k w v : ℕ) (a : Answer) → Balanced (issue c k w v (Ok a) ∷ h) (feed m (issue c k w v (Ok a))) s.bus
  issued c k w v a j =
      let noted = note m a.number (record { core = c; operation = operation_coded k; word = w; value = v }) in
      let b = is_answer a.outcome in
      let now : times j (feed m (issue c k w v (Ok a))).decided ≡ times j (number_if b a.number ++ m.decided) = ap (times j) (decided_if b (decide noted a.number) noted a.number m.decided (counts_it noted a.number (noted.noted a.number)) refl) in
      let lhs = sum_by-append (one j) (number_if b a.number) m.decided in
      let rhs = sum_by-append (one j) (number_if b a.number) (over_calls (answered_by is_answer) h) in
      omega (arith, now, lhs, rhs, was j)

  -- SNOOP
  module _ (slip : Slip) (t : Tenure) (bus : s.bus ≡ granted t) (number : slip.number ≡ t.entry.number) where
    abbrev deciding : Bool
    deciding = eqb (snoop_kind r s t) 3 && noted_gives_up (m.noted slip.number)

    found_owed : (k : ℕ) → times k (number_if deciding slip.number) ≡ owed k (snooped t (snoop_found r s t))
    found_owed k =
        let noted = (tenure_noted r m s t sound (subst (TenureWaits s) bus sound.tenure)).note in
        ⊎_elim
        (λ y. grind arith)
        (λ n. grind (arith, number, noted, answers_gives_up (class_of t.entry.operation) (unmet_undone t.entry.operation (snoop_word r s t).state n)))
        (cases_Bool (snoop_met r s t))

    snooped_balanced : Balanced h (cond deciding (decide m slip.number) m) (snooped t (snoop_found r s t))
    snooped_balanced k =
        let now = ap (times k) (decided_if deciding (decide m slip.number) m slip.number m.decided (counts_it m slip.number (m.noted slip.number)) refl) in
        let none : owed k s.bus ≡ 0 = ap (owed k) bus in
        omega (arith, now, sum_by-append (one k) (number_if deciding slip.number) m.decided, found_owed k, none, was k)

  -- SETTLE
  settled : (slip : Slip) (t : Tenure) (f : Found) → s.bus ≡ snooped t f → Balanced (settle slip (Ok (settle_answer r s t f)) ∷ h) (feed m (settle slip (Ok (settle_answer r s t f)))) (settle_state r s t f).bus
  settled slip t f bus = by f (λ k. was k ∙ ap (λ b. times k (over_calls (answered_by is_answer) h) + owed k b) bus) (subst (BusTrue r m.word s) bus sound.bus)
    where
      -- a done request is decided as it is answered
      done : (k : ℕ) → times k m.decided ≡ times k (over_calls (answered_by is_answer) h) + 0 → times k (decide m t.entry.number).decided ≡ times k (t.entry.number ∷ over_calls (answered_by is_answer) h) + 0
      done k before =
          let now = ap (times k) (counts_it m t.entry.number (m.noted t.entry.number)) in
          omega (arith, now, sum_by-cons (one k) t.entry.number m.decided, sum_by-cons (one k) t.entry.number (over_calls (answered_by is_answer) h), before)

      by : (g : Found) → Balanced h m (snooped t g) → FoundTrue r m.word s t g → Balanced (settle slip (Ok (settle_answer r s t g)) ∷ h) (feed m (settle slip (Ok (settle_answer r s t g)))) (settle_state r s t g).bus
      by own_copy before true_found k = done k (before k)
      by (read_in shared g) before true_found k = done k (before k)
      by (claimed g) before true_found k = done k (before k)
      by (unmet o x) before undone k =
          let now : times k (feed m (settle slip (Ok (settle_answer r s t (unmet o x))))).decided ≡ times k m.decided = ap (λ (n : TaggedMemory). times k n.decided) (cond-false (is_done o) (decide m t.entry.number) m undone) in
          omega (arith, now, sum_by-append (one k) (number_if (is_answer o) t.entry.number) (over_calls (answered_by is_answer) h), before k)

  pub call_balanced : (c : Call) (t : State) → Step r s c t → Balanced (c ∷ h) (feed m c) t.bus
  call_balanced (issue c k w v a) t step = by_issue (λ b u. Balanced (issue c k w v b ∷ h) (feed m (issue c k w v b)) u.bus) r s t c k w v a step (λ e. was) (λ y. issued c k w v (answer_now r s c (operation_coded k) w v)) (λ core. issued c k w v (answer_undone s.next Waits Empty))
  call_balanced (grant c a) t step =
      by_reply (λ b u. Balanced h m u.bus) s t _ (first_reason (grant_reasons s c)) _ a step.0 step.1 (λ e. was)
      (λ none k. omega (arith, was k, free_owes k s.bus (not-false (is_free s.bus) (cleared (grant_reasons s c) none).1.0), grant_owes s c k (oldest_ready [] (s.waiting c))))
  call_balanced (give_back slip a) t step =
      by_reply (λ b u. Balanced h m u.bus) s t _ (first_reason (slip_reasons s slip to_snoop)) _ a step.0 step.1 (λ e. was)
      (λ none k. omega (arith, was k, granted_owes k slip.number s.bus (at_bus s slip to_snoop none)))
  call_balanced (snoop slip a) t step = by_snoop (λ b u. Balanced (snoop slip b ∷ h) (feed m (snoop slip b)) u.bus) r s t slip a step (λ e. was) (snooped_balanced slip)
  call_balanced (settle slip a) t step = by_settle (λ b u. Balanced (settle slip b ∷ h) (feed m (settle slip b)) u.bus) r s t slip a step (λ e. was) (settled slip)
  call_balanced (withdraw k a) t step = search rules
  call_balanced (evict c w a) t step = grind (arith, nat_tests)
  call_balanced (drain a) t step = grind (arith, nat_tests)
  call_balanced (look w a) t step = subst (Balanced h m) (sym step.1.bus) was
  call_balanced (save before after a) t step = subst (Balanced h m) (sym step.2.bus) was
  call_balanced (tally a) t step = subst (Balanced h m) (sym step.1.bus) was

-- what is owed waits in a list
tenure_counts : (s : State) (t : Tenure) (k : ℕ) → WaitsIn s t → one k t.entry.number ≤ waits_for s k
tenure_counts s t k here =
    let F = λ (es : List Entry). times k (numbers es) in
    omega (arith, over_updated F s.waiting t.core (without t.entry.number (s.waiting t.core)) here.core, measure_remove (times_measure k) t.entry.number (s.waiting t.core) (present_numbered t.entry (s.waiting t.core) here.present))

owed_waits : (s : State) (b : Bus) (k : ℕ) → TenureWaits s b → owed k b ≤ waits_for s k
owed_waits s b k here = grind (arith, tenure_counts s)

module _ (r : Rules) (law : Lawful r) (o : Opening) where
  run_balanced : (h : List Call) (s : State) → Ran r o h s → Balanced h (one_memory o.memory h) s.bus
  run_balanced _ s (opens agree) = grind (arith, nat_tests)
  run_balanced _ t (goes_on {h} {s} c before taken) = call_balanced r h (one_memory o.memory h) s (run_sound r law o h s before) (run_balanced h s before) c t taken

pub decides_once : EveryRunDecidesOnce
decides_once r law o h s ran k =
    let accounts = run_accounts r law o h s ran in
    omega (arith, run_balanced r law o h s ran k, accounts.account k, accounts.once k, owed_waits s s.bus k (run_sound r law o h s ran).tenure)
