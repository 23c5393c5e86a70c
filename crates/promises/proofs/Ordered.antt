-- Every run decides requests of one core on one word in the order of their issue.
use Rattle.std.proofs.Common.{◌≡◌, ℕ, ◌<◌, ◌≤◌, Bool, true, false, cond, not, ◌&&◌, eqb, List, [], ◌∷◌, ◌++◌, Some, None, Ok, Option, sym, refl, subst, ⊎_elim, arith, rules}
use Rattle.std.proofs.lemmas.Bool.Decides.{nat_tests}
use Rattle.std.proofs.lemmas.Bool.{cases_eq, cond-true, cond_both}
use Rattle.protocol.specs.Rules.{Rules, Lawful}
use Rattle.tagged.specs.Operations.{class_of, operation_coded}
use Rattle.tagged.specs.declared.answers.Outcome.TheVariants.{Waits}
use Rattle.tagged.specs.declared.words.WordState.TheVariants.{Empty}
use Rattle.tagged.specs.declared.operations.Operation.{Operation}
use Rattle.promises.specs.Board.{Entry, Tenure, Found, own_copy, read_in, claimed, unmet, Bus, free, granted, State}
use Rattle.promises.specs.Calls.{to_snoop, Slip, Call, issue, grant, give_back, snoop, settle, withdraw, evict, drain, look, save, tally}
use Rattle.promises.specs.Lists.{any_entry, on_word, without, put_to_sleep, oldest_ready}
use Rattle.promises.specs.Refusing.{first_reason, grant_reasons, slip_reasons, withdraw_reasons, evict_reasons, drain_reasons}
use Rattle.promises.specs.Steps.{Step, updated, with_bus, grant_bus, in_reach, own_met, snoop_met, waits, snoop_kind, snoop_state, is_waits, settle_state, settle_answer, holder, withdrawn_state, evicted_state, drained_state, answers_now, issue_served, issue_now, issue_later, answer_undone}
use Rattle.promises.specs.Runs.{Opening, Ran, opens, goes_on}
use Rattle.promises.specs.OneMemory.{TaggedMemory, note, decide, noted_gives_up, is_done, is_answer, feed, one_memory}
use Rattle.promises.specs.Promises.{EveryEntry, IsDecidedOnce, EveryRunDecidesInIssueOrder}
use Rattle.promises.proofs.Contents.{updated_same, updated_each}
use Rattle.promises.proofs.Frames.{same_state_as}
use Rattle.promises.proofs.Deciding.{counts_it}
use Rattle.promises.proofs.Entries.{every_weaker, every_append}
use Rattle.promises.proofs.Rising.{Rising, Each, Within, within_same, within_then, within_wake, within_sleep, within_without, rising_append, ready_oldest}
use Rattle.promises.proofs.Ordering.{At, OldestOnWord, Oldest, Earlier, Ordered, order_same, fewer_wait, decide_ordered, oldest_within, oldest_kept, tenure_decided}
use Rattle.promises.proofs.OnIssue.{answers}
use Rattle.promises.proofs.Sound.{Noted, WaitsIn, TenureWaits, Sound, tenure_noted, answer_now, by_reply, by_issue, by_snoop, by_settle}
use Rattle.promises.proofs.Coherent.{run_sound}
use Rattle.promises.proofs.DecidedOnce.{decides_once}

within_updated : (f : ℕ → List Entry) (c : ℕ) (l : List Entry) → Within (f c) l → (d : ℕ) → Within (f d) (updated f c l d)
within_updated f c l h d = grind (arith, nat_tests)

none_on_word : (w : ℕ) (es : List Entry) → any_entry (on_word w) es ≡ false → Each (λ k v. w ≡ v → ⊥) es
none_on_word w [] h = tt
none_on_word w (e ∷ es) h = ((λ q. grind (arith, nat_tests)), none_on_word w es (grind arith))

module _ (r : Rules) (m : TaggedMemory) (s : State) (sound : Sound r m s) (was : Ordered m s) where
  of_core : (c : ℕ) (P : Entry → Type 0) → EveryEntry P (s.waiting c) → (d : ℕ) → EveryEntry (λ e. c ≡ d → P e) (s.waiting d)
  of_core c P h d =
      ⊎_elim
      (λ same. subst (λ i. EveryEntry (λ e. c ≡ i → P e) (s.waiting i)) same (every_weaker P (λ e. c ≡ c → P e) (λ e p q. p) (s.waiting c) h))
      (λ ne. every_weaker (Noted m s.next d) (λ e. c ≡ d → P e) (λ e _ q. absurd (ne q)) (s.waiting d) (sound.notes d))
      (cases_eq c d)

  -- GRANT
  granted_ordered : (c : ℕ) (x : Option Entry) → oldest_ready [] (s.waiting c) ≡ x → Ordered m (with_bus s (grant_bus s c x))
  granted_ordered c x e = record { rising = was.rising; below = was.below; oldest = by x e; earlier = was.earlier; order = was.order }
    where
      by : (x : Option Entry) → oldest_ready [] (s.waiting c) ≡ x → Oldest (with_bus s (grant_bus s c x)) (grant_bus s c x)
      by None e = tt
      by (Some x) e = of_core c (λ f. x.word ≡ f.word → x.number ≤ f.number) (ready_oldest [] (s.waiting c) x (was.rising c) e).1

  -- the tenure's request, decided or not
  module _ (t : Tenure) (here : WaitsIn s t) (old : OldestOnWord s t) where
    decided_now : IsDecidedOnce (decide m t.entry.number) → Ordered (decide m t.entry.number) s
    decided_now once = tenure_decided m (decide m t.entry.number) s t here (tenure_noted r m s t sound here) old (grind arith) (counts_it m t.entry.number (m.noted t.entry.number)) once was

    decided_if : (b : Bool) → IsDecidedOnce (cond b (decide m t.entry.number) m) → Ordered (cond b (decide m t.entry.number) m) s
    decided_if b = cond_both b _ _ (λ n. IsDecidedOnce n → Ordered n s) (λ _. decided_now) (λ _ _. was)

    -- SNOOP
    snoop_lists : (b : Bool) (c : ℕ) → Within (s.waiting c) (cond b (updated s.waiting t.core (put_to_sleep t.entry.number (s.waiting t.core))) s.waiting c)
    snoop_lists true c = within_updated s.waiting t.core _ (within_sleep t.entry.number (s.waiting t.core)) c
    snoop_lists false c = within_same (s.waiting c)

    -- SETTLE
    left : (c : ℕ) → Within (s.waiting c) (updated s.waiting t.core (without t.entry.number (s.waiting t.core)) c)
    left c = within_updated s.waiting t.core _ (within_without t.entry.number (s.waiting t.core)) c

    unmet_lists : (b : Bool) (c : ℕ) → Within (s.waiting c) (cond b s.waiting (updated s.waiting t.core (without t.entry.number (s.waiting t.core))) c)
    unmet_lists true c = within_same (s.waiting c)
    unmet_lists false c = left c

    settled : (slip : Slip) (f : Found) → IsDecidedOnce (feed m (settle slip (Ok (settle_answer r s t f)))) → Ordered (feed m (settle slip (Ok (settle_answer r s t f)))) (settle_state r s t f)
    settled slip own_copy once = fewer_wait _ s (settle_state r s t own_copy) (decided_now once) (λ c. within_then (left c) (within_wake _ _ _)) (omega arith) tt
    settled slip (read_in shared f) once = fewer_wait _ s (settle_state r s t (read_in shared f)) (decided_now once) (λ c. within_then (left c) (within_wake _ _ _)) (omega arith) tt
    settled slip (claimed f) once = fewer_wait _ s (settle_state r s t (claimed f)) (decided_now once) (λ c. within_then (left c) (within_wake _ _ _)) (omega arith) tt
    settled slip (unmet o x) once = fewer_wait _ s (settle_state r s t (unmet o x)) (decided_if (is_done o) once) (λ c. unmet_lists (is_waits s t o o) c) (omega arith) tt

  snooped_ordered : (slip : Slip) (t : Tenure) → s.bus ≡ granted t → slip.number ≡ t.entry.number → (b : Bool) → IsDecidedOnce (cond b (decide m slip.number) m) → Ordered (cond b (decide m slip.number) m) (snoop_state r s t)
  snooped_ordered slip t bus number b once =
      let here = subst (TenureWaits s) bus sound.tenure in
      let old = subst (Oldest s) bus was.oldest in
      let now = subst (λ k. IsDecidedOnce (cond b (decide m k) m) → Ordered (cond b (decide m k) m) s) (sym number) (decided_if t here old b) once in
      fewer_wait _ s (snoop_state r s t) now (λ c. snoop_lists t here old (not (snoop_met r s t) && waits (class_of t.entry.operation)) c) (omega arith) (oldest_within s (snoop_state r s t) t (λ c. snoop_lists t here old (not (snoop_met r s t) && waits (class_of t.entry.operation)) c) old)

  -- ISSUE
  module _ (law : Lawful r) (c k w v : ℕ) where
    abbrev o : Operation
    o = operation_coded k

    abbrev noting : TaggedMemory
    noting = note m s.next (record { core = c; operation = operation_coded k; word = w; value = v })

    old_note : (j : ℕ) → j < s.next → noting.noted j ≡ m.noted j
    old_note j less = grind (arith, nat_tests)

    noted_ordered : Ordered noting s
    noted_ordered = record {
      rising = was.rising;
      below = was.below;
      oldest = was.oldest;
      earlier = λ d. every_weaker (λ e. Earlier m d e.number e.word) (λ e. Earlier noting d e.number e.word) (λ e h j often at. h j often (subst (At d e.word) (old_note j (was.below j often)) at)) (s.waiting d) (was.earlier d);
      order = order_same m noting m.decided (λ j often. old_note j (was.below j often)) was.order;
    }

    -- put at the list's end
    abbrev new : Entry
    new = record { number = s.next; operation = o; word = w; value = v; asleep = in_reach r s c o w v && not (own_met r s c o w v) }

    added : (P : Entry → Type 0) → P new → (d : ℕ) → EveryEntry P (s.waiting d) → EveryEntry P (updated s.waiting c (s.waiting c ++ new ∷ []) d)
    added P p d h = updated_each (λ _. EveryEntry P) s.waiting c _ (λ old. every_append P (s.waiting c) new old p) d h

    rises : (d : ℕ) → Rising (updated s.waiting c (s.waiting c ++ new ∷ []) d)
    rises d = updated_each (λ _. Rising) s.waiting c _ (rising_append (s.waiting c) new (every_weaker (Noted m s.next c) (λ e. e.number < s.next) (λ e h. h.below) (s.waiting c) (sound.notes c))) d (was.rising d)

    still_oldest : (b : Bus) → TenureWaits s b → Oldest s b → Oldest (issue_later r s c o w v) b
    still_oldest b here h = search (rules, still)
      where
        still : (t : Tenure) → WaitsIn s t → OldestOnWord s t → OldestOnWord (issue_later r s c o w v) t
        still t here h d = added (λ e. t.core ≡ d → t.entry.word ≡ e.word → t.entry.number ≤ e.number) (λ p q. omega (arith, (tenure_noted r m s t sound here).below)) d (h d)

    later_ordered : Ordered noting (issue_later r s c o w v)
    later_ordered = record {
      rising = rises;
      below = λ j often. omega (arith, was.below j often);
      oldest = still_oldest s.bus sound.tenure was.oldest;
      earlier = λ d. added (λ e. Earlier noting d e.number e.word) (λ j often at. omega (arith, was.below j often)) d (noted_ordered.earlier d);
      order = noted_ordered.order;
    }

    -- answered at once: nothing of the core waits on the word
    now_ordered : any_entry (on_word w) (s.waiting c) ≡ false → Ordered (decide noting s.next) (issue_now r s c o w v)
    now_ordered alone =
        decide_ordered noting (issue_now r s c o w v) s.next (record { core = c; operation = o; word = w; value = v }) (updated_same m.noted s.next _) (omega arith) (λ j often place. was.below j often)
        (λ d. (within_wake _ _ (s.waiting d)).each (λ i x. c ≡ d → w ≡ x → s.next ≤ i) (of_core c (λ e. w ≡ e.word → s.next ≤ e.number) (every_weaker (λ e. w ≡ e.word → ⊥) _ (λ e h q. absurd (h q)) (s.waiting c) (none_on_word w (s.waiting c) alone)) d))
        (fewer_wait noting s (issue_now r s c o w v) noted_ordered (λ d. within_wake _ _ (s.waiting d)) (omega arith) (oldest_kept s (issue_now r s c o w v) s.bus (λ d. within_wake _ _ (s.waiting d)) was.oldest))

    answered : answers_now r s c o w v ≡ true → Ordered (feed m (issue c k w v (Ok (answer_now r s c o w v)))) (issue_now r s c o w v)
    answered y =
        let alone : any_entry (on_word w) (s.waiting c) ≡ false = grind arith in
        subst (λ n. Ordered n (issue_now r s c o w v)) (sym (cond-true (is_answer (issue_served r s c o w v).outcome) (decide noting s.next) noting (answers r law m s sound c o w v y))) (now_ordered alone)

    issued : (b : Bool) → answers_now r s c o w v ≡ b → Ordered (feed m (issue c k w v (Ok (cond b (answer_now r s c o w v) (answer_undone s.next Waits Empty))))) (cond b (issue_now r s c o w v) (issue_later r s c o w v))
    issued true y = answered y
    issued false y = later_ordered

  pub call_ordered : Lawful r → (c : Call) (t : State) → Step r s c t → IsDecidedOnce (feed m c) → Ordered (feed m c) t
  call_ordered law (issue c k w v a) t step once = by_issue (λ b u. Ordered (feed m (issue c k w v b)) u) r s t c k w v a step (λ e. was) (issued law c k w v true) (λ _. later_ordered law c k w v)
  call_ordered law (grant c a) t step once = by_reply (λ b u. Ordered m u) s t _ (first_reason (grant_reasons s c)) _ a step.0 step.1 (λ e. was) (λ none. granted_ordered c (oldest_ready [] (s.waiting c)) refl)
  call_ordered law (give_back slip a) t step once = by_reply (λ b u. Ordered m u) s t (with_bus s free) (first_reason (slip_reasons s slip to_snoop)) _ a step.0 step.1 (λ e. was) (λ none. search rules)
  call_ordered law (snoop slip a) t step once =
      by_snoop (λ b u. IsDecidedOnce (feed m (snoop slip b)) → Ordered (feed m (snoop slip b)) u) r s t slip a step (λ e once. was)
      (λ x bus number. snooped_ordered slip x bus number (eqb (snoop_kind r s x) 3 && noted_gives_up (m.noted slip.number))) once
  call_ordered law (settle slip a) t step once =
      by_settle (λ b u. IsDecidedOnce (feed m (settle slip b)) → Ordered (feed m (settle slip b)) u) r s t slip a step (λ e once. was)
      (λ x f bus. settled x (subst (TenureWaits s) bus sound.tenure) (subst (Oldest s) bus was.oldest) slip f) once
  call_ordered law (withdraw k a) t step once =
      let lists = within_updated s.waiting (holder s k) (without k (s.waiting (holder s k))) (within_without k (s.waiting (holder s k))) in
      by_reply (λ b u. Ordered m u) s t (withdrawn_state s k) (first_reason (withdraw_reasons s k)) _ a step.0 step.1 (λ e. was) (λ none. fewer_wait m s (withdrawn_state s k) was lists (omega arith) (oldest_kept s (withdrawn_state s k) s.bus lists was.oldest))
  call_ordered law (evict c w a) t step once = by_reply (λ b u. Ordered m u) s t (evicted_state r s c w) (first_reason (evict_reasons s r c w)) _ a step.0 step.1 (λ e. was) (λ none. search rules)
  call_ordered law (drain a) t step once = by_reply (λ b u. Ordered m u) s t (drained_state r s) (first_reason (drain_reasons s)) _ a step.0 step.1 (λ e. was) (λ none. search rules)
  call_ordered law (look w a) t step once = subst (Ordered m) (sym (same_state_as step.1)) was
  call_ordered law (save before after a) t step once = subst (Ordered m) (sym (same_state_as step.2)) was
  call_ordered law (tally a) t step once = subst (Ordered m) (sym (same_state_as step.1)) was

module _ (r : Rules) (law : Lawful r) (o : Opening) where
  pub run_ordered : (h : List Call) (s : State) → Ran r o h s → Ordered (one_memory o.memory h) s
  run_ordered _ s (opens agree) = grind (arith, nat_tests)
  run_ordered _ t (goes_on {h} {s} c before taken) = call_ordered r (one_memory o.memory h) s (run_sound r law o h s before) (run_ordered h s before) law c t taken (decides_once r law o (c ∷ h) t (goes_on {h = h} {s = s} c before taken))

pub decides_in_issue_order : EveryRunDecidesInIssueOrder
decides_in_issue_order r law o h s ran = (run_ordered r law o h s ran).order
