-- What every run keeps of copies, bus and lists, beside the one tagged memory m.
use Rattle.std.proofs.lemmas.Bool.Decides.{nat_tests}
use Rattle.std.proofs.Common.{◌≡◌, ℕ, ◌%◌, ◌<◌, ◌≤◌, Bool, true, false, cond, [], ◌∷◌, Some, None, Ok, Err, Option, sym, refl, ap, ◌∙◌, subst, arith, leb-false, rules}
use Rattle.std.proofs.lemmas.Bool.{both_ways}
use Rattle.protocol.specs.Rules.{Rules}
use Rattle.tagged.specs.declared.refusals.Refusal.{Refusal}
use Rattle.tagged.specs.declared.words.Word.{Word}
use Rattle.tagged.specs.declared.answers.Answer.{Answer}
use Rattle.promises.specs.Board.{Frame, Entry, Tenure, Found, Bus, free, granted, snooped, State}
use Rattle.promises.specs.Calls.{Stage, to_snoop, to_settle, Slip, SnoopReport, OrRefused, issue, snoop, settle}
use Rattle.promises.specs.Refusing.{Reasons, first_reason, reply_unless, after_unless, bus_at, issue_reasons, slip_reasons}
use Rattle.promises.specs.Lists.{woken}
use Rattle.tagged.specs.Operations.{operation_coded}
use Rattle.tagged.specs.declared.operations.Operation.{Operation}
use Rattle.tagged.specs.declared.answers.Outcome.TheVariants.{Waits}
use Rattle.tagged.specs.declared.words.WordState.TheVariants.{Empty}
use Rattle.promises.specs.Steps.{Agree, Step, answer_undone, answer_served, answers_now, issue_served, issue_now, issue_later, issue_refusal, snoop_report, snoop_state, snoop_on, snoop_to, settle_answer, settle_state, settle_on, settle_to, issue_answer}
use Rattle.promises.specs.OneMemory.{Note, TaggedMemory}
use Rattle.promises.specs.Promises.{EveryEntry}
use Rattle.promises.proofs.Frames.{keeps_same, same_state_as}
use Rattle.promises.proofs.Copies.{claiming, Copies, owes_same, owns_same}
use Rattle.promises.proofs.Entries.{Present, every_weaker, every_present}
use Rattle.promises.proofs.Tenures.{BusTrue}
use Rattle.promises.proofs.Sleeping.{SleepsRight}

-- the note under which a waiting request was issued by core c
abbrev pub note_of : ℕ → Entry → Note
note_of c e = record { core = c; operation = e.operation; word = e.word; value = e.value }

-- a waiting request was noted as it is, under a number that was given
pub record Noted (m : TaggedMemory) (next c : ℕ) (e : Entry) : Type 0 where
  pub note : m.noted e.number ≡ Some (note_of c e)
  pub below : e.number < next

-- the request that has the bus waits in its core's list
pub record WaitsIn (s : State) (t : Tenure) : Type 0 where
  pub core : t.core < 8
  pub present : Present t.entry (s.waiting t.core)

abbrev pub TenureWaits : State → Bus → Type 0
TenureWaits s free = Unit {0}
TenureWaits s (granted t) = WaitsIn s t
TenureWaits s (snooped t f) = WaitsIn s t

-- the request that has the bus still waits
pub tenure_kept : (s t : State) (b : Bus) → ((x : Tenure) → WaitsIn s x → WaitsIn t x) → TenureWaits s b → TenureWaits t b
tenure_kept s t b kept h = search rules

pub record Sound (r : Rules) (m : TaggedMemory) (s : State) : Type 0 where
  pub few_cores : s.setup.cores ≤ 8
  pub copies : Copies r m.word s
  pub bus : BusTrue r m.word s s.bus
  pub notes : (c : ℕ) → EveryEntry (Noted m s.next c) (s.waiting c)
  pub tenure : TenureWaits s s.bus
  pub sleepers : (c : ℕ) → EveryEntry (SleepsRight m.word) (s.waiting c)

-- a memory with the same words and notes serves as well
pub same_memory : (r : Rules) (m n : TaggedMemory) (s : State) → n.word ≡ m.word → n.noted ≡ m.noted → Sound r m s → Sound r n s
same_memory r m n s word noted was = record {
  few_cores = was.few_cores;
  copies = subst (λ T. Copies r T s) (sym word) was.copies;
  bus = grind (arith, nat_tests);
  notes = λ c. every_weaker (Noted m s.next c) (Noted n s.next c) (λ e h. record { note = ap (λ f. f e.number) noted ∙ h.note; below = h.below }) (s.waiting c) (was.notes c);
  tenure = was.tenure;
  sleepers = λ c. grind (arith, nat_tests);
}

-- the request that has the bus was noted as it is
pub tenure_noted : (r : Rules) (m : TaggedMemory) (s : State) (t : Tenure) → Sound r m s → WaitsIn s t → Noted m s.next t.core t.entry
tenure_noted r m s t was here =
    every_present (Noted m s.next t.core) t.entry (s.waiting t.core)
    (λ e same h. grind (arith, same, h))
    (was.notes t.core) here.present

-- the same frames and memory, and no line more that is not being claimed
module _ (r : Rules) (T : ℕ → Word) (s t : State) (frames : (d i : ℕ) → t.frame d i ≡ s.frame d i) (memory : (n : ℕ) → t.memory n ≡ s.memory n) (bus : (n : ℕ) → claiming t.bus n ≡ false → claiming s.bus n ≡ false) where
  pub same_frames : Copies r T s → Copies r T t
  same_frames was = record {
    codes = λ d i. grind (arith, nat_tests);
    placed = λ d i. grind (arith, nat_tests);
    true_copies = λ d n k. ap (λ (f : Frame). f.content) (frames d (n % 16)) ∙ was.true_copies d n (sym (keeps_same r t s d n (frames d (n % 16))) ∙ k);
    alone = λ c d n own k. was.alone c d n (sym (owns_same r t s c n (frames c (n % 16))) ∙ own) (sym (keeps_same r t s d n (frames d (n % 16))) ∙ k);
    true_memory = λ n none quiet. memory n ∙ was.true_memory n (λ d. sym (owes_same r t s d n (frames d (n % 16))) ∙ none d) (bus n quiet);
  }

-- no condition of the list holds
abbrev pub AllClear : Reasons → Type 0
AllClear [] = Unit {0}
AllClear (p ∷ ps) = (p.1 ≡ false) × AllClear ps

-- a call that is not refused meets no reason
pub cleared : (ps : Reasons) → first_reason ps ≡ None → AllClear ps
cleared [] e = tt
cleared (p ∷ ps) e = grind (arith, cleared ps)

-- a step, by whether it is refused
pub by_reply : {A : Type 0} (P : OrRefused A → State → Type 0) (s t after : State) (q : Option Refusal) (x : A) (a : OrRefused A) → a ≡ reply_unless q x → Agree t (after_unless q s after) → ((e : Refusal) → P (Err e) s) → (q ≡ None → P (Ok x) after) → P a t
by_reply P s t after None x a is agree refused accepted = subst (λ b. P b t) (sym is) (subst (P (Ok x)) (sym (same_state_as agree)) (accepted refl))
by_reply P s t after (Some e) x a is agree refused accepted = subst (λ b. P b t) (sym is) (subst (P (Err e)) (sym (same_state_as agree)) (refused e))

-- the answer to an issue that is answered at once
abbrev pub answer_now : Rules → State → ℕ → Operation → ℕ → ℕ → Answer
answer_now r s c o w v = answer_served s.next (issue_served r s c o w v) (woken s (issue_served r s c o w v).notice w)

module _ (r : Rules) (s : State) (c k w v : ℕ) where
  -- an issue that is not refused answers now, or its request waits
  pub by_answer : (P : Answer → State → Type 0) → (answers_now r s c (operation_coded k) w v ≡ true → P (answer_now r s c (operation_coded k) w v) (issue_now r s c (operation_coded k) w v)) → (answers_now r s c (operation_coded k) w v ≡ false → P (answer_undone s.next Waits Empty) (issue_later r s c (operation_coded k) w v)) → P (issue_answer r s c (operation_coded k) w v) (cond (answers_now r s c (operation_coded k) w v) (issue_now r s c (operation_coded k) w v) (issue_later r s c (operation_coded k) w v))
  by_answer P now later = by (answers_now r s c (operation_coded k) w v) _ _ _ _ now later
    where
      by : (b : Bool) (x y : Answer) (p q : State) → (b ≡ true → P x p) → (b ≡ false → P y q) → P (cond b x y) (cond b p q)
      by true x y p q first second = first refl
      by false x y p q first second = second refl

-- an issue, by whether it is refused, answered at once or put into the list
pub by_issue : (P : OrRefused Answer → State → Type 0) (r : Rules) (s t : State) (c k w v : ℕ) (a : OrRefused Answer) → Step r s (issue c k w v a) t → ((e : Refusal) → P (Err e) s) → (answers_now r s c (operation_coded k) w v ≡ true → P (Ok (answer_now r s c (operation_coded k) w v)) (issue_now r s c (operation_coded k) w v)) → (c < s.setup.cores → P (Ok (answer_undone s.next Waits Empty)) (issue_later r s c (operation_coded k) w v)) → P a t
by_issue P r s t c k w v a step refused now later =
    by_reply P s t _ (issue_refusal r s c k w v) _ a step.0 step.1 refused
    (λ none. by_answer r s c k w v (λ x u. P (Ok x) u) now (λ z. later (leb-false s.setup.cores c (cleared (issue_reasons s _ c k w) none).0)))

-- an accepted slip is of the tenure that the bus has
pub at_bus : (s : State) (slip : Slip) (stage : Stage) → first_reason (slip_reasons s slip stage) ≡ None → bus_at s.bus stage slip.number ≡ true
at_bus s slip stage none = grind arith

-- any other slip is refused, and changes nothing
unserved : {A : Type 0} (P : OrRefused A → State → Type 0) (s t : State) (slip : Slip) (stage : Stage) (b : Bus) (x : A) (a : OrRefused A) → s.bus ≡ b → bus_at b stage slip.number ≡ false → a ≡ reply_unless (first_reason (slip_reasons s slip stage)) x → Agree t s → ((e : Refusal) → P (Err e) s) → P a t
unserved P s t slip stage b x a bus silent is agree refused =
    by_reply P s t s _ x a is (subst (Agree t) (sym (same_unless (first_reason (slip_reasons s slip stage)))) agree) refused
    (λ none. absurd (both_ways _ silent (ap (λ y. bus_at y stage slip.number) (sym bus) ∙ at_bus s slip stage none)))
  where
    same_unless : (q : Option Refusal) → after_unless q s s ≡ s
    same_unless None = refl
    same_unless (Some e) = refl

-- a snoop, by whether it is refused
pub by_snoop : (P : OrRefused (Slip × SnoopReport) → State → Type 0) (r : Rules) (s t : State) (slip : Slip) (a : OrRefused (Slip × SnoopReport)) → Step r s (snoop slip a) t → ((e : Refusal) → P (Err e) s) → ((x : Tenure) → s.bus ≡ granted x → slip.number ≡ x.entry.number → P (Ok (record { board = s.setup.board; number = x.entry.number; stage = to_settle }, snoop_report r s x)) (snoop_state r s x)) → P a t
by_snoop P r s t slip a step refused served = by s.bus refl step.0 step.1
  where
    by : (b : Bus) → s.bus ≡ b → a ≡ snoop_on r s slip b → Agree t (snoop_to r s slip b) → P a t
    by free bus is agree = unserved P s t slip to_snoop free _ a bus refl is agree refused
    by (granted x) bus is agree =
        by_reply P s t (snoop_state r s x) (first_reason (slip_reasons s slip to_snoop)) _ a is agree refused (λ none. served x bus (grind (arith, nat_tests, at_bus s slip to_snoop none, bus)))
    by (snooped x f) bus is agree = unserved P s t slip to_snoop (snooped x f) _ a bus refl is agree refused

-- a settle, by whether it is refused
pub by_settle : (P : OrRefused Answer → State → Type 0) (r : Rules) (s t : State) (slip : Slip) (a : OrRefused Answer) → Step r s (settle slip a) t → ((e : Refusal) → P (Err e) s) → ((x : Tenure) (f : Found) → s.bus ≡ snooped x f → P (Ok (settle_answer r s x f)) (settle_state r s x f)) → P a t
by_settle P r s t slip a step refused served = by s.bus refl step.0 step.1
  where
    by : (b : Bus) → s.bus ≡ b → a ≡ settle_on r s slip b → Agree t (settle_to r s slip b) → P a t
    by free bus is agree = unserved P s t slip to_settle free _ a bus refl is agree refused
    by (granted x) bus is agree = unserved P s t slip to_settle (granted x) _ a bus refl is agree refused
    by (snooped x f) bus is agree = by_reply P s t (settle_state r s x f) _ _ a is agree refused (λ none. served x f bus)
