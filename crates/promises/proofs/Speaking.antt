-- Every answer, look and save speaks for the one tagged memory.
use Rattle.promises.specs.Lists.{oldest_ready}
use Rattle.std.proofs.Common.{◌≡◌, ℕ, ◌<◌, min, true, false, ◌&&◌, eqb, List, ◌++◌, length, drop, Some, None, Ok, Option, sym, refl, ap, ◌∙◌, subst, arith, []}
use Rattle.std.proofs.lemmas.Bool.Decides.{nat_tests}
use Rattle.std.proofs.lemmas.Bool.{and_from, both_ways, cond-true, cond-false, cond_both}
use Rattle.protocol.specs.Rules.{Rules, Lawful}
use Rattle.memory.specs.Pictures.{picture_length}
use Rattle.tagged.specs.Operations.{claims, class_of, operation_coded}
use Rattle.tagged.specs.Rule.{met, rule, done_by, unmet_by, unmet_outcome, unmet_found}
use Rattle.tagged.specs.declared.answers.Answer.{Answer}
use Rattle.tagged.specs.declared.answers.Outcome.{Outcome}
use Rattle.tagged.specs.declared.answers.Outcome.TheVariants.{Done, Discarded, Trap, Waits}
use Rattle.tagged.specs.declared.operations.Operation.{Operation}
use Rattle.tagged.specs.declared.refusals.Refusal.{Refusal}
use Rattle.tagged.specs.declared.rule.Served.{Served}
use Rattle.tagged.specs.declared.words.Word.{Word}
use Rattle.tagged.specs.declared.words.WordState.{WordState}
use Rattle.tagged.specs.declared.words.WordState.TheVariants.{Empty}
use Rattle.promises.specs.Board.{Content, Entry, Tenure, Found, own_copy, read_in, claimed, unmet, Bus, free, granted, snooped, State, line_of}
use Rattle.promises.specs.Board.{word_in, served_lines}
use Rattle.promises.specs.Calls.{to_settle, Slip, SnoopReport, OrRefused, Call, issue, grant, give_back, snoop, settle, withdraw, evict, drain, look, save, tally, to_snoop}
use Rattle.promises.specs.Copies.{stands}
use Rattle.promises.specs.Refusing.{first_reason, reply_unless, after_unless, withdraw_reasons, look_reasons, save_reasons, grant_reasons, slip_reasons, evict_reasons, drain_reasons}
use Rattle.promises.specs.Steps.{Step, updated, grant_bus, gives_up, answer_undone, answer_served, picture_of, own_suffices, snoop_met, snoop_word, snoop_kind, snoop_found, snoop_report, settle_state, settle_answer, answers_now, issue_served, save_reply}
use Rattle.promises.specs.OneMemory.{TaggedMemory, note, serve_noted, decide, noted_gives_up, is_answer, feed, line_by_words}
use Rattle.promises.specs.Promises.{AsGiven, AnswerIsGiven, SpeaksTrue}
use Rattle.promises.specs.Runs.{Opening}
use Rattle.promises.proofs.Contents.{updated_same, line_word}
use Rattle.promises.proofs.Standing.{stands_true}
use Rattle.promises.proofs.Tenures.{Met, FoundTrue, BusTrue, travels_true, unmet_undone, answers_gives_up}
use Rattle.promises.proofs.OnIssue.{answers, own_is}
use Rattle.promises.proofs.Sound.{note_of, WaitsIn, TenureWaits, Sound, tenure_noted, answer_now, by_reply, by_issue, by_snoop, by_settle}

-- the answer that is owed after a snoop of kind 3 is what the memory gave
abbrev pub Owed : TaggedMemory → Bus → Type 0
Owed m free = Unit {0}
Owed m (granted t) = Unit {0}
Owed m (snooped t own_copy) = Unit {0}
Owed m (snooped t (read_in shared f)) = Unit {0}
Owed m (snooped t (claimed f)) = Unit {0}
Owed m (snooped t (unmet o found)) = is_answer o ≡ true → AsGiven m (answer_undone t.entry.number o found)

-- an answer that tells what the memory gave
as_served : (m : TaggedMemory) (k : ℕ) (given x : Served) (woke : ℕ) → m.gave k ≡ Some given → x ≡ given → AsGiven m (answer_served k x woke)
as_served m k given x woke is same = grind (arith, nat_tests)

module _ (r : Rules) (law : Lawful r) (op : Opening) (m : TaggedMemory) (s : State) (was : Sound r m s) (owed : Owed m s.bus) (lines : s.setup.lines ≡ op.lines) where
  standing : (n : ℕ) → stands r s n ≡ line_by_words m.word n
  standing n = stands_true r m.word s was.copies (travels_true r m.word s s.bus was.bus) n

  -- LOOK
  pub look_speaks : (w : ℕ) (a : OrRefused Word) (t : State) → Step r s (look w a) t → SpeaksTrue op m (look w a)
  look_speaks w a t step = subst (λ b. SpeaksTrue op m (look w b)) (sym step.0) (by (first_reason (look_reasons s w)))
    where
      by : (q : Option Refusal) → SpeaksTrue op m (look w (reply_unless q (word_in (stands r s (line_of w)) w)))
      by None = ap (λ f. word_in f w) (standing (line_of w)) ∙ line_word m.word w
      by (Some e) = tt

  -- SAVE
  pub save_speaks : (before after : List ℕ) (a : OrRefused ℕ) (t : State) → Step r s (save before after a) t → SpeaksTrue op m (save before after a)
  save_speaks before after a t step =
      subst (λ b. SpeaksTrue op m (save before after b)) (sym step.0)
      (subst (λ x. SpeaksTrue op m (save before x (save_reply r s before))) (sym step.1) (by (first_reason (save_reasons s (length before)))))
    where
      served : served_lines s ≡ min 2048 op.lines
      served = ap (min 2048) lines

      by : (q : Option Refusal) → SpeaksTrue op m (save before (after_unless q before (picture_of (served_lines s) (stands r s) ++ drop (picture_length (served_lines s)) before)) (reply_unless q (picture_length (served_lines s))))
      by None = (
        ap picture_length served,
        ap (λ f. picture_of (served_lines s) f ++ drop (picture_length (served_lines s)) before) (λ i n. standing n i)
            ∙ ap (λ n. picture_of n (line_by_words m.word) ++ drop (picture_length (served_lines s)) before) served,
      )
      by (Some x) = refl

  -- SETTLE
  module _ (slip : Slip) where
    -- a done request has what the memory gave it as it was decided
    done_given : (t : Tenure) → WaitsIn s t → Met m.word t → (before : Content) → before ≡ line_by_words m.word (line_of t.entry.word) → (woke : ℕ) → AsGiven (decide m t.entry.number) (answer_served t.entry.number (done_by t.entry.operation (word_in before t.entry.word) t.entry.value) woke)
    done_given t here is before line woke =
        let noted = (tenure_noted r m s t was here).note in
        let word : word_in before t.entry.word ≡ m.word t.entry.word = ap (λ f. word_in f t.entry.word) line ∙ line_word m.word t.entry.word in
        let same : done_by t.entry.operation (word_in before t.entry.word) t.entry.value ≡ rule t.entry.operation (m.word t.entry.word) t.entry.value =
        ap (λ x. done_by t.entry.operation x t.entry.value) word ∙ sym (cond-true (met t.entry.operation (m.word t.entry.word).state) _ _ is)
        in
        as_served _ _ _ _ woke (ap (λ x. (serve_noted m t.entry.number x).gave t.entry.number) noted ∙ updated_same m.gave t.entry.number _) same

    settled_speaks : (t : Tenure) (f : Found) → WaitsIn s t → FoundTrue r m.word s t f → Owed m (snooped t f) → SpeaksTrue op (feed m (settle slip (Ok (settle_answer r s t f)))) (settle slip (Ok (settle_answer r s t f)))
    settled_speaks t own_copy here h owes = done_given t here h.1 _ (was.copies.true_copies t.core _ h.0.kept) _
    settled_speaks t (read_in shared f) here h owes = done_given t here h.1 f h.0.line _
    settled_speaks t (claimed f) here h owes = done_given t here h.1 f h.0.line _
    settled_speaks t (unmet Done x) here h owes = absurd (both_ways true h refl)
    settled_speaks t (unmet Discarded x) here h owes = owes refl
    settled_speaks t (unmet Trap x) here h owes = owes refl
    settled_speaks t (unmet Waits x) here h owes = tt

    pub settle_speaks : (a : OrRefused Answer) (t : State) → Step r s (settle slip a) t → SpeaksTrue op (feed m (settle slip a)) (settle slip a)
    settle_speaks a t step =
        by_settle (λ b u. SpeaksTrue op (feed m (settle slip b)) (settle slip b)) r s t slip a step (λ e. tt)
        (λ x f bus. settled_speaks x f (subst (TenureWaits s) bus was.tenure) (subst (BusTrue r m.word s) bus was.bus) (subst (Owed m) bus owed))

  -- ISSUE
  module _ (c k w v : ℕ) where
    abbrev o : Operation
    o = operation_coded k

    abbrev noting : TaggedMemory
    noting = note m s.next (record { core = c; operation = o; word = w; value = v })

    fresh : noting.noted s.next ≡ Some (record { core = c; operation = o; word = w; value = v })
    fresh = updated_same m.noted s.next _

    now_given : answers_now r s c o w v ≡ true → (woke : ℕ) → AsGiven (decide noting s.next) (answer_served s.next (issue_served r s c o w v) woke)
    now_given y woke =
        as_served _ _ _ _ woke (ap (λ x. (serve_noted noting s.next x).gave s.next) fresh ∙ updated_same m.gave s.next _) (ap (λ x. rule o x v) (own_is r law m s was c o w v y))

    issue_given : answers_now r s c o w v ≡ true → SpeaksTrue op (feed m (issue c k w v (Ok (answer_now r s c o w v)))) (issue c k w v (Ok (answer_now r s c o w v)))
    issue_given y =
        let yes_answer = answers r law m s was c o w v y in
        subst (λ n. AnswerIsGiven n (answer_now r s c o w v)) (sym (cond-true (is_answer (issue_served r s c o w v).outcome) (decide noting s.next) noting yes_answer)) (rw yes_answer (now_given y _))

    pub issue_speaks : (a : OrRefused Answer) (t : State) → Step r s (issue c k w v a) t → SpeaksTrue op (feed m (issue c k w v a)) (issue c k w v a)
    issue_speaks a t step = by_issue (λ b u. SpeaksTrue op (feed m (issue c k w v b)) (issue c k w v b)) r s t c k w v a step (λ e. tt) issue_given (λ _. tt)

    -- what is owed stays: the new number is another
    gave_old : (a : Answer) → a.number ≡ s.next → (j : ℕ) → j < s.next → (feed m (issue c k w v (Ok a))).gave j ≡ m.gave j
    gave_old a number j below = grind (arith, nat_tests, below)

  -- what is owed, with another memory that gave the bus's request the same
  owed_kept : (n : TaggedMemory) (b : Bus) → TenureWaits s b → ((j : ℕ) → j < s.next → n.gave j ≡ m.gave j) → Owed m b → Owed n b
  owed_kept n free here same h = tt
  owed_kept n (granted t) here same h = tt
  owed_kept n (snooped t own_copy) here same h = tt
  owed_kept n (snooped t (read_in shared f)) here same h = tt
  owed_kept n (snooped t (claimed f)) here same h = tt
  owed_kept n (snooped t (unmet x found)) here same h = λ e. let y = h e in record { given = y.given; is = same t.entry.number (tenure_noted r m s t was here).below ∙ y.is; outcome = y.outcome; value = y.value; found = y.found; notice = y.notice }

  -- SNOOP
  module _ (slip : Slip) where
    module _ (t : Tenure) (bus : s.bus ≡ granted t) (number : slip.number ≡ t.entry.number) where
      here : WaitsIn s t
      here = subst (TenureWaits s) bus was.tenure

      word : snoop_word r s t ≡ m.word t.entry.word
      word = ap (λ f. word_in f t.entry.word) (standing (line_of t.entry.word)) ∙ line_word m.word t.entry.word

      noted : m.noted slip.number ≡ Some (note_of t.core t.entry)
      noted = ap m.noted number ∙ (tenure_noted r m s t was here).note

      abbrev report : Slip × SnoopReport
      report = (record { board = s.setup.board; number = t.entry.number; stage = to_settle }, snoop_report r s t)

      owed_after : (x : Outcome) (y : WordState) → snoop_met r s t ≡ false → x ≡ unmet_outcome (class_of t.entry.operation) → y ≡ unmet_found (class_of t.entry.operation) (snoop_word r s t).state → is_answer x ≡ true → AsGiven (feed m (snoop slip (Ok report))) (answer_undone t.entry.number x y)
      owed_after x y not_met ox oy e =
          let unmet_here : met t.entry.operation (m.word t.entry.word).state ≡ false = sym (ap (λ (z : Word). met t.entry.operation z.state) word) ∙ not_met in
          let class = class_of t.entry.operation in
          let up : gives_up class ≡ true = grind (arith, answers_gives_up class (unmet_undone t.entry.operation _ unmet_here), ox, e) in
          let kind : eqb (snoop_kind r s t) 3 ≡ true = ap (λ q. eqb q 3) (cond-false _ _ _ not_met) in
          let decides : (eqb (snoop_kind r s t) 3 && noted_gives_up (m.noted slip.number)) ≡ true = and_from (eqb (snoop_kind r s t) 3) _ kind (ap noted_gives_up noted ∙ up) in
          let gives : rule t.entry.operation (m.word t.entry.word) t.entry.value ≡ unmet_by t.entry.operation (m.word t.entry.word) = cond-false _ _ _ unmet_here in
          record {
            given = rule t.entry.operation (m.word t.entry.word) t.entry.value;
            is =
                ap (λ (n : TaggedMemory). n.gave t.entry.number) (cond-true _ _ _ decides)
                ∙ ap (λ z. (serve_noted m slip.number z).gave t.entry.number) noted
                ∙ ap (λ j. updated m.gave j (Some (rule t.entry.operation (m.word t.entry.word) t.entry.value)) t.entry.number) number
                ∙ updated_same m.gave t.entry.number _;
            outcome = ox ∙ ap (λ (z : Served). z.outcome) (sym gives);
            value = ap (λ (z : Served). z.value) (sym gives);
            found = oy ∙ ap (λ (z : Word). unmet_found class z.state) word ∙ ap (λ (z : Served). z.found) (sym gives);
            notice = ap (λ (z : Served). z.notice) (sym gives);
          }

      snoop_owed : Owed (feed m (snoop slip (Ok report))) (snooped t (snoop_found r s t))
      snoop_owed =
          let n = feed m (snoop slip (Ok report)) in
          cond_both (snoop_met r s t) _ _ (λ g. Owed n (snooped t g))
          (λ y. cond_both (own_suffices r s t) _ _ (λ g. Owed n (snooped t g)) (λ o. tt) (λ o. cond_both (claims t.entry.operation) _ _ (λ g. Owed n (snooped t g)) (λ c. tt) (λ c. tt)))
          (λ f e. owed_after _ _ f refl refl e)

  -- WHAT IS OWED AFTER EACH CALL
  after_settle : (n : TaggedMemory) (x : Tenure) (f : Found) → Owed n (settle_state r s x f).bus
  after_settle n x f = grind arith

  grant_owes : (c : ℕ) (x : Option Entry) → Owed m (grant_bus s c x)
  grant_owes c x = grind arith

  pub owed_after_call : (c : Call) (t : State) → Step r s c t → Owed (feed m c) t.bus
  owed_after_call (issue c k w v a) t step =
      let kept : (x : Answer) → x.number ≡ s.next → Owed (feed m (issue c k w v (Ok x))) s.bus = λ x number. owed_kept _ s.bus was.tenure (gave_old c k w v x number) owed in
      by_issue (λ b u. Owed (feed m (issue c k w v b)) u.bus) r s t c k w v a step (λ e. owed) (λ y. kept (answer_now r s c (operation_coded k) w v) refl) (λ core. kept (answer_undone s.next Waits Empty) refl)
  owed_after_call (grant c a) t step = by_reply (λ b u. Owed m u.bus) s t _ (first_reason (grant_reasons s c)) _ a step.0 step.1 (λ e. owed) (λ none. grant_owes c (oldest_ready [] (s.waiting c)))
  owed_after_call (give_back slip a) t step = by_reply (λ b u. Owed m u.bus) s t _ (first_reason (slip_reasons s slip to_snoop)) _ a step.0 step.1 (λ e. owed) (λ none. tt)
  owed_after_call (snoop slip a) t step = by_snoop (λ b u. Owed (feed m (snoop slip b)) u.bus) r s t slip a step (λ e. owed) (snoop_owed slip)
  owed_after_call (settle slip a) t step = by_settle (λ b u. Owed (feed m (settle slip b)) u.bus) r s t slip a step (λ e. owed) (λ x f bus. after_settle _ x f)
  owed_after_call (withdraw k a) t step = by_reply (λ b u. Owed m u.bus) s t _ (first_reason (withdraw_reasons s k)) _ a step.0 step.1 (λ e. owed) (λ none. owed)
  owed_after_call (evict c w a) t step = by_reply (λ b u. Owed m u.bus) s t _ (first_reason (evict_reasons s r c w)) _ a step.0 step.1 (λ e. owed) (λ none. owed)
  owed_after_call (drain a) t step = by_reply (λ b u. Owed m u.bus) s t _ (first_reason (drain_reasons s)) _ a step.0 step.1 (λ e. owed) (λ none. owed)
  owed_after_call (look w a) t step = subst (Owed m) (sym step.1.bus) owed
  owed_after_call (save before after a) t step = subst (Owed m) (sym step.2.bus) owed
  owed_after_call (tally a) t step = subst (Owed m) (sym step.1.bus) owed

  pub call_speaks : (c : Call) (t : State) → Step r s c t → SpeaksTrue op (feed m c) c
  call_speaks (issue c k w v a) t step = issue_speaks c k w v a t step
  call_speaks (grant c a) t step = tt
  call_speaks (give_back slip a) t step = tt
  call_speaks (snoop slip a) t step = tt
  call_speaks (settle slip a) t step = settle_speaks slip a t step
  call_speaks (withdraw k a) t step = tt
  call_speaks (evict c w a) t step = tt
  call_speaks (drain a) t step = tt
  call_speaks (look w a) t step = look_speaks w a t step
  call_speaks (save before after a) t step = save_speaks before after a t step
  call_speaks (tally a) t step = tt
