-- Issue.
use Rattle.std.proofs.Common.{◌≡◌, ℕ, ◌+◌, ◌%◌, ◌<◌, Bool, true, false, cond, not, ◌&&◌, ◌⊎◌, Some, Ok, sym, refl, ap, ◌∙◌, subst, ⊎_elim, arith}
use Rattle.std.proofs.lemmas.Bool.Decides.{nat_tests}
use Rattle.std.proofs.lemmas.Bool.{cases_eq, cases_Bool, and_parts, and_from, cond-true, cond-false, false_from_ne_true, cond_both, both_ways, not_from_true, or_cases, not-true}
use Rattle.protocol.specs.Rules.{Rules, Lawful}
use Rattle.tagged.specs.declared.answers.Answer.{Answer}
use Rattle.tagged.specs.declared.operations.Operation.{Operation}
use Rattle.tagged.specs.declared.rule.Served.{Served}
use Rattle.tagged.specs.declared.words.Word.{Word}
use Rattle.promises.specs.Board.{Frame, Entry, Tenure, Found, own_copy, read_in, claimed, unmet, Bus, State, line_of, frame_of, free, granted, snooped, word_in}
use Rattle.tagged.specs.Rule.{met, rule}
use Rattle.tagged.specs.Operations.{claims, class_of, operation_coded}
use Rattle.tagged.specs.Rule.{unmet_outcome}
use Rattle.tagged.specs.declared.operations.Class.{Class}
use Rattle.promises.specs.Board.{with_word_in}
use Rattle.promises.specs.Calls.{OrRefused, issue}
use Rattle.promises.specs.Copies.{copy, keeps, owns}
use Rattle.promises.specs.Lists.{on_word, any_entry, wake}
use Rattle.promises.specs.Steps.{Step, gives_up, own_word, own_met, in_reach, answers_now, issue_served, issue_now, issue_later, issue_refusal, issue_answer}
use Rattle.promises.specs.OneMemory.{TaggedMemory, note, serve_noted, decide, is_answer, feed, line_by_words}
use Rattle.promises.specs.Promises.{EveryEntry}
use Rattle.promises.proofs.Contents.{updated_same, updated_other, updated_back, updated_each, line_word, changed, changed_other}
use Rattle.promises.proofs.Frames.{kept_of, keeps_by, keeps_same, frame_cases}
use Rattle.promises.proofs.Copies.{Copies, one_line}
use Rattle.promises.proofs.Entries.{Present, present_wake, present_append, present_on_word, every_map, every_append, every_weaker}
use Rattle.promises.proofs.InPlace.{changed_in_place}
use Rattle.promises.proofs.Tenures.{Like, found_like, FoundTrue, BusTrue}
use Rattle.promises.proofs.Settling.{unclaimed_word}
use Rattle.promises.proofs.OnBus.{bus_kept}
use Rattle.promises.proofs.OnSettle.{noted_wake}
use Rattle.promises.proofs.OnSnoop.{unmet_word}
use Rattle.promises.proofs.Sleeping.{SleepsRight, woken_right, rule_tells}
use Rattle.promises.proofs.Sound.{Noted, WaitsIn, TenureWaits, tenure_kept, Sound, same_frames, by_reply, by_answer}

-- an operation that is unmet, or no claim, leaves the word
pub rule_stays : (o : Operation) (x : Word) (v : ℕ) → (met o x.state && claims o) ≡ false → (rule o x v).word ≡ x
rule_stays o x v e = grind (arith, unclaimed_word o x v, unmet_word o x v)

module _ (r : Rules) (law : Lawful r) (m : TaggedMemory) (s : State) (was : Sound r m s) (c : ℕ) (o : Operation) (w v : ℕ) where
  abbrev T : ℕ → Word
  T = m.word

  -- the memory with the new request noted
  abbrev noting : TaggedMemory
  noting = note m s.next (record { core = c; operation = o; word = w; value = v })

  -- notes of waiting requests stay: their numbers were given before
  old_note : (d : ℕ) (e : Entry) → Noted m s.next d e → Noted noting (s.next + 1) d e
  old_note d e h = grind (arith, nat_tests)

  -- LATER: the request waits
  later_present : (t : Tenure) → WaitsIn s t → WaitsIn (issue_later r s c o w v) t
  later_present t h = record {
    core = h.core;
    present = updated_each (λ _. Present t.entry) s.waiting c _ (present_append t.entry _ _) t.core h.present;
  }

  -- a request that goes to sleep at its issue is unmet
  new_sleeper : (in_reach r s c o w v && not (own_met r s c o w v)) ≡ true → met o (T w).state ≡ false
  new_sleeper e =
      let p = and_parts (in_reach r s c o w v) _ e in
      let kept = (and_parts (not (any_entry (on_word w) (s.waiting c))) _ p.0).1 in
      sym (ap (λ f. met o (word_in f w).state) (was.copies.true_copies c (line_of w) kept) ∙ ap (λ (x : Word). met o x.state) (line_word T w)) ∙ not-true _ p.1

  later_sound : Sound r noting (issue_later r s c o w v)
  later_sound = record {
    few_cores = was.few_cores;
    copies = same_frames r T s (issue_later r s c o w v) (λ d i. refl) (λ n. refl) (λ n e. e) was.copies;
    bus = bus_kept r T s (issue_later r s c o w v) (λ d i. refl) s.bus was.bus;
    notes = λ d.
        updated_each (λ i. EveryEntry (Noted noting (s.next + 1) i)) s.waiting c _
        (λ h. every_append _ (s.waiting c) _ h (record { note = updated_same m.noted s.next _; below = omega arith }))
        d (every_weaker _ _ (old_note d) (s.waiting d) (was.notes d));
    tenure = tenure_kept s (issue_later r s c o w v) s.bus later_present was.tenure;
    sleepers = λ d. updated_each (λ _. EveryEntry (SleepsRight T)) s.waiting c _ (λ h. every_append _ (s.waiting c) _ h new_sleeper) d (was.sleepers d);
  }

  -- NOW: the request is served at the own copy
  module _ (now : answers_now r s c o w v ≡ true) where
    abbrev n : ℕ
    n = line_of w

    reach : in_reach r s c o w v ≡ true
    reach = grind arith

    kept : keeps r s c n ≡ true
    kept = grind (arith, reach)

    -- the core has no request on the word
    first : any_entry (on_word w) (s.waiting c) ≡ false
    first = grind (arith, reach)

    abbrev g : Word → Word
    g x = (rule o x v).word

    abbrev claim : Bool
    claim = own_met r s c o w v && claims o

    pub own_is : own_word r s c o w v ≡ m.word w
    own_is = ap (λ f. word_in f w) (was.copies.true_copies c n kept) ∙ line_word T w

    sole : claim ≡ true → r.sole (copy s c n).code ≡ true
    sole e =
        let p = and_parts (own_met r s c o w v) _ e in
        let q = sym (cond-true _ _ _ p.0) ∙ (and_parts (in_reach r s c o w v) _ now).1 in
        ⊎_elim (λ z. absurd (both_ways _ (not_from_true _ p.1) z)) (λ z. z) (or_cases (not (claims o)) _ q)

    stays : claim ≡ false → g (T w) ≡ T w
    stays e = rule_stays o (T w) v (ap (λ (x : Word). met o x.state && claims o) (sym own_is) ∙ e)

    abbrev after : State
    after = issue_now r s c o w v

    copies : Copies r (changed T g w) after
    copies = changed_in_place r law T s c w g claim after was.copies kept sole stays (λ d j. refl) (λ x. refl) (λ x e. e)

    abbrev filled : Frame
    filled = record { code = cond claim r.own_claim (copy s c n).code; line = (copy s c n).line; content = with_word_in (copy s c n).content w (g (own_word r s c o w v)) }

    place : (d x : ℕ) → ((d ≡ c) × (x % 16 ≡ n % 16) × (copy after d x ≡ filled)) ⊎ (((d ≡ c) × (x % 16 ≡ n % 16) → ⊥) × (copy after d x ≡ copy s d x))
    place d x = frame_cases s.frame c (frame_of n) filled d (frame_of x)

    -- the copies of a line keep their codes if it is another line, or if the operation is no claim
    like : (x : ℕ) → (x ≡ n → claim ≡ false) → Like r s after x
    like x other = record {
      kept = λ d. ⊎_elim (λ p. at_place d p) (λ p. keeps_same r after s d x p.1) (place d x);
      code = λ d k.
          ⊎_elim
          (λ p. ap (λ (f : Frame). f.code) p.2 ∙ cond-false _ _ _ (other (line_same d p k)) ∙ (λ i. (s.frame (sym p.0 i) (sym p.1 i)).code))
          (λ p. ap (λ (f : Frame). f.code) p.1)
          (place d x);
    }
      where
        line_same : (d : ℕ) → (d ≡ c) × (x % 16 ≡ n % 16) × (copy after d x ≡ filled) → keeps r s d x ≡ true → x ≡ n
        line_same d p k = one_line r s c x n (ap (λ y. keeps r s y x) (sym p.0) ∙ k) kept p.1

        at_place : (d : ℕ) → (d ≡ c) × (x % 16 ≡ n % 16) × (copy after d x ≡ filled) → keeps r after d x ≡ keeps r s d x
        at_place d p =
            ⊎_elim
            (λ same.
            let code : (copy after d x).code ≡ (copy s c n).code = ap (λ (f : Frame). f.code) p.2 ∙ cond-false _ _ _ (other same) in
            let own = kept_of r s c n kept in
            keeps_by r after d x (record { core = subst (λ y. y < 8) (sym p.0) own.core; line = ap (λ (f : Frame). f.line) p.2 ∙ own.line ∙ sym same; code = ap r.kept code ∙ own.code })
            ∙ sym (ap (λ y. keeps r s y x) p.0 ∙ ap (keeps r s c) same ∙ kept))
            (λ ne.
            let afterwards : keeps r after d x ≡ true → x ≡ n = λ k. sym (kept_of r after d x k).line ∙ ap (λ (f : Frame). f.line) p.2 ∙ (kept_of r s c n kept).line in
            false_from_ne_true _ (λ k. ne (afterwards k)) ∙ sym (false_from_ne_true _ (λ k. ne (line_same d p k))))
            (cases_eq x n)

    -- what a tenure has found stays true
    found_now : (t : Tenure) (f : Found) → WaitsIn s t → FoundTrue r T s t f → FoundTrue r (changed T g w) after t f
    found_now t f here h =
        ⊎_elim
        (λ e. ⊎_elim (λ y. claimed_now t f here e y h) (λ z. found_like r T (changed T g w) s after t (like _ (λ _. z)) (ap (λ X. line_by_words X (line_of t.entry.word)) (back z)) (ap (λ X. X t.entry.word) (back z)) f h) (cases_Bool claim))
        (λ ne. found_like r T (changed T g w) s after t (like _ (λ e. absurd (ne e))) (changed_other T g w _ ne) (updated_other T w t.entry.word _ (λ e. ne (ap line_of e))) f h)
        (cases_eq (line_of t.entry.word) n)
      where
        back : claim ≡ false → changed T g w ≡ T
        back z = updated_back T w (g (T w)) (stays z)

        owner : claim ≡ true → owns r s c n ≡ true
        owner y = and_from (keeps r s c n) _ kept (sole y)

        -- a claim on the line that a tenure is for: only its own core can make it, on another word
        claimed_now : (t : Tenure) (f : Found) → WaitsIn s t → line_of t.entry.word ≡ n → claim ≡ true → FoundTrue r T s t f → FoundTrue r (changed T g w) after t f
        claimed_now t own_copy here e y h =
            let mine : t.core ≡ c = was.copies.alone c t.core n (owner y) (ap (keeps r s t.core) (sym e) ∙ h.0.kept) in
            let apart : t.entry.word ≡ w → ⊥ = λ same. both_ways _ first (ap (λ x. any_entry (on_word x) (s.waiting c)) (sym same) ∙ ap (λ d. any_entry (on_word t.entry.word) (s.waiting d)) (sym mine) ∙ present_on_word t.entry (s.waiting t.core) here.present) in
            let frame : copy after t.core (line_of t.entry.word) ≡ record { code = r.own_claim; line = (copy s c n).line; content = filled.content } =
            ⊎_elim (λ p. p.2 ∙ ap (λ k. record { code = k; line = (copy s c n).line; content = filled.content }) (cond-true _ _ _ y)) (λ p. absurd (p.0 (mine, ap (λ x. x % 16) e))) (place t.core (line_of t.entry.word))
            in (
              record {
                kept = keeps_by r after t.core (line_of t.entry.word) (record { core = here.core; line = ap (λ (z : Frame). z.line) frame ∙ (kept_of r s c n kept).line ∙ sym e; code = ap (λ (z : Frame). r.kept z.code) frame ∙ law.own_kept });
                sole = λ _. ap (λ (z : Frame). r.sole z.code) frame ∙ law.own_sole;
              },
              rw (updated_other T w t.entry.word (g (T w)) apart) h.1,
            )
        claimed_now t (read_in shared f) here e y h = absurd (h.0.none_sole c (ap (owns r s c) e ∙ owner y))
        claimed_now t (claimed f) here e y h =
            absurd (⊎_elim (λ same. h.0.own (ap (λ d. owns r s d (line_of t.entry.word)) (sym same) ∙ ap (owns r s c) e ∙ owner y)) (λ ne. h.0.others c ne (ap (keeps r s c) e ∙ kept)) (cases_eq c t.core))
        claimed_now t (unmet x found) here e y h = h

    now_bus : (b : Bus) → TenureWaits s b → BusTrue r T s b → BusTrue r (changed T g w) after b
    now_bus free here h = tt
    now_bus (granted t) here h = tt
    now_bus (snooped t f) here h = found_now t f here h

    abbrev deciding : TaggedMemory
    deciding = decide noting s.next

    fresh : noting.noted s.next ≡ Some (record { core = c; operation = o; word = w; value = v })
    fresh = updated_same m.noted s.next _

    now_sound : Sound r deciding after
    now_sound = record {
      few_cores = was.few_cores;
      copies = subst (λ X. Copies r X after) (sym word) copies;
      bus = subst (λ X. BusTrue r X after s.bus) (sym word) (now_bus s.bus was.tenure was.bus);
      notes = λ d. every_map (Noted m s.next d) (Noted deciding (s.next + 1) d) _ (λ e h. noted_again d _ (noted_wake noting (s.next + 1) d _ _ e (old_note d e h))) (s.waiting d) (was.notes d);
      tenure = tenure_kept s after s.bus (λ x h. record { core = h.core; present = present_wake _ _ x.entry (s.waiting x.core) h.present }) was.tenure;
      sleepers = λ d. subst (λ X. EveryEntry (SleepsRight X) (after.waiting d)) (sym word) (every_map (SleepsRight T) (SleepsRight (changed T g w)) (wake (issue_served r s c o w v).notice w) (λ e h. woken_right T w (g (T w)) _ (ap (λ x. (rule o x v).notice) own_is ∙ rule_tells o (T w) v) e h) (s.waiting d) (was.sleepers d));
    }
      where
        word : deciding.word ≡ changed T g w
        word = ap (λ x. (serve_noted noting s.next x).word) fresh

        noted_again : (d : ℕ) (e : Entry) → Noted noting (s.next + 1) d e → Noted deciding (s.next + 1) d e
        noted_again d e h = record { note = ap (λ x. (serve_noted noting s.next x).noted e.number) fresh ∙ h.note; below = h.below }

    -- an issue that answers at once answers for good
    pub answers : is_answer (issue_served r s c o w v).outcome ≡ true
    answers =
        cond_both (own_met r s c o w v) _ _ (λ (x : Served). is_answer x.outcome ≡ true) (λ y. refl)
        (λ z. gives_up_answers (class_of o) (sym (cond-false _ _ _ z) ∙ (and_parts (in_reach r s c o w v) _ now).1))
      where
        gives_up_answers : (k : Class) → gives_up k ≡ true → is_answer (unmet_outcome k) ≡ true
        gives_up_answers k e = grind arith

module _ (r : Rules) (law : Lawful r) (m : TaggedMemory) (s : State) (was : Sound r m s) where
  issued : (c k w v : ℕ) → Sound r (feed m (issue c k w v (Ok (issue_answer r s c (operation_coded k) w v)))) (cond (answers_now r s c (operation_coded k) w v) (issue_now r s c (operation_coded k) w v) (issue_later r s c (operation_coded k) w v))
  issued c k w v =
      by_answer r s c k w v (λ a t. Sound r (feed m (issue c k w v (Ok a))) t)
      (λ y. subst (λ n. Sound r n (issue_now r s c (operation_coded k) w v)) (sym (cond-true _ _ _ (answers r law m s was c (operation_coded k) w v y))) (now_sound r law m s was c (operation_coded k) w v y))
      (λ _. later_sound r law m s was c (operation_coded k) w v)

  pub issue_sound : (c k w v : ℕ) (a : OrRefused Answer) (t : State) → Step r s (issue c k w v a) t → Sound r (feed m (issue c k w v a)) t
  issue_sound c k w v a t step = by_reply (λ b u. Sound r (feed m (issue c k w v b)) u) s t _ (issue_refusal r s c k w v) _ a step.0 step.1 (λ e. was) (λ none. issued c k w v)
