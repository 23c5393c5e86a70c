-- Settle.
use Rattle.std.proofs.lemmas.Bool.Decides.{nat_tests}
use Rattle.std.proofs.Common.{◌≡◌, ℕ, List, map, Some, Ok, Option, sym, refl, ap, ◌∙◌, subst, arith}
use Rattle.std.proofs.lemmas.Bool.{cond-true, cond-false, cond_both}
use Rattle.protocol.specs.Rules.{Rules, Lawful}
use Rattle.tagged.specs.declared.answers.Answer.{Answer}
use Rattle.tagged.specs.declared.answers.Notice.{Notice}
use Rattle.tagged.specs.declared.rule.Served.{Served}
use Rattle.promises.specs.Board.{Content, Entry, Tenure, Found, own_copy, read_in, claimed, unmet, free, snooped, State, line_of}
use Rattle.tagged.specs.Rule.{met, done_by}
use Rattle.promises.specs.Board.{word_in}
use Rattle.promises.specs.Calls.{Slip, OrRefused, settle}
use Rattle.promises.specs.Lists.{without, wake}
use Rattle.promises.specs.Steps.{Step, updated, is_waits, settle_state, settle_answer}
use Rattle.promises.specs.OneMemory.{TaggedMemory, serve_noted, decide, is_done, feed, line_by_words}
use Rattle.promises.specs.Promises.{EveryEntry}
use Rattle.promises.proofs.Contents.{updated_each, line_word}
use Rattle.promises.proofs.Sleeping.{SleepsRight, woken_right}
use Rattle.promises.proofs.Copies.{claiming, Copies}
use Rattle.promises.proofs.Entries.{every_map, every_weaker, every_without}
use Rattle.promises.proofs.Tenures.{Met, FoundTrue, BusTrue}
use Rattle.promises.proofs.Settling.{served, settle_hit, settle_read, settle_claim}
use Rattle.promises.proofs.Sound.{Noted, WaitsIn, TenureWaits, Sound, same_frames, tenure_noted, by_settle}

-- a note stays true of a request that wakes
pub noted_wake : (m : TaggedMemory) (next c : ℕ) (n : Option Notice) (w : ℕ) (e : Entry) → Noted m next c e → Noted m next c (wake n w e)
noted_wake m next c n w e h = grind (arith, nat_tests)

module _ (r : Rules) (law : Lawful r) (m : TaggedMemory) (s : State) (was : Sound r m s) (slip : Slip) where
  module _ (t : Tenure) (f : Found) (bus : s.bus ≡ snooped t f) where
    here : WaitsIn s t
    here = subst (TenureWaits s) bus was.tenure

    found : FoundTrue r m.word s t f
    found = subst (BusTrue r m.word s) bus was.bus

    noted : m.noted t.entry.number ≡ Some (record { core = t.core; operation = t.entry.operation; word = t.entry.word; value = t.entry.value })
    noted = (tenure_noted r m s t was here).note

    -- the lists without the request keep their notes
    rest_noted : (c : ℕ) → EveryEntry (Noted m s.next c) (updated s.waiting t.core (without t.entry.number (s.waiting t.core)) c)
    rest_noted c = updated_each (λ d. EveryEntry (Noted m s.next d)) s.waiting t.core _ (every_without _ t.entry.number _) c (was.notes c)

    rest_asleep : (c : ℕ) → EveryEntry (SleepsRight m.word) (updated s.waiting t.core (without t.entry.number (s.waiting t.core)) c)
    rest_asleep c = updated_each (λ _. EveryEntry (SleepsRight m.word)) s.waiting t.core _ (every_without _ t.entry.number _) c (was.sleepers c)

    done_noted : (n : Option Notice) (c : ℕ) → EveryEntry (Noted m s.next c) (map (wake n t.entry.word) (updated s.waiting t.core (without t.entry.number (s.waiting t.core)) c))
    done_noted n c = every_map (Noted m s.next c) (Noted m s.next c) (wake n t.entry.word) (noted_wake m s.next c n t.entry.word) _ (rest_noted c)

    -- the notice wakes whom the done operation lets go on
    done_asleep : (before : Content) → before ≡ line_by_words m.word (line_of t.entry.word) → (c : ℕ) → EveryEntry (SleepsRight (served m.word t.entry.operation t.entry.word t.entry.value)) (map (wake (done_by t.entry.operation (word_in before t.entry.word) t.entry.value).notice t.entry.word) (updated s.waiting t.core (without t.entry.number (s.waiting t.core)) c))
    done_asleep before line c =
        every_map (SleepsRight m.word) (SleepsRight (served m.word t.entry.operation t.entry.word t.entry.value)) (wake (done_by t.entry.operation (word_in before t.entry.word) t.entry.value).notice t.entry.word)
        (λ e h. woken_right m.word t.entry.word (done_by t.entry.operation (m.word t.entry.word) t.entry.value).word _ (ap (λ y. (done_by t.entry.operation y t.entry.value).notice) (ap (λ g. word_in g t.entry.word) line ∙ line_word m.word t.entry.word)) e h)
        _ (rest_asleep c)

    -- what the memory has once it has served the request
    served_word : Met m.word t → (decide m t.entry.number).word ≡ served m.word t.entry.operation t.entry.word t.entry.value
    served_word is =
        ap (λ x. (serve_noted m t.entry.number x).word) noted
        ∙ ap (λ (y : Served). updated m.word t.entry.word y.word) (cond-true (met t.entry.operation (m.word t.entry.word).state) _ _ is)

    served_noted : (decide m t.entry.number).noted ≡ m.noted
    served_noted = ap (λ x. (serve_noted m t.entry.number x).noted) noted

    -- kinds 0 to 2
    done_sound : Met m.word t → (after : State) → Copies r (served m.word t.entry.operation t.entry.word t.entry.value) after → after.setup ≡ s.setup → after.next ≡ s.next → after.bus ≡ free → ((c : ℕ) → EveryEntry (Noted m s.next c) (after.waiting c)) → ((c : ℕ) → EveryEntry (SleepsRight (served m.word t.entry.operation t.entry.word t.entry.value)) (after.waiting c)) → Sound r (decide m t.entry.number) after
    done_sound is after copies setup next quiet lists asleep = record {
      few_cores = grind (arith, nat_tests);
      copies = subst (λ T. Copies r T after) (sym (served_word is)) copies;
      bus = grind (arith, nat_tests);
      notes = λ c. subst (λ x. EveryEntry (Noted (decide m t.entry.number) x c) (after.waiting c)) (sym next) (every_weaker (Noted m s.next c) (Noted (decide m t.entry.number) s.next c) (λ e h. record { note = ap (λ x. x e.number) served_noted ∙ h.note; below = h.below }) (after.waiting c) (lists c));
      tenure = subst (TenureWaits after) (sym quiet) tt;
      sleepers = λ c. subst (λ T. EveryEntry (SleepsRight T) (after.waiting c)) (sym (served_word is)) (asleep c);
    }

  -- what the bus had found decides what a settle leaves
  settled : (t : Tenure) (f : Found) → s.bus ≡ snooped t f → Sound r (feed m (settle slip (Ok (settle_answer r s t f)))) (settle_state r s t f)
  settled t own_copy bus =
      let h = found t own_copy bus in
      done_sound t own_copy bus h.1 _ (settle_hit r law m.word s t was.copies (here t own_copy bus).core bus h.0) refl refl refl
      (done_noted t own_copy bus _)
      (done_asleep t own_copy bus _ (was.copies.true_copies t.core _ h.0.kept))
  settled t (read_in shared f) bus =
      let h = found t (read_in shared f) bus in
      done_sound t (read_in shared f) bus h.1 _ (settle_read r law m.word s t was.copies (here t (read_in shared f) bus).core f (r.read_fill shared) h.0.line (law.fill_fits shared) shared bus refl h.0) refl refl refl
      (done_noted t (read_in shared f) bus _)
      (done_asleep t (read_in shared f) bus _ h.0.line)
  settled t (claimed f) bus =
      let h = found t (claimed f) bus in
      done_sound t (claimed f) bus h.1 _ (settle_claim r law m.word s t was.copies (here t (claimed f) bus).core f r.own_claim h.0.line law.own_fits bus h.0) refl refl refl
      (done_noted t (claimed f) bus _)
      (done_asleep t (claimed f) bus _ h.0.line)
  settled t (unmet o x) bus =
      subst (λ n. Sound r n (settle_state r s t (unmet o x))) (sym (cond-false (is_done o) _ m (found t (unmet o x) bus)))
      (record {
        few_cores = was.few_cores;
        copies = same_frames r m.word s (settle_state r s t (unmet o x)) (λ d i. refl) (λ n. refl) (λ n q. ap (λ b. claiming b n) bus) was.copies;
        bus = tt;
        notes = λ c. cond_both (is_waits s t o o) s.waiting _ (λ (g : ℕ → List Entry). EveryEntry (Noted m s.next c) (g c)) (λ _. was.notes c) (λ _. rest_noted t (unmet o x) bus c);
        tenure = tt;
        sleepers = λ c. cond_both (is_waits s t o o) s.waiting _ (λ (g : ℕ → List Entry). EveryEntry (SleepsRight m.word) (g c)) (λ _. was.sleepers c) (λ _. rest_asleep t (unmet o x) bus c);
      })

  pub settle_sound : (a : OrRefused Answer) (t : State) → Step r s (settle slip a) t → Sound r (feed m (settle slip a)) t
  settle_sound a t step = by_settle (λ b u. Sound r (feed m (settle slip b)) u) r s t slip a step (λ e. was) settled
