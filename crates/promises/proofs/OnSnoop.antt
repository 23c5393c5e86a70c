-- Snoop.
use Rattle.std.proofs.lemmas.Bool.Decides.{nat_tests}
use Rattle.std.proofs.Common.{◌≡◌, ℕ, true, false, not, ◌&&◌, eqb, List, Some, Ok, sym, refl, ap, ◌∙◌, subst, arith}
use Rattle.std.proofs.lemmas.Bool.{not-true, and_parts, cond_both}
use Rattle.protocol.specs.Rules.{Rules, Lawful}
use Rattle.tagged.specs.declared.operations.Operation.{Operation}
use Rattle.tagged.specs.declared.words.Word.{Word}
use Rattle.promises.specs.Board.{Entry, Tenure, granted, State}
use Rattle.tagged.specs.Operations.{class_of}
use Rattle.tagged.specs.Rule.{met, rule}
use Rattle.promises.specs.Calls.{to_settle, Slip, SnoopReport, OrRefused, snoop}
use Rattle.promises.specs.Lists.{put_to_sleep}
use Rattle.promises.specs.Steps.{Step, waits, snoop_met, snoop_kind, snoop_report, snoop_state}
use Rattle.promises.specs.OneMemory.{TaggedMemory, serve_noted, decide, noted_gives_up, feed}
use Rattle.promises.specs.Promises.{EveryEntry}
use Rattle.promises.proofs.Contents.{updated_back, updated_each}
use Rattle.promises.proofs.Copies.{claiming}
use Rattle.promises.proofs.Entries.{Present, present_sleep, every_sleep, every_both, every_weaker}
use Rattle.promises.proofs.Sleeping.{SleepsRight}
use Rattle.promises.proofs.Tenures.{travels_true, snoop_finds, snoop_not_met}
use Rattle.promises.proofs.Snooping.{snoop_copies}
use Rattle.promises.proofs.Sound.{Noted, WaitsIn, TenureWaits, Sound, same_memory, tenure_noted, by_snoop}

-- an unmet operation leaves the word
pub unmet_word : (o : Operation) (x : Word) (v : ℕ) → met o x.state ≡ false → (rule o x v).word ≡ x
unmet_word o x v e = grind (arith, nat_tests)

module _ (r : Rules) (law : Lawful r) (m : TaggedMemory) (s : State) (was : Sound r m s) (slip : Slip) where
  module _ (t : Tenure) (bus : s.bus ≡ granted t) where
    here : WaitsIn s t
    here = subst (TenureWaits s) bus was.tenure

    quiet : (n : ℕ) → claiming s.bus n ≡ false
    quiet n = ap (λ b. claiming b n) bus

    noted : m.noted t.entry.number ≡ Some (record { core = t.core; operation = t.entry.operation; word = t.entry.word; value = t.entry.value })
    noted = (tenure_noted r m s t was here).note

    lists : (c : ℕ) → EveryEntry (Noted m s.next c) ((snoop_state r s t).waiting c)
    lists c =
        cond_both (not (snoop_met r s t) && waits (class_of t.entry.operation)) _ s.waiting (λ (f : ℕ → List Entry). EveryEntry (Noted m s.next c) (f c))
        (λ _. updated_each (λ d. EveryEntry (Noted m s.next d)) s.waiting t.core _ (every_sleep _ t.entry.number _ (λ x _ h. record { note = h.note; below = h.below })) c (was.notes c))
        (λ _. was.notes c)

    present : Present t.entry ((snoop_state r s t).waiting t.core)
    present =
        cond_both (not (snoop_met r s t) && waits (class_of t.entry.operation)) _ s.waiting (λ (f : ℕ → List Entry). Present t.entry (f t.core))
        (λ _. updated_each (λ _. Present t.entry) s.waiting t.core _ (present_sleep t.entry.number t.entry _) t.core here.present)
        (λ _. here.present)

    -- one number has one note
    same_unmet : (x : Entry) → x.number ≡ t.entry.number → Noted m s.next t.core x → met t.entry.operation (m.word t.entry.word).state ≡ false → met x.operation (m.word x.word).state ≡ false
    same_unmet x number h e = grind (arith, h.note, noted)

    -- what falls asleep is the request of the tenure, and it is unmet
    asleep : (c : ℕ) → EveryEntry (SleepsRight m.word) ((snoop_state r s t).waiting c)
    asleep c =
        cond_both (not (snoop_met r s t) && waits (class_of t.entry.operation)) _ s.waiting (λ (f : ℕ → List Entry). EveryEntry (SleepsRight m.word) (f c))
        (λ e.
        let not_met = snoop_not_met r law m.word s t was.copies (travels_true r m.word s s.bus was.bus) quiet (not-true _ (and_parts (not (snoop_met r s t)) _ e).0) in
        updated_each (λ _. EveryEntry (SleepsRight m.word)) s.waiting t.core _
        (λ h.
        every_weaker (λ x. Noted m s.next t.core x × SleepsRight m.word x) (SleepsRight m.word) (λ x h. h.1) (put_to_sleep t.entry.number (s.waiting t.core))
        (every_sleep (λ x. Noted m s.next t.core x × SleepsRight m.word x) t.entry.number (s.waiting t.core)
        (λ x number h. (record { note = h.0.note; below = h.0.below }, λ _. same_unmet x number h.0 not_met))
        (every_both (Noted m s.next t.core) (SleepsRight m.word) (s.waiting t.core) (was.notes t.core) h)))
        c (was.sleepers c))
        (λ _. was.sleepers c)

    -- the state after, beside the memory before
    moved_sound : Sound r m (snoop_state r s t)
    moved_sound = record {
      few_cores = was.few_cores;
      copies = snoop_copies r law m.word s t was.copies quiet;
      bus = snoop_finds r law m.word s t was.copies (travels_true r m.word s s.bus was.bus) quiet;
      notes = lists;
      tenure = record { core = here.core; present = present };
      sleepers = asleep;
    }

    -- a snoop of kind 3 finds the condition unmet, so that the memory's word stays
    kind_three : eqb (snoop_kind r s t) 3 ≡ true → snoop_met r s t ≡ false
    kind_three e = grind arith

    decided_same : snoop_met r s t ≡ false → (k : ℕ) → k ≡ t.entry.number → ((decide m k).word ≡ m.word) × ((decide m k).noted ≡ m.noted)
    decided_same e k is =
        let note = ap m.noted is ∙ noted in
        let w = t.entry.word in
        let stays : (rule t.entry.operation (m.word w) t.entry.value).word ≡ m.word w = unmet_word t.entry.operation (m.word w) t.entry.value (snoop_not_met r law m.word s t was.copies (travels_true r m.word s s.bus was.bus) quiet e) in
        (ap (λ x. (serve_noted m k x).word) note ∙ updated_back m.word w _ stays, ap (λ x. (serve_noted m k x).noted) note)

    snooped_sound : slip.number ≡ t.entry.number → (x : Slip × SnoopReport) → x.1.kind ≡ snoop_kind r s t → Sound r (feed m (snoop slip (Ok x))) (snoop_state r s t)
    snooped_sound number x kind =
        cond_both (eqb x.1.kind 3 && noted_gives_up (m.noted slip.number)) _ _ (λ n. Sound r n (snoop_state r s t))
        (λ e.
        let p = and_parts (eqb x.1.kind 3) _ e in
        let d = decided_same (kind_three (ap (λ k. eqb k 3) (sym kind) ∙ p.0)) slip.number number in
        same_memory r m (decide m slip.number) (snoop_state r s t) d.0 d.1 moved_sound)
        (λ _. moved_sound)

  pub snoop_sound : (a : OrRefused (Slip × SnoopReport)) (t : State) → Step r s (snoop slip a) t → Sound r (feed m (snoop slip a)) t
  snoop_sound a t step = by_snoop (λ b u. Sound r (feed m (snoop slip b)) u) r s t slip a step (λ e. was) (λ x bus number. snooped_sound x bus number (record { board = s.setup.board; number = x.entry.number; stage = to_settle }, snoop_report r s x) refl)
