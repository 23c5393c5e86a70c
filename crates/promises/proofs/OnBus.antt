-- Calls that leave frames and memory: grant, give_back, withdraw, look, save, tally.
use Rattle.std.proofs.Common.{◌≡◌, ℕ, ◌<◌, true, false, List, [], is_some, Some, None, Option, sym, refl, ap, subst, arith}
use Rattle.std.proofs.lemmas.Bool.{eqb-false, leb-false, not-false, both_ways}
use Rattle.protocol.specs.Rules.{Rules}
use Rattle.tagged.specs.declared.words.Word.{Word}
use Rattle.promises.specs.Board.{Frame, Entry, Tenure, Bus, free, granted, snooped, State}
use Rattle.promises.specs.Calls.{to_snoop, Slip, OrRefused, Tally, grant, give_back, withdraw, look, save, tally}
use Rattle.promises.specs.Lists.{numbered, oldest_ready}
use Rattle.promises.specs.Refusing.{first_reason, is_free, has_bus, bus_at, grant_reasons, slip_reasons, withdraw_reasons}
use Rattle.promises.specs.Steps.{Step, with_bus, grant_bus, holder, withdrawn_state}
use Rattle.promises.specs.OneMemory.{TaggedMemory, feed}
use Rattle.promises.specs.Promises.{EveryEntry}
use Rattle.promises.proofs.Contents.{updated_each}
use Rattle.promises.proofs.Frames.{keeps_same, same_state_as}
use Rattle.promises.proofs.Copies.{claiming, free_claims_none}
use Rattle.promises.proofs.Entries.{Present, ready_present, present_without, every_without}
use Rattle.promises.proofs.Tenures.{found_like, BusTrue}
use Rattle.promises.proofs.Sleeping.{SleepsRight}
use Rattle.promises.proofs.Sound.{Noted, WaitsIn, TenureWaits, Sound, same_frames, cleared, by_reply, at_bus}

-- what was found stays true where all frames stay
pub bus_kept : (r : Rules) (T : ℕ → Word) (s t : State) → ((d i : ℕ) → t.frame d i ≡ s.frame d i) → (b : Bus) → BusTrue r T s b → BusTrue r T t b
bus_kept r T s t frames free h = tt
bus_kept r T s t frames (granted x) h = tt
bus_kept r T s t frames (snooped x f) h = found_like r T T s t x (record { kept = λ d. keeps_same r t s d _ (frames d _); code = λ d k. ap (λ (g : Frame). g.code) (frames d _) }) refl refl f h

module _ (r : Rules) (m : TaggedMemory) (s : State) (was : Sound r m s) where
  -- GRANT
  granted_sound : (c : ℕ) (x : Option Entry) → oldest_ready [] (s.waiting c) ≡ x → is_some x ≡ true → c < 8 → is_free s.bus ≡ true → Sound r m (with_bus s (grant_bus s c x))
  granted_sound c None e some core quiet = absurd (both_ways false refl some)
  granted_sound c (Some x) e some core quiet = record {
    few_cores = was.few_cores;
    copies = same_frames r m.word s (with_bus s (granted (record { core = c; entry = x }))) (λ d i. refl) (λ n. refl) (λ n q. free_claims_none s.bus n quiet) was.copies;
    bus = tt;
    notes = was.notes;
    tenure = record { core = core; present = ready_present [] (s.waiting c) x e };
    sleepers = was.sleepers;
  }

  pub grant_sound : (c : ℕ) (a : OrRefused Slip) (t : State) → Step r s (grant c a) t → Sound r (feed m (grant c a)) t
  grant_sound c a t step =
      by_reply (λ b u. Sound r (feed m (grant c b)) u) s t _ (first_reason (grant_reasons s c)) _ a step.0 step.1 (λ e. was)
      (λ none.
      let clear = cleared (grant_reasons s c) none in
      granted_sound c _ refl (not-false _ clear.1.1.0) (omega (arith, leb-false s.setup.cores c clear.0, was.few_cores)) (not-false _ clear.1.0))

  -- GIVE-BACK
  granted_quiet : (b : Bus) (k : ℕ) → bus_at b to_snoop k ≡ true → (n : ℕ) → claiming b n ≡ false
  granted_quiet b k e n = grind arith

  pub give_back_sound : (slip : Slip) (a : OrRefused (Unit {0})) (t : State) → Step r s (give_back slip a) t → Sound r (feed m (give_back slip a)) t
  give_back_sound slip a t step =
      by_reply (λ b u. Sound r (feed m (give_back slip b)) u) s t _ (first_reason (slip_reasons s slip to_snoop)) _ a step.0 step.1 (λ e. was)
      (λ none.
      record {
        few_cores = was.few_cores;
        copies = same_frames r m.word s (with_bus s free) (λ d i. refl) (λ n. refl) (λ n e. granted_quiet s.bus slip.number (at_bus s slip to_snoop none) n) was.copies;
        bus = tt;
        notes = was.notes;
        tenure = tt;
        sleepers = was.sleepers;
      })

  -- WITHDRAW
  list_kept : (t : Tenure) (k : ℕ) → numbered k t.entry ≡ false → WaitsIn s t → WaitsIn (withdrawn_state s k) t
  list_kept t k e h = record {
    core = h.core;
    present = updated_each (λ _. Present t.entry) s.waiting (holder s k) _ (present_without k t.entry _ (eqb-false _ _ e)) t.core h.present;
  }

  other_number : (b : Bus) (k : ℕ) → has_bus b k ≡ false → TenureWaits s b → TenureWaits (withdrawn_state s k) b
  other_number free k e h = tt
  other_number (granted t) k e h = list_kept t k e h
  other_number (snooped t f) k e h = list_kept t k e h

  pub withdraw_sound : (k : ℕ) (a : OrRefused (Unit {0})) (t : State) → Step r s (withdraw k a) t → Sound r (feed m (withdraw k a)) t
  withdraw_sound k a t step =
      by_reply (λ b u. Sound r (feed m (withdraw k b)) u) s t (withdrawn_state s k) (first_reason (withdraw_reasons s k)) _ a step.0 step.1 (λ e. was)
      (λ none.
      let clear = cleared (withdraw_reasons s k) none in
      record {
        few_cores = was.few_cores;
        copies = same_frames r m.word s (withdrawn_state s k) (λ d i. refl) (λ n. refl) (λ n e. e) was.copies;
        bus = bus_kept r m.word s (withdrawn_state s k) (λ d i. refl) s.bus was.bus;
        notes = λ c. updated_each (λ d. EveryEntry (Noted m s.next d)) s.waiting (holder s k) _ (every_without _ k _) c (was.notes c);
        tenure = other_number s.bus k clear.1.0 was.tenure;
        sleepers = λ c. updated_each (λ _. EveryEntry (SleepsRight m.word)) s.waiting (holder s k) _ (every_without _ k _) c (was.sleepers c);
      })

  -- LOOK, SAVE, TALLY change nothing
  pub look_sound : (w : ℕ) (a : OrRefused Word) (t : State) → Step r s (look w a) t → Sound r (feed m (look w a)) t
  look_sound w a t step = subst (Sound r m) (sym (same_state_as step.1)) was

  pub save_sound : (before after : List ℕ) (a : OrRefused ℕ) (t : State) → Step r s (save before after a) t → Sound r (feed m (save before after a)) t
  save_sound before after a t step = subst (Sound r m) (sym (same_state_as step.2)) was

  pub tally_sound : (a : Tally) (t : State) → Step r s (tally a) t → Sound r (feed m (tally a)) t
  tally_sound a t step = subst (Sound r m) (sym (same_state_as step.1)) was
