-- Evict and drain.
use Rattle.std.proofs.lemmas.Bool.Decides.{nat_tests}
use Rattle.std.proofs.Common.{◌≡◌, ℕ, ◌%◌, true, false, ◌⊎◌, sym, refl, ap, ◌∙◌, arith}
use Rattle.std.proofs.lemmas.Bool.{eqb-false, not-false, false_from_ne_true}
use Rattle.protocol.specs.Rules.{Rules, Lawful}
use Rattle.promises.specs.Board.{Bus, free, granted, snooped, State, line_of}
use Rattle.promises.specs.Calls.{OrRefused, evict, drain}
use Rattle.promises.specs.Copies.{copy, keeps}
use Rattle.promises.specs.Refusing.{first_reason, is_free, bus_on_line, evict_reasons, drain_reasons}
use Rattle.promises.specs.Steps.{Step, dropped, evicted_state, drained_state}
use Rattle.promises.specs.OneMemory.{TaggedMemory, feed}
use Rattle.promises.proofs.Frames.{keeps_same}
use Rattle.promises.proofs.Copies.{keeps_empty, one_line, evict_copies, drain_copies}
use Rattle.promises.proofs.Tenures.{Like, found_like, BusTrue}
use Rattle.promises.proofs.Sound.{Sound, TenureWaits, cleared, by_reply}

module _ (r : Rules) (law : Lawful r) (m : TaggedMemory) (s : State) (was : Sound r m s) where
  -- the copies of other lines stay
  evict_like : (c w n : ℕ) → keeps r s c (line_of w) ≡ true → (n ≡ line_of w → ⊥) → Like r s (evicted_state r s c w) n
  evict_like c w n kept ne = record {
    kept = λ d. grind (arith, place d, gone d, keeps_empty r law (evicted_state r s c w) d n, keeps_same r (evicted_state r s c w) s d n);
    code = λ d k. grind (arith, place d, gone d);
  }
    where
      place : (d : ℕ) → ((d ≡ c) × (n % 16 ≡ line_of w % 16) × (copy (evicted_state r s c w) d n ≡ dropped (copy s c (line_of w)))) ⊎ (((d ≡ c) × (n % 16 ≡ line_of w % 16) → ⊥) × (copy (evicted_state r s c w) d n ≡ copy s d n))
      place d = grind (arith, nat_tests)

      gone : (d : ℕ) → (d ≡ c) × (n % 16 ≡ line_of w % 16) × (copy (evicted_state r s c w) d n ≡ dropped (copy s c (line_of w))) → keeps r s d n ≡ false
      gone d p = false_from_ne_true _ (λ k. ne (one_line r s c n (line_of w) (ap (λ x. keeps r s x n) (sym p.0) ∙ k) kept p.1))

  evict_bus : (c w : ℕ) → keeps r s c (line_of w) ≡ true → (b : Bus) → bus_on_line b (line_of w) ≡ false → BusTrue r m.word s b → BusTrue r m.word (evicted_state r s c w) b
  evict_bus c w kept free e h = tt
  evict_bus c w kept (granted t) e h = tt
  evict_bus c w kept (snooped t f) e h = found_like r m.word m.word s (evicted_state r s c w) t (evict_like c w (line_of t.entry.word) kept (eqb-false _ _ e)) refl refl f h

  pub evict_sound : (c w : ℕ) (a : OrRefused (Unit {0})) (t : State) → Step r s (evict c w a) t → Sound r (feed m (evict c w a)) t
  evict_sound c w a t step =
      by_reply (λ b u. Sound r (feed m (evict c w b)) u) s t (evicted_state r s c w) (first_reason (evict_reasons s r c w)) _ a step.0 step.1 (λ e. was)
      (λ none.
      let clear = cleared (evict_reasons s r c w) none in
      let kept = not-false (keeps r s c (line_of w)) clear.1.1.0 in
      record {
        few_cores = was.few_cores;
        copies = evict_copies r law m.word s c w was.copies kept;
        bus = evict_bus c w kept s.bus clear.1.1.1.0 was.bus;
        notes = was.notes;
        tenure = grind (arith, nat_tests);
        sleepers = was.sleepers;
      })

  drain_free : (b : Bus) → is_free b ≡ true → BusTrue r m.word (drained_state r s) b × TenureWaits (drained_state r s) b
  drain_free b e = grind arith

  pub drain_sound : (a : OrRefused (Unit {0})) (t : State) → Step r s (drain a) t → Sound r (feed m (drain a)) t
  drain_sound a t step =
      by_reply (λ b u. Sound r (feed m (drain b)) u) s t (drained_state r s) (first_reason (drain_reasons s)) _ a step.0 step.1 (λ e. was)
      (λ none.
      let quiet = not-false (is_free s.bus) (cleared (drain_reasons s) none).0 in
      record {
        few_cores = was.few_cores;
        copies = drain_copies r law m.word s was.copies quiet;
        bus = (drain_free s.bus quiet).0;
        notes = was.notes;
        tenure = (drain_free s.bus quiet).1;
        sleepers = was.sleepers;
      })
