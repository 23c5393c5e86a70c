-- A line as it stands is the one tagged memory's.
use Rattle.std.proofs.Common.{◌≡◌, ℕ, true, false, ltb, ⊎_elim, arith, cond}
use Rattle.std.proofs.lemmas.Bool.{cases_Bool, and_left, cond_both}
use Rattle.std.proofs.lemmas.Bool.Decides.{nat_tests}
use Rattle.protocol.specs.Rules.{Rules}
use Rattle.tagged.specs.declared.words.Word.{Word}
use Rattle.promises.specs.Board.{Content, own_copy, read_in, claimed, unmet, Bus, free, granted, snooped, State, line_of}
use Rattle.promises.specs.Copies.{copy, keeps, owes, lowest, any_core, supplied, travelling, stands}
use Rattle.promises.specs.OneMemory.{line_by_words}
use Rattle.promises.proofs.Frames.{kept_of, lowest_passes, lowest_none, no_core_passes}
use Rattle.promises.proofs.Copies.{claiming, Copies, owes_keeps}

-- the line that travels is the one tagged memory's
abbrev pub TravelsTrue : (ℕ → Word) → Bus → Type 0
TravelsTrue T free = Unit {0}
TravelsTrue T (granted t) = Unit {0}
TravelsTrue T (snooped t own_copy) = Unit {0}
TravelsTrue T (snooped t (read_in shared f)) = f ≡ line_by_words T (line_of t.entry.word)
TravelsTrue T (snooped t (claimed f)) = f ≡ line_by_words T (line_of t.entry.word)
TravelsTrue T (snooped t (unmet o found)) = Unit {0}

module _ (r : Rules) (T : ℕ → Word) (s : State) (was : Copies r T s) where
  -- a line that some cache supplies, or else this
  pub supplied_true : (n : ℕ) (x : Content) → (((c : ℕ) → keeps r s c n ≡ false) → x ≡ line_by_words T n) → supplied r s n x ≡ line_by_words T n
  supplied_true n x otherwise =
      cond_both (any_core (λ c. owes r s c n)) (lowest (λ c. owes r s c n)) (lowest (λ c. keeps r s c n)) (λ k. cond (ltb k 8) (copy s k n).content x ≡ line_by_words T n)
      (λ t. from _ (owes_keeps r s _ n (lowest_passes (λ c. owes r s c n) t).0))
      (λ _.
      ⊎_elim
      (λ t. from _ (lowest_passes (λ c. keeps r s c n) t).0)
      (λ none. rw (lowest_none (λ c. keeps r s c n) none) (otherwise (no_core_passes (λ c. keeps r s c n) none (λ c k. (kept_of r s c n k).core))))
      (cases_Bool (any_core (λ c. keeps r s c n))))
    where
      from : (k : ℕ) → keeps r s k n ≡ true → cond (ltb k 8) (copy s k n).content x ≡ line_by_words T n
      from k kept = grind (arith, nat_tests, kept_of r s k n kept, was.true_copies k n kept)

  -- a line that no cache keeps stands on the bus or in memory
  travels : (b : Bus) (n : ℕ) → TravelsTrue T b → (claiming b n ≡ false → s.memory n ≡ line_by_words T n) → travelling b n (s.memory n) ≡ line_by_words T n
  travels b n line memory = grind (arith, nat_tests)

  none_owes : (n : ℕ) → ((c : ℕ) → keeps r s c n ≡ false) → (c : ℕ) → owes r s c n ≡ false
  none_owes n none c = and_left (keeps r s c n) _ (none c)

  pub stands_true : TravelsTrue T s.bus → (n : ℕ) → stands r s n ≡ line_by_words T n
  unfolding stands
  stands_true line n = supplied_true n _ (λ none. travels s.bus n line (was.true_memory n (none_owes n none)))

  -- what a snoop fetches, as no line is being claimed
  pub fetched_true : (n : ℕ) → claiming s.bus n ≡ false → supplied r s n (s.memory n) ≡ line_by_words T n
  fetched_true n quiet = supplied_true n _ (λ none. was.true_memory n (none_owes n none) quiet)
