-- Lists stand in the order of issue, and the request that has the bus is the oldest on its word.
use Rattle.std.proofs.Common.{◌≡◌, ℕ, ◌<◌, ◌≤◌, false, not, ◌&&◌, List, [], ◌∷◌, ◌++◌, map, Some, Option, sym, ◌∙◌, subst, ⊎_elim, arith}
use Rattle.std.proofs.lemmas.Bool.{cases_Bool, cond-true, cond-false, cond_both}
use Rattle.std.proofs.lemmas.Bool.Decides.{nat_tests}
use Rattle.std.proofs.lemmas.Option.{none-some, same_Some}
use Rattle.tagged.specs.declared.answers.Notice.{Notice}
use Rattle.promises.specs.Board.{Entry}
use Rattle.promises.specs.Lists.{any_entry, on_word, numbered, without, put_to_sleep, wake, oldest_ready}
use Rattle.promises.specs.Promises.{EveryEntry}
use Rattle.promises.proofs.Entries.{every_weaker, every_map, every_append, every_without, every_sleep}

-- numbers rise along the list
abbrev pub Rising : List Entry → Type 0
Rising [] = Unit {0}
Rising (e ∷ es) = EveryEntry (λ f. e.number < f.number) es × Rising es

-- what holds of every number and word of a list
abbrev pub Each : (ℕ → ℕ → Type 0) → List Entry → Type 0
Each P es = EveryEntry (λ e. P e.number e.word) es

-- the second list has no other requests than the first, in the same order
pub record Within (es fs : List Entry) : Type 1 where
  pub each : (P : ℕ → ℕ → Type 0) → Each P es → Each P fs
  pub rising : Rising es → Rising fs

pub within_same : (es : List Entry) → Within es es
within_same es = record { each = λ P h. h; rising = λ h. h }

pub within_then : {es fs gs : List Entry} → Within es fs → Within fs gs → Within es gs
within_then x y = grind (arith, nat_tests)

module _ (n : Option Notice) (w : ℕ) where
  wake_each : (P : ℕ → ℕ → Type 0) (e : Entry) → P e.number e.word → P (wake n w e).number (wake n w e).word
  wake_each P e h = grind (arith, nat_tests)

  each_wake : (P : ℕ → ℕ → Type 0) (es : List Entry) → Each P es → Each P (map (wake n w) es)
  each_wake P es h = every_map (λ e. P e.number e.word) (λ e. P e.number e.word) (wake n w) (wake_each P) es h

  rising_wake : (es : List Entry) → Rising es → Rising (map (wake n w) es)
  rising_wake [] h = tt
  rising_wake (e ∷ es) h = (wake_each (λ k v. EveryEntry (λ f. k < f.number) (map (wake n w) es)) e (each_wake (λ k v. e.number < k) es h.0), rising_wake es h.1)

  pub within_wake : (es : List Entry) → Within es (map (wake n w) es)
  within_wake es = record { each = λ P. each_wake P es; rising = rising_wake es }

module _ (k : ℕ) where
  rising_sleep : (es : List Entry) → Rising es → Rising (put_to_sleep k es)
  rising_sleep [] h = tt
  rising_sleep (e ∷ es) h = cond_both (numbered k e) _ _ Rising (λ t. h) (λ f. (every_sleep (λ f. e.number < f.number) k es (λ g same p. p) h.0, rising_sleep es h.1))

  pub within_sleep : (es : List Entry) → Within es (put_to_sleep k es)
  within_sleep es = record { each = λ P. every_sleep (λ e. P e.number e.word) k es (λ g same p. p); rising = rising_sleep es }

  rising_without : (es : List Entry) → Rising es → Rising (without k es)
  rising_without [] h = tt
  rising_without (e ∷ es) h = cond_both (numbered k e) _ _ Rising (λ t. h.1) (λ f. (every_without (λ f. e.number < f.number) k es h.0, rising_without es h.1))

  pub within_without : (es : List Entry) → Within es (without k es)
  within_without es = record { each = λ P. every_without (λ e. P e.number e.word) k es; rising = rising_without es }

pub rising_append : (es : List Entry) (e : Entry) → EveryEntry (λ f. f.number < e.number) es → Rising es → Rising (es ++ e ∷ [])
rising_append [] e below h = (tt, tt)
rising_append (x ∷ es) e below h = (every_append (λ f. x.number < f.number) es e h.0 below.0, rising_append es e below.1 h.1)

-- the oldest ready request is the oldest of its list on its word
pub ready_oldest : (older es : List Entry) (x : Entry) → Rising es → oldest_ready older es ≡ Some x → (any_entry (on_word x.word) older ≡ false) × Each (λ k w. x.word ≡ w → x.number ≤ k) es
ready_oldest older [] x h e = absurd (none-some x e)
ready_oldest older (f ∷ es) x h e =
    ⊎_elim
    (λ t.
    let same = same_Some f x (sym (cond-true _ _ _ t) ∙ e) in
    subst (λ (y : Entry). (any_entry (on_word y.word) older ≡ false) × Each (λ k w. y.word ≡ w → y.number ≤ k) (f ∷ es)) same
    (grind arith, ((λ q. omega arith), every_weaker (λ g. f.number < g.number) (λ g. f.word ≡ g.word → f.number ≤ g.number) (λ g less q. omega (arith, less)) es h.0)))
    (λ n.
    let rest = ready_oldest (f ∷ older) es x h.1 (sym (cond-false _ _ _ n) ∙ e) in
    (grind arith, ((λ q. grind (arith, nat_tests)), rest.1)))
    (cases_Bool (not f.asleep && not (any_entry (on_word f.word) older)))
