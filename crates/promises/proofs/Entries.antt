-- Facts on lists of waiting requests: what waking, sleeping, adding and removing keep.
use Rattle.std.proofs.Common.{◌≡◌, ℕ, true, false, not, ◌&&◌, ◌⊎◌, List, [], ◌∷◌, ◌++◌, map, Some, Option, sym, ◌∙◌, subst, inl, inr, ⊎_elim, arith, rules}
use Rattle.std.proofs.lemmas.Bool.{cases_Bool, eqb-true, cond-true, cond-false, cond_both}
use Rattle.std.proofs.lemmas.Bool.Decides.{nat_tests}
use Rattle.std.proofs.lemmas.Option.{none-some, same_Some}
use Rattle.tagged.specs.declared.answers.Notice.{Notice}
use Rattle.promises.specs.Board.{Entry}
use Rattle.promises.specs.Lists.{on_word, any_entry, numbered, without, set_asleep, put_to_sleep, oldest_ready, wakes, wake}
use Rattle.promises.specs.Promises.{EveryEntry}

-- the same request, awake or asleep
pub record SameRequest (x e : Entry) : Type 0 where
  pub number : x.number ≡ e.number
  pub operation : x.operation ≡ e.operation
  pub word : x.word ≡ e.word
  pub value : x.value ≡ e.value

-- the request stands in the list
abbrev pub Present : Entry → List Entry → Type 0
Present x [] = ⊥
Present x (e ∷ es) = SameRequest x e ⊎ Present x es

pub same_request : (x : Entry) → SameRequest x x
same_request x = grind (arith, nat_tests)

-- waking one changes only whether it sleeps
pub wake_cases : (n : Option Notice) (w : ℕ) (e : Entry) → ((wakes n w e ≡ true) × (wake n w e ≡ set_asleep false e)) ⊎ ((wakes n w e ≡ false) × (wake n w e ≡ e))
wake_cases n w e = grind (arith, nat_tests)

wake_same : (n : Option Notice) (w : ℕ) (x e : Entry) → SameRequest x e → SameRequest x (wake n w e)
wake_same n w x e h = search (rules, cond_both)

pub present_wake : (n : Option Notice) (w : ℕ) (x : Entry) (es : List Entry) → Present x es → Present x (map (wake n w) es)
present_wake n w x [] h = h
present_wake n w x (e ∷ es) (inl h) = inl (wake_same n w x e h)
present_wake n w x (e ∷ es) (inr h) = inr (present_wake n w x es h)

pub present_append : (x : Entry) (es fs : List Entry) → Present x es → Present x (es ++ fs)
present_append x [] fs h = absurd h
present_append x (e ∷ es) fs h = search (rules, present_append x es fs)

pub present_sleep : (k : ℕ) (x : Entry) (es : List Entry) → Present x es → Present x (put_to_sleep k es)
present_sleep k x [] h = h
present_sleep k x (e ∷ es) h = cond_both (numbered k e) _ _ (Present x) (λ t. search rules) (λ f. search (rules, present_sleep k x es))

pub present_without : (k : ℕ) (x : Entry) (es : List Entry) → (x.number ≡ k → ⊥) → Present x es → Present x (without k es)
present_without k x [] ne h = h
present_without k x (e ∷ es) ne h =
    cond_both (numbered k e) _ _ (Present x) (λ t. ⊎_elim (λ s. absurd (ne (s.number ∙ eqb-true _ k t))) (λ p. p) h) (λ f. search (rules, present_without k x es ne))

pub present_on_word : (x : Entry) (es : List Entry) → Present x es → any_entry (on_word x.word) es ≡ true
present_on_word x [] h = absurd h
present_on_word x (e ∷ es) (inl h) = grind (arith, nat_tests)
present_on_word x (e ∷ es) (inr h) = grind (arith, present_on_word x es h)

pub present_numbered : (x : Entry) (es : List Entry) → Present x es → any_entry (numbered x.number) es ≡ true
present_numbered x [] h = absurd h
present_numbered x (e ∷ es) (inl h) = grind (arith, nat_tests)
present_numbered x (e ∷ es) (inr h) = grind (arith, present_numbered x es h)

-- the oldest ready request stands in the list
pub ready_present : (older es : List Entry) (x : Entry) → oldest_ready older es ≡ Some x → Present x es
ready_present older [] x e = absurd (none-some x e)
ready_present older (f ∷ es) x e =
    ⊎_elim
    (λ t. inl (subst (λ y. SameRequest y f) (same_Some f x (sym (cond-true _ _ _ t) ∙ e)) (same_request f)))
    (λ n. inr (ready_present (f ∷ older) es x (sym (cond-false _ _ _ n) ∙ e)))
    (cases_Bool (not f.asleep && not (any_entry (on_word f.word) older)))

-- what holds of every entry
module _ (P Q : Entry → Type 0) where
  pub every_weaker : ((e : Entry) → P e → Q e) → (es : List Entry) → EveryEntry P es → EveryEntry Q es
  every_weaker f [] h = tt
  every_weaker f (e ∷ es) h = (f e h.0, every_weaker f es h.1)

  pub every_map : (g : Entry → Entry) → ((e : Entry) → P e → Q (g e)) → (es : List Entry) → EveryEntry P es → EveryEntry Q (map g es)
  every_map g f [] h = tt
  every_map g f (e ∷ es) h = (f e h.0, every_map g f es h.1)

  pub every_both : (es : List Entry) → EveryEntry P es → EveryEntry Q es → EveryEntry (λ e. P e × Q e) es
  every_both [] h k = tt
  every_both (e ∷ es) h k = ((h.0, k.0), every_both es h.1 k.1)

module _ (P : Entry → Type 0) where
  pub every_append : (es : List Entry) (e : Entry) → EveryEntry P es → P e → EveryEntry P (es ++ e ∷ [])
  every_append [] e h p = (p, tt)
  every_append (x ∷ es) e h p = (h.0, every_append es e h.1 p)

  pub every_without : (k : ℕ) (es : List Entry) → EveryEntry P es → EveryEntry P (without k es)
  every_without k [] h = tt
  every_without k (e ∷ es) h = cond_both (numbered k e) _ _ (EveryEntry P) (λ t. h.1) (λ f. (h.0, every_without k es h.1))

  -- the request that falls asleep keeps P if P holds of it asleep
  pub every_sleep : (k : ℕ) (es : List Entry) → ((e : Entry) → e.number ≡ k → P e → P (set_asleep true e)) → EveryEntry P es → EveryEntry P (put_to_sleep k es)
  every_sleep k [] f h = tt
  every_sleep k (e ∷ es) f h = cond_both (numbered k e) _ _ (EveryEntry P) (λ t. (f e (eqb-true _ k t) h.0, h.1)) (λ n. (h.0, every_sleep k es f h.1))

  -- P holds of a request that stands in the list, if it does not look at whether it sleeps
  pub every_present : (x : Entry) (es : List Entry) → ((e : Entry) → SameRequest x e → P e → P x) → EveryEntry P es → Present x es → P x
  every_present x [] f h p = absurd p
  every_present x (e ∷ es) f h (inl s) = f e s h.0
  every_present x (e ∷ es) f h (inr p) = every_present x es f h.1 p
