-- Counts over the lists of waiting requests, by what each call adds and removes.
use Rattle.std.proofs.Common.{◌≡◌, ℕ, ◌+◌, ◌<◌, true, cond, eqb, List, [], ◌∷◌, ◌++◌, map, length, Option, refl, arith, rules}
use Rattle.std.proofs.lemmas.Bool.Decides.{nat_tests}
use Rattle.std.proofs.lemmas.List.Sums.{sum_by-cons}
use Rattle.tagged.specs.declared.answers.Notice.{Notice}
use Rattle.promises.specs.Board.{Entry}
use Rattle.promises.specs.Copies.{over_cores}
use Rattle.promises.specs.Lists.{any_entry, numbered, without, put_to_sleep, wake}
use Rattle.promises.specs.Steps.{updated}
use Rattle.promises.specs.Promises.{times}

-- a count over a list to which each entry adds by its number alone
pub record Measure (F : List Entry → ℕ) (a : ℕ → ℕ) : Type 0 where
  pub none : F [] ≡ 0
  pub more : (e : Entry) (es : List Entry) → F (e ∷ es) ≡ a e.number + F es

module _ {F : List Entry → ℕ} {a : ℕ → ℕ} (m : Measure F a) where
  pub measure_wake : (n : Option Notice) (w : ℕ) (es : List Entry) → F (map (wake n w) es) ≡ F es
  measure_wake n w [] = refl
  measure_wake n w (e ∷ es) = grind (arith, m.more, measure_wake n w es)

  pub measure_sleep : (k : ℕ) (es : List Entry) → F (put_to_sleep k es) ≡ F es
  measure_sleep k [] = refl
  measure_sleep k (e ∷ es) = grind (arith, m.more, measure_sleep k es)

  pub measure_add : (es : List Entry) (e : Entry) → F (es ++ e ∷ []) ≡ F es + a e.number
  measure_add [] e = grind (arith, m.more, m.none)
  measure_add (x ∷ es) e = grind (arith, m.more, measure_add es e)

  pub measure_remove : (k : ℕ) (es : List Entry) → any_entry (numbered k) es ≡ true → F (without k es) + a k ≡ F es
  measure_remove k [] e = grind arith
  measure_remove k (x ∷ es) e = grind (arith, nat_tests, m.more, measure_remove k es)

-- the count over all lists, where one of them changes
pub over_updated : (F : List Entry → ℕ) (f : ℕ → List Entry) (c : ℕ) (x : List Entry) → c < 8 → over_cores (λ d. F (updated f c x d)) + F (f c) ≡ over_cores (λ d. F (f d)) + F x
over_updated F f c x h = grind (arith, nat_tests)

pub over_same : (f g : ℕ → ℕ) → ((c : ℕ) → f c ≡ g c) → over_cores f ≡ over_cores g
over_same f g e = λ i. over_cores (λ c. e c i)

-- two counts: the entries, and those with number k
pub length_measure : Measure length (λ _. 1)
length_measure = search rules

abbrev pub numbers : List Entry → List ℕ
numbers es = map (λ (e : Entry). e.number) es

abbrev pub one : ℕ → ℕ → ℕ
one k j = cond (eqb k j) 1 0

pub times_measure : (k : ℕ) → Measure (λ es. times k (numbers es)) (one k)
times_measure k = record { none = refl; more = λ e es. sum_by-cons (one k) e.number (numbers es) }
