-- Beside the library's lemmas on chains of iterators: a range that has its end, and items that are seen through a function.
use Rattle.std.proofs.Common.{◌≡◌, ℕ, zero, suc, ◌+◌, ◌-◌, ◌<◌, false, Option, List, [], ◌∷◌, map, ap, ◌∙◌, arith}
use Rattle.std.specs.List.{range_with_len}
use Rattle.std.specs.Iterator.{AlwaysYields}
use Rattle.std.specs.Range.{range_inclusive_start, range_inclusive_end, range_inclusive_exhausted, range_inclusive_left, range_inclusive_steps}
use Rattle.std.specs.declared.ops.RangeInclusive.{RangeInclusive}
use Rattle.std.proofs.lemmas.Iterator.{YieldsList}

-- how many numbers a range of unsigned numbers has left, and what a call gives
abbrev left : RangeInclusive ℕ → ℕ
left = range_inclusive_left (λ x y. y - x)

abbrev steps_up : RangeInclusive ℕ → Option ℕ → RangeInclusive ℕ → Type 0
steps_up = range_inclusive_steps (λ x y. y - x) (λ x y. y ≡ x + 1)

unspent : (s : RangeInclusive ℕ) → 0 < left s → range_inclusive_exhausted s ≡ false
unspent s h = grind arith

counts_up : (n a : ℕ) (s : RangeInclusive ℕ) → left s ≡ n → (0 < n → range_inclusive_start s ≡ a) → AlwaysYields steps_up (λ x. x) s (range_with_len a n)
counts_up zero a s e f = λ x t p. omega (arith, p.1.1)
counts_up (suc n) a s e f = (
  λ t p. omega (arith, p.1.0),
  λ x t p. (
    p.1.0 ∙ f (omega arith),
    counts_up n (a + 1) t (omega (arith, p.1.1)) (λ more. let now : range_inclusive_start s ≡ a = f (omega arith) in omega (arith, p.1.2 (unspent t (omega (arith, p.1.1))))),
  ),
)

pub YieldsList-from_range_inclusive : {s : RangeInclusive ℕ} (a b : ℕ) → range_inclusive_start s ≡ a → range_inclusive_end s ≡ b → range_inclusive_exhausted s ≡ false → YieldsList steps_up (λ x. x) s (range_with_len a (b + 1 - a))
YieldsList-from_range_inclusive {s} a b e f g = record { runs = counts_up (b + 1 - a) a s (grind arith) (λ _. e) }

-- what a chain gives is seen through h
module _ {S A B C : Type 0} (steps : S → Option A → S → Type 0) (v : A → B) (h : B → C) where
  seen_by : (s : S) (ys : List B) → AlwaysYields steps v s ys → AlwaysYields steps (λ x. h (v x)) s (map h ys)
  seen_by s [] e = e
  seen_by s (y ∷ ys) e = (e.0, λ x t p. let m = e.1 x t p in (ap h m.0, seen_by t ys m.1))

pub YieldsList-seen_by : {S A B C : Type 0} {steps : S → Option A → S → Type 0} {v : A → B} {s : S} {ys : List B} (h : B → C) → YieldsList steps v s ys → YieldsList steps (λ x. h (v x)) s (map h ys)
YieldsList-seen_by {steps = steps} {v = v} {s = s} {ys = ys} h e = record { runs = seen_by steps v h s ys e.runs }
