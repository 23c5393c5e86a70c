-- Which copies a change of frames leaves as they were.
use Rattle.std.proofs.Common.{◌≡◌, ℕ, ◌<◌, Bool, true, false, ◌⊎◌, arith}
use Rattle.std.proofs.lemmas.Bool.Decides.{nat_tests}
use Rattle.protocol.specs.Rules.{Rules}
use Rattle.promises.specs.Board.{Frame, State}
use Rattle.promises.specs.Copies.{copy, keeps, lowest, any_core}
use Rattle.promises.specs.Steps.{Agree, updated_frame}

-- states that agree place by place are equal
pub same_state_as : {s t : State} → Agree s t → s ≡ t
same_state_as p = grind (arith, nat_tests)

-- cache c keeps line n
pub record Kept (r : Rules) (s : State) (c n : ℕ) : Type 0 where
  pub core : c < 8
  pub line : (copy s c n).line ≡ n
  pub code : r.kept (copy s c n).code ≡ true

module _ (r : Rules) (s : State) where
  pub kept_of : (c n : ℕ) → keeps r s c n ≡ true → Kept r s c n
  unfolding keeps
  kept_of c n e = grind (arith, nat_tests)

  pub keeps_by : (c n : ℕ) → Kept r s c n → keeps r s c n ≡ true
  unfolding keeps
  keeps_by c n k = grind (arith, nat_tests)

-- the same frame is kept in one state as in the other
pub keeps_same : (r : Rules) (s t : State) (c n : ℕ) → copy s c n ≡ copy t c n → keeps r s c n ≡ keeps r t c n
unfolding keeps
keeps_same r s t c n e = grind (arith, nat_tests)

pub frame_cases : (f : ℕ → ℕ → Frame) (c i : ℕ) (x : Frame) (d j : ℕ) → ((d ≡ c) × (j ≡ i) × (updated_frame f c i x d j ≡ x)) ⊎ (((d ≡ c) × (j ≡ i) → ⊥) × (updated_frame f c i x d j ≡ f d j))
frame_cases f c i x d j = grind (arith, nat_tests)

-- the lowest core that passes a test passes it
module _ (p : ℕ → Bool) where
  pub lowest_passes : any_core p ≡ true → (p (lowest p) ≡ true) × (lowest p < 8)
  lowest_passes e = grind arith

  pub any_from : (c : ℕ) → c < 8 → p c ≡ true → any_core p ≡ true
  any_from c h e = grind arith

  -- where no core passes, each fails
  pub none_passes : any_core p ≡ false → (c : ℕ) → c < 8 → p c ≡ false
  none_passes none c h = grind (arith, any_from c h)

  -- and none passes that has to be a core to pass
  pub no_core_passes : any_core p ≡ false → ((c : ℕ) → p c ≡ true → c < 8) → (c : ℕ) → p c ≡ false
  no_core_passes none core c = grind (arith, any_from c, core c)

  -- and the lowest core is 8
  pub lowest_none : any_core p ≡ false → lowest p ≡ 8
  lowest_none none = grind arith
