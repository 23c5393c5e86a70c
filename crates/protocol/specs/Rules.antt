-- What a protocol means, and when it is lawful.
use Rattle.std.specs.Prelude.{◌≡◌, Bool, true, false, ℕ, ◌<◌}

-- by the state code of a copy, a number below 256
pub record Rules : Type 0 where
  -- the copy may be read
  pub kept : ℕ → Bool
  -- it may be written
  pub sole : ℕ → Bool
  -- memory need not have it yet
  pub owing : ℕ → Bool
  -- the next code after another cache's read, and after another's claim
  pub after_read : ℕ → ℕ
  pub after_claim : ℕ → ℕ
  -- the code of a line that is read in: true if another cache kept it
  pub read_fill : Bool → ℕ
  -- the code after the own core's claim
  pub own_claim : ℕ

pub record Lawful (r : Rules) : Type 0 where
  pub zero_not_kept : r.kept 0 ≡ false
  pub sole_kept : (c : ℕ) → c < 256 → r.sole c ≡ true → r.kept c ≡ true
  pub owing_kept : (c : ℕ) → c < 256 → r.owing c ≡ true → r.kept c ≡ true
  -- after another's read a copy is not sole, is kept only if it was, and owing only if it was
  pub read_not_sole : (c : ℕ) → c < 256 → r.sole (r.after_read c) ≡ false
  pub read_kept : (c : ℕ) → c < 256 → r.kept (r.after_read c) ≡ true → r.kept c ≡ true
  pub read_owing : (c : ℕ) → c < 256 → r.owing (r.after_read c) ≡ true → r.owing c ≡ true
  -- after another's claim it is not kept
  pub claim_not_kept : (c : ℕ) → c < 256 → r.kept (r.after_claim c) ≡ false
  -- a read fill is kept and not owing, and not sole where another cache kept the line
  pub fill_kept : (shared : Bool) → r.kept (r.read_fill shared) ≡ true
  pub fill_not_owing : (shared : Bool) → r.owing (r.read_fill shared) ≡ false
  pub fill_not_sole : r.sole (r.read_fill true) ≡ false
  -- the own claim's code is kept, sole and owing
  pub own_kept : r.kept r.own_claim ≡ true
  pub own_sole : r.sole r.own_claim ≡ true
  pub own_owing : r.owing r.own_claim ≡ true
  -- every code fits a byte
  pub read_fits : (c : ℕ) → c < 256 → r.after_read c < 256
  pub claim_fits : (c : ℕ) → c < 256 → r.after_claim c < 256
  pub fill_fits : (shared : Bool) → r.read_fill shared < 256
  pub own_fits : r.own_claim < 256
