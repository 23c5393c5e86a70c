-- Which caches keep a line, and the line as it stands.
use Rattle.std.specs.Prelude.{ℕ, ◌+◌, Bool, cond, not, ◌&&◌, ◌||◌, ◌==◌, nat_lt}
use Rattle.protocol.specs.Rules.{Rules}
use Rattle.promises.specs.Board.{Content, Frame, own_copy, read_in, claimed, unmet, Bus, free, granted, snooped, State, line_of, frame_of}

-- the frame in which core c would have line n
abbrev pub copy : State → ℕ → ℕ → Frame
copy s c n = s.frame c (frame_of n)

module _ (r : Rules) (s : State) where
  -- cache c keeps line n
  unfoldable pub keeps : ℕ → ℕ → Bool
  keeps c n = nat_lt c 8 && ((copy s c n).line == n && r.kept (copy s c n).code)

  -- and may write it
  abbrev pub owns : ℕ → ℕ → Bool
  owns c n = keeps c n && r.sole (copy s c n).code

  -- and memory need not have it yet
  abbrev pub owes : ℕ → ℕ → Bool
  owes c n = keeps c n && r.owing (copy s c n).code

  -- a cache other than c keeps line n
  abbrev pub others_keep : ℕ → ℕ → ℕ → Bool
  others_keep c n d = not (d == c) && keeps d n

-- the lowest core that passes a test, or 8
abbrev pub lowest : (ℕ → Bool) → ℕ
lowest p = cond (p 0) 0 (cond (p 1) 1 (cond (p 2) 2 (cond (p 3) 3 (cond (p 4) 4 (cond (p 5) 5 (cond (p 6) 6 (cond (p 7) 7 8)))))))

-- a byte with a bit for each core that passes a test
abbrev pub core_bits : (ℕ → Bool) → ℕ
core_bits p = cond (p 0) 1 0 + cond (p 1) 2 0 + cond (p 2) 4 0 + cond (p 3) 8 0 + cond (p 4) 16 0 + cond (p 5) 32 0 + cond (p 6) 64 0 + cond (p 7) 128 0

abbrev pub any_core : (ℕ → Bool) → Bool
any_core p = p 0 || (p 1 || (p 2 || (p 3 || (p 4 || (p 5 || (p 6 || p 7))))))

abbrev pub over_cores : (ℕ → ℕ) → ℕ
over_cores f = f 0 + f 1 + f 2 + f 3 + f 4 + f 5 + f 6 + f 7

module _ (r : Rules) (s : State) where
  -- who has the line: an owing cache, else the lowest keeper, else 8 for memory
  abbrev pub supplier : ℕ → ℕ
  supplier n = cond (any_core (λ c. owes r s c n)) (lowest (λ c. owes r s c n)) (lowest (λ c. keeps r s c n))

  abbrev pub supplied : ℕ → Content → Content
  supplied n otherwise = cond (nat_lt (supplier n) 8) (copy s (supplier n) n).content otherwise

-- the line that travels on the bus, if it is line n
abbrev pub travelling : Bus → ℕ → Content → Content
travelling free n otherwise = otherwise
travelling (granted t) n otherwise = otherwise
travelling (snooped t own_copy) n otherwise = otherwise
travelling (snooped t (read_in shared f)) n otherwise = cond (line_of t.entry.word == n) f otherwise
travelling (snooped t (claimed f)) n otherwise = cond (line_of t.entry.word == n) f otherwise
travelling (snooped t (unmet o found)) n otherwise = otherwise

-- line n as it stands: the owing copy, else the lowest keeper's, else the line on the bus, else memory's
unfoldable pub stands : Rules → State → ℕ → Content
stands r s n = supplied r s n (travelling s.bus n (s.memory n))
