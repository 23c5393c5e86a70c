-- The eleven calls, each with all that it was handed and all that it answered.
use Rattle.std.specs.Prelude.{ℕ, Bool, List, Result}
use Rattle.tagged.specs.declared.answers.Answer.{Answer}
use Rattle.tagged.specs.declared.refusals.Refusal.{Refusal}
use Rattle.tagged.specs.declared.words.Word.{Word}

-- a slip is for one of the two steps of a tenure
pub data Stage : Type 0 where
  to_snoop : Stage
  to_settle : Stage

-- the token of a tenure: the board's number, the request's number, and the step that it is for
pub record Slip : Type 0 where
  pub board : ℕ
  pub number : ℕ
  pub stage : Stage

-- what a snoop tells: its kind, a bit for each cache that kept the line, whether the condition is met, and who supplies
-- the line (a core, 8 for memory, 9 for nobody)
pub record SnoopReport : Type 0 where
  pub kind : ℕ
  pub keepers : ℕ
  pub met : Bool
  pub supplier : ℕ

pub record Tally : Type 0 where
  pub accepted : ℕ
  pub done : ℕ
  pub discarded : ℕ
  pub trapped : ℕ
  pub withdrawn : ℕ
  pub waiting : ℕ

abbrev pub OrRefused : Type 0 → Type 0
OrRefused A = Result A Refusal

pub data Call : Type 0 where
  -- core, operation code, word, value
  issue : ℕ → ℕ → ℕ → ℕ → OrRefused Answer → Call
  -- core
  grant : ℕ → OrRefused Slip → Call
  give_back : Slip → OrRefused (Unit {0}) → Call
  snoop : Slip → OrRefused (Slip × SnoopReport) → Call
  settle : Slip → OrRefused Answer → Call
  -- request number
  withdraw : ℕ → OrRefused (Unit {0}) → Call
  -- core, word
  evict : ℕ → ℕ → OrRefused (Unit {0}) → Call
  drain : OrRefused (Unit {0}) → Call
  -- word
  look : ℕ → OrRefused Word → Call
  -- the buffer before and after; the answer is the picture's length
  save : List ℕ → List ℕ → OrRefused ℕ → Call
  tally : Tally → Call
