-- A board as plain mathematics: cores with their caches and lists, the bus and the memory.
use Rattle.std.specs.Prelude.{ℕ, zero, suc, ◌/◌, ◌%◌, min, Bool, List}
use Rattle.tagged.specs.declared.answers.Outcome.{Outcome}
use Rattle.tagged.specs.declared.operations.Operation.{Operation}
use Rattle.tagged.specs.declared.words.Word.{Word}
use Rattle.tagged.specs.declared.words.WordState.{WordState}

-- the four words of a line
pub record Content : Type 0 where
  pub first : Word
  pub second : Word
  pub third : Word
  pub fourth : Word

abbrev pub at_place : ℕ → Content → Word
at_place zero f = f.first
at_place (suc zero) f = f.second
at_place (suc (suc zero)) f = f.third
at_place (suc (suc (suc k))) f = f.fourth

abbrev pub put_place : ℕ → Word → Content → Content
put_place zero x f = record { first = x; second = f.second; third = f.third; fourth = f.fourth }
put_place (suc zero) x f = record { first = f.first; second = x; third = f.third; fourth = f.fourth }
put_place (suc (suc zero)) x f = record { first = f.first; second = f.second; third = x; fourth = f.fourth }
put_place (suc (suc (suc k))) x f = record { first = f.first; second = f.second; third = f.third; fourth = x }

-- word w stands in line w div 4, at place w mod 4
abbrev pub line_of : ℕ → ℕ
line_of w = w / 4

unfoldable pub word_in : Content → ℕ → Word
word_in f w = at_place (w % 4) f

-- the line with another word at the place of word w
unfoldable pub with_word_in : Content → ℕ → Word → Content
with_word_in f w x = put_place (w % 4) x f

-- a request that waits: its number, what it asks, and whether it sleeps until a notice wakes it
pub record Entry : Type 0 where
  pub number : ℕ
  pub operation : Operation
  pub word : ℕ
  pub value : ℕ
  pub asleep : Bool

-- a frame of a cache: the state code of the copy, the number of its line, and the line
pub record Frame : Type 0 where
  pub code : ℕ
  pub line : ℕ
  pub content : Content

-- line n may stand only in frame n mod 16
abbrev pub frame_of : ℕ → ℕ
frame_of n = n % 16

-- a core has the bus for one of its requests
pub record Tenure : Type 0 where
  pub core : ℕ
  pub entry : Entry

-- what the snoop found, by its kinds 0 to 3
pub data Found : Type 0 where
  -- the own copy suffices
  own_copy : Found
  -- the line is on its way to be read; true if another cache kept it as the snoop began
  read_in : Bool → Content → Found
  -- the line is on its way to be claimed
  claimed : Content → Found
  -- the condition is unmet: the outcome and the state found that are owed
  unmet : Outcome → WordState → Found

pub data Bus : Type 0 where
  free : Bus
  granted : Tenure → Bus
  snooped : Tenure → Found → Bus

-- what is fixed as a board is opened: its cores, its number, and the lines of its memory
pub record Setup : Type 0 where
  pub cores : ℕ
  pub board : ℕ
  pub lines : ℕ

pub record Counts : Type 0 where
  pub accepted : ℕ
  pub done : ℕ
  pub discarded : ℕ
  pub trapped : ℕ
  pub withdrawn : ℕ

pub record State : Type 0 where
  pub setup : Setup
  -- the next request number; 2 ^ 32 when they are used up
  pub next : ℕ
  pub counts : Counts
  -- by core and frame
  pub frame : ℕ → ℕ → Frame
  -- by core, the oldest first
  pub waiting : ℕ → List Entry
  pub bus : Bus
  -- by line number
  pub memory : ℕ → Content

-- the board serves the first 2,048 lines of its memory, or all if there are fewer
abbrev pub served_lines : State → ℕ
served_lines s = min 2048 s.setup.lines
