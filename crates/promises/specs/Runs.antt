-- Openings and runs of calls.
use Rattle.std.specs.Prelude.{◌≡◌, ℕ, ◌^◌, ◌<◌, ◌≤◌, List, [], ◌∷◌}
use Rattle.protocol.specs.Rules.{Rules}
use Rattle.tagged.specs.declared.words.Word.{Word}
use Rattle.tagged.specs.declared.words.WordState.TheVariants.{Empty}
use Rattle.promises.specs.Board.{Content, Frame, free, State}
use Rattle.promises.specs.Calls.{Slip, OrRefused, Call, issue, grant, give_back, snoop, settle, withdraw, evict, drain, look, save, tally}
use Rattle.promises.specs.Steps.{Agree, Step}

-- what a board is opened with: an order and a memory
pub record Opening : Type 0 where
  pub cores : ℕ
  pub board : ℕ
  -- the first request number
  pub first : ℕ
  pub lines : ℕ
  pub memory : ℕ → Content
  pub some_cores : 1 ≤ cores
  pub few_cores : cores ≤ 8
  pub first_given : 1 ≤ first
  pub first_fits : first < 2 ^ 32
  pub few_lines : lines ≤ 65536

abbrev pub blank_word : Word
blank_word = record { value = 0; state = Empty }

abbrev pub blank_content : Content
blank_content = record { first = blank_word; second = blank_word; third = blank_word; fourth = blank_word }

-- code 0 is that of a frame that holds nothing
abbrev pub empty_frame : Frame
empty_frame = record { code = 0; line = 0; content = blank_content }

-- an opened board has empty frames, lists and bus
abbrev pub opened : Opening → State
opened o = record {
  setup = record { cores = o.cores; board = o.board; lines = o.lines };
  next = o.first;
  counts = record { accepted = 0; done = 0; discarded = 0; trapped = 0; withdrawn = 0 };
  frame = λ c i. empty_frame;
  waiting = λ c. [];
  bus = free;
  memory = o.memory;
}

-- calls led from the opening to the state; the newest call comes first
pub data Ran (r : Rules) (o : Opening) : List Call → State → Type 0 where
  opens : {s : State} → Agree s (opened o) → Ran r o [] s
  goes_on : {h : List Call} {s t : State} (c : Call) → Ran r o h s → Step r s c t → Ran r o (c ∷ h) t

-- from one state, with the same arguments, two steps give the same answer and the same state, place by place
abbrev pub OneStep : {A : Type 0} → Rules → (A → Call) → Type 0
OneStep {A} r call = (s t u : State) (a b : A) → Step r s (call a) t → Step r s (call b) u → (a ≡ b) × Agree t u

pub record NothingOpen (r : Rules) : Type 0 where
  pub issues : (c k w v : ℕ) → OneStep r (issue c k w v)
  pub grants : (c : ℕ) → OneStep r (grant c)
  pub give_backs : (slip : Slip) → OneStep r (give_back slip)
  pub snoops : (slip : Slip) → OneStep r (snoop slip)
  pub settles : (slip : Slip) → OneStep r (settle slip)
  pub withdrawals : (k : ℕ) → OneStep r (withdraw k)
  pub evictions : (c w : ℕ) → OneStep r (evict c w)
  pub drains : OneStep r drain
  pub looks : (w : ℕ) → OneStep r (look w)
  pub saves : (before : List ℕ) → OneStep r (λ (x : List ℕ × OrRefused ℕ). save before x.0 x.1)
  pub tallies : OneStep r tally

abbrev pub StepsLeaveNothingOpen : Type 0
StepsLeaveNothingOpen = (r : Rules) → NothingOpen r
