-- A run written out: two cores, MESI over 64 blank lines.
use Rattle.std.specs.Prelude.{ℕ, true, false, List, [], ◌∷◌, Some, None, Ok, Option}
use Rattle.std.proofs.Common.{lit<, lit≤}
use Rattle.protocol.specs.Rules.{Rules}
use Rattle.protocol.specs.Standards.{standard_rules}
use Rattle.protocol.specs.declared.standards.Standard.TheVariants.{Mesi}
use Rattle.tagged.specs.declared.answers.Answer.{Answer}
use Rattle.tagged.specs.declared.answers.Notice.{Notice}
use Rattle.tagged.specs.declared.answers.Notice.TheVariants.{BusSWr, BusSCl}
use Rattle.tagged.specs.declared.answers.Outcome.{Outcome}
use Rattle.tagged.specs.declared.answers.Outcome.TheVariants.{Done, Waits}
use Rattle.tagged.specs.declared.words.WordState.{WordState}
use Rattle.tagged.specs.declared.words.WordState.TheVariants.{Empty, Full}
use Rattle.promises.specs.Board.{State}
use Rattle.promises.specs.Calls.{Stage, to_snoop, to_settle, Slip, Call, issue, grant, snoop, settle, look, tally}
use Rattle.promises.specs.Runs.{Opening, Ran, blank_content}

abbrev pub example_rules : Rules
example_rules = standard_rules Mesi

abbrev pub example_opening : Opening
example_opening = record {
  cores = 2;
  board = 0;
  first = 1;
  lines = 64;
  memory = λ n. blank_content;
  some_cores = lit≤ tt;
  few_cores = lit≤ tt;
  first_given = lit≤ tt;
  first_fits = lit< tt;
  few_lines = lit≤ tt;
}

abbrev answer : ℕ → Outcome → ℕ → WordState → Option Notice → ℕ → Answer
answer k o v found n woken = record { number = k; outcome = o; value = v; found = found; notice = n; woken = woken }

abbrev slip : ℕ → Stage → Slip
slip k stage = record { board = 0; number = k; stage = stage }

-- newest first; WARd has code 6 and UAWr code 3
abbrev pub example_history : List Call
example_history =
    -- every request is done
    tally (record { accepted = 2; done = 2; discarded = 0; trapped = 0; withdrawn = 0; waiting = 0 }) ∷
    look 5 (Ok (record { value = 77; state = Empty })) ∷
    -- core 0 has the bus again and takes 77
    settle (slip 1 to_settle) (Ok (answer 1 Done 77 Full (Some BusSCl) 0)) ∷
    snoop (slip 1 to_snoop) (Ok (slip 1 to_settle, record { kind = 2; keepers = 2; met = true; supplier = 1 })) ∷
    grant 0 (Ok (slip 1 to_snoop)) ∷
    -- core 1 fills the word, and one sleeper wakes
    settle (slip 2 to_settle) (Ok (answer 2 Done 0 Empty (Some BusSWr) 1)) ∷
    snoop (slip 2 to_snoop) (Ok (slip 2 to_settle, record { kind = 2; keepers = 0; met = true; supplier = 8 })) ∷
    grant 1 (Ok (slip 2 to_snoop)) ∷
    issue 1 3 5 77 (Ok (answer 2 Waits 0 Empty None 0)) ∷
    -- core 0 has the bus for its take of an empty word, and falls asleep
    settle (slip 1 to_settle) (Ok (answer 1 Waits 0 Empty None 0)) ∷
    snoop (slip 1 to_snoop) (Ok (slip 1 to_settle, record { kind = 3; keepers = 0; met = false; supplier = 9 })) ∷
    grant 0 (Ok (slip 1 to_snoop)) ∷
    issue 0 6 5 0 (Ok (answer 1 Waits 0 Empty None 0)) ∷
    []

abbrev pub ExampleIsARun : Type 0
ExampleIsARun = (t : State) × Ran example_rules example_opening example_history t
