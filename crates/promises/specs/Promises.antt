-- What is promised after every run.
use Rattle.std.specs.Prelude.{◌≡◌, ℕ, ◌+◌, ◌<◌, ◌≤◌, min, Bool, true, false, cond, List, [], ◌∷◌, ◌++◌, map, length, drop, is_some, Some, None, Ok, Err, count_by, Option, nat_eq}
use Rattle.memory.specs.Pictures.{picture_length}
use Rattle.protocol.specs.Rules.{Rules, Lawful}
use Rattle.tagged.specs.Rule.{met}
use Rattle.tagged.specs.declared.answers.Answer.{Answer}
use Rattle.tagged.specs.declared.answers.Outcome.{Outcome}
use Rattle.tagged.specs.declared.answers.Outcome.TheVariants.{Done, Discarded, Trap, Waits}
use Rattle.tagged.specs.declared.rule.Served.{Served}
use Rattle.promises.specs.Board.{Entry, State}
use Rattle.promises.specs.Calls.{Call, issue, grant, give_back, snoop, settle, withdraw, evict, drain, look, save, tally, Tally}
use Rattle.promises.specs.Copies.{copy, keeps, owns}
use Rattle.promises.specs.Steps.{Step, picture_of}
use Rattle.promises.specs.Runs.{Opening, Ran}
use Rattle.promises.specs.OneMemory.{Note, TaggedMemory, one_memory, is_answer, line_by_words}

-- COHERENCE

-- a copy that may be written is the only kept copy of its line
abbrev pub WritersAreAlone : Rules → State → Type 0
WritersAreAlone r s = (c d n : ℕ) → owns r s c n ≡ true → keeps r s d n ≡ true → d ≡ c

-- any two kept copies of a line hold the same four words and states
abbrev pub CopiesAreEqual : Rules → State → Type 0
CopiesAreEqual r s = (c d n : ℕ) → keeps r s c n ≡ true → keeps r s d n ≡ true → (copy s c n).content ≡ (copy s d n).content

pub record Coherent (r : Rules) (s : State) : Type 0 where
  pub writers_are_alone : WritersAreAlone r s
  pub copies_are_equal : CopiesAreEqual r s

-- ONE TAGGED MEMORY

-- an answer holds exactly what the memory gave that request
pub record AsGiven (m : TaggedMemory) (a : Answer) : Type 0 where
  pub given : Served
  pub is : m.gave a.number ≡ Some given
  pub outcome : a.outcome ≡ given.outcome
  pub value : a.value ≡ given.value
  pub found : a.found ≡ given.found
  pub notice : a.notice ≡ given.notice

-- what waits has no answer yet
abbrev pub AnswerIsGiven : TaggedMemory → Answer → Type 0
AnswerIsGiven m a = cond {A = Type 0} (is_answer a.outcome) (AsGiven m a) (Unit {0})

-- the newest call speaks for the memory as it is after that call
abbrev pub SpeaksTrue : Opening → TaggedMemory → Call → Type 0
SpeaksTrue o m (issue c k w v (Ok a)) = AnswerIsGiven m a
SpeaksTrue o m (issue c k w v (Err e)) = Unit {0}
SpeaksTrue o m (grant c a) = Unit {0}
SpeaksTrue o m (give_back slip a) = Unit {0}
SpeaksTrue o m (snoop slip a) = Unit {0}
SpeaksTrue o m (settle slip (Ok a)) = AnswerIsGiven m a
SpeaksTrue o m (settle slip (Err e)) = Unit {0}
SpeaksTrue o m (withdraw k a) = Unit {0}
SpeaksTrue o m (evict c w a) = Unit {0}
SpeaksTrue o m (drain a) = Unit {0}
-- look shows the memory's word
SpeaksTrue o m (look w (Ok x)) = x ≡ m.word w
SpeaksTrue o m (look w (Err e)) = Unit {0}
-- save writes the picture of all its served words, and leaves the bytes after it
SpeaksTrue o m (save before after (Ok n)) = (n ≡ picture_length (min 2048 o.lines)) × (after ≡ picture_of (min 2048 o.lines) (line_by_words m.word) ++ drop n before)
SpeaksTrue o m (save before after (Err e)) = after ≡ before
SpeaksTrue o m (tally a) = Unit {0}

-- every call of the history does
abbrev pub AllSpeakTrue : Opening → List Call → Type 0
AllSpeakTrue o [] = Unit {0}
AllSpeakTrue o (c ∷ h) = SpeaksTrue o (one_memory o.memory (c ∷ h)) c × AllSpeakTrue o h

-- how often a number stands in a list
abbrev pub times : ℕ → List ℕ → ℕ
times k ks = count_by (nat_eq k) ks

-- no request is decided twice
abbrev pub IsDecidedOnce : TaggedMemory → Type 0
IsDecidedOnce m = (k : ℕ) → times k m.decided ≤ 1

-- what is decided was issued before: the memory had its note, and gave it something
abbrev pub DecidedAfterIssue : TaggedMemory → Type 0
DecidedAfterIssue m = (k : ℕ) → 1 ≤ times k m.decided → is_some (m.gave k) ≡ true

-- j and k are requests of one core on one word
abbrev pub SamePlace : Option Note → Option Note → Type 0
SamePlace None y = ⊥
SamePlace (Some x) None = ⊥
SamePlace (Some x) (Some y) = (x.core ≡ y.core) × (x.word ≡ y.word)

-- what is decided later, of one core on one word, was issued later
abbrev pub InIssueOrder : TaggedMemory → List ℕ → Type 0
InIssueOrder m [] = Unit {0}
InIssueOrder m (k ∷ ks) = ((j : ℕ) → 1 ≤ times j ks → SamePlace (m.noted j) (m.noted k) → j < k) × InIssueOrder m ks

-- ACCOUNTS

abbrev pub number_if : Bool → ℕ → List ℕ
number_if true k = k ∷ []
number_if false k = []

-- the numbers of the accepted requests, of the answered ones and of the withdrawn ones, the newest first
abbrev pub accepted_by : Call → List ℕ
accepted_by (issue c k w v (Ok a)) = a.number ∷ []
accepted_by (issue c k w v (Err e)) = []
accepted_by (grant c a) = []
accepted_by (give_back slip a) = []
accepted_by (snoop slip a) = []
accepted_by (settle slip a) = []
accepted_by (withdraw k a) = []
accepted_by (evict c w a) = []
accepted_by (drain a) = []
accepted_by (look w a) = []
accepted_by (save before after a) = []
accepted_by (tally a) = []

abbrev pub answered_by : (Outcome → Bool) → Call → List ℕ
answered_by p (issue c k w v (Ok a)) = number_if (p a.outcome) a.number
answered_by p (issue c k w v (Err e)) = []
answered_by p (grant c a) = []
answered_by p (give_back slip a) = []
answered_by p (snoop slip a) = []
answered_by p (settle slip (Ok a)) = number_if (p a.outcome) a.number
answered_by p (settle slip (Err e)) = []
answered_by p (withdraw k a) = []
answered_by p (evict c w a) = []
answered_by p (drain a) = []
answered_by p (look w a) = []
answered_by p (save before after a) = []
answered_by p (tally a) = []

abbrev pub withdrawn_by : Call → List ℕ
withdrawn_by (issue c k w v a) = []
withdrawn_by (grant c a) = []
withdrawn_by (give_back slip a) = []
withdrawn_by (snoop slip a) = []
withdrawn_by (settle slip a) = []
withdrawn_by (withdraw k (Ok u)) = k ∷ []
withdrawn_by (withdraw k (Err e)) = []
withdrawn_by (evict c w a) = []
withdrawn_by (drain a) = []
withdrawn_by (look w a) = []
withdrawn_by (save before after a) = []
withdrawn_by (tally a) = []

abbrev pub over_calls : (Call → List ℕ) → List Call → List ℕ
over_calls f [] = []
over_calls f (c ∷ h) = f c ++ over_calls f h

-- the numbers that wait in the lists of cores 0 to 7
abbrev pub list_numbers : State → ℕ → List ℕ
list_numbers s c = map (λ (e : Entry). e.number) (s.waiting c)

abbrev pub waiting_numbers : State → List ℕ
waiting_numbers s = list_numbers s 0 ++ (list_numbers s 1 ++ (list_numbers s 2 ++ (list_numbers s 3 ++ (list_numbers s 4 ++ (list_numbers s 5 ++ (list_numbers s 6 ++ list_numbers s 7))))))

-- each accepted request was answered once, was withdrawn, or waits: exactly one of these; and no other number was or does
abbrev pub RequestsAreAccounted : List Call → State → Type 0
RequestsAreAccounted h s = (k : ℕ) → times k (over_calls accepted_by h) ≡ times k (over_calls (answered_by is_answer) h) + times k (over_calls withdrawn_by h) + times k (waiting_numbers s)

abbrev pub NumbersAreGivenOnce : List Call → Type 0
NumbersAreGivenOnce h = (k : ℕ) → times k (over_calls accepted_by h) ≤ 1

abbrev pub had_outcome : Outcome → Outcome → Bool
had_outcome Done Done = true
had_outcome Done Discarded = false
had_outcome Done Trap = false
had_outcome Done Waits = false
had_outcome Discarded Done = false
had_outcome Discarded Discarded = true
had_outcome Discarded Trap = false
had_outcome Discarded Waits = false
had_outcome Trap Done = false
had_outcome Trap Discarded = false
had_outcome Trap Trap = true
had_outcome Trap Waits = false
had_outcome Waits x = false

-- the figures of a tally are counts over the calls before it, and the first is the sum of the others
pub record TallyCounts (h : List Call) (x : Tally) : Type 0 where
  pub accepted : x.accepted ≡ length (over_calls accepted_by h)
  pub done : x.done ≡ length (over_calls (answered_by (had_outcome Done)) h)
  pub discarded : x.discarded ≡ length (over_calls (answered_by (had_outcome Discarded)) h)
  pub trapped : x.trapped ≡ length (over_calls (answered_by (had_outcome Trap)) h)
  pub withdrawn : x.withdrawn ≡ length (over_calls withdrawn_by h)
  pub sum : x.accepted ≡ x.done + x.discarded + x.trapped + x.withdrawn + x.waiting

abbrev pub TallyIsTrue : List Call → Call → Type 0
TallyIsTrue h (issue c k w v a) = Unit {0}
TallyIsTrue h (grant c a) = Unit {0}
TallyIsTrue h (give_back slip a) = Unit {0}
TallyIsTrue h (snoop slip a) = Unit {0}
TallyIsTrue h (settle slip a) = Unit {0}
TallyIsTrue h (withdraw k a) = Unit {0}
TallyIsTrue h (evict c w a) = Unit {0}
TallyIsTrue h (drain a) = Unit {0}
TallyIsTrue h (look w a) = Unit {0}
TallyIsTrue h (save before after a) = Unit {0}
TallyIsTrue h (tally x) = TallyCounts h x

abbrev pub TalliesAreTrue : List Call → Type 0
TalliesAreTrue [] = Unit {0}
TalliesAreTrue (c ∷ h) = TallyIsTrue h c × TalliesAreTrue h

abbrev pub EveryEntry : (Entry → Type 0) → List Entry → Type 0
EveryEntry P [] = Unit {0}
EveryEntry P (e ∷ es) = P e × EveryEntry P es

-- no request sleeps while its word has the state that it waits for
abbrev pub NobodySleepsThrough : TaggedMemory → State → Type 0
NobodySleepsThrough m s = (c : ℕ) → EveryEntry (λ e. e.asleep ≡ true → met e.operation (m.word e.word).state ≡ false) (s.waiting c)

pub record Accounted (o : Opening) (h : List Call) (s : State) : Type 0 where
  pub requests_are_accounted : RequestsAreAccounted h s
  pub numbers_are_given_once : NumbersAreGivenOnce h
  pub tallies_are_true : TalliesAreTrue h
  pub nobody_sleeps_through : NobodySleepsThrough (one_memory o.memory h) s

-- THE PROMISES

pub record Promises (r : Rules) (o : Opening) (h : List Call) (s : State) : Type 0 where
  pub writers_are_alone : WritersAreAlone r s
  pub copies_are_equal : CopiesAreEqual r s
  pub all_speak_true : AllSpeakTrue o h
  pub decided_once : IsDecidedOnce (one_memory o.memory h)
  pub decided_after_issue : DecidedAfterIssue (one_memory o.memory h)
  pub decided_in_issue_order : InIssueOrder (one_memory o.memory h) (one_memory o.memory h).decided
  pub requests_are_accounted : RequestsAreAccounted h s
  pub numbers_are_given_once : NumbersAreGivenOnce h
  pub tallies_are_true : TalliesAreTrue h
  pub nobody_sleeps_through : NobodySleepsThrough (one_memory o.memory h) s

-- whatever calls led from an opening to a state, every promise holds
abbrev pub EveryRunKeepsItsPromises : Type 0
EveryRunKeepsItsPromises = (r : Rules) → Lawful r → (o : Opening) (h : List Call) (s : State) → Ran r o h s → Promises r o h s

-- and so it does with one more step
abbrev pub OneMoreStepKeepsThePromises : Type 0
OneMoreStepKeepsThePromises = (r : Rules) → Lawful r → (o : Opening) (h : List Call) (s : State) → Ran r o h s → (c : Call) (t : State) → Step r s c t → Promises r o (c ∷ h) t

-- the parts, by themselves
abbrev pub EveryRunIsCoherent : Type 0
EveryRunIsCoherent = (r : Rules) → Lawful r → (o : Opening) (h : List Call) (s : State) → Ran r o h s → Coherent r s

abbrev pub EveryRunIsAccounted : Type 0
EveryRunIsAccounted = (r : Rules) → Lawful r → (o : Opening) (h : List Call) (s : State) → Ran r o h s → Accounted o h s

abbrev pub EveryRunSpeaksTrue : Type 0
EveryRunSpeaksTrue = (r : Rules) → Lawful r → (o : Opening) (h : List Call) (s : State) → Ran r o h s → AllSpeakTrue o h

abbrev pub EveryRunDecidesAfterIssue : Type 0
EveryRunDecidesAfterIssue = (r : Rules) → Lawful r → (o : Opening) (h : List Call) (s : State) → Ran r o h s → DecidedAfterIssue (one_memory o.memory h)

abbrev pub EveryRunDecidesOnce : Type 0
EveryRunDecidesOnce = (r : Rules) → Lawful r → (o : Opening) (h : List Call) (s : State) → Ran r o h s → IsDecidedOnce (one_memory o.memory h)

abbrev pub EveryRunDecidesInIssueOrder : Type 0
EveryRunDecidesInIssueOrder = (r : Rules) → Lawful r → (o : Opening) (h : List Call) (s : State) → Ran r o h s → InIssueOrder (one_memory o.memory h) (one_memory o.memory h).decided
