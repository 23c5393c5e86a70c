-- Histories and states that are false, and that the promises refuse.
use Rattle.std.specs.Prelude.{◌≡◌, ℕ, ◌+◌, ◌<◌, ◌≤◌, true, List, ◌∷◌, ◌++◌, length, Ok, ◌≢◌}
use Rattle.protocol.specs.Rules.{Rules}
use Rattle.tagged.specs.Rule.{met}
use Rattle.tagged.specs.declared.answers.Answer.{Answer}
use Rattle.tagged.specs.declared.answers.Outcome.TheVariants.{Done, Discarded, Trap}
use Rattle.tagged.specs.declared.words.Word.{Word}
use Rattle.promises.specs.Board.{Entry, State}
use Rattle.promises.specs.Calls.{Slip, Call, settle, look, tally, Tally}
use Rattle.promises.specs.Copies.{copy, keeps, owns}
use Rattle.promises.specs.Example.{ExampleIsARun}
use Rattle.promises.specs.OneMemory.{one_memory, is_answer}
use Rattle.promises.specs.Promises.{Promises, times, over_calls, accepted_by, answered_by, withdrawn_by, had_outcome, SamePlace}
use Rattle.promises.specs.Runs.{Opening}

module _ (r : Rules) (o : Opening) where
  -- no state has promises kept after this history
  abbrev Refused : List Call → Type 0
  Refused h = (s : State) → Promises r o h s → ⊥

  -- after two histories that differ in the newest answer, promises are kept after one of them at most
  abbrev AlteredAnswer : Type 0
  AlteredAnswer = (slip : Slip) (a b : Answer) (h : List Call) (s : State) → is_answer a.outcome ≡ true → b.number ≡ a.number → b.outcome ≡ a.outcome → (b.value ≢ a.value) → Promises r o (settle slip (Ok a) ∷ h) s → Refused (settle slip (Ok b) ∷ h)

  abbrev AnsweredTwice : Type 0
  AnsweredTwice = (k : ℕ) (h : List Call) → 2 ≤ times k (over_calls (answered_by is_answer) h) → Refused h

  abbrev NumberGivenTwice : Type 0
  NumberGivenTwice = (k : ℕ) (h : List Call) → 2 ≤ times k (over_calls accepted_by h) → Refused h

  abbrev WithdrawnAndAnswered : Type 0
  WithdrawnAndAnswered = (k : ℕ) (h : List Call) → 1 ≤ times k (over_calls withdrawn_by h) → 1 ≤ times k (over_calls (answered_by is_answer) h) → Refused h

  -- one word, looked at twice
  abbrev LookShowsAnother : Type 0
  LookShowsAnother = (w : ℕ) (x y : Word) (h : List Call) → (x ≢ y) → Refused (look w (Ok x) ∷ look w (Ok y) ∷ h)

  -- one figure is no count, or the first is not the sum of the others
  abbrev TallyOff : Type 0
  TallyOff = (x : Tally) (h : List Call) →
      ((x.accepted ≢ length (over_calls accepted_by h)) → Refused (tally x ∷ h))
      × ((x.done ≢ length (over_calls (answered_by (had_outcome Done)) h)) → Refused (tally x ∷ h))
      × ((x.discarded ≢ length (over_calls (answered_by (had_outcome Discarded)) h)) → Refused (tally x ∷ h))
      × ((x.trapped ≢ length (over_calls (answered_by (had_outcome Trap)) h)) → Refused (tally x ∷ h))
      × ((x.withdrawn ≢ length (over_calls withdrawn_by h)) → Refused (tally x ∷ h))
      × ((x.accepted ≢ x.done + x.discarded + x.trapped + x.withdrawn + x.waiting) → Refused (tally x ∷ h))

  -- of one core on one word, the later issued was decided first
  abbrev DecisionsSwapped : Type 0
  DecisionsSwapped = (j k : ℕ) (ks : List ℕ) (h : List Call) → (one_memory o.memory h).decided ≡ j ∷ k ∷ ks → SamePlace ((one_memory o.memory h).noted k) ((one_memory o.memory h).noted j) → j < k → Refused h

  abbrev TwoWriters : Type 0
  TwoWriters = (c d n : ℕ) (h : List Call) (s : State) → (c ≢ d) → owns r s c n ≡ true → owns r s d n ≡ true → Promises r o h s → ⊥

  abbrev UnequalCopies : Type 0
  UnequalCopies = (c d n : ℕ) (h : List Call) (s : State) → keeps r s c n ≡ true → keeps r s d n ≡ true → ((copy s c n).content ≢ (copy s d n).content) → Promises r o h s → ⊥

  abbrev ReadySleeper : Type 0
  ReadySleeper = (c : ℕ) (e : Entry) (older younger : List Entry) (h : List Call) (s : State) → s.waiting c ≡ older ++ e ∷ younger → e.asleep ≡ true → met e.operation ((one_memory o.memory h).word e.word).state ≡ true → Promises r o h s → ⊥

  pub record FalseIsRefused : Type 0 where
    pub altered_answer : AlteredAnswer
    pub answered_twice : AnsweredTwice
    pub number_given_twice : NumberGivenTwice
    pub withdrawn_and_answered : WithdrawnAndAnswered
    pub look_shows_another : LookShowsAnother
    pub tally_off : TallyOff
    pub decisions_swapped : DecisionsSwapped
    pub two_writers : TwoWriters
    pub unequal_copies : UnequalCopies
    pub ready_sleeper : ReadySleeper

-- there are runs, and what is false keeps no promises
abbrev pub PromisesTellTrueFromFalse : Type 0
PromisesTellTrueFromFalse = ExampleIsARun × ((r : Rules) (o : Opening) → FalseIsRefused r o)
