-- The rule for one word, and what the laws above it speak of.
use Rattle.std.specs.Prelude.{◌≡◌, ℕ, Bool, true, false, cond, Some, None, Option}
use Rattle.tagged.specs.declared.answers.Notice.{Notice}
use Rattle.tagged.specs.declared.answers.Notice.TheVariants.{BusSWr, BusSCl}
use Rattle.tagged.specs.declared.answers.Outcome.{Outcome}
use Rattle.tagged.specs.declared.answers.Outcome.TheVariants.{Done, Discarded, Trap, Waits}
use Rattle.tagged.specs.declared.operations.Class.{Class}
use Rattle.tagged.specs.declared.operations.Class.TheVariants.{Unconditional, Waiting, NonFaulting, Trapping}
use Rattle.tagged.specs.declared.operations.Operation.{Operation}
use Rattle.tagged.specs.declared.operations.Operation.TheVariants.{Read, Write, Clear}
use Rattle.tagged.specs.declared.rule.Served.{Served}
use Rattle.tagged.specs.declared.words.Word.{Word}
use Rattle.tagged.specs.declared.words.WordState.{WordState}
use Rattle.tagged.specs.declared.words.WordState.TheVariants.{Empty, Full}
use Rattle.tagged.specs.Operations.{class_of, condition}

abbrev pub same_state : WordState → WordState → Bool
same_state Empty Empty = true
same_state Empty Full = false
same_state Full Empty = false
same_state Full Full = true

abbrev pub meets : Option WordState → WordState → Bool
meets None s = true
meets (Some needed) s = same_state needed s

-- a word in this state lets the operation be done
abbrev pub met : Operation → WordState → Bool
met o s = meets (condition o) s

-- a done operation: what it answers, given the word's value
abbrev pub answered : Operation → ℕ → ℕ
answered (Read c a) held = held
answered (Write c a) held = 0
answered Clear held = 0

-- the word's value afterwards, given the value that it held and the one that was brought
abbrev pub value_after : Operation → ℕ → ℕ → ℕ
value_after (Read c a) held brought = held
value_after (Write c a) held brought = brought
value_after Clear held brought = held

-- the word's state afterwards
abbrev pub state_after : Operation → WordState → WordState
state_after (Read c a) s = cond a Empty s
state_after (Write c a) s = cond a Full s
state_after Clear s = Empty

-- filling an empty word and emptying a full one are told
abbrev pub notice_of : WordState → WordState → Option Notice
notice_of Empty Empty = None
notice_of Empty Full = Some BusSWr
notice_of Full Empty = Some BusSCl
notice_of Full Full = None

abbrev pub done_by : Operation → Word → ℕ → Served
done_by o w v = record {
  outcome = Done;
  value = answered o w.value;
  found = w.state;
  notice = notice_of w.state (state_after o w.state);
  word = record { value = value_after o w.value v; state = state_after o w.state };
}

-- the outcome by class; class U is never unmet
abbrev pub unmet_outcome : Class → Outcome
unmet_outcome Unconditional = Done
unmet_outcome Waiting = Waits
unmet_outcome NonFaulting = Discarded
unmet_outcome Trapping = Trap

-- what waits has found nothing yet
abbrev pub unmet_found : Class → WordState → WordState
unmet_found Unconditional s = s
unmet_found Waiting s = Empty
unmet_found NonFaulting s = s
unmet_found Trapping s = s

abbrev pub unmet_by : Operation → Word → Served
unmet_by o w = record {
  outcome = unmet_outcome (class_of o);
  value = 0;
  found = unmet_found (class_of o) w.state;
  notice = None;
  word = w;
}

-- the rule for one word
abbrev pub rule : Operation → Word → ℕ → Served
rule o w v = cond (met o w.state) (done_by o w v) (unmet_by o w)

-- a notice says exactly whether the state changed, and which way
pub record TellsTheChange (before after : WordState) (n : Option Notice) : Type 0 where
  pub filled : (n ≡ Some BusSWr → (before ≡ Empty) × (after ≡ Full)) × ((before ≡ Empty) × (after ≡ Full) → n ≡ Some BusSWr)
  pub emptied : (n ≡ Some BusSCl → (before ≡ Full) × (after ≡ Empty)) × ((before ≡ Full) × (after ≡ Empty) → n ≡ Some BusSCl)
  pub unchanged : (n ≡ None → before ≡ after) × (before ≡ after → n ≡ None)

-- the same in all that the requester is told
pub record SameAnswer (s t : Served) : Type 0 where
  pub outcome : s.outcome ≡ t.outcome
  pub value : s.value ≡ t.value
  pub found : s.found ≡ t.found
  pub notice : s.notice ≡ t.notice
