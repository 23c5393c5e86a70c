-- One tagged memory that serves the decided requests one by one: a function of the opening memory and the calls alone.
use Rattle.std.specs.Prelude.{ℕ, ◌+◌, ◌*◌, Bool, true, false, cond, ◌&&◌, List, [], ◌∷◌, Some, None, Ok, Err, Option, ◌==◌}
use Rattle.tagged.specs.Operations.{class_of, operation_coded}
use Rattle.tagged.specs.Rule.{rule}
use Rattle.tagged.specs.declared.answers.Outcome.{Outcome}
use Rattle.tagged.specs.declared.answers.Outcome.TheVariants.{Done, Discarded, Trap, Waits}
use Rattle.tagged.specs.declared.operations.Operation.{Operation}
use Rattle.tagged.specs.declared.rule.Served.{Served}
use Rattle.tagged.specs.declared.words.Word.{Word}
use Rattle.promises.specs.Board.{Content, word_in, line_of}
use Rattle.promises.specs.Calls.{Call, issue, grant, give_back, snoop, settle, withdraw, evict, drain, look, save, tally}
use Rattle.promises.specs.Steps.{updated, gives_up}

-- what an accepted issue leaves under its number
pub record Note : Type 0 where
  pub core : ℕ
  pub operation : Operation
  pub word : ℕ
  pub value : ℕ

pub record TaggedMemory : Type 0 where
  pub word : ℕ → Word
  -- by request number: what was issued, and what the memory gave it as it was decided
  pub noted : ℕ → Option Note
  pub gave : ℕ → Option Served
  -- the numbers of the decided requests, the newest first
  pub decided : List ℕ

abbrev pub note : TaggedMemory → ℕ → Note → TaggedMemory
note m k x = record { word = m.word; noted = updated m.noted k (Some x); gave = m.gave; decided = m.decided }

-- the memory serves request k
abbrev pub serve_noted : TaggedMemory → ℕ → Option Note → TaggedMemory
serve_noted m k None = record { word = m.word; noted = m.noted; gave = m.gave; decided = k ∷ m.decided }
serve_noted m k (Some x) = record {
  word = updated m.word x.word (rule x.operation (m.word x.word) x.value).word;
  noted = m.noted;
  gave = updated m.gave k (Some (rule x.operation (m.word x.word) x.value));
  decided = k ∷ m.decided;
}

abbrev pub decide : TaggedMemory → ℕ → TaggedMemory
decide m k = serve_noted m k (m.noted k)

abbrev pub is_done : Outcome → Bool
is_done Done = true
is_done Discarded = false
is_done Trap = false
is_done Waits = false

-- a request is answered by outcomes 0, 1 and 2
abbrev pub is_answer : Outcome → Bool
is_answer Done = true
is_answer Discarded = true
is_answer Trap = true
is_answer Waits = false

abbrev pub noted_gives_up : Option Note → Bool
noted_gives_up None = false
noted_gives_up (Some x) = gives_up (class_of x.operation)

-- an issue notes the request and decides it if it answers it; a snoop of kind 3 decides a request that does not wait; a
-- settle that answers done decides its request; no other call changes a word
abbrev pub feed : TaggedMemory → Call → TaggedMemory
feed m (issue c k w v (Ok a)) =
    cond (is_answer a.outcome)
    (decide (note m a.number (record { core = c; operation = operation_coded k; word = w; value = v })) a.number)
    (note m a.number (record { core = c; operation = operation_coded k; word = w; value = v }))
feed m (issue c k w v (Err e)) = m
feed m (grant c a) = m
feed m (give_back slip a) = m
feed m (snoop slip (Ok x)) = cond (x.1.kind == 3 && noted_gives_up (m.noted slip.number)) (decide m slip.number) m
feed m (snoop slip (Err e)) = m
feed m (settle slip (Ok a)) = cond (is_done a.outcome) (decide m a.number) m
feed m (settle slip (Err e)) = m
feed m (withdraw k a) = m
feed m (evict c w a) = m
feed m (drain a) = m
feed m (look w a) = m
feed m (save before after a) = m
feed m (tally a) = m

abbrev pub one_memory : (ℕ → Content) → List Call → TaggedMemory
one_memory opening [] = record { word = λ w. word_in (opening (line_of w)) w; noted = λ k. None; gave = λ k. None; decided = [] }
one_memory opening (c ∷ h) = feed (one_memory opening h) c

-- line n of a memory that is given word by word
abbrev pub line_by_words : (ℕ → Word) → ℕ → Content
line_by_words word n = record { first = word (4 * n); second = word (4 * n + 1); third = word (4 * n + 2); fourth = word (4 * n + 3) }
