-- What each call answers and changes.
use Rattle.std.specs.Prelude.{◌≡◌, ℕ, ◌+◌, Bool, true, false, cond, not, ◌&&◌, ◌||◌, List, [], ◌∷◌, ◌++◌, map, length, drop, Some, None, count_by, Option, ◌==◌}
use Rattle.std.specs.List.{range_with_len}
use Rattle.memory.specs.Pictures.{picture, picture_length}
use Rattle.protocol.specs.Rules.{Rules}
use Rattle.tagged.specs.Operations.{class_of, claims, operation_coded}
use Rattle.tagged.specs.Rule.{met, rule, done_by, unmet_outcome, unmet_found}
use Rattle.tagged.specs.declared.answers.Answer.{Answer}
use Rattle.tagged.specs.declared.answers.Outcome.{Outcome}
use Rattle.tagged.specs.declared.answers.Outcome.TheVariants.{Done, Discarded, Trap, Waits}
use Rattle.tagged.specs.declared.operations.Class.{Class}
use Rattle.tagged.specs.declared.operations.Class.TheVariants.{Unconditional, Waiting, NonFaulting, Trapping}
use Rattle.tagged.specs.declared.operations.Operation.{Operation}
use Rattle.tagged.specs.declared.refusals.Refusal.{Refusal}
use Rattle.tagged.specs.declared.rule.Served.{Served}
use Rattle.tagged.specs.declared.words.Line.{Line}
use Rattle.tagged.specs.declared.words.Word.{Word}
use Rattle.tagged.specs.declared.words.WordState.{WordState}
use Rattle.tagged.specs.declared.words.WordState.TheVariants.{Empty}
use Rattle.promises.specs.Board.{Content, word_in, with_word_in, Entry, Frame, Tenure, Found, own_copy, read_in, claimed, unmet, Bus, free, granted, snooped, Counts, State, line_of, frame_of, served_lines}
use Rattle.promises.specs.Calls.{to_snoop, to_settle, Slip, SnoopReport, Tally, OrRefused, Call, issue, grant, give_back, snoop, settle, withdraw, evict, drain, look, save, tally}
use Rattle.promises.specs.Copies.{copy, keeps, owes, others_keep, lowest, core_bits, any_core, over_cores, supplier, supplied, stands}
use Rattle.promises.specs.Lists.{on_word, any_entry, numbered, without, put_to_sleep, oldest_ready, wakes, wake, woken}
use Rattle.promises.specs.Refusing.{first_reason, reply_unless, after_unless, issue_reasons, grant_reasons, slip_reasons, withdraw_reasons, evict_reasons, drain_reasons, look_reasons, save_reasons}

-- two states that agree place by place
pub record Agree (s t : State) : Type 0 where
  pub setup : s.setup ≡ t.setup
  pub next : s.next ≡ t.next
  pub counts : s.counts ≡ t.counts
  pub frame : (c i : ℕ) → s.frame c i ≡ t.frame c i
  pub waiting : (c : ℕ) → s.waiting c ≡ t.waiting c
  pub bus : s.bus ≡ t.bus
  pub memory : (n : ℕ) → s.memory n ≡ t.memory n

abbrev pub updated : {A : Type 0} → (ℕ → A) → ℕ → A → ℕ → A
updated f k x j = cond (j == k) x (f j)

abbrev pub updated_frame : (ℕ → ℕ → Frame) → ℕ → ℕ → Frame → ℕ → ℕ → Frame
updated_frame f c i x d j = cond (d == c && j == i) x (f d j)

abbrev pub count_outcome : Outcome → Counts → Counts
count_outcome Done n = record { accepted = n.accepted; done = n.done + 1; discarded = n.discarded; trapped = n.trapped; withdrawn = n.withdrawn }
count_outcome Discarded n = record { accepted = n.accepted; done = n.done; discarded = n.discarded + 1; trapped = n.trapped; withdrawn = n.withdrawn }
count_outcome Trap n = record { accepted = n.accepted; done = n.done; discarded = n.discarded; trapped = n.trapped + 1; withdrawn = n.withdrawn }
count_outcome Waits n = n

abbrev pub count_accepted : Counts → Counts
count_accepted n = record { accepted = n.accepted + 1; done = n.done; discarded = n.discarded; trapped = n.trapped; withdrawn = n.withdrawn }

abbrev pub count_withdrawn : Counts → Counts
count_withdrawn n = record { accepted = n.accepted; done = n.done; discarded = n.discarded; trapped = n.trapped; withdrawn = n.withdrawn + 1 }

-- the classes that do not wait
abbrev pub gives_up : Class → Bool
gives_up Unconditional = false
gives_up Waiting = false
gives_up NonFaulting = true
gives_up Trapping = true

abbrev pub waits : Class → Bool
waits Unconditional = false
waits Waiting = true
waits NonFaulting = false
waits Trapping = false

-- an answer to request k that is not done
abbrev pub answer_undone : ℕ → Outcome → WordState → Answer
answer_undone k o found = record { number = k; outcome = o; value = 0; found = found; notice = None; woken = 0 }

-- an answer that tells what was served
abbrev pub answer_served : ℕ → Served → ℕ → Answer
answer_served k x woken = record { number = k; outcome = x.outcome; value = x.value; found = x.found; notice = x.notice; woken = woken }

-- issue: core, operation, word, value
module _ (r : Rules) (s : State) (c : ℕ) (o : Operation) (w v : ℕ) where
  abbrev pub own : Frame
  own = copy s c (line_of w)

  abbrev pub own_word : Word
  own_word = word_in own.content w

  abbrev pub own_met : Bool
  own_met = met o own_word.state

  -- the core keeps the line and has no earlier request on the word
  abbrev pub in_reach : Bool
  in_reach = not (any_entry (on_word w) (s.waiting c)) && keeps r s c (line_of w)

  -- answered at once: met on a copy that may be used so, or unmet in a class that does not wait
  abbrev pub answers_now : Bool
  answers_now = in_reach && cond own_met (not (claims o) || r.sole own.code) (gives_up (class_of o))

  abbrev pub issue_served : Served
  issue_served = rule o own_word v

  abbrev pub issue_now : State
  issue_now = record {
    setup = s.setup;
    next = s.next + 1;
    counts = count_outcome issue_served.outcome (count_accepted s.counts);
    frame = updated_frame s.frame c (frame_of (line_of w)) (record { code = cond (own_met && claims o) r.own_claim own.code; line = own.line; content = with_word_in own.content w issue_served.word });
    waiting = λ d. map (wake issue_served.notice w) (s.waiting d);
    bus = s.bus;
    memory = s.memory;
  }

  -- put at the list's end, asleep if the own copy shows that the condition is unmet
  abbrev pub issue_later : State
  issue_later = record {
    setup = s.setup;
    next = s.next + 1;
    counts = count_accepted s.counts;
    frame = s.frame;
    waiting = updated s.waiting c (s.waiting c ++ record { number = s.next; operation = o; word = w; value = v; asleep = in_reach && not own_met } ∷ []);
    bus = s.bus;
    memory = s.memory;
  }

  abbrev pub issue_answer : Answer
  issue_answer = cond answers_now (answer_served s.next issue_served (woken s issue_served.notice w)) (answer_undone s.next Waits Empty)

module _ (r : Rules) (s : State) (c k w v : ℕ) where
  abbrev pub issue_refusal : Option Refusal
  issue_refusal = first_reason (issue_reasons s (not (answers_now r s c (operation_coded k) w v)) c k w)

  abbrev pub issue_reply : OrRefused Answer
  issue_reply = reply_unless issue_refusal (issue_answer r s c (operation_coded k) w v)

  abbrev pub issue_after : State
  issue_after = after_unless issue_refusal s (cond (answers_now r s c (operation_coded k) w v) (issue_now r s c (operation_coded k) w v) (issue_later r s c (operation_coded k) w v))

-- the same board with another bus
abbrev pub with_bus : State → Bus → State
with_bus s b = record { setup = s.setup; next = s.next; counts = s.counts; frame = s.frame; waiting = s.waiting; bus = b; memory = s.memory }

-- grant: the core's oldest ready request gets the bus
module _ (s : State) (c : ℕ) where
  abbrev pub grant_slip : Option Entry → Slip
  grant_slip None = record { board = s.setup.board; number = 0; stage = to_snoop }
  grant_slip (Some e) = record { board = s.setup.board; number = e.number; stage = to_snoop }

  abbrev pub grant_bus : Option Entry → Bus
  grant_bus None = free
  grant_bus (Some e) = granted (record { core = c; entry = e })

  abbrev pub grant_reply : OrRefused Slip
  grant_reply = reply_unless (first_reason (grant_reasons s c)) (grant_slip (oldest_ready [] (s.waiting c)))

  abbrev pub grant_after : State
  grant_after = after_unless (first_reason (grant_reasons s c)) s (with_bus s (grant_bus (oldest_ready [] (s.waiting c))))

-- give_back: the bus is free again
abbrev pub give_back_reply : State → Slip → OrRefused (Unit {0})
give_back_reply s slip = reply_unless (first_reason (slip_reasons s slip to_snoop)) tt

abbrev pub give_back_after : State → Slip → State
give_back_after s slip = after_unless (first_reason (slip_reasons s slip to_snoop)) s (with_bus s free)

-- snoop, in its four kinds
module _ (r : Rules) (s : State) (t : Tenure) where
  abbrev pub asked : Operation
  asked = t.entry.operation

  abbrev pub asked_line : ℕ
  asked_line = line_of t.entry.word

  -- the word as it stands
  abbrev pub snoop_word : Word
  snoop_word = word_in (stands r s asked_line) t.entry.word

  abbrev pub snoop_met : Bool
  snoop_met = met asked snoop_word.state

  abbrev pub own_suffices : Bool
  own_suffices = keeps r s t.core asked_line && (not (claims asked) || r.sole (copy s t.core asked_line).code)

  -- the line is fetched over the bus: kinds 1 and 2
  abbrev pub fetches : Bool
  fetches = snoop_met && not own_suffices

  abbrev pub snoop_found : Found
  snoop_found = cond snoop_met (cond own_suffices own_copy (cond (claims asked) (claimed (supplied r s asked_line (s.memory asked_line))) (read_in (any_core (others_keep r s t.core asked_line)) (supplied r s asked_line (s.memory asked_line))))) (unmet (unmet_outcome (class_of asked)) (unmet_found (class_of asked) snoop_word.state))

  abbrev pub snoop_kind : ℕ
  snoop_kind = cond snoop_met (cond own_suffices 0 (cond (claims asked) 2 1)) 3

  abbrev pub snoop_report : SnoopReport
  snoop_report = record { kind = snoop_kind; keepers = core_bits (λ d. keeps r s d asked_line); met = snoop_met; supplier = cond fetches (supplier r s asked_line) 9 }

  -- another cache's copy after it heard of the read or the claim
  abbrev pub moved : Frame → Frame
  moved f = record { code = cond (claims asked) (r.after_claim f.code) (r.after_read f.code); line = f.line; content = f.content }

  -- in a read, another's copy that owed and owes no more
  abbrev pub pays : ℕ → Bool
  pays d = others_keep r s t.core asked_line d && (r.owing (copy s d asked_line).code && not (r.owing (r.after_read (copy s d asked_line).code)))

  abbrev pub snoop_state : State
  snoop_state = record {
    setup = s.setup;
    next = s.next;
    counts = s.counts;
    frame = λ d i. cond (fetches && (i == frame_of asked_line && others_keep r s t.core asked_line d)) (moved (s.frame d i)) (s.frame d i);
    waiting = cond (not snoop_met && waits (class_of asked)) (updated s.waiting t.core (put_to_sleep t.entry.number (s.waiting t.core))) s.waiting;
    bus = snooped t snoop_found;
    memory = cond (fetches && (not (claims asked) && any_core pays)) (updated s.memory asked_line (copy s (lowest pays) asked_line).content) s.memory;
  }

module _ (r : Rules) (s : State) (slip : Slip) where
  abbrev pub snoop_on : Bus → OrRefused (Slip × SnoopReport)
  snoop_on free = reply_unless (first_reason (slip_reasons s slip to_snoop)) (record { board = s.setup.board; number = 0; stage = to_settle }, record { kind = 3; keepers = 0; met = false; supplier = 9 })
  snoop_on (granted t) = reply_unless (first_reason (slip_reasons s slip to_snoop)) (record { board = s.setup.board; number = t.entry.number; stage = to_settle }, snoop_report r s t)
  snoop_on (snooped t f) = reply_unless (first_reason (slip_reasons s slip to_snoop)) (record { board = s.setup.board; number = 0; stage = to_settle }, record { kind = 3; keepers = 0; met = false; supplier = 9 })

  abbrev pub snoop_to : Bus → State
  snoop_to free = s
  snoop_to (granted t) = after_unless (first_reason (slip_reasons s slip to_snoop)) s (snoop_state r s t)
  snoop_to (snooped t f) = s

  abbrev pub snoop_reply : OrRefused (Slip × SnoopReport)
  snoop_reply = snoop_on s.bus

  abbrev pub snoop_after : State
  snoop_after = snoop_to s.bus

-- settle, after a snoop of kinds 0 to 2: `before` is the line as it was, `code` what its copy would have without a claim
module _ (r : Rules) (s : State) (t : Tenure) (before : Content) (line code : ℕ) (memory : ℕ → Content) where
  abbrev pub settle_done : Served
  settle_done = done_by t.entry.operation (word_in before t.entry.word) t.entry.value

  -- the lists without the request that is answered
  abbrev pub rest : ℕ → List Entry
  rest = updated s.waiting t.core (without t.entry.number (s.waiting t.core))

  abbrev pub settled_answer : Answer
  settled_answer = answer_served t.entry.number settle_done (over_cores (λ d. count_by (wakes settle_done.notice t.entry.word) (rest d)))

  abbrev pub settled_state : State
  settled_state = record {
    setup = s.setup;
    next = s.next;
    counts = count_outcome Done s.counts;
    frame = updated_frame s.frame t.core (frame_of (line_of t.entry.word)) (record { code = cond (claims t.entry.operation) r.own_claim code; line = line; content = with_word_in before t.entry.word settle_done.word });
    waiting = λ d. map (wake settle_done.notice t.entry.word) (rest d);
    bus = free;
    memory = memory;
  }

-- another line in the frame goes first, written to memory if owing
module _ (r : Rules) (s : State) (t : Tenure) where
  abbrev pub victim : Frame
  victim = copy s t.core (line_of t.entry.word)

  abbrev pub victim_owes : Bool
  victim_owes = not (victim.line == line_of t.entry.word) && (r.kept victim.code && r.owing victim.code)

  abbrev pub memory_without_victim : ℕ → Content
  memory_without_victim = cond victim_owes (updated s.memory victim.line victim.content) s.memory

-- settle, after a snoop of kind 3
module _ (s : State) (t : Tenure) (o : Outcome) where
  abbrev pub is_waits : Outcome → Bool
  is_waits Done = false
  is_waits Discarded = false
  is_waits Trap = false
  is_waits Waits = true

  abbrev pub unmet_state : State
  unmet_state = record {
    setup = s.setup;
    next = s.next;
    counts = count_outcome o s.counts;
    frame = s.frame;
    waiting = cond (is_waits o) s.waiting (updated s.waiting t.core (without t.entry.number (s.waiting t.core)));
    bus = free;
    memory = s.memory;
  }

module _ (r : Rules) (s : State) where
  abbrev pub settle_answer : Tenure → Found → Answer
  settle_answer t own_copy = settled_answer r s t (copy s t.core (line_of t.entry.word)).content 0 0 s.memory
  settle_answer t (read_in shared f) = settled_answer r s t f 0 0 s.memory
  settle_answer t (claimed f) = settled_answer r s t f 0 0 s.memory
  settle_answer t (unmet o found) = answer_undone t.entry.number o found

  abbrev pub settle_state : Tenure → Found → State
  settle_state t own_copy = settled_state r s t (victim r s t).content (victim r s t).line (victim r s t).code s.memory
  settle_state t (read_in shared f) = settled_state r s t f (line_of t.entry.word) (r.read_fill shared) (memory_without_victim r s t)
  settle_state t (claimed f) = settled_state r s t f (line_of t.entry.word) r.own_claim (memory_without_victim r s t)
  settle_state t (unmet o found) = unmet_state s t o

module _ (r : Rules) (s : State) (slip : Slip) where
  abbrev pub settle_on : Bus → OrRefused Answer
  settle_on free = reply_unless (first_reason (slip_reasons s slip to_settle)) (answer_undone 0 Waits Empty)
  settle_on (granted t) = reply_unless (first_reason (slip_reasons s slip to_settle)) (answer_undone 0 Waits Empty)
  settle_on (snooped t f) = reply_unless (first_reason (slip_reasons s slip to_settle)) (settle_answer r s t f)

  abbrev pub settle_to : Bus → State
  settle_to free = s
  settle_to (granted t) = s
  settle_to (snooped t f) = after_unless (first_reason (slip_reasons s slip to_settle)) s (settle_state r s t f)

  abbrev pub settle_reply : OrRefused Answer
  settle_reply = settle_on s.bus

  abbrev pub settle_after : State
  settle_after = settle_to s.bus

-- withdraw: the entry leaves the list of the lowest core that has it
module _ (s : State) (k : ℕ) where
  abbrev pub holder : ℕ
  holder = lowest (λ c. any_entry (numbered k) (s.waiting c))

  abbrev pub withdraw_reply : OrRefused (Unit {0})
  withdraw_reply = reply_unless (first_reason (withdraw_reasons s k)) tt

  abbrev pub withdrawn_state : State
  withdrawn_state = record {
    setup = s.setup;
    next = s.next;
    counts = count_withdrawn s.counts;
    frame = s.frame;
    waiting = updated s.waiting holder (without k (s.waiting holder));
    bus = s.bus;
    memory = s.memory;
  }

  abbrev pub withdraw_after : State
  withdraw_after = after_unless (first_reason (withdraw_reasons s k)) s withdrawn_state

-- a frame whose copy is dropped
abbrev pub dropped : Frame → Frame
dropped f = record { code = 0; line = f.line; content = f.content }

-- evict: one copy is dropped, written first if owing
module _ (r : Rules) (s : State) (c w : ℕ) where
  abbrev pub evict_reply : OrRefused (Unit {0})
  evict_reply = reply_unless (first_reason (evict_reasons s r c w)) tt

  abbrev pub evicted_state : State
  evicted_state = record {
    setup = s.setup;
    next = s.next;
    counts = s.counts;
    frame = updated_frame s.frame c (frame_of (line_of w)) (dropped (copy s c (line_of w)));
    waiting = s.waiting;
    bus = s.bus;
    memory = cond (r.owing (copy s c (line_of w)).code) (updated s.memory (line_of w) (copy s c (line_of w)).content) s.memory;
  }

  abbrev pub evict_after : State
  evict_after = after_unless (first_reason (evict_reasons s r c w)) s evicted_state

-- drain: every copy is dropped; of several owing copies of a line the lowest core's is written
module _ (r : Rules) (s : State) where
  abbrev pub drain_reply : OrRefused (Unit {0})
  drain_reply = reply_unless (first_reason (drain_reasons s)) tt

  abbrev pub drained_state : State
  drained_state = record {
    setup = s.setup;
    next = s.next;
    counts = s.counts;
    frame = λ c i. dropped (s.frame c i);
    waiting = s.waiting;
    bus = s.bus;
    memory = λ n. cond (any_core (λ c. owes r s c n)) (copy s (lowest (λ c. owes r s c n)) n).content (s.memory n);
  }

  abbrev pub drain_after : State
  drain_after = after_unless (first_reason (drain_reasons s)) s drained_state

  -- look shows the word as it stands
  abbrev pub look_reply : ℕ → OrRefused Word
  look_reply w = reply_unless (first_reason (look_reasons s w)) (word_in (stands r s (line_of w)) w)

-- a line as the memory's picture has it
abbrev pub as_line : Content → Line
as_line f = record {
  values = f.first.value ∷ f.second.value ∷ f.third.value ∷ f.fourth.value ∷ [];
  states = f.first.state ∷ f.second.state ∷ f.third.state ∷ f.fourth.state ∷ [];
}

-- the picture of the first n lines
abbrev pub picture_of : ℕ → (ℕ → Content) → List ℕ
picture_of n line = picture (map (λ m. as_line (line m)) (range_with_len 0 n))

-- save writes the served lines as they stand at the buffer's start
module _ (r : Rules) (s : State) (before : List ℕ) where
  abbrev pub save_reply : OrRefused ℕ
  save_reply = reply_unless (first_reason (save_reasons s (length before))) (picture_length (served_lines s))

  abbrev pub save_buffer : List ℕ
  save_buffer = after_unless (first_reason (save_reasons s (length before))) before (picture_of (served_lines s) (stands r s) ++ drop (picture_length (served_lines s)) before)

abbrev pub tally_reply : State → Tally
tally_reply s = record {
  accepted = s.counts.accepted;
  done = s.counts.done;
  discarded = s.counts.discarded;
  trapped = s.counts.trapped;
  withdrawn = s.counts.withdrawn;
  waiting = over_cores (λ c. length (s.waiting c));
}

-- the call on a board in state s answers so and leaves it in state t
abbrev pub Step : Rules → State → Call → State → Type 0
Step r s (issue c k w v a) t = (a ≡ issue_reply r s c k w v) × Agree t (issue_after r s c k w v)
Step r s (grant c a) t = (a ≡ grant_reply s c) × Agree t (grant_after s c)
Step r s (give_back slip a) t = (a ≡ give_back_reply s slip) × Agree t (give_back_after s slip)
Step r s (snoop slip a) t = (a ≡ snoop_reply r s slip) × Agree t (snoop_after r s slip)
Step r s (settle slip a) t = (a ≡ settle_reply r s slip) × Agree t (settle_after r s slip)
Step r s (withdraw k a) t = (a ≡ withdraw_reply s k) × Agree t (withdraw_after s k)
Step r s (evict c w a) t = (a ≡ evict_reply r s c w) × Agree t (evict_after r s c w)
Step r s (drain a) t = (a ≡ drain_reply r s) × Agree t (drain_after r s)
Step r s (look w a) t = (a ≡ look_reply r s w) × Agree t s
Step r s (save before after a) t = (a ≡ save_reply r s before) × (after ≡ save_buffer r s before) × Agree t s
Step r s (tally a) t = (a ≡ tally_reply s) × Agree t s
