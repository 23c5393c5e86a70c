-- When a call is refused: the number whose condition holds and none before it. A refused call changes nothing.
use Rattle.std.specs.Prelude.{ℕ, ◌*◌, ◌^◌, Bool, true, false, cond, not, ◌&&◌, ◌||◌, List, [], ◌∷◌, length, is_some, Some, None, Ok, Err, Option, ◌==◌, nat_le, nat_lt}
use Rattle.memory.specs.Pictures.{picture_length}
use Rattle.protocol.specs.Rules.{Rules}
use Rattle.tagged.specs.declared.refusals.Refusal.{Refusal}
use Rattle.tagged.specs.declared.refusals.Refusal.TheVariants.{NoSuchCore, NoSuchOperation, WordNotServed, NumbersUsedUp, ListFull, BusGiven, NothingReady, NotThisTenure, NotWaiting, HasTheBus, LineNotKept, BusGivenForLine, NoRoomToSave}
use Rattle.promises.specs.Board.{Bus, free, granted, snooped, State, line_of, served_lines}
use Rattle.promises.specs.Calls.{Stage, to_snoop, to_settle, Slip, OrRefused}
use Rattle.promises.specs.Copies.{keeps, any_core}
use Rattle.promises.specs.Lists.{any_entry, numbered, oldest_ready}

-- numbers with their conditions, the smallest number first
abbrev pub Reasons : Type 0
Reasons = List (Refusal × Bool)

abbrev pub first_reason : Reasons → Option Refusal
first_reason [] = None
first_reason (reason ∷ more) = cond reason.1 (Some reason.0) (first_reason more)

abbrev pub reply_unless : {A : Type 0} → Option Refusal → A → OrRefused A
reply_unless None a = Ok a
reply_unless (Some e) a = Err e

abbrev pub after_unless : {A : Type 0} → Option Refusal → A → A → A
after_unless None before after = after
after_unless (Some e) before after = before

abbrev pub is_free : Bus → Bool
is_free free = true
is_free (granted t) = false
is_free (snooped t f) = false

-- the request number that has the bus is k
abbrev pub has_bus : Bus → ℕ → Bool
has_bus free k = false
has_bus (granted t) k = numbered k t.entry
has_bus (snooped t f) k = numbered k t.entry

-- the bus is given for line n
abbrev pub bus_on_line : Bus → ℕ → Bool
bus_on_line free n = false
bus_on_line (granted t) n = line_of t.entry.word == n
bus_on_line (snooped t f) n = line_of t.entry.word == n

abbrev pub same_stage : Stage → Stage → Bool
same_stage to_snoop to_snoop = true
same_stage to_snoop to_settle = false
same_stage to_settle to_snoop = false
same_stage to_settle to_settle = true

-- the bus is at this step, for request k
abbrev pub bus_at : Bus → Stage → ℕ → Bool
bus_at free stage k = false
bus_at (granted t) to_snoop k = numbered k t.entry
bus_at (granted t) to_settle k = false
bus_at (snooped t f) to_snoop k = false
bus_at (snooped t f) to_settle k = numbered k t.entry

-- the slip is for this step, and of the tenure that the bus has now
abbrev pub of_tenure : State → Slip → Stage → Bool
of_tenure s slip stage = same_stage slip.stage stage && (slip.board == s.setup.board && bus_at s.bus stage slip.number)

module _ (s : State) where
  abbrev not_on_board : ℕ → Refusal × Bool
  not_on_board c = (NoSuchCore, nat_le s.setup.cores c)

  abbrev not_served : ℕ → Refusal × Bool
  not_served w = (WordNotServed, nat_le (4 * served_lines s) w)

  -- the request would have to wait if `waits`
  abbrev pub issue_reasons : Bool → ℕ → ℕ → ℕ → Reasons
  issue_reasons waits c k w = not_on_board c ∷ (NoSuchOperation, nat_lt 16 k) ∷ not_served w ∷ (NumbersUsedUp, nat_le (2 ^ 32) s.next) ∷ (ListFull, waits && nat_le 8 (length (s.waiting c))) ∷ []

  abbrev pub grant_reasons : ℕ → Reasons
  grant_reasons c = not_on_board c ∷ (BusGiven, not (is_free s.bus)) ∷ (NothingReady, not (is_some (oldest_ready [] (s.waiting c)))) ∷ []

  -- for give_back and snoop a slip to snoop with, for settle a slip to settle with
  abbrev pub slip_reasons : Slip → Stage → Reasons
  slip_reasons slip stage = (NotThisTenure, not (of_tenure s slip stage)) ∷ []

  abbrev pub withdraw_reasons : ℕ → Reasons
  withdraw_reasons k = (NotWaiting, not (any_core (λ c. any_entry (numbered k) (s.waiting c)))) ∷ (HasTheBus, has_bus s.bus k) ∷ []

  abbrev pub evict_reasons : Rules → ℕ → ℕ → Reasons
  evict_reasons r c w = not_on_board c ∷ not_served w ∷ (LineNotKept, not (keeps r s c (line_of w))) ∷ (BusGivenForLine, bus_on_line s.bus (line_of w)) ∷ []

  abbrev pub drain_reasons : Reasons
  drain_reasons = (BusGiven, not (is_free s.bus)) ∷ []

  abbrev pub look_reasons : ℕ → Reasons
  look_reasons w = not_served w ∷ []

  -- by the length of the buffer
  abbrev pub save_reasons : ℕ → Reasons
  save_reasons n = (NoRoomToSave, (served_lines s == 0) || nat_lt n (picture_length (served_lines s))) ∷ []
